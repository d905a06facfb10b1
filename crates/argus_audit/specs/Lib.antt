pub mod Places
pub mod Retracing
pub mod Writes
pub mod Audit
