pub mod Laws
pub mod Order
pub mod Outcomes
pub mod RunCheck
pub mod State
