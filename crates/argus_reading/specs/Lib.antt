pub mod Farther
pub mod Combined
pub mod Operations
pub mod Replies
pub mod Calls
pub mod Line
pub mod Laws
pub mod OpeningLanguages
