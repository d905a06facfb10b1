mod Places
mod Retraced
mod Owners
mod Visits
mod Linked
