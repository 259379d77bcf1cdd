pub mod State
pub mod Accepted
pub mod Same
pub mod Cases
pub mod Record
