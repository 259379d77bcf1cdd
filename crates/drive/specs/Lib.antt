pub mod Rounding
pub mod Orders
pub mod Cases
pub mod Stage
