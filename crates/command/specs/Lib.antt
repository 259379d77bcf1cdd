pub mod Layout
pub mod CommandTable
pub mod Cases
pub mod Commands
pub mod Fields
