pub mod SizeTable
pub mod Packets
pub mod Answers
pub mod Cases
pub mod Sensors
