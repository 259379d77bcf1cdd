pub mod FrameTable
pub mod Push
pub mod Reach
pub mod Absorb
pub mod RunTable
pub mod Cases
pub mod Cut
