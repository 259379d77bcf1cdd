pub mod FrameTableLaws
pub mod PushLaws
pub mod ReachLaws
pub mod AbsorbLaws
pub mod StoredLaws
pub mod Reached
pub mod RunTableLaws
pub mod CutProved
