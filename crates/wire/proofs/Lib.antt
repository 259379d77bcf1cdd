pub mod BoolLaws
pub mod ListsLaws
pub mod MatchLaws
pub mod IntLaws
pub mod SignedLaws
pub mod SixteenLaws
pub mod BufferLaws
pub mod RepliesLaws
