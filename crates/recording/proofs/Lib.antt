pub mod FoundLaws
pub mod ParseLaws
pub mod RecordingsProved
pub mod ReplayProved
pub mod AnsweredProved
pub mod GoingLaws
pub mod ShownProved
