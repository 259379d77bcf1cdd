pub mod StateLaws
pub mod AcceptedLaws
pub mod PartsLaws
pub mod KeepingLaws
pub mod SameLaws
pub mod RecordProved
