pub mod SizeTableLaws
pub mod PacketsLaws
pub mod AnswersLaws
pub mod SensorsProved
