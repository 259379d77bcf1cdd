pub mod RoundingLaws
pub mod OrdersLaws
pub mod StageProved
