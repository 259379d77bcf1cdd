pub mod VariantLaws
pub mod LayoutLaws
pub mod CommandTableLaws
pub mod FitLaws
pub mod RoundTripLaws
pub mod CommandsProved
pub mod FieldsProved
