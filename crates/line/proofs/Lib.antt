pub mod TextLaws
pub mod LinesProved
