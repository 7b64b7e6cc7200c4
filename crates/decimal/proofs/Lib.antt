pub mod FigureLaws
pub mod DecimalLaws
mod LeftLaws
mod DoneLaws
