pub mod LengthLaws
pub mod SoundLaws
pub mod OutcomeLaws
