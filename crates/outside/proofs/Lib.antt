pub mod SoundLaws
pub mod CallLaws
pub mod CheckedLaws
pub mod CreateLaws
