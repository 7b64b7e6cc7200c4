pub mod ClockLaws
pub mod OneAnswer
