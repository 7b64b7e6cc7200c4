pub mod RefusalLaws
pub mod StepLaws
pub mod PlaceLaws
pub mod ReplyLaws
pub mod CallLaws
pub mod RequestLaws
pub mod OneAnswer
