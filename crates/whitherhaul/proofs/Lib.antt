pub mod ReplicaLaws
pub mod ClientLaws
pub mod SufficeLaws
pub mod ReplyLaws
pub mod DemandLaws
pub mod BackedLaws
pub mod OneAnswer
pub mod ClientDemands
