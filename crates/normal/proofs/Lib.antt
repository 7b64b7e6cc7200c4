pub mod SendLaws
pub mod CommitLaws
pub mod PrepareLaws
pub mod PrepareOkLaws
pub mod CountLaws
pub mod RequestLaws
pub mod TickLaws
pub mod RequestLift
pub mod PrepareLift
pub mod PrepareOkLift
pub mod PrimaryTickLift
pub mod NormalStays
pub mod NormalRuled
pub mod RefusedNormal
pub mod NormalSuffices
pub mod NormalReplies
mod VerdictLaws
