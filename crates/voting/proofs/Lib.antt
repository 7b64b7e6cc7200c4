pub mod VoteLaws
pub mod TickLaws
pub mod VoteLift
pub mod VoteRuled
pub mod RefusedVote
pub mod VoteStays
pub mod VoteSuffices
pub mod VoteReplies
