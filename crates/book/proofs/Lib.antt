pub mod LogLaws
pub mod FirstLaws
pub mod RunLaws
pub mod EntryRules
