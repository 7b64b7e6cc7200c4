pub mod AppendedLaws
