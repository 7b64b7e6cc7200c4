pub mod EntryLaws
pub mod RisingLaws
pub mod ChainLaws
pub mod PairLaws
pub mod PlaceLaws
pub mod SendableLaws
