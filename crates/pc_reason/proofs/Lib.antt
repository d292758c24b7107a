pub mod WrittenLemmas
pub mod RangeLemmas
