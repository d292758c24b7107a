pub mod Taking
pub mod EventLemmas
pub mod RunLemmas
pub mod Dids
pub mod Rans
pub mod InputRuns
