mod KeyLemmas
pub mod PoolLemmas
pub mod RegionLemmas
