pub mod Prelude
mod ShardLemmas
mod PartLemmas
mod LivesLemmas
mod InterningLemmas
mod FinishLemmas
mod PoolLemmas
