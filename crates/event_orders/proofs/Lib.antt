pub mod Prelude
mod Members
mod Everyone
mod Results
mod Banked
mod Pictures
mod Between
mod Looks
mod Going
mod Serial
mod Pairs
mod Marks
mod LeftPairs
mod Explained
mod AllLive
mod Interleaving
