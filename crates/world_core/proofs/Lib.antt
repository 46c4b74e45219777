pub mod Prelude
pub mod ScanLemmas
pub mod BoundedCells
mod ComingLemmas
mod LifeLemmas
mod CountLemmas
mod TurnLemmas
mod CellTableLemmas
mod ShardLemmas
mod BurialLemmas
mod BoundLemmas
mod JoinLemmas
mod TwoShardLemmas
mod CutLemmas
mod BirthLemmas
mod GrowLemmas
mod LivedLemmas
mod BirthOrderLemmas
mod LoadLemmas
mod ShareLemmas
mod SettingsLemmas
mod UpdateLemmas
mod WorldLemmas
mod ResumeLemmas
mod BuildLemmas
mod StandingLemmas
mod ChangeLemmas
mod KeptOfLemmas
mod StatLemmas
mod SumLemmas
mod IdLemmas
mod EventLemmas
mod GenotypeLemmas
