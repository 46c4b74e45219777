pub mod LogicTasks
pub mod TaskBitsLaws
pub mod Inputs
