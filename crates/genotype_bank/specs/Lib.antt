pub mod BankHistory
pub mod Packing
pub mod BankTable
pub mod Views
pub mod BankSteps
