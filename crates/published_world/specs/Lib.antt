pub mod PublicationHistory
pub mod Rule
