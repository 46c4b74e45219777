pub mod SinkChanges
pub mod WrittenText
pub mod NumberText
