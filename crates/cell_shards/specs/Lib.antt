-- In the order of reading: how cells are cut into shards, live there, and what all shards leave.
pub mod Shards
pub mod CellLives
pub mod Finishing
