pub mod Genome
pub mod GenomeText
pub mod Lengths
