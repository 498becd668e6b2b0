pub mod Below
pub mod ByNearest
mod ChunkJobs
mod ChunkSizes
mod Chunks
pub mod Climbing
pub mod Enclosing
mod InnerEntries
pub mod Laid
pub mod LawfulRows
mod LoopLaw
pub mod Nests
pub mod RowRead
