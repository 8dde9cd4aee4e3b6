pub mod Source
pub mod MemorySource
pub mod MemorySink
pub mod Messages
