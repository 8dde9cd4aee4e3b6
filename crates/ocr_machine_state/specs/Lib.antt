pub mod Sets
pub mod State
