pub mod Deque
pub mod Parts
pub mod Rest
pub mod Hand
pub mod Pool
