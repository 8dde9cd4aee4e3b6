pub mod All
pub mod AtHand
