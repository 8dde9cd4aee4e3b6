pub mod Answered
pub mod Carried
pub mod Coded
pub mod Created
pub mod Drawn
pub mod Makes
pub mod Printed
