pub mod Toy
pub mod Laws
pub mod Clerks
pub mod Solo
pub mod SoloLaws
pub mod SoloClerks
