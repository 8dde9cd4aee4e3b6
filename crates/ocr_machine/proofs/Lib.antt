pub mod Accepted
pub mod Arguments
pub mod Footprints
