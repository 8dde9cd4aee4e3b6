pub mod CallLemmas
pub mod Fits
pub mod Heights
pub mod Joined
pub mod Lists
pub mod Marks
pub mod SignLemmas
