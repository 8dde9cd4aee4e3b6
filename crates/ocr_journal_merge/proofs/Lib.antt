pub mod Numbers
mod Takes
mod Whole
