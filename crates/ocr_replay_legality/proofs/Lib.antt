pub mod Goes
pub mod CallTests
pub mod Asks
pub mod Numbers
