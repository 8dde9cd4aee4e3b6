mod Logs
mod Swapped
