pub mod AnyEvent
