-- What the contracts of `brent` cite, the method with the Rust's evaluations, what is promised of its history, and the words of its laws.
pub mod Brent
pub mod BrentRust
pub mod BrentEvents
pub mod BrentSamples
