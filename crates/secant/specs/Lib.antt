-- What the contracts of `secant` cite, and what is promised of its history.
pub mod Secant
pub mod SecantEvents
