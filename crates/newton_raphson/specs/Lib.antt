-- What the contracts of `newton_raphson` cite, and what is promised of its history.
pub mod NewtonRaphson
pub mod NewtonRaphsonEvents
