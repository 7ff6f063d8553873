-- What the contracts of `simple_convergency` cite, and what its laws speak of.
pub mod Stop
pub mod StopLaws
