-- What the contracts of `regula_falsi` cite, what is promised of its history, and the words of its laws.
pub mod RegulaFalsi
pub mod RegulaFalsiEvents
pub mod RegulaFalsiWeights
pub mod RegulaFalsiMarks
