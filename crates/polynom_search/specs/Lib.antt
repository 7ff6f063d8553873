-- What the contracts of `polynom_search` cite, and what is promised of its history.
pub mod PolynomSearch
pub mod PolynomSearchEvents
