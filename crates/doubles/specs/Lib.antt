-- What the contracts of `doubles` cite, and the words of the laws of comparison, order numbers and pairs; the laws stand in proofs/ under the same names.
pub mod Doubles
pub mod Compare
pub mod Number
pub mod Pairs
pub mod Products
pub mod Sizes
pub mod Sums
