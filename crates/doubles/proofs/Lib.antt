-- Laws that belong to no one function.
pub mod Patterns
pub mod Compare
pub mod Number
pub mod Pairs
pub mod Signs
pub mod Products
pub mod Sizes
pub mod Sums
pub mod Examples
