-- The words of the theorems in proofs/.
pub mod One
