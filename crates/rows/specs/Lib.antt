-- Numbers in groups of seven bits, and rows of numbers by their layout.
pub mod Groups
pub mod Layouts
-- what proofs cite
pub mod GroupLaws
pub mod LayoutLaws
pub mod TakeLaws
pub mod Puts
pub mod PutLaws
pub mod Reasons
