-- Bytes put into a buffer, and rows of numbers. Definitions only.
use Rattle.std.specs.Prelude.{ℕ, ◌+◌, ◌^◌, ◌≤◌, ◌<◌, List, [], ◌∷◌, ◌++◌, ◌≡◌, length, take, drop}
use Rattle.rows.specs.Layouts.{spell}

-- t stands in the buffer from `at` up to r, and the rest of it is as before
pub record Put (before : List ℕ) (at : ℕ) (t now : List ℕ) (r : ℕ) : Type 0 where
  pub ends : r ≡ at + length t
  pub within : r ≤ length before
  pub is : now ≡ take at before ++ (t ++ drop r before)

-- each has 64 bits
abbrev pub Small : List ℕ → Type 0
Small [] = Unit {0}
Small (n ∷ row) = (n < 2 ^ 64) × Small row

-- the bytes of a row stand there
pub record PutRow (before : List ℕ) (at : ℕ) (row now : List ℕ) (r : ℕ) : Type 0 where
  pub put : Put before at (spell row) now r
  pub small : Small row
