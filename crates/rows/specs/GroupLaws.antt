-- Numbers that k groups and one more can hold, and the bytes that spell one. Definitions only.
use Rattle.std.specs.Prelude.{ℕ, ◌*◌, ◌^◌, ◌<◌, List, ◌++◌, ◌≡◌}
use Rattle.rows.specs.Groups.{groups_in}

abbrev pub limit_in : ℕ → ℕ
limit_in k = 2 * 128 ^ k

pub record Spelled (k : ℕ) (s : List ℕ) (n : ℕ) (t : List ℕ) : Type 0 where
  pub holds : n < limit_in k
  pub is : s ≡ groups_in k n ++ t
