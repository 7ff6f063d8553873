-- What a layout reads was written so. Definitions only.
use Rattle.std.specs.Prelude.{ℕ, ◌≡◌}
use mathlib.Core.List.{List, ◌++◌}
use Rattle.rows.specs.Layouts.{Layout, spell, Row}

module _ {A : Type 0} where
  pub record Written (a : Layout A) (s : List ℕ) (x : A) (t : List ℕ) : Type 0 where
    pub numbers : List ℕ
    pub row : Row a numbers x
    pub is : s ≡ spell numbers ++ t
