-- Refusals 1 to 5 by the definition's tests. Definitions only.
use Rattle.std.specs.Prelude.{ℕ, Bool, cond, ◌≡◌, length, Float}
use Rattle.std.proofs.Math.Bool.{true, false}
use mathlib.Core.List.{List}
use Rattle.std.proofs.Math.Dec.{ltb}
use Rattle.simple_convergency.specs.Stop.{greatest_limit, either_bad}
use Rattle.simple_convergency.specs.declared.Tolerances.{Tolerances}
use Rattle.roots.specs.Calls.{bad_count, all_finite, starts_of}
use Rattle.roots.specs.declared.Method.{Method}

-- a test tells whether P holds
pub record Tells (P : Type 0) (b : Bool) : Type 0 where
  pub yes : b ≡ true → P
  pub no : b ≡ false → ¬ P

-- the definition's tests in turn: the first of 1 to 5 that a call gets, and 0 where it gets none
unfoldable pub at_once : List Float → Method → Tolerances → ℕ → ℕ
at_once a m tolerances limit =
    cond (bad_count (length a)) 1
    (cond (all_finite a)
    (cond (all_finite (starts_of m))
    (cond (either_bad tolerances) 4
    (cond (ltb greatest_limit limit) 5 0))
    3)
    2)
