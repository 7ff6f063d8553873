-- A number in groups of seven bits, lowest group first, top bit set when another follows. Definitions only.
use Rattle.std.specs.Prelude.{ℕ, zero, suc, ◌+◌, ◌-◌, ◌*◌, ◌/◌, ◌%◌, ◌≤◌, cond, List, [], ◌∷◌, ◌≡◌, ltb, eqb, length, drop, get_or, Option, Some, None}
use Rattle.rows.specs.declared.Taken.{Taken}

-- ---- writing

-- n in one group and up to k more
abbrev pub groups_in : ℕ → ℕ → List ℕ
groups_in zero n = n ∷ []
groups_in (suc k) n = cond (ltb n 128) (n ∷ []) ((n % 128 + 128) ∷ groups_in k (n / 128))

-- "at most ten groups": 64 bits are nine groups of seven and one bit
unfoldable pub groups : ℕ → List ℕ
groups n = groups_in 9 n

-- ---- reading

-- a number and what is left behind it; not an Option of a pair, since the theorems on numbers name these two cases
pub data Found : Type 0 where
  found : ℕ → List ℕ → Found
  none : Found

-- v, and w times the number that the groups behind it make; "no needless last group": that number is not 0
abbrev pub above : ℕ → ℕ → Found → Found
above v w (found n t) = cond (eqb n 0) none (found (v + w * n) t)
above v w none = none

-- the tenth group is one bit
abbrev pub number_in : ℕ → List ℕ → Found
number_in zero [] = none
number_in zero (b ∷ s) = cond (ltb b 2) (found b s) none
number_in (suc k) [] = none
number_in (suc k) (b ∷ s) = cond (ltb b 128) (found b s) (cond (ltb b 256) (above (b - 128) 128 (number_in k s)) none)

unfoldable pub number_of : List ℕ → Found
number_of s = number_in 9 s

-- ---- what the code found at an index

pub record TookOne (s : List ℕ) (at n p : ℕ) : Type 0 where
  pub within : p ≤ length s
  pub is : number_of (drop at s) ≡ found n (drop p s)

abbrev pub Took : List ℕ → ℕ → Option (Taken ℕ) → Type 0
Took s at (Some taken) = TookOne s at taken.value taken.next
Took s at None = number_of (drop at s) ≡ none

-- the tenth group at p, behind nine that make v: 1, of weight w
unfoldable pub tenth_at : List ℕ → ℕ → ℕ → ℕ → Option (Taken ℕ)
tenth_at s p v w = cond (ltb p (length s)) (cond (eqb (get_or s p 0) 1) (Some (record { value = v + w; next = p + 1 })) None) None
