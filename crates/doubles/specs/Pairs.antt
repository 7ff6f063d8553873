-- Pairs of points in either order: what lies between, and pairs nested in pairs. Definitions only.
use Rattle.std.specs.Prelude.{◌⊎◌, List, [], ◌∷◌, T, ℤ, ◌≤ℤ◌, Float}
use Rattle.std.specs.Float.Ieee.{le}

-- between two points, ends included, whichever is the smaller
abbrev pub Inside : Float → Float → Float → Type 0
Inside u v c = (T (le u c) × T (le c v)) ⊎ (T (le v c) × T (le c u))

pub record Pair : Type 0 where
  pub one : Float
  pub other : Float

abbrev pub In : Pair → Float → Type 0
In p c = Inside p.one p.other c

-- both ends of q lie in p
pub record Nested (p q : Pair) : Type 0 where
  pub one_in : In p q.one
  pub other_in : In p q.other

-- the pair (a, b) keeps an end of (u, v), and its other point lies between
pub data OneEnd (u v : Float) : Float → Float → Type 0 where
  first_kept : {c : Float} → Inside u v c → OneEnd u v u c
  second_kept : {c : Float} → Inside u v c → OneEnd u v c v
  first_kept_turned : {c : Float} → Inside u v c → OneEnd u v c u
  second_kept_turned : {c : Float} → Inside u v c → OneEnd u v v c

abbrev pub Chain : Pair → List Pair → Type 0
Chain p [] = Unit {0}
Chain p (q ∷ l) = Nested p q × Chain q l

abbrev pub Every : (Pair → Type 0) → List Pair → Type 0
Every P [] = Unit {0}
Every P (q ∷ l) = P q × Every P l

abbrev pub last : Pair → List Pair → Pair
last p [] = p
last p (q ∷ l) = last q l

abbrev pub BetweenZ : ℤ → ℤ → ℤ → Type 0
BetweenZ a b c = ((a ≤ℤ c) × (c ≤ℤ b)) ⊎ ((b ≤ℤ c) × (c ≤ℤ a))
