-- A layout tells which rows of numbers are right and what they hold: a number with a test, and what follows it, which may go by that number. Definitions only.
use Rattle.std.specs.Prelude.{ℕ, ◌^◌, ◌≤◌, Bool, true, false, cond, ◌&&◌, List, [], ◌∷◌, ◌++◌, ◌≡◌, ltb, length, drop}
use Rattle.rows.specs.Groups.{groups, Found, found, none, number_of}

-- at the end stands what the row holds
pub data Layout (A : Type 0) : Type 0 where
  end : A → Layout A
  number : (ℕ → Bool) → (ℕ → Layout A) → Layout A

-- ---- writing

-- the bytes of a row: the groups of its numbers one after the other
unfoldable pub spell : List ℕ → List ℕ
spell [] = []
spell (n ∷ row) = groups n ++ spell row

-- whether a row is one of the layout: each number has 64 bits and passes its test, and none is missing or left
abbrev pub fits : {A : Type 0} → Layout A → List ℕ → Bool
fits (end x) [] = true
fits (end x) (n ∷ row) = false
fits (number ok next) [] = false
fits (number ok next) (n ∷ row) = ltb n (2 ^ 64) && (ok n && fits (next n) row)

-- ---- reading

-- what a row holds, and the bytes that are left behind it; not an Option of a pair, for the same reason as Found
pub data Read (A : Type 0) : Type 0 where
  held : A → List ℕ → Read A
  wrong : Read A

abbrev pub only : (ℕ → Bool) → Found → Found
only ok (found n t) = cond (ok n) (found n t) none
only ok none = none

abbrev pub first : {A : Type 0} → (ℕ → List ℕ → Read A) → Found → Read A
first on (found n t) = on n t
first on none = wrong

-- number by number: each is read, and then tested
unfoldable pub read : {A : Type 0} → Layout A → List ℕ → Read A
read (end x) s = held x s
read (number ok next) s = first (λ n. read (next n)) (only ok (number_of s))

-- ---- the same as a family: a row of the layout, and what it holds

pub data Row {A : Type 0} : Layout A → List ℕ → A → Type 0 where
  at_end : {x : A} → Row (end x) [] x
  and_then : {ok : ℕ → Bool} {next : ℕ → Layout A} {n : ℕ} {row : List ℕ} {x : A} → ltb n (2 ^ 64) ≡ true → ok n ≡ true → Row (next n) row x → Row (number ok next) (n ∷ row) x

-- ---- what code found at an index

-- a number with a test
pub record TookNumber (ok : ℕ → Bool) (s : List ℕ) (at n p : ℕ) : Type 0 where
  pub within : p ≤ length s
  pub is : only ok (number_of (drop at s)) ≡ found n (drop p s)

pub record NoNumber (ok : ℕ → Bool) (s : List ℕ) (at : ℕ) : Type 0 where
  pub is : only ok (number_of (drop at s)) ≡ none

-- reading layout a from one index on is reading layout b from another
pub record Goes {A : Type 0} (a : Layout A) (s : List ℕ) (at : ℕ) (b : Layout A) (p : ℕ) : Type 0 where
  pub within : p ≤ length s
  pub is : read a (drop at s) ≡ read b (drop p s)

pub record Fails {A : Type 0} (a : Layout A) (s : List ℕ) (at : ℕ) : Type 0 where
  pub is : read a (drop at s) ≡ wrong
