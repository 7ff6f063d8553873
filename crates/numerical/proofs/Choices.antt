-- A definition that goes by a test, and code that made it: `search choices` closes the return of each branch.
use Rattle.std.specs.Prelude.{ℕ, ◌<◌, ◌≤◌, Bool, true, false, cond, ◌≡◌, ltb, eqb}
use Rattle.std.proofs.Common.{lt-ltb, le-ltb, eq-eqb, ne_eqb}

module _ {A : Type 0} {r : A} (x y : A) where
  pub by_yes : {f : Bool} (b : Bool) → f ≡ b → f ≡ true → r ≡ x → r ≡ cond b x y
  by_yes b e t k = rw (← e, t) k

  pub by_no : {f : Bool} (b : Bool) → f ≡ b → f ≡ false → r ≡ y → r ≡ cond b x y
  by_no b e t k = rw (← e, t) k

  -- a test of two numbers
  pub by_less : (m n : ℕ) → m < n → r ≡ x → r ≡ cond (ltb m n) x y
  by_less m n h k = rw (lt-ltb m n h) k

  pub by_not_less : (m n : ℕ) → n ≤ m → r ≡ y → r ≡ cond (ltb m n) x y
  by_not_less m n h k = rw (le-ltb m n h) k

  pub by_equal : (m n : ℕ) → m ≡ n → r ≡ x → r ≡ cond (eqb m n) x y
  by_equal m n h k = rw (eq-eqb m n h) k

  pub by_unequal : (m n : ℕ) → (m ≡ n → ⊥) → r ≡ y → r ≡ cond (eqb m n) x y
  by_unequal m n h k = rw (ne_eqb m n h) k

-- all of them, for `search`
pub ruleset choices = (by_yes, by_no, by_less, by_not_less, by_equal, by_unequal)
