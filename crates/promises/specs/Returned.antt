-- What the code returns: whatever the contracts of `search` and of `roots_search` allow keeps demands 1, 2 and 3.
-- An argument is what the language gives it to be (`GoodsP`): of an f64, a value of the format.
use Prim.Native.Nat.{ℕ, ◌≤◌, ◌<◌}
use Rattle.std.specs.Prelude.{List, [], ◌∷◌, ◌⊎◌, ◌≡◌, Float}
use Rattle.doubles.specs.Doubles.{nought}
use Rattle.numerical.specs.Answers.{kind_of, numbers_of, padded, counts_of}
use Rattle.numerical.specs.declared.Outcome.{Outcome}
use Rattle.simple_convergency.specs.declared.Tolerances.{Tolerances}
use Rattle.simple_convergency.specs.Stop.{tolerances_of}
use Rattle.roots.specs.declared.Method.{Method}
use Rattle.roots.specs.declared.Method.TheVariants.{Brent, RegulaFalsi, Secant, NewtonRaphson, Polynom}
use Rattle.promises.specs.Demand1.{Demand1}
use Rattle.promises.specs.Demand2.{Demand2}
use Rattle.promises.specs.Demand3.{Demand3, Demand3Pairs}
use Rattle.promises.specs.Searches.{Passes, Bracketed}

-- what is promised of an outcome
pub record Promised (a : List Float) (m : Method) (tolerances : Tolerances) (limit : ℕ) (outcome : Outcome) : Type 0 where
  pub demand1 : Demand1 a m tolerances limit outcome
  pub demand2 : Passes a m tolerances limit → Demand2 a m tolerances limit outcome
  pub demand3 : Passes a m tolerances limit → Demand3 a m tolerances limit outcome
  pub demand3_pairs : Passes a m tolerances limit → (u v : Float) → Bracketed m u v → Demand3Pairs a m tolerances limit u v outcome

-- ---- roots_search, as C calls it

-- the methods' numbers; Newton starts from the first start
pub data Numbered (first second : Float) : ℕ → Method → Type 0 where
  brent : Numbered first second 1 (Brent first second)
  illinois : Numbered first second 2 (RegulaFalsi first second)
  secant : Numbered first second 3 (Secant first second)
  newton : Numbered first second 4 (NewtonRaphson first)
  polynom : Numbered first second 5 (Polynom first second)

abbrev pub NoMethod : ℕ → Type 0
NoMethod method = (method ≡ 0) ⊎ (5 < method)

-- what is told: a kind, three numbers and four tallies
pub record Told (a : List Float) (method : ℕ) (first second value point : Float) (limit kind : ℕ) (numbers : List Float) (tallies : List ℕ) : Type 0 where
  -- for a method's number they are those of an outcome that keeps its promises
  pub known : (m : Method) → Numbered first second method m → (o : Outcome) × Promised a m (tolerances_of value point) limit o × (kind ≡ kind_of o.answer) × (numbers ≡ padded (numbers_of o.answer)) × (tallies ≡ counts_of o.progress)
  -- for any other number the kind is 10 and all else is zero
  pub unknown : NoMethod method → (kind ≡ 10) × (numbers ≡ nought ∷ nought ∷ nought ∷ []) × (tallies ≡ 0 ∷ 0 ∷ 0 ∷ 0 ∷ [])
  -- and only for such a number
  pub ten : kind ≡ 10 → NoMethod method
  -- no other kind than 0, 1 and 10 to 19
  pub kinds : (kind ≡ 0) ⊎ (kind ≡ 1) ⊎ ((10 ≤ kind) × (kind ≤ 19))
