-- Why a search answered what it did, over its history: what ends a run, and that nothing before did. Definitions only.
use Rattle.std.specs.Prelude.{ℕ, ◌+◌, ◌<◌, Bool, true, false, cond, not, ◌⊎◌, ◌≡◌, eqb, Float}
use mathlib.Core.List.{List, [], ◌∷◌, Memᴰ}
use Rattle.std.specs.Float.{binary64}
use Rattle.std.specs.Float.Ieee.{sub}
use Rattle.std.specs.Float.Ieee.Scale.{finite}
use Rattle.doubles.specs.Doubles.{same_sign, outside, pulled}
use Rattle.numerical.specs.Answers.{kind_of}
use Rattle.numerical.specs.declared.Answer.{Answer}
use Rattle.numerical.specs.declared.Answer.TheVariants.{ByValue, ByWidth, Refused}
use Rattle.numerical.specs.declared.Sample.{Sample}
use Rattle.simple_convergency.specs.Stop.{found_at, flat_at, converged_at}
use Rattle.simple_convergency.specs.declared.StopRule.{StopRule}
use Rattle.polynom.specs.Polynom.{value, value_and_derivative}
use Rattle.polynom.specs.declared.ValueAndDerivative.{ValueAndDerivative}
use Rattle.std.specs.Prelude.{Option, Some, None}
use Rattle.searching.specs.Programs.{Test, found, converged, flat, alike, holds, tested, candidate, ruled, paired, stepped, Event, asked, asked_both, noted}
use Rattle.searching.specs.Histories.{steps_in, mark_in}

-- ---- what ends a run

-- an event stands in a history
abbrev pub Occurs : Event → List Event → Type 0
Occurs e h = Memᴰ e h

-- a stop test that held, as noted or by the numbers compared; a value, a derivative or a candidate that isn't finite, or a point evaluated that isn't
abbrev pub ends_run : StopRule → Event → Bool
ends_run stop (asked x (Some p)) = not (finite x)
ends_run stop (asked x None) = true
ends_run stop (asked_both x (Some v)) = not (finite x)
ends_run stop (asked_both x None) = true
ends_run stop (noted (tested t held)) = cond held true (holds stop t)
ends_run stop (noted (candidate x)) = not (finite x)
ends_run stop (noted (ruled rule departed)) = false
ends_run stop (noted (paired i)) = false
ends_run stop (noted stepped) = false

-- some event of a history ends a run
unfoldable pub some_ends : StopRule → List Event → Bool
some_ends stop [] = false
some_ends stop (e ∷ h) = cond (ends_run stop e) true (some_ends stop h)

-- the answer that such an event calls for; where converged held, the middle that is asked for then may still be refused
abbrev pub CalledFor : Event → Answer → Type 0
CalledFor (asked x e) answer = answer ≡ Refused 9
CalledFor (asked_both x e) answer = answer ≡ Refused 9
CalledFor (noted (tested (found p) held)) answer = answer ≡ ByValue p.x p.y
CalledFor (noted (tested (converged p q) held)) answer = ((root : Float) × (answer ≡ ByWidth root p q)) ⊎ (answer ≡ Refused 9)
CalledFor (noted (tested (flat y) held)) answer = answer ≡ Refused 7
CalledFor (noted (tested (alike p q) held)) answer = answer ≡ Refused 6
CalledFor (noted (candidate x)) answer = answer ≡ Refused 9
CalledFor (noted (ruled rule departed)) answer = ⊥
CalledFor (noted (paired i)) answer = ⊥
CalledFor (noted stepped) answer = ⊥

-- ---- what a history may hold

-- a sign test was made and held
abbrev pub SignsHeld : List Event → Type 0
SignsHeld h = (p : Sample) × (q : Sample) × Occurs (noted (tested (alike p q) true)) h

-- a flatness test was made and held
abbrev pub FlatHeld : List Event → Type 0
FlatHeld h = (y : Float) × Occurs (noted (tested (flat y) true)) h

-- the numbers of no stop test that was made pass it
abbrev pub NoneHeld : StopRule → List Event → Type 0
NoneHeld stop h = (t : Test) (held : Bool) → Occurs (noted (tested t held)) h → holds stop t ≡ false

-- a value at x, a value or its derivative at x, or a candidate x isn't finite
abbrev pub NotFiniteIn : List Event → Type 0
NotFiniteIn h = (x : Float) × (Occurs (asked x None) h ⊎ Occurs (asked_both x None) h ⊎ (Occurs (noted (candidate x)) h × (finite x ≡ false)))

-- a value, or a value with its derivative, was asked for at x
abbrev pub EvaluatedAt : Float → List Event → Type 0
EvaluatedAt x h = ((e : Option Sample) × Occurs (asked x e) h) ⊎ ((e : Option ValueAndDerivative) × Occurs (asked_both x e) h)

-- ---- the reason of an answer

-- a sample's value is the computed value at its point, and both are finite
pub record True (a : List Float) (p : Sample) : Type 0 where
  pub computed : p.y ≡ value a p.x
  pub is_finite : finite p.y ≡ true
  pub point_finite : finite p.x ≡ true

-- a computed derivative, or the difference of two computed values
pub data Slope (a : List Float) : Float → Type 0 where
  derivative_at : (x : Float) → Slope a (value_and_derivative a x).derivative
  difference_of : {p q : Sample} → True a p → True a q → Slope a (sub binary64 p.y q.y)

-- a run that goes on after h: its steps are below the most, and none of its events ends it
pub record Going (stop : StopRule) (most : ℕ) (h : List Event) : Type 0 where
  pub below : steps_in h < most
  pub undecided : some_ends stop h ≡ false

-- the newest events say why the answer was given, and up to them the run went on; `most` is where the steps reach the limit
pub data Reason (a : List Float) (stop : StopRule) (most : ℕ) : Answer → List Event → Type 0 where
  -- the value at the root is the one given, and it was found; any root is finite
  by_value :
      {p : Sample} {h : List Event} → True a p → found_at stop p.y ≡ true → Going stop most h →
      Reason a stop most (ByValue p.x p.y) (noted (tested (found p) true) ∷ h)
  -- the two points given had converged
  by_width :
      {root p q : Float} {h : List Event} → finite root ≡ true → converged_at stop p q ≡ true → Going stop most h →
      Reason a stop most (ByWidth root p q) (noted (tested (converged p q) true) ∷ h)
  -- the same, and the root is the middle that was asked for then, pulled into the pair
  by_middle :
      {p q x : Float} {h : List Event} → finite (pulled p q x) ≡ true → converged_at stop p q ≡ true → finite x ≡ true → Going stop most h →
      Reason a stop most (ByWidth (pulled p q x) p q) (noted (ruled 2 (outside p q x)) ∷ noted (candidate x) ∷ noted (tested (converged p q) true) ∷ h)
  -- 6: both values are above zero, or both below
  of_signs :
      {p q : Sample} {h : List Event} → True a p → True a q → same_sign p.y q.y ≡ true → Going stop most h →
      Reason a stop most (Refused 6) (noted (tested (alike p q) true) ∷ h)
  -- 7: the flatness test held
  of_flatness :
      {y : Float} {h : List Event} → Slope a y → flat_at stop y ≡ true → Going stop most h →
      Reason a stop most (Refused 7) (noted (tested (flat y) true) ∷ h)
  -- 8: the steps reached the limit, and no stop test made held
  of_limit : {h : List Event} → steps_in h ≡ most → some_ends stop h ≡ false → Reason a stop most (Refused 8) h
  -- 9: a value, a value or its derivative, or a candidate is not finite
  of_value :
      {x : Float} {h : List Event} → finite x ≡ true → finite (value a x) ≡ false → Going stop most h →
      Reason a stop most (Refused 9) (asked x None ∷ h)
  of_derivative :
      {x : Float} {h : List Event} → finite x ≡ true → (finite (value_and_derivative a x).value.y ≡ true → finite (value_and_derivative a x).derivative ≡ false) → Going stop most h →
      Reason a stop most (Refused 9) (asked_both x None ∷ h)
  of_candidate :
      {x : Float} {h : List Event} → finite x ≡ false → Going stop most h →
      Reason a stop most (Refused 9) (noted (candidate x) ∷ h)
  -- 9 again: converged held, and the middle that was asked for then is not finite
  of_middle :
      {x p q : Float} {h : List Event} → finite x ≡ false → converged_at stop p q ≡ true → Going stop most h →
      Reason a stop most (Refused 9) (noted (candidate x) ∷ noted (tested (converged p q) true) ∷ h)

-- where a run stands with n steps left, before its next stop test
pub record Standing (stop : StopRule) (most n : ℕ) (h : List Event) : Type 0 where
  pub steps : steps_in h + n ≡ most
  pub undecided : some_ends stop h ≡ false

-- the promises of a method with no sign test and no added rule, at its end: the reason, no mark, and another answer than 6
pub record Unmarked (a : List Float) (stop : StopRule) (most : ℕ) (answer : Answer) (h : List Event) : Type 0 where
  pub reason : Reason a stop most answer h
  pub unmarked : mark_in h ≡ 0
  pub not_six : eqb (kind_of answer) 16 ≡ false

-- where such a method stands with n steps left
pub record Plain (stop : StopRule) (most n : ℕ) (h : List Event) : Type 0 where
  pub standing : Standing stop most n h
  pub unmarked : mark_in h ≡ 0
