-- Demand 3, of the outcome of every call that passes 1 to 5, over the history of its definition, newest event first.
use Rattle.std.specs.Prelude.{ℕ, ◌+◌, ◌≤◌, Bool, true, false, List, [], ◌↔◌, ◌≡◌, length, Float}
use Rattle.std.specs.Float.{binary64}
use Rattle.std.specs.Float.Ieee.{lt, sub}
use Rattle.std.specs.Float.Ieee.Scale.{finite}
use Rattle.doubles.specs.Doubles.{absolute, same_sign, order_of}
use Rattle.doubles.specs.Pairs.{BetweenZ}
use Rattle.doubles.specs.Sums.{minus_zero}
use Rattle.numerical.specs.declared.Answer.TheVariants.{ByValue, ByWidth, Refused}
use Rattle.numerical.specs.declared.Outcome.{Outcome}
use Rattle.numerical.specs.declared.Sample.{Sample}
use Rattle.polynom.specs.Polynom.{value}
use Rattle.searching.specs.Brackets.{pairs_in, Narrows}
use Rattle.searching.specs.Events.{evaluations_in, signs_missed, Each, BeforePairs}
use Rattle.searching.specs.Histories.{steps_in}
use Rattle.searching.specs.Histories.{counted}
use Rattle.searching.specs.Programs.{Test, found, converged, holds, tested, Event, noted}
use Rattle.searching.specs.Reasons.{Occurs, ends_run, CalledFor, SignsHeld, FlatHeld, NoneHeld, NotFiniteIn, EvaluatedAt, Reason}
use Rattle.simple_convergency.specs.declared.Tolerances.{Tolerances}
use Rattle.roots.specs.declared.Method.{Method}
use Rattle.promises.specs.Counts.{rule_of, most_values, most_derivatives}
use Rattle.promises.specs.Searches.{history_of, most_steps, follows_of, gives_of, Flat, Marks, Bracketed, Truthful, NestedByOrder}

-- ---- all five methods

pub record Demand3 (a : List Float) (m : Method) (tolerances : Tolerances) (limit : ℕ) (outcome : Outcome) : Type 0 where
  -- the steps, values and derivatives reported, and the mark, are those of the definition's history
  pub counts : outcome.progress ≡ counted (history_of a m tolerances limit)
  -- the values are as many as the evaluations in it
  pub values_counted : outcome.progress.tally.values.0 ≡ length (evaluations_in (history_of a m tolerances limit))
  -- the values never exceed document 01's bound
  pub values_bound : outcome.progress.tally.values.0 ≤ most_values m (rule_of tolerances limit)
  -- nor do the derivatives exceed theirs
  pub derivatives_bound : outcome.progress.tally.derivatives.0 ≤ most_derivatives m (rule_of tolerances limit)
  -- each evaluation was answered by the evaluator, at its point
  pub evaluations : Truthful a (history_of a m tolerances limit)
  -- the events in their order: which points are evaluated one after the other, and of which points, values and pairs the tests are
  pub events : Each (follows_of m) (history_of a m tolerances limit)
  -- the marks that the method can have
  pub marks : Marks m outcome.progress.mark
  -- the stated reason of any answer, refusals too, is true: it is what the newest events say, so nothing is evaluated after them,
  -- and before them the steps were below the limit, no stop test held and everything was finite
  pub reasons : Reason a (rule_of tolerances limit) (most_steps a (rule_of tolerances limit) m) outcome.answer (history_of a m tolerances limit)
  -- every stop test of the history is noted as the numbers compared say
  pub tests : (t : Test) (held : Bool) → Occurs (noted (tested t held)) (history_of a m tolerances limit) → held ≡ holds (rule_of tolerances limit) t
  -- every point that is evaluated is finite
  pub points : (x : Float) → EvaluatedAt x (history_of a m tolerances limit) → finite x ≡ true
  -- any event that ends a run, wherever it stands in the history, fixes the answer
  pub decides : (e : Event) → Occurs e (history_of a m tolerances limit) → ends_run (rule_of tolerances limit) e ≡ true → CalledFor e outcome.answer
  -- by value exactly when found was tested of that sample and held
  pub by_value_exactly : (p : Sample) → (outcome.answer ≡ ByValue p.x p.y) ↔ Occurs (noted (tested (found p) true)) (history_of a m tolerances limit)
  -- then the root's computed value is the value given, its size is below the value tolerance, and the root is finite
  pub by_value : (root y : Float) → outcome.answer ≡ ByValue root y → (y ≡ value a root) × (lt (absolute y) tolerances.value ≡ true) × (finite root ≡ true)
  -- a value given is never minus zero; a root may be
  pub no_minus_zero : (root y : Float) → outcome.answer ≡ ByValue root y → minus_zero y ≡ false
  -- by width exactly when converged was tested of those points and held, and everything is finite
  pub by_width_exactly :
      (p q : Float) →
      ((root : Float) × (outcome.answer ≡ ByWidth root p q)) ↔ (Occurs (noted (tested (converged p q) true)) (history_of a m tolerances limit) × ¬ NotFiniteIn (history_of a m tolerances limit))
  -- then the computed difference of the two points given is below the point tolerance in size, and the root is finite
  pub by_width : (root p q : Float) → outcome.answer ≡ ByWidth root p q → (lt (absolute (sub binary64 p q)) tolerances.point ≡ true) × (finite root ≡ true)
  -- and the root and the two points are the method's: Brent's c, a candidate pulled into the newest pair, its middle, the newest candidate
  pub width_gives : (root p q : Float) → outcome.answer ≡ ByWidth root p q → gives_of m root p q (history_of a m tolerances limit)
  -- 6 exactly when the opening sign test was made and held
  pub six_exactly : (outcome.answer ≡ Refused 6) ↔ SignsHeld (history_of a m tolerances limit)
  -- it is of a bracketing method whose values at the starts are both above zero, or both below
  pub six : outcome.answer ≡ Refused 6 → (u : Float) × (v : Float) × Bracketed m u v × (same_sign (value a u) (value a v) ≡ true)
  -- 7 exactly when a flatness test was made and held; Newton's nudge makes none
  pub seven_exactly : (outcome.answer ≡ Refused 7) ↔ FlatHeld (history_of a m tolerances limit)
  -- it is of secant's last two values, or of Newton's derivative at the last point evaluated, by the value tolerance, and never of another method
  pub seven : outcome.answer ≡ Refused 7 → Flat tolerances m (history_of a m tolerances limit)
  -- 8 exactly when the steps reached the limit and no stop test that was made held
  pub eight_exactly : (outcome.answer ≡ Refused 8) ↔ ((steps_in (history_of a m tolerances limit) ≡ most_steps a (rule_of tolerances limit) m) × NoneHeld (rule_of tolerances limit) (history_of a m tolerances limit))
  -- 9 exactly when a value, a derivative or a candidate isn't finite
  pub nine_exactly : (outcome.answer ≡ Refused 9) ↔ NotFiniteIn (history_of a m tolerances limit)

-- ---- Brent, Illinois and the polynomial search, from the starts u and v

pub record Demand3Pairs (a : List Float) (m : Method) (tolerances : Tolerances) (limit : ℕ) (u v : Float) (outcome : Outcome) : Type 0 where
  -- where the opening sign test was made and did not hold there is a pair for it, and one for each step
  pub pairs_exist : signs_missed (history_of a m tolerances limit) ≡ true → length (pairs_in (history_of a m tolerances limit)) ≡ outcome.progress.tally.steps.0 + 1
  -- elsewhere nothing was stepped, and the answer is 6, 9 or a start that is found
  pub before_pairs : signs_missed (history_of a m tolerances limit) ≡ false → (pairs_in (history_of a m tolerances limit) ≡ []) × (steps_in (history_of a m tolerances limit) ≡ 0) × BeforePairs outcome.answer
  -- every pair lies within the pair before, the first is the starts, its values are the computed values at its points,
  -- and they are never both above zero nor both below
  pub pairs : Narrows a u v (pairs_in (history_of a m tolerances limit))
  -- by the order number: each pair lies within the pair before, and between the starts
  pub nested : NestedByOrder u v (pairs_in (history_of a m tolerances limit))
  -- any root returned by value lies between the starts by the order number, ends included
  pub root_between_by_value : (root y : Float) → outcome.answer ≡ ByValue root y → BetweenZ (order_of u) (order_of v) (order_of root)
  -- any root returned by width lies between them too, and so does Brent's c, which may lie outside of the last pair
  pub root_between_by_width : (root p q : Float) → outcome.answer ≡ ByWidth root p q → BetweenZ (order_of u) (order_of v) (order_of root)
