-- Where a search ends: the reason for its answer and what that says, as one statement over the method.
use Rattle.std.specs.Prelude.{ℕ, ◌≤◌, true, List, [], ◌∷◌, ◌≡◌, refl, T, Float}
use Rattle.std.proofs.Common.{arith, subst}
use Rattle.std.specs.Float.{binary64}
use Rattle.std.specs.Float.Ieee.{fits, lt, sub}
use Rattle.std.specs.Float.Ieee.Scale.{finite}
use Rattle.doubles.specs.Doubles.{above, absolute, same_sign}
use Rattle.doubles.specs.Number.{Double}
use Rattle.numerical.specs.declared.Answer.{Answer}
use Rattle.numerical.specs.declared.Answer.TheVariants.{ByValue, ByWidth, Refused}
use Rattle.simple_convergency.specs.Stop.{found_at, converged_at}
use Rattle.simple_convergency.specs.declared.StopRule.{StopRule}
use Rattle.searching.specs.Programs.{Event, oracle, answer_of}
use Rattle.searching.specs.Histories.{history}
use Rattle.polynom.specs.Polynom.{value}
use Rattle.searching.specs.Brackets.{Told, Bracket}
use Rattle.searching.specs.Reasons.{Reason, by_value, by_width, by_middle, of_signs, of_flatness, of_limit, of_value, of_derivative, of_candidate, of_middle}
use Rattle.searching.specs.Keeps.{Ends}
use Rattle.brent.proofs.BrentEnds.{brent_ends}
use Rattle.regula_falsi.proofs.RegulaFalsiKeeps.{regula_falsi_ends}
use Rattle.secant.proofs.SecantKeeps.{secant_ends}
use Rattle.newton_raphson.proofs.NewtonRaphsonKeeps.{newton_raphson_ends}
use Rattle.polynom_search.proofs.PolynomSearchKeeps.{polynom_search_ends}
use Rattle.simple_convergency.specs.declared.Tolerances.{Tolerances}
use Rattle.roots.proofs.CallLaws.{first_of, both_of}
use Rattle.roots.specs.Calls.{all_finite, starts_of, answer}
use Rattle.roots.specs.declared.Method.{Method}
use Rattle.roots.specs.declared.Method.TheVariants.{Brent, RegulaFalsi, Secant, NewtonRaphson, Polynom}
use Rattle.promises.specs.EarlyLaws.{at_once}
use Rattle.promises.proofs.AnswerLaws.{passed, at_answer}
use Rattle.promises.specs.Counts.{rule_of}
use Rattle.promises.specs.Searches.{program_of, history_of, Held, most_steps, Bracketed}

-- a start that is finite and held by the format is a double
start_double : (x : Float) → T (fits binary64 x) → finite x ≡ true → Double x
start_double x f e = record { is_finite = rw e tt; is_held = f }

pub two_doubles : (x y : Float) → Held (x ∷ y ∷ []) → all_finite (x ∷ y ∷ []) ≡ true → Double x × Double y
two_doubles x y d e = let f = both_of x y e in (start_double x d.0 f.0, start_double y d.1.0 f.1)

-- the reason at the end, a method at a time
module _ (a : List Float) (stop : StopRule) (good : above stop.tolerances.value ≡ true) where
  bracket_at : (m : Method) (u v : Float) → Bracketed m u v → Held (starts_of m) → all_finite (starts_of m) ≡ true → Ends (oracle a) (Bracket a stop u v) (program_of stop m) []
  bracket_at (Brent from to) u v s d e = let w = two_doubles from to d e in rw (← s.0, ← s.1) (brent_ends a stop good from to w.0 w.1)
  bracket_at (RegulaFalsi from to) u v s d e = let w = two_doubles from to d e in rw (← s.0, ← s.1) (regula_falsi_ends a stop from to w.0 w.1)
  bracket_at (Secant first second) u v s d e = absurd s
  bracket_at (NewtonRaphson start) u v s d e = absurd s
  bracket_at (Polynom from to) u v s d e = let w = two_doubles from to d e in rw (← s.0, ← s.1) (polynom_search_ends a stop from to w.0 w.1)

  reason_at : (m : Method) → Held (starts_of m) → all_finite (starts_of m) ≡ true → Reason a stop (most_steps a stop m) (answer_of a (program_of stop m)).answer (history (oracle a) (program_of stop m))
  reason_at (Brent from to) d e = (at_answer a _ (bracket_at (Brent from to) from to (refl, refl) d e)).reason
  reason_at (RegulaFalsi from to) d e = (at_answer a _ (bracket_at (RegulaFalsi from to) from to (refl, refl) d e)).reason
  reason_at (Secant first second) d e = let w = both_of first second e in (at_answer a _ (secant_ends a stop first second w.0 w.1)).reason
  reason_at (NewtonRaphson start) d e = (at_answer a _ (newton_raphson_ends a stop start (first_of start [] e).0)).reason
  reason_at (Polynom from to) d e = (at_answer a _ (bracket_at (Polynom from to) from to (refl, refl) d e)).reason

-- ---- what a reason says

reason_number : {a : List Float} {stop : StopRule} {most : ℕ} {n : ℕ} {h : List Event} → Reason a stop most (Refused n) h → (6 ≤ n) × (n ≤ 9)
reason_number (of_signs t u e q) = (omega arith, omega arith)
reason_number (of_flatness t e q) = (omega arith, omega arith)
reason_number (of_limit e q) = (omega arith, omega arith)
reason_number (of_value z e q) = (omega arith, omega arith)
reason_number (of_derivative z e q) = (omega arith, omega arith)
reason_number (of_candidate e q) = (omega arith, omega arith)
reason_number (of_middle e f q) = (omega arith, omega arith)

reason_value : {a : List Float} {stop : StopRule} {most : ℕ} {root y : Float} {h : List Event} → Reason a stop most (ByValue root y) h → (y ≡ value a root) × (found_at stop y ≡ true) × (finite root ≡ true)
reason_value (by_value t e q) = (t.computed, e, t.point_finite)

reason_width : {a : List Float} {stop : StopRule} {most : ℕ} {root p q : Float} {h : List Event} → Reason a stop most (ByWidth root p q) h → (converged_at stop p q ≡ true) × (finite root ≡ true)
reason_width (by_width z e q) = (e, z)
reason_width (by_middle z e f q) = (e, z)

module _ (a : List Float) (m : Method) (tolerances : Tolerances) (limit : ℕ) (z : at_once a m tolerances limit ≡ 0) (d : Held (starts_of m)) where
  pub reason_of : Reason a (rule_of tolerances limit) (most_steps a (rule_of tolerances limit) m) (answer a m tolerances limit).answer (history_of a m tolerances limit)
  reason_of = let p = passed a m tolerances limit z in rw p.is_answer (reason_at a (rule_of tolerances limit) p.value_above m d p.starts_finite)

  pub value_true : (root y : Float) → (answer a m tolerances limit).answer ≡ ByValue root y → (y ≡ value a root) × (lt (absolute y) tolerances.value ≡ true) × (finite root ≡ true)
  unfolding found_at
  value_true root y e = reason_value (rw e at reason_of)

  pub width_true : (root p q : Float) → (answer a m tolerances limit).answer ≡ ByWidth root p q → (lt (absolute (sub binary64 p q)) tolerances.point ≡ true) × (finite root ≡ true)
  unfolding converged_at
  width_true root p q e = reason_width (rw e at reason_of)

  pub late_number : (n : ℕ) → (answer a m tolerances limit).answer ≡ Refused n → (6 ≤ n) × (n ≤ 9)
  late_number n e = reason_number (rw e at reason_of)

  module _ (u v : Float) (s : Bracketed m u v) where
    pub bracket_of : Bracket a (rule_of tolerances limit) u v (answer a m tolerances limit).answer (history_of a m tolerances limit)
    bracket_of = let p = passed a m tolerances limit z in rw p.is_answer (at_answer a _ (bracket_at a (rule_of tolerances limit) p.value_above m u v s d p.starts_finite))

    pub six_told : (answer a m tolerances limit).answer ≡ Refused 6 → same_sign (value a u) (value a v) ≡ true
    six_told e = (subst (λ (x : Answer). Told a u v x) e bracket_of.told).0 refl
