-- What the order of a history's events says, as one statement over the method.
use Rattle.std.specs.Prelude.{ℕ, ◌+◌, ◌≤◌, Bool, true, false, List, [], ◌∷◌, ◌⊎◌, ◌≡◌, refl, length, Float}
use Rattle.std.proofs.Common.{arith, inl, inr, subst}
use Rattle.std.specs.Float.Ieee.{lt}
use Rattle.doubles.specs.Doubles.{absolute, same_sign}
use Rattle.numerical.specs.declared.Answer.{Answer}
use Rattle.numerical.specs.declared.Answer.TheVariants.{ByWidth, Refused}
use Rattle.simple_convergency.specs.Stop.{flat_at}
use Rattle.simple_convergency.specs.declared.StopRule.{StopRule}
use Rattle.polynom.specs.Polynom.{value}
use Rattle.searching.specs.Brackets.{pairs_in}
use Rattle.searching.specs.Events.{evaluations_in, signs_missed, Rules, Each, Width, BeforePairs, Ordered, Traced}
use Rattle.searching.proofs.EventLaws.{mark_known, values_are}
use Rattle.searching.specs.Histories.{steps_in, mark_in}
use Rattle.searching.specs.Keeps.{Ends}
use Rattle.searching.specs.Histories.{counted}
use Rattle.searching.specs.Programs.{flat, tested, noted, Event, oracle, answer_of}
use Rattle.searching.specs.Reasons.{Reason, of_signs, of_flatness, of_limit, of_value, of_derivative, of_candidate, of_middle}
use Rattle.brent.proofs.BrentTraced.{brent_traced}
use Rattle.regula_falsi.proofs.RegulaFalsiTraces.{regula_falsi_traced}
use Rattle.secant.proofs.SecantOrdered.{secant_ordered}
use Rattle.newton_raphson.proofs.NewtonRaphsonTraces.{newton_raphson_ordered}
use Rattle.polynom_search.proofs.PolynomSearchTraces.{polynom_search_traced}
use Rattle.simple_convergency.specs.declared.Tolerances.{Tolerances}
use Rattle.roots.specs.Calls.{starts_of, answer}
use Rattle.roots.specs.declared.Method.{Method}
use Rattle.roots.specs.declared.Method.TheVariants.{Brent, RegulaFalsi, Secant, NewtonRaphson, Polynom}
use Rattle.promises.specs.EarlyLaws.{at_once}
use Rattle.promises.proofs.AnswerLaws.{passed, at_answer, counts_of}
use Rattle.promises.proofs.EndLaws.{reason_of, six_told}
use Rattle.promises.proofs.MarkLaws.{plain_secant, plain_newton, two_marks}
use Rattle.promises.specs.Counts.{rule_of}
use Rattle.promises.specs.Searches.{program_of, history_of, Held, follows_of, gives_of, Flat, Marks, Bracketed}

-- ---- a method at a time

module _ (a : List Float) (stop : StopRule) where
  ordered_at : (m : Method) → Ends (oracle a) (Ordered (follows_of m) (gives_of m)) (program_of stop m) []
  ordered_at (Brent from to) = record { there = (brent_traced a stop from to).there.ordered }
  ordered_at (RegulaFalsi from to) = record { there = (regula_falsi_traced a stop from to).there.ordered }
  ordered_at (Secant first second) = secant_ordered a stop first second
  ordered_at (NewtonRaphson start) = newton_raphson_ordered a stop start
  ordered_at (Polynom from to) = record { there = (polynom_search_traced a stop from to).there.ordered }

  traced_at : (m : Method) (u v : Float) → Bracketed m u v → Ends (oracle a) (Traced (follows_of m) (gives_of m)) (program_of stop m) []
  traced_at (Brent from to) u v s = brent_traced a stop from to
  traced_at (RegulaFalsi from to) u v s = regula_falsi_traced a stop from to
  traced_at (Secant first second) u v s = absurd s
  traced_at (NewtonRaphson start) u v s = absurd s
  traced_at (Polynom from to) u v s = polynom_search_traced a stop from to

-- ---- 7

-- the flatness test that held is the newest event, and the method says of what it is
flat_found : (tolerances : Tolerances) (limit : ℕ) (m : Method) (y : Float) (h : List Event) → flat_at (rule_of tolerances limit) y ≡ true → follows_of m (noted (tested (flat y) true)) h → Flat tolerances m (noted (tested (flat y) true) ∷ h)
unfolding flat_at evaluations_in
flat_found tolerances limit (Brent from to) y h e l = absurd l
flat_found tolerances limit (RegulaFalsi from to) y h e l = absurd l
flat_found tolerances limit (Secant first second) y h e (p, q, s, d) = (p, q, s, subst (λ (z : Float). lt (absolute z) tolerances.value ≡ true) d e)
flat_found tolerances limit (NewtonRaphson start) y h e (v, s, d) = (v, s, subst (λ (z : Float). lt (absolute z) tolerances.value ≡ true) d e)
flat_found tolerances limit (Polynom from to) y h e l = absurd l

flat_reason :
    {a : List Float} (tolerances : Tolerances) (limit : ℕ) (m : Method) {most n : ℕ} {h : List Event} → n ≡ 7 → Reason a (rule_of tolerances limit) most (Refused n) h → Each (follows_of m) h → Flat tolerances m h
flat_reason tolerances limit m z (of_signs t u e q) l = absurd (omega (arith, z))
flat_reason tolerances limit m z (of_flatness t e q) l = flat_found tolerances limit m _ _ e l.0
flat_reason tolerances limit m z (of_limit e q) l = absurd (omega (arith, z))
flat_reason tolerances limit m z (of_value f e q) l = absurd (omega (arith, z))
flat_reason tolerances limit m z (of_derivative f e q) l = absurd (omega (arith, z))
flat_reason tolerances limit m z (of_candidate e q) l = absurd (omega (arith, z))
flat_reason tolerances limit m z (of_middle e f q) l = absurd (omega (arith, z))

-- ---- of every call that passes 1 to 5

module _ (a : List Float) (m : Method) (tolerances : Tolerances) (limit : ℕ) (z : at_once a m tolerances limit ≡ 0) where
  told : answer a m tolerances limit ≡ answer_of a (program_of (rule_of tolerances limit) m)
  told = (passed a m tolerances limit z).is_answer

  ordered_of : Ordered (follows_of m) (gives_of m) (answer a m tolerances limit).answer (history_of a m tolerances limit)
  ordered_of = rw told (at_answer a _ (ordered_at a (rule_of tolerances limit) m))

  pub events_of : Each (follows_of m) (history_of a m tolerances limit)
  events_of = ordered_of.each

  pub width_of : (root p q : Float) → (answer a m tolerances limit).answer ≡ ByWidth root p q → gives_of m root p q (history_of a m tolerances limit)
  width_of root p q e = subst (λ (x : Answer). Width (gives_of m) x (history_of a m tolerances limit)) e ordered_of.width

  pub values_listed : (answer a m tolerances limit).progress.tally.values.0 ≡ length (evaluations_in (history_of a m tolerances limit))
  unfolding counted
  values_listed = rw (counts_of a m tolerances limit z) (values_are (history_of a m tolerances limit))

  mark_most : mark_in (history_of a m tolerances limit) ≤ 2 → (answer a m tolerances limit).progress.mark ≤ 2
  unfolding counted
  mark_most l = rw (counts_of a m tolerances limit z) l

  module _ (u v : Float) (s : Bracketed m u v) where
    traced_of : Traced (follows_of m) (gives_of m) (answer a m tolerances limit).answer (history_of a m tolerances limit)
    traced_of = rw told (at_answer a _ (traced_at a (rule_of tolerances limit) m u v s))

    pub pairs_there : signs_missed (history_of a m tolerances limit) ≡ true → length (pairs_in (history_of a m tolerances limit)) ≡ (answer a m tolerances limit).progress.tally.steps.0 + 1
    unfolding counted
    pairs_there e = rw (counts_of a m tolerances limit z) (traced_of.with_pairs e)

    pub pairs_none : signs_missed (history_of a m tolerances limit) ≡ false → (pairs_in (history_of a m tolerances limit) ≡ []) × (steps_in (history_of a m tolerances limit) ≡ 0) × BeforePairs (answer a m tolerances limit).answer
    pairs_none = traced_of.without

  module _ (d : Held (starts_of m)) where
    pub flat_of : (answer a m tolerances limit).answer ≡ Refused 7 → Flat tolerances m (history_of a m tolerances limit)
    flat_of e = flat_reason tolerances limit m refl (rw e at (reason_of a m tolerances limit z d)) events_of

-- rules 1 and 2 are all that is noted
known_rule : (rule : ℕ) (departed : Bool) (h : List Event) → Rules rule departed h → (rule ≡ 1) ⊎ (rule ≡ 2)
known_rule rule departed h (inl e) = inl e
known_rule rule departed h (inr t) = inr t.0

pub marks_of : (a : List Float) (m : Method) (tolerances : Tolerances) (limit : ℕ) → at_once a m tolerances limit ≡ 0 → Marks m (answer a m tolerances limit).progress.mark
marks_of a (Brent from to) tolerances limit z = mark_most a _ tolerances limit z (mark_known _ known_rule _ (events_of a (Brent from to) tolerances limit z))
marks_of a (RegulaFalsi from to) tolerances limit z = two_marks a from to tolerances limit
marks_of a (Secant first second) tolerances limit z = (plain_secant a first second tolerances limit).0
marks_of a (NewtonRaphson start) tolerances limit z = (plain_newton a start tolerances limit).0
marks_of a (Polynom from to) tolerances limit z = mark_most a _ tolerances limit z (mark_known _ known_rule _ (events_of a (Polynom from to) tolerances limit z))

-- 6 is of a bracketing method, and of the values at its starts
pub six_of :
    (a : List Float) (m : Method) (tolerances : Tolerances) (limit : ℕ) → at_once a m tolerances limit ≡ 0 → Held (starts_of m) → (answer a m tolerances limit).answer ≡ Refused 6 →
    (u : Float) × (v : Float) × Bracketed m u v × (same_sign (value a u) (value a v) ≡ true)
six_of a (Brent from to) tolerances limit z d e = (from, to, (refl, refl), six_told a (Brent from to) tolerances limit z d from to (refl, refl) e)
six_of a (RegulaFalsi from to) tolerances limit z d e = (from, to, (refl, refl), six_told a (RegulaFalsi from to) tolerances limit z d from to (refl, refl) e)
six_of a (Secant first second) tolerances limit z d e = absurd ((plain_secant a first second tolerances limit).1 e)
six_of a (NewtonRaphson start) tolerances limit z d e = absurd ((plain_newton a start tolerances limit).1 e)
six_of a (Polynom from to) tolerances limit z d e = (from, to, (refl, refl), six_told a (Polynom from to) tolerances limit z d from to (refl, refl) e)
