-- What the proofs of the calls cite.
use Rattle.std.specs.Prelude.{ℕ, ◌≤◌, Bool, true, cond, ◌&&◌, List, [], ◌∷◌, ◌≡◌, refl, eqb, length, take, Float, Result, Ok, Err, IsErrAnd}
use Rattle.std.specs.List.{list_all}
use Rattle.std.specs.Float.Ieee.{of_bits}
use Rattle.std.proofs.Common.{arith, true≢false, ap, sym}
use Rattle.std.proofs.Math.Bool.{false}
use Rattle.std.specs.Float.Ieee.Scale.{finite}
use Rattle.numerical.specs.declared.Outcome.{Outcome}
use Rattle.simple_convergency.specs.Stop.{greatest_limit, checked_of}
use Rattle.simple_convergency.specs.StopLaws.{Passed}
use Rattle.simple_convergency.proofs.StopLaws.{passed}
use Rattle.simple_convergency.specs.declared.StopRule.{StopRule}
use Rattle.simple_convergency.specs.declared.Tolerances.{Tolerances}
use Rattle.simple_convergency.specs.declared.BadRule.{BadRule}
use Rattle.roots.specs.Calls.{bad_count, all_finite, starts_of, two_starts, found_by, found_under, answered, answer}
use Rattle.roots.specs.Methods.{method_number, start_count}
use Rattle.roots.specs.declared.BadCall.{BadCall}
use Rattle.roots.specs.declared.BadCall.TheVariants.{Count, Coefficients, Starts, Rule}
use Rattle.roots.specs.declared.Method.{Method}
use Rattle.roots.specs.declared.Method.TheVariants.{Brent, RegulaFalsi, Secant, NewtonRaphson, Polynom}

-- ---- whether all are finite

-- each is, one after the other
pub each_finite : (a : List Float) → list_all finite a ≡ all_finite a
unfolding all_finite
each_finite [] = refl
each_finite (x ∷ rest) = go (finite x) (each_finite rest)
  where
    go : (b : Bool) → list_all finite rest ≡ all_finite rest → (b && list_all finite rest) ≡ cond b (all_finite rest) false
    go true e = e
    go false e = refl

-- plus zero is finite, so what stands behind the starts changes nothing
pub two_finite : (m : Method) → all_finite (two_starts m) ≡ all_finite (starts_of m)
unfolding all_finite of_bits
two_finite (Brent from to) = refl
two_finite (RegulaFalsi from to) = refl
two_finite (Secant first second) = refl
two_finite (NewtonRaphson start) = refl
two_finite (Polynom from to) = refl

-- ---- the starts that are a method's own

long_two : (m : Method) → length (two_starts m) ≡ 2
long_two (Brent from to) = refl
long_two (RegulaFalsi from to) = refl
long_two (Secant first second) = refl
long_two (NewtonRaphson start) = refl
long_two (Polynom from to) = refl

-- at most two
pub few_starts : (number : ℕ) {count : ℕ} → count ≡ start_count number → count ≤ 2
unfolding start_count
few_starts number e = rw e (go (eqb number 4))
  where
    go : (b : Bool) → cond b 1 2 ≤ 2
    go true = omega arith
    go false = omega arith

own : (m : Method) → take (start_count (method_number m)) (two_starts m) ≡ starts_of m
unfolding start_count
own (Brent from to) = refl
own (RegulaFalsi from to) = refl
own (Secant first second) = refl
own (NewtonRaphson start) = refl
own (Polynom from to) = refl

pub within_two : (m : Method) (number : ℕ) {count : ℕ} {two : List Float} → count ≡ start_count number → two ≡ two_starts m → count ≤ length two
within_two m number f g = rw (g, long_two m) (few_starts number f)

-- as many of the two as its number says
pub own_starts : (m : Method) {number count : ℕ} {two : List Float} → number ≡ method_number m → count ≡ start_count number → two ≡ two_starts m → take count two ≡ starts_of m
own_starts m e f g = rw (g, f, e) (own m)

-- ---- by the method's variant

pub by_method : {r : Outcome} (a : List Float) (stop : StopRule) (m : Method) {n : Method} → m ≡ n → r ≡ found_by a stop n → r ≡ found_by a stop m
by_method a stop m e k = rw e k

-- ---- 1 to 5 in their order: each refusal with the tests that were made before it

module _ (a : List Float) (m : Method) (tolerances : Tolerances) (limit : ℕ) {bad : Bool} (e : bad ≡ bad_count (length a)) where
  pub count_refused : bad ≡ true → answered a m (Err Count) ≡ answer a m tolerances limit
  unfolding answer
  count_refused t = rw (← e, t) refl

  module _ (t : bad ≡ false) {all : Bool} (f : all ≡ all_finite a) where
    pub coefficient_refused : all ≡ false → answered a m (Err Coefficients) ≡ answer a m tolerances limit
    unfolding answer
    coefficient_refused u = rw (← e, t, ← f, u) refl

    module _ (u : all ≡ true) {starts : Bool} (g : starts ≡ all_finite (starts_of m)) where
      pub start_refused : starts ≡ false → answered a m (Err Starts) ≡ answer a m tolerances limit
      unfolding answer
      start_refused v = rw (← e, t, ← f, u, ← g, v) refl

      -- what the stop rule's check says is left
      pub by_rule : starts ≡ true → {c : Result StopRule BadRule} → c ≡ checked_of tolerances limit → found_under a m c ≡ answer a m tolerances limit
      unfolding answer
      by_rule v h = rw (← e, t, ← f, u, ← g, v, ← h) refl

-- what a refused rule is refused with, as a call
pub rule_refused : (a : List Float) (m : Method) (why : BadRule) (r : Result StopRule BadCall) → IsErrAnd r (λ w. w ≡ Rule why) → answered a m r ≡ found_under a m (Err why)
rule_refused a m why (Err w) e = ap (λ (w : BadCall). answered a m (Err w)) e
rule_refused a m why (Ok stop) e = absurd e

-- ---- what a rule that was checked keeps to

pub limit_kept : (tolerances : Tolerances) (limit : ℕ) {stop : StopRule} → checked_of tolerances limit ≡ Ok stop → stop.limit ≤ greatest_limit
limit_kept tolerances limit {stop} e = let rule : Passed tolerances limit stop = passed tolerances limit stop e in rw rule.same_limit rule.in_range

-- ---- where all are finite, each is

pub first_of : (x : Float) (rest : List Float) → all_finite (x ∷ rest) ≡ true → (finite x ≡ true) × (all_finite rest ≡ true)
unfolding all_finite
first_of x rest e = go (finite x) refl e
  where
    go : (b : Bool) → finite x ≡ b → cond b (all_finite rest) false ≡ true → (finite x ≡ true) × (all_finite rest ≡ true)
    go true f e = (f, e)
    go false f e = absurd (true≢false (sym e))

pub both_of : (x y : Float) → all_finite (x ∷ y ∷ []) ≡ true → (finite x ≡ true) × (finite y ≡ true)
both_of x y e = let f = first_of x (y ∷ []) e in (f.0, (first_of y [] f.1).0)
