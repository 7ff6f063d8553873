-- What the stop rule's numbers are, and what a rule that was checked keeps to.
use Rattle.std.specs.Prelude.{ℕ, ◌-◌, ◌≤◌, ◌<◌, Bool, true, false, cond, ◌≡◌, refl, T, ltb, negsuc, Float}
use Rattle.std.proofs.Common.{arith, true≢false, sym, ◌∙◌, T_not}
use Rattle.std.specs.Float.{fin}
use Rattle.std.specs.Float.Ieee.{of_bits, lt, le, is_nan}
use Rattle.std.specs.Float.Ieee.Bits.{is_true}
use Rattle.std.specs.Float.Ieee.Scale.{finite}
use borrow.Author.Tests.{lt-ltb, le-ltb, ltb-false}
use Rattle.doubles.proofs.Compare.{of_true, finite_num, lt_le_trans, no_lt_le}
use Rattle.doubles.specs.Doubles.{nought, absolute, above}
use Rattle.doubles.specs.Sizes.{at_least}
use Rattle.doubles.proofs.Sizes.{not_small}
use Rattle.simple_convergency.specs.Stop.{least_tolerance, least_power, greatest_limit, bad_tolerance, either_bad, checked_of, found_at}
use Rattle.simple_convergency.specs.declared.StopRule.{StopRule}
use Rattle.simple_convergency.specs.declared.Tolerances.{Tolerances}
use Rattle.std.specs.Prelude.{Result, Ok, Err}
use Rattle.simple_convergency.specs.declared.BadRule.{BadRule}
use Rattle.simple_convergency.specs.declared.BadRule.TheVariants.{Tolerance, Limit}
use Rattle.simple_convergency.specs.StopLaws.{Good, Passed}

-- the least tolerance is 1 * 2 ^ -300
pub least_tolerance_value : least_tolerance ≡ fin false 1 (negsuc (least_power - 1))
unfolding of_bits
least_tolerance_value = refl

pub both_good : (tolerances : Tolerances) → either_bad tolerances ≡ false → Good tolerances
unfolding either_bad
both_good tolerances e = go (bad_tolerance tolerances.value) refl e
  where
    go : (b : Bool) → bad_tolerance tolerances.value ≡ b → cond b true (bad_tolerance tolerances.point) ≡ false → Good tolerances
    go true v e = absurd (true≢false e)
    go false v e = record { of_values = v; of_points = e }

pub good_both : {tolerances : Tolerances} → Good tolerances → either_bad tolerances ≡ false
unfolding either_bad
good_both g = rw g.of_values g.of_points

-- ---- the check: either tolerance that is bad refuses the rule, whatever the other is

pub value_bad : (t : Tolerances) {f : Bool} → f ≡ bad_tolerance t.value → f ≡ true → either_bad t ≡ true
unfolding either_bad
value_bad t e h = rw (← e, h)

pub point_bad : (t : Tolerances) {f : Bool} → f ≡ bad_tolerance t.point → f ≡ true → either_bad t ≡ true
unfolding either_bad
point_bad t e h = rw (← e, h) (go (bad_tolerance t.value))
  where
    go : (b : Bool) → cond b true true ≡ true
    go true = refl
    go false = refl

none_bad : (t : Tolerances) {f g : Bool} → f ≡ bad_tolerance t.value → f ≡ false → g ≡ bad_tolerance t.point → g ≡ false → either_bad t ≡ false
none_bad t v x p y = good_both (record { of_values = sym v ∙ x; of_points = sym p ∙ y })

module _ (t : Tolerances) (limit : ℕ) {r : Result StopRule BadRule} where
  pub tolerance_refused : either_bad t ≡ true → r ≡ Err Tolerance → r ≡ checked_of t limit
  unfolding checked_of
  tolerance_refused e k = rw e k

  -- where neither is
  module _ {f g : Bool} (v : f ≡ bad_tolerance t.value) (x : f ≡ false) (p : g ≡ bad_tolerance t.point) (y : g ≡ false) where
    pub limit_refused : greatest_limit < limit → r ≡ Err Limit → r ≡ checked_of t limit
    unfolding checked_of
    limit_refused h k = rw (none_bad t v x p y, lt-ltb greatest_limit limit h) k

    pub rule_given : limit ≤ greatest_limit → r ≡ Ok (record { tolerances = t; limit = limit }) → r ≡ checked_of t limit
    unfolding checked_of
    rule_given h k = rw (none_bad t v x p y, le-ltb greatest_limit limit h) k

pub passed : (tolerances : Tolerances) (limit : ℕ) (stop : StopRule) → checked_of tolerances limit ≡ Ok stop → Passed tolerances limit stop
unfolding checked_of
passed tolerances limit stop e = go (either_bad tolerances) (ltb greatest_limit limit) refl refl e
  where
    go :
        (b c : Bool) → either_bad tolerances ≡ b → ltb greatest_limit limit ≡ c → cond b (Err Tolerance) (cond c (Err Limit) (Ok (record { tolerances = tolerances; limit = limit }))) ≡ Ok stop →
        Passed tolerances limit stop
    go true c p q e = absurd (let z : ◌≡◌ {A = ℕ} 0 1 = cc in omega arith)
    go false true p q e = absurd (let z : ◌≡◌ {A = ℕ} 0 1 = cc in omega arith)
    go false false p q e = record { same_tolerances = cc; same_limit = cc; good = both_good tolerances p; in_range = ltb-false greatest_limit limit q }

-- a tolerance that passed is not below the least
pub least_below : (tolerance : Float) → bad_tolerance tolerance ≡ false → T (le least_tolerance tolerance)
unfolding bad_tolerance is_nan of_bits
least_below tolerance e = go (finite tolerance) refl e
  where
    go : (b : Bool) → finite tolerance ≡ b → cond b (lt tolerance least_tolerance) true ≡ false → T (le least_tolerance tolerance)
    go true f e = no_lt_le least_tolerance tolerance tt (finite_num tolerance (rw f tt)) (λ t. rw e at t)
    go false f e = absurd (true≢false e)

-- it is above zero
pub good_above : (tolerance : Float) → bad_tolerance tolerance ≡ false → above tolerance ≡ true
unfolding lt of_bits
good_above tolerance e = is_true (lt nought tolerance) (lt_le_trans nought least_tolerance tolerance tt (least_below tolerance e))

-- a finite value that is not found is 2 ^ -300 or more in size
pub not_found_size : (stop : StopRule) (y : Float) → bad_tolerance stop.tolerances.value ≡ false → finite y ≡ true → found_at stop y ≡ false → T (at_least least_power y)
unfolding found_at
not_found_size stop y g f n = not_small (least_power - 1) y (of_true (finite y) f) (rw least_tolerance_value at (less (lt (absolute y) least_tolerance) (λ t. T_not (lt (absolute y) stop.tolerances.value) (rw n tt) (lt_le_trans (absolute y) least_tolerance stop.tolerances.value t (least_below stop.tolerances.value g)))))
  where
    less : (b : Bool) → (T b → ⊥) → b ≡ false
    less true h = absurd (h tt)
    less false h = refl
