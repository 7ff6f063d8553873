-- What the laws of searches give for regula falsi: the loop's shape, the bounds and the counts.
use Rattle.std.specs.Prelude.{◌+◌, ◌*◌, ◌≤◌, List, Bool, true, false, not, ◌&&◌, ◌||◌, ◌≡◌, refl, Float}
use Rattle.std.proofs.Common.{arith, mul-one, mul-zero}
use Rattle.std.proofs.Math.Nat.{le_refl}
use Rattle.std.specs.Float.Ieee.{lt}
use Rattle.numerical.specs.Tallies.{fresh}
use Rattle.simple_convergency.specs.Stop.{turns_of}
use Rattle.simple_convergency.specs.declared.StopRule.{StopRule}
use Rattle.searching.specs.Programs.{rising}
use Rattle.searching.specs.Bounds.{Within, More}
use Rattle.searching.proofs.BoundLaws.{within_done, within_test, within_stops, within_ruled, within_pulled, within_value, within_offered, within_bracketed, within_narrows, within_less, within_searches, answer_within}
use Rattle.regula_falsi.specs.declared.Edge.{Edge}
use Rattle.regula_falsi.specs.declared.Edge.TheVariants.{EdgeX1, NoEdge, EdgeX2}
use Rattle.regula_falsi.specs.declared.End.{End}
use Rattle.regula_falsi.specs.RegulaFalsi.{right_after, second_at, first_at, ordered, opening, pair_of, arrived, landed, pulled_in, turn_from, illinois_program, regula_falsi, elsewhere}
use Rattle.regula_falsi.specs.declared.Illinois.{Illinois}

within_ordered : (stop : StopRule) (x1 x2 : Float) → Within 2 0 0 (ordered stop x1 x2)
unfolding ordered first_at second_at
within_ordered stop x1 x2 =
    within_value x1 (λ p. within_stops stop _ within_done (within_value x2 (λ q. within_stops stop _ within_done (within_bracketed stop p q _))))

pub within_opening : (stop : StopRule) (a b : Float) → Within 2 0 0 (opening stop a b)
unfolding opening rising
within_opening stop a b = within_test (lt b a) (within_ordered stop b a) (within_ordered stop a b)

pub within_turn : (stop : StopRule) (s : Illinois) → Within 1 0 1 (turn_from stop s)
unfolding turn_from pulled_in landed arrived
within_turn stop s =
    within_offered _
    (λ x. within_pulled _ _ x
    (λ y. within_stops stop _ within_done
    (within_value y (λ p. within_stops stop _ within_done (within_ruled 1 _ (within_narrows pair_of _))))))

-- at most three of each
pub turn_small : (stop : StopRule) (s : Illinois) → Within 3 3 3 (turn_from stop s)
turn_small stop s = within_less (within_turn stop s) (omega arith) (omega arith) (omega arith)

pub small_opening : (stop : StopRule) (a b : Float) → Within 3 3 3 (opening stop a b)
small_opening stop a b = within_less (within_opening stop a b) (omega arith) (omega arith) (omega arith)

module _ (cs : List Float) (stop : StopRule) (a b : Float) where
  within_search : More (2 + turns_of stop * 1) (0 + turns_of stop * 0) (0 + turns_of stop * 1) fresh (regula_falsi cs stop a b).progress
  unfolding regula_falsi illinois_program
  within_search = answer_within cs (within_searches 2 0 0 1 0 1 (turns_of stop) (within_opening stop a b) (λ r. le_refl (turns_of stop)) (within_turn stop))

  -- "Values at most 2 + m"
  pub regula_falsi_values : (regula_falsi cs stop a b).progress.tally.values.0 ≤ 2 + turns_of stop
  regula_falsi_values = let h = within_search.values in omega (arith, mul-one (turns_of stop))

  -- "Illinois, secant and Brent take no derivatives"
  pub regula_falsi_derivatives : (regula_falsi cs stop a b).progress.tally.derivatives.0 ≤ 0
  regula_falsi_derivatives = let h = within_search.derivatives in omega (arith, mul-zero (turns_of stop))

-- the right end stays as it is where the step before replaced another than the left
pub right_stays : (edge : Edge) (e : End) → (edge ≡ EdgeX1 → ⊥) → e ≡ right_after edge e
right_stays EdgeX1 e n = absurd (n refl)
right_stays NoEdge e n = refl
right_stays EdgeX2 e n = refl

-- the three tests together, as the code has them
pub elsewhere_tests : (same first second : Bool) → ((same && not first) || (not same && (first || not second))) ≡ elsewhere same first second
elsewhere_tests true true second = refl
elsewhere_tests true false second = refl
elsewhere_tests false true second = refl
elsewhere_tests false false second = refl
