-- The theorems about what specs/Cases.antt defines.
use Rattle.std.specs.Prelude.{true, ◌≡◌, refl, take}
use Rattle.std.specs.Float.Ieee.{of_bits, to_bits, lt, le, eq, ne, neg, sub, add, mul, div}
use Rattle.doubles.specs.Doubles.{absolute, same_sign, opposite_sign, outside, pulled}
use Rattle.numerical.specs.Tallies.{mark_after}
use Rattle.numerical.specs.Middle.{at_least, at_most, crosses, middle_of}
use Rattle.simple_convergency.specs.Stop.{bad_tolerance, either_bad, checked_of, found_at, flat_at, converged_at}
use Rattle.polynom.specs.Polynom.{sums, value, sums_both, value_and_derivative, newton_point, evaluated, evaluated_both}
use Rattle.searching.specs.Programs.{rising, bind, test, stops, sampled, sampled_both, value_at, both_at, offered, pulled_into, product_departs, bracketed, steps_to, narrows_to, run, searches, play, answer_of}
use Rattle.brent.specs.Brent as br
use Rattle.brent.specs.BrentRust as rb
use Rattle.regula_falsi.specs.RegulaFalsi as rf
use Rattle.secant.specs.Secant as sec
use Rattle.newton_raphson.specs.NewtonRaphson as nr
use Rattle.polynom_search.specs.PolynomSearch as ps
use Rattle.roots.specs.Calls.{bad_count, all_finite, answer}
use Rattle.promises.specs.Cases.{doubles, same_bits, agrees, is_met, all_met, cases, limits, apart, reaching, reaches_bounds, all_reach, rust_cases, all_met_again}

-- W1 to W5, and these
pub bounds_reached : (all_reach (take 5 cases) ≡ true) × (all_reach reaching ≡ true)
unfolding all_reach cases reaching reaches_bounds
bounds_reached = (refl, refl)

-- ---- every call of a list gets exactly the answer that stands there

all_hold : (all_met cases ≡ true) × (all_met limits ≡ true) × (all_met apart ≡ true) × (all_met reaching ≡ true) × (all_met_again rust_cases ≡ true)
unfolding all_met cases limits apart reaching all_met_again rust_cases is_met agrees doubles same_bits answer bad_count all_finite checked_of bad_tolerance either_bad found_at flat_at converged_at absolute same_sign opposite_sign outside pulled at_least at_most crosses middle_of mark_after sums value sums_both value_and_derivative evaluated evaluated_both bind test stops sampled sampled_both value_at both_at offered pulled_into rising product_departs bracketed steps_to narrows_to run searches play answer_of br.arrange br.start_of br.opened br.second_at br.first_at br.opening br.inverse_quadratic br.chord br.three_values br.guess_of br.beyond_quarter br.too_slow br.stalls br.bisects br.used_of br.next_of br.pair_after br.step_departs br.arrived br.landed br.pulled_in br.step_with br.step_from br.turn_from br.brent_program br.brent rb.rust_arrived rb.rust_step rb.rust_turn rb.rust_program rb.rust_brent rf.second_at rf.first_at rf.ordered rf.opening rf.candidate_of rf.replaced_of rf.departs rf.arrived rf.landed rf.pulled_in rf.turn_from rf.illinois_program rf.regula_falsi sec.second_at sec.first_at sec.opening sec.candidate_of sec.arrived sec.landed sec.turn_from sec.secant_program sec.secant newton_point nr.landed nr.onward nr.later_at nr.turn_from nr.nudged_to nr.nudge nr.first_at nr.opening nr.newton_program nr.newton_raphson ps.second_at ps.first_at ps.ordered ps.opening ps.replaced_of ps.chosen ps.closer ps.in_pair ps.usable ps.at_middle ps.step_at ps.width_at ps.pulled_in ps.at_middle_of ps.turn_from ps.polynom_program ps.polynom_search lt le eq ne neg sub add mul div of_bits to_bits
all_hold = (refl, refl, refl, refl, refl)

pub cases_hold : all_met cases ≡ true
cases_hold = all_hold.0

pub limits_hold : all_met limits ≡ true
limits_hold = all_hold.1

pub apart_hold : all_met apart ≡ true
apart_hold = all_hold.2

pub reaching_hold : all_met reaching ≡ true
reaching_hold = all_hold.3

pub rust_cases_hold : all_met_again rust_cases ≡ true
rust_cases_hold = all_hold.4
