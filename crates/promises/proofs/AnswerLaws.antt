-- What a call answers: a refusal at once, or what its program answers, with the history of that.
use Rattle.std.specs.Prelude.{ℕ, zero, suc, ◌≤◌, Bool, List, [], ◌∷◌, ltb, length, Float}
use Rattle.std.proofs.Common.{arith, sym, ◌∙◌, subst}
use Rattle.std.proofs.Math.Bool.{true, false, cond}
use Rattle.std.proofs.Math.Path.{◌≡◌, refl, ap}
use borrow.Author.Tests.{ltb-false}
use Rattle.doubles.specs.Doubles.{above}
use Rattle.numerical.specs.Answers.{refused_at_once}
use Rattle.numerical.specs.declared.Answer.{Answer}
use Rattle.numerical.specs.declared.Outcome.{Outcome}
use Rattle.numerical.specs.declared.Progress.{Progress}
use Rattle.simple_convergency.specs.Stop.{greatest_limit, either_bad, checked_of}
use Rattle.simple_convergency.specs.StopLaws.{Good}
use Rattle.simple_convergency.proofs.StopLaws.{both_good, good_above}
use Rattle.simple_convergency.specs.declared.StopRule.{StopRule}
use Rattle.std.specs.Prelude.{Ok, Err}
use Rattle.simple_convergency.specs.declared.BadRule.TheVariants.{Tolerance, Limit}
use Rattle.searching.specs.Programs.{Prog, done, ask, ask_both, log, Event, asked, asked_both, noted, oracle, play, answer_of}
use Rattle.searching.specs.Histories.{listed, history, values_in, derivatives_in, steps_in, mark_in}
use Rattle.searching.proofs.ProgramLaws.{play_counted, tallies_are_counts}
use Rattle.searching.specs.Histories.{counted}
use Rattle.polynom.specs.Polynom.{evaluated, evaluated_both}
use Rattle.searching.specs.Keeps.{Ends}
use Rattle.brent.specs.Brent.{brent}
use Rattle.regula_falsi.specs.RegulaFalsi.{regula_falsi}
use Rattle.secant.specs.Secant.{secant}
use Rattle.newton_raphson.specs.NewtonRaphson.{newton_raphson}
use Rattle.polynom_search.specs.PolynomSearch.{polynom_search}
use Rattle.simple_convergency.specs.declared.Tolerances.{Tolerances}
use Rattle.roots.specs.Calls.{bad_count, all_finite, starts_of, found_by, found_under, answer}
use Rattle.roots.specs.declared.Method.{Method}
use Rattle.roots.specs.declared.Method.TheVariants.{Brent, RegulaFalsi, Secant, NewtonRaphson, Polynom}
use Rattle.promises.specs.EarlyLaws.{at_once}
use Rattle.promises.specs.Counts.{rule_of}
use Rattle.promises.specs.Searches.{program_of, history_of, Truthful}

-- each method's definition is its program's answer
pub found_by_program : (a : List Float) (stop : StopRule) (m : Method) → found_by a stop m ≡ answer_of a (program_of stop m)
unfolding brent regula_falsi secant newton_raphson polynom_search
found_by_program a stop (Brent from to) = refl
found_by_program a stop (RegulaFalsi from to) = refl
found_by_program a stop (Secant first second) = refl
found_by_program a stop (NewtonRaphson start) = refl
found_by_program a stop (Polynom from to) = refl

module _ (a : List Float) (m : Method) (tolerances : Tolerances) (limit : ℕ) where
  abbrev pub by_number : ℕ → Outcome
  by_number zero = answer_of a (program_of (rule_of tolerances limit) m)
  by_number (suc n) = refused_at_once (suc n)

  pub answer_is : answer a m tolerances limit ≡ by_number (at_once a m tolerances limit)
  unfolding answer at_once checked_of
  answer_is = go (bad_count (length a)) (all_finite a) (all_finite (starts_of m)) (either_bad tolerances) (ltb greatest_limit limit)
    where
      go :
          (b c d e f : Bool) →
          cond b (refused_at_once 1) (cond c (cond d (found_under a m (cond e (Err Tolerance) (cond f (Err Limit) (Ok (rule_of tolerances limit))))) (refused_at_once 3)) (refused_at_once 2))
          ≡ by_number (cond b 1 (cond c (cond d (cond e 4 (cond f 5 0)) 3) 2))
      go true c d e f = refl
      go false false d e f = refl
      go false true false e f = refl
      go false true true true f = refl
      go false true true false true = refl
      go false true true false false = found_by_program a (rule_of tolerances limit) m

  -- a call that passes 1 to 5
  pub record Passed : Type 0 where
    pub starts_finite : all_finite (starts_of m) ≡ true
    pub good : Good tolerances
    pub value_above : above tolerances.value ≡ true
    pub in_range : limit ≤ greatest_limit
    pub is_answer : answer a m tolerances limit ≡ answer_of a (program_of (rule_of tolerances limit) m)

  pub passed : at_once a m tolerances limit ≡ 0 → Passed
  unfolding at_once
  passed z =
      record {
        starts_finite = told.0;
        good = both_good tolerances told.1;
        value_above = good_above tolerances.value (both_good tolerances told.1).of_values;
        in_range = ltb-false greatest_limit limit told.2;
        is_answer = answer_is ∙ ap by_number z;
      }
    where
      told : (all_finite (starts_of m) ≡ true) × (either_bad tolerances ≡ false) × (ltb greatest_limit limit ≡ false)
      told = go (bad_count (length a)) (all_finite a) (all_finite (starts_of m)) (either_bad tolerances) (ltb greatest_limit limit) z
        where
          go : (b c d e f : Bool) → ◌≡◌ {A = ℕ} (cond b 1 (cond c (cond d (cond e 4 (cond f 5 0)) 3) 2)) 0 → (d ≡ true) × (e ≡ false) × (f ≡ false)
          go true c d e f z = absurd (omega arith)
          go false false d e f z = absurd (omega arith)
          go false true false e f z = absurd (omega arith)
          go false true true true f z = absurd (omega arith)
          go false true true false true z = absurd (omega arith)
          go false true true false false z = (refl, refl, refl)

-- what holds where a program ends holds of its answer and its history
pub at_answer : (a : List Float) {Q : Answer → List Event → Type 0} (g : Prog Answer) → Ends (oracle a) Q g [] → Q (answer_of a g).answer (history (oracle a) g)
unfolding answer_of history counted steps_in values_in derivatives_in mark_in
at_answer a {Q} g e = subst (λ (x : Answer). Q x (play listed (oracle a) g []).1) (sym same) e.there
  where
    same : (answer_of a g).answer ≡ (play listed (oracle a) g []).0
    same = ap (λ (r : Answer × Progress). r.0) (play_counted (oracle a) g [])

module _ (a : List Float) (m : Method) (tolerances : Tolerances) (limit : ℕ) (z : at_once a m tolerances limit ≡ 0) where
  told_answer : answer a m tolerances limit ≡ answer_of a (program_of (rule_of tolerances limit) m)
  told_answer = (passed a m tolerances limit z).is_answer

  pub answer_found : answer a m tolerances limit ≡ found_by a (rule_of tolerances limit) m
  answer_found = told_answer ∙ sym (found_by_program a (rule_of tolerances limit) m)

  pub counts_of : (answer a m tolerances limit).progress ≡ counted (history_of a m tolerances limit)
  counts_of = rw told_answer (tallies_are_counts a (program_of (rule_of tolerances limit) m))

-- every play asks the evaluator
play_truthful : {A : Type 0} (a : List Float) (g : Prog A) (h : List Event) → Truthful a h → Truthful a (play listed (oracle a) g h).1
unfolding play
play_truthful a (done r) h t = t
play_truthful a (ask x f) h t = play_truthful a (f (evaluated a x)) (asked x (evaluated a x) ∷ h) (refl, t)
play_truthful a (ask_both x f) h t = play_truthful a (f (evaluated_both a x)) (asked_both x (evaluated_both a x) ∷ h) (refl, t)
play_truthful a (log n g) h t = play_truthful a g (noted n ∷ h) t

pub history_truthful : (a : List Float) (m : Method) (tolerances : Tolerances) (limit : ℕ) → Truthful a (history_of a m tolerances limit)
unfolding history
history_truthful a m tolerances limit = play_truthful a (program_of (rule_of tolerances limit) m) [] tt
