-- The theorems about what specs/Demand3.antt defines.
use Rattle.std.specs.Prelude.{ℕ, false, List, ◌⊎◌, ◌≡◌, Float}
use Rattle.std.proofs.Common.{sym, subst}
use Rattle.doubles.specs.Sums.{minus_zero}
use Rattle.polynom.proofs.TermLaws.{value_not_minus}
use Rattle.searching.proofs.ExactLaws.{decided, tests_honest, points_finite, exactly_by_value, exactly_by_width, exactly_six, exactly_seven, exactly_eight, exactly_nine}
use Rattle.simple_convergency.specs.declared.Tolerances.{Tolerances}
use Rattle.roots.specs.Calls.{starts_of, answer}
use Rattle.roots.specs.declared.Method.{Method}
use Rattle.roots.specs.declared.Method.TheVariants.{RegulaFalsi}
use Rattle.promises.specs.Searches.{Passes, Held, Bracketed}
use Rattle.promises.specs.EarlyLaws.{at_once}
use Rattle.promises.proofs.EarlyLaws.{passes_at_once}
use Rattle.promises.proofs.AnswerLaws.{counts_of, history_truthful}
use Rattle.promises.proofs.EndLaws.{reason_of, value_true, width_true}
use Rattle.promises.proofs.PairLaws.{pairs_of, pairs_nested, root_by_value, root_by_width}
use Rattle.promises.proofs.BoundLaws.{values_within, derivatives_within}
use Rattle.promises.proofs.MarkLaws.{two_marks}
use Rattle.promises.proofs.HistoryLaws.{events_of, width_of, values_listed, pairs_there, pairs_none, flat_of, marks_of, six_of}
use Rattle.promises.specs.Demand3.{Demand3, Demand3Pairs}

module _ (a : List Float) (m : Method) (tolerances : Tolerances) (limit : ℕ) (passes : Passes a m tolerances limit) (doubles : Held (starts_of m)) where
  at_once_lem : at_once a m tolerances limit ≡ 0
  at_once_lem = passes_at_once a m tolerances limit passes

  pub demand_3 : Demand3 a m tolerances limit (answer a m tolerances limit)
  demand_3 =
      let z = at_once_lem in
      let r = reason_of a m tolerances limit z doubles in
      let t = value_true a m tolerances limit z doubles in
      record {
        counts = counts_of a m tolerances limit z;
        values_counted = values_listed a m tolerances limit z;
        values_bound = values_within a m tolerances limit z;
        derivatives_bound = derivatives_within a m tolerances limit z;
        evaluations = history_truthful a m tolerances limit;
        events = events_of a m tolerances limit z;
        marks = marks_of a m tolerances limit z;
        reasons = r;
        tests = tests_honest r;
        points = points_finite r;
        decides = decided r;
        by_value_exactly = exactly_by_value r;
        by_value = t;
        no_minus_zero = λ root y e. subst (λ (x : Float). minus_zero x ≡ false) (sym (t root y e).0) (value_not_minus a root);
        by_width_exactly = exactly_by_width r;
        by_width = width_true a m tolerances limit z doubles;
        width_gives = width_of a m tolerances limit z;
        six_exactly = exactly_six r;
        six = six_of a m tolerances limit z doubles;
        seven_exactly = exactly_seven r;
        seven = flat_of a m tolerances limit z doubles;
        eight_exactly = exactly_eight r;
        nine_exactly = exactly_nine r;
      }

  pub demand_3_pairs : (u v : Float) → Bracketed m u v → Demand3Pairs a m tolerances limit u v (answer a m tolerances limit)
  demand_3_pairs u v starts =
      let z = at_once_lem in
      record {
        pairs_exist = pairs_there a m tolerances limit z u v starts;
        before_pairs = pairs_none a m tolerances limit z u v starts;
        pairs = pairs_of a m tolerances limit z doubles u v starts;
        nested = pairs_nested a m tolerances limit z doubles u v starts;
        root_between_by_value = root_by_value a m tolerances limit z doubles u v starts;
        root_between_by_width = root_by_width a m tolerances limit z doubles u v starts;
      }

-- ---- of every call, 1 to 5 or not: Illinois has mark 0 or 2 and never 1, since its values and weights are too large for their product to round to zero
pub illinois_marks : (a : List Float) (from to : Float) (tolerances : Tolerances) (limit : ℕ) → ((answer a (RegulaFalsi from to) tolerances limit).progress.mark ≡ 0) ⊎ ((answer a (RegulaFalsi from to) tolerances limit).progress.mark ≡ 2)
illinois_marks a from to tolerances limit = two_marks a from to tolerances limit
