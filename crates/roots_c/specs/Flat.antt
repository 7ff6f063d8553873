-- A search as C calls it: a method by its number, and an outcome as a kind, three numbers and four tallies. Definitions only.
use Rattle.std.specs.Prelude.{ℕ, cond, List, Option, None, Some, Float}
use Rattle.numerical.specs.Answers.{kind_of, numbers_of, padded, counts_of, refused_at_once}
use Rattle.numerical.specs.declared.Outcome.{Outcome}
use Rattle.simple_convergency.specs.Stop.{tolerances_of}
use Rattle.simple_convergency.specs.declared.Tolerances.{Tolerances}
use Rattle.records.specs.Records.{between}
use Rattle.roots.specs.Calls.{answer}
use Rattle.roots.specs.Methods.{method_of}
use Rattle.roots.specs.declared.Method.{Method}

-- 1 Brent, 2 Illinois, 3 secant, 4 Newton from the first start, 5 polynomial search
unfoldable pub chosen_by : ℕ → Float → Float → Option Method
chosen_by n first second = cond (between 1 5 n) (Some (method_of n first second)) None

-- an unknown method is refused with 0, which is no refusal's number, before anything else is looked at
abbrev pub outcome_of : List Float → Option Method → Tolerances → ℕ → Outcome
outcome_of a (Some method) tolerances limit = answer a method tolerances limit
outcome_of a None tolerances limit = refused_at_once 0

-- ---- what the call gives back, and what it leaves in its two buffers

module _ (a : List Float) (method : ℕ) (first second value point : Float) (limit : ℕ) where
  abbrev pub flat_outcome : Outcome
  flat_outcome = outcome_of a (chosen_by method first second) (tolerances_of value point) limit

  abbrev pub flat_kind : ℕ
  flat_kind = kind_of flat_outcome.answer

  abbrev pub flat_numbers : List Float
  flat_numbers = padded (numbers_of flat_outcome.answer)

  abbrev pub flat_tallies : List ℕ
  flat_tallies = counts_of flat_outcome.progress

-- the version of the interface that C sees
abbrev pub version : ℕ
version = 3
