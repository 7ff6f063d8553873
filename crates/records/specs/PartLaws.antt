-- A record by its parts. Definitions only.
use Rattle.std.specs.Prelude.{ℕ, Float}
use mathlib.Core.List.{List}
use Rattle.numerical.specs.declared.Answer.{Answer}
use Rattle.numerical.specs.declared.Progress.{Progress}
use Rattle.simple_convergency.specs.declared.Tolerances.{Tolerances}
use Rattle.roots.specs.declared.Method.{Method}
use Rattle.rows.specs.Layouts.{Layout, end}
use Rattle.records.specs.Records.{padded}
use Rattle.records.specs.Parts.{answer_layout, progress_layout}
use Rattle.records.specs.declared.Record.{Record}

abbrev pub CallNext : Type 0
CallNext = ℕ → List Float → ℕ → Method → Tolerances → ℕ → Layout Record

abbrev pub record_held : ℕ → List Float → ℕ → Method → Tolerances → ℕ → Answer → Progress → Record
record_held kind coefficients count method tolerances limit answer progress =
    record { kind = kind; coefficients = padded coefficients; count = count; method = method; tolerances = tolerances; limit = limit; outcome = record { answer = answer; progress = progress } }

abbrev pub after_call : CallNext
after_call kind coefficients count method tolerances limit = answer_layout (λ answer. progress_layout (λ progress. end (record_held kind coefficients count method tolerances limit answer progress)))
