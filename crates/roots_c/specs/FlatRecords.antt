-- Records as C writes and reads them: a call and its answer as numbers and buffers. Definitions only.
use Rattle.std.specs.Prelude.{ℕ, ◌-◌, cond, List, [], ◌∷◌, eqb, ltb, length, take, get_or, Float, Option, None, Some, Result, Ok, Err, ◌++◌}
use Rattle.std.specs.Float.{nan}
use Rattle.numerical.specs.Answers.{kind_of, numbers_of, counts_of}
use Rattle.numerical.specs.Answers as numerical
use Rattle.numerical.specs.declared.Answer.{Answer}
use Rattle.numerical.specs.declared.Answer.TheVariants.{ByValue, ByWidth, Refused}
use Rattle.numerical.specs.declared.Outcome.{Outcome}
use Rattle.simple_convergency.specs.Stop.{most_coefficients, tolerances_of}
use Rattle.simple_convergency.specs.declared.Tolerances.{Tolerances}
use Rattle.roots.specs.Calls.{two_starts}
use Rattle.roots.specs.Methods.{method_number}
use Rattle.roots.specs.declared.Method.{Method}
use Rattle.records.specs.Records.{between, blank, padded, progress_of, refusal_number, written_to, left_by, reading_of}
use Rattle.records.specs.declared.Record.{Record}
use Rattle.records.specs.declared.Reading.{Reading}
use Rattle.records.specs.declared.Refusal.{Refusal}
use Rattle.records.specs.declared.Refusal.TheVariants.{NoRecord}
use Rattle.roots_c.specs.Flat.{chosen_by}

-- ---- what is written

-- the answer of a kind with its numbers; any other number is no answer's kind, and becomes a refusal that no record has
unfoldable pub answer_from : ℕ → Float → Float → Float → Answer
answer_from kind x y z =
    cond (eqb kind 0) (ByValue x y)
    (cond (eqb kind 1) (ByWidth x y z)
    (cond (between 16 19 kind) (Refused (kind - 10)) (Refused 0)))

-- a mark, or 3, which no record has
unfoldable pub mark_from : ℕ → ℕ
mark_from mark = cond (ltb 2 mark) 3 mark

abbrev pub outcome_from : ℕ → List Float → List ℕ → Outcome
outcome_from kind numbers tallies =
    record {
      answer = answer_from kind (get_or numbers 0 nan) (get_or numbers 1 nan) (get_or numbers 2 nan);
      progress = progress_of (get_or tallies 0 0) (get_or tallies 1 0) (get_or tallies 2 0) (mark_from (get_or tallies 3 0));
    }

-- a record's own copy of the coefficients: at most 16 of those lent, with their count
abbrev pub record_from : ℕ → List Float → Method → Tolerances → ℕ → Outcome → Record
record_from recordKind a method tolerances limit outcome = record { kind = recordKind; coefficients = padded (take most_coefficients a); count = length a; method = method; tolerances = tolerances; limit = limit; outcome = outcome }

-- 0, or the refusal's number
abbrev pub refusal_of : {A : Type 0} → Result A Refusal → ℕ
refusal_of (Ok done) = 0
refusal_of (Err refusal) = refusal_number refusal

-- the record's bytes, or 0 where it is refused
abbrev pub bytes_in : Result ℕ Refusal → ℕ
bytes_in (Ok n) = n
bytes_in (Err refusal) = 0

-- an unknown method has no record
module _ (recordKind : ℕ) (a : List Float) (tolerances : Tolerances) (limit : ℕ) (outcome : Outcome) (before : List ℕ) where
  abbrev pub verdict_for : Option Method → Result ℕ Refusal
  verdict_for (Some method) = written_to (record_from recordKind a method tolerances limit outcome) (length before)
  verdict_for None = Err NoRecord

  abbrev pub left_for : Option Method → List ℕ
  left_for (Some method) = left_by (record_from recordKind a method tolerances limit outcome) before (written_to (record_from recordKind a method tolerances limit outcome) (length before))
  left_for None = before

-- the call that C makes: what it says, and what it leaves in the buffer
module _ (recordKind : ℕ) (a : List Float) (method : ℕ) (first second value point : Float) (limit kind : ℕ) (numbers : List Float) (tallies before : List ℕ) where
  abbrev pub flat_verdict : Result ℕ Refusal
  flat_verdict = verdict_for recordKind a (tolerances_of value point) limit (outcome_from kind numbers tallies) before (chosen_by method first second)

  abbrev pub flat_bytes : List ℕ
  flat_bytes = left_for recordKind a (tolerances_of value point) limit (outcome_from kind numbers tallies) before (chosen_by method first second)

-- ---- what was read

-- the starts, the second of them +0.0 where the method has one, the value tolerance and the point tolerance
abbrev pub points_of : Method → Tolerances → List Float
points_of method tolerances = two_starts method ++ (tolerances.value ∷ tolerances.point ∷ [])

-- length, method, count, limit, the answer's kind, the record's kind; all zero beside a refusal
abbrev pub words_of : Result Reading Refusal → List ℕ
words_of (Ok reading) = reading.length ∷ method_number reading.content.method ∷ reading.content.count ∷ reading.content.limit ∷ kind_of reading.content.outcome.answer ∷ reading.content.kind ∷ []
words_of (Err refusal) = 0 ∷ 0 ∷ 0 ∷ 0 ∷ 0 ∷ 0 ∷ []

-- what stands beside a refusal is the blank record
abbrev pub content_of : Result Reading Refusal → Record
content_of (Ok reading) = reading.content
content_of (Err refusal) = blank

module _ (bytes : List ℕ) where
  abbrev pub read_refusal : ℕ
  read_refusal = refusal_of (reading_of bytes)

  abbrev pub read_coefficients : List Float
  read_coefficients = (content_of (reading_of bytes)).coefficients

  abbrev pub read_points : List Float
  read_points = points_of (content_of (reading_of bytes)).method (content_of (reading_of bytes)).tolerances

  abbrev pub read_numbers : List Float
  read_numbers = numerical.padded (numbers_of (content_of (reading_of bytes)).outcome.answer)

  abbrev pub read_tallies : List ℕ
  read_tallies = counts_of (content_of (reading_of bytes)).outcome.progress

  abbrev pub read_words : List ℕ
  read_words = words_of (reading_of bytes)
