-- Records played back: which records stand in bytes, what each one's call gives now, and the verdict. Definitions only.
use Rattle.std.specs.Prelude.{ℕ, zero, suc, ◌+◌, cond, List, [], ◌∷◌, ◌++◌, Option, None, Some, Result, Ok, Err, eqb, length, take, drop, get_or}
use Rattle.numerical.specs.Answers.{kind_of, numbers_of, padded, counts_of}
use Rattle.numerical.specs.declared.Outcome.{Outcome}
use Rattle.roots.specs.Calls.{answer}
use Rattle.records.specs.Records.{bits_of, bytes_of, reading_of}
use Rattle.records.specs.declared.Record.{Record}
use Rattle.records.specs.declared.Reading.{Reading}
use Rattle.records.specs.declared.Refusal.{Refusal}
use Rattle.records.specs.declared.Refusal.TheVariants.{NoRecord}
use Rattle.playback.specs.declared.Field.{Field}
use Rattle.playback.specs.declared.Field.TheVariants.{Kind, First, Second, Third, Steps, Values, Derivatives, Mark}
use Rattle.playback.specs.declared.Difference.{Difference}
use Rattle.playback.specs.declared.Playback.{Playback}
use Rattle.playback.specs.declared.Playback.TheVariants as playback

-- ---- the fields of an answer

-- "in record order"
abbrev pub in_order : List Field
in_order = Kind ∷ First ∷ Second ∷ Third ∷ Steps ∷ Values ∷ Derivatives ∷ Mark ∷ []

abbrev pub field_at : ℕ → Field
field_at place = get_or in_order place Mark

abbrev pub field_number : Field → ℕ
field_number Kind = 1
field_number First = 2
field_number Second = 3
field_number Third = 4
field_number Steps = 5
field_number Values = 6
field_number Derivatives = 7
field_number Mark = 8

-- what a record holds of each: the kind, the bits of three numbers, of which those that the kind has not are +0.0, the tallies and the mark
unfoldable pub fields_of : Outcome → List ℕ
fields_of o = kind_of o.answer ∷ (bits_of (padded (numbers_of o.answer)) ++ counts_of o.progress)

-- ---- one record

-- "the first field that differs"; "Fields compare as bits, in record order"
abbrev pub difference_in : List Field → List ℕ → List ℕ → Option Difference
difference_in [] recorded present = None
difference_in (f ∷ fields) [] present = None
difference_in (f ∷ fields) (m ∷ recorded) [] = None
difference_in (f ∷ fields) (m ∷ recorded) (n ∷ present) = cond (eqb m n) (difference_in fields recorded present) (Some (record { field = f; recorded = m; present = n }))

unfoldable pub first_difference : List ℕ → List ℕ → Option Difference
first_difference recorded present = difference_in in_order recorded present

-- "run each again": its call, as it stands
abbrev pub answer_now : Record → Outcome
answer_now r = answer (take r.count r.coefficients) r.method r.tolerances r.limit

-- "and compare"
unfoldable pub compared_in : Record → Option Difference
compared_in r = first_difference (fields_of r.outcome) (fields_of (answer_now r))

-- ---- the records in bytes

-- one after the other from the start, and the bytes behind the last, at whose start there is none
pub record Series : Type 0 where
  pub records : List Record
  pub behind : List ℕ

abbrev pub none : List ℕ → Series
none bytes = record { records = []; behind = bytes }

abbrev pub led : Record → Series → Series
led r more = record { records = r ∷ more.records; behind = more.behind }

-- the next record begins where this one ends
abbrev pub onward : List ℕ → Result Reading Refusal → (Reading → Series) → Series
onward bytes (Ok reading) next = next reading
onward bytes (Err refusal) next = none bytes

-- at most k records
unfoldable pub series_within : ℕ → List ℕ → Series
series_within zero bytes = none bytes
series_within (suc k) bytes = onward bytes (reading_of bytes) (λ reading. led reading.content (series_within k (drop reading.length bytes)))

-- a record has a byte at least, so there are no more records than bytes
unfoldable pub series_in : List ℕ → Series
series_in bytes = series_within (length bytes) bytes

-- ---- the verdict

abbrev pub settled : ℕ → ℕ → Option Difference → Playback → Playback
settled count offset None later = later
settled count offset (Some difference) later = playback.Differs count offset difference

-- behind `count` records that agree, of `offset` bytes: "the number of records that agree before the first that doesn't, with that one's byte offset
-- and the first field that differs, or all agree"; "11 with the offset, if a bad record comes first"
abbrev pub verdict_over : ℕ → ℕ → List Record → List ℕ → Playback
verdict_over count offset [] [] = playback.Agree count
verdict_over count offset [] (b ∷ behind) = playback.Refused NoRecord count offset
verdict_over count offset (r ∷ more) behind = settled count offset (compared_in r) (verdict_over (count + 1) (offset + length (bytes_of r)) more behind)

unfoldable pub played_from : ℕ → ℕ → List ℕ → Playback
played_from count offset bytes = verdict_over count offset (series_in bytes).records (series_in bytes).behind

-- "An empty buffer agrees with 0 records"
abbrev pub played_back : List ℕ → Playback
played_back bytes = played_from 0 0 bytes
