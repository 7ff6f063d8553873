-- A record of a search: the row of numbers of a call and its answer, which rows are records, and what reading and writing bytes gives. Definitions only.
use Rattle.std.specs.Prelude.{ℕ, zero, suc, ◌-◌, Bool, true, false, cond, not, List, [], ◌∷◌, ◌++◌, ltb, eqb, length, take, drop, get_or, min, Float, Result, Ok, Err}
use Rattle.std.specs.Float.{nan, binary64}
use Rattle.std.specs.Float.Ieee.{of_bits, to_bits}
use Rattle.std.specs.Float.Ieee.Scale.{finite}
use Rattle.doubles.specs.Doubles.{nought}
use Rattle.numerical.specs.Answers.{kind_of, numbers_of, refused_at_once}
use Rattle.numerical.specs.declared.Answer.{Answer}
use Rattle.numerical.specs.declared.Answer.TheVariants.{ByValue, ByWidth, Refused}
use Rattle.numerical.specs.declared.Progress.{Progress}
use Rattle.simple_convergency.specs.Stop.{bad_tolerance, tolerances_of, one_eps, greatest_limit, most_coefficients}
use Rattle.simple_convergency.specs.declared.Tolerances.{Tolerances}
use Rattle.roots.specs.Calls.{starts_of}
use Rattle.roots.specs.Methods.{method_number, start_count, method_of}
use Rattle.roots.specs.declared.Method.{Method}
use Rattle.roots.specs.declared.Method.TheVariants.{Brent}
use Rattle.rows.specs.Layouts.{Layout, end, number, spell, fits, Read, held, wrong, read}
use Rattle.records.specs.declared.Record.{Record}
use Rattle.records.specs.declared.Reading.{Reading}
use Rattle.records.specs.declared.Refusal.{Refusal}
use Rattle.records.specs.declared.Refusal.TheVariants.{NoRoom, NoRecord}

-- ---- refusals

abbrev pub refusal_number : Refusal → ℕ
refusal_number NoRoom = 10
refusal_number NoRecord = 11

-- ---- the row of a record

-- "Doubles are written as their 64 bits"
unfoldable pub bits_of : List Float → List ℕ
bits_of [] = []
bits_of (x ∷ rest) = to_bits binary64 x ∷ bits_of rest

-- kind 1 has no head; kind 2 "begins 0, 2"
unfoldable pub head_row : ℕ → List ℕ
head_row kind = cond (eqb kind 1) [] (0 ∷ kind ∷ [])

-- in kind 1 one eps; in kind 2 "both tolerances follow the starts", the value tolerance first
unfoldable pub tolerances_row : ℕ → Tolerances → List ℕ
tolerances_row kind tolerances = cond (eqb kind 1) (to_bits binary64 tolerances.value ∷ []) (to_bits binary64 tolerances.value ∷ to_bits binary64 tolerances.point ∷ [])

-- of the coefficients those that are its own, 16 at most
abbrev pub own_count : Record → ℕ
own_count r = min r.count most_coefficients

-- the starts, the tolerances, the limit
unfoldable pub rule_row : ℕ → Method → Tolerances → ℕ → List ℕ
rule_row kind method tolerances limit = bits_of (starts_of method) ++ (tolerances_row kind tolerances ++ (limit ∷ []))

-- "method 1 to 5 (as in W1 to W5), coefficient count, coefficients", and then these
unfoldable pub call_row : Record → List ℕ
call_row r = head_row r.kind ++ (method_number r.method ∷ r.count ∷ (bits_of (take r.count r.coefficients) ++ rule_row r.kind r.method r.tolerances r.limit))

-- "then the answer kind (0 by value, 1 by width, otherwise 10 plus the refusal), its numbers"
unfoldable pub answer_row : Answer → List ℕ
answer_row answer = kind_of answer ∷ bits_of (numbers_of answer)

-- "steps, values, derivatives, mark"
unfoldable pub progress_row : Progress → List ℕ
progress_row p = p.tally.steps.0 ∷ p.tally.values.0 ∷ p.tally.derivatives.0 ∷ p.mark ∷ []

unfoldable pub row_of : Record → List ℕ
row_of r = call_row r ++ (answer_row r.outcome.answer ++ progress_row r.outcome.progress)

-- ---- the tests of single numbers

unfoldable pub between : ℕ → ℕ → ℕ → Bool
between least most n = cond (ltb n least) false (cond (ltb most n) false true)

-- "a double that isn't finite" is none
unfoldable pub is_double : ℕ → Bool
is_double n = finite (of_bits binary64 n)

-- finite and at least 2^-300
unfoldable pub is_tolerance : ℕ → Bool
is_tolerance n = not (bad_tolerance (of_bits binary64 n))

-- "a kind other than 0, 1 and 16 to 19" is none
unfoldable pub is_kind : ℕ → Bool
is_kind n = cond (ltb n 2) true (between 16 19 n)

-- a tally may be any number of 64 bits
unfoldable pub is_tally : ℕ → Bool
is_tally n = true

-- ---- what the numbers say

-- by value has two numbers, by width three, a refusal none
unfoldable pub numbers_for : ℕ → ℕ
numbers_for kind = cond (eqb kind 0) 2 (cond (eqb kind 1) 3 0)

unfoldable pub answer_of : ℕ → List Float → Answer
answer_of kind numbers =
    cond (eqb kind 0) (ByValue (get_or numbers 0 nan) (get_or numbers 1 nan))
    (cond (eqb kind 1) (ByWidth (get_or numbers 0 nan) (get_or numbers 1 nan) (get_or numbers 2 nan))
    (Refused (kind - 10)))

-- the method with its one or two starts
unfoldable pub started_at : ℕ → List Float → Method
started_at method starts = method_of method (get_or starts 0 nan) (get_or starts 1 nan)

-- 16 times plus zero
abbrev pub noughts : List Float
noughts = nought ∷ nought ∷ nought ∷ nought ∷ nought ∷ nought ∷ nought ∷ nought ∷ nought ∷ nought ∷ nought ∷ nought ∷ nought ∷ nought ∷ nought ∷ nought ∷ []

-- the coefficients, and plus zero up to 16
unfoldable pub padded : List Float → List Float
padded coefficients = coefficients ++ drop (length coefficients) noughts

abbrev pub progress_of : ℕ → ℕ → ℕ → ℕ → Progress
progress_of steps values derivatives mark = record { tally = record { steps = record { 0 = steps }; values = record { 0 = values }; derivatives = record { 0 = derivatives } }; mark = mark }

-- ---- which rows are records

-- k finite doubles
unfoldable pub doubles : {A : Type 0} → ℕ → (List Float → Layout A) → Layout A
doubles zero next = next []
doubles (suc k) next = number is_double (λ n. doubles k (λ rest. next (of_bits binary64 n ∷ rest)))

-- behind a 0: the kind, and the method
abbrev pub behind_zero : {A : Type 0} → (ℕ → ℕ → Layout A) → Layout A
behind_zero next = number (between 2 2) λ kind. number (between 1 5) λ method. next kind method

-- the kind and the method: a row of kind 1 begins with its method, one of kind 2 "begins 0, 2"
unfoldable pub headed : {A : Type 0} → (ℕ → ℕ → Layout A) → Layout A
headed next = number (between 0 5) λ first. cond (eqb first 0) (behind_zero next) (next 1 first)

-- behind the value tolerance: the point tolerance
abbrev pub with_point : {A : Type 0} → (Tolerances → Layout A) → ℕ → Layout A
with_point next value = number is_tolerance λ point. next (tolerances_of (of_bits binary64 value) (of_bits binary64 point))

-- the tolerances of a kind: kind 1 has one, and "An old record reads as both equal"
unfoldable pub tolerances_for : {A : Type 0} → ℕ → (Tolerances → Layout A) → Layout A
tolerances_for kind next = number is_tolerance λ value. cond (eqb kind 1) (next (one_eps (of_bits binary64 value))) (with_point next value)

-- number by number, each with what it may be, and at the end what they hold together
unfoldable pub record_layout : Layout Record
record_layout =
    headed λ kind method.
    number (between 1 most_coefficients) λ count.
    doubles count λ coefficients.
    doubles (start_count method) λ starts.
    tolerances_for kind λ tolerances.
    number (between 0 greatest_limit) λ limit.
    number is_kind λ answer.
    doubles (numbers_for answer) λ numbers.
    number is_tally λ steps.
    number is_tally λ values.
    number is_tally λ derivatives.
    number (between 0 2) λ mark.
    end (record {
      kind = kind;
      coefficients = padded coefficients;
      count = count;
      method = started_at method starts;
      tolerances = tolerances;
      limit = limit;
      outcome = record { answer = answer_of answer numbers; progress = progress_of steps values derivatives mark };
    })

-- ---- writing

-- kind 1 has room for one tolerance, so both must be of the same bits
unfoldable pub holds_both : ℕ → Tolerances → Bool
holds_both kind tolerances = cond (eqb kind 1) (eqb (to_bits binary64 tolerances.value) (to_bits binary64 tolerances.point)) true

abbrev pub recordable : Record → Bool
recordable r = cond (holds_both r.kind r.tolerances) (fits record_layout (row_of r)) false

-- no record has more bytes: `at_most_longest` of proofs/BackLaws
abbrev pub longest_record : ℕ
longest_record = 268

-- "Records get kind 2, written from now on"
abbrev pub newest : ℕ
newest = 2

abbrev pub bytes_of : Record → List ℕ
bytes_of r = spell (row_of r)

-- 11 where the call and answer break the layout; "then 10, the lent buffer is too short"
unfoldable pub written_to : Record → ℕ → Result ℕ Refusal
written_to r room = cond (recordable r) (cond (ltb room (length (bytes_of r))) (Err NoRoom) (Ok (length (bytes_of r)))) (Err NoRecord)

-- "writing leaves the rest"; "Either leaves it unchanged"
abbrev pub left_by : Record → List ℕ → Result ℕ Refusal → List ℕ
left_by r before (Ok n) = bytes_of r ++ drop n before
left_by r before (Err refusal) = before

-- ---- reading

-- what C has beside a refusal
abbrev pub blank : Record
blank = record { kind = 0; coefficients = noughts; count = 0; method = Brent nought nought; tolerances = one_eps nought; limit = 0; outcome = refused_at_once 0 }

-- "Reading takes the record at the buffer's start, tells its length and ignores what follows": its length is that of the bytes without those left
abbrev pub told : ℕ → Read Record → Result Reading Refusal
told long (held r rest) = Ok (record { length = long - length rest; content = r })
told long wrong = Err NoRecord

unfoldable pub reading_of : List ℕ → Result Reading Refusal
reading_of bytes = told (length bytes) (read record_layout bytes)
