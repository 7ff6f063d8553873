-- Records as text. Definitions only.
use Rattle.std.specs.Prelude.{ℕ, ◌+◌, ◌*◌, ◌/◌, ◌%◌, Bool, cond, List, [], ◌∷◌, ◌++◌, length, take, flat_map, Float, Option, Some, None, Result, Ok, Err, unwrap_or}
use Rattle.io.specs.Digits.{hex_digit_ascii}
use Rattle.numerical.specs.declared.Answer.{Answer}
use Rattle.numerical.specs.declared.Answer.TheVariants.{ByValue, ByWidth, Refused}
use Rattle.simple_convergency.specs.Stop.{most_coefficients}
use Rattle.simple_convergency.specs.declared.Tolerances.{Tolerances}
use Rattle.roots.specs.Calls.{starts_of, answer}
use Rattle.roots.specs.Methods.{method_number}
use Rattle.roots.specs.declared.Method.{Method}
use Rattle.records.specs.Records.{recordable, longest_record, newest, bytes_of, refusal_number}
use Rattle.records.specs.declared.Record.{Record}
use Rattle.records.specs.declared.Reading.{Reading}
use Rattle.records.specs.declared.Refusal.{Refusal}
use Rattle.line_text.specs.Calls.{Request}
use Rattle.line_text.specs.Texts.{bytes, decimal_field, numbers_text, text_of, reply_to, line_reply}

-- ---- how long

-- no line of a record is longer, and no reply: two digits a byte and the line's end
abbrev pub longest_line : ℕ
longest_line = 601

abbrev pub longest_reply : ℕ
longest_reply = 2 * longest_record + 1

-- ---- bytes as hexadecimal digits

abbrev pub pair : ℕ → List ℕ
pair b = hex_digit_ascii (b / 16) ∷ hex_digit_ascii (b % 16) ∷ []

abbrev pub hex_bytes : List ℕ → List ℕ
hex_bytes t = flat_map pair t

-- ---- LENGTH RECORD_KIND METHOD COUNT A0 .. START [START] VALUE_TOLERANCE POINT_TOLERANCE LIMIT KIND NUMBERS.. STEPS VALUES DERIVATIVES MARK

-- START [START] VALUE_TOLERANCE POINT_TOLERANCE LIMIT
unfoldable pub rule_text : Method → Tolerances → ℕ → List ℕ
rule_text method tolerances limit = numbers_text (starts_of method) ++ numbers_text (tolerances.value ∷ tolerances.point ∷ []) ++ decimal_field limit 32

-- METHOD COUNT A0 .. and then these
unfoldable pub call_text : Record → List ℕ
call_text r =
    decimal_field (method_number r.method) 32
    ++ decimal_field r.count 32
    ++ numbers_text (take r.count r.coefficients)
    ++ rule_text r.method r.tolerances r.limit

-- a record of n bytes
unfoldable pub record_text : ℕ → Record → List ℕ
record_text n r = decimal_field n 32 ++ decimal_field r.kind 32 ++ call_text r ++ text_of r.outcome

unfoldable pub refused_text : ℕ → List ℕ
refused_text n = bytes "refused " ++ decimal_field n 10

-- what was read, as a line
abbrev pub reading_text : Result Reading Refusal → List ℕ
reading_text (Ok r) = record_text r.length r.content
reading_text (Err refusal) = refused_text (refusal_number refusal)

-- how many bytes it took, if it was not refused
abbrev pub taken_by : Result Reading Refusal → Option ℕ
taken_by (Ok r) = Some r.length
taken_by (Err refusal) = None

-- ---- the record of a call and its answer

abbrev pub refusal_of : Answer → Option ℕ
refusal_of (ByValue root value) = None
refusal_of (ByWidth root p q) = None
refusal_of (Refused n) = Some n

-- a call that is refused before any evaluation has no record
unfoldable pub recorded_text : Record → List ℕ
recorded_text r = cond (recordable r) (hex_bytes (bytes_of r) ++ (10 ∷ [])) (refused_text (unwrap_or (refusal_of r.outcome.answer) 0))

-- of the newest kind; of more than 16 coefficients it keeps 16, and is no record by its count
abbrev pub record_of : List Float → Method → Tolerances → ℕ → Record
record_of a method tolerances limit = record { kind = newest; coefficients = take most_coefficients a; count = length a; method = method; tolerances = tolerances; limit = limit; outcome = answer a method tolerances limit }

-- the record tool replies the record
abbrev pub record_for : Request → List ℕ
record_for r = recorded_text (record_of r.coefficients r.method r.tolerances r.limit)

abbrev pub record_reply : List ℕ → List ℕ
record_reply t = reply_to record_for t

abbrev pub line_record : Bool → List ℕ → List ℕ
line_record long t = line_reply record_for long t
