-- Answers as text. Definitions, and what the contracts of `text` say of a buffer.
use Rattle.std.specs.Prelude.{ℕ, zero, suc, ◌+◌, ◌-◌, ◌/◌, ◌%◌, ◌≤◌, Bool, true, false, cond, List, [], ◌∷◌, ◌++◌, ◌≡◌, ltb, eqb, length, take, drop, get_or, flat_map, Float, Ok, Err}
use Prim.Native.String.{String, [] as none, ◌∷◌ as ◌then◌}
use Prim.Native.Char.{code}
use Rattle.std.specs.Float.{binary64}
use Rattle.std.specs.Float.Ieee.{to_bits}
use Rattle.io.specs.Digits.{hex_digit_ascii, last_digits}
use Rattle.numerical.specs.Answers.{kind_of, numbers_of}
use Rattle.numerical.specs.declared.Outcome.{Outcome}
use Rattle.numerical.specs.declared.Progress.{Progress}
use Rattle.roots.specs.Calls.{answer}
use Rattle.line_text.specs.Calls.{Request, Asked, asked_of}
use Rattle.line_text.specs.declared.call.Fault.{Fault}
use Rattle.line_text.specs.declared.call.Fault.TheVariants as fault

-- a text of ASCII characters
abbrev pub bytes : String → List ℕ
bytes none = []
bytes (c then s) = code c ∷ bytes s

-- ---- numbers

-- n in decimal digits, up to k + 1 of them, and no zero in front of another
abbrev pub spelled : ℕ → ℕ → List ℕ
spelled zero n = hex_digit_ascii (n % 10) ∷ []
spelled (suc k) n = cond (ltb n 10) (hex_digit_ascii (n % 10) ∷ []) (spelled k (n / 10) ++ (hex_digit_ascii (n % 10) ∷ []))

-- a number of 64 bits has at most 20 digits
unfoldable pub decimal_text : ℕ → List ℕ
decimal_text n = spelled 19 n

-- 16 digits, zeros in front among them
unfoldable pub hex_text : ℕ → List ℕ
hex_text n = last_digits 16 16 n

-- ---- KIND NUMBERS.. STEPS VALUES DERIVATIVES MARK

abbrev pub decimal_field : ℕ → ℕ → List ℕ
decimal_field n after = decimal_text n ++ (after ∷ [])

abbrev pub hex_field : ℕ → ℕ → List ℕ
hex_field n after = hex_text n ++ (after ∷ [])

abbrev pub double_field : Float → List ℕ
double_field x = hex_field (to_bits binary64 x) 32

abbrev pub numbers_text : List Float → List ℕ
numbers_text numbers = flat_map double_field numbers

unfoldable pub progress_text : Progress → List ℕ
progress_text p =
    decimal_field p.tally.steps.0 32
    ++ decimal_field p.tally.values.0 32
    ++ decimal_field p.tally.derivatives.0 32
    ++ decimal_field p.mark 10

unfoldable pub text_of : Outcome → List ℕ
text_of o = decimal_field (kind_of o.answer) 32 ++ numbers_text (numbers_of o.answer) ++ progress_text o.progress

abbrev pub fault_text : Fault → List ℕ
fault_text fault.Empty = bytes "error empty\n"
fault_text fault.Method = bytes "error method\n"
fault_text fault.Count = bytes "error count\n"
fault_text fault.Number = bytes "error number\n"
fault_text fault.Limit = bytes "error limit\n"
fault_text fault.Trailing = bytes "error trailing\n"

-- ---- a line's reply: `text` is what a program replies to a call

-- the line tool replies the answer
abbrev pub answer_for : Request → List ℕ
answer_for r = text_of (answer r.coefficients r.method r.tolerances r.limit)

abbrev pub replied : (Request → List ℕ) → Asked → List ℕ
replied text (Ok r) = text r
replied text (Err why) = fault_text why

-- a line without the carriage return at its end
unfoldable pub trimmed : List ℕ → List ℕ
trimmed t = cond (eqb (get_or t (length t - 1) 0) 13) (take (length t - 1) t) t

unfoldable pub reply_to : (Request → List ℕ) → List ℕ → List ℕ
reply_to text t = replied text (asked_of (trimmed t))

-- a line that outgrew its buffer has one reply, whatever it says
abbrev pub line_reply : (Request → List ℕ) → Bool → List ℕ → List ℕ
line_reply text true t = bytes "error too long\n"
line_reply text false t = reply_to text t

-- ---- a buffer

-- behind the first `at` bytes of `before` now stands t, up to r, and the rest is as it was
pub record Put (before : List ℕ) (at : ℕ) (t now : List ℕ) (r : ℕ) : Type 0 where
  pub within : at ≤ length before
  pub ends : r ≡ at + length t
  pub is : now ≡ take at before ++ t ++ drop r before
