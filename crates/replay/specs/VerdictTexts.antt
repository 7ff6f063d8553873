-- A verdict as a line. Definitions only.
use Rattle.std.specs.Prelude.{ℕ, Bool, true, false, cond, List, ◌++◌}
use Rattle.line_text.specs.Texts.{bytes, decimal_field, hex_field}
use Rattle.records.specs.Records.{refusal_number}
use Rattle.playback.specs.Playback.{field_number}
use Rattle.playback.specs.declared.Difference.{Difference}
use Rattle.playback.specs.declared.Field.{Field}
use Rattle.playback.specs.declared.Field.TheVariants.{Kind, First, Second, Third, Steps, Values, Derivatives, Mark}
use Rattle.playback.specs.declared.Playback.{Playback}
use Rattle.playback.specs.declared.Playback.TheVariants.{Agree, Differs, Refused}

-- no line is longer
abbrev pub longest_line : ℕ
longest_line = 113

-- the three numbers of an answer
abbrev pub is_number : Field → Bool
is_number Kind = false
is_number First = true
is_number Second = true
is_number Third = true
is_number Steps = false
is_number Values = false
is_number Derivatives = false
is_number Mark = false

-- a double by the 16 hexadecimal digits of its bits, another number in decimal digits
unfoldable pub value_text : Field → ℕ → ℕ → List ℕ
value_text field n after = cond (is_number field) (hex_field n after) (decimal_field n after)

-- RECORDS OFFSET
unfoldable pub place_text : ℕ → ℕ → List ℕ
place_text records offset = decimal_field records 32 ++ decimal_field offset 32

-- FIELD RECORDED NOW
unfoldable pub difference_text : Difference → List ℕ
difference_text d = decimal_field (field_number d.field) 32 ++ value_text d.field d.recorded 32 ++ value_text d.field d.present 10

abbrev pub verdict_text : Playback → List ℕ
verdict_text (Agree records) = bytes "agree " ++ decimal_field records 10
verdict_text (Differs records offset difference) = bytes "differs " ++ place_text records offset ++ difference_text difference
verdict_text (Refused refusal records offset) = bytes "refused " ++ place_text records offset ++ decimal_field (refusal_number refusal) 10
