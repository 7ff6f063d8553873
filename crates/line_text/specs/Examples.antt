-- Texts worked out. Assumes nothing.
use Rattle.std.specs.Prelude.{true, [], ◌∷◌, ◌≡◌, refl, Float, Some, None, Err}
use Rattle.std.specs.Float.{binary64, nan, inf}
use Rattle.std.specs.Float.Ieee.{of_bits, of_fields}
use Rattle.simple_convergency.specs.Stop.{tolerances_of}
use Rattle.roots.specs.declared.Method.TheVariants.{Brent, NewtonRaphson}
use Rattle.roots.specs.Methods.{start_count, method_of}
use Rattle.line_text.specs.Digits.{digit_of, number_from, decimal_of, word_of}
use Rattle.line_text.specs.Fields.{field_of, rest_of}
use Rattle.line_text.specs.Calls.{call, method_number, with_limit, with_doubles, with_count, asked_of, count_fills, line_fills}
use Rattle.line_text.specs.Texts.{bytes, decimal_text, hex_text, trimmed, answer_for, reply_to}
use Rattle.line_text.specs.Inputs.{fresh, grown, next_line, reply_at, line_after, replies_to, stored, buffer_after, count_taken}
use Rattle.line_text.specs.declared.call.Fault.TheVariants as fault

abbrev nought : Float
nought = of_bits binary64 0x0000_0000_0000_0000

abbrev two : Float
two = of_bits binary64 0x4000_0000_0000_0000

abbrev minus_one : Float
minus_one = of_bits binary64 0xbff0_0000_0000_0000

-- 1/1024
abbrev small : Float
small = of_bits binary64 0x3f50_0000_0000_0000

-- 1/1024, in either case of letters; 15 digits, and a letter behind f, are no word
words :
    (word_of (bytes "3f50000000000000") ≡ Some 0x3f50_0000_0000_0000)
    × (word_of (bytes "3F50000000000000") ≡ Some 0x3f50_0000_0000_0000)
    × (word_of (bytes "ffffffffffffffff") ≡ Some 0xffff_ffff_ffff_ffff)
    × (word_of (bytes "3f5000000000000") ≡ None)
    × (word_of (bytes "3g50000000000000") ≡ None)
unfolding word_of number_from digit_of
words = (refl, refl, refl, refl, refl)

-- the largest limit, the number after it, zeros in front, a hexadecimal digit, and nothing
decimals :
    (decimal_of (bytes "18446744073709551615") ≡ Some 18446744073709551615)
    × (decimal_of (bytes "18446744073709551616") ≡ None)
    × (decimal_of (bytes "0000000000000000000000000007") ≡ Some 7)
    × (decimal_of (bytes "1a") ≡ None)
    × (decimal_of [] ≡ None)
unfolding decimal_of number_from digit_of
decimals = (refl, refl, refl, refl, refl)

-- each pattern of a NaN is the one NaN, and an infinity is none
patterns : (of_bits binary64 0x7ff8_0000_0000_0000 ≡ nan) × (of_bits binary64 0xfff0_0000_0000_0001 ≡ nan) × (of_bits binary64 0xfff0_0000_0000_0000 ≡ inf true)
unfolding of_bits of_fields
patterns = (refl, refl, refl)

fields : (field_of (bytes "  12  3 ") ≡ bytes "12") × (rest_of (bytes "  12  3 ") ≡ bytes "  3 ") × (field_of (bytes "  ") ≡ [])
unfolding field_of rest_of
fields = (refl, refl, refl)

ends : (trimmed (bytes "1 2\r") ≡ bytes "1 2") × (trimmed (bytes "1\r2") ≡ bytes "1\r2") × (trimmed [] ≡ [])
unfolding trimmed
ends = (refl, refl, refl)

written :
    (decimal_text 0 ≡ bytes "0")
    × (decimal_text 400 ≡ bytes "400")
    × (decimal_text 18446744073709551615 ≡ bytes "18446744073709551615")
    × (hex_text 0x3f50_0000_0000_0000 ≡ bytes "3f50000000000000")
    × (hex_text 0xabcdef ≡ bytes "0000000000abcdef")
unfolding decimal_text hex_text
written = (refl, refl, refl, refl, refl)

-- ---- lines

-- x - 1 by Brent between 0 and 2, and by Newton from 0, which has one start; the value tolerance comes first
lines :
    (asked_of (bytes "1 1 bff0000000000000 0000000000000000 4000000000000000 3f50000000000000 4000000000000000 2")
    ≡ call (minus_one ∷ []) (Brent nought two) (tolerances_of small two) 2)
    × (asked_of (bytes "4 1 bff0000000000000 0000000000000000 4000000000000000 3f50000000000000 2") ≡ call (minus_one ∷ []) (NewtonRaphson nought) (tolerances_of two small) 2)
unfolding asked_of field_of rest_of method_number with_count decimal_of number_from digit_of with_doubles start_count word_of with_limit method_of
lines = (refl, refl)

-- a start or a tolerance that is missing, one too many, and a count that is no number
no_lines :
    (asked_of (bytes "1 1 bff0000000000000 0000000000000000 3f50000000000000 3f50000000000000 2") ≡ Err fault.Number)
    × (asked_of (bytes "4 1 bff0000000000000 0000000000000000 4000000000000000 3f50000000000000 3f50000000000000 2") ≡ Err fault.Limit)
    × (asked_of (bytes "4 -1 bff0000000000000") ≡ Err fault.Count)
    × (asked_of (bytes "6") ≡ Err fault.Method)
    × (asked_of [] ≡ Err fault.Empty)
unfolding asked_of field_of rest_of method_number with_count decimal_of number_from digit_of with_doubles start_count word_of with_limit method_of
no_lines = (refl, refl, refl, refl, refl)

-- a double in front of a field that is none is in the array, and the rest is as it was; with no method so is all of it
arrays :
    (line_fills (bytes "4 1 bff0000000000000 0 2") (nought ∷ two ∷ small ∷ []) ≡ minus_one ∷ two ∷ small ∷ [])
    × (line_fills (bytes "6 1 bff0000000000000") (two ∷ []) ≡ two ∷ [])
unfolding line_fills count_fills field_of rest_of method_number decimal_of number_from digit_of start_count word_of
arrays = (refl, refl)

-- ---- the input

-- two lines and the start of a third, of which three bytes are kept
input :
    (replies_to answer_for 3 fresh (bytes "6\n\n1 2 3") ≡ bytes "error method\nerror empty\n")
    × (line_after 3 fresh (bytes "6\n\n1 2 3") ≡ record { text = bytes "1 2"; long = true })
    × (buffer_after 3 (bytes "abc") fresh (bytes "6\n\n1") ≡ bytes "1bc")
unfolding next_line grown reply_at reply_to trimmed asked_of field_of rest_of method_number stored
input = (refl, refl, refl)

-- the first reply has 13 bytes, the second 12: where up to 12 may wait only the first line is taken, with 13 the second too
stops :
    (count_taken answer_for 3 12 fresh 0 (bytes "6\n\n1 2 3") ≡ 2)
    × (count_taken answer_for 3 13 fresh 0 (bytes "6\n\n1 2 3") ≡ 3)
    × (count_taken answer_for 3 25 fresh 0 (bytes "6\n\n1 2 3") ≡ 8)
unfolding next_line grown reply_at reply_to trimmed asked_of field_of rest_of method_number
stops = (refl, refl, refl)
