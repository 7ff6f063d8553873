-- Numbers as text. Definitions only.
use Rattle.std.specs.Prelude.{ℕ, ◌+◌, ◌-◌, ◌*◌, ◌^◌, Bool, true, false, cond, ◌&&◌, List, [], ◌∷◌, ltb, eqb, length, Option, Some, None}
use Rattle.std.specs.Option.{unwrap_or}

-- `0` to `9`, then `A` to `F` or `a` to `f`; any other byte is no digit
unfoldable pub digit_of : ℕ → Option ℕ
digit_of b =
    cond (ltb b 48) None
    (cond (ltb b 58) (Some (b - 48))
    (cond (ltb b 65) None
    (cond (ltb b 71) (Some (b - 65 + 10))
    (cond (ltb b 97) None
    (cond (ltb b 103) (Some (b - 97 + 10)) None)))))

abbrev pub is_below : ℕ → Option ℕ → Bool
is_below base (Some d) = ltb d base
is_below base None = false

-- each byte is a digit of the base
abbrev pub all_digits : ℕ → List ℕ → Bool
all_digits base [] = true
all_digits base (b ∷ t) = is_below base (digit_of b) && all_digits base t

-- what the digits stand for behind a number v, the most significant first
abbrev pub value_from : ℕ → ℕ → List ℕ → ℕ
value_from base v [] = v
value_from base v (b ∷ t) = value_from base (v * base + unwrap_or (digit_of b) 0) t

-- the number behind v, if all are digits and 64 bits hold it
unfoldable pub number_from : ℕ → ℕ → List ℕ → Option ℕ
number_from base v t = cond (all_digits base t && ltb (value_from base v t) (2 ^ 64)) (Some (value_from base v t)) None

abbrev pub number_of : ℕ → List ℕ → Option ℕ
number_of base t = number_from base 0 t

-- one digit or more
unfoldable pub decimal_of : List ℕ → Option ℕ
decimal_of t = cond (eqb (length t) 0) None (number_of 10 t)

-- just 16 digits
unfoldable pub word_of : List ℕ → Option ℕ
word_of t = cond (eqb (length t) 16) (number_of 16 t) None
