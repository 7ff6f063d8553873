-- The patterns of a NaN, and a pattern's low 63 bits as a signed number. Assumes nothing.
use mathlib.Core.Path.{◌≡◌, refl, sym, ap, ◌∙◌}
use Prim.Native.Nat.{ℕ, zero, suc, ◌/◌, ◌%◌, ◌≤◌, ◌<◌, ◌^◌}
use native.Mathlib.Nat.{le_of_lt, mod-lt}
use native.Mathlib.Omega.{arith}
use mathlib.Core.Bool.{true, not}
use lib.Dec.{T}
use lib.Bits.{bit_and, and_mask, mask_lt}
use lib.Pow.{pow_pos}
use lib.IntN.{pos, neg_ℤ, ◌-ℤ◌, +ℤ_idl}
use lib.Ieee.{Float, nan, inf, fin, binary64, of_bits, to_bits, nan_bits, is_nan}
use lib.Ieee.Bits.{nan_bits_is, nan_bits_above}
use mir.Syntax.{w64}
use mir.Val.{SFits, to_z, of_z}
use mir.Facts.{to_z_pos, to_z-of_z}
use borrow.Author.Tests.{le-leb, lt-leb, le-ltb, lt-ltb}
use Rattle.doubles.specs.Doubles.{signed63}

-- Below and at an infinity's bits there is no NaN.
pub no_nan_pattern : (n : ℕ) → n % 0x8000_0000_0000_0000 ≤ 0x7ff0_0000_0000_0000 → T (not (nan_bits binary64 n))
no_nan_pattern n h = rw (nan_bits_above binary64 n, le-ltb 0x7ff0_0000_0000_0000 (n % 0x8000_0000_0000_0000) h) tt

only_nan : (x : Float) → is_nan x ≡ true → nan ≡ x
unfolding is_nan
only_nan nan h = refl
only_nan (inf s) h = cc
only_nan (fin s m e) h = cc

pub nan_pattern : (n : ℕ) → 0x7ff0_0000_0000_0000 < n % 0x8000_0000_0000_0000 → nan ≡ of_bits binary64 n
nan_pattern n h =
    only_nan (of_bits binary64 n)
    (sym (nan_bits_is binary64 n) ∙ nan_bits_above binary64 n ∙ lt-ltb 0x7ff0_0000_0000_0000 (n % 0x8000_0000_0000_0000) h)

pub nan_written : (x : Float) → true ≡ is_nan x → 0x7ff8_0000_0000_0000 ≡ to_bits binary64 x
unfolding to_bits
nan_written x h = rw (← (only_nan x (sym h)))

neg_small : (n : ℕ) → n < 2 ^ 63 → SFits w64 (neg_ℤ (pos n))
neg_small zero h = record { sfits = h }
neg_small (suc n) h = record { sfits = le_of_lt h }

module _ (b : ℕ) where
  pub low_fits : SFits w64 (pos (bit_and b 0x7fff_ffff_ffff_ffff))
  low_fits = record { sfits = mask_lt b 63 }

  low_read : to_z w64 (bit_and b 0x7fff_ffff_ffff_ffff) ≡ pos (b % 2 ^ 63)
  low_read = to_z_pos w64 (mask_lt b 63) ∙ ap pos (and_mask b 63)

  neg_read : pos 0 -ℤ to_z w64 (bit_and b 0x7fff_ffff_ffff_ffff) ≡ neg_ℤ (pos (b % 2 ^ 63))
  neg_read = +ℤ_idl (neg_ℤ (to_z w64 (bit_and b 0x7fff_ffff_ffff_ffff))) ∙ ap neg_ℤ low_read

  pub neg_fits : SFits w64 (pos 0 -ℤ to_z w64 (bit_and b 0x7fff_ffff_ffff_ffff))
  neg_fits = rw neg_read (neg_small (b % 2 ^ 63) (mod-lt b (pow_pos 63)))

  pub negative : b / 2 ^ 63 ≡ 1 → to_z w64 (of_z w64 (pos 0 -ℤ to_z w64 (bit_and b 0x7fff_ffff_ffff_ffff))) ≡ signed63 b
  negative h = to_z-of_z neg_fits ∙ neg_read ∙ rw (le-leb (2 ^ 63) b (omega arith))

  pub positive : b < 2 ^ 64 → (b / 2 ^ 63 ≡ 1 → ⊥) → to_z w64 (bit_and b 0x7fff_ffff_ffff_ffff) ≡ signed63 b
  positive l h = low_read ∙ rw (lt-leb (2 ^ 63) b (omega arith))
