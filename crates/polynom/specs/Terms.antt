-- A sum on its way: up to where its coefficients are summed. Definition only.
use Rattle.std.specs.Prelude.{◌≡◌, List, ◌%◌, ◌≤◌, length, drop, Float}
use Rattle.polynom.specs.declared.Summed.{Summed}
use Rattle.polynom.specs.Polynom.{sums}

-- the coefficients from `left` on are summed, and those before are an even number
abbrev pub Passed : List Float → Float → Summed → Type 0
Passed a x s = (s.left ≤ length a) × (s.left % 2 ≡ 0) × (sums (drop s.left a) x ≡ s.sum)
