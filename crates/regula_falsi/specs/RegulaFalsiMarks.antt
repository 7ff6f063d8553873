-- The marks of the Illinois method. Definitions only.
use Rattle.std.specs.Prelude.{ℕ, ◌⊎◌, ◌≡◌}

-- the mark of a history is 0 or 2
abbrev pub ZeroOrTwo : ℕ → Type 0
ZeroOrTwo m = (m ≡ 0) ⊎ (m ≡ 2)
