-- Bytes from an index on. Definitions only.
use Rattle.std.specs.Prelude.{ℕ, ◌-◌, List, take, drop}
use Rattle.std.proofs.Math.ListN.{length}

-- the bytes from an index on, as code lends them
abbrev pub tail : List ℕ → ℕ → List ℕ
tail s at = take (length s - at) (drop at s)
