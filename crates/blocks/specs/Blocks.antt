-- A part of a block. Definitions only.
use Rattle.std.specs.Prelude.{ℕ, ◌-◌, List, take, drop}

-- the bytes from one index up to another; where there are fewer, those that there are
abbrev pub part_of : List ℕ → ℕ → ℕ → List ℕ
part_of block from to = take (to - from) (drop from block)
