-- What several methods ask for: the two added rules, each with what the run has done after it, and starts in order. Definitions only.
use Rattle.std.specs.Prelude.{cond, Float}
use Rattle.std.specs.Float.Ieee.{lt}
use Rattle.doubles.specs.Doubles.{same_sign, outside, pulled}
use Rattle.numerical.specs.Tallies.{ruled_of}
use Rattle.numerical.specs.declared.Progress.{Progress}
use Rattle.numerical.specs.declared.Sample.{Sample}
use Rattle.searching.specs.Programs.{product_departs}
use Rattle.searching.specs.declared.Placed.{Placed}
use Rattle.searching.specs.declared.Decided.{Decided}
use Rattle.searching.specs.declared.Starts.{Starts}

-- rule 2: "a finite candidate outside the present pair becomes the nearer end"
abbrev pub placed_in : Float → Float → Float → Progress → Placed
placed_in u v x p = record { x = pulled u v x; progress = ruled_of 2 (outside u v x) p }

-- rule 1: "Where the Rust tests a product of two samples' values, the port tests signs"
abbrev pub alike_by : Sample → Sample → Progress → Decided
alike_by a b p = record { decision = same_sign a.y b.y; progress = ruled_of 1 (product_departs a b) p }

-- "Starts are ordered, smaller first; equal ones keep their order"
abbrev pub in_order : Float → Float → Starts
in_order a b = cond (lt b a) (record { first = b; second = a }) (record { first = a; second = b })
