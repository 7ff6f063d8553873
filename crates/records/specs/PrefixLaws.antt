-- A record with what follows it. Definitions only.
use Rattle.std.specs.Prelude.{ℕ, ◌+◌, ◌<◌}
use mathlib.Core.List.{List}
use Rattle.std.proofs.Math.Path.{◌≡◌}
use Rattle.std.proofs.Math.ListN.{length}
use Rattle.rows.specs.Layouts.{held, read}
use Rattle.records.specs.Records.{record_layout}
use Rattle.records.specs.declared.Reading.{Reading}

pub record Holds (s : List ℕ) (r : Reading) (t : List ℕ) : Type 0 where
  pub is : read record_layout s ≡ held r.content t
  pub count : r.length + length t ≡ length s
  pub some : 0 < r.length
