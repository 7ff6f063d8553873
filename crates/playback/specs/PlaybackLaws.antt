-- Where a playback stands. Definitions only.
use Prim.Native.Nat.{ℕ, ◌≤◌}
use Rattle.std.specs.Prelude.{◌≡◌, drop}
use mathlib.Core.List.{List}
use Rattle.std.proofs.Math.ListN.{length}
use Rattle.playback.specs.Playback.{played_from, played_back}

-- the records before `at` agree
pub record Playing (bytes : List ℕ) (records at : ℕ) : Type 0 where
  pub within : at ≤ length bytes
  pub few : records ≤ at
  pub is : played_from records at (drop at bytes) ≡ played_back bytes
