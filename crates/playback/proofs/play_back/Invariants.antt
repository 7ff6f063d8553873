use Prim.Native.Nat.{◌-◌}
use lib.ListN.{length}
use Rattle.playback.specs.PlaybackLaws.{Playing}
use Rattle.playback.proofs.play_back.Given as goal

abbrev pub invariant-loop-at : goal.invariant-loop-at
invariant-loop-at l = Playing l.bytes l.records l.at

abbrev pub decreases-loop-at : goal.decreases-loop-at
decreases-loop-at l = length l.bytes - l.at
