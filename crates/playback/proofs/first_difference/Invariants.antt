use Rattle.std.specs.Prelude.{◌≡◌}
use Rattle.playback.specs.Playback.{difference_in, first_difference}
use Rattle.playback.proofs.first_difference.Given as goal

-- what the fields still to come differ in, all of them do
abbrev pub invariant-loop-field : goal.invariant-loop-field
invariant-loop-field l = difference_in l.field-iterator.a.rest.now l.field-iterator.b.a.rest.now l.field-iterator.b.b.rest.now ≡ first_difference l.fn.recorded l.fn.present
