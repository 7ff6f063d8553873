use Rattle.std.proofs.Common.{eq-eqb, ne_eqb}
use Rattle.numerical.specs.Tallies.{mark_after}
use Rattle.numerical.proofs.Progress.ruled.Goals.{else-departed-via-then-departed+else-self-eq0, else-departed-via-else-departed}
use Rattle.numerical.proofs.Progress.ruled.Goals as goal

pub returns-then-self-eq0 : goal.returns-then-self-eq0
unfolding mark_after
returns-then-self-eq0 c = simp (mark_after, c.if-departed.true, eq-eqb _ _ c.if-self-eq0.true)

pub returns-else-departed : goal.returns-else-departed
unfolding mark_after
returns-else-departed c =
    elim c.else-departed.branch [
      | else-departed-via-then-departed+else-self-eq0 w ↦ simp (mark_after, w.if-departed.true, ne_eqb _ _ w.if-self-eq0.false)
      | else-departed-via-else-departed w ↦ simp (mark_after, w.if-departed.false)
    ]
