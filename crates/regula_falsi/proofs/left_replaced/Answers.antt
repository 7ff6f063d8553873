use Rattle.std.specs.Prelude.{refl}
use Rattle.regula_falsi.proofs.RegulaFalsiLaws.{right_stays}
use Rattle.regula_falsi.proofs.left_replaced.Goals as goal
use Rattle.regula_falsi.proofs.left_replaced.Goals.{in-EdgeX1, in_default}

pub returns : goal.returns
returns c =
    elim c.match-matches.branch [
      | in-EdgeX1 w ↦ rw (c.whole.ensures, c.kept.ensures, w.matches-is, w.in-EdgeX1.is) refl
      | in_default w ↦ rw (c.whole.ensures, c.kept.ensures, w.matches-is, ← right_stays c.args.s.edge c.args.s.right w.in_default.not-EdgeX1) refl
    ]
