use Rattle.std.specs.Float.{binary64}
use Rattle.std.specs.Float.Ieee.{mul}
use Rattle.doubles.specs.Doubles.{above, same_sign}
use Rattle.regula_falsi.specs.RegulaFalsi.{departs}
use Rattle.regula_falsi.proofs.RegulaFalsiLaws.{elsewhere_tests}
use Rattle.regula_falsi.proofs.departs.Goals as goal

pub returns : goal.returns
unfolding departs
returns c =
    let given = c.args in
    rw (c.same_sign-same.ensures, c.is_above-first.ensures, c.is_above-second.ensures)
    (elsewhere_tests
    (same_sign given.p.y given.s.left.at.y)
    (above (mul binary64 given.p.y given.s.left.weight))
    (above (mul binary64 given.p.y given.s.right.weight)))
