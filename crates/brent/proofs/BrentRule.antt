-- The test of a step, by rule 1: what the code decided is what the definition goes by.
use Rattle.std.specs.Prelude.{List, ◌≡◌, refl, Float}
use Rattle.std.proofs.Common.{◌∙◌, ap}
use Rattle.doubles.specs.Doubles.{opposite_sign}
use Rattle.numerical.specs.declared.Progress.{Progress}
use Rattle.numerical.specs.declared.Sample.{Sample}
use Rattle.searching.specs.Programs.{ruled, Prog, log, oracle, play, tallied}
use Rattle.searching.specs.declared.Decided.{Decided}
use Rattle.brent.specs.Brent.{step_departs, opposite_by}

-- what the code decided is what the definition goes by
pub opposite_decision : {w : Decided} (a b : Sample) (p : Progress) → w ≡ opposite_by a b p → w.decision ≡ opposite_sign a.y b.y
opposite_decision a b p e = ap (λ (w : Decided). w.decision) e

pub by_opposite :
    {A : Type 0} (cs : List Float) (p : Progress) {r : A × Progress} {w : Decided} (a b : Sample) (g : Prog A) →
    w ≡ opposite_by a b p → r ≡ play tallied (oracle cs) g w.progress → r ≡ play tallied (oracle cs) (log (ruled 1 (step_departs a b)) g) p
unfolding play
by_opposite cs p a b g e k = k ∙ rw e refl
