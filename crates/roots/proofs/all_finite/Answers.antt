use Rattle.std.proofs.Common.{rules, tests, ◌∙◌}
use Rattle.std.proofs.lemmas.Iterator.{YieldsList-from_slice}
use Rattle.std.proofs.lemmas.Iterator.Search.{all_from_yields_List}
use Rattle.std.specs.Float.Ieee.Scale.{finite}
use Rattle.roots.proofs.CallLaws.{each_finite}
use Rattle.roots.proofs.all_finite.Goals as goal

pub returns : goal.returns
returns c = all_from_yields_List finite _ _ _ c.all.ensures.ran (YieldsList-from_slice c.args.a.now cc) (λ x b q k. search (rules, tests)) ∙ each_finite c.args.a.now
