use Rattle.std.proofs.Common.{rules, tests, eqb}
use Rattle.std.proofs.lemmas.Iterator.{YieldsList-from_slice}
use Rattle.std.proofs.lemmas.Iterator.Search.{position_from_yields_List}
use Rattle.line_text.specs.FieldLaws.{found_or_end}
use Rattle.line_text.proofs.fields.until_space.Goals as goal

pub returns : goal.returns
returns c =
    let t = c.args.t.now in
    let found = position_from_yields_List (λ b. eqb b 32) _ _ c.position.result c.position.ensures.ran (YieldsList-from_slice t cc) (λ x b q k. search (rules, tests)) in
    let end = found_or_end (λ b. eqb b 32) t found c.unwrap_or.ensures in
    record { value = end.0; upper_bound = end.1 }
