use borrow.Author.Rules.{rules}
use Rattle.std.proofs.Common.{◌<◌, ◌≤◌}
use Rattle.std.proofs.lemmas.List.{set-get_or}
use Rattle.line_text.specs.CallLaws.{fill_wrong, fill_on, fill_done, part_filled}
use Rattle.line_text.proofs.call.read_doubles.Goals as goal

pub returns-in_err-n : goal.returns-in_err-n
returns-in_err-n c =
    let h : c.loop-x.x-index < c.args.k = search rules in
    rw (c.from_residual.ensures, set-get_or) (part_filled _ _ _ _ (search (fill_wrong, c.in_err-n.was)))

pub loop-x-preserved : goal.loop-x-preserved
loop-x-preserved c = let h : c.loop-x.x-index < c.args.k = search rules in search (fill_on, c.in_ok-n.was)

pub returns : goal.returns
returns c = let h : c.args.k ≤ c.loop-x.x-index = search rules in part_filled _ _ _ _ (fill_done c.loop-x.invariant h)
