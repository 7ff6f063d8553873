use native.Mathlib.Omega.{arith}
use borrow.Author.Rules.{rules}
use Rattle.std.proofs.Common.{◌≡◌, ◌<◌, ◌≤◌, ◌+◌, ◌-◌, length, length-drop, get_or-drop}
use Rattle.std.proofs.lemmas.List.{take_rest}
use Rattle.line_text.specs.InputLaws.{feed_on, none_more, stop_on}
use Rattle.line_text.proofs.input.fed.Goals.{else-b-eq10-via-then-b-eq10+else-out-LONGEST, else-b-eq10-via-else-b-eq10}
use Rattle.line_text.proofs.input.fed.Goals as goal

pub loop-i-preserved : goal.loop-i-preserved
loop-i-preserved g c =
    let t = rw (take_rest, get_or-drop) at c.taken-s.ensures in
    let h : c.args.from + c.loop-i.i < length c.args.block.now = let j = rw (take_rest, length-drop) at c.loop-i-test.true in omega arith in
    let e : c.args.from + (c.loop-i.i + 1) ≡ c.args.from + c.loop-i.i + 1 = omega arith in
    let few : c.taken-s.result.waiting + g.R.Replies.LONGEST ≤ length c.taken-s.new.out = elim c.else-b-eq10.branch [
      | else-b-eq10-via-then-b-eq10+else-out-LONGEST w ↦ let l = rw w.LONGEST.ensures at w.if-out-LONGEST.false in omega arith
      | else-b-eq10-via-else-b-eq10 w ↦
          let n = rw (take_rest, get_or-drop) at w.if-b-eq10.false in
          let q = none_more c.args.block.now (c.args.from + c.loop-i.i) h c.loop-i.line c.loop-i.out c.loop-i.s t n in
          omega arith
    ] in
    let left : c.taken-s.result.waiting ≤ length c.taken-s.new.out - g.R.Replies.LONGEST = omega arith in
    (search rules, search rules, few, rw e (search (feed_on, t)), rw e (search (stop_on, t, left)))

pub returns-then-out-LONGEST-clause-fed : goal.returns-then-out-LONGEST-clause-fed
returns-then-out-LONGEST-clause-fed g c =
    let t = rw (take_rest, get_or-drop) at c.taken-s.ensures in
    let h : c.args.from + c.loop-i.i < length c.args.block.now = let j = rw (take_rest, length-drop) at c.loop-i-test.true in omega arith in
    search (feed_on, t)
