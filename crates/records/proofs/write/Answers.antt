use Rattle.records.proofs.WriteLaws.{no_room_for_both, not_whole, no_room, written}
use Rattle.records.proofs.write.Goals as goal

pub returns-then-not-holds_both : goal.returns-then-not-holds_both
returns-then-not-holds_both c = let p = no_room_for_both _ _ c.holds_both.ensures c.if-not-holds_both.true in record { verdict = p.0; bytes = p.1 }

pub returns-then-not-is_whole : goal.returns-then-not-is_whole
returns-then-not-is_whole c = let p = not_whole _ _ c.holds_both.ensures c.if-not-holds_both.false c.put_record.ensures c.is_whole.ensures c.if-not-is_whole.true in record { verdict = p.0; bytes = p.1 }

pub returns-then-out-n : goal.returns-then-out-n
returns-then-out-n c =
    let p = no_room _ _ c.holds_both.ensures c.if-not-holds_both.false c.put_record.ensures c.is_whole.ensures c.if-not-is_whole.false c.if-out-n.true in
    record { verdict = p.0; bytes = p.1 }

pub returns : goal.returns
returns c =
    let p = written _ _ c.holds_both.ensures c.if-not-holds_both.false c.put_record.ensures c.is_whole.ensures c.if-not-is_whole.false c.if-out-n.false c.copy.ensures in
    record { verdict = p.0; bytes = p.1 }
