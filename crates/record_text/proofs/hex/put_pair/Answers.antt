use Rattle.std.proofs.Common.{◌<◌, ◌^◌, arith}
use Rattle.record_text.specs.RecordTextLaws.{two_digits, pair_is}
use Rattle.record_text.proofs.hex.put_pair.Goals as goal

pub put-requires : goal.put-requires
put-requires c =
    let h : c.from.result < 2 ^ 8 = omega arith in
    let k = two_digits h c.hex-k.ensures.len in
    omega arith

pub returns : goal.returns
returns c =
    let h : c.from.result < 2 ^ 8 = omega arith in
    let p = rw (pair_is h c.hex-k.ensures.len {b = c.args.b} c.from.ensures c.hex-k.ensures.digits) at c.put.ensures in
    record { put = p; value = p.ends }
