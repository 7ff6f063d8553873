use native.Mathlib.Omega.{arith}
use Rattle.std.proofs.Common.{length-take-le}
use Rattle.line_text.proofs.desk.serve_at_once.Goals as goal

pub serve_through-requires : goal.serve_through-requires
serve_through-requires g c = let long = length-take-le c.LONGEST.result c.buffer.result (omega arith) in omega arith
