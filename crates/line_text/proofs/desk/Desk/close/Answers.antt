use native.Mathlib.Omega.{arith}
use Rattle.line_text.proofs.desk.Desk.close.Goals as goal

pub put_line-end-requires : goal.put_line-end-requires
put_line-end-requires g c = let fits = g.met.R.Replies.fits in omega arith
