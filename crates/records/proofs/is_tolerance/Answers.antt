use Rattle.std.specs.Prelude.{ℕ, ◌≡◌, refl, true, not, Float}
use Rattle.std.specs.Float.Ieee.{of_bits, binary64, lt}
use Rattle.std.specs.Float.Ieee.Scale.{finite}
use Rattle.std.proofs.Common.{sym, ◌∙◌}
use Rattle.simple_convergency.specs.Stop.{bad_tolerance, least_tolerance}
use Rattle.records.specs.Records.{is_tolerance}
use Rattle.records.proofs.is_tolerance.Goals as goal

fine : {x : Float} (n : ℕ) → x ≡ of_bits binary64 n → finite x ≡ true → not (lt x least_tolerance) ≡ is_tolerance n
unfolding is_tolerance bad_tolerance
fine n e f = rw (← e, f) refl

pub returns-then-is_finite : goal.returns-then-is_finite
returns-then-is_finite c = fine c.args.n c.from_pattern-x.ensures (sym c.is_finite.ensures ∙ c.if-is_finite.true)
