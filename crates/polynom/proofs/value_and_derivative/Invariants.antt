use Rattle.std.specs.Prelude.{List, ◌++◌, ◌≡◌, Float}
use Rattle.polynom.specs.Polynom.{sums_both}
use Rattle.polynom.proofs.value_and_derivative.Given as goal

abbrev pub invariant-loop-c : goal.invariant-loop-c
invariant-loop-c l = (t : List Float) × (l.a ≡ l.c-iterator.iter.rest.now ++ t) × (sums_both t l.x ≡ record { sum = record { result = l.value; xn = l.xn }; derivative = l.derivative; xn1 = l.xn1; n = l.n })
