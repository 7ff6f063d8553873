-- The methods by their numbers. Definitions only.
use Rattle.std.specs.Prelude.{ℕ, cond, eqb, Float}
use Rattle.roots.specs.declared.Method.{Method}
use Rattle.roots.specs.declared.Method.TheVariants.{Brent, RegulaFalsi, Secant, NewtonRaphson, Polynom}

-- "method 1 to 5 (as in W1 to W5)"
abbrev pub method_number : Method → ℕ
method_number (Brent from to) = 1
method_number (RegulaFalsi from to) = 2
method_number (Secant first second) = 3
method_number (NewtonRaphson start) = 4
method_number (Polynom from to) = 5

-- Newton has one start, the others two
unfoldable pub start_count : ℕ → ℕ
start_count n = cond (eqb n 4) 1 2

-- the method of a number from 1 to 5, with its starts
unfoldable pub method_of : ℕ → Float → Float → Method
method_of n first second =
    cond (eqb n 1) (Brent first second)
    (cond (eqb n 2) (RegulaFalsi first second)
    (cond (eqb n 3) (Secant first second)
    (cond (eqb n 4) (NewtonRaphson first)
    (Polynom first second))))
