use Rattle.std.specs.Prelude.{refl}
use Rattle.roots.proofs.Method.starts.Goals as goal

pub returns-in-NewtonRaphson : goal.returns-in-NewtonRaphson
returns-in-NewtonRaphson c = rw c.in-NewtonRaphson.is refl
