-- A state of Brent's method whose samples came from evaluations. Definitions only.
use Rattle.std.specs.Prelude.{Some, List, ◌≡◌, Float}
use Rattle.numerical.specs.declared.Answer.{Answer}
use Rattle.polynom.specs.Polynom.{evaluated}
use Rattle.searching.specs.Programs.{Turned, Event}
use Rattle.searching.specs.Keeps.{After}
use Rattle.brent.specs.declared.Brent.{Brent}

-- the samples of the pair came from evaluations
pub record Evaluations (cs : List Float) (s : Brent) : Type 0 where
  pub of_a : evaluated cs s.a.x ≡ Some s.a
  pub of_b : evaluated cs s.b.x ≡ Some s.b

-- a search stands at such a state, or has ended
abbrev pub Known : List Float → Turned Brent → List Event → Type 0
Known cs = After (λ (s : Brent) (i : List Event). Evaluations cs s) (λ (a : Answer) (i : List Event). Unit {0})
