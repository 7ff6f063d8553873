-- How much a program asks for and how many steps it takes at the most, whatever it is answered.
use Rattle.std.specs.Prelude.{ℕ, ◌+◌, ◌≤◌}
use Rattle.numerical.specs.declared.Progress.{Progress}
use Rattle.searching.specs.Programs.{Prog, Oracle, play, tallied}

-- at most v values, d derivatives and s steps more
pub record More (v d s : ℕ) (p q : Progress) : Type 0 where
  pub values : q.tally.values.0 ≤ p.tally.values.0 + v
  pub derivatives : q.tally.derivatives.0 ≤ p.tally.derivatives.0 + d
  pub steps : q.tally.steps.0 ≤ p.tally.steps.0 + s

-- at most v values, d derivatives and s steps, whoever answers
pub record Within (v d s : ℕ) {A : Type 0} (g : Prog A) : Type 0 where
  pub most : (o : Oracle) (p : Progress) → More v d s p (play tallied o g p).1
