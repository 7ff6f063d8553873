-- The loop of every method, as its laws speak of it: what a number of turns comes to, and the room that they need. Definitions only.
use Prim.Native.Nat.{ℕ, ◌*◌}
use Rattle.std.specs.Prelude.{List, Float}
use Rattle.numerical.specs.Answers.{outcome}
use Rattle.numerical.specs.Tallies.{Room}
use Rattle.numerical.specs.declared.Outcome.{Outcome}
use Rattle.numerical.specs.declared.Progress.{Progress}
use Rattle.simple_convergency.specs.Stop.{greatest_limit}
use Rattle.searching.specs.Programs.{Prog, Turned, next, run, oracle, play, tallied}

-- what at most n turns come to from where the turn before led: from its end or its state
unfoldable pub closed_of : {S : Type 0} → List Float → (S → Prog (Turned S)) → ℕ → Turned S × Progress → Outcome
closed_of cs turn n r = outcome (play tallied (oracle cs) (run turn n r.0) r.1)

-- what at most n turns from the state s on come to
unfoldable pub run_of : {S : Type 0} → List Float → (S → Prog (Turned S)) → ℕ → S → Progress → Outcome
run_of cs turn n s p = outcome (play tallied (oracle cs) (run turn n (next s)) p)

-- room for as many turns as a limit allows: a turn adds at most three to a tally
abbrev pub Ample : Progress → Type 0
Ample p = Room (3 * greatest_limit) p
