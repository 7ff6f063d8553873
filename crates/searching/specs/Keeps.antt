-- What holds where a program ends, with its history. Definitions only.
use Rattle.std.specs.Prelude.{List}
use Rattle.numerical.specs.declared.Answer.{Answer}
use Rattle.searching.specs.Programs.{Prog, Turned, ended, next, Oracle, Event, play}
use Rattle.searching.specs.Histories.{listed}

-- played from the history h on, the program g ends where Q holds
pub record Ends {A : Type 0} (o : Oracle) (Q : A → List Event → Type 0) (g : Prog A) (h : List Event) : Type 0 where
  pub there : Q (play listed o g h).0 (play listed o g h).1

-- an end is where Post holds, and a state is where Inv does
abbrev pub After : {S : Type 0} → (S → List Event → Type 0) → (Answer → List Event → Type 0) → Turned S → List Event → Type 0
After Inv Post (ended a) h = Post a h
After Inv Post (next s) h = Inv s h
