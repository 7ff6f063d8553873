-- The history of a play, newest first, and what is counted in it. Definitions only.
use Rattle.std.specs.Prelude.{ℕ, ◌+◌, List, [], ◌∷◌}
use Rattle.numerical.specs.Tallies.{mark_after}
use Rattle.numerical.specs.declared.Progress.{Progress}
use Rattle.searching.specs.Programs.{tested, candidate, ruled, paired, stepped, Prog, Oracle, Event, asked, asked_both, noted, play}

abbrev pub listed : Event → List Event → List Event
listed e h = e ∷ h

unfoldable pub history : {A : Type 0} → Oracle → Prog A → List Event
history o g = (play listed o g []).1

-- how many values there are in a history
unfoldable pub values_in : List Event → ℕ
values_in [] = 0
values_in (asked x e ∷ h) = values_in h + 1
values_in (asked_both x e ∷ h) = values_in h + 1
values_in (noted n ∷ h) = values_in h

unfoldable pub derivatives_in : List Event → ℕ
derivatives_in [] = 0
derivatives_in (asked x e ∷ h) = derivatives_in h
derivatives_in (asked_both x e ∷ h) = derivatives_in h + 1
derivatives_in (noted n ∷ h) = derivatives_in h

unfoldable pub steps_in : List Event → ℕ
steps_in [] = 0
steps_in (asked x e ∷ h) = steps_in h
steps_in (asked_both x e ∷ h) = steps_in h
steps_in (noted (tested t b) ∷ h) = steps_in h
steps_in (noted (candidate x) ∷ h) = steps_in h
steps_in (noted (ruled rule departed) ∷ h) = steps_in h
steps_in (noted (paired i) ∷ h) = steps_in h
steps_in (noted stepped ∷ h) = steps_in h + 1

-- the first added rule that departed, and 0 where none did
unfoldable pub mark_in : List Event → ℕ
mark_in [] = 0
mark_in (asked x e ∷ h) = mark_in h
mark_in (asked_both x e ∷ h) = mark_in h
mark_in (noted (tested t b) ∷ h) = mark_in h
mark_in (noted (candidate x) ∷ h) = mark_in h
mark_in (noted (ruled rule departed) ∷ h) = mark_after rule departed (mark_in h)
mark_in (noted (paired i) ∷ h) = mark_in h
mark_in (noted stepped ∷ h) = mark_in h

-- what a history says of the tallies and the mark
unfoldable pub counted : List Event → Progress
counted h =
    record {
      tally = record { steps = record { 0 = steps_in h }; values = record { 0 = values_in h }; derivatives = record { 0 = derivatives_in h } };
      mark = mark_in h;
    }
