-- Laws of every program: one after another, ended runs, and that the tallies and the mark are those of the history.
use Rattle.std.specs.Prelude.{ℕ, zero, suc, List, [], ◌∷◌, ◌≡◌, refl, Float}
use Rattle.std.proofs.Common.{ap, sym, ◌∙◌}
use Rattle.numerical.specs.Tallies.{fresh}
use Rattle.numerical.specs.declared.Answer.{Answer}
use Rattle.numerical.specs.declared.Progress.{Progress}
use Rattle.searching.specs.Programs.{tested, candidate, ruled, paired, stepped, Prog, done, ask, ask_both, log, Turned, ended, bind, run, Oracle, oracle, Event, asked, asked_both, noted, play, tallied, answer_of}
use Rattle.searching.specs.Histories.{counted, listed, history, values_in, derivatives_in, steps_in, mark_in}

-- to play one program after another is to play the second where the first ended
pub play_bind :
    {A B L : Type 0} (enter : Event → L → L) (o : Oracle) (g : Prog A) (k : A → Prog B) (l : L) →
    play enter o (bind g k) l ≡ play enter o (k (play enter o g l).0) (play enter o g l).1
unfolding play bind
play_bind enter o (done a) k l = refl
play_bind enter o (ask x f) k l = play_bind enter o (f (o.value x)) k (enter (asked x (o.value x)) l)
play_bind enter o (ask_both x f) k l = play_bind enter o (f (o.both x)) k (enter (asked_both x (o.both x)) l)
play_bind enter o (log n g) k l = play_bind enter o g k (enter (noted n) l)

-- a run that has ended stays ended
pub run_ended : {S : Type 0} (turn : S → Prog (Turned S)) (n : ℕ) (a : Answer) → run turn n (ended a) ≡ done a
unfolding run
run_ended turn zero a = refl
run_ended turn (suc n) a = refl

-- where a program ends is the same whichever book is kept
pub play_end : {A K L : Type 0} (one : Event → K → K) (other : Event → L → L) (o : Oracle) (g : Prog A) (k : K) (l : L) → (play one o g k).0 ≡ (play other o g l).0
unfolding play
play_end one other o (done a) k l = refl
play_end one other o (ask x f) k l = play_end one other o (f (o.value x)) _ _
play_end one other o (ask_both x f) k l = play_end one other o (f (o.both x)) _ _
play_end one other o (log n g) k l = play_end one other o g _ _

-- an event counts the same in the book and in the history
counted_more : (e : Event) (h : List Event) → tallied e (counted h) ≡ counted (e ∷ h)
unfolding counted steps_in values_in derivatives_in mark_in
counted_more (asked x e) h = refl
counted_more (asked_both x e) h = refl
counted_more (noted (tested t b)) h = refl
counted_more (noted (candidate x)) h = refl
counted_more (noted (ruled rule departed)) h = refl
counted_more (noted (paired i)) h = refl
counted_more (noted stepped) h = refl

counted_none : counted [] ≡ fresh
unfolding counted steps_in values_in derivatives_in mark_in
counted_none = refl

-- the end is the same whichever book is kept, and the book of tallies counts the list of events
pub play_counted :
    {A : Type 0} (o : Oracle) (g : Prog A) (h : List Event) →
    play tallied o g (counted h) ≡ ((play listed o g h).0, counted (play listed o g h).1)
unfolding play
play_counted o (done a) h = refl
play_counted o (ask x f) h = rw (counted_more (asked x (o.value x)) h) (play_counted o (f (o.value x)) (asked x (o.value x) ∷ h))
play_counted o (ask_both x f) h = rw (counted_more (asked_both x (o.both x)) h) (play_counted o (f (o.both x)) (asked_both x (o.both x) ∷ h))
play_counted o (log n g) h = rw (counted_more (noted n) h) (play_counted o g (noted n ∷ h))

-- THE LAW OF COUNTS: whatever the program, what is reported is what its history holds
pub tallies_are_counts : (a : List Float) (g : Prog Answer) → (answer_of a g).progress ≡ counted (history (oracle a) g)
unfolding answer_of history
tallies_are_counts a g = ap (λ (p : Progress). (play tallied (oracle a) g p).1) (sym counted_none) ∙ ap (λ (r : Answer × Progress). r.1) (play_counted (oracle a) g [])
