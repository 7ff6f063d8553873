-- A search method is a program that asks for values, notes what it does, and ends with an answer. Definitions only.
use Rattle.std.specs.Prelude.{ℕ, zero, suc, Bool, true, false, not, List, Float}
use Rattle.std.specs.Float.{binary64}
use Rattle.std.specs.Float.Ieee.{mul, lt}
use Rattle.std.specs.Float.Ieee.Scale.{finite}
use Rattle.doubles.specs.Doubles.{above, same_sign, outside, pulled}
use Rattle.numerical.specs.Answers.{outcome}
use Rattle.numerical.specs.Tallies.{fresh, valued_of, sloped_of, stepped_of, ruled_of}
use Rattle.numerical.specs.declared.Answer.{Answer}
use Rattle.numerical.specs.declared.Answer.TheVariants.{ByValue, Refused}
use Rattle.numerical.specs.declared.Interval.{Interval}
use Rattle.numerical.specs.declared.Outcome.{Outcome}
use Rattle.numerical.specs.declared.Progress.{Progress}
use Rattle.numerical.specs.declared.Sample.{Sample}
use Rattle.simple_convergency.specs.Stop.{found_at, flat_at, converged_at}
use Rattle.simple_convergency.specs.declared.StopRule.{StopRule}
use Rattle.polynom.specs.Polynom.{evaluated, evaluated_both}
use Rattle.polynom.specs.declared.ValueAndDerivative.{ValueAndDerivative}
use Rattle.std.specs.Prelude.{Option, Some, None}

-- ---- what a program notes

-- a stop test, with the numbers that it compares
pub data Test : Type 0 where
  -- the value of a sample with zero
  found : Sample → Test
  -- two points with each other
  converged : Float → Float → Test
  -- a difference of values, or a derivative, with zero
  flat : Float → Test
  -- the signs of the first two values
  alike : Sample → Sample → Test

abbrev pub holds : StopRule → Test → Bool
holds stop (found p) = found_at stop p.y
holds stop (converged p q) = converged_at stop p q
holds stop (flat y) = flat_at stop y
holds stop (alike p q) = same_sign p.y q.y

pub data Note : Type 0 where
  -- a stop test was made, and held or not
  tested : Test → Bool → Note
  -- a candidate was computed
  candidate : Float → Note
  -- an added rule was applied, and departed from the Rust or not
  ruled : ℕ → Bool → Note
  -- the present pair
  paired : Interval → Note
  -- a step was completed
  stepped : Note

-- ---- programs

-- a program ends, asks for a value or for a value with its derivative and goes on with the answer, or notes something and goes on
pub data Prog (A : Type 0) : Type 0 where
  done : A → Prog A
  ask : Float → (Option Sample → Prog A) → Prog A
  ask_both : Float → (Option ValueAndDerivative → Prog A) → Prog A
  log : Note → Prog A → Prog A

-- where a turn of a search leaves it: at an answer, or at the next state
pub data Turned (S : Type 0) : Type 0 where
  ended : Answer → Turned S
  next : S → Turned S

unfoldable pub bind : {A B : Type 0} → Prog A → (A → Prog B) → Prog B
bind (done a) k = k a
bind (ask x f) k = ask x (λ e. bind (f e) k)
bind (ask_both x f) k = ask_both x (λ e. bind (f e) k)
bind (log n g) k = log n (bind g k)

-- ---- the words in which methods are written

-- goes on by a test
unfoldable pub test : {A : Type 0} → Bool → Prog A → Prog A → Prog A
test true g h = g
test false g h = h

-- makes a stop test, notes it, and goes on by it
unfoldable pub stops : {A : Type 0} → StopRule → Test → Prog A → Prog A → Prog A
stops stop t g h = log (tested t (holds stop t)) (test (holds stop t) g h)

abbrev pub answers : {S : Type 0} → Answer → Prog (Turned S)
answers a = done (ended a)

abbrev pub refuses : {S : Type 0} → ℕ → Prog (Turned S)
refuses n = done (ended (Refused n))

-- an acceptance by value
abbrev pub by_value : {S : Type 0} → Sample → Prog (Turned S)
by_value p = done (ended (ByValue p.x p.y))

-- "A run stops at once when an evaluation answers refusal 9 in place of a sample"
unfoldable pub sampled : {S : Type 0} → Option Sample → (Sample → Prog (Turned S)) → Prog (Turned S)
sampled None k = refuses 9
sampled (Some p) k = k p

unfoldable pub sampled_both : {S : Type 0} → Option ValueAndDerivative → (ValueAndDerivative → Prog (Turned S)) → Prog (Turned S)
sampled_both None k = refuses 9
sampled_both (Some v) k = k v

-- asks for the value at x, and goes on with the sample
unfoldable pub value_at : {S : Type 0} → Float → (Sample → Prog (Turned S)) → Prog (Turned S)
value_at x k = ask x (λ e. sampled e k)

unfoldable pub both_at : {S : Type 0} → Float → (ValueAndDerivative → Prog (Turned S)) → Prog (Turned S)
both_at x k = ask_both x (λ e. sampled_both e k)

-- goes on with a candidate to be used, and refuses 9 if it isn't finite
unfoldable pub offered : {S : Type 0} → Float → (Float → Prog (Turned S)) → Prog (Turned S)
offered x k = log (candidate x) (test (finite x) (k x) (refuses 9))

-- "a finite candidate outside the present pair becomes the nearer end": rule 2
unfoldable pub pulled_into : {A : Type 0} → Float → Float → Float → (Float → Prog A) → Prog A
pulled_into u v x k = log (ruled 2 (outside u v x)) (k (pulled u v x))

-- whether two tests differ
abbrev pub differ : Bool → Bool → Bool
differ true b = not b
differ false b = b

-- rule 1: "Where the Rust tests a product of two samples' values, the port tests signs"; whether a product above zero says otherwise
unfoldable pub product_departs : Sample → Sample → Bool
product_departs p q = differ (same_sign p.y q.y) (above (mul binary64 p.y q.y))

-- "Starts are ordered, smaller first; equal ones keep their order"
unfoldable pub rising : {S : Type 0} → Float → Float → (Float → Float → Prog (Turned S)) → Prog (Turned S)
rising a b k = test (lt b a) (k b a) (k a b)

-- the opening sign test: refusal 6, or the first pair
unfoldable pub bracketed : {S : Type 0} → StopRule → Sample → Sample → S → Prog (Turned S)
bracketed stop p q s =
    log (ruled 1 (product_departs p q))
    (stops stop (alike p q)
    (refuses 6)
    (log (paired (record { begin = p; end = q })) (done (next s))))

-- completes a step
unfoldable pub steps_to : {S : Type 0} → S → Prog (Turned S)
steps_to s = log stepped (done (next s))

-- completes a step, and notes the pair that the new state holds
unfoldable pub narrows_to : {S : Type 0} → (S → Interval) → S → Prog (Turned S)
narrows_to pair s = log (paired (pair s)) (log stepped (done (next s)))

-- ---- a whole search

abbrev pub closing : {S : Type 0} → Turned S → Prog Answer
closing (ended a) = done a
closing (next s) = done (Refused 8)

abbrev pub onward : {S : Type 0} → (S → Prog (Turned S)) → (Turned S → Prog Answer) → Turned S → Prog Answer
onward turn k (ended a) = done a
onward turn k (next s) = bind (turn s) k

-- at most n turns, and refusal 8 where the last of them is not an end
unfoldable pub run : {S : Type 0} → (S → Prog (Turned S)) → ℕ → Turned S → Prog Answer
run turn zero r = closing r
run turn (suc n) r = onward turn (run turn n) r

-- an opening, and then as many turns as are left after it
unfoldable pub searches : {S : Type 0} → Prog (Turned S) → (Turned S → ℕ) → (S → Prog (Turned S)) → Prog Answer
searches opening turns turn = bind opening (λ r. run turn (turns r) r)

-- ---- playing a program

-- who answers
pub record Oracle : Type 0 where
  pub value : Float → Option Sample
  pub both : Float → Option ValueAndDerivative

abbrev pub oracle : List Float → Oracle
oracle a = record { value = evaluated a; both = evaluated_both a }

-- what a history holds: what was asked for with its answer, and what was noted
pub data Event : Type 0 where
  asked : Float → Option Sample → Event
  asked_both : Float → Option ValueAndDerivative → Event
  noted : Note → Event

-- a program is played against an oracle, and every event is entered into a book of any kind
unfoldable pub play : {A L : Type 0} → (Event → L → L) → Oracle → Prog A → L → A × L
play enter o (done a) l = (a, l)
play enter o (ask x f) l = play enter o (f (o.value x)) (enter (asked x (o.value x)) l)
play enter o (ask_both x f) l = play enter o (f (o.both x)) (enter (asked_both x (o.both x)) l)
play enter o (log n g) l = play enter o g (enter (noted n) l)

-- the book of tallies and the mark
abbrev pub note_tallied : Note → Progress → Progress
note_tallied (tested t b) p = p
note_tallied (candidate x) p = p
note_tallied (ruled rule departed) p = ruled_of rule departed p
note_tallied (paired i) p = p
note_tallied stepped p = stepped_of p

abbrev pub tallied : Event → Progress → Progress
tallied (asked x e) p = valued_of p
tallied (asked_both x e) p = sloped_of p
tallied (noted n) p = note_tallied n p

-- the answer of a search, with the tallies and the mark
unfoldable pub answer_of : List Float → Prog Answer → Outcome
answer_of a g = outcome (play tallied (oracle a) g fresh)
