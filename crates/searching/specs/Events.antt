-- What each event of a history is, given those before it: the words in which a method says its points, tests, candidates and pairs. Definitions only.
use Rattle.std.specs.Prelude.{ℕ, ◌+◌, Bool, true, false, cond, List, [], ◌∷◌, ◌⊎◌, ◌≡◌, length, Float}
use Rattle.std.specs.Float.Ieee.{lt}
use Rattle.doubles.specs.Doubles.{pulled, outside}
use Rattle.numerical.specs.declared.Answer.{Answer}
use Rattle.numerical.specs.declared.Answer.TheVariants.{ByValue, ByWidth, Refused}
use Rattle.numerical.specs.declared.Interval.{Interval}
use Rattle.numerical.specs.declared.Sample.{Sample}
use Rattle.std.specs.Prelude.{Option, Some}
use Rattle.polynom.specs.declared.ValueAndDerivative.{ValueAndDerivative}
use Rattle.searching.specs.Programs.{found, converged, flat, alike, tested, candidate, ruled, paired, stepped, Event, asked, asked_both, noted}
use Rattle.searching.specs.Histories.{steps_in}
use Rattle.searching.specs.Brackets.{pairs_in}

-- ---- what is read from a history

-- the evaluations, newest first, each with its point and what was answered
unfoldable pub evaluations_in : List Event → List Event
evaluations_in [] = []
evaluations_in (asked x e ∷ h) = asked x e ∷ evaluations_in h
evaluations_in (asked_both x e ∷ h) = asked_both x e ∷ evaluations_in h
evaluations_in (noted n ∷ h) = evaluations_in h

-- the candidates, newest first
unfoldable pub candidates_in : List Event → List Float
candidates_in [] = []
candidates_in (asked x e ∷ h) = candidates_in h
candidates_in (asked_both x e ∷ h) = candidates_in h
candidates_in (noted (tested t held) ∷ h) = candidates_in h
candidates_in (noted (candidate x) ∷ h) = x ∷ candidates_in h
candidates_in (noted (ruled rule departed) ∷ h) = candidates_in h
candidates_in (noted (paired i) ∷ h) = candidates_in h
candidates_in (noted stepped ∷ h) = candidates_in h

-- the evaluations since the newest candidate, newest first; before any candidate, all
unfoldable pub evaluated_since : List Event → List Event
evaluated_since [] = []
evaluated_since (asked x e ∷ h) = asked x e ∷ evaluated_since h
evaluated_since (asked_both x e ∷ h) = asked_both x e ∷ evaluated_since h
evaluated_since (noted (tested t held) ∷ h) = evaluated_since h
evaluated_since (noted (candidate x) ∷ h) = []
evaluated_since (noted (ruled rule departed) ∷ h) = evaluated_since h
evaluated_since (noted (paired i) ∷ h) = evaluated_since h
evaluated_since (noted stepped ∷ h) = evaluated_since h

-- whether the opening sign test was made and did not hold
unfoldable pub signs_missed : List Event → Bool
signs_missed [] = false
signs_missed (asked x e ∷ h) = signs_missed h
signs_missed (asked_both x e ∷ h) = signs_missed h
signs_missed (noted (tested (found p) held) ∷ h) = signs_missed h
signs_missed (noted (tested (converged p q) held) ∷ h) = signs_missed h
signs_missed (noted (tested (flat y) held) ∷ h) = signs_missed h
signs_missed (noted (tested (alike p q) held) ∷ h) = cond held (signs_missed h) true
signs_missed (noted (candidate x) ∷ h) = signs_missed h
signs_missed (noted (ruled rule departed) ∷ h) = signs_missed h
signs_missed (noted (paired i) ∷ h) = signs_missed h
signs_missed (noted stepped ∷ h) = signs_missed h

-- ---- the newest of each

-- i is the newest pair
abbrev pub Newest : Interval → List Event → Type 0
Newest i h = (older : List Interval) × (pairs_in h ≡ i ∷ older)

-- x is the newest candidate
abbrev pub Candidate : Float → List Event → Type 0
Candidate x h = (older : List Float) × (candidates_in h ≡ x ∷ older)

-- x is the newest candidate, and nothing was evaluated since
abbrev pub Untried : Float → List Event → Type 0
Untried x h = Candidate x h × (evaluated_since h ≡ [])

-- the newest candidate, if there is one, was evaluated
abbrev pub Tried : List Event → Type 0
Tried h = (e : Event) × (older : List Event) × (evaluated_since h ≡ e ∷ older)

-- p is the sample that the newest evaluation answered
abbrev pub Sampled : Sample → List Event → Type 0
Sampled p h = (x : Float) × (older : List Event) × (evaluations_in h ≡ asked x (Some p) ∷ older)

-- v is the value with its derivative that the newest evaluation answered
abbrev pub SampledBoth : ValueAndDerivative → List Event → Type 0
SampledBoth v h = (x : Float) × (older : List Event) × (evaluations_in h ≡ asked_both x (Some v) ∷ older)

-- the two newest evaluations answered p, and then q
abbrev pub SampledTwo : Sample → Sample → List Event → Type 0
SampledTwo p q h = (x : Float) × (z : Float) × (older : List Event) × (evaluations_in h ≡ asked z (Some q) ∷ asked x (Some p) ∷ older)

-- x is the point of the sample that the newest evaluation answered
abbrev pub LastPoint : Float → List Event → Type 0
LastPoint x h = (p : Sample) × Sampled p h × (x ≡ p.x)

-- ---- what an event may be

-- nothing was evaluated before, and x is the first start
abbrev pub AtFirst : Float → Float → List Event → Type 0
AtFirst first x h = (evaluations_in h ≡ []) × (x ≡ first)

-- the first start alone was evaluated before, and x is the second
abbrev pub AtSecond : Float → Float → Float → List Event → Type 0
AtSecond first second x h = (e : Option Sample) × (evaluations_in h ≡ asked first e ∷ []) × (x ≡ second)

-- "Starts are ordered, smaller first; equal ones keep their order"
abbrev pub lower_of : Float → Float → Float
lower_of from to = cond (lt to from) to from

abbrev pub upper_of : Float → Float → Float
upper_of from to = cond (lt to from) from to

-- p and q are the samples at the two starts, in either order, and there was no evaluation but theirs
abbrev pub OfStarts : Sample → Sample → List Event → Type 0
OfStarts p q h = (x : Float) × (z : Float) × ((evaluations_in h ≡ asked z (Some q) ∷ asked x (Some p) ∷ []) ⊎ (evaluations_in h ≡ asked z (Some p) ∷ asked x (Some q) ∷ []))

-- p is an end of the newest pair
abbrev pub EndOf : Sample → List Event → Type 0
EndOf p h = (i : Interval) × Newest i h × ((p ≡ i.begin) ⊎ (p ≡ i.end))

-- p and q are the points of the newest pair
abbrev pub PointsOf : Float → Float → List Event → Type 0
PointsOf p q h = (i : Interval) × Newest i h × (p ≡ i.begin.x) × (q ≡ i.end.x)

-- x is the newest candidate, pulled into the newest pair, and nothing was evaluated since
abbrev pub PulledNow : Float → List Event → Type 0
PulledNow x h = (i : Interval) × (c : Float) × Newest i h × Untried c h × (x ≡ pulled i.begin.x i.end.x c)

-- p alone was evaluated since the newest candidate
abbrev pub Answered : Sample → List Event → Type 0
Answered p h = (x : Float) × (evaluated_since h ≡ asked x (Some p) ∷ [])

-- v alone was worked out since the newest candidate
abbrev pub AnsweredBoth : ValueAndDerivative → List Event → Type 0
AnsweredBoth v h = (x : Float) × (evaluated_since h ≡ asked_both x (Some v) ∷ [])

-- i is the newest pair with p in the place of one of its ends
abbrev pub Replaced : Sample → Interval → List Event → Type 0
Replaced p i h = (j : Interval) × Newest j h × ((i ≡ record { begin = p; end = j.end }) ⊎ (i ≡ record { begin = j.begin; end = p }))

-- an added rule is rule 1, or rule 2 of the newest candidate and the newest pair
abbrev pub Rules : ℕ → Bool → List Event → Type 0
Rules rule departed h = (rule ≡ 1) ⊎ ((rule ≡ 2) × ((i : Interval) × (c : Float) × Newest i h × Candidate c h × (departed ≡ outside i.begin.x i.end.x c)))

-- there is a pair, and the candidate before was evaluated
abbrev pub Paired : List Event → Type 0
Paired h = ((i : Interval) × Newest i h) × Tried h

-- a pair was just noted
abbrev pub AfterPair : List Event → Type 0
AfterPair h = (i : Interval) × (before : List Event) × (h ≡ noted (paired i) ∷ before)

-- ---- whole histories

-- each event is what the method says, given those before it
abbrev pub Each : (Event → List Event → Type 0) → List Event → Type 0
Each Follows [] = Unit {0}
Each Follows (e ∷ h) = Follows e h × Each Follows h

-- an answer by width gives a root and two points that are what the method says
abbrev pub Width : (Float → Float → Float → List Event → Type 0) → Answer → List Event → Type 0
Width Gives (ByValue root y) h = Unit {0}
Width Gives (ByWidth root p q) h = Gives root p q h
Width Gives (Refused n) h = Unit {0}

-- what ends a run before its first pair: a start that is found, 6 or 9
abbrev pub BeforePairs : Answer → Type 0
BeforePairs (ByValue root y) = Unit {0}
BeforePairs (ByWidth root p q) = ⊥
BeforePairs (Refused n) = (n ≡ 6) ⊎ (n ≡ 9)

-- how a search without pairs ends
pub record Ordered (Follows : Event → List Event → Type 0) (Gives : Float → Float → Float → List Event → Type 0) (answer : Answer) (h : List Event) : Type 0 where
  pub each : Each Follows h
  pub width : Width Gives answer h

-- how a bracketing search ends: one pair at the opening and one for each step, where the opening sign test was made and did not hold, and none where it ended before
pub record Traced (Follows : Event → List Event → Type 0) (Gives : Float → Float → Float → List Event → Type 0) (answer : Answer) (h : List Event) : Type 0 where
  pub ordered : Ordered Follows Gives answer h
  pub with_pairs : signs_missed h ≡ true → length (pairs_in h) ≡ steps_in h + 1
  pub without : signs_missed h ≡ false → (pairs_in h ≡ []) × (steps_in h ≡ 0) × BeforePairs answer

-- where a bracketing search stands before its first pair
pub record Opening (Follows : Event → List Event → Type 0) (h : List Event) : Type 0 where
  pub each : Each Follows h
  pub no_pair : pairs_in h ≡ []
  pub no_step : steps_in h ≡ 0
  pub no_signs : signs_missed h ≡ false

-- where it stands with the pair i
pub record Tracing (Follows : Event → List Event → Type 0) (i : Interval) (h : List Event) : Type 0 where
  pub each : Each Follows h
  pub older : List Interval
  pub newest : pairs_in h ≡ i ∷ older
  pub count : length older ≡ steps_in h
  pub signs : signs_missed h ≡ true
