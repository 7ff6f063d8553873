-- What is promised of the pairs of a bracketing method, over its history. Definitions only.
use Rattle.std.specs.Prelude.{ℕ, true, false, List, [], ◌∷◌, ◌⊎◌, ◌≡◌, Float}
use Rattle.doubles.specs.Doubles.{same_sign}
use Rattle.doubles.specs.Number.{Double}
use Rattle.doubles.specs.Pairs.{Pair, Nested, Inside, In}
use Rattle.numerical.specs.declared.Answer.{Answer}
use Rattle.numerical.specs.declared.Answer.TheVariants.{ByValue, ByWidth, Refused}
use Rattle.numerical.specs.declared.Interval.{Interval}
use Rattle.numerical.specs.declared.Sample.{Sample}
use Rattle.simple_convergency.specs.Stop.{turns_of}
use Rattle.simple_convergency.specs.declared.StopRule.{StopRule}
use Rattle.polynom.specs.Polynom.{value}
use Rattle.searching.specs.Programs.{tested, candidate, ruled, paired, stepped, Event, asked, asked_both, noted}
use Rattle.searching.specs.Reasons.{True, Reason, Standing}

-- the pairs of a history, newest first
unfoldable pub pairs_in : List Event → List Interval
pairs_in [] = []
pairs_in (asked x e ∷ h) = pairs_in h
pairs_in (asked_both x e ∷ h) = pairs_in h
pairs_in (noted (tested t b) ∷ h) = pairs_in h
pairs_in (noted (candidate x) ∷ h) = pairs_in h
pairs_in (noted (ruled rule departed) ∷ h) = pairs_in h
pairs_in (noted (paired i) ∷ h) = i ∷ pairs_in h
pairs_in (noted stepped ∷ h) = pairs_in h

abbrev pub points_of : Interval → Pair
points_of i = record { one = i.begin.x; other = i.end.x }

-- a pair's values are the computed values at its points, and they are not both above zero nor both below
pub record Backed (a : List Float) (i : Interval) : Type 0 where
  pub begin_true : True a i.begin
  pub end_true : True a i.end
  pub not_alike : same_sign i.begin.y i.end.y ≡ false
  pub begin_double : Double i.begin.x
  pub end_double : Double i.end.x

-- a sample that may be an end of a pair within i: its value is the computed one, and its point a double inside
pub record Fit (a : List Float) (i : Interval) (p : Sample) : Type 0 where
  pub is_sample : True a p
  pub is_double_lem : Double p.x
  pub is_inside : In (points_of i) p.x

-- the pair's points are u and v
abbrev pub AtStarts : Float → Float → Interval → Type 0
AtStarts u v i = ((i.begin.x ≡ u) × (i.end.x ≡ v)) ⊎ ((i.begin.x ≡ v) × (i.end.x ≡ u))

-- each pair lies within the pair before, and the first is the starts
pub data Narrows (a : List Float) (u v : Float) : List Interval → Type 0 where
  no_pair : Narrows a u v []
  first_pair : {i : Interval} → Backed a i → AtStarts u v i → Narrows a u v (i ∷ [])
  next_pair : {i j : Interval} {older : List Interval} → Backed a j → Nested (points_of i) (points_of j) → Narrows a u v (i ∷ older) → Narrows a u v (j ∷ i ∷ older)

-- an accepted root is a double between the starts, 6 is told of the values at the starts, and 7 is never told
abbrev pub Told : List Float → Float → Float → Answer → Type 0
Told a u v (ByValue root y) = Inside u v root × Double root
Told a u v (ByWidth root p q) = Inside u v root × Double root
Told a u v (Refused n) = (n ≡ 6 → same_sign (value a u) (value a v) ≡ true) × ¬ (n ≡ 7)

-- the promises of a bracketing search from u and v, at its end
pub record Bracket (a : List Float) (stop : StopRule) (u v : Float) (answer : Answer) (h : List Event) : Type 0 where
  pub reason : Reason a stop (turns_of stop) answer h
  pub narrows : Narrows a u v (pairs_in h)
  pub told : Told a u v answer

-- where such a search stands before its first pair
pub record Unpaired (stop : StopRule) (h : List Event) : Type 0 where
  pub standing : Standing stop (turns_of stop) (turns_of stop) h
  pub none : pairs_in h ≡ []

-- where it stands with n steps left, and with the pair i
pub record Bracketing (a : List Float) (stop : StopRule) (u v : Float) (n : ℕ) (i : Interval) (h : List Event) : Type 0 where
  pub standing : Standing stop (turns_of stop) n h
  pub older : List Interval
  pub newest : pairs_in h ≡ i ∷ older
  pub narrows : Narrows a u v (i ∷ older)
