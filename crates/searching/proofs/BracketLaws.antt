-- Laws of bracketing: how a search begins, goes on and ends.
use Rattle.std.specs.Prelude.{ℕ, zero, suc, ◌≤◌, true, false, ◌≡◌, Float}
use Rattle.std.proofs.Common.{arith, inl, inr, ◌∙◌}
use mathlib.Core.List.{List, [], ◌∷◌}
use Rattle.std.proofs.Math.Path.{refl, ap}
use Rattle.std.specs.Float.Ieee.Bits.{is_true}
use Rattle.std.specs.Float.Ieee.Scale.{finite}
use Rattle.doubles.specs.Compare.{Num}
use Rattle.doubles.proofs.Compare.{finite_num}
use Rattle.doubles.specs.Doubles.{same_sign, pulled}
use Rattle.doubles.specs.Number.{Double}
use Rattle.doubles.proofs.Signs.{same_symmetric}
use Rattle.doubles.specs.Pairs.{In, Inside, Nested}
use Rattle.doubles.proofs.Pairs.{in_trans, end_in, pulled_inside, pulled_one}
use Rattle.numerical.specs.declared.Answer.TheVariants.{ByValue, Refused}
use Rattle.numerical.specs.declared.Interval.{Interval}
use Rattle.numerical.specs.declared.Sample.{Sample}
use Rattle.simple_convergency.specs.Stop.{found_at, turns_of}
use Rattle.simple_convergency.specs.declared.StopRule.{StopRule}
use Rattle.polynom.specs.Polynom.{value}
use Rattle.std.specs.Prelude.{Some}
use Rattle.searching.specs.Programs.{found, alike, tested, candidate, ruled, paired, stepped, product_departs, Turned, Prog, value_at, bracketed, oracle, Event, asked, noted}
use Rattle.searching.specs.Histories.{steps_in}
use Rattle.searching.specs.Keeps.{Ends, After}
use Rattle.searching.proofs.Keeps.{ends_value, ends_bracketed}
use Rattle.searching.specs.Reasons.{some_ends, True, Going, Reason, by_value, of_signs, of_value, of_candidate}
use Rattle.searching.specs.ReasonLaws.{Answered}
use Rattle.searching.proofs.ReasonLaws.{answered, not_answered, standing_on, standing_next, standing_going, standing_limit}
use Rattle.searching.specs.Brackets.{pairs_in, points_of, Backed, Fit, AtStarts, Narrows, no_pair, first_pair, next_pair, Told, Bracket, Unpaired, Bracketing}

-- ---- points, samples and pairs

pub double_num : {x : Float} → Double x → Num x
double_num {x} d = finite_num x d.is_finite

pub double_finite : {x : Float} → Double x → finite x ≡ true
double_finite {x} d = is_true (finite x) d.is_finite

turned : (u v c : Float) → Inside u v c → Inside v u c
turned u v c (inl t) = inr t
turned u v c (inr t) = inl t

-- each of two points lies between them
pub between : (u v : Float) → Double u → Double v → Inside u v u × Inside u v v
between u v d e = (end_in u v (double_num d) (double_num e), turned v u v (end_in v u (double_num e) (double_num d)))

module _ {a : List Float} {i : Interval} where
  -- a sample answered at a double of the pair may be an end
  pub answered_fit : {x : Float} {p : Sample} → Answered a x p → Double x → In (points_of i) x → Fit a i p
  answered_fit t d l = record { is_sample = t.is_true; is_double_lem = rw t.at_point d; is_inside = rw t.at_point l }

  -- and a pair's own ends may
  pub ends_fit : Backed a i → Fit a i i.begin × Fit a i i.end
  ends_fit b =
      let w = between i.begin.x i.end.x b.begin_double b.end_double in
      (record { is_sample = b.begin_true; is_double_lem = b.begin_double; is_inside = w.0 }, record { is_sample = b.end_true; is_double_lem = b.end_double; is_inside = w.1 })

  -- two such samples whose values are not alike are a backed pair within i
  fit_backed : (j : Interval) → Fit a i j.begin → Fit a i j.end → same_sign j.begin.y j.end.y ≡ false → Backed a j × Nested (points_of i) (points_of j)
  fit_backed j p q n = (
    record { begin_true = p.is_sample; end_true = q.is_sample; not_alike = n; begin_double = p.is_double_lem; end_double = q.is_double_lem },
    record { one_in = p.is_inside; other_in = q.is_inside },
  )

-- ---- pairs that narrow

pub newest_backed : {a : List Float} {u v : Float} {i : Interval} {older : List Interval} → Narrows a u v (i ∷ older) → Backed a i
newest_backed (first_pair b s) = b
newest_backed (next_pair b n l) = b

-- what lies in the newest pair lies between the starts
pub newest_in : {a : List Float} {u v : Float} {i : Interval} {older : List Interval} (c : Float) → Narrows a u v (i ∷ older) → In (points_of i) c → Inside u v c
newest_in c (first_pair b (inl s)) t = rw (← s.0, ← s.1) t
newest_in c (first_pair b (inr s)) t = rw (← s.0, ← s.1) (turned _ _ c t)
newest_in c (next_pair b n l) t = newest_in c l (in_trans _ _ c n t)

-- ---- ends

-- a refusal after 7 tells nothing of the starts
pub refused_late :
    {a : List Float} {stop : StopRule} {u v : Float} {h : List Event} {n : ℕ} → 8 ≤ n → Narrows a u v (pairs_in h) → Reason a stop (turns_of stop) (Refused n) h →
    Bracket a stop u v (Refused n) h
refused_late l n r = record { reason = r; narrows = n; told = (λ e. absurd (omega (arith, e, l)), λ e. omega (arith, e, l)) }

-- refusal 6 at the starts
told_six : {a : List Float} {u v : Float} (i : Interval) → True a i.begin → True a i.end → AtStarts u v i → same_sign i.begin.y i.end.y ≡ true → Told a u v (Refused 6)
told_six {a} {u} {v} i p q at e = (λ n. go at, λ n. omega (arith, n))
  where
    go : AtStarts u v i → same_sign (value a u) (value a v) ≡ true
    go (inl s) = rw (← s.0, ← s.1, ← p.computed, ← q.computed) e
    go (inr s) = rw (← s.0, ← s.1, ← p.computed, ← q.computed, same_symmetric) e

-- ---- before the first pair

pub unpaired_none : {stop : StopRule} → Unpaired stop []
unfolding pairs_in steps_in some_ends
unpaired_none = record { standing = record { steps = omega arith; undecided = refl }; none = refl }

start_doubles : {u v : Float} (i : Interval) → Double u → Double v → AtStarts u v i → Double i.begin.x × Double i.end.x
start_doubles i d e (inl s) = (rw s.0 d, rw s.1 e)
start_doubles i d e (inr s) = (rw s.0 e, rw s.1 d)

module _ {stop : StopRule} {h : List Event} (b : Unpaired stop h) where
  -- there is always a step left
  pub unpaired_going : Going stop (turns_of stop) h
  unpaired_going = record { below = omega (arith, b.standing.steps); undecided = b.standing.undecided }

  pub unpaired_on : {h2 : List Event} → pairs_in h2 ≡ pairs_in h → steps_in h2 ≡ steps_in h → some_ends stop h2 ≡ some_ends stop h → Unpaired stop h2
  unpaired_on p s q = record { standing = standing_on b.standing s q; none = p ∙ b.none }

  module _ {a : List Float} {u v : Float} where
    pub unpaired_narrows : Narrows a u v (pairs_in h)
    unpaired_narrows = rw b.none no_pair

    -- a value is asked for at a double: 9, or on with the sample
    pub unpaired_value :
        {S : Type 0} {Inv : S → List Event → Type 0} {k : Sample → Prog (Turned S)} (x : Float) → Double x →
        ((p : Sample) → Answered a x p → Unpaired stop (asked x (Some p) ∷ h) → Ends (oracle a) (After Inv (Bracket a stop u v)) (k p) (asked x (Some p) ∷ h)) →
        Ends (oracle a) (After Inv (Bracket a stop u v)) (value_at x k) h
    unfolding pairs_in steps_in some_ends
    unpaired_value x d f =
        let z = double_finite d in
        ends_value x (λ n. refused_late (omega arith) unpaired_narrows (of_value z (not_answered a x n) unpaired_going)) (λ p n. f p (answered a x z p n) (unpaired_on refl refl (rw z refl)))

    module _ (du : Double u) (dv : Double v) (i : Interval) (at : AtStarts u v i) (bt : True a i.begin) (et : True a i.end) where
      -- the first pair: nothing was stepped, and nothing ended the run
      first_bracket :
          same_sign i.begin.y i.end.y ≡ false →
          Bracketing a stop u v (turns_of stop) i (noted (paired i) ∷ noted (tested (alike i.begin i.end) false) ∷ noted (ruled 1 (product_departs i.begin i.end)) ∷ h)
      unfolding pairs_in steps_in some_ends
      first_bracket n =
          let d = start_doubles i du dv at in
          record {
            standing = standing_on b.standing refl (rw n refl);
            older = [];
            newest = ap (λ (l : List Interval). i ∷ l) b.none;
            narrows = first_pair (record { begin_true = bt; end_true = et; not_alike = n; begin_double = d.0; end_double = d.1 }) at;
          }

      -- the opening sign test: refusal 6 at the starts, or the first pair
      pub bracketed_ends :
          {S : Type 0} (Inv : S → List Event → Type 0) (s : S) → ((h2 : List Event) → Bracketing a stop u v (turns_of stop) i h2 → Inv s h2) →
          Ends (oracle a) (After Inv (Bracket a stop u v)) (bracketed stop i.begin i.end s) h
      unfolding pairs_in steps_in some_ends
      bracketed_ends Inv s f =
          ends_bracketed s stop i.begin i.end
          (λ e. record { reason = of_signs bt et e (record { below = unpaired_going.below; undecided = unpaired_going.undecided }); narrows = unpaired_narrows; told = told_six i bt et at e })
          (λ e. f _ (first_bracket e))

-- ---- with a pair

module _ {a : List Float} {stop : StopRule} {u v : Float} {n : ℕ} {i : Interval} {h : List Event} (b : Bracketing a stop u v n i h) where
  pub bracket_backed : Backed a i
  bracket_backed = newest_backed b.narrows

  pub bracket_in : (c : Float) → In (points_of i) c → Inside u v c
  bracket_in c t = newest_in c b.narrows t

  pub bracket_narrows : Narrows a u v (pairs_in h)
  bracket_narrows = rw b.newest b.narrows

  -- events that are no step and no pair and end nothing leave it as it is
  pub bracket_on : {h2 : List Event} → pairs_in h2 ≡ pairs_in h → steps_in h2 ≡ steps_in h → some_ends stop h2 ≡ some_ends stop h → Bracketing a stop u v n i h2
  bracket_on p s q = record { standing = standing_on b.standing s q; older = b.older; newest = p ∙ b.newest; narrows = b.narrows }

  -- a point pulled into the pair is a double inside of it
  pub bracket_pulled : (x : Float) → Double x → Double (pulled i.begin.x i.end.x x) × In (points_of i) (pulled i.begin.x i.end.x x)
  bracket_pulled x d = (
    pulled_one Double i.begin.x i.end.x x bracket_backed.begin_double bracket_backed.end_double d,
    pulled_inside i.begin.x i.end.x x (double_num bracket_backed.begin_double) (double_num bracket_backed.end_double) (double_num d),
  )

-- with a step left
module _ {a : List Float} {stop : StopRule} {u v : Float} {n : ℕ} {i : Interval} {h : List Event} (b : Bracketing a stop u v (suc n) i h) where
  pub bracket_going : Going stop (turns_of stop) h
  bracket_going = standing_going b.standing

  -- a step to a pair of fit samples whose values are not alike
  pub bracket_next :
      (j : Interval) → Fit a i j.begin → Fit a i j.end → same_sign j.begin.y j.end.y ≡ false →
      Bracketing a stop u v n j (noted stepped ∷ noted (paired j) ∷ h)
  unfolding pairs_in steps_in some_ends
  bracket_next j p q n =
      let w = fit_backed j p q n in
      record {
        standing = standing_next (standing_on b.standing refl refl);
        older = i ∷ b.older;
        newest = ap (λ (l : List Interval). j ∷ l) b.newest;
        narrows = next_pair w.0 w.1 b.narrows;
      }

  -- a fit sample was found
  pub bracket_found : (p : Sample) → Fit a i p → found_at stop p.y ≡ true → Bracket a stop u v (ByValue p.x p.y) (noted (tested (found p) true) ∷ h)
  unfolding pairs_in
  bracket_found p t e = record { reason = by_value t.is_sample e bracket_going; narrows = bracket_narrows b; told = (bracket_in b p.x t.is_inside, t.is_double_lem) }

  -- a value is asked for at a double: 9, or on with the sample
  pub bracket_value :
      {S : Type 0} {Inv : S → List Event → Type 0} {k : Sample → Prog (Turned S)} (x : Float) → Double x →
      ((p : Sample) → Answered a x p → Bracketing a stop u v (suc n) i (asked x (Some p) ∷ h) → Ends (oracle a) (After Inv (Bracket a stop u v)) (k p) (asked x (Some p) ∷ h)) →
      Ends (oracle a) (After Inv (Bracket a stop u v)) (value_at x k) h
  unfolding pairs_in steps_in some_ends
  bracket_value x d f =
      let z = double_finite d in
      ends_value x (λ e. refused_late (omega arith) (bracket_narrows b) (of_value z (not_answered a x e) bracket_going)) (λ p e. f p (answered a x z p e) (bracket_on b refl refl (rw z refl)))

  pub bracket_no_candidate : (x : Float) → finite x ≡ false → Bracket a stop u v (Refused 9) (noted (candidate x) ∷ h)
  unfolding pairs_in
  bracket_no_candidate x e = refused_late (omega arith) (bracket_narrows b) (of_candidate e bracket_going)

-- at the limit
pub bracket_limit : {a : List Float} {stop : StopRule} {u v : Float} {i : Interval} {h : List Event} → Bracketing a stop u v zero i h → Bracket a stop u v (Refused 8) h
bracket_limit b = refused_late (omega arith) (bracket_narrows b) (standing_limit b.standing)
