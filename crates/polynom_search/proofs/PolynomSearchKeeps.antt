-- Every pair of the polynomial search lies within the pair before and is backed, every root lies between the starts, and every answer has its reason.
use Rattle.std.specs.Prelude.{ℕ, suc, Bool, cond, List, [], ◌∷◌, ◌⊎◌, ◌≡◌, T, Float}
use Rattle.std.proofs.Common.{arith, ◌∙◌}
use Rattle.std.proofs.Math.Bool.{true, false}
use Rattle.std.proofs.lemmas.Bool.{false≢true}
use Rattle.std.proofs.Math.Logic.{inl, inr}
use Rattle.std.proofs.Math.Path.{refl}
use Rattle.std.specs.Float.{nan, inf, fin, binary64}
use Rattle.std.specs.Float.Ieee.{lt, le, ne}
use Rattle.std.specs.Float.Ieee.Fits.{cond-fits, add-fits, sub-fits, div-fits}
use Rattle.std.specs.Float.Ieee.Scale.{finite}
use Rattle.doubles.proofs.Compare.{of_true}
use Rattle.doubles.specs.Doubles.{nought, same_sign, outside, pulled}
use Rattle.doubles.specs.Number.{Double}
use Rattle.doubles.specs.Pairs.{In}
use Rattle.doubles.proofs.Signs.{same_symmetric, shared_replaced}
use Rattle.numerical.specs.Middle.{middle_of, crosses}
use Rattle.numerical.specs.declared.Answer.TheVariants.{Refused}
use Rattle.numerical.specs.declared.Interval.{Interval}
use Rattle.numerical.specs.declared.Sample.{Sample}
use Rattle.simple_convergency.specs.Stop.{turns_of}
use Rattle.simple_convergency.specs.declared.StopRule.{StopRule}
use Rattle.polynom.specs.declared.ValueAndDerivative.{ValueAndDerivative}
use Rattle.searching.specs.Programs.{found, converged, candidate, ruled, Prog, Turned, Event, noted, rising, oracle}
use Rattle.searching.specs.Histories.{steps_in}
use Rattle.searching.specs.Reasons.{some_ends, by_middle, of_derivative, of_middle}
use Rattle.searching.specs.ReasonLaws.{Answered}
use Rattle.searching.proofs.ReasonLaws.{answered_both, not_answered_both}
use Rattle.searching.specs.Brackets.{pairs_in, points_of, Backed, Fit, AtStarts, Bracket, Unpaired, Bracketing}
use Rattle.searching.proofs.BracketLaws.{double_finite, answered_fit, ends_fit, refused_late, unpaired_none, unpaired_value, bracketed_ends, bracket_backed, bracket_in, bracket_narrows, bracket_on, bracket_pulled, bracket_going, bracket_next, bracket_found, bracket_value, bracket_no_candidate, bracket_limit}
use Rattle.searching.specs.Keeps.{Ends, After}
use Rattle.searching.proofs.Keeps.{ends_done, ends_log, ends_test, ends_stops, ends_both, ends_offered, ends_pulled, ends_narrows, ends_searches}
use Rattle.polynom.specs.Polynom.{newton_point}
use Rattle.polynom_search.specs.PolynomSearch.{second_at, first_at, ordered, opening, pair_of, replaced_of, chosen, closer, in_pair, usable, at_middle, step_at, width_at, pulled_in, at_middle_of, turn_from, polynom_program}

-- ---- points and pairs

-- what lies between two finite floats is finite
between_finite : (u v x : Float) → T (finite u) → T (finite v) → T (le u x) → T (le x v) → T (finite x)
unfolding le lt
between_finite (fin s m e) (fin t n d) nan p q h k = absurd h
between_finite (fin s m e) (fin t n d) (inf true) p q h k = absurd h
between_finite (fin s m e) (fin t n d) (inf false) p q h k = absurd k
between_finite (fin s m e) (fin t n d) (fin r j c) p q h k = tt
between_finite nan v _ p q h k = elim p [ ]
between_finite (inf _) v _ p q h k = elim p [ ]
between_finite (fin s m e) nan _ p q h k = elim q [ ]
between_finite (fin s m e) (inf _) _ p q h k = elim q [ ]

-- a middle that is finite is a double
middle_double : (i : Interval) → finite (middle_of i) ≡ true → Double (middle_of i)
unfolding middle_of
middle_double i e = record { is_finite = of_true _ e; is_held = cond-fits binary64 (crosses i) _ _ (add-fits binary64 _ _) (div-fits binary64 _ _) }

-- two tests, the second made where the first holds
both_hold : (b c : Bool) → cond b c false ≡ true → (b ≡ true) × (c ≡ true)
both_hold true c e = (refl, e)
both_hold false c e = absurd (false≢true e)

-- a point in the pair is between its ends
pair_in : (i : Interval) (x : Float) → in_pair i x ≡ true → T (le i.begin.x x) × T (le x i.end.x)
unfolding in_pair
pair_in i x e = let t = both_hold (le i.begin.x x) (le x i.end.x) e in (of_true _ t.0, of_true _ t.1)

-- a Newton point that is used is a double in the pair
newton_in : (i : Interval) (v : ValueAndDerivative) → usable i v ≡ true → T (le i.begin.x (newton_point v)) × T (le (newton_point v) i.end.x)
unfolding usable
newton_in i v e = pair_in i (newton_point v) (both_hold (ne v.derivative nought) (in_pair i (newton_point v)) e).1

newton_double : {a : List Float} {i : Interval} (v : ValueAndDerivative) → Backed a i → usable i v ≡ true → Double (newton_point v)
unfolding newton_point
newton_double {i = i} v b e =
    let t = newton_in i v e in
    record { is_finite = between_finite i.begin.x i.end.x (newton_point v) b.begin_double.is_finite b.end_double.is_finite t.0 t.1; is_held = sub-fits binary64 _ _ }

-- the sample p takes the place of an end
module _ (i : Interval) (p : Sample) where
  -- and the values are still not both above zero nor both below
  replaced_signs : same_sign i.begin.y i.end.y ≡ false → same_sign (replaced_of i p).begin.y (replaced_of i p).end.y ≡ false
  unfolding replaced_of
  replaced_signs k = go (same_sign i.begin.y p.y) refl
    where
      go : (s : Bool) → same_sign i.begin.y p.y ≡ s → same_sign (replaced_of i p).begin.y (replaced_of i p).end.y ≡ false
      go true e = rw e (shared_replaced i.begin.y i.end.y p.y (same_symmetric p.y i.begin.y ∙ e) k)
      go false e = rw e e

  -- the next pair is this one with the sample in the place of one end
  pub replaced_one : (replaced_of i p ≡ record { begin = p; end = i.end }) ⊎ (replaced_of i p ≡ record { begin = i.begin; end = p })
  unfolding replaced_of
  replaced_one = go (same_sign i.begin.y p.y) refl
    where
      go : (s : Bool) → same_sign i.begin.y p.y ≡ s → (replaced_of i p ≡ record { begin = p; end = i.end }) ⊎ (replaced_of i p ≡ record { begin = i.begin; end = p })
      go true e = inl (rw e refl)
      go false e = inr (rw e refl)

  replaced_fit : {a : List Float} → Backed a i → Fit a i p → Fit a i (replaced_of i p).begin × Fit a i (replaced_of i p).end
  unfolding replaced_of
  replaced_fit {a} b n = go (same_sign i.begin.y p.y) refl
    where
      go : (s : Bool) → same_sign i.begin.y p.y ≡ s → Fit a i (replaced_of i p).begin × Fit a i (replaced_of i p).end
      go true e = rw e (n, (ends_fit b).1)
      go false e = rw e ((ends_fit b).0, n)

-- ---- the search, one lemma for each of its definitions

module _ (a : List Float) (stop : StopRule) (from to : Float) (from-double : Double from) (to-double : Double to) where
  abbrev Inv : ℕ → Interval → List Event → Type 0
  Inv = Bracketing a stop from to

  abbrev Reaches : ℕ → Prog (Turned Interval) → List Event → Type 0
  Reaches n g h = Ends (oracle a) (After (Inv n) (Bracket a stop from to)) g h

  -- ---- the opening, from u and v, which are the starts in order
  module _ (u v : Float) (u-double : Double u) (v-double : Double v) (starts : (i : Interval) → i.begin.x ≡ u → i.end.x ≡ v → AtStarts from to i) where
    keeps_second : (p q : Sample) (h : List Event) → Answered a u p → Answered a v q → Unpaired stop h → Reaches (turns_of stop) (second_at stop p q) h
    unfolding second_at
    keeps_second p q h t w i =
        let j : Interval = record { begin = p; end = q } in
        bracketed_ends i from-double to-double j (starts j t.at_point w.at_point) t.is_true w.is_true (Inv (turns_of stop)) j (λ h2 b. b)

    keeps_first : (p : Sample) (h : List Event) → Answered a u p → Unpaired stop h → Reaches (turns_of stop) (first_at stop v p) h
    unfolding first_at
    keeps_first p h t i = unpaired_value i v v-double (λ q w j. keeps_second p q _ t w j)

    keeps_ordered : Reaches (turns_of stop) (ordered stop u v) []
    unfolding ordered
    keeps_ordered = unpaired_value unpaired_none u u-double (λ p t i. keeps_first p _ t i)

  keeps_opening : Reaches (turns_of stop) (opening stop from to) []
  unfolding opening rising
  keeps_opening = ends_test (lt to from) (λ e. keeps_ordered to from to-double from-double (λ i p q. inr (p, q))) (λ e. keeps_ordered from to from-double to-double (λ i p q. inl (p, q)))

  -- ---- a step
  module _ (n : ℕ) (i : Interval) where
    keeps_chosen : (p : Sample) (h : List Event) → Fit a i p → Inv (suc n) i h → Reaches n (chosen i p) h
    unfolding chosen some_ends steps_in pairs_in
    keeps_chosen p h t b =
        let c = bracket_backed b in
        let r = replaced_fit i p c t in
        ends_log _ (ends_narrows (replaced_of i p) pair_of (bracket_next (bracket_on b refl refl refl) (replaced_of i p) r.0 r.1 (replaced_signs i p c.not_alike)))

    keeps_closer : (m p : Sample) (h : List Event) → Fit a i m → Fit a i p → Inv (suc n) i h → Reaches n (closer i m p) h
    unfolding closer
    keeps_closer m p h t w b = ends_test _ (λ e. keeps_chosen p h w b) (λ e. keeps_chosen m h t b)

    keeps_at_middle : (v : ValueAndDerivative) (h : List Event) → Fit a i v.value → Inv (suc n) i h → Reaches n (at_middle i v) h
    unfolding at_middle
    keeps_at_middle v h t b =
        ends_test (usable i v)
        (λ e.
        let d = newton_double v (bracket_backed b) e in
        bracket_value b (newton_point v) d (λ p w c. keeps_closer v.value p _ t (answered_fit w d (inl (newton_in i v e))) c))
        (λ e. keeps_chosen v.value h t b)

    keeps_step : (x : Float) (h : List Event) → Double x → In (points_of i) x → Inv (suc n) i h → Reaches n (step_at i x) h
    unfolding step_at some_ends steps_in pairs_in
    keeps_step x h d l b =
        ends_both x (λ e. refused_late (omega arith) (bracket_narrows b) (of_derivative (double_finite d) (not_answered_both a x e) (bracket_going b)))
        (λ v e. keeps_at_middle v _ (answered_fit (answered_both a x (double_finite d) v e) d l) (bracket_on b refl refl (rw (double_finite d) refl)))

    -- the middle is refused where it is not finite, and else used as a double inside the pair
    keeps_middle :
        {before : List Event} (g : Float → Prog (Turned Interval)) (h : List Event) → Inv (suc n) i before →
        (finite (middle_of i) ≡ false → Bracket a stop from to (Refused 9) (noted (candidate (middle_of i)) ∷ h)) →
        (finite (middle_of i) ≡ true → Double (pulled i.begin.x i.end.x (middle_of i)) → In (points_of i) (pulled i.begin.x i.end.x (middle_of i)) →
        Reaches n (g (pulled i.begin.x i.end.x (middle_of i))) (noted (ruled 2 (outside i.begin.x i.end.x (middle_of i))) ∷ noted (candidate (middle_of i)) ∷ h)) →
        Reaches n (at_middle_of i g) h
    unfolding at_middle_of pulled_in
    keeps_middle g h b r f =
        ends_offered (pulled_in i g) (middle_of i) r
        (λ e. let w = bracket_pulled b (middle_of i) (middle_double i e) in ends_pulled g i.begin.x i.end.x (middle_of i) (f e w.0 w.1))

    keeps_turn : (h : List Event) → Inv (suc n) i h → Reaches n (turn_from stop i) h
    unfolding turn_from width_at some_ends steps_in pairs_in
    keeps_turn h b =
        let w = ends_fit (bracket_backed b) in
        ends_stops stop (found i.begin) (λ e. ends_done (bracket_found b i.begin w.0 e))
        (λ e. ends_stops stop (found i.end) (λ f. ends_done (bracket_found (bracket_on b refl refl (rw e refl)) i.end w.1 f))
        (λ f. ends_stops stop (converged i.begin.x i.end.x)
        (λ g. keeps_middle (width_at i) _ b (λ z. refused_late (omega arith) (bracket_narrows b) (of_middle z g (bracket_going (bracket_on b refl refl (rw (e, f) refl)))))
        (λ z d l. ends_done (record { reason = by_middle (double_finite d) g z (bracket_going (bracket_on b refl refl (rw (e, f) refl))); narrows = bracket_narrows b; told = (bracket_in b _ l, d) })))
        (λ g. keeps_middle (step_at i) _ b (bracket_no_candidate (bracket_on b refl refl (rw (e, f, g) refl)) (middle_of i))
        (λ z d l. keeps_step _ _ d l (bracket_on b refl refl (rw (e, f, g, z) refl))))))

  -- from any two finite doubles the search ends with its reason, its pairs each within the one before and backed, and its root between the starts
  pub polynom_search_ends : Ends (oracle a) (Bracket a stop from to) (polynom_program stop from to) []
  unfolding polynom_program
  polynom_search_ends = ends_searches (λ r. turns_of stop) (turn_from stop) Inv (Bracket a stop from to) keeps_opening keeps_turn (λ i h b. bracket_limit b)
