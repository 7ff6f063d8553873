-- Each answer of the Illinois search has its reason in the history, its pairs narrow, and its root lies between the starts.
use Rattle.std.specs.Prelude.{ℕ, suc, Bool, true, false, cond, List, [], ◌⊎◌, ◌≡◌, T, Float}
use Rattle.std.proofs.Common.{inl, inr, ◌∙◌}
use Rattle.std.proofs.Math.Path.{refl}
use Rattle.std.specs.Float.{binary64}
use Rattle.std.specs.Float.Ieee.{lt, fits}
use Rattle.std.specs.Float.Ieee.Fits.{div-fits}
use Rattle.doubles.proofs.Compare.{of_true}
use Rattle.doubles.specs.Doubles.{same_sign}
use Rattle.doubles.specs.Number.{Double}
use Rattle.doubles.specs.Pairs.{In, Inside}
use Rattle.doubles.proofs.Signs.{same_symmetric, shared_replaced}
use Rattle.numerical.specs.declared.Sample.{Sample}
use Rattle.simple_convergency.specs.Stop.{turns_of}
use Rattle.simple_convergency.specs.declared.StopRule.{StopRule}
use Rattle.searching.specs.Programs.{rising, oracle, Event, Prog, Turned}
use Rattle.searching.specs.Histories.{steps_in}
use Rattle.searching.specs.Reasons.{some_ends, by_value, by_width}
use Rattle.searching.specs.ReasonLaws.{Answered}
use Rattle.searching.specs.Brackets.{pairs_in, points_of, Fit, AtStarts, Bracket, Unpaired, Bracketing}
use Rattle.searching.proofs.BracketLaws.{double_finite, between, answered_fit, ends_fit, unpaired_none, unpaired_going, unpaired_on, unpaired_narrows, unpaired_value, bracketed_ends, bracket_backed, bracket_in, bracket_narrows, bracket_on, bracket_pulled, bracket_going, bracket_next, bracket_found, bracket_value, bracket_no_candidate, bracket_limit}
use Rattle.searching.specs.Keeps.{Ends, After}
use Rattle.searching.proofs.Keeps.{ends_done, ends_log, ends_test, ends_stops, ends_offered, ends_pulled, ends_narrows, ends_searches}
use Rattle.regula_falsi.specs.RegulaFalsi.{pair_of, second_at, first_at, ordered, opening, candidate_of, right_after, left_after, left_replaced, right_replaced, replaced_of, arrived, landed, pulled_in, turn_from, illinois_program}
use Rattle.regula_falsi.specs.declared.End.{End}
use Rattle.regula_falsi.specs.declared.Edge.{Edge}
use Rattle.regula_falsi.specs.declared.Edge.TheVariants.{EdgeX1, NoEdge, EdgeX2}
use Rattle.regula_falsi.specs.declared.Illinois.{Illinois}

-- a halved weight leaves an end where it is
right_at : (edge : Edge) (e : End) → (right_after edge e).at ≡ e.at
right_at EdgeX1 e = refl
right_at NoEdge e = refl
right_at EdgeX2 e = refl

left_at : (edge : Edge) (e : End) → (left_after edge e).at ≡ e.at
left_at EdgeX1 e = refl
left_at NoEdge e = refl
left_at EdgeX2 e = refl

-- the values of the next pair are not alike either, where the sample's sign picks the end
picked_signs : (s : Illinois) (p : Sample) (b : Bool) → same_sign p.y s.left.at.y ≡ b → same_sign s.left.at.y s.right.at.y ≡ false → same_sign (cond b (left_replaced s p) (right_replaced s p)).left.at.y (cond b (left_replaced s p) (right_replaced s p)).right.at.y ≡ false
picked_signs s p true e n = rw right_at (shared_replaced _ _ _ e n)
picked_signs s p false e n = rw left_at (same_symmetric _ _ ∙ e)

pub replaced_signs : (s : Illinois) (p : Sample) → same_sign s.left.at.y s.right.at.y ≡ false → same_sign (replaced_of s p).left.at.y (replaced_of s p).right.at.y ≡ false
unfolding replaced_of
replaced_signs s p n = picked_signs s p _ refl n

-- each end of the next pair is the new sample or an end of this pair
replaced_ends : (P : Sample → Type 0) (s : Illinois) (p : Sample) → P s.left.at → P s.right.at → P p → P (replaced_of s p).left.at × P (replaced_of s p).right.at
unfolding replaced_of
replaced_ends P s p l r n = go (same_sign p.y s.left.at.y) refl
  where
    go : (b : Bool) → same_sign p.y s.left.at.y ≡ b → P (replaced_of s p).left.at × P (replaced_of s p).right.at
    go true e = rw (e, right_at) (n, r)
    go false e = rw (e, left_at) (l, n)

-- the next pair is this one with the sample in the place of one end
pub replaced_one : (s : Illinois) (p : Sample) → (pair_of (replaced_of s p) ≡ record { begin = p; end = s.right.at }) ⊎ (pair_of (replaced_of s p) ≡ record { begin = s.left.at; end = p })
unfolding replaced_of
replaced_one s p = go (same_sign p.y s.left.at.y)
  where
    go : (b : Bool) → (pair_of (cond b (left_replaced s p) (right_replaced s p)) ≡ record { begin = p; end = s.right.at }) ⊎ (pair_of (cond b (left_replaced s p) (right_replaced s p)) ≡ record { begin = s.left.at; end = p })
    go true = inl (rw right_at refl)
    go false = inr (rw left_at refl)

-- a quotient fits its format
candidate_held : (s : Illinois) → T (fits binary64 (candidate_of s))
unfolding candidate_of
candidate_held s = div-fits binary64 _ _

module _ (a : List Float) (stop : StopRule) (from to : Float) (from-double : Double from) (to-double : Double to) where
  abbrev Inv : ℕ → Illinois → List Event → Type 0
  Inv n s h = Bracketing a stop from to n (pair_of s) h

  abbrev Reaches : ℕ → Prog (Turned Illinois) → List Event → Type 0
  Reaches n g h = Ends (oracle a) (After (Inv n) (Bracket a stop from to)) g h

  -- ---- the opening

  -- the starts, in their order
  abbrev Starts : Float → Float → Type 0
  Starts x1 x2 = ((x1 ≡ from) × (x2 ≡ to)) ⊎ ((x1 ≡ to) × (x2 ≡ from))

  -- a double that lies between the starts
  abbrev Start : Float → Type 0
  Start x = Inside from to x × Double x

  from_start : Start from
  from_start = ((between from to from-double to-double).0, from-double)

  to_start : Start to
  to_start = ((between from to from-double to-double).1, to-double)

  module _ (x1 x2 : Float) (starts : Starts x1 x2) where
    first_start : Start x1
    first_start = elim starts [ inl s ↦ rw s.0 from_start | inr s ↦ rw s.0 to_start ]

    second_start : Start x2
    second_start = elim starts [ inl s ↦ rw s.1 to_start | inr s ↦ rw s.1 from_start ]

    at_starts : (p q : Sample) → Answered a x1 p → Answered a x2 q → AtStarts from to (record { begin = p; end = q })
    at_starts p q v w = rw (v.at_point, w.at_point) starts

    keeps_second : (p q : Sample) (h : List Event) → Answered a x1 p → Answered a x2 q → Unpaired stop h → Reaches (turns_of stop) (second_at stop p q) h
    unfolding second_at steps_in some_ends pairs_in
    keeps_second p q h v w i =
        ends_stops stop _ (λ e. ends_done (record { reason = by_value w.is_true e (unpaired_going i); narrows = unpaired_narrows i; told = rw w.at_point second_start }))
        (λ e. bracketed_ends (unpaired_on i refl refl (rw e refl)) from-double to-double (record { begin = p; end = q }) (at_starts p q v w) v.is_true w.is_true (Inv (turns_of stop)) _ (λ h2 b. b))

    keeps_first : (p : Sample) (h : List Event) → Answered a x1 p → Unpaired stop h → Reaches (turns_of stop) (first_at stop x2 p) h
    unfolding first_at steps_in some_ends pairs_in
    keeps_first p h v i =
        ends_stops stop _ (λ e. ends_done (record { reason = by_value v.is_true e (unpaired_going i); narrows = unpaired_narrows i; told = rw v.at_point first_start }))
        (λ e. unpaired_value (unpaired_on i refl refl (rw e refl)) x2 second_start.1 (λ q w j. keeps_second p q _ v w j))

    keeps_ordered : Reaches (turns_of stop) (ordered stop x1 x2) []
    unfolding ordered
    keeps_ordered = unpaired_value unpaired_none x1 first_start.1 (λ p v i. keeps_first p _ v i)

  keeps_opening : Reaches (turns_of stop) (opening stop from to) []
  unfolding opening rising
  keeps_opening = ends_test (lt to from) (λ e. keeps_ordered to from (inr (refl, refl))) (λ e. keeps_ordered from to (inl (refl, refl)))

  -- ---- a step
  module _ (n : ℕ) (s : Illinois) where
    keeps_arrived : (p : Sample) (h : List Event) → Fit a (pair_of s) p → Inv (suc n) s h → Reaches n (arrived stop s p) h
    unfolding arrived steps_in some_ends pairs_in
    keeps_arrived p h t b =
        ends_stops stop _ (λ e. ends_done (bracket_found b p t e))
        (λ e.
        let w = ends_fit (bracket_backed b) in
        let r = replaced_ends (Fit a (pair_of s)) s p w.0 w.1 t in
        ends_log _ (ends_narrows (replaced_of s p) pair_of (bracket_next (bracket_on b refl refl (rw e refl)) _ r.0 r.1 (replaced_signs s p (bracket_backed b).not_alike))))

    keeps_landed : (x : Float) (h : List Event) → In (points_of (pair_of s)) x → Double x → Inv (suc n) s h → Reaches n (landed stop s x) h
    unfolding landed steps_in some_ends pairs_in
    keeps_landed x h i d b =
        ends_stops stop _ (λ e. ends_done (record { reason = by_width (double_finite d) e (bracket_going b); narrows = bracket_narrows b; told = (bracket_in b x i, d) }))
        (λ e. bracket_value (bracket_on b refl refl (rw e refl)) x d (λ p t c. keeps_arrived p _ (answered_fit t d i) c))

    keeps_pulled : (x : Float) (h : List Event) → Double x → Inv (suc n) s h → Reaches n (pulled_in stop s x) h
    unfolding pulled_in steps_in some_ends pairs_in
    keeps_pulled x h d b = let w = bracket_pulled b x d in ends_pulled (landed stop s) _ _ x (keeps_landed _ _ (search w) (search w) (bracket_on b refl refl refl))

    keeps_turn : (h : List Event) → Inv (suc n) s h → Reaches n (turn_from stop s) h
    unfolding turn_from steps_in some_ends pairs_in
    keeps_turn h b =
        ends_offered (pulled_in stop s) (candidate_of s) (bracket_no_candidate b (candidate_of s))
        (λ c. keeps_pulled (candidate_of s) _ (record { is_finite = of_true _ c; is_held = candidate_held s }) (bracket_on b refl refl (rw c refl)))

  -- every Illinois search ends with its reason, with pairs that narrow, and with a root between the starts
  pub regula_falsi_ends : Ends (oracle a) (Bracket a stop from to) (illinois_program stop from to) []
  unfolding illinois_program
  regula_falsi_ends = ends_searches (λ r. turns_of stop) (turn_from stop) Inv (Bracket a stop from to) keeps_opening keeps_turn (λ s h b. bracket_limit b)
