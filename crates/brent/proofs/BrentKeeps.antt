-- The opening of Brent's method, and a step up to the next pair, keep what is promised of its answer, its pairs and its root.
use Rattle.std.specs.Prelude.{ℕ, suc, Bool, true, cond, ◌||◌, List, [], ◌∷◌, ◌≡◌, T, Float}
use Rattle.std.proofs.Math.Bool.{false}
use Rattle.std.proofs.Common.{inl, inr, ◌∙◌}
use Rattle.std.proofs.Math.Path.{refl}
use Rattle.std.specs.Float.{binary64}
use Rattle.std.specs.Float.Ieee.{fits, lt}
use Rattle.std.specs.Float.Ieee.Fits.{cond-fits, add-fits, sub-fits, div-fits}
use Rattle.doubles.specs.Doubles.{absolute, above, below, same_sign}
use Rattle.doubles.specs.Number.{Double}
use Rattle.doubles.specs.Pairs.{Inside}
use Rattle.doubles.proofs.Products.{product_below}
use Rattle.doubles.proofs.Signs.{same_symmetric, opposite_not_same, other_kept}
use Rattle.numerical.specs.declared.Interval.{Interval}
use Rattle.numerical.specs.declared.Sample.{Sample}
use Rattle.simple_convergency.specs.Stop.{turns_of}
use Rattle.simple_convergency.specs.declared.StopRule.{StopRule}
use Rattle.searching.specs.Programs.{ruled, oracle, Event, noted, Prog, Turned}
use Rattle.searching.specs.Histories.{steps_in}
use Rattle.searching.specs.Keeps.{Ends, After}
use Rattle.searching.proofs.Keeps.{ends_log, ends_narrows}
use Rattle.searching.specs.Reasons.{some_ends, True}
use Rattle.searching.specs.ReasonLaws.{Answered}
use Rattle.searching.specs.Brackets.{pairs_in, Fit, AtStarts, Bracket, Unpaired, Bracketing}
use Rattle.searching.proofs.BracketLaws.{ends_fit, unpaired_none, unpaired_value, bracketed_ends, bracket_backed, bracket_in, bracket_on, bracket_next}
use Rattle.brent.specs.Brent.{arrange, pair_of, start_of, opened, second_at, first_at, opening, inverse_quadratic, chord, three_values, guess_of, used_of, next_of, completes, keeps_a, pair_after, step_departs, arrived}
use Rattle.brent.specs.declared.Arranged.{Arranged}
use Rattle.brent.specs.declared.Brent.{Brent}

-- what holds of two samples either way round holds of them arranged
pub either_way : (P : Arranged → Type 0) (p q : Sample) → P (record { a = p; b = q }) → P (record { a = q; b = p }) → P (arrange p q)
unfolding arrange
either_way P p q f g = go (lt (absolute q.y) (absolute p.y))
  where
    go : (t : Bool) → P (cond t (record { a = p; b = q }) (record { a = q; b = p }))
    go true = f
    go false = g

-- what holds of the next pair whichever end is kept
pub either_kept :
    (P : Arranged → Type 0) (i : Interval) (p : Sample) →
    (keeps_a i p ≡ true → P (arrange i.begin p)) →
    (keeps_a i p ≡ false → P (arrange p i.end)) →
    P (pair_after i p)
unfolding pair_after
either_kept P i p f g = go (keeps_a i p) refl
  where
    go : (t : Bool) → keeps_a i p ≡ t → P (cond t (arrange i.begin p) (arrange p i.end))
    go true e = f e
    go false e = g e

-- the point that is used fits its format
pub used_held : (bisecting : Bool) (s : Brent) (x : Float) → T (fits binary64 x) → T (fits binary64 (used_of bisecting s x))
unfolding used_of
used_held bisecting s x f = cond-fits binary64 bisecting _ _ (div-fits binary64 _ _) f

pub guess_held : (s : Brent) → T (fits binary64 (guess_of s))
unfolding guess_of inverse_quadratic chord
guess_held s = cond-fits binary64 (three_values s) _ _ (add-fits binary64 _ _) (sub-fits binary64 _ _)

-- values of opposite signs, told by the signs or by the product, are not alike: for `search`
ruleset apart = (opposite_not_same, product_below)

-- ---- the method
module _ (a : List Float) (stop : StopRule) (good : above stop.tolerances.value ≡ true) (from to : Float) (from-double : Double from) (to-double : Double to) where
  abbrev Stands : ℕ → Brent → List Event → Type 0
  Stands n s h = Bracketing a stop from to n (pair_of s) h

  -- with n steps left: the pair is a bracket, and c, which may lie outside of it, is a double between the starts
  pub record Inv (n : ℕ) (s : Brent) (h : List Event) : Type 0 where
    pub bracket : Stands n s h
    pub c_between : Inside from to s.c.x × Double s.c.x

  abbrev Reaches : ℕ → Prog (Turned Brent) → List Event → Type 0
  Reaches n g h = Ends (oracle a) (After (Inv n) (Bracket a stop from to)) g h

  -- a fit sample lies between the starts
  fit_between : {n : ℕ} {i : Interval} {h : List Event} {p : Sample} → Bracketing a stop from to n i h → Fit a i p → Inside from to p.x × Double p.x
  fit_between {p = p} b t = (bracket_in b p.x t.is_inside, t.is_double_lem)

  -- ---- the opening
  keeps_opened : (r : Arranged) (h : List Event) → Unpaired stop h → True a r.a → True a r.b → AtStarts from to (record { begin = r.a; end = r.b }) → Reaches (turns_of stop) (opened stop r) h
  unfolding opened start_of
  keeps_opened r h i p q at =
      bracketed_ends i from-double to-double (record { begin = r.a; end = r.b }) at p q (Inv (turns_of stop)) _
      (λ h2 b. record { bracket = b; c_between = fit_between b (ends_fit (bracket_backed b)).0 })

  keeps_second : (p q : Sample) (h : List Event) → Unpaired stop h → Answered a from p → Answered a to q → Reaches (turns_of stop) (second_at stop p q) h
  unfolding second_at
  keeps_second p q h i t u =
      either_way (λ r. Reaches (turns_of stop) (opened stop r) h) p q
      (keeps_opened _ h i t.is_true u.is_true (inl (t.at_point, u.at_point)))
      (keeps_opened _ h i u.is_true t.is_true (inr (u.at_point, t.at_point)))

  keeps_first : (p : Sample) (h : List Event) → Unpaired stop h → Answered a from p → Reaches (turns_of stop) (first_at stop to p) h
  unfolding first_at
  keeps_first p h i t = unpaired_value i to to-double (λ q u j. keeps_second p q _ j t u)

  pub keeps_opening : Reaches (turns_of stop) (opening stop from to) []
  unfolding opening
  keeps_opening = unpaired_value unpaired_none from from-double (λ p t i. keeps_first p _ i t)

  -- ---- a step
  module _ (n : ℕ) (s : Brent) where
    module _ (flag : Bool) where
      -- two fit samples arranged, whichever comes first, and the earlier b becomes c
      keeps_arranged : (p q : Sample) (h : List Event) → Stands (suc n) s h → Fit a (pair_of s) p → Fit a (pair_of s) q → same_sign p.y q.y ≡ false → Reaches n (completes s flag (arrange p q)) h
      unfolding next_of
      keeps_arranged p q h b t u e = either_way (λ r. Reaches n (completes s flag r) h) p q (to_next _ t u e) (to_next _ u t (same_symmetric _ _ ∙ e))
        where
          to_next : (r : Arranged) → Fit a (pair_of s) r.a → Fit a (pair_of s) r.b → same_sign r.a.y r.b.y ≡ false → Reaches n (completes s flag r) h
          to_next r t u e = ends_narrows _ _ (record { bracket = bracket_next b _ t u e; c_between = fit_between b (ends_fit (bracket_backed b)).1 })

    -- the test found(a) of this round missed, so a's value is above zero or below
    module _ (away : (above s.a.y || below s.a.y) ≡ true) where
      -- the value at the kept end is the state's, and has not the sign of the new sample's
      pub keeps_arrived : (flag : Bool) (p : Sample) (h : List Event) → Stands (suc n) s h → Fit a (pair_of s) p → Reaches n (arrived s flag p) h
      unfolding arrived pairs_in steps_in some_ends
      keeps_arrived flag p h b t =
          let k = ends_fit (bracket_backed b) in
          let i = noted (ruled 1 (step_departs s.a p)) ∷ h in
          let c : Stands (suc n) s i = bracket_on b refl refl refl in
          ends_log _
          (either_kept (λ r. Reaches n (completes s flag r) i) (pair_of s) p
          (λ e. keeps_arranged flag s.a p i c k.0 t (search apart))
          (λ e. keeps_arranged flag p s.b i c t k.1 (search (other_kept, (bracket_backed b).not_alike))))
