-- What the code did in a turn gives what the definition says: `middle`, Newton's point, and the sample that narrows the pair.
use Rattle.std.specs.Prelude.{ℕ, Bool, true, false, cond, List, ◌≡◌, Float}
use Rattle.std.proofs.Common.{arith, ◌∙◌, sym}
use Rattle.std.proofs.Math.Path.{refl}
use Rattle.std.specs.Float.Ieee.{ne}
use Rattle.std.specs.Float.Ieee.Scale.{finite}
use Rattle.doubles.specs.Doubles.{nought}
use Rattle.numerical.specs.Middle.{middle_of}
use Rattle.numerical.specs.Tallies.{stepped_of}
use Rattle.numerical.specs.declared.Interval.{Interval}
use Rattle.numerical.specs.declared.Progress.{Progress}
use Rattle.numerical.specs.declared.Sample.{Sample}
use Rattle.polynom.specs.Polynom.{newton_point}
use Rattle.polynom.specs.declared.ValueAndDerivative.{ValueAndDerivative}
use Rattle.searching.specs.Programs.{Prog, Turned, next, test, value_at, oracle, play, tallied}
use Rattle.searching.specs.Rules.{placed_in, alike_by}
use Rattle.searching.proofs.RuleLaws.{decided_signs}
use Rattle.searching.proofs.StepLaws.{by_alike, by_narrow_to, by_offer, by_placed}
use Rattle.searching.specs.declared.Decided.{Decided}
use Rattle.searching.specs.declared.Placed.{Placed}
use Rattle.polynom_search.specs.PolynomSearch.{pair_of, replaced_of, chosen, closer, in_pair, usable, at_middle, pulled_in, at_middle_of, middle_in}
use Rattle.std.specs.Prelude.{Option, Some, None}

-- `middle` is worked out, and tested: it is pulled, or refused
module _ (p : Progress) (i : Interval) {f : Bool} {x : Float} (e : f ≡ finite x) (n : x ≡ middle_of i) where
  pub finite_middle : {w : Placed} → f ≡ true → w ≡ placed_in i.begin.x i.end.x x p → Some w ≡ middle_in i p
  finite_middle t w = rw (w, ← n, ← e, t) refl

-- from what `middle` came to, the rest of the turn follows
module _ (p : Progress) (i : Interval) {m : Option Placed} (e : m ≡ middle_in i p) where
  -- a middle in the pair is finite, and pulled by rule 2
  middle_placed : {w : Placed} → m ≡ Some w → (finite (middle_of i) ≡ true) × (w ≡ placed_in i.begin.x i.end.x (middle_of i) p)
  middle_placed {w} h = go (finite (middle_of i)) (sym h ∙ e)
    where
      go : (b : Bool) → Some w ≡ cond b (Some (placed_in i.begin.x i.end.x (middle_of i) p)) None → (b ≡ true) × (w ≡ placed_in i.begin.x i.end.x (middle_of i) p)
      go true z = (refl, cc)
      go false z = absurd (let q : ◌≡◌ {A = ℕ} 0 1 = cc in omega arith)

  module _ (cs : List Float) (k : Float → Prog (Turned Interval)) {r : Turned Interval × Progress} where
    pub by_middle : {w : Placed} → m ≡ Some w → r ≡ play tallied (oracle cs) (k w.x) w.progress → r ≡ play tallied (oracle cs) (at_middle_of i k) p
    unfolding at_middle_of pulled_in
    by_middle h g = let t = middle_placed h in by_offer cs p _ _ refl t.0 refl (by_placed cs p _ _ _ k t.1 g)

-- the derivative is tested, then Newton's point is worked out, and then it is tested
module _ (cs : List Float) (p : Progress) {r : Turned Interval × Progress} (i : Interval) (v : ValueAndDerivative) where
  module _ {x : Float} {f : Bool} (d : ne v.derivative nought ≡ true) (n : x ≡ newton_point v) (e : f ≡ in_pair i x) where
    pub by_newton : f ≡ true → r ≡ play tallied (oracle cs) (value_at x (closer i v.value)) p → r ≡ play tallied (oracle cs) (at_middle i v) p
    unfolding at_middle usable test
    by_newton t k = k ∙ rw (d, ← n, ← e, t) refl

-- the signs of begin and of the sample s were compared once, and the mark was made there
module _ (cs : List Float) (p : Progress) {q : Progress} {r : Turned Interval × Progress} (i : Interval) (s : Sample) {w : Decided} (e : w ≡ alike_by i.begin s p) where
  replaced_by : {j : Interval} → j ≡ replaced_of i s → q ≡ stepped_of w.progress → r ≡ (next j, q) → r ≡ play tallied (oracle cs) (chosen i s) p
  unfolding chosen
  replaced_by h n k = by_alike cs p i.begin s _ e (by_narrow_to cs _ pair_of (replaced_of i s) h n k)

  pub by_begin_replaced : w.decision ≡ true → q ≡ stepped_of w.progress → r ≡ (next (record { begin = s; end = i.end }), q) → r ≡ play tallied (oracle cs) (chosen i s) p
  unfolding replaced_of
  by_begin_replaced h = replaced_by (rw (decided_signs i.begin s p e h) refl)
