-- What an evaluation's answer says of the computed value, and how a run goes on.
use Rattle.std.specs.Prelude.{ℕ, zero, suc, ◌+◌, ◌≤◌, Bool, List, ◌∷◌, Float}
use Rattle.std.proofs.Common.{arith, sym, ◌∙◌}
use Rattle.std.proofs.Math.Bool.{true, false, cond}
use Rattle.std.proofs.Math.Path.{◌≡◌, refl, ap}
use Rattle.std.specs.Float.Ieee.Scale.{finite}
use Rattle.numerical.specs.declared.Answer.TheVariants.{Refused}
use Rattle.numerical.specs.declared.Sample.{Sample}
use Rattle.simple_convergency.specs.declared.StopRule.{StopRule}
use Rattle.polynom.specs.Polynom.{value, value_and_derivative, evaluated, evaluated_both, sample_of}
use Rattle.polynom.proofs.TermLaws.{same_value}
use Rattle.polynom.specs.declared.ValueAndDerivative.{ValueAndDerivative}
use Rattle.std.specs.Prelude.{Some, None}
use Rattle.searching.specs.Programs.{stepped, Event, noted}
use Rattle.searching.specs.Histories.{steps_in, mark_in}
use Rattle.searching.specs.Reasons.{some_ends, Going, Reason, of_limit, Standing, Unmarked, Plain}
use Rattle.searching.specs.ReasonLaws.{Answered}

-- ---- evaluations

module _ (a : List Float) (x : Float) where
  -- a sample that was answered is at its point
  pub answered_at : (p : Sample) → evaluated a x ≡ Some p → p.x ≡ x
  unfolding evaluated
  answered_at p e = go (finite (value a x)) e
    where
      go : (b : Bool) → cond b (Some (sample_of x (value a x))) None ≡ Some p → p.x ≡ x
      go true e = let s : sample_of x (value a x) ≡ p = cc in ap (λ (q : Sample). q.x) (sym s)
      go false e = absurd (let z : ◌≡◌ {A = ℕ} 0 1 = cc in omega arith)

  -- and its value is finite
  pub answered_finite : (p : Sample) → evaluated a x ≡ Some p → finite p.y ≡ true
  unfolding evaluated
  answered_finite p e = go (finite (value a x)) refl e
    where
      go : (b : Bool) → finite (value a x) ≡ b → cond b (Some (sample_of x (value a x))) None ≡ Some p → finite p.y ≡ true
      go true f e = let s : sample_of x (value a x) ≡ p = cc in ap (λ (q : Sample). finite q.y) (sym s) ∙ f
      go false f e = absurd (let z : ◌≡◌ {A = ℕ} 0 1 = cc in omega arith)

  pub answered : finite x ≡ true → (p : Sample) → evaluated a x ≡ Some p → Answered a x p
  unfolding evaluated
  answered g p e = go (finite (value a x)) refl e
    where
      go : (b : Bool) → finite (value a x) ≡ b → cond b (Some (sample_of x (value a x))) None ≡ Some p → Answered a x p
      go true f e =
          let s : sample_of x (value a x) ≡ p = cc in
          rw (← s) (record { at_point = refl; is_true = record { computed = refl; is_finite = f; point_finite = g } })
      go false f e = absurd (let z : ◌≡◌ {A = ℕ} 0 1 = cc in omega arith)

  pub not_answered : evaluated a x ≡ None → finite (value a x) ≡ false
  unfolding evaluated
  not_answered e = go (finite (value a x)) e
    where
      go : (b : Bool) → cond b (Some (sample_of x (value a x))) None ≡ None → b ≡ false
      go true e = absurd (let z : ◌≡◌ {A = ℕ} 0 1 = cc in omega arith)
      go false e = refl

  -- a sample with its derivative
  pub answered_both : finite x ≡ true → (v : ValueAndDerivative) → evaluated_both a x ≡ Some v → Answered a x v.value
  unfolding evaluated_both
  answered_both g v e = go (finite (value_and_derivative a x).value.y) (finite (value_and_derivative a x).derivative) refl e
    where
      go : (b c : Bool) → finite (value_and_derivative a x).value.y ≡ b → cond b (cond c (Some (value_and_derivative a x)) None) None ≡ Some v → Answered a x v.value
      go true true f e =
          let s : value_and_derivative a x ≡ v = cc in
          let same : v.value ≡ sample_of x (value a x) = ap (λ (w : ValueAndDerivative). w.value) (sym s) ∙ same_value a x in
          rw same (record { at_point = refl; is_true = record { computed = refl; is_finite = ap (λ (p : Sample). finite p.y) (sym (same_value a x)) ∙ f; point_finite = g } })
      go true false f e = absurd (let z : ◌≡◌ {A = ℕ} 0 1 = cc in omega arith)
      go false c f e = absurd (let z : ◌≡◌ {A = ℕ} 0 1 = cc in omega arith)

  pub not_answered_both : evaluated_both a x ≡ None → finite (value_and_derivative a x).value.y ≡ true → finite (value_and_derivative a x).derivative ≡ false
  unfolding evaluated_both
  not_answered_both e = go (finite (value_and_derivative a x).value.y) (finite (value_and_derivative a x).derivative) e
    where
      go : (b c : Bool) → cond b (cond c (Some (value_and_derivative a x)) None) None ≡ None → b ≡ true → c ≡ false
      go true true e f = absurd (let z : ◌≡◌ {A = ℕ} 0 1 = cc in omega arith)
      go true false e f = refl
      go false c e f = absurd (let z : ◌≡◌ {A = ℕ} 0 1 = cc in omega arith)

-- ---- a run that goes on

module _ {stop : StopRule} {most n : ℕ} {h : List Event} where
  pub standing_on : {h2 : List Event} → Standing stop most n h → steps_in h2 ≡ steps_in h → some_ends stop h2 ≡ some_ends stop h → Standing stop most n h2
  standing_on i s q = record { steps = ap (λ (k : ℕ). k + n) s ∙ i.steps; undecided = q ∙ i.undecided }

  pub standing_next : Standing stop most (suc n) h → Standing stop most n (noted stepped ∷ h)
  unfolding steps_in some_ends
  standing_next i = record { steps = omega (arith, i.steps); undecided = i.undecided }

  pub standing_going : Standing stop most (suc n) h → Going stop most h
  standing_going i = record { below = omega (arith, i.steps); undecided = i.undecided }

  -- the same without a mark
  pub plain_on : {h2 : List Event} → Plain stop most n h → steps_in h2 ≡ steps_in h → some_ends stop h2 ≡ some_ends stop h → mark_in h2 ≡ mark_in h → Plain stop most n h2
  plain_on i s q m = record { standing = standing_on i.standing s q; unmarked = m ∙ i.unmarked }

  pub plain_next : Plain stop most (suc n) h → Plain stop most n (noted stepped ∷ h)
  unfolding mark_in
  plain_next i = record { standing = standing_next i.standing; unmarked = i.unmarked }

  pub plain_going : Plain stop most (suc n) h → Going stop most h
  plain_going i = standing_going i.standing

  pub plain_first : 1 ≤ n → Plain stop most n h → Going stop most h
  plain_first e i = record { below = omega (arith, e, i.standing.steps); undecided = i.standing.undecided }

-- with no step left
pub standing_limit : {a : List Float} {stop : StopRule} {most : ℕ} {h : List Event} → Standing stop most zero h → Reason a stop most (Refused 8) h
standing_limit {h = h} i = of_limit {h = h} (omega (arith, i.steps)) i.undecided

pub plain_limit_lem : {a : List Float} {stop : StopRule} {most : ℕ} {h : List Event} → Plain stop most zero h → Unmarked a stop most (Refused 8) h
plain_limit_lem i = record { reason = standing_limit i.standing; unmarked = i.unmarked; not_six = refl }
