-- Refusals by their number: 1 to 5 are given at once, 6 to 9 by the search.
use Rattle.std.specs.Prelude.{ℕ, zero, suc, ◌≤◌, Bool, ◌↔◌, ◌⊎◌, List, ◌≡◌, refl, ltb, length, Float}
use native.Mathlib.Omega.{arith}
use Rattle.std.proofs.Math.Bool.{true, false, cond}
use Rattle.std.proofs.Common.{inl, inr, ap, sym, ◌∙◌}
use Rattle.numerical.specs.Answers.{refused_at_once}
use Rattle.numerical.specs.declared.Answer.{Answer}
use Rattle.numerical.specs.declared.Answer.TheVariants.{Refused}
use Rattle.numerical.specs.declared.Outcome.{Outcome}
use Rattle.simple_convergency.specs.Stop.{greatest_limit, either_bad}
use Rattle.simple_convergency.specs.declared.Tolerances.{Tolerances}
use Rattle.roots.specs.Calls.{bad_count, all_finite, starts_of, answer}
use Rattle.roots.specs.declared.Method.{Method}
use Rattle.promises.specs.EarlyLaws.{at_once}
use Rattle.promises.proofs.AnswerLaws.{by_number, answer_is}
use Rattle.promises.proofs.EndLaws.{late_number}
use Rattle.promises.specs.Searches.{Held}

module _ (a : List Float) (m : Method) (tolerances : Tolerances) (limit : ℕ) where
  pub refused_now : (n : ℕ) → at_once a m tolerances limit ≡ suc n → answer a m tolerances limit ≡ refused_at_once (suc n)
  refused_now n e = answer_is a m tolerances limit ∙ ap (by_number a m tolerances limit) e

  pub at_most_five : at_once a m tolerances limit ≤ 5
  unfolding at_once
  at_most_five = go (bad_count (length a)) (all_finite a) (all_finite (starts_of m)) (either_bad tolerances) (ltb greatest_limit limit)
    where
      go : (b c d e f : Bool) → cond b 1 (cond c (cond d (cond e 4 (cond f 5 0)) 3) 2) ≤ 5
      go true c d e f = omega arith
      go false false d e f = omega arith
      go false true false e f = omega arith
      go false true true true f = omega arith
      go false true true false true = omega arith
      go false true true false false = omega arith

  -- a refusal is of the call at once, or of the search
  pub number_of : Held (starts_of m) → (n : ℕ) → (answer a m tolerances limit).answer ≡ Refused n → ((at_once a m tolerances limit ≡ n) × (1 ≤ n) × (n ≤ 5)) ⊎ ((at_once a m tolerances limit ≡ 0) × (6 ≤ n) × (n ≤ 9))
  number_of d n e = go (at_once a m tolerances limit) refl
    where
      same : {k n : ℕ} → ◌≡◌ {A = Answer} (Refused k) (Refused n) → k ≡ n
      same e = cc

      go : (k : ℕ) → at_once a m tolerances limit ≡ k → ((at_once a m tolerances limit ≡ n) × (1 ≤ n) × (n ≤ 5)) ⊎ ((at_once a m tolerances limit ≡ 0) × (6 ≤ n) × (n ≤ 9))
      go zero z = let l = late_number a m tolerances limit z d n e in inr (z, l.0, l.1)
      go (suc k) z =
          let s : suc k ≡ n = same (ap (λ (o : Outcome). o.answer) (sym (refused_now k z)) ∙ e) in
          inl (z ∙ s, omega arith, omega (arith, at_most_five))

  pub number_range : Held (starts_of m) → (n : ℕ) → (answer a m tolerances limit).answer ≡ Refused n → (1 ≤ n) × (n ≤ 9)
  number_range d n e = elim (number_of d n e) [ inl t ↦ (t.1, omega (arith, t.2)) | inr t ↦ (omega (arith, t.1), t.2) ]

  pub early_iff : Held (starts_of m) → (n : ℕ) → 1 ≤ n → n ≤ 5 → ((answer a m tolerances limit).answer ≡ Refused n) ↔ (at_once a m tolerances limit ≡ n)
  early_iff d n h k = (there, home n h)
    where
      there : (answer a m tolerances limit).answer ≡ Refused n → at_once a m tolerances limit ≡ n
      there e = elim (number_of d n e) [ inl t ↦ t.0 | inr t ↦ absurd (omega (arith, t.1)) ]

      home : (n : ℕ) → 1 ≤ n → at_once a m tolerances limit ≡ n → (answer a m tolerances limit).answer ≡ Refused n
      home zero h e = absurd (omega arith)
      home (suc n) h e = ap (λ (o : Outcome). o.answer) (refused_now n e)
