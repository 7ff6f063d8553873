-- The theorems about what specs/Demand1.antt defines.
use Rattle.std.specs.Prelude.{ℕ, zero, suc, ◌≤◌, List, ◌≡◌, Float}
use Rattle.std.proofs.Common.{arith, inl, inr, ap, sym, ◌∙◌, subst}
use Rattle.numerical.specs.Answers.{refused_at_once}
use Rattle.numerical.specs.declared.Answer.TheVariants.{Refused}
use Rattle.numerical.specs.declared.Outcome.{Outcome}
use Rattle.simple_convergency.specs.declared.Tolerances.{Tolerances}
use Rattle.roots.specs.Calls.{starts_of, answer}
use Rattle.roots.specs.declared.Method.{Method}
use Rattle.promises.specs.Searches.{Held, Early, one, two, three, four, five}
use Rattle.promises.proofs.EarlyLaws.{early_at_once, passes_at_once, at_once_early}
use Rattle.promises.proofs.RefusalLaws.{refused_now, number_range, early_iff}
use Rattle.promises.specs.Demand1.{Demand1}

module _ (a : List Float) (m : Method) (tolerances : Tolerances) (limit : ℕ) where
  early_number : {n : ℕ} → Early a m tolerances limit n → 1 ≤ n
  early_number (one b) = omega arith
  early_number (two c b) = omega arith
  early_number (three c f b) = omega arith
  early_number (four c f s b) = omega arith
  early_number (five c f s e b) = omega arith

  early_outcome : (n : ℕ) → Early a m tolerances limit n → answer a m tolerances limit ≡ refused_at_once n
  early_outcome zero e = absurd (omega (arith, early_number e))
  early_outcome (suc n) e = refused_now a m tolerances limit n (early_at_once a m tolerances limit e)

  early_given : Held (starts_of m) → (n : ℕ) → n ≤ 5 → (answer a m tolerances limit).answer ≡ Refused n → Early a m tolerances limit n
  early_given d n k e =
      let l = (number_range a m tolerances limit d n e).0 in
      let same = (early_iff a m tolerances limit d n l k).0 e in
      elim (at_once_early a m tolerances limit) [ inl t ↦ subst (Early a m tolerances limit) same t | inr p ↦ absurd (omega (arith, l, sym (passes_at_once a m tolerances limit p) ∙ same)) ]

  pub demand_1 : Held (starts_of m) → Demand1 a m tolerances limit (answer a m tolerances limit)
  demand_1 d =
      record {
        numbered = number_range a m tolerances limit d;
        early_exactly = λ n k. (early_given d n k, λ e. ap (λ (o : Outcome). o.answer) (early_outcome n e));
        early_zero = early_outcome;
      }
