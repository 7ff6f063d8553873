-- Marks: none by secant and Newton, who do not refuse with 6 either, and 0 or 2 by Illinois.
use Rattle.std.specs.Prelude.{ℕ, zero, suc, true, false, List, [], ◌≡◌, refl, eqb, Float}
use Rattle.std.proofs.Common.{arith, true≢false, inl, ap, sym, ◌∙◌, subst}
use Rattle.numerical.specs.Answers.{kind_of}
use Rattle.numerical.specs.declared.Answer.{Answer}
use Rattle.numerical.specs.declared.Answer.TheVariants.{Refused}
use Rattle.numerical.specs.declared.Outcome.{Outcome}
use Rattle.numerical.specs.declared.Progress.{Progress}
use Rattle.searching.specs.Programs.{Prog, oracle, answer_of}
use Rattle.searching.specs.Histories.{history, mark_in}
use Rattle.searching.specs.Histories.{counted}
use Rattle.searching.proofs.ProgramLaws.{tallies_are_counts}
use Rattle.searching.specs.Reasons.{Unmarked}
use Rattle.regula_falsi.specs.RegulaFalsiMarks.{ZeroOrTwo}
use Rattle.regula_falsi.proofs.RegulaFalsiMarks.{regula_falsi_marks}
use Rattle.secant.proofs.SecantKeeps.{secant_ends}
use Rattle.newton_raphson.proofs.NewtonRaphsonKeeps.{newton_raphson_ends}
use Rattle.simple_convergency.specs.declared.Tolerances.{Tolerances}
use Rattle.roots.proofs.CallLaws.{first_of, both_of}
use Rattle.roots.specs.Calls.{all_finite, starts_of, answer}
use Rattle.roots.specs.declared.Method.{Method}
use Rattle.roots.specs.declared.Method.TheVariants.{RegulaFalsi, Secant, NewtonRaphson}
use Rattle.promises.specs.EarlyLaws.{at_once}
use Rattle.promises.proofs.AnswerLaws.{by_number, answer_is, passed, at_answer}
use Rattle.promises.proofs.RefusalLaws.{at_most_five}
use Rattle.promises.specs.Counts.{rule_of}
use Rattle.promises.specs.Searches.{program_of}

-- ---- secant and Newton: no mark and no 6

mark_at : (a : List Float) (g : Prog Answer) → (answer_of a g).progress.mark ≡ mark_in (history (oracle a) g)
unfolding counted
mark_at a g = ap (λ (p : Progress). p.mark) (tallies_are_counts a g)

abbrev PlainlyOf : Outcome → Type 0
PlainlyOf o = (o.progress.mark ≡ 0) × ¬ (o.answer ≡ Refused 6)

-- a call that 1 to 5 refuse has mark 0 too, and is not refused with 6
module _ (a : List Float) (m : Method) (tolerances : Tolerances) (limit : ℕ) where
  plain_at :
      (all_finite (starts_of m) ≡ true → (most : ℕ) × Unmarked a (rule_of tolerances limit) most (answer_of a (program_of (rule_of tolerances limit) m)).answer (history (oracle a) (program_of (rule_of tolerances limit) m))) →
      PlainlyOf (answer a m tolerances limit)
  plain_at f = subst PlainlyOf (sym (answer_is a m tolerances limit)) (go (at_once a m tolerances limit) refl)
    where
      six : {x : Answer} → eqb (kind_of x) 16 ≡ false → ¬ (x ≡ Refused 6)
      six n e = true≢false (subst (λ (y : Answer). eqb (kind_of y) 16 ≡ false) e n)

      same : {k : ℕ} → ◌≡◌ {A = Answer} (Refused k) (Refused 6) → k ≡ 6
      same e = cc

      go : (k : ℕ) → at_once a m tolerances limit ≡ k → PlainlyOf (by_number a m tolerances limit k)
      go zero z = let u = (f (passed a m tolerances limit z).starts_finite).1 in (mark_at a _ ∙ u.unmarked, six u.not_six)
      go (suc k) z = (refl, λ e. absurd (omega (arith, z, at_most_five a m tolerances limit, same e)))

pub plain_secant : (a : List Float) (first second : Float) (tolerances : Tolerances) (limit : ℕ) → PlainlyOf (answer a (Secant first second) tolerances limit)
plain_secant a first second tolerances limit =
    plain_at a (Secant first second) tolerances limit (λ e. let w = both_of first second e in (_, at_answer a _ (secant_ends a (rule_of tolerances limit) first second w.0 w.1)))

pub plain_newton : (a : List Float) (start : Float) (tolerances : Tolerances) (limit : ℕ) → PlainlyOf (answer a (NewtonRaphson start) tolerances limit)
plain_newton a start tolerances limit = plain_at a (NewtonRaphson start) tolerances limit (λ e. (_, at_answer a _ (newton_raphson_ends a (rule_of tolerances limit) start (first_of start [] e).0)))

-- ---- Illinois: mark 0 or 2

pub two_marks : (a : List Float) (from to : Float) (tolerances : Tolerances) (limit : ℕ) → ZeroOrTwo (answer a (RegulaFalsi from to) tolerances limit).progress.mark
two_marks a from to tolerances limit = subst (λ (o : Outcome). ZeroOrTwo o.progress.mark) (sym (answer_is a m tolerances limit)) (go (at_once a m tolerances limit) refl)
  where
    m : Method
    m = RegulaFalsi from to

    go : (k : ℕ) → at_once a m tolerances limit ≡ k → ZeroOrTwo (by_number a m tolerances limit k).progress.mark
    go zero z = let p = passed a m tolerances limit z in subst ZeroOrTwo (sym (mark_at a _)) (at_answer a _ (regula_falsi_marks a (rule_of tolerances limit) p.good.of_values (omega (arith, p.in_range)) from to (both_of from to p.starts_finite).0 (both_of from to p.starts_finite).1))
    go (suc k) z = inl refl
