-- The theorems about what specs/Returned.antt defines.
use Prim.Native.Nat.{ℕ, zero, suc, ◌≤◌, ◌<◌}
use native.Mathlib.Omega.{arith}
use Rattle.std.specs.Prelude.{List, Option, None, Some, ◌⊎◌, ◌≡◌, T, Float}
use Rattle.std.proofs.Math.Logic.{inl, inr}
use Rattle.std.proofs.Math.Path.{refl}
use Rattle.std.proofs.Common.{ap, sym, ◌∙◌, subst}
use borrow.Author.Tests.{lt-ltb, le-ltb}
use Rattle.std.specs.Float.{binary64}
use Rattle.std.specs.Float.Ieee.{fits}
use denote.Triple.Clauses.{AtExit}
use contract.Lifetimes.{Lfts}
use borrow.Fn.Kinds.{GoodsP, Dens, ended_of}
use Rattle.doubles.proofs.Compare.{of_true}
use Rattle.numerical.specs.Answers.{kind_of, numbers_of, padded, counts_of, refused_at_once}
use Rattle.numerical.specs.declared.Answer.{Answer}
use Rattle.numerical.specs.declared.Answer.TheVariants.{ByValue, ByWidth, Refused}
use Rattle.numerical.specs.declared.Outcome.{Outcome}
use Rattle.simple_convergency.specs.declared.Tolerances.{Tolerances}
use Rattle.simple_convergency.specs.Stop.{tolerances_of, one_eps, plain_limit}
use Rattle.roots.proofs.search.Kinds as search-kinds
use Rattle.roots.proofs.search.Reads as search-reads
use Rattle.roots.proofs.search_simple.Kinds as simple-kinds
use Rattle.roots.proofs.search_simple.Reads as simple-reads
use Rattle.roots.proofs.search_plain.Kinds as plain-kinds
use Rattle.roots.proofs.search_plain.Reads as plain-reads
use Rattle.records.specs.Records.{between}
use Rattle.roots.specs.Calls.{starts_of, answer}
use Rattle.roots.specs.Methods.{method_of}
use Rattle.roots.specs.declared.Method.{Method}
use Rattle.roots_c.proofs.roots_search.Kinds as c-kinds
use Rattle.roots_c.proofs.roots_search.Reads as c-reads
use Rattle.roots_c.specs.Flat.{chosen_by, outcome_of, flat_outcome, flat_kind, flat_numbers, flat_tallies}
use Rattle.roots.specs.declared.Method.TheVariants.{Brent, RegulaFalsi, Secant, NewtonRaphson, Polynom}
use Rattle.promises.proofs.Demand1.{demand_1}
use Rattle.promises.proofs.Demand2.{demand_2}
use Rattle.promises.proofs.Demand3.{demand_3, demand_3_pairs}
use Rattle.promises.specs.Searches.{Held}
use Rattle.promises.specs.Returned.{Promised, Numbered, brent, illinois, secant, newton, polynom, NoMethod, Told}

promised : (a : List Float) (m : Method) (tolerances : Tolerances) (limit : ℕ) → Held (starts_of m) → Promised a m tolerances limit (answer a m tolerances limit)
promised a m tolerances limit d = record { demand1 = demand_1 a m tolerances limit d; demand2 = demand_2 a tolerances limit m; demand3 = λ p. demand_3 a m tolerances limit p d; demand3_pairs = λ p. demand_3_pairs a m tolerances limit p d }

-- ---- search

-- a method's starts are doubles, as every f64 is
starts_held : (κs : Lfts 1) (args : Dens κs search-kinds.ps) → GoodsP κs search-kinds.ps args → Held (starts_of args.1.0)
starts_held κs (s, (Brent from to, rest)) g = (of_true _ g.1.0.1.1.1.1.0.1, (of_true _ g.1.0.1.1.1.1.1.0.1, tt))
starts_held κs (s, (RegulaFalsi from to, rest)) g = (of_true _ g.1.0.1.1.1.1.0.1, (of_true _ g.1.0.1.1.1.1.1.0.1, tt))
starts_held κs (s, (Secant first second, rest)) g = (of_true _ g.1.0.1.1.1.1.0.1, (of_true _ g.1.0.1.1.1.1.1.0.1, tt))
starts_held κs (s, (NewtonRaphson start, rest)) g = (of_true _ g.1.0.1.1.1.1.0.1, tt)
starts_held κs (s, (Polynom from to, rest)) g = (of_true _ g.1.0.1.1.1.1.0.1, (of_true _ g.1.0.1.1.1.1.1.0.1, tt))

-- whatever the contract of `search` allows for its arguments, the lent coefficients, the method, the tolerances and the limit
pub search_keeps :
    (κs : Lfts 1) (args : Dens κs search-kinds.ps) → GoodsP κs search-kinds.ps args → (outcome : Outcome) (last : AtExit (ended_of 1 search-kinds.ps search-kinds.r) κs) →
    search-reads.Learnt κs args outcome last → Promised args.0.now args.1.0 args.1.1.0 args.1.1.1.0 outcome
search_keeps κs args good outcome last allowed = subst (Promised args.0.now args.1.0 args.1.1.0 args.1.1.1.0) (sym allowed) (promised _ _ _ _ (starts_held κs args good))

-- ---- one eps: what `search_simple` and `search_plain` may return is what `search` may return with both tolerances equal to it

pub simple_as_both :
    (κs : Lfts 1) (simple : Dens κs simple-kinds.ps) (both : Dens κs search-kinds.ps) → simple.0.now ≡ both.0.now → simple.1.0 ≡ both.1.0 → one_eps simple.1.1.0 ≡ both.1.1.0 →
    simple.1.1.1.0 ≡ both.1.1.1.0 → (o u : Outcome) (x : AtExit (ended_of 1 simple-kinds.ps simple-kinds.r) κs) (y : AtExit (ended_of 1 search-kinds.ps search-kinds.r) κs) → simple-reads.Learnt κs simple o x →
    search-reads.Learnt κs both u y → o ≡ u
simple_as_both κs simple both a m t l o u x y allowed also = allowed ∙ rw (a, m, t, l) (sym also)

pub plain_as_both :
    (κs : Lfts 1) (plain : Dens κs plain-kinds.ps) (both : Dens κs search-kinds.ps) → plain.0.now ≡ both.0.now → plain.1.0 ≡ both.1.0 → one_eps plain.1.1.0 ≡ both.1.1.0 → plain_limit ≡ both.1.1.1.0 →
    (o u : Outcome) (x : AtExit (ended_of 1 plain-kinds.ps plain-kinds.r) κs) (y : AtExit (ended_of 1 search-kinds.ps search-kinds.r) κs) → plain-reads.Learnt κs plain o x → search-reads.Learnt κs both u y → o ≡ u
plain_as_both κs plain both a m t l o u x y allowed also = allowed ∙ rw (a, m, t, l) (sym also)

module _ (a : List Float) (method : ℕ) (first second value point : Float) (limit : ℕ) (held : T (fits binary64 first) × T (fits binary64 second)) where
  known_held : {n : ℕ} (m : Method) → Numbered first second n m → Held (starts_of m)
  known_held m brent = (held.0, (held.1, tt))
  known_held m illinois = (held.0, (held.1, tt))
  known_held m secant = (held.0, (held.1, tt))
  known_held m newton = (held.0, tt)
  known_held m polynom = (held.0, (held.1, tt))

  known_chosen : {n : ℕ} (m : Method) → Numbered first second n m → chosen_by n first second ≡ Some m
  unfolding chosen_by between method_of
  known_chosen m brent = refl
  known_chosen m illinois = refl
  known_chosen m secant = refl
  known_chosen m newton = refl
  known_chosen m polynom = refl

  -- a number above 5 is no method's
  above_five : (n : ℕ) → 5 < n → chosen_by n first second ≡ None
  unfolding chosen_by between method_of
  above_five n l = rw (le-ltb n 1 (omega (arith, l)), lt-ltb 5 n l) refl

  -- a number is a method's, or none
  each_number : (n : ℕ) → ((m : Method) × Numbered first second n m) ⊎ (NoMethod n × (chosen_by n first second ≡ None))
  unfolding chosen_by between method_of
  each_number zero = inr (inl refl, refl)
  each_number (suc zero) = inl (_, brent)
  each_number (suc (suc zero)) = inl (_, illinois)
  each_number (suc (suc (suc zero))) = inl (_, secant)
  each_number (suc (suc (suc (suc zero)))) = inl (_, newton)
  each_number (suc (suc (suc (suc (suc zero))))) = inl (_, polynom)
  each_number (suc (suc (suc (suc (suc (suc n)))))) = let l : 5 < suc (suc (suc (suc (suc (suc n))))) = omega arith in inr (inr l, above_five _ l)

  method_number_lem : {n : ℕ} (m : Method) → Numbered first second n m → ¬ NoMethod n
  method_number_lem m brent (inl e) = absurd (omega (arith, e))
  method_number_lem m brent (inr l) = absurd (omega (arith, l))
  method_number_lem m illinois (inl e) = absurd (omega (arith, e))
  method_number_lem m illinois (inr l) = absurd (omega (arith, l))
  method_number_lem m secant (inl e) = absurd (omega (arith, e))
  method_number_lem m secant (inr l) = absurd (omega (arith, l))
  method_number_lem m newton (inl e) = absurd (omega (arith, e))
  method_number_lem m newton (inr l) = absurd (omega (arith, l))
  method_number_lem m polynom (inl e) = absurd (omega (arith, e))
  method_number_lem m polynom (inr l) = absurd (omega (arith, l))

  -- an outcome that keeps demand 1 has kind 0, 1 or 11 to 19
  kind_range : (m : Method) (x : Answer) → ((n : ℕ) → x ≡ Refused n → (1 ≤ n) × (n ≤ 9)) → (kind_of x ≡ 0) ⊎ (kind_of x ≡ 1) ⊎ ((11 ≤ kind_of x) × (kind_of x ≤ 19))
  kind_range m (ByValue root y) f = inl refl
  kind_range m (ByWidth root p q) f = inr (inl refl)
  kind_range m (Refused n) f = let r = f n refl in inr (inr (omega (arith, r.0), omega (arith, r.1)))

  told_known :
      (kind : ℕ) (numbers : List Float) (tallies : List ℕ) → kind ≡ flat_kind a method first second value point limit → numbers ≡ flat_numbers a method first second value point limit → tallies ≡ flat_tallies a method first second value point limit →
      (m : Method) → Numbered first second method m → (o : Outcome) × Promised a m (tolerances_of value point) limit o × (kind ≡ kind_of o.answer) × (numbers ≡ padded (numbers_of o.answer)) × (tallies ≡ counts_of o.progress)
  told_known kind numbers tallies k n t m b =
      let same : flat_outcome a method first second value point limit ≡ answer a m (tolerances_of value point) limit = ap (λ (c : Option Method). outcome_of a c (tolerances_of value point) limit) (known_chosen m b) in
      (answer a m (tolerances_of value point) limit, promised a m (tolerances_of value point) limit (known_held m b), k ∙ ap (λ (o : Outcome). kind_of o.answer) same, n ∙ ap (λ (o : Outcome). padded (numbers_of o.answer)) same, t ∙ ap (λ (o : Outcome). counts_of o.progress) same)

  told : (kind : ℕ) (numbers : List Float) (tallies : List ℕ) → kind ≡ flat_kind a method first second value point limit → numbers ≡ flat_numbers a method first second value point limit → tallies ≡ flat_tallies a method first second value point limit → Told a method first second value point limit kind numbers tallies
  told kind numbers tallies k n t = elim (each_number method) [ inl b ↦ of_method b.0 b.1 | inr c ↦ of_none c.0 c.1 ]
    where
      of_method : (m : Method) → Numbered first second method m → Told a method first second value point limit kind numbers tallies
      of_method m b =
          let w = told_known kind numbers tallies k n t m b in
          let r = kind_range m w.0.answer w.1.demand1.numbered in
          record {
            known = told_known kind numbers tallies k n t;
            unknown = λ e. absurd (method_number_lem m b e);
            ten = λ e. elim r [ inl z ↦ absurd (omega (arith, z, w.2, e)) | inr (inl z) ↦ absurd (omega (arith, z, w.2, e)) | inr (inr z) ↦ absurd (omega (arith, z.0, w.2, e)) ];
            kinds = elim r [ inl z ↦ inl (w.2 ∙ z) | inr (inl z) ↦ inr (inl (w.2 ∙ z)) | inr (inr z) ↦ inr (inr (omega (arith, z.0, w.2), omega (arith, z.1, w.2))) ];
          }

      of_none : NoMethod method → chosen_by method first second ≡ None → Told a method first second value point limit kind numbers tallies
      of_none e c =
          let same : flat_outcome a method first second value point limit ≡ refused_at_once 0 = ap (λ (c : Option Method). outcome_of a c (tolerances_of value point) limit) c in
          let is_ten : kind ≡ 10 = k ∙ ap (λ (o : Outcome). kind_of o.answer) same in
          record {
            known = told_known kind numbers tallies k n t;
            unknown = λ e. (is_ten, n ∙ ap (λ (o : Outcome). padded (numbers_of o.answer)) same, t ∙ ap (λ (o : Outcome). counts_of o.progress) same);
            ten = λ z. e;
            kinds = inr (inr (omega (arith, is_ten), omega (arith, is_ten)));
          }

-- whatever the contract of `roots_search` allows: the kind that is returned, and the last values of its two buffers
pub roots_search_keeps :
    (κs : Lfts 3) (args : Dens κs c-kinds.ps) → GoodsP κs c-kinds.ps args → (kind : ℕ) (last : AtExit (ended_of 3 c-kinds.ps c-kinds.r) κs) → c-reads.Learnt κs args kind last →
    Told args.0.now args.1.0 args.1.1.0 args.1.1.1.0 args.1.1.1.1.0 args.1.1.1.1.1.0 args.1.1.1.1.1.1.0 kind last.1.1.1.1.1.1.1.0.now last.1.1.1.1.1.1.1.1.0.now
roots_search_keeps κs args good kind last allowed =
    told args.0.now args.1.0 _ _ _ _ _ (of_true _ good.1.1.0.1, of_true _ good.1.1.1.0.1) kind _ _ allowed.0 allowed.1.0 allowed.1.1
