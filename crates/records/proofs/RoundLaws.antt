-- A record's row taken apart and put together: what its numbers are if it is right, and that it is right if they are.
use Rattle.std.specs.Prelude.{ℕ, zero, suc, ◌+◌, ◌^◌, ◌≤◌, ◌<◌, Bool, not, ◌≡◌, T, ltb, length, take, Float}
use Rattle.std.proofs.Common.{arith, true≢false, ◌∙◌, length-take-le}
use Rattle.std.proofs.Math.Bool.{true, false, cond}
use mathlib.Core.List.{List, [], ◌∷◌, ◌++◌, append_assoc, append-nil}
use Rattle.std.proofs.Math.Path.{refl, sym, ap, subst}
use Rattle.std.proofs.Math.Dec.{eqb}
use Rattle.std.specs.Float.Ieee.{binary64, fits, of_bits, to_bits}
use Rattle.std.specs.Float.Ieee.Bits.{of_bits-to_bits, to_bits-lt}
use Rattle.std.specs.Float.Ieee.Scale.{finite}
use borrow.Author.Tests.{lt-ltb, le-ltb, ne_eqb, eqb-true, eqb-false, ltb-true, ltb-false}
use Rattle.numerical.specs.Answers.{kind_of, numbers_of}
use Rattle.numerical.specs.declared.Answer.{Answer}
use Rattle.numerical.specs.declared.Answer.TheVariants.{ByValue, ByWidth, Refused}
use Rattle.numerical.specs.declared.Progress.{Progress}
use Rattle.simple_convergency.specs.Stop.{bad_tolerance, either_bad, one_eps, greatest_limit, most_coefficients}
use Rattle.simple_convergency.specs.StopLaws.{Good}
use Rattle.simple_convergency.proofs.StopLaws.{both_good, good_both}
use Rattle.simple_convergency.specs.declared.Tolerances.{Tolerances}
use Rattle.roots.specs.Calls.{starts_of, all_finite}
use Rattle.roots.proofs.CallLaws.{first_of}
use Rattle.roots.specs.Methods.{method_number, start_count, method_of}
use Rattle.roots.specs.declared.Method.{Method}
use Rattle.roots.specs.declared.Method.TheVariants.{Brent, RegulaFalsi, Secant, NewtonRaphson, Polynom}
use Rattle.rows.specs.Layouts as rows
use Rattle.rows.specs.Layouts.{Layout, end, number, Row, at_end, and_then}
use Rattle.records.specs.Records.{bits_of, head_row, tolerances_row, rule_row, call_row, answer_row, progress_row, row_of, between, is_double, is_tolerance, is_kind, is_tally, numbers_for, answer_of, started_at, doubles, behind_zero, headed, with_point, tolerances_for, record_layout, holds_both, recordable}
use Rattle.records.specs.Parts.{rule_layout, call_layout, answer_layout, progress_layout}
use Rattle.records.specs.PartLaws.{CallNext, record_held, after_call}
pub use Rattle.records.proofs.ReadLaws.{most, least}
use Rattle.records.proofs.PartLaws.{by_parts}
use Rattle.records.specs.declared.Record.{Record}
use Rattle.records.specs.RoundLaws.{Held, trimmed, Sound, Right}

-- ---- a double and its bits

pub double_test : (y : Float) → T (fits binary64 y) → is_double (to_bits binary64 y) ≡ finite y
unfolding is_double
double_test y h = ap finite (of_bits-to_bits binary64 y h)

pub tolerance_test : (y : Float) → T (fits binary64 y) → is_tolerance (to_bits binary64 y) ≡ not (bad_tolerance y)
unfolding is_tolerance
tolerance_test y h = ap (λ (x : Float). not (bad_tolerance x)) (of_bits-to_bits binary64 y h)

bits_small : (y : Float) → T (fits binary64 y) → ltb (to_bits binary64 y) (2 ^ 64) ≡ true
bits_small y h = lt-ltb (to_bits binary64 y) (2 ^ 64) (to_bits-lt binary64 y h)

-- ---- numbers off a row, and onto one

module _ {A : Type 0} where
  pub one_off : {ok : ℕ → Bool} {next : ℕ → Layout A} {n : ℕ} {l : List ℕ} {x : A} → Row (number ok next) (n ∷ l) x → (ltb n (2 ^ 64) ≡ true) × (ok n ≡ true) × Row (next n) l x
  one_off (and_then small right later) = (small, right, later)

  pub at_the_end : {y : A} {l : List ℕ} {x : A} → Row (end y) l x → (l ≡ []) × (y ≡ x)
  at_the_end at_end = (refl, refl)

  pub doubles_off : (b : List Float) → Held b → (next : List Float → Layout A) {l : List ℕ} {x : A} → Row (doubles (length b) next) (bits_of b ++ l) x → (all_finite b ≡ true) × Row (next b) l x
  unfolding doubles bits_of all_finite
  doubles_off [] h next r = (refl, r)
  doubles_off (y ∷ b) h next {l} {x} r =
      let o = one_off r in
      let later = doubles_off b h.1 (λ rest. next (of_bits binary64 (to_bits binary64 y) ∷ rest)) o.2 in
      let f : finite y ≡ true = sym (double_test y h.0) ∙ o.1 in
      (rw f later.0, subst (λ (z : Float). Row (next (z ∷ b)) l x) (of_bits-to_bits binary64 y h.0) later.1)

  pub doubles_on : (b : List Float) → Held b → all_finite b ≡ true → (next : List Float → Layout A) {l : List ℕ} {x : A} → Row (next b) l x → Row (doubles (length b) next) (bits_of b ++ l) x
  unfolding doubles bits_of
  doubles_on [] h f next r = r
  doubles_on (y ∷ b) h f next {l} {x} r =
      let g = first_of y b f in
      and_then (bits_small y h.0) (double_test y h.0 ∙ g.0)
      (doubles_on b h.1 g.1 (λ rest. next (of_bits binary64 (to_bits binary64 y) ∷ rest)) (subst (λ (z : Float). Row (next (z ∷ b)) l x) (sym (of_bits-to_bits binary64 y h.0)) r))

-- ---- a method and an answer, by their numbers

pub start_count_is : (m : Method) → start_count (method_number m) ≡ length (starts_of m)
unfolding start_count
start_count_is (Brent from to) = refl
start_count_is (RegulaFalsi from to) = refl
start_count_is (Secant first second) = refl
start_count_is (NewtonRaphson start) = refl
start_count_is (Polynom from to) = refl

pub started_is : (m : Method) → started_at (method_number m) (starts_of m) ≡ m
unfolding started_at method_of
started_is (Brent from to) = refl
started_is (RegulaFalsi from to) = refl
started_is (Secant first second) = refl
started_is (NewtonRaphson start) = refl
started_is (Polynom from to) = refl

pub method_is : (m : Method) → between 1 5 (method_number m) ≡ true
unfolding between
method_is (Brent from to) = refl
method_is (RegulaFalsi from to) = refl
method_is (Secant first second) = refl
method_is (NewtonRaphson start) = refl
method_is (Polynom from to) = refl

pub number_count_is : (a : Answer) → numbers_for (kind_of a) ≡ length (numbers_of a)
unfolding numbers_for
number_count_is (ByValue root value) = refl
number_count_is (ByWidth root p q) = refl
number_count_is (Refused n) = rw (ne_eqb (10 + n) 0 (λ e. omega (arith, e)), ne_eqb (10 + n) 1 (λ e. omega (arith, e)))

pub answer_is : (a : Answer) → answer_of (kind_of a) (numbers_of a) ≡ a
unfolding answer_of
answer_is (ByValue root value) = refl
answer_is (ByWidth root p q) = refl
answer_is (Refused n) = rw (ne_eqb (10 + n) 0 (λ e. omega (arith, e)), ne_eqb (10 + n) 1 (λ e. omega (arith, e))) (ap Refused (omega arith))

not_bad : (b : Bool) → not b ≡ true → b ≡ false
not_bad true e = absurd (true≢false (sym e))
not_bad false e = refl

kind_small : (n : ℕ) → is_kind n ≡ true → ltb n (2 ^ 64) ≡ true
unfolding is_kind
kind_small n h = lt-ltb n (2 ^ 64) (go (ltb n 2) refl h)
  where
    go : (b : Bool) → ltb n 2 ≡ b → cond b true (between 16 19 n) ≡ true → n < 2 ^ 64
    go true e q = let z = ltb-true n 2 e in omega arith
    go false e q = let z = most 16 19 n q in omega arith

zero_first : between 0 5 0 ≡ true
unfolding between
zero_first = refl

kind_one : {kind : ℕ} → kind ≡ 1 → between 1 2 kind ≡ true
unfolding between
kind_one e = rw e

method_small : (m : Method) → ltb (method_number m) (2 ^ 64) ≡ true
method_small m = let z = most 1 5 (method_number m) (method_is m) in lt-ltb (method_number m) (2 ^ 64) (omega arith)

-- ---- the parts of a row, off and on

-- a kind that is not 1 is 2, where there is one
kind_two : (kind : ℕ) → eqb kind 1 ≡ false → between 1 2 kind ≡ true → between 2 2 kind ≡ true
unfolding between
kind_two kind e h = go (ltb kind 1) refl (ltb 2 kind) refl h
  where
    go : (b : Bool) → ltb kind 1 ≡ b → (c : Bool) → ltb 2 kind ≡ c → cond b false (cond c false true) ≡ true → cond (ltb kind 2) false (cond (ltb 2 kind) false true) ≡ true
    go true f c g q = absurd (true≢false (sym q))
    go false f true g q = absurd (true≢false (sym q))
    go false f false g q = let y = ltb-false kind 1 f in let z = eqb-false kind 1 e in rw (le-ltb kind 2 (above_one kind y z), g)
      where
        above_one : (kind : ℕ) → 1 ≤ kind → (kind ≡ 1 → ⊥) → 2 ≤ kind
        above_one zero y z = absurd (omega arith)
        above_one (suc zero) y z = absurd (z refl)
        above_one (suc (suc kind)) y z = omega arith

two_kind : (kind : ℕ) → between 2 2 kind ≡ true → between 1 2 kind ≡ true
unfolding between
two_kind kind h = go (ltb kind 2) refl (ltb 2 kind) refl h
  where
    go : (b : Bool) → ltb kind 2 ≡ b → (c : Bool) → ltb 2 kind ≡ c → cond b false (cond c false true) ≡ true → cond (ltb kind 1) false (cond (ltb 2 kind) false true) ≡ true
    go true f c g q = absurd (true≢false (sym q))
    go false f true g q = absurd (true≢false (sym q))
    go false f false g q = let y = ltb-false kind 2 f in rw (le-ltb kind 1 (let z : 1 ≤ kind = omega arith in z), g)

not_zero : (m : Method) → eqb (method_number m) 0 ≡ false
not_zero (Brent from to) = refl
not_zero (RegulaFalsi from to) = refl
not_zero (Secant first second) = refl
not_zero (NewtonRaphson start) = refl
not_zero (Polynom from to) = refl

first_is : (m : Method) → between 0 5 (method_number m) ≡ true
unfolding between
first_is (Brent from to) = refl
first_is (RegulaFalsi from to) = refl
first_is (Secant first second) = refl
first_is (NewtonRaphson start) = refl
first_is (Polynom from to) = refl

module _ (kind : ℕ) (m : Method) (next : ℕ → ℕ → Layout Record) (l : List ℕ) (x : Record) where
  pub head_off : Row (headed next) (head_row kind ++ (method_number m ∷ l)) x → (between 1 2 kind ≡ true) × Row (next kind (method_number m)) l x
  unfolding headed head_row
  head_off r = go (eqb kind 1) refl r
    where
      go : (b : Bool) → eqb kind 1 ≡ b → Row (number (between 0 5) (λ first. cond (eqb first 0) (behind_zero next) (next 1 first))) (cond b [] (0 ∷ kind ∷ []) ++ (method_number m ∷ l)) x → (between 1 2 kind ≡ true) × Row (next kind (method_number m)) l x
      go true e r =
          let a = one_off r in
          let one = eqb-true kind 1 e in
          let old = subst (λ (b : Bool). Row (cond b (behind_zero next) (next 1 (method_number m))) l x) (not_zero m) a.2 in
          (kind_one one, subst (λ (k : ℕ). Row (next k (method_number m)) l x) (sym one) old)
      go false e r =
          let a = one_off r in
          let b = one_off a.2 in
          let c = one_off b.2 in
          (two_kind kind b.1, c.2)

  pub head_on : kind < 2 ^ 64 → between 1 2 kind ≡ true → Row (next kind (method_number m)) l x → Row (headed next) (head_row kind ++ (method_number m ∷ l)) x
  unfolding headed head_row
  head_on small h r = go (eqb kind 1) refl
    where
      go : (b : Bool) → eqb kind 1 ≡ b → Row (number (between 0 5) (λ first. cond (eqb first 0) (behind_zero next) (next 1 first))) (cond b [] (0 ∷ kind ∷ []) ++ (method_number m ∷ l)) x
      go true e =
          and_then (method_small m) (first_is m)
          (subst (λ (b : Bool). Row (cond b (behind_zero next) (next 1 (method_number m))) l x) (sym (not_zero m)) (subst (λ (k : ℕ). Row (next k (method_number m)) l x) (eqb-true kind 1 e) r))
      go false e = and_then refl zero_first (and_then (lt-ltb kind (2 ^ 64) small) (kind_two kind e h) (and_then (method_small m) (method_is m) r))

-- in kind 1 the point tolerance is the value tolerance
pub same_both : (kind : ℕ) (t : Tolerances) → T (fits binary64 t.value) → T (fits binary64 t.point) → eqb kind 1 ≡ true → holds_both kind t ≡ true → one_eps t.value ≡ t
unfolding holds_both
same_both kind t v p e h = λ i. record { value = t.value; point = same i }
  where
    alike : to_bits binary64 t.value ≡ to_bits binary64 t.point
    alike = eqb-true (to_bits binary64 t.value) (to_bits binary64 t.point) (rw e at h)

    same : t.value ≡ t.point
    same = sym (of_bits-to_bits binary64 t.value v) ∙ ap (of_bits binary64) alike ∙ of_bits-to_bits binary64 t.point p

module _ (kind : ℕ) (t : Tolerances) (v : T (fits binary64 t.value)) (p : T (fits binary64 t.point)) (h : holds_both kind t ≡ true) (next : Tolerances → Layout Record) (l : List ℕ) (x : Record) where
  abbrev L : Layout Record
  L = number is_tolerance (λ n. cond (eqb kind 1) (next (one_eps (of_bits binary64 n))) (with_point next n))

  good_value : is_tolerance (to_bits binary64 t.value) ≡ true → bad_tolerance t.value ≡ false
  good_value e = not_bad (bad_tolerance t.value) (sym (tolerance_test t.value v) ∙ e)

  good_point : is_tolerance (to_bits binary64 t.point) ≡ true → bad_tolerance t.point ≡ false
  good_point e = not_bad (bad_tolerance t.point) (sym (tolerance_test t.point p) ∙ e)

  one_is : eqb kind 1 ≡ true → one_eps (of_bits binary64 (to_bits binary64 t.value)) ≡ t
  one_is e = ap one_eps (of_bits-to_bits binary64 t.value v) ∙ same_both kind t v p e h

  two_are : record { value = of_bits binary64 (to_bits binary64 t.value); point = of_bits binary64 (to_bits binary64 t.point) } ≡ t
  two_are = λ i. record { value = of_bits-to_bits binary64 t.value v i; point = of_bits-to_bits binary64 t.point p i }

  pub tolerances_off : Row (tolerances_for kind next) (tolerances_row kind t ++ l) x → (either_bad t ≡ false) × Row (next t) l x
  unfolding tolerances_for tolerances_row
  tolerances_off r = go (eqb kind 1) refl r
    where
      go :
          (b : Bool) → eqb kind 1 ≡ b → Row L (cond b (to_bits binary64 t.value ∷ []) (to_bits binary64 t.value ∷ to_bits binary64 t.point ∷ []) ++ l) x →
          (either_bad t ≡ false) × Row (next t) l x
      go true e r =
          let a = one_off r in
          let same : bad_tolerance t.point ≡ bad_tolerance t.value = ap (λ (u : Tolerances). bad_tolerance u.point) (sym (same_both kind t v p e h)) in (
            good_both (record { of_values = good_value a.1; of_points = same ∙ good_value a.1 }),
            subst (λ (u : Tolerances). Row (next u) l x) (one_is e) (subst (λ (b : Bool). Row (cond b (next (one_eps (of_bits binary64 (to_bits binary64 t.value)))) (with_point next (to_bits binary64 t.value))) l x) e a.2),
          )
      go false e r =
          let a = one_off r in
          let b = one_off (subst (λ (b : Bool). Row (cond b (next (one_eps (of_bits binary64 (to_bits binary64 t.value)))) (with_point next (to_bits binary64 t.value))) (to_bits binary64 t.point ∷ l) x) e a.2) in
          (good_both (record { of_values = good_value a.1; of_points = good_point b.1 }), subst (λ (u : Tolerances). Row (next u) l x) two_are b.2)

  pub tolerances_on : either_bad t ≡ false → Row (next t) l x → Row (tolerances_for kind next) (tolerances_row kind t ++ l) x
  unfolding tolerances_for tolerances_row
  tolerances_on g r = go (eqb kind 1) refl
    where
      good : Good t
      good = both_good t g

      go : (b : Bool) → eqb kind 1 ≡ b → Row L (cond b (to_bits binary64 t.value ∷ []) (to_bits binary64 t.value ∷ to_bits binary64 t.point ∷ []) ++ l) x
      go true e =
          and_then (bits_small t.value v) (tolerance_test t.value v ∙ ap not good.of_values)
          (subst (λ (b : Bool). Row (cond b (next (one_eps (of_bits binary64 (to_bits binary64 t.value)))) (with_point next (to_bits binary64 t.value))) l x) (sym e) (subst (λ (u : Tolerances). Row (next u) l x) (sym (one_is e)) r))
      go false e =
          and_then (bits_small t.value v) (tolerance_test t.value v ∙ ap not good.of_values)
          (subst (λ (b : Bool). Row (cond b (next (one_eps (of_bits binary64 (to_bits binary64 t.value)))) (with_point next (to_bits binary64 t.value))) (to_bits binary64 t.point ∷ l) x) (sym e)
          (and_then (bits_small t.point p) (tolerance_test t.point p ∙ ap not good.of_points) (subst (λ (u : Tolerances). Row (next u) l x) (sym two_are) r)))

module _ (kind : ℕ) (m : Method) (t : Tolerances) (limit : ℕ) (h : Held (starts_of m)) (v : T (fits binary64 t.value)) (p : T (fits binary64 t.point)) (both : holds_both kind t ≡ true) (next : Method → Tolerances → ℕ → Layout Record) (l : List ℕ) (x : Record) where
  abbrev M : Method → Tolerances → Layout Record
  M n u = number (between 0 greatest_limit) (λ limit. next n u limit)

  abbrev K : List Float → Layout Record
  K starts = tolerances_for kind (M (started_at (method_number m) starts))

  joined : (bits_of (starts_of m) ++ (tolerances_row kind t ++ (limit ∷ []))) ++ l ≡ bits_of (starts_of m) ++ (tolerances_row kind t ++ (limit ∷ l))
  joined = append_assoc (bits_of (starts_of m)) (tolerances_row kind t ++ (limit ∷ [])) l ∙ ap (λ (k : List ℕ). bits_of (starts_of m) ++ k) (append_assoc (tolerances_row kind t) (limit ∷ []) l)

  pub rule_off : Row (rule_layout kind (method_number m) next) (rule_row kind m t limit ++ l) x → (all_finite (starts_of m) ≡ true) × (either_bad t ≡ false) × (between 0 greatest_limit limit ≡ true) × Row (next m t limit) l x
  unfolding rule_layout rule_row
  rule_off r =
      let a = doubles_off (starts_of m) h K (subst (λ (k : ℕ). Row (doubles k K) (bits_of (starts_of m) ++ (tolerances_row kind t ++ (limit ∷ l))) x) (start_count_is m) (subst (λ (k : List ℕ). Row (doubles (start_count (method_number m)) K) k x) joined r)) in
      let b = tolerances_off kind t v p both (M (started_at (method_number m) (starts_of m))) (limit ∷ l) x a.1 in
      let c = one_off b.1 in
      (a.0, b.0, c.1, subst (λ (n : Method). Row (next n t limit) l x) (started_is m) c.2)

  pub rule_on : all_finite (starts_of m) ≡ true → either_bad t ≡ false → limit < 2 ^ 64 → between 0 greatest_limit limit ≡ true → Row (next m t limit) l x → Row (rule_layout kind (method_number m) next) (rule_row kind m t limit ++ l) x
  unfolding rule_layout rule_row
  rule_on f g small k r =
      subst (λ (k : List ℕ). Row (doubles (start_count (method_number m)) K) k x) (sym joined)
      (subst (λ (k : ℕ). Row (doubles k K) (bits_of (starts_of m) ++ (tolerances_row kind t ++ (limit ∷ l))) x) (sym (start_count_is m))
      (doubles_on (starts_of m) h f K
      (tolerances_on kind t v p both (M (started_at (method_number m) (starts_of m))) (limit ∷ l) x g
      (and_then (lt-ltb limit (2 ^ 64) small) k (subst (λ (n : Method). Row (next n t limit) l x) (sym (started_is m)) r)))))

module _ (a : Answer) (h : Held (numbers_of a)) (next : Answer → Layout Record) (l : List ℕ) (x : Record) where
  abbrev N : List Float → Layout Record
  N numbers = next (answer_of (kind_of a) numbers)

  pub answer_off : Row (answer_layout next) (answer_row a ++ l) x → (is_kind (kind_of a) ≡ true) × (all_finite (numbers_of a) ≡ true) × Row (next a) l x
  unfolding answer_layout answer_row
  answer_off r =
      let k = one_off r in
      let b = doubles_off (numbers_of a) h N (subst (λ (n : ℕ). Row (doubles n N) (bits_of (numbers_of a) ++ l) x) (number_count_is a) k.2) in
      (k.1, b.0, subst (λ (c : Answer). Row (next c) l x) (answer_is a) b.1)

  pub answer_on : is_kind (kind_of a) ≡ true → all_finite (numbers_of a) ≡ true → Row (next a) l x → Row (answer_layout next) (answer_row a ++ l) x
  unfolding answer_layout answer_row
  answer_on k f r =
      and_then (kind_small (kind_of a) k) k
      (subst (λ (n : ℕ). Row (doubles n N) (bits_of (numbers_of a) ++ l) x) (sym (number_count_is a))
      (doubles_on (numbers_of a) h f N (subst (λ (c : Answer). Row (next c) l x) (sym (answer_is a)) r)))

module _ (p : Progress) (next : Progress → Layout Record) (l : List ℕ) (x : Record) where
  pub progress_off : Row (progress_layout next) (progress_row p ++ l) x → (between 0 2 p.mark ≡ true) × Row (next p) l x
  unfolding progress_layout progress_row
  progress_off r =
      let a = one_off r in
      let b = one_off a.2 in
      let c = one_off b.2 in
      let d = one_off c.2 in
      (d.1, d.2)

  pub progress_on : p.tally.steps.0 < 2 ^ 64 → p.tally.values.0 < 2 ^ 64 → p.tally.derivatives.0 < 2 ^ 64 → between 0 2 p.mark ≡ true → Row (next p) l x → Row (progress_layout next) (progress_row p ++ l) x
  unfolding progress_layout progress_row is_tally
  progress_on i j k m r =
      and_then (lt-ltb _ (2 ^ 64) i) refl
      (and_then (lt-ltb _ (2 ^ 64) j) refl
      (and_then (lt-ltb _ (2 ^ 64) k) refl
      (and_then (let z = most 0 2 p.mark m in lt-ltb p.mark (2 ^ 64) (omega arith)) m r)))

-- ---- a right row, and what it holds

module _ (o : Record) (s : Sound o) where
  abbrev own : List Float
  own = take o.count o.coefficients

  abbrev rule : List ℕ
  rule = rule_row o.kind o.method o.tolerances o.limit

  long_enough : between 1 most_coefficients o.count ≡ true → length own ≡ o.count
  long_enough h = length-take-le o.count o.coefficients (let m = most 1 most_coefficients o.count h in let a = s.all in omega arith)

  module _ (both : holds_both o.kind o.tolerances ≡ true) (next : CallNext) (l : List ℕ) (x : Record) where
    abbrev C : ℕ → List Float → Layout Record
    C count coefficients = rule_layout o.kind (method_number o.method) (next o.kind coefficients count)

    abbrev H : ℕ → ℕ → Layout Record
    H kind m = number (between 1 most_coefficients) (λ count. doubles count (λ coefficients. rule_layout kind m (next kind coefficients count)))

    parted : (head_row o.kind ++ (method_number o.method ∷ o.count ∷ (bits_of own ++ rule))) ++ l ≡ head_row o.kind ++ (method_number o.method ∷ o.count ∷ (bits_of own ++ (rule ++ l)))
    parted =
        append_assoc (head_row o.kind) (method_number o.method ∷ o.count ∷ (bits_of own ++ rule)) l
        ∙ ap (λ (t : List ℕ). head_row o.kind ++ (method_number o.method ∷ o.count ∷ t)) (append_assoc (bits_of own) rule l)

    record CallRight : Type 0 where
      kind : between 1 2 o.kind ≡ true
      count : between 1 most_coefficients o.count ≡ true
      coefficients : all_finite own ≡ true
      starts : all_finite (starts_of o.method) ≡ true
      tolerances : either_bad o.tolerances ≡ false
      limit : between 0 greatest_limit o.limit ≡ true
      later : Row (next o.kind own o.count o.method o.tolerances o.limit) l x

    call_off : Row (call_layout next) (call_row o ++ l) x → CallRight
    unfolding call_layout call_row
    call_off r =
        let m = head_off o.kind o.method H (o.count ∷ (bits_of own ++ (rule ++ l))) x (subst (λ (t : List ℕ). Row (headed H) t x) parted r) in
        let n = one_off m.1 in
        let b = doubles_off own s.coefficients (C o.count) (subst (λ (k : ℕ). Row (doubles k (C o.count)) (bits_of own ++ (rule ++ l)) x) (sym (long_enough n.1)) n.2) in
        let c = rule_off o.kind o.method o.tolerances o.limit s.starts s.value_tolerance s.point_tolerance both (next o.kind own o.count) l x b.1 in
        record { kind = m.0; count = n.1; coefficients = b.0; starts = c.0; tolerances = c.1; limit = c.2; later = c.3 }

    call_on : Right o → Row (next o.kind own o.count o.method o.tolerances o.limit) l x → Row (call_layout next) (call_row o ++ l) x
    unfolding call_layout call_row
    call_on g r =
        subst (λ (t : List ℕ). Row (headed H) t x) (sym parted)
        (head_on o.kind o.method H (o.count ∷ (bits_of own ++ (rule ++ l))) x s.kind g.kind
        (and_then (let z = most 1 most_coefficients o.count g.count in lt-ltb o.count (2 ^ 64) (omega arith)) g.count
        (subst (λ (k : ℕ). Row (doubles k (C o.count)) (bits_of own ++ (rule ++ l)) x) (long_enough g.count)
        (doubles_on own s.coefficients g.coefficients (C o.count)
        (rule_on o.kind o.method o.tolerances o.limit s.starts s.value_tolerance s.point_tolerance both (next o.kind own o.count) l x g.starts g.tolerances s.limit g.limit r)))))

  abbrev lasts : List ℕ
  lasts = answer_row o.outcome.answer ++ (progress_row o.outcome.progress ++ [])

  -- the row with nothing behind it
  row_is : row_of o ≡ call_row o ++ lasts
  unfolding row_of
  row_is = ap (λ (l : List ℕ). call_row o ++ (answer_row o.outcome.answer ++ l)) (sym (append-nil (progress_row o.outcome.progress)))

  abbrev after_rule : Answer → Layout Record
  after_rule answer = progress_layout (λ progress. end (record_held o.kind own o.count o.method o.tolerances o.limit answer progress))

  abbrev after_answer : Progress → Layout Record
  after_answer progress = end (record_held o.kind own o.count o.method o.tolerances o.limit o.outcome.answer progress)

  pub row_right : holds_both o.kind o.tolerances ≡ true → {x : Record} → Row record_layout (row_of o) x → Right o × (trimmed o ≡ x)
  row_right both {x} r =
      let c = call_off both after_call lasts x (subst (λ (t : Layout Record). Row t (call_row o ++ lasts) x) by_parts (subst (λ (t : List ℕ). Row record_layout t x) row_is r)) in
      let a = answer_off o.outcome.answer s.numbers after_rule (progress_row o.outcome.progress ++ []) x c.later in
      let p = progress_off o.outcome.progress after_answer [] x a.2 in (
        record { kind = c.kind; count = c.count; coefficients = c.coefficients; starts = c.starts; tolerances = c.tolerances; both = both; limit = c.limit; answer = a.0; numbers = a.1; mark = p.0 },
        (at_the_end p.1).1,
      )

  pub right_row : Right o → Row record_layout (row_of o) (trimmed o)
  right_row g =
      subst (λ (t : List ℕ). Row record_layout t (trimmed o)) (sym row_is)
      (subst (λ (t : Layout Record). Row t (call_row o ++ lasts) (trimmed o)) (sym by_parts)
      (call_on g.both after_call lasts (trimmed o) g
      (answer_on o.outcome.answer s.numbers after_rule (progress_row o.outcome.progress ++ []) (trimmed o) g.answer g.numbers
      (progress_on o.outcome.progress after_answer [] (trimmed o) s.steps s.values s.derivatives g.mark at_end))))

-- what can be recorded has room for both tolerances and a right row, and the other way round
module _ (o : Record) where
  pub recordable_parts : recordable o ≡ true → (holds_both o.kind o.tolerances ≡ true) × (rows.fits record_layout (row_of o) ≡ true)
  recordable_parts e = go (holds_both o.kind o.tolerances) refl e
    where
      go : (b : Bool) → holds_both o.kind o.tolerances ≡ b → cond b (rows.fits record_layout (row_of o)) false ≡ true → (holds_both o.kind o.tolerances ≡ true) × (rows.fits record_layout (row_of o) ≡ true)
      go true h q = (h, q)
      go false h q = absurd (true≢false (sym q))

  pub parts_recordable : holds_both o.kind o.tolerances ≡ true → rows.fits record_layout (row_of o) ≡ true → recordable o ≡ true
  parts_recordable h q = rw h q
