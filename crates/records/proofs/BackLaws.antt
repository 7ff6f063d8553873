-- Whatever reads is a record's own row, and no such row is longer than the longest record.
use Prim.Native.Nat.{ℕ, zero, suc, ◌+◌, ◌-◌, ◌*◌, ◌/◌, ◌^◌, ◌≤◌, ◌<◌}
use native.Mathlib.Omega.{arith}
use Rattle.std.specs.Prelude.{Bool, true, false, cond, not, ◌≡◌, refl, T, ltb, eqb, length, take, drop, get_or, Float}
use Rattle.std.proofs.Common.{true≢false, ◌∙◌, subst, le-ltb, eq-eqb, ne_eqb, ltb-true, ltb-false, eqb-true}
use mathlib.Core.List.{List, [], ◌∷◌, ◌++◌, append_assoc, append-nil}
use Rattle.std.proofs.Math.Path.{sym, ap}
use Rattle.std.proofs.Math.ListN.{length-append, length-drop}
use Rattle.std.proofs.Math.Seq.{take_at}
use Rattle.std.specs.Float.{nan, inf, fin}
use Rattle.std.specs.Float.Ieee.{binary64, is_nan, fits, of_bits, to_bits, lt}
use Rattle.std.specs.Float.Ieee.Bits.{to_bits-of_bits, of_bits-fits}
use Rattle.std.specs.Float.Ieee.Scale.{finite}
use Rattle.std.proofs.lemmas.Bool.{eqb-false}
use Rattle.numerical.specs.Answers.{kind_of, numbers_of}
use Rattle.numerical.specs.declared.Answer.{Answer}
use Rattle.numerical.specs.declared.Answer.TheVariants.{ByValue, ByWidth, Refused}
use Rattle.numerical.specs.declared.Progress.{Progress}
use Rattle.simple_convergency.specs.Stop.{least_tolerance, bad_tolerance, one_eps, greatest_limit, most_coefficients}
use Rattle.simple_convergency.specs.declared.Tolerances.{Tolerances}
use Rattle.roots.specs.Calls.{starts_of}
use Rattle.roots.proofs.CallLaws.{few_starts}
use Rattle.roots.specs.Methods.{method_number, start_count, method_of}
use Rattle.roots.specs.declared.Method.{Method}
use Rattle.rows.specs.Groups.{groups, groups_in}
use Rattle.rows.proofs.GroupLaws.{groups_last, groups_on, ten_at_most}
use Rattle.rows.specs.Layouts.{Layout, end, number, spell, Row, and_then}
use Rattle.rows.proofs.LayoutLaws.{spell_append}
use Rattle.records.specs.Records.{bits_of, head_row, tolerances_row, rule_row, call_row, answer_row, progress_row, row_of, between, is_double, is_tolerance, is_kind, numbers_for, answer_of, started_at, noughts, padded, progress_of, doubles, behind_zero, headed, with_point, tolerances_for, record_layout, holds_both, longest_record}
use Rattle.records.specs.Parts.{rule_layout, call_layout, answer_layout, progress_layout}
use Rattle.records.specs.PartLaws.{CallNext, record_held, after_call}
use Rattle.records.proofs.PartLaws.{by_parts}
use Rattle.records.specs.RoundLaws.{Held, Sound}
use Rattle.records.proofs.RoundLaws.{at_the_end, most, least}
use Rattle.records.specs.declared.Record.{Record}
use Rattle.records.specs.BackLaws.{doubles_of}

-- ---- how many groups

pub one_group : (n : ℕ) → n < 128 → length (groups n) ≡ 1
unfolding groups
one_group n h = ap length (groups_last 8 n h)

two_groups : (n : ℕ) → n ≤ 400 → length (groups n) ≤ 2
unfolding groups
two_groups n h = go (ltb n 128) refl
  where
    go : (b : Bool) → ltb n 128 ≡ b → length (groups_in 9 n) ≤ 2
    go true e = let z = ap length (groups_last 8 n (ltb-true n 128 e)) in omega arith
    go false e =
        let a = ap length (groups_on 8 n (ltb-false n 128 e)) in
        let b = ap length (groups_last 7 (n / 128) (omega arith)) in
        omega arith

spelled_first : (n : ℕ) (l : List ℕ) → length (spell (n ∷ l)) ≡ length (groups n) + length (spell l)
unfolding spell
spelled_first n l = length-append (groups n) (spell l)

spelled_both : (l m : List ℕ) → length (spell (l ++ m)) ≡ length (spell l) + length (spell m)
spelled_both l m = ap length (spell_append l m) ∙ length-append (spell l) (spell m)

ten_each : (l : List ℕ) → length (spell l) ≤ 10 * length l
unfolding spell
ten_each [] = omega arith
ten_each (n ∷ l) = let r = ten_each l in let a = ten_at_most n in let b = length-append (groups n) (spell l) in omega arith

-- ---- doubles by their bits

held_doubles : (l : List ℕ) → Held (doubles_of l)
unfolding doubles_of
held_doubles [] = tt
held_doubles (n ∷ l) = (of_bits-fits binary64 n, held_doubles l)

no_nan : (x : Float) → finite x ≡ true → is_nan x ≡ false
unfolding is_nan
no_nan nan e = absurd (true≢false (sym e))
no_nan (inf s) e = refl
no_nan (fin s m e) h = refl

double_back : (n : ℕ) → n < 2 ^ 64 → is_double n ≡ true → to_bits binary64 (of_bits binary64 n) ≡ n
unfolding is_double
double_back n h e = to_bits-of_bits binary64 n h (rw (no_nan (of_bits binary64 n) e) tt)

-- ---- numbers off any row

module _ {A : Type 0} where
  record Split (ok : ℕ → Bool) (next : ℕ → Layout A) (l : List ℕ) (x : A) : Type 0 where
    n : ℕ
    rest : List ℕ
    small : n < 2 ^ 64
    right : ok n ≡ true
    is : l ≡ n ∷ rest
    later : Row (next n) rest x

  split : {ok : ℕ → Bool} {next : ℕ → Layout A} {l : List ℕ} {x : A} → Row (number ok next) l x → Split ok next l x
  split (and_then {n = n} {row = row} small right later) = record { n = n; rest = row; small = ltb-true n (2 ^ 64) small; right = right; is = refl; later = later }

  record Bits (k : ℕ) (next : List Float → Layout A) (l : List ℕ) (x : A) : Type 0 where
    bits : List ℕ
    rest : List ℕ
    count : length (doubles_of bits) ≡ k
    back : bits_of (doubles_of bits) ≡ bits
    is : l ≡ bits ++ rest
    later : Row (next (doubles_of bits)) rest x

  bits_off : (k : ℕ) (next : List Float → Layout A) {l : List ℕ} {x : A} → Row (doubles k next) l x → Bits k next l x
  unfolding doubles bits_of doubles_of
  bits_off zero next {l} {x} r = record { bits = []; rest = l; count = refl; back = refl; is = refl; later = r }
  bits_off (suc k) next {l} {x} r =
      let s = split r in
      let b = bits_off k (λ rest. next (of_bits binary64 s.n ∷ rest)) s.later in
      record {
        bits = s.n ∷ b.bits;
        rest = b.rest;
        count = ap suc b.count;
        back = ap (λ (m : ℕ). m ∷ bits_of (doubles_of b.bits)) (double_back s.n s.small s.right) ∙ ap (λ (m : List ℕ). s.n ∷ m) b.back;
        is = s.is ∙ ap (λ (m : List ℕ). s.n ∷ m) b.is;
        later = b.later;
      }

bits_length : (l : List ℕ) → length (doubles_of l) ≡ length l
unfolding doubles_of
bits_length [] = refl
bits_length (n ∷ l) = ap suc (bits_length l)

nothing : length (spell []) ≡ 0
unfolding spell
nothing = refl

-- ---- the tallies and the mark

record ProgressPart (next : Progress → Layout Record) (l : List ℕ) (x : Record) : Type 0 where
  part : Progress
  rest : List ℕ
  is : l ≡ progress_row part ++ rest
  short : length (spell (progress_row part)) ≤ 31
  steps : part.tally.steps.0 < 2 ^ 64
  values : part.tally.values.0 < 2 ^ 64
  derivatives : part.tally.derivatives.0 < 2 ^ 64
  later : Row (next part) rest x

progress_part : (next : Progress → Layout Record) {l : List ℕ} {x : Record} → Row (progress_layout next) l x → ProgressPart next l x
unfolding progress_layout progress_row
progress_part next {l} {x} r =
    let a = split r in
    let b = split a.later in
    let c = split b.later in
    let d = split c.later in
    let e : l ≡ a.n ∷ b.n ∷ c.n ∷ d.n ∷ d.rest = a.is ∙ ap (λ (m : List ℕ). a.n ∷ m) (b.is ∙ ap (λ (m : List ℕ). b.n ∷ m) (c.is ∙ ap (λ (m : List ℕ). c.n ∷ m) d.is)) in
    let f = spelled_first a.n (b.n ∷ c.n ∷ d.n ∷ []) in
    let g = spelled_first b.n (c.n ∷ d.n ∷ []) in
    let h = spelled_first c.n (d.n ∷ []) in
    let i = spelled_first d.n [] in
    let z = most 0 2 d.n d.right in
    let j = one_group d.n (omega arith) in
    let k = nothing in
    let t = ten_at_most a.n in
    let u = ten_at_most b.n in
    let v = ten_at_most c.n in
    record { part = progress_of a.n b.n c.n d.n; rest = d.rest; is = e; short = omega arith; steps = a.small; values = b.small; derivatives = c.small; later = d.later }

-- ---- the answer

kind_large : (kind : ℕ) → is_kind kind ≡ true → (kind ≡ 0 → ⊥) → (kind ≡ 1 → ⊥) → 16 ≤ kind
unfolding is_kind between
kind_large kind h a b = go (ltb kind 2) refl (ltb kind 16) refl (ltb 19 kind) h
  where
    go : (x : Bool) → ltb kind 2 ≡ x → (y : Bool) → ltb kind 16 ≡ y → (z : Bool) → cond x true (cond y false (cond z false true)) ≡ true → 16 ≤ kind
    go true e y f z i = absurd (let j = ltb-true kind 2 e in omega (arith, a, b))
    go false e true f z i = absurd (true≢false (sym i))
    go false e false f z i = ltb-false kind 16 f

kind_group : (kind : ℕ) → is_kind kind ≡ true → kind < 128
unfolding is_kind
kind_group kind h = go (ltb kind 2) refl h
  where
    go : (b : Bool) → ltb kind 2 ≡ b → cond b true (between 16 19 kind) ≡ true → kind < 128
    go true e q = let z = ltb-true kind 2 e in omega arith
    go false e q = let z = most 16 19 kind q in omega arith

answer_back : (kind : ℕ) (l : List Float) → is_kind kind ≡ true → length l ≡ numbers_for kind → (kind_of (answer_of kind l) ≡ kind) × (numbers_of (answer_of kind l) ≡ l)
unfolding answer_of numbers_for
answer_back kind l h n = go (eqb kind 0) refl (eqb kind 1) refl l n
  where
    go : (a : Bool) → eqb kind 0 ≡ a → (b : Bool) → eqb kind 1 ≡ b → (l : List Float) → length l ≡ cond a 2 (cond b 3 0) →
        (kind_of (cond a (ByValue (get_or l 0 nan) (get_or l 1 nan)) (cond b (ByWidth (get_or l 0 nan) (get_or l 1 nan) (get_or l 2 nan)) (Refused (kind - 10)))) ≡ kind)
        × (numbers_of (cond a (ByValue (get_or l 0 nan) (get_or l 1 nan)) (cond b (ByWidth (get_or l 0 nan) (get_or l 1 nan) (get_or l 2 nan)) (Refused (kind - 10)))) ≡ l)
    go true e b f (x ∷ y ∷ []) q = (sym (eqb-true kind 0 e), refl)
    go true e b f [] q = absurd (omega arith)
    go true e b f (x ∷ []) q = absurd (omega arith)
    go true e b f (x ∷ y ∷ z ∷ l) q = absurd (omega arith)
    go false e true f (x ∷ y ∷ z ∷ []) q = (sym (eqb-true kind 1 f), refl)
    go false e true f [] q = absurd (omega arith)
    go false e true f (x ∷ []) q = absurd (omega arith)
    go false e true f (x ∷ y ∷ []) q = absurd (omega arith)
    go false e true f (x ∷ y ∷ z ∷ w ∷ l) q = absurd (omega arith)
    go false e false f [] q = (let z = kind_large kind h (eqb-false kind 0 e) (eqb-false kind 1 f) in omega arith, refl)
    go false e false f (x ∷ l) q = absurd (omega arith)

record AnswerPart (next : Answer → Layout Record) (l : List ℕ) (x : Record) : Type 0 where
  part : Answer
  rest : List ℕ
  is : l ≡ answer_row part ++ rest
  short : length (spell (answer_row part)) ≤ 31
  held : Held (numbers_of part)
  later : Row (next part) rest x

few_numbers : (kind : ℕ) → numbers_for kind ≤ 3
unfolding numbers_for
few_numbers kind = go (eqb kind 0) (eqb kind 1)
  where
    go : (a b : Bool) → cond a 2 (cond b 3 0) ≤ 3
    go true b = omega arith
    go false true = omega arith
    go false false = omega arith

answer_part : (next : Answer → Layout Record) {l : List ℕ} {x : Record} → Row (answer_layout next) l x → AnswerPart next l x
unfolding answer_layout answer_row
answer_part next {l} {x} r =
    let a = split r in
    let b = bits_off (numbers_for a.n) (λ numbers. next (answer_of a.n numbers)) a.later in
    let c = answer_back a.n (doubles_of b.bits) a.right b.count in
    let row : kind_of (answer_of a.n (doubles_of b.bits)) ∷ bits_of (numbers_of (answer_of a.n (doubles_of b.bits))) ≡ a.n ∷ b.bits = ap (λ (k : ℕ). k ∷ bits_of (numbers_of (answer_of a.n (doubles_of b.bits)))) c.0 ∙ ap (λ (m : List Float). a.n ∷ bits_of m) c.1 ∙ ap (λ (m : List ℕ). a.n ∷ m) b.back in
    let long : length (spell (a.n ∷ b.bits)) ≤ 31 =
    let f = spelled_first a.n b.bits in
    let g = one_group a.n (kind_group a.n a.right) in
    let h = ten_each b.bits in
    let i = bits_length b.bits in
    let j = b.count in
    let k = few_numbers a.n in
    omega arith
    in
    record {
      part = answer_of a.n (doubles_of b.bits);
      rest = b.rest;
      is = a.is ∙ ap (λ (m : List ℕ). a.n ∷ m) b.is ∙ ap (λ (m : List ℕ). m ++ b.rest) (sym row);
      short = rw row long;
      held = subst Held (sym c.1) (held_doubles b.bits);
      later = b.later;
    }

-- ---- the kind and the method

record HeadPart (next : ℕ → ℕ → Layout Record) (l : List ℕ) (x : Record) : Type 0 where
  kind : ℕ
  method : ℕ
  rest : List ℕ
  known : between 1 5 method ≡ true
  small : kind < 2 ^ 64
  is : l ≡ head_row kind ++ (method ∷ rest)
  short : length (spell (head_row kind)) ≤ 2
  later : Row (next kind method) rest x

not_none : (n : ℕ) → between 0 5 n ≡ true → (n ≡ 0 → ⊥) → between 1 5 n ≡ true
unfolding between
not_none n h z = go (ltb 5 n) h
  where
    above : (n : ℕ) → (n ≡ 0 → ⊥) → 1 ≤ n
    above zero z = absurd (z refl)
    above (suc n) z = omega arith

    go : (c : Bool) → cond (ltb n 0) false (cond c false true) ≡ true → cond (ltb n 1) false (cond c false true) ≡ true
    go true q = absurd (never (ltb n 0) q)
      where
        never : (b : Bool) → cond b false false ≡ true → ⊥
        never true e = true≢false (sym e)
        never false e = true≢false (sym e)
    go false q = rw (le-ltb n 1 (above n z))

not_first : (kind : ℕ) → between 2 2 kind ≡ true → eqb kind 1 ≡ false
not_first kind h = ne_eqb kind 1 (λ e. let z = least_two kind h in omega (arith, e, z))
  where
    least_two : (kind : ℕ) → between 2 2 kind ≡ true → 2 ≤ kind
    least_two kind h = least 2 2 kind h

head_part : (next : ℕ → ℕ → Layout Record) {l : List ℕ} {x : Record} → Row (headed next) l x → HeadPart next l x
unfolding headed head_row
head_part next {l} {x} r = go (split r)
  where
    go : Split (between 0 5) (λ first. cond (eqb first 0) (behind_zero next) (next 1 first)) l x → HeadPart next l x
    go a = by (eqb a.n 0) refl a.later
      where
        by : (b : Bool) → eqb a.n 0 ≡ b → Row (cond b (behind_zero next) (next 1 a.n)) a.rest x → HeadPart next l x
        by false e later = record { kind = 1; method = a.n; rest = a.rest; known = not_none a.n a.right (eqb-false a.n 0 e); small = omega arith; is = a.is; short = let k = nothing in omega arith; later = later }
        by true e later =
            let b = split later in
            let c = split b.later in
            let other = not_first b.n b.right in
            let row : 0 ∷ b.n ∷ [] ≡ cond (eqb b.n 1) [] (0 ∷ b.n ∷ []) = rw other in
            let f = spelled_first 0 (b.n ∷ []) in
            let g = spelled_first b.n [] in
            let z = most 2 2 b.n b.right in
            let i = one_group 0 (omega arith) in
            let j = one_group b.n (omega arith) in
            let k = nothing in
            let long : length (spell (0 ∷ b.n ∷ [])) ≤ 2 = omega arith in
            record {
              kind = b.n;
              method = c.n;
              rest = c.rest;
              known = c.right;
              small = b.small;
              is = a.is ∙ ap (λ (n : ℕ). n ∷ a.rest) (eqb-true a.n 0 e) ∙ ap (λ (m : List ℕ). 0 ∷ m) (b.is ∙ ap (λ (m : List ℕ). b.n ∷ m) c.is) ∙ ap (λ (m : List ℕ). m ++ (c.n ∷ c.rest)) row;
              short = subst (λ (m : List ℕ). length (spell m) ≤ 2) row long;
              later = c.later;
            }

-- ---- the tolerances

record TolerancesPart (kind : ℕ) (next : Tolerances → Layout Record) (l : List ℕ) (x : Record) : Type 0 where
  part : Tolerances
  rest : List ℕ
  is : l ≡ tolerances_row kind part ++ rest
  short : length (spell (tolerances_row kind part)) ≤ 20
  value_held : T (fits binary64 part.value)
  point_held : T (fits binary64 part.point)
  both : holds_both kind part ≡ true
  later : Row (next part) rest x

tolerance_double : (n : ℕ) → is_tolerance n ≡ true → is_double n ≡ true
unfolding is_tolerance is_double bad_tolerance
tolerance_double n h = go (finite (of_bits binary64 n)) (lt (of_bits binary64 n) least_tolerance) h
  where
    go : (b c : Bool) → not (cond b c true) ≡ true → b ≡ true
    go true c e = refl
    go false c e = absurd (true≢false (sym e))

-- one tolerance, and two
one_part :
    (kind : ℕ) (next : Tolerances → Layout Record) → eqb kind 1 ≡ true → (n : ℕ) → to_bits binary64 (of_bits binary64 n) ≡ n → (l rest : List ℕ) → l ≡ n ∷ rest → (x : Record) → Row (next (one_eps (of_bits binary64 n))) rest x →
    TolerancesPart kind next l x
unfolding tolerances_row holds_both
one_part kind next e n back l rest is x later =
    let row : cond (eqb kind 1) (to_bits binary64 (of_bits binary64 n) ∷ []) (to_bits binary64 (of_bits binary64 n) ∷ to_bits binary64 (of_bits binary64 n) ∷ []) ≡ n ∷ [] = rw (e, back) in
    let a = spelled_first n [] in
    let b = ten_at_most n in
    let c = nothing in
    let long : length (spell (n ∷ [])) ≤ 20 = omega arith in
    record {
      part = one_eps (of_bits binary64 n);
      rest = rest;
      is = is ∙ ap (λ (m : List ℕ). m ++ rest) (sym row);
      short = subst (λ (m : List ℕ). length (spell m) ≤ 20) (sym row) long;
      value_held = of_bits-fits binary64 n;
      point_held = of_bits-fits binary64 n;
      both = rw (e, eq-eqb (to_bits binary64 (of_bits binary64 n)) (to_bits binary64 (of_bits binary64 n)) refl);
      later = later;
    }

two_part :
    (kind : ℕ) (next : Tolerances → Layout Record) → eqb kind 1 ≡ false → (n m : ℕ) → to_bits binary64 (of_bits binary64 n) ≡ n → to_bits binary64 (of_bits binary64 m) ≡ m → (l rest : List ℕ) → l ≡ n ∷ m ∷ rest →
    (x : Record) → Row (next (record { value = of_bits binary64 n; point = of_bits binary64 m })) rest x → TolerancesPart kind next l x
unfolding tolerances_row holds_both
two_part kind next e n m back again l rest is x later =
    let row : cond (eqb kind 1) (to_bits binary64 (of_bits binary64 n) ∷ []) (to_bits binary64 (of_bits binary64 n) ∷ to_bits binary64 (of_bits binary64 m) ∷ []) ≡ n ∷ m ∷ [] = rw (e, back, again) in
    let a = spelled_first n (m ∷ []) in
    let b = spelled_first m [] in
    let c = ten_at_most n in
    let d = ten_at_most m in
    let f = nothing in
    let long : length (spell (n ∷ m ∷ [])) ≤ 20 = omega arith in
    record {
      part = record { value = of_bits binary64 n; point = of_bits binary64 m };
      rest = rest;
      is = is ∙ ap (λ (k : List ℕ). k ++ rest) (sym row);
      short = subst (λ (k : List ℕ). length (spell k) ≤ 20) (sym row) long;
      value_held = of_bits-fits binary64 n;
      point_held = of_bits-fits binary64 m;
      both = rw e;
      later = later;
    }

tolerances_part : (kind : ℕ) (next : Tolerances → Layout Record) {l : List ℕ} {x : Record} → Row (tolerances_for kind next) l x → TolerancesPart kind next l x
unfolding tolerances_for
tolerances_part kind next {l} {x} r = go (split r)
  where
    go : Split is_tolerance (λ n. cond (eqb kind 1) (next (one_eps (of_bits binary64 n))) (with_point next n)) l x → TolerancesPart kind next l x
    go a = by_kind (eqb kind 1) refl a.later
      where
        value_back : to_bits binary64 (of_bits binary64 a.n) ≡ a.n
        value_back = double_back a.n a.small (tolerance_double a.n a.right)

        by_kind : (b : Bool) → eqb kind 1 ≡ b → Row (cond b (next (one_eps (of_bits binary64 a.n))) (with_point next a.n)) a.rest x → TolerancesPart kind next l x
        by_kind true e later = one_part kind next e a.n value_back l a.rest a.is x later
        by_kind false e later =
            let b = split later in
            two_part kind next e a.n b.n value_back (double_back b.n b.small (tolerance_double b.n b.right)) l b.rest (a.is ∙ ap (λ (m : List ℕ). a.n ∷ m) b.is) x b.later

-- ---- the starts, the tolerances and the limit

two_starts : (l : List Float) → length l ≡ 2 → l ≡ get_or l 0 nan ∷ get_or l 1 nan ∷ []
two_starts [] n = absurd (omega arith)
two_starts (x ∷ []) n = absurd (omega arith)
two_starts (x ∷ y ∷ []) n = refl
two_starts (x ∷ y ∷ z ∷ l) n = absurd (omega arith)

one_start : (l : List Float) → length l ≡ 1 → l ≡ get_or l 0 nan ∷ []
one_start [] n = absurd (omega arith)
one_start (x ∷ []) n = refl
one_start (x ∷ y ∷ l) n = absurd (omega arith)

method_back : (m : ℕ) (l : List Float) → between 1 5 m ≡ true → length l ≡ start_count m → (method_number (started_at m l) ≡ m) × (starts_of (started_at m l) ≡ l)
unfolding between start_count started_at method_of
method_back zero l h n = absurd (true≢false (sym h))
method_back (suc zero) l h n = (refl, sym (two_starts l n))
method_back (suc (suc zero)) l h n = (refl, sym (two_starts l n))
method_back (suc (suc (suc zero))) l h n = (refl, sym (two_starts l n))
method_back (suc (suc (suc (suc zero)))) l h n = (refl, sym (one_start l n))
method_back (suc (suc (suc (suc (suc zero))))) l h n = (refl, sym (two_starts l n))
method_back (suc (suc (suc (suc (suc (suc m)))))) l h n = absurd (let z = most 1 5 (suc (suc (suc (suc (suc (suc m)))))) h in omega arith)

record RulePart (kind m : ℕ) (next : Method → Tolerances → ℕ → Layout Record) (l : List ℕ) (x : Record) : Type 0 where
  method : Method
  tolerances : Tolerances
  limit : ℕ
  rest : List ℕ
  number : method_number method ≡ m
  is : l ≡ rule_row kind method tolerances limit ++ rest
  short : length (spell (rule_row kind method tolerances limit)) ≤ 42
  starts_held : Held (starts_of method)
  value_held : T (fits binary64 tolerances.value)
  point_held : T (fits binary64 tolerances.point)
  both : holds_both kind tolerances ≡ true
  limit_small : limit < 2 ^ 64
  later : Row (next method tolerances limit) rest x

rule_part : (kind m : ℕ) → between 1 5 m ≡ true → (next : Method → Tolerances → ℕ → Layout Record) {l : List ℕ} {x : Record} → Row (rule_layout kind m next) l x → RulePart kind m next l x
unfolding rule_layout rule_row
rule_part kind m h next {l} {x} r =
    let b = bits_off (start_count m) (λ starts. tolerances_for kind (λ tolerances. number (between 0 greatest_limit) (λ limit. next (started_at m starts) tolerances limit))) r in
    let e = tolerances_part kind (λ tolerances. number (between 0 greatest_limit) (λ limit. next (started_at m (doubles_of b.bits)) tolerances limit)) b.later in
    let n = split e.later in
    let c = method_back m (doubles_of b.bits) h b.count in
    let last = tolerances_row kind e.part ++ (n.n ∷ []) in
    let row : bits_of (starts_of (started_at m (doubles_of b.bits))) ++ last ≡ b.bits ++ last = ap (λ (s : List Float). bits_of s ++ last) c.1 ∙ ap (λ (s : List ℕ). s ++ last) b.back in
    let long : length (spell (b.bits ++ last)) ≤ 42 =
    let f = spelled_both b.bits last in
    let g = spelled_both (tolerances_row kind e.part) (n.n ∷ []) in
    let i = spelled_first n.n [] in
    let j = nothing in
    let k = two_groups n.n (most 0 greatest_limit n.n n.right) in
    let o = e.short in
    let p = ten_each b.bits in
    let q = bits_length b.bits in
    let s = b.count in
    let t = few_starts m refl in
    omega arith
    in
    record {
      method = started_at m (doubles_of b.bits);
      tolerances = e.part;
      limit = n.n;
      rest = n.rest;
      number = c.0;
      is =
          b.is
          ∙ ap (λ (s : List ℕ). b.bits ++ s) (e.is ∙ ap (λ (s : List ℕ). tolerances_row kind e.part ++ s) n.is ∙ sym (append_assoc (tolerances_row kind e.part) (n.n ∷ []) n.rest))
          ∙ sym (append_assoc b.bits last n.rest)
          ∙ ap (λ (s : List ℕ). s ++ n.rest) (sym row);
      short = rw row long;
      starts_held = subst Held (sym c.1) (held_doubles b.bits);
      value_held = e.value_held;
      point_held = e.point_held;
      both = e.both;
      limit_small = n.small;
      later = n.later;
    }

-- ---- the call

-- the row of a call, by its parts
abbrev called : ℕ → List Float → ℕ → Method → Tolerances → ℕ → List ℕ
called kind coefficients count method tolerances limit = head_row kind ++ (method_number method ∷ count ∷ (bits_of coefficients ++ rule_row kind method tolerances limit))

record CallPart (next : CallNext) (l : List ℕ) (x : Record) : Type 0 where
  kind : ℕ
  coefficients : List Float
  count : ℕ
  method : Method
  tolerances : Tolerances
  limit : ℕ
  rest : List ℕ
  kind_small : kind < 2 ^ 64
  counted : length coefficients ≡ count
  few : count ≤ most_coefficients
  held : Held coefficients
  starts_held : Held (starts_of method)
  value_held : T (fits binary64 tolerances.value)
  point_held : T (fits binary64 tolerances.point)
  both : holds_both kind tolerances ≡ true
  limit_small : limit < 2 ^ 64
  is : l ≡ called kind coefficients count method tolerances limit ++ rest
  short : length (spell (called kind coefficients count method tolerances limit)) ≤ 206
  later : Row (next kind coefficients count method tolerances limit) rest x

call_part : (next : CallNext) {l : List ℕ} {x : Record} → Row (call_layout next) l x → CallPart next l x
unfolding call_layout
call_part next {l} {x} r =
    let m = head_part (λ kind m. number (between 1 most_coefficients) (λ count. doubles count (λ coefficients. rule_layout kind m (next kind coefficients count)))) r in
    let n = split m.later in
    let b = bits_off n.n (λ coefficients. rule_layout m.kind m.method (next m.kind coefficients n.n)) n.later in
    let c = rule_part m.kind m.method m.known (next m.kind (doubles_of b.bits) n.n) b.later in
    let rule = rule_row m.kind c.method c.tolerances c.limit in
    let long : length (spell (head_row m.kind ++ (m.method ∷ n.n ∷ (b.bits ++ rule)))) ≤ 206 =
    let d = spelled_both (head_row m.kind) (m.method ∷ n.n ∷ (b.bits ++ rule)) in
    let e = m.short in
    let f = spelled_first m.method (n.n ∷ (b.bits ++ rule)) in
    let g = spelled_first n.n (b.bits ++ rule) in
    let h = spelled_both b.bits rule in
    let y = most 1 5 m.method m.known in
    let z = most 1 most_coefficients n.n n.right in
    let i = one_group m.method (omega arith) in
    let j = one_group n.n (omega arith) in
    let k = ten_each b.bits in
    let o = bits_length b.bits in
    let p = b.count in
    let q = c.short in
    omega arith
    in
    let row : head_row m.kind ++ (m.method ∷ n.n ∷ (b.bits ++ rule)) ≡ called m.kind (doubles_of b.bits) n.n c.method c.tolerances c.limit =
    ap (λ (k : ℕ). head_row m.kind ++ (k ∷ n.n ∷ (b.bits ++ rule))) (sym c.number) ∙ ap (λ (s : List ℕ). head_row m.kind ++ (method_number c.method ∷ n.n ∷ (s ++ rule))) (sym b.back)
    in
    record {
      kind = m.kind;
      coefficients = doubles_of b.bits;
      count = n.n;
      method = c.method;
      tolerances = c.tolerances;
      limit = c.limit;
      rest = c.rest;
      kind_small = m.small;
      counted = b.count;
      few = most 1 most_coefficients n.n n.right;
      held = held_doubles b.bits;
      starts_held = c.starts_held;
      value_held = c.value_held;
      point_held = c.point_held;
      both = c.both;
      limit_small = c.limit_small;
      is =
          m.is
          ∙ ap (λ (s : List ℕ). head_row m.kind ++ (m.method ∷ s)) (n.is ∙ ap (λ (s : List ℕ). n.n ∷ s) (b.is ∙ ap (λ (s : List ℕ). b.bits ++ s) c.is ∙ sym (append_assoc b.bits rule c.rest)))
          ∙ sym (append_assoc (head_row m.kind) (m.method ∷ n.n ∷ (b.bits ++ rule)) c.rest)
          ∙ ap (λ (s : List ℕ). s ++ c.rest) row;
      short = subst (λ (s : List ℕ). length (spell s) ≤ 206) row long;
      later = c.later;
    }

-- ---- the whole row

module _ {l : List ℕ} {x : Record} (r : Row record_layout l x) where
  call : CallPart after_call l x
  call = call_part after_call (subst (λ (t : Layout Record). Row t l x) by_parts r)

  abbrev holds : Answer → Progress → Record
  holds answer progress = record_held call.kind call.coefficients call.count call.method call.tolerances call.limit answer progress

  abbrev its_call : List Float → List ℕ
  its_call coefficients = called call.kind coefficients call.count call.method call.tolerances call.limit

  answer : AnswerPart (λ answer. progress_layout (λ progress. end (holds answer progress))) call.rest x
  answer = answer_part (λ answer. progress_layout (λ progress. end (holds answer progress))) call.later

  progress : ProgressPart (λ progress. end (holds answer.part progress)) answer.rest x
  progress = progress_part (λ progress. end (holds answer.part progress)) answer.later

  ended : (progress.rest ≡ []) × (holds answer.part progress.part ≡ x)
  ended = at_the_end progress.later

  parts : l ≡ its_call call.coefficients ++ (answer_row answer.part ++ progress_row progress.part)
  parts =
      call.is
      ∙ ap (λ (s : List ℕ). its_call call.coefficients ++ s)
      (answer.is ∙ ap (λ (s : List ℕ). answer_row answer.part ++ s) (progress.is ∙ ap (λ (s : List ℕ). progress_row progress.part ++ s) ended.0 ∙ append-nil (progress_row progress.part)))

  kept : take call.count (padded call.coefficients) ≡ call.coefficients
  unfolding padded
  kept = take_at call.coefficients (drop (length call.coefficients) noughts) call.count call.counted

  all_there : length (padded call.coefficients) ≡ most_coefficients
  unfolding padded
  all_there =
      let a = length-append call.coefficients (drop (length call.coefficients) noughts) in
      let b = length-drop (length call.coefficients) noughts in
      let c = call.counted in
      let d = call.few in
      omega arith

  -- and what it holds are doubles, and numbers of 64 bits
  pub row_sound : Sound x
  row_sound =
      subst Sound ended.1
      (record {
        kind = call.kind_small;
        all = all_there;
        coefficients = subst Held (sym kept) call.held;
        starts = call.starts_held;
        value_tolerance = call.value_held;
        point_tolerance = call.point_held;
        limit = call.limit_small;
        numbers = answer.held;
        steps = progress.steps;
        values = progress.values;
        derivatives = progress.derivatives;
      })

  -- its kind has room for both tolerances
  pub row_both : holds_both x.kind x.tolerances ≡ true
  row_both = subst (λ (o : Record). holds_both o.kind o.tolerances ≡ true) ended.1 call.both

  -- whatever reads is the row of what it holds
  pub row_back : row_of x ≡ l
  unfolding row_of call_row
  row_back =
      ap row_of (sym ended.1)
      ∙ ap (λ (c : List Float). its_call c ++ (answer_row answer.part ++ progress_row progress.part)) kept
      ∙ sym parts

  -- the longest: 206 bytes of the call, 31 of the answer and 31 of the tallies and the mark
  pub at_most_longest : length (spell l) ≤ longest_record
  at_most_longest =
      let a = ap (λ (s : List ℕ). length (spell s)) parts in
      let b = spelled_both (its_call call.coefficients) (answer_row answer.part ++ progress_row progress.part) in
      let c = spelled_both (answer_row answer.part) (progress_row progress.part) in
      let d = call.short in
      let e = answer.short in
      let f = progress.short in
      omega arith
