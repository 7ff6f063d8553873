-- The theorems about what specs/RecordLaws.antt defines.
use Prim.Native.Nat.{ℕ, ◌≤◌, ◌<◌}
use Rattle.std.proofs.Common.{arith, inl, inr, ap, ◌∙◌, length-take-le}
use Rattle.std.specs.Prelude.{Bool, ◌⊎◌, ◌≡◌, ltb, length, take}
use Rattle.std.proofs.Math.Bool.{true, false, cond}
use Rattle.std.proofs.Math.Path.{refl}
use Rattle.std.proofs.Math.Dec.{eqb}
use borrow.Author.Tests.{lt-ltb, le-ltb, eq-eqb, eqb-true, ltb-true, ltb-false}
use Rattle.std.specs.Float.Ieee.{binary64, to_bits}
use Rattle.simple_convergency.specs.Stop.{greatest_limit, most_coefficients}
use Rattle.simple_convergency.specs.declared.Tolerances.{Tolerances}
use Rattle.rows.proofs.LayoutLaws.{row_fits, fits_row}
use Rattle.records.specs.Records.{between, is_kind, row_of, record_layout, holds_both, recordable}
use Rattle.records.specs.RoundLaws.{Sound, Right}
use Rattle.records.proofs.RoundLaws.{most, least, same_both, row_right, right_row, recordable_parts, parts_recordable}
use Rattle.records.specs.declared.Record.{Record}
use Rattle.promises.proofs.EarlyLaws.{tells_finite, tells_tolerances, is_so, is_not}
use Rattle.promises.specs.RecordLaws.{AnswerKind, Recordable}

-- ---- tests of size

within : (least bound n : ℕ) → least ≤ n → n ≤ bound → between least bound n ≡ true
unfolding between
within least bound n h k = rw (le-ltb n least h, le-ltb bound n k)

kind_of_test : (n : ℕ) → is_kind n ≡ true → AnswerKind n
unfolding is_kind
kind_of_test n h = go (ltb n 2) refl h
  where
    small : (n : ℕ) → n < 2 → (n ≡ 0) ⊎ (n ≡ 1)
    small Prim.Native.Nat.zero k = inl refl
    small (Prim.Native.Nat.suc Prim.Native.Nat.zero) k = inr refl
    small (Prim.Native.Nat.suc (Prim.Native.Nat.suc n)) k = absurd (omega arith)

    go : (b : Bool) → ltb n 2 ≡ b → cond b true (between 16 19 n) ≡ true → AnswerKind n
    go true e q = elim (small n (ltb-true n 2 e)) [ inl z ↦ inl z | inr z ↦ inr (inl z) ]
    go false e q = inr (inr (least 16 19 n q, most 16 19 n q))

test_of_kind : (n : ℕ) → AnswerKind n → is_kind n ≡ true
unfolding is_kind
test_of_kind n (inl z) = rw (lt-ltb n 2 (omega arith))
test_of_kind n (inr (inl z)) = rw (lt-ltb n 2 (omega arith))
test_of_kind n (inr (inr z)) = rw (le-ltb n 2 (let a = z.0 in omega arith)) (within 16 19 n z.0 z.1)

layout_of_test : (n : ℕ) → between 1 2 n ≡ true → (n ≡ 1) ⊎ (n ≡ 2)
layout_of_test n h = go n (least 1 2 n h) (most 1 2 n h)
  where
    go : (n : ℕ) → 1 ≤ n → n ≤ 2 → (n ≡ 1) ⊎ (n ≡ 2)
    go Prim.Native.Nat.zero k l = absurd (omega arith)
    go (Prim.Native.Nat.suc Prim.Native.Nat.zero) k l = inl refl
    go (Prim.Native.Nat.suc (Prim.Native.Nat.suc Prim.Native.Nat.zero)) k l = inr refl
    go (Prim.Native.Nat.suc (Prim.Native.Nat.suc (Prim.Native.Nat.suc n))) k l = absurd (omega arith)

test_of_layout : (n : ℕ) → (n ≡ 1) ⊎ (n ≡ 2) → between 1 2 n ≡ true
test_of_layout n (inl e) = within 1 2 n (omega arith) (omega arith)
test_of_layout n (inr e) = within 1 2 n (omega arith) (omega arith)

-- ---- the tests and the words

module _ (o : Record) (s : Sound o) where
  counted : o.count ≤ most_coefficients → length (take o.count o.coefficients) ≡ o.count
  counted h = length-take-le o.count o.coefficients (let a = s.all in omega arith)

  same_value : holds_both o.kind o.tolerances ≡ true → o.kind ≡ 1 → o.tolerances.value ≡ o.tolerances.point
  same_value h e = ap (λ (t : Tolerances). t.point) (same_both o.kind o.tolerances s.value_tolerance s.point_tolerance (eq-eqb o.kind 1 e) h)

  has_room : (o.kind ≡ 1 → o.tolerances.value ≡ o.tolerances.point) → holds_both o.kind o.tolerances ≡ true
  unfolding holds_both
  has_room f = go (eqb o.kind 1) refl
    where
      go : (b : Bool) → eqb o.kind 1 ≡ b → cond b (eqb (to_bits binary64 o.tolerances.value) (to_bits binary64 o.tolerances.point)) true ≡ true
      go true e = eq-eqb _ _ (ap (to_bits binary64) (f (eqb-true o.kind 1 e)))
      go false e = refl

  right_words : Right o → Recordable o
  right_words r =
      let few = most 1 most_coefficients o.count r.count in
      record {
        its_record_kind = layout_of_test o.kind r.kind;
        one_eps_lem = λ e. same_value r.both e;
        few = few;
        passes = record {
          good_count = λ bad. elim bad [ inl z ↦ absurd (let a = least 1 most_coefficients o.count r.count in omega (arith, z, counted few, a)) | inr z ↦ absurd (omega (arith, z, counted few, few)) ];
          good_coefficients = (tells_finite _).yes r.coefficients;
          good_starts = (tells_finite _).yes r.starts;
          good_tolerances = (tells_tolerances _).no r.tolerances;
          good_limit = λ l. absurd (let m = most 0 greatest_limit o.limit r.limit in omega (arith, l, m));
        };
        all_finite_lem = (tells_finite _).yes r.numbers;
        its_kind = kind_of_test _ r.answer;
        its_mark = most 0 2 _ r.mark;
      }

  words_right : Recordable o → Right o
  words_right w =
      record {
        kind = test_of_layout o.kind w.its_record_kind;
        count = within 1 most_coefficients o.count (positive o.count (λ z. w.passes.good_count (inl (counted w.few ∙ z)))) w.few;
        coefficients = is_so (tells_finite _) w.passes.good_coefficients;
        starts = is_so (tells_finite _) w.passes.good_starts;
        tolerances = is_not (tells_tolerances _) w.passes.good_tolerances;
        both = has_room w.one_eps_lem;
        limit = within 0 greatest_limit o.limit (omega arith) (not_above o.limit w.passes.good_limit);
        answer = test_of_kind _ w.its_kind;
        numbers = is_so (tells_finite _) w.all_finite_lem;
        mark = within 0 2 _ (omega arith) w.its_mark;
      }
    where
      positive : (n : ℕ) → ¬ (n ≡ 0) → 1 ≤ n
      positive Prim.Native.Nat.zero z = absurd (z refl)
      positive (Prim.Native.Nat.suc n) z = omega arith

      not_above : (n : ℕ) → ¬ (greatest_limit < n) → n ≤ greatest_limit
      not_above n z = go (ltb greatest_limit n) refl
        where
          go : (b : Bool) → ltb greatest_limit n ≡ b → n ≤ greatest_limit
          go true e = absurd (z (ltb-true greatest_limit n e))
          go false e = ltb-false greatest_limit n e

  pub recordable_if : recordable o ≡ true → Recordable o
  recordable_if e = let p = recordable_parts o e in right_words (row_right o s p.0 (fits_row record_layout (row_of o) p.1).1).0

  pub if_recordable : Recordable o → recordable o ≡ true
  if_recordable w = let r = words_right w in parts_recordable o r.both (row_fits (right_row o s r))
