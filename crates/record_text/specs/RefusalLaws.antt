-- A call that is refused before any evaluation has no record, and its reply is its refusal.
use Rattle.std.specs.Prelude.{ℕ, ◌+◌, ◌-◌, ◌≤◌, ◌<◌, Bool, false, ◌≡◌, refl, length, take, Float}
use Rattle.std.proofs.Common.{eq-zero-or-pos, arith, inl, inr, ◌∙◌, take_all, lt-ltb, le-ltb}
use Rattle.std.proofs.Math.Bool.{and-false}
use mathlib.Core.List.{List, [], ◌∷◌, ◌++◌, append_assoc}
use Rattle.std.proofs.Math.Path.{ap}
use Rattle.std.proofs.Math.Seq.{take-length}
use Rattle.std.specs.Float.Ieee.{binary64, of_bits, to_bits}
use Rattle.numerical.specs.Answers.{refused_at_once}
use Rattle.simple_convergency.specs.Stop.{most_coefficients}
use Rattle.simple_convergency.specs.declared.Tolerances.{Tolerances}
use Rattle.roots.specs.Calls.{starts_of, answer}
use Rattle.roots.specs.Methods.{method_number, start_count}
use Rattle.roots.specs.declared.Method.{Method}
use Rattle.roots.specs.declared.Method.TheVariants.{Brent, RegulaFalsi, Secant, NewtonRaphson, Polynom}
use Rattle.rows.specs.Layouts.{Layout, number, fits}
use Rattle.records.specs.Records.{bits_of, head_row, tolerances_row, rule_row, call_row, answer_row, progress_row, row_of, between, is_kind, doubles, headed, tolerances_for, record_layout, holds_both, newest}
use Rattle.records.specs.declared.Record.{Record}
use Rattle.record_text.specs.RecordTexts.{record_of, recorded_text, refused_text}

-- ---- a row that fails at a later number

record Misfit {A : Type 0} (a : Layout A) (row : List ℕ) : Type 0 where
  is : fits a row ≡ false

module _ {A : Type 0} where
  module _ {ok : ℕ → Bool} {next : ℕ → Layout A} {n : ℕ} {row : List ℕ} where
    later : Misfit (next n) row → Misfit (number ok next) (n ∷ row)
    later h = record { is = rw (h.is, and-false, and-false) }

    here : ok n ≡ false → Misfit (number ok next) (n ∷ row)
    here h = record { is = rw (h, and-false) }

  behind : (a : List Float) {next : List Float → Layout A} {row : List ℕ} → ((l : List Float) → Misfit (next l) row) → Misfit (doubles (length a) next) (bits_of a ++ row)
  unfolding doubles bits_of
  behind [] h = h []
  behind (x ∷ a) h = later (behind a (λ l. h (of_bits binary64 (to_bits binary64 x) ∷ l)))

-- ---- what no record has

no_kind : (n : ℕ) → 1 ≤ n → n ≤ 5 → is_kind (10 + n) ≡ false
unfolding is_kind between
no_kind n h l = rw (le-ltb (10 + n) 2 (omega arith), lt-ltb (10 + n) 16 (omega arith))

no_count : (k : ℕ) → most_coefficients < k → between 1 most_coefficients k ≡ false
unfolding between
no_count k h = rw (le-ltb k 1 (omega arith), lt-ltb most_coefficients k h)

starts_count : (m : Method) → start_count (method_number m) ≡ length (starts_of m)
unfolding start_count
starts_count (Brent p q) = refl
starts_count (RegulaFalsi p q) = refl
starts_count (Secant p q) = refl
starts_count (NewtonRaphson p) = refl
starts_count (Polynom p q) = refl

-- of the newest kind
module _ (r : Record) (k : r.kind ≡ newest) where
  abbrev answer_on : List ℕ
  answer_on = answer_row r.outcome.answer ++ progress_row r.outcome.progress

  abbrev numbered : List ℕ
  numbered = to_bits binary64 r.tolerances.value ∷ to_bits binary64 r.tolerances.point ∷ r.limit ∷ []

  -- number by number
  row_is :
      row_of r
      ≡ 0 ∷ newest ∷ method_number r.method ∷ r.count
      ∷ (bits_of (take r.count r.coefficients) ++ (bits_of (starts_of r.method) ++ (to_bits binary64 r.tolerances.value ∷ to_bits binary64 r.tolerances.point ∷ r.limit ∷ answer_on)))
  unfolding row_of call_row head_row rule_row tolerances_row
  row_is =
      rw k
      (ap (λ (l : List ℕ). 0 ∷ newest ∷ method_number r.method ∷ r.count ∷ l)
      (append_assoc (bits_of (take r.count r.coefficients)) (bits_of (starts_of r.method) ++ numbered) answer_on
      ∙ ap (λ (l : List ℕ). bits_of (take r.count r.coefficients) ++ l) (append_assoc (bits_of (starts_of r.method)) numbered answer_on)))

  many_misfit : most_coefficients < r.count → Misfit record_layout (row_of r)
  unfolding record_layout headed
  many_misfit h = rw row_is (later (later (later (here (no_count r.count h)))))

  kind_misfit : (a : List Float) (n : ℕ) → take r.count r.coefficients ≡ a → r.count ≡ length a → r.outcome ≡ refused_at_once n → 1 ≤ n → n ≤ 5 → Misfit record_layout (row_of r)
  unfolding record_layout headed tolerances_for answer_row
  kind_misfit a n f c e h l =
      rw (row_is, f, c, e) (later (later (later (later (behind a λ coefficients. rw starts_count (behind (starts_of r.method) λ starts. later (later (later (here (no_kind n h l))))))))))

all_taken : (k : ℕ) (a : List Float) → length a ≤ k → take (length a) (take k a) ≡ a
all_taken k a h = rw (take_all k a h, take-length a)

module _ (a : List Float) (m : Method) (t : Tolerances) (limit n : ℕ) (e : answer a m t limit ≡ refused_at_once n) (h : 1 ≤ n) (l : n ≤ 5) where
  no_record : Misfit record_layout (row_of (record_of a m t limit))
  no_record = elim (eq-zero-or-pos (length a - most_coefficients)) [ inl z ↦ few (omega arith) | inr z ↦ many_misfit (record_of a m t limit) refl (omega arith) ]
    where
      few : length a ≤ most_coefficients → Misfit record_layout (row_of (record_of a m t limit))
      few s = kind_misfit (record_of a m t limit) refl a n (all_taken most_coefficients a s) refl e h l

  pub refusal_shown : recorded_text (record_of a m t limit) ≡ refused_text n
  unfolding recorded_text holds_both
  refusal_shown = rw (no_record.is, e)
