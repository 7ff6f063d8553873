-- Texts of records, put one part after the other.
use Rattle.std.specs.Prelude.{ℕ, ◌+◌, ◌/◌, ◌%◌, ◌^◌, ◌≤◌, ◌<◌, List, [], ◌∷◌, take, Result, Ok, Float}
use Rattle.std.proofs.Common.{sym, ◌∙◌, lt-ltb, le-ltb}
use native.Mathlib.Omega.{arith}
use Rattle.std.proofs.Math.Path.{◌≡◌}
use Rattle.std.proofs.Math.ListN.{length}
use Rattle.io.specs.Digits.{last_digits, IsDigitCount}
use Rattle.simple_convergency.specs.declared.Tolerances.{Tolerances}
use Rattle.roots.specs.Calls.{starts_of, two_starts}
use Rattle.roots.specs.Methods.{method_number, start_count}
use Rattle.roots.proofs.CallLaws.{own_starts}
use Rattle.roots.specs.declared.Method.{Method}
use Rattle.records.specs.Records.{own_count, reading_of}
use Rattle.records.proofs.WriteLaws.{own_are}
use Rattle.records.proofs.PrefixLaws.{bytes_hold}
use Rattle.records.specs.declared.Record.{Record}
use Rattle.records.specs.declared.Reading.{Reading}
use Rattle.records.specs.declared.Refusal.{Refusal}
use Rattle.line_text.specs.Texts.{Put, bytes, decimal_field, numbers_text, text_of}
use Rattle.line_text.specs.TextLaws.{put_both, places}
use Rattle.record_text.specs.RecordTexts.{pair, rule_text, call_text, record_text, refused_text}

-- ---- bytes as digits

-- a byte as io writes it
module _ {n k : ℕ} (h : n < 2 ^ 8) (f : IsDigitCount 16 2 n k) where
  pub two_digits : k ≡ 2
  two_digits = let p = places 16 2 2 (2 ^ 8) n k (omega arith) (omega arith) (omega arith) h f in let q = f.0 in omega arith

  pub pair_is : {b : ℕ} {t : List ℕ} → n ≡ b → t ≡ last_digits 16 k n → t ≡ pair b
  pair_is {b} e t = t ∙ rw (two_digits, ← e, high)
    where
      high : n / 16 % 16 ≡ n / 16
      high = omega arith

-- ---- a record's line

pub refused_put : (a : List ℕ) (at n : ℕ) {b c : List ℕ} {p r : ℕ} → Put a at (bytes "refused ") b p → Put b p (decimal_field n 10) c r → Put a at (refused_text n) c r
unfolding refused_text
refused_put a at n x y = put_both x y

module _ (a : List ℕ) (at : ℕ) {b : List ℕ} {p : ℕ} where
  -- a method's own starts, of its two
  pub starts_put : (m : Method) {number count : ℕ} {two : List Float} → number ≡ method_number m → count ≡ start_count number → two ≡ two_starts m → Put a at (numbers_text (take count two)) b p → Put a at (numbers_text (starts_of m)) b p
  starts_put m e f g x = rw (own_starts m e f g) at x

  -- a record's own coefficients, of its 16
  pub own_put : (k : Record) {own : ℕ} → own ≡ own_count k → length k.coefficients ≡ 16 → Put a at (numbers_text (take own k.coefficients)) b p → Put a at (numbers_text (take k.count k.coefficients)) b p
  own_put k e l x = rw (own_are k e l) at x

  module _ {c : List ℕ} {q : ℕ} {d : List ℕ} {r : ℕ} where
    pub rule_put : (m : Method) (t : Tolerances) (limit : ℕ) → Put a at (numbers_text (starts_of m)) b p → Put b p (numbers_text (t.value ∷ t.point ∷ [])) c q → Put c q (decimal_field limit 32) d r → Put a at (rule_text m t limit) d r
    unfolding rule_text
    rule_put m t limit x y z = put_both (put_both x y) z

    pub call_put : (k : Record) {n : ℕ} {e : List ℕ} {u : ℕ} → n ≡ method_number k.method → Put a at (decimal_field n 32) b p → Put b p (decimal_field k.count 32) c q → Put c q (numbers_text (take k.count k.coefficients)) d r → Put d r (rule_text k.method k.tolerances k.limit) e u → Put a at (call_text k) e u
    unfolding call_text
    call_put k h x y z w = put_both (put_both (put_both (rw h at x) y) z) w

    pub record_put :
        (n : ℕ) (k : Record) {e : List ℕ} {u : ℕ} → Put a at (decimal_field n 32) b p → Put b p (decimal_field k.kind 32) c q → Put c q (call_text k) d r → Put d r (text_of k.outcome) e u →
        Put a at (record_text n k) e u
    unfolding record_text
    record_put n k x y z w = put_both (put_both (put_both x y) z) w

-- what was read lies within the bytes
pub first_within : (s : List ℕ) {b : Result Reading Refusal} {r : Reading} → b ≡ reading_of s → b ≡ Ok r → r.length ≤ length s
first_within s y e = let h = bytes_hold s (sym y ∙ e) in let c = h.1.count in omega arith
