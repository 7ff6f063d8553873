-- Digits read one after the other.
use Rattle.std.specs.Prelude.{ℕ, ◌+◌, ◌*◌, ◌^◌, ◌≤◌, ◌<◌, List, [], ◌∷◌, ◌≡◌, length, drop, get_or, Option, Some, None, unwrap_or}
use Rattle.std.specs.Char.{digit_value}
use Rattle.std.proofs.lemmas.Bool.Decides.{nat_tests}
use Rattle.std.proofs.Common.{mul-le-mul_left, add-one, arith, sym, ◌∙◌, drop-cons, drop_of_length-le, lt-ltb, le-ltb}
use Rattle.std.proofs.Math.Bool.{and-false}
use Rattle.line_text.specs.Digits.{digit_of, value_from, number_from}

-- ---- one digit

digit_is : (b : ℕ) → digit_value b < 16 → Some (digit_value b) ≡ digit_of b
unfolding digit_of
digit_is b h = grind (arith, nat_tests)

digit_is_none : (b : ℕ) → (digit_value b < 16 → ⊥) → None ≡ digit_of b
unfolding digit_of
digit_is_none b h = grind (arith, nat_tests)

pub digit_found : (b : ℕ) {d : ℕ} → (digit_value b < 16) × (d ≡ digit_value b) → Some d ≡ digit_of b
digit_found b h = rw (h.1) (digit_is b h.0)

pub no_digit_found : (b : ℕ) {x : Option ℕ} → (digit_value b < 16 → ⊥) → x ≡ None → x ≡ digit_of b
no_digit_found b h e = e ∙ digit_is_none b h

-- More digits make no smaller number.
grows : (base v : ℕ) (t : List ℕ) → 2 ≤ base → v ≤ value_from base v t
grows base v [] h = omega arith
grows base v (b ∷ t) h =
    let l = grows base (v * base + unwrap_or (digit_of b) 0) t h in
    let m = mul-le-mul_left v h in
    omega arith

-- ---- a turn at byte i

module _ (base v : ℕ) (t : List ℕ) (i : ℕ) (h : i < length t) where
  one_off : drop i t ≡ get_or t i 0 ∷ drop (i + 1) t
  one_off = rw (add-one, drop-cons t i 0)

  module _ {n : Option ℕ} (k : number_from base v (drop i t) ≡ n) where
    turned : number_from base v (get_or t i 0 ∷ drop (i + 1) t) ≡ n
    turned = rw one_off at k

    module _ {r : Option ℕ} (e : r ≡ digit_of (get_or t i 0)) where
      pub number_no_digit : r ≡ None → {x : Option ℕ} → x ≡ None → x ≡ n
      unfolding number_from
      number_no_digit q y = y ∙ sym (rw (← e, q)) ∙ turned

      module _ {d : ℕ} (q : r ≡ Some d) where
        is : digit_of (get_or t i 0) ≡ Some d
        is = sym e ∙ q

        value_is : value_from base v (get_or t i 0 ∷ drop (i + 1) t) ≡ value_from base (v * base + d) (drop (i + 1) t)
        value_is = rw (value_from, is)

        pub number_on : d < base → {m w : ℕ} → m ≡ v * base → w ≡ m + d → number_from base w (drop (i + 1) t) ≡ n
        unfolding number_from
        number_on l f g = rw (g, f) (sym (rw (is, lt-ltb d base l, value_is)) ∙ turned)

        pub number_large_digit : base ≤ d → None ≡ n
        unfolding number_from
        number_large_digit l = sym (rw (is, le-ltb d base l)) ∙ turned

        number_too_large : 2 ≤ base → 2 ^ 64 ≤ v * base + d → None ≡ n
        unfolding number_from
        number_too_large b l = sym (rw (is, value_is, le-ltb (value_from base (v * base + d) (drop (i + 1) t)) (2 ^ 64) (let m = grows base (v * base + d) (drop (i + 1) t) b in omega arith), and-false)) ∙ turned

        pub number_no_product : 2 ≤ base → (v * base < 2 ^ 64 → ⊥) → {x : Option ℕ} → x ≡ None → x ≡ n
        number_no_product b none y = y ∙ number_too_large b (omega arith)

        pub number_no_sum : 2 ≤ base → {m : ℕ} → m ≡ v * base → (m + d < 2 ^ 64 → ⊥) → {x : Option ℕ} → x ≡ None → x ≡ n
        number_no_sum b f none y = y ∙ number_too_large b (omega arith)

pub number_end : (base v : ℕ) (t : List ℕ) (i : ℕ) {n : Option ℕ} → number_from base v (drop i t) ≡ n → length t ≤ i → v < 2 ^ 64 → Some v ≡ n
unfolding number_from
number_end base v t i k h s = sym (rw (drop_of_length-le t h, lt-ltb v (2 ^ 64) s)) ∙ k

-- where a number's digits end, or are none
pub ruleset ends = (number_no_digit, number_large_digit, number_no_product, number_no_sum, number_end)
