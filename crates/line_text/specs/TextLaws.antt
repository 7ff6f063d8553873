-- Texts put one after the other.
use Rattle.std.specs.Prelude.{ℕ, zero, suc, ◌+◌, ◌-◌, ◌/◌, ◌^◌, ◌≤◌, ◌<◌, List, [], ◌∷◌, ◌++◌, ◌≡◌, refl, length, drop, get_or, flat_map}
use Rattle.std.proofs.Common.{arith, append_assoc, append-nil, sym, ◌∙◌, inl, inr, length-append, take-append-drop, length-take-le, take_at, drop_at, drop-drop, pow-suc, eq-zero-or-pos, div-lt_iff_lt-mul, le-div_iff_mul-le, lt-ltb, le-ltb}
use Rattle.std.proofs.Math.Path.{ap}
use Rattle.std.proofs.Math.ListN.{take}
use Rattle.std.proofs.lemmas.List.{take_more}
use Rattle.std.proofs.lemmas.Grind.{flat_map-append}
use Rattle.std.proofs.Math.Nat.{pow-le-pow_right}
use Rattle.io.specs.Digits.{last_digits, IsDigitCount}
use Rattle.line_text.specs.Texts.{Put, spelled, decimal_text, hex_text, decimal_field, hex_field, numbers_text, progress_text, text_of}
use Rattle.numerical.specs.Answers.{kind_of, numbers_of}
use Rattle.numerical.specs.declared.Progress.{Progress}
use Rattle.numerical.specs.declared.Outcome.{Outcome}

-- ---- the parts of a buffer

module _ {a : List ℕ} {at : ℕ} {t b : List ℕ} {r : ℕ} (x : Put a at t b r) where
  front_length : length (take at a ++ t) ≡ r
  front_length = length-append (take at a) t ∙ ap (λ (k : ℕ). k + length t) (length-take-le at a x.within) ∙ sym x.ends

  pub put_front : take r b ≡ take at a ++ t
  put_front = rw x.is (take_at (take at a ++ t) (drop r a) r front_length)

  pub put_leaves : drop r b ≡ drop r a
  put_leaves = rw x.is (drop_at (take at a ++ t) (drop r a) r front_length)

  -- it ends within the buffer
  pub put_within : r ≤ length b
  put_within = rw (x.is, length-append, front_length) (omega arith)

  -- nothing of it is left open
  pub put_fixed : {c : List ℕ} {q : ℕ} → Put a at t c q → b ≡ c
  put_fixed {c} {q} y = x.is ∙ ap (λ (k : ℕ). take at a ++ t ++ drop k a) (x.ends ∙ sym y.ends) ∙ sym y.is

-- ---- one text behind another

pub put_nothing : (a : List ℕ) (at : ℕ) → at ≤ length a → Put a at [] a at
put_nothing a at h = record { within = h; ends = omega arith; is = sym (rw append-nil (take-append-drop at a)) }

pub put_both : {a b c : List ℕ} {at p r : ℕ} {t u : List ℕ} → Put a at t b p → Put b p u c r → Put a at (t ++ u) c r
put_both {a} {b} {c} {at} {p} {r} {t} {u} x y =
    record {
      within = x.within;
      ends = rw length-append (let e = x.ends in let f = y.ends in omega arith);
      is = y.is ∙ rw (put_front x, append_assoc (take at a) t u, rest);
    }
  where
    rest : drop r b ≡ drop r a
    rest = rw (y.ends, ← drop-drop (length u) p b, put_leaves x, drop-drop)

-- ---- one text for each item

module _ {X : Type 0} (f : X → List ℕ) (xs : List X) (i : ℕ) {a now : List ℕ} {at p : ℕ} (x : Put a at (flat_map f (take i xs)) now p) where
  pub each_on : (d : X) → i < length xs → {after : List ℕ} {q : ℕ} → Put now p (f (get_or xs i d)) after q → Put a at (flat_map f (take (i + 1) xs)) after q
  each_on d h y = rw (take_more xs i d h, flat_map-append, append-nil) (put_both x y)

-- ---- digits

one_less : (k : ℕ) → suc k - 1 ≡ k
one_less k = omega arith

-- A number without its last digit.
shorter : (n k : ℕ) → IsDigitCount 10 1 n (suc (suc k)) → IsDigitCount 10 1 (n / 10) (suc k)
shorter n k f = (omega arith, less, λ h. more)
  where
    less : n / 10 < 10 ^ suc k
    less = (div-lt_iff_lt-mul {k = 10} (omega arith)).1 (rw pow-suc at f.1)

    large : 10 ^ suc k ≤ n
    large = rw one_less at (f.2 (omega arith))

    more : 10 ^ (suc k - 1) ≤ n / 10
    more = (le-div_iff_mul-le {k = 10} (omega arith)).1 (rw one_less (rw pow-suc at large))

-- The fewest digits that hold n are its digits with no zero in front.
spelled_is : (j k n : ℕ) → k ≤ j → IsDigitCount 10 1 n (suc k) → last_digits 10 (suc k) n ≡ spelled j n
spelled_is zero zero n h f = refl
spelled_is zero (suc k) n h f = absurd (omega arith)
spelled_is (suc j) zero n h f = rw (lt-ltb n 10 f.1)
spelled_is (suc j) (suc k) n h f = rw (le-ltb n 10 ten, spelled_is j k (n / 10) (omega arith) (shorter n k f))
  where
    ten : 10 ≤ n
    ten =
        let p : 10 ^ suc k ≤ n = rw one_less at (f.2 (omega arith)) in
        let q = pow-le-pow_right {n = 10} (omega arith) {i = 1} {j = suc k} (omega arith) in
        omega arith

-- no more than the most digits that a number below a bound can have
pub places : (base least most bound n k : ℕ) → 0 < base → least ≤ most → bound ≤ base ^ most → n < bound → IsDigitCount base least n k → k ≤ most
places base least most bound n k b l m h f = elim (eq-zero-or-pos (k - most)) [ inl e ↦ omega arith | inr g ↦ absurd (too_many (omega arith)) ]
  where
    too_many : most < k → ⊥
    too_many g =
        let p = f.2 (omega arith) in
        let q = pow-le-pow_right {n = base} b {i = most} {j = k - 1} (omega arith) in
        omega arith

-- ---- a number as io writes it

module _ (n k : ℕ) (h : n < 2 ^ 64) (f : IsDigitCount 10 1 n k) (d : List ℕ) (c : k ≡ length (take k d)) where
  decimal_places : k ≤ 20
  decimal_places = places 10 1 20 (2 ^ 64) n k (omega arith) (omega arith) (omega arith) h f

  spelled_all : (k : ℕ) → k ≤ 20 → IsDigitCount 10 1 n k → spelled 19 n ≡ last_digits 10 k n
  spelled_all zero l g = absurd (let p = g.0 in omega arith)
  spelled_all (suc k) l g = sym (spelled_is 19 k n (omega arith) g)

  pub decimal_put : (a : List ℕ) (at after : ℕ) {b e : List ℕ} {p r : ℕ} → take k d ≡ last_digits 10 k n → Put a at (take k d) b p → Put b p (after ∷ []) e r → Put a at (decimal_field n after) e r
  unfolding decimal_text
  decimal_put a at after {b} {e} {p} {r} t x y = put_both text y
    where
      text : Put a at (spelled 19 n) b p
      text = rw (spelled_all k decimal_places f) (rw t at x)

module _ (n k : ℕ) (h : n < 2 ^ 64) (f : IsDigitCount 16 16 n k) (d : List ℕ) (c : k ≡ length (take k d)) where
  hex_places : k ≡ 16
  hex_places = let p = places 16 16 16 (2 ^ 64) n k (omega arith) (omega arith) (omega arith) h f in let q = f.0 in omega arith

  pub hex_put : (a : List ℕ) (at after : ℕ) {b : List ℕ} {e : List ℕ} {p r : ℕ} → take k d ≡ last_digits 16 k n → Put a at (take k d) b p → Put b p (after ∷ []) e r → Put a at (hex_field n after) e r
  unfolding hex_text
  hex_put a at after {b} {e} {p} {r} t x y = put_both text y
    where
      same : take k d ≡ last_digits 16 16 n
      same = t ∙ ap (λ (j : ℕ). last_digits 16 j n) hex_places

      text : Put a at (last_digits 16 16 n) b p
      text = rw same at x

-- ---- an answer's line

pub progress_put : (a : List ℕ) (at : ℕ) (progress : Progress) {b c d e : List ℕ} {p q u r m : ℕ} → Put a at (decimal_field progress.tally.steps.0 32) b p → Put b p (decimal_field progress.tally.values.0 32) c q → Put c q (decimal_field progress.tally.derivatives.0 32) d u → m ≡ progress.mark → Put d u (decimal_field m 10) e r → Put a at (progress_text progress) e r
unfolding progress_text
progress_put a at progress f g h k i = put_both (put_both (put_both f g) h) (rw k at i)

pub outcome_put : (a : List ℕ) (at : ℕ) (o : Outcome) {b c d : List ℕ} {n p q r : ℕ} → n ≡ kind_of o.answer → Put a at (decimal_field n 32) b p → Put b p (numbers_text (numbers_of o.answer)) c q → Put c q (progress_text o.progress) d r → Put a at (text_of o) d r
unfolding text_of
outcome_put a at o e f g h = put_both (put_both (rw e at f) g) h
