-- A line read field by field.
use Rattle.std.specs.Prelude.{ℕ, suc, ◌+◌, ◌-◌, ◌≤◌, ◌<◌, Bool, true, false, cond, not, List, [], ◌∷◌, ◌++◌, ◌≡◌, refl, eqb, ltb, length, take, drop, get_or, position, Option, Some, None, unwrap_or}
use Rattle.std.proofs.lemmas.Bool.Decides.{nat_tests}
use Rattle.std.proofs.Common.{arith, sym, ap, ◌∙◌, length-drop, take-suc, get_or-drop, length-take-le, eq-eqb, ne_eqb, drop-drop}
use Rattle.std.proofs.lemmas.List.{take_rest}
use Rattle.std.specs.List.{position_or_len}
use Rattle.std.proofs.lemmas.List.Sums.{prefix_len-le-length}
use Rattle.line_text.specs.Fields.{field_of, rest_of, Field}
use Rattle.line_text.specs.declared.fields.Span.{Span}

-- a part with one byte more
pub part_more : (s : List ℕ) (i : ℕ) → i < length s → (from : ℕ) → from ≤ i → take (i + 1 - from) (drop from s) ≡ take (i - from) (drop from s) ++ (get_or s i 0 ∷ [])
part_more s i h from l = rw (counts, take-suc (drop from s) (i - from) 0 inside, get_or-drop, here)
  where
    counts : i + 1 - from ≡ suc (i - from)
    counts = omega arith

    here : from + (i - from) ≡ i
    here = omega arith

    inside : i - from < length (drop from s)
    inside = rw length-drop (omega arith)

-- ---- the first byte that passes, or the end

pub found_or_end : (p : ℕ → Bool) (t : List ℕ) {r : Option ℕ} {n : ℕ} → r ≡ position p t → n ≡ unwrap_or r (length t) → (n ≡ position_or_len p t) × (n ≤ length t)
found_or_end p t {r} {n} e f = (is, rw is short)
  where
    short : position_or_len p t ≤ length t
    short = prefix_len-le-length (λ b. not (p b)) t

    at_end : (b : Bool) → b ≡ ltb (position_or_len p t) (length t) → unwrap_or (cond b (Some (position_or_len p t)) None) (length t) ≡ position_or_len p t
    at_end true h = refl
    at_end false h = let l = short in grind (arith, nat_tests)

    is : n ≡ position_or_len p t
    is = f ∙ rw e (at_end (ltb (position_or_len p t) (length t)) refl)

-- ---- a field, behind the spaces in front of it

pub part_within : (s : List ℕ) (at : ℕ) {n : ℕ} → at ≤ length s → n ≤ length (take (length s - at) (drop at s)) → at + n ≤ length s
part_within s at {n} h l = let a : n ≤ length s - at = rw (take_rest, length-drop) at l in omega arith

module _ (s : List ℕ) (at : ℕ) {n m : ℕ} (e : n ≡ position_or_len (λ b. not (eqb b 32)) (take (length s - at) (drop at s))) (f : m ≡ position_or_len (λ b. eqb b 32) (take (length s - (at + n)) (drop (at + n) s))) (h : at ≤ length s) (l : n ≤ length (take (length s - at) (drop at s))) (k : m ≤ length (take (length s - (at + n)) (drop (at + n) s))) where
  spaces_is : n ≡ position_or_len (λ b. not (eqb b 32)) (drop at s)
  spaces_is = rw take_rest at e

  field_is : m ≡ position_or_len (λ b. eqb b 32) (drop (at + n) s)
  field_is = rw take_rest at f

  pub field_found : Field s at (record { from = at + n; to = at + n + m })
  unfolding field_of rest_of
  field_found = record { past = omega arith; within = part_within s (at + n) (part_within s at h l) k; is = rw (long, field_is, spaces_is, part); leaves = rw (← drop-drop m (at + n) s, field_is, spaces_is, part) }
    where
      long : at + n + m - (at + n) ≡ m
      long = omega arith

      part : drop (at + position_or_len (λ b. not (eqb b 32)) (drop at s)) s ≡ drop (position_or_len (λ b. not (eqb b 32)) (drop at s)) (drop at s)
      part = sym (drop-drop (position_or_len (λ b. not (eqb b 32)) (drop at s)) at s)

-- ---- a field's length, and its place

module _ {s : List ℕ} {at : ℕ} {f : Span} (j : Field s at f) where
  field_length : length (field_of (drop at s)) ≡ f.to - f.from
  field_length = sym (ap length j.is) ∙ length-take-le (f.to - f.from) (drop f.from s) (rw length-drop (let p = j.past in let w = j.within in omega arith))

  pub no_field : f.to ≤ f.from → eqb (length (field_of (drop at s))) 0 ≡ true
  no_field h = rw field_length (eq-eqb (f.to - f.from) 0 (omega arith))

  pub some_field : f.from < f.to → eqb (length (field_of (drop at s))) 0 ≡ false
  some_field h = rw field_length (ne_eqb (f.to - f.from) 0 (λ e. omega arith))

-- what is left tells where it begins
pub same_place : (s : List ℕ) (p q : ℕ) → p ≤ length s → q ≤ length s → drop p s ≡ drop q s → p ≡ q
same_place s p q h k e =
    let l : length s - p ≡ length s - q = sym (length-drop p s) ∙ ap length e ∙ length-drop q s in
    omega arith

pub field_fixed : {s : List ℕ} {at : ℕ} {f g : Span} → Field s at f → Field s at g → f ≡ g
field_fixed {s} {at} {f} {g} x y = rw (begins, ends)
  where
    ends : f.to ≡ g.to
    ends = same_place s f.to g.to x.within y.within (x.leaves ∙ sym y.leaves)

    begins : f.from ≡ g.from
    begins =
        let l : f.to - f.from ≡ g.to - g.from = sym (field_length x) ∙ field_length y in
        let e = ends in
        let p = x.past in
        let q = y.past in
        omega arith
