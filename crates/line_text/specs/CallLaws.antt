-- The doubles of a line, read one after the other.
use Rattle.std.specs.Prelude.{ℕ, zero, suc, ◌+◌, ◌-◌, ◌≤◌, ◌<◌, Bool, true, false, cond, ◌&&◌, List, [], ◌∷◌, ◌++◌, ◌≡◌, refl, length, take, drop, set, Float, Option, Some, None, is_some}
use Rattle.std.proofs.Common.{add-one, arith, append_assoc, sym, ap, ◌∙◌, length-set, take-append-drop, drop-cons, drop-set-lt, take-suc-set}
use Rattle.std.proofs.lemmas.Bool.{false≢true}
use Rattle.std.specs.Float.{nan, binary64}
use Rattle.std.specs.Float.Ieee.{of_bits}
use Rattle.line_text.specs.Digits.{word_of}
use Rattle.line_text.specs.Fields.{field_of, rest_of, Field}
use Rattle.line_text.specs.FieldLaws.{same_place}
use Rattle.line_text.specs.Calls.{past, all_words, double_of, doubles_of, filled_with, Ends, Filled}
use Rattle.line_text.specs.declared.fields.Span.{Span}

-- i of k doubles are read, and p is where they end
pub record Filling (s : List ℕ) (at k : ℕ) (before a : List Float) (p i : ℕ) : Type 0 where
  pub within : p ≤ length s
  pub count : i ≤ k
  pub room : k ≤ length a
  pub all : all_words (k - i) (drop p s) ≡ all_words k (drop at s)
  pub are : take i a ++ filled_with (k - i) (drop p s) (drop i a) ≡ filled_with k (drop at s) before
  pub leaves : past (k - i) (drop p s) ≡ past k (drop at s)

-- the next field as a number
module _ (s : List ℕ) (at k : ℕ) (before a : List Float) (p i : ℕ) (g : Filling s at k before a p i) (h : i < k) {f : Span} (j : Field s p f) {w : Option ℕ} (e : w ≡ word_of (take (f.to - f.from) (drop f.from s))) where
  one_more : k - i ≡ suc (k - (i + 1))
  one_more = omega arith

  the_word : word_of (field_of (drop p s)) ≡ w
  the_word = rw (← j.is, e)

  inside : i < length a
  inside = let r = g.room in omega arith

  pub fill_wrong : w ≡ None → Filled s at k before a None
  fill_wrong q = record { ends = sym g.all ∙ rw (one_more, the_word, q); array = sym (take-append-drop i a) ∙ as_it_is ∙ g.are }
    where
      as_it_is : take i a ++ drop i a ≡ take i a ++ filled_with (k - i) (drop p s) (drop i a)
      as_it_is = rw (one_more, drop-cons a i nan inside, the_word, q)

  module _ {n : ℕ} (q : w ≡ Some n) where
    all_on : all_words (k - i) (drop p s) ≡ all_words (k - (i + 1)) (drop f.to s)
    all_on = rw (one_more, the_word, q, j.leaves)

    past_on : past (k - i) (drop p s) ≡ past (k - (i + 1)) (drop f.to s)
    past_on = rw (one_more, j.leaves)

    pub fill_on : {x : Float} → x ≡ of_bits binary64 n → Filling s at k before (set a i x) f.to (i + 1)
    fill_on {x} v =
        record {
          within = j.within;
          count = omega arith;
          room = rw length-set g.room;
          all = sym all_on ∙ g.all;
          are = are_on ∙ g.are;
          leaves = sym past_on ∙ g.leaves;
        }
      where
        are_on : take (i + 1) (set a i x) ++ filled_with (k - (i + 1)) (drop f.to s) (drop (i + 1) (set a i x)) ≡ take i a ++ filled_with (k - i) (drop p s) (drop i a)
        are_on = rw (one_more, drop-cons a i nan inside, the_word, q, v, j.leaves, add-one i, take-suc-set a i (of_bits binary64 n) inside, drop-set-lt (suc i) a i (of_bits binary64 n) (omega arith), append_assoc)

-- all k are read
pub fill_done : {s : List ℕ} {at k : ℕ} {before a : List Float} {p i : ℕ} → Filling s at k before a p i → k ≤ i → Filled s at k before a (Some p)
fill_done {s} {at} {k} {before} {a} {p} {i} g h =
    record {
      ends = record { within = g.within; all = sym g.all ∙ rw none; leaves = rw none at g.leaves };
      array = sym (take-append-drop i a) ∙ rw none at g.are;
    }
  where
    none : k - i ≡ zero
    none = omega arith

-- only the first k places of an array are written
filled_part : (k : ℕ) (t : List ℕ) (a : List Float) → filled_with k t (take k a) ++ drop k a ≡ filled_with k t a
filled_part zero t a = refl
filled_part (suc k) t [] = refl
filled_part (suc k) t (x ∷ a) = go (is_some (word_of (field_of t))) (filled_part k (rest_of t) a)
  where
    d : Float
    d = double_of (word_of (field_of t))

    go : (b : Bool) → filled_with k (rest_of t) (take k a) ++ drop k a ≡ filled_with k (rest_of t) a → cond b (d ∷ filled_with k (rest_of t) (take k a)) (x ∷ take k a) ++ drop k a ≡ cond b (d ∷ filled_with k (rest_of t) a) (x ∷ a)
    go true e = ap (λ (r : List Float). d ∷ r) e
    go false e = ap (λ (r : List Float). x ∷ r) (take-append-drop k a)

pub part_filled : (s : List ℕ) (at k : ℕ) (a : List Float) {b : List Float} {r : Option ℕ} → Filled s at k (take k a) b r → Filled s at k a (b ++ drop k a) r
part_filled s at k a f = record { ends = f.ends; array = rw f.array (filled_part k (drop at s) a) }

-- where each is a word, the array begins with their doubles
pub filled_front : (k : ℕ) (t : List ℕ) (a : List Float) → k ≤ length a → all_words k t ≡ true → take k (filled_with k t a) ≡ doubles_of k t
filled_front zero t a h e = refl
filled_front (suc k) t [] h e = absurd (omega arith)
filled_front (suc k) t (x ∷ a) h e = go (is_some (word_of (field_of t))) e (filled_front k (rest_of t) a (omega arith))
  where
    d : Float
    d = double_of (word_of (field_of t))

    go : (b : Bool) → (b && all_words k (rest_of t)) ≡ true → (all_words k (rest_of t) ≡ true → take k (filled_with k (rest_of t) a) ≡ doubles_of k (rest_of t)) → take (suc k) (cond b (d ∷ filled_with k (rest_of t) a) (x ∷ a)) ≡ d ∷ doubles_of k (rest_of t)
    go true e l = ap (λ (r : List Float). d ∷ r) (l e)
    go false e l = absurd (false≢true e)

-- one place
pub ends_fixed : (s : List ℕ) (at k : ℕ) (v w : Option ℕ) → Ends s at k v → Ends s at k w → v ≡ w
ends_fixed s at k (Some p) (Some q) x y = ap Some (same_place s p q x.within y.within (x.leaves ∙ sym y.leaves))
ends_fixed s at k (Some p) None x y = cc
ends_fixed s at k None (Some q) x y = cc
ends_fixed s at k None None x y = refl
