-- Pairs of points in either order: what lies between, pairs nested in pairs, and a point pulled between. Assumes nothing.
use Rattle.std.specs.Prelude.{◌≡◌, refl, ◌↔◌, List, [], ◌∷◌, Bool, true, false, cond, T, ◌≤ℤ◌, Float}
use Rattle.std.proofs.Common.{sym, ◌∙◌, subst, inl, inr, true≢false}
use Rattle.std.specs.Float.Ieee.{lt, le}
use Rattle.std.specs.Float.Ieee.Bits.{is_true}
use Rattle.doubles.specs.Doubles.{order_of, clamp, beyond, pulled, lower, higher, outside}
use Rattle.doubles.specs.Compare.{Num}
use Rattle.doubles.proofs.Compare.{of_true, same_test, le_nums, le_refl, le_trans, le_total, lt→le, no_lt_le, lt_le_trans, le_lt_trans, clamp_between, clamp_inside, clamp_one, beyond_inside}
use Rattle.doubles.specs.Number.{Double}
use Rattle.doubles.proofs.Number.{le_order}
use Rattle.doubles.specs.Pairs.{Inside, Pair, In, Nested, OneEnd, Chain, Every, last, BetweenZ, first_kept, second_kept, first_kept_turned, second_kept_turned}

-- c between a and b, which lie both between u and v, with u the smaller
hull : (u v a b c : Float) → T (le u a) → T (le a v) → T (le u b) → T (le b v) → Inside a b c → Inside u v c
hull u v a b c h k m n (inl t) = inl (le_trans u a c h t.0, le_trans c b v t.1 n)
hull u v a b c h k m n (inr t) = inl (le_trans u b c m t.0, le_trans c a v t.1 k)

swap : (u v c : Float) → Inside u v c → Inside v u c
swap u v c (inl t) = inr t
swap u v c (inr t) = inl t

inside : (u v a b c : Float) → Inside u v a → Inside u v b → Inside a b c → Inside u v c
inside u v a b c (inl h) (inl k) t = hull u v a b c h.0 h.1 k.0 k.1 t
inside u v a b c (inr h) (inr k) t = swap v u c (hull v u a b c h.0 h.1 k.0 k.1 t)
-- where a and b lie the two ways round, u ≤ a ≤ v ≤ b ≤ u
inside u v a b c (inl h) (inr k) t = hull u v a b c h.0 h.1 (le_trans u v b (le_trans u a v h.0 h.1) k.0) (le_trans b u v k.1 (le_trans u a v h.0 h.1)) t
inside u v a b c (inr h) (inl k) t = hull u v a b c (le_trans u v a (le_trans u b v k.0 k.1) h.0) (le_trans a u v h.1 (le_trans u b v k.0 k.1)) k.0 k.1 t

-- What lies in a nested pair lies in the pair around it.
pub in_trans : (p q : Pair) (c : Float) → Nested p q → In q c → In p c
in_trans p q c n t = inside p.one p.other q.one q.other c n.one_in n.other_in t

-- Nesting is transitive.
pub nested_trans : (p q r : Pair) → Nested p q → Nested q r → Nested p r
nested_trans p q r n m = record { one_in = in_trans p q r.one n m.one_in; other_in = in_trans p q r.other n m.other_in }

-- ---- one end replaced

-- An end lies in its pair.
pub end_in : (u v : Float) → Num u → Num v → Inside u v u
end_in u v p q = elim (le_total u v p q) [ inl l ↦ inl (le_refl u p, l) | inr l ↦ inr (lt→le v u l, le_refl u p) ]

-- Replacing one end by a point between gives a nested pair.
pub one_end : (u v a b : Float) → Num u → Num v → OneEnd u v a b → Nested (record { one = u; other = v }) (record { one = a; other = b })
one_end u v a b p q (first_kept h) = record { one_in = end_in u v p q; other_in = h }
one_end u v a b p q (second_kept h) = record { one_in = h; other_in = swap v u v (end_in v u q p) }
one_end u v a b p q (first_kept_turned h) = record { one_in = h; other_in = end_in u v p q }
one_end u v a b p q (second_kept_turned h) = record { one_in = swap v u v (end_in v u q p); other_in = h }

-- ---- a first pair and the pairs after it, each nested in the one before

widen : (p q : Pair) (l : List Pair) → Nested p q → Every (Nested q) l → Every (Nested p) l
widen p q [] n h = tt
widen p q (r ∷ l) n h = (nested_trans p q r n h.0, widen p q l n h.1)

-- Every later pair is nested in the first.
pub within_first : (p : Pair) (l : List Pair) → Chain p l → Every (Nested p) l
within_first p [] c = tt
within_first p (q ∷ l) c = (c.0, widen p q l c.0 (within_first q l c.1))

-- What lies in the last pair lies in the first.
pub last_in_first : (p : Pair) (l : List Pair) (c : Float) → Chain p l → In (last p l) c → In p c
last_in_first p [] c h t = t
last_in_first p (q ∷ l) c h t = in_trans p q c h.0 (last_in_first q l c h.1 t)

-- ---- a point outside the pair becomes the nearer end

ordered : (u v : Float) → Num u → Num v → le u v ≡ false → T (le v u)
ordered u v p q h = elim (le_total u v p q) [ inl t ↦ absurd (true≢false (sym (is_true (le u v) t) ∙ h)) | inr t ↦ lt→le v u t ]

not_beyond : (low high x : Float) → T (le low x) → T (le x high) → beyond low high x ≡ false
not_beyond low high x a b = beyond_inside low high x (le_nums low x a).0 (le_nums x high b).1 (le_nums low x a).1 ∙ rw (is_true (le low x) a, is_true (le x high) b)

-- A point that is not outside is not moved.
pub pulled_unmoved : (u v x : Float) → outside u v x ≡ false → pulled u v x ≡ x
unfolding pulled outside
pulled_unmoved u v x = go (le u v)
  where
    go : (b : Bool) → cond b (beyond u v x) (beyond v u x) ≡ false → cond b (clamp u v x) (clamp v u x) ≡ x
    go true h = clamp_inside u v x h
    go false h = clamp_inside v u x h

-- The pulled point is one of the three.
pub pulled_one : (P : Float → Type 0) (u v x : Float) → P u → P v → P x → P (pulled u v x)
unfolding pulled
pulled_one P u v x a b c = go (le u v)
  where
    go : (t : Bool) → P (cond t (clamp u v x) (clamp v u x))
    go true = clamp_one P u v x a b c
    go false = clamp_one P v u x b a c

-- The pulled point lies between the two.
pub pulled_inside : (u v x : Float) → Num u → Num v → Num x → Inside u v (pulled u v x)
unfolding pulled
pulled_inside u v x p q n = go (le u v) (of_true (le u v)) (ordered u v p q)
  where
    go : (b : Bool) → (b ≡ true → T (le u v)) → (b ≡ false → T (le v u)) → Inside u v (cond b (clamp u v x) (clamp v u x))
    go true f g = inl (clamp_between u v x n (f refl))
    go false f g = inr (clamp_between v u x n (g refl))

inside_not_outside : (u v x : Float) → Inside u v x → outside u v x ≡ false
unfolding outside
inside_not_outside u v x (inl t) = rw (is_true (le u v) (le_trans u x v t.0 t.1)) (not_beyond u v x t.0 t.1)
inside_not_outside u v x (inr t) = go (le u v) (of_true (le u v))
  where
    go : (b : Bool) → (b ≡ true → T (le u v)) → cond b (beyond u v x) (beyond v u x) ≡ false
    go true f = not_beyond u v x (le_trans u v x (f refl) t.0) (le_trans x u v t.1 (f refl))
    go false f = not_beyond v u x t.0 t.1

-- A point is not outside just when it lies between the two.
pub outside_inside : (u v x : Float) → Num u → Num v → Num x → (outside u v x ≡ false) ↔ Inside u v x
outside_inside u v x p q n = (λ h. subst (Inside u v) (pulled_unmoved u v x h) (pulled_inside u v x p q n), inside_not_outside u v x)

-- What lies outside a pair is beyond the lower and the higher of the two: equal ends may change places.
pub outside_beyond : (u v x : Float) → beyond (lower u v) (higher u v) x ≡ outside u v x
unfolding outside
outside_beyond u v x = go (lt u v) (le u v) refl refl
  where
    swapped : T (le u v) → T (le v u) → beyond v u x ≡ beyond u v x
    swapped s t =
        rw (
          same_test (lt x v) (lt x u) (λ h. lt_le_trans x v u h t) (λ h. lt_le_trans x u v h s),
          same_test (lt u x) (lt v x) (λ h. le_lt_trans v u x t h) (λ h. le_lt_trans u v x s h),
        ) refl

    go : (b c : Bool) → lt u v ≡ b → le u v ≡ c → beyond (cond b u v) (cond b v u) x ≡ cond c (beyond u v x) (beyond v u x)
    go true true d e = refl
    go true false d e = absurd (true≢false (sym (is_true (le u v) (lt→le u v (of_true (lt u v) d))) ∙ e))
    go false true d e = let t = of_true (le u v) e in let n = le_nums u v t in swapped t (no_lt_le v u n.1 n.0 (λ h. subst T d h))
    go false false d e = refl

-- ---- between, by the order number

le_iff : (x y : Float) → Double x → Double y → T (le x y) ↔ order_of x ≤ℤ order_of y
le_iff x y d e = let w = le_order x y d e in (λ t. w.0 (is_true (le x y) t), λ l. of_true (le x y) (w.1 l))

-- A finite double lies between two others just when its order number does.
pub inside_order : (u v c : Float) → Double u → Double v → Double c → Inside u v c ↔ BetweenZ (order_of u) (order_of v) (order_of c)
inside_order u v c d e g = (there, home)
  where
    there : Inside u v c → BetweenZ (order_of u) (order_of v) (order_of c)
    there (inl t) = inl ((le_iff u c d g).0 t.0, (le_iff c v g e).0 t.1)
    there (inr t) = inr ((le_iff v c e g).0 t.0, (le_iff c u g d).0 t.1)

    home : BetweenZ (order_of u) (order_of v) (order_of c) → Inside u v c
    home (inl t) = inl ((le_iff u c d g).1 t.0, (le_iff c v g e).1 t.1)
    home (inr t) = inr ((le_iff v c e g).1 t.0, (le_iff c u g d).1 t.1)
