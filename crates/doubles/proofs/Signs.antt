-- The signs of values: when one value may stand for another in a pair of values whose signs are not the same. Assumes nothing.
use Rattle.std.specs.Prelude.{◌≡◌, refl, Bool, true, false, cond, ◌&&◌, ◌||◌, T, Float}
use Rattle.std.proofs.Common.{sym, ◌∙◌, subst, true≢false}
use Rattle.std.proofs.lemmas.Bool.{false≢true}
use Rattle.std.proofs.Math.Bool.{and_comm, and-false, or-true}
use Rattle.std.specs.Float.Ieee.{lt, neg}
use Rattle.std.specs.Float.Ieee.Bits.{is_true}
use Rattle.doubles.specs.Doubles.{nought, absolute, above, below, same_sign, opposite_sign}
use Rattle.doubles.specs.Compare.{Num}
use Rattle.doubles.proofs.Compare.{of_true, le_nums, le_no_lt, no_lt_le, lt→le, lt_le_trans}

-- No float is both above and below zero.
pub one_side : (x : Float) → above x && below x ≡ false
one_side x = go (above x) (below x) (λ t. le_no_lt nought x (lt→le nought x t))
  where
    go : (a b : Bool) → (T a → T b → ⊥) → a && b ≡ false
    go true true h = absurd (h tt tt)
    go true false h = refl
    go false b h = refl

-- The two tests as the code makes them: both above zero or both below; one above and one below.
either_side : (p q r t : Bool) → p && q ≡ false → ((p && r) || (q && t)) ≡ cond p r (q && t)
either_side true true r t e = absurd (true≢false e)
either_side true false true t e = refl
either_side true false false t e = refl
either_side false q r t e = refl

pub same_sides : (a b : Float) → ((above a && above b) || (below a && below b)) ≡ same_sign a b
unfolding same_sign
same_sides a b = either_side (above a) (below a) (above b) (below b) (one_side a)

pub opposite_sides : (a b : Float) → ((above a && below b) || (below a && above b)) ≡ opposite_sign a b
unfolding opposite_sign
opposite_sides a b = either_side (above a) (below a) (below b) (above b) (one_side a)

-- The order of the two does not matter.
pub same_symmetric : (a b : Float) → same_sign a b ≡ same_sign b a
unfolding same_sign
same_symmetric a b = go (above a) (below a) (above b) (below b) (one_side a) (one_side b)
  where
    go : (p q r s : Bool) → p && q ≡ false → r && s ≡ false → cond p r (q && s) ≡ cond r p (s && q)
    go true q true s h k = refl
    go true q false s h k = rw h (sym (and-false s))
    go false q true s h k = rw k (and-false q)
    go false q false s h k = and_comm q s

-- A value that shares a's sign may replace a.
pub shared_replaced : (a b s : Float) → same_sign s a ≡ true → same_sign a b ≡ false → same_sign s b ≡ false
unfolding same_sign
shared_replaced a b s = go (above s) (below s) (above a) (below a) (one_side a)
  where
    go : (p q r t : Bool) → r && t ≡ false → cond p r (q && t) ≡ true → cond r (above b) (t && below b) ≡ false → cond p (above b) (q && below b) ≡ false
    go true q true t x h k = k
    go true q false t x h k = absurd (false≢true h)
    go false true true true x h k = absurd (true≢false x)
    go false true false true x h k = k
    go false true r false x h k = absurd (false≢true h)
    go false false r t x h k = absurd (false≢true h)

-- Values of opposite signs have not the same sign.
pub opposite_not_same : (a s : Float) → opposite_sign a s ≡ true → same_sign a s ≡ false
unfolding same_sign opposite_sign
opposite_not_same a s = go (above a) (below a) (above s) (below s) (one_side s)
  where
    go : (p q r t : Bool) → r && t ≡ false → cond p t (q && r) ≡ true → cond p r (q && t) ≡ false
    go true q true t x h = sym h ∙ x
    go true q false t x h = refl
    go false true true t x h = x
    go false true false t x h = absurd (false≢true h)
    go false false r t x h = refl

-- A value that is not opposite to a's may replace a where a's is not zero.
pub other_kept : (a b s : Float) → (above a || below a) ≡ true → same_sign a b ≡ false → opposite_sign a s ≡ false → same_sign s b ≡ false
unfolding same_sign opposite_sign
other_kept a b s = go (above a) (below a) (above s) (below s) (above b) (below b)
  where
    go : (p q r t u v : Bool) → (p || q) ≡ true → cond p u (q && v) ≡ false → cond p t (q && r) ≡ false → cond r u (t && v) ≡ false
    go true q true t u v n h k = h
    go true q false t u v n h k = rw k
    go false true true t u v n h k = absurd (true≢false k)
    go false true false t u v n h k = rw h (and-false t)
    go false false r t u v n h k = absurd (false≢true n)

-- A number whose size is not below a bound above zero is itself above or below zero.
pub not_found : (y eps : Float) → Num y → above eps ≡ true → lt (absolute y) eps ≡ false → (above y || below y) ≡ true
unfolding absolute
not_found y eps n p = go (below y) (above y) (λ h. is_true (above y) (lt_le_trans nought eps y positive (no_lt_le eps y number n (λ t. subst T h t))))
  where
    positive : T (above eps)
    positive = of_true (above eps) p

    number : Num eps
    number = (le_nums nought eps (lt→le nought eps positive)).1

    go : (b c : Bool) → (lt y eps ≡ false → c ≡ true) → lt (cond b (neg y) y) eps ≡ false → (c || b) ≡ true
    go true c k h = or-true c
    go false c k h = rw (k h)
