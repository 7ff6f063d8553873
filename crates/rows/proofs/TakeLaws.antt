-- A number read group by group.
use Rattle.std.specs.Prelude.{ℕ, zero, suc, ◌+◌, ◌-◌, ◌*◌, ◌^◌, ◌≤◌, ◌<◌, Bool, true, false, cond, List, ◌∷◌, ◌≡◌, refl, ltb, eqb, length, drop, get_or, Option, Some, None}
use Rattle.std.proofs.Common.{pow-suc, mul-le-mul_left, mul-add, mul_assoc, add-one, arith, sym, ap, ◌∙◌, subst, length-drop, drop_of_length-le, drop-cons, Fits}
use Rattle.std.proofs.Math.Nat.{pow-le-pow_right}
use borrow.Author.Tests.{eq-eqb, ne_eqb, eqb-true, eqb-false, ltb-true, ltb-false}
use Rattle.std.specs.Int.{w64}
use Rattle.rows.specs.Groups.{Found, found, none, above, number_in, number_of, Took, tenth_at}
use Rattle.rows.proofs.GroupLaws.{none_found, number_last, number_on}
use Rattle.rows.specs.declared.Taken.{Taken}
use Rattle.rows.specs.TakeLaws.{Taking}

-- ---- one byte

off : (s : List ℕ) (p : ℕ) → p < length s → drop p s ≡ get_or s p 0 ∷ drop (p + 1) s
off s p h = rw (add-one, drop-cons s p 0)

ends : (k : ℕ) (s : List ℕ) (p : ℕ) → length s ≤ p → number_in k (drop p s) ≡ none
ends zero s p h = rw (drop_of_length-le s h)
ends (suc k) s p h = rw (drop_of_length-le s h)

-- two weights in a row are one
above_above : (v w g : ℕ) (x : Found) → above v w (above g 128 x) ≡ above (v + w * g) (w * 128) x
above_above v w g none = refl
above_above v w g (found n t) = go (eqb n 0) refl
  where
    sum : v + w * (g + 128 * n) ≡ v + w * g + w * 128 * n
    sum = let a = mul-add w g (128 * n) in let b = mul_assoc w 128 n in omega arith

    go : (b : Bool) → eqb n 0 ≡ b → above v w (cond b none (found (g + 128 * n) t)) ≡ cond b none (found (v + w * g + w * 128 * n) t)
    go true e = refl
    go false e = rw (ne_eqb (g + 128 * n) 0 (λ z. let f = eqb-false n 0 e in omega arith)) (ap (λ (j : ℕ). found j t) sum)

-- ---- the first byte

abbrev taken : ℕ → ℕ → Option (Taken ℕ)
taken n p = Some (record { value = n; next = p })

module _ (s : List ℕ) (at : ℕ) where
  pub take_nothing : false ≡ ltb at (length s) → Took s at None
  unfolding number_of
  take_nothing h = ends 9 s at (ltb-false at (length s) (sym h))

  module _ (h : true ≡ ltb at (length s)) {b : ℕ} (e : b ≡ get_or s at 0) where
    begins : at < length s
    begins = ltb-true at (length s) (sym h)

    pub take_small : b < 128 → Took s at (taken b (at + 1))
    unfolding number_of
    take_small l = record { within = let i = begins in omega arith; is = rw (off s at begins, ← e) (number_last 8 b (drop (at + 1) s) l) }

    pub take_starts : 128 ≤ b → b < 256 → Taking s at (b - 128) 128 (at + 1)
    unfolding number_of
    take_starts l u =
        record {
          some = omega arith;
          count = omega arith;
          weight = rw one;
          low = omega arith;
          is = rw (off s at begins, ← e, eight) (number_on 8 b (drop (at + 1) s) l u);
        }
      where
        one : at + 1 - at ≡ 1
        one = omega arith

        eight : at + 9 - (at + 1) ≡ 8
        eight = omega arith

-- ---- the groups up to p are read

module _ (s : List ℕ) (at v w p : ℕ) (g : Taking s at v w p) where
  lightest : p < at + 9 → w ≤ 2 ^ 56
  lightest l = let q = pow-le-pow_right {n = 128} (omega arith) {i = p - at} {j = 8} (omega arith) in let e = g.weight in omega arith

  pub take_ends : false ≡ ltb p (length s) → Took s at None
  take_ends h = g.is ∙ ap (above v w) (ends (at + 9 - p) s p (ltb-false p (length s) (sym h)))

  module _ (l : p < at + 9) (h : true ≡ ltb p (length s)) {b : ℕ} (e : b ≡ get_or s p 0) where
    within : p < length s
    within = ltb-true p (length s) (sym h)

    abbrev left : ℕ
    left = at + 9 - (p + 1)

    here : number_of (drop at s) ≡ above v w (number_in (suc left) (b ∷ drop (p + 1) s))
    here =
        g.is
        ∙ ap (λ (k : ℕ). above v w (number_in k (drop p s))) (let z : at + 9 - p ≡ suc (at + 9 - (p + 1)) = omega arith in z)
        ∙ ap (λ (x : List ℕ). above v w (number_in (suc left) x)) (off s p within ∙ ap (λ (k : ℕ). k ∷ drop (p + 1) s) (sym e))

    pub take_needless : b ≡ 0 → Took s at None
    take_needless z = here ∙ ap (above v w) (number_last left b (drop (p + 1) s) (omega arith)) ∙ rw z

    pub take_last : (b ≡ 0 → ⊥) → b < 128 → Took s at (taken (v + w * b) (p + 1))
    take_last z u = record { within = let i = within in omega arith; is = here ∙ ap (above v w) (number_last left b (drop (p + 1) s) u) ∙ rw (ne_eqb b 0 z) }

    next : 128 ≤ b → b < 256 → Taking s at (v + w * (b - 128)) (w * 128) (p + 1)
    next m u =
        let k = mul-le-mul_left {m = b - 128} {n = 127} w (omega arith) in
        let d = g.low in
        record {
          some = let i = g.some in omega arith;
          count = omega arith;
          weight = rw (g.weight, one_more, pow-suc 128 (p - at)) refl;
          low = omega arith;
          is = here ∙ ap (above v w) (number_on left b (drop (p + 1) s) m u) ∙ above_above v w (b - 128) (number_in left (drop (p + 1) s));
        }
      where
        one_more : p + 1 - at ≡ suc (p - at)
        one_more = let i = g.some in omega arith

    pub take_on : {q : ℕ} → q ≡ p + 1 → 128 ≤ b → b < 256 → Taking s at (v + w * (b - 128)) (w * 128) q
    take_on f m u = rw f (next m u)

-- ---- room in 64 bits

module _ {s : List ℕ} {at v w p : ℕ} (g : Taking s at v w p) (l : p < at + 9) where
  pub times_fits : (b : ℕ) → b < 128 → Fits w64 (w * b)
  times_fits b u = let k = mul-le-mul_left {m = b} {n = 127} w (omega arith) in let m = lightest s at v w p g l in record { fits = omega arith }

  pub sum_fits : (b : ℕ) → b < 128 → Fits w64 (v + w * b)
  sum_fits b u = let k = mul-le-mul_left {m = b} {n = 127} w (omega arith) in let m = lightest s at v w p g l in let d = g.low in record { fits = omega arith }

  module _ {b : ℕ} (u : b < 256) where
    pub times_fits_on : Fits w64 (w * (b - 128))
    times_fits_on = times_fits (b - 128) (omega arith)

    pub sum_fits_on : Fits w64 (v + w * (b - 128))
    sum_fits_on = sum_fits (b - 128) (omega arith)

  pub weight_fits : Fits w64 (w * 128)
  weight_fits = let m = lightest s at v w p g l in record { fits = omega arith }

-- ---- the tenth group

-- behind nine groups
nine : (s : List ℕ) (at v w p : ℕ) → Taking s at v w p → at + 9 ≤ p → Taking s at v w (at + 9)
nine s at v w p g l = subst (Taking s at v w) (let c = g.count in let z : p ≡ at + 9 = omega arith in z) g

module _ (s : List ℕ) (at v w : ℕ) (g : Taking s at v w (at + 9)) where
  module _ (h : at + 9 < length s) where
    abbrev last : ℕ
    last = get_or s (at + 9) 0

    tenth : number_of (drop at s) ≡ above v w (cond (ltb last 2) (found last (drop (at + 9 + 1) s)) none)
    tenth = g.is ∙ ap (λ (k : ℕ). above v w (number_in k (drop (at + 9) s))) (let z : at + 9 - (at + 9) ≡ 0 = omega arith in z) ∙ rw (off s (at + 9) h)

    tenth_taken : last ≡ 1 → Took s at (taken (v + w) (at + 9 + 1))
    tenth_taken e = record { within = omega arith; is = tenth ∙ rw e (ap (λ (k : ℕ). found k (drop (at + 9 + 1) s)) (omega arith)) }

    tenth_passes : (last ≡ 1 → ⊥) → Took s at None
    tenth_passes z = tenth ∙ go (ltb last 2) refl
      where
        go : (b : Bool) → ltb last 2 ≡ b → above v w (cond b (found last (drop (at + 9 + 1) s)) none) ≡ none
        go true e = rw (eq-eqb last 0 (let q = ltb-true last 2 e in omega arith))
        go false e = refl

  by_tenth : {r : Option (Taken ℕ)} → r ≡ tenth_at s (at + 9) v w → Took s at r
  unfolding tenth_at
  by_tenth {r} e = subst (Took s at) (sym e) (go (ltb (at + 9) (length s)) refl (eqb (get_or s (at + 9) 0) 1) refl)
    where
      go : (b : Bool) → ltb (at + 9) (length s) ≡ b → (c : Bool) → eqb (get_or s (at + 9) 0) 1 ≡ c → Took s at (cond b (cond c (taken (v + w) (at + 9 + 1)) None) None)
      go false f c h = take_ends s at v w (at + 9) g (sym f)
      go true f true h = tenth_taken (ltb-true (at + 9) (length s) f) (eqb-true (get_or s (at + 9) 0) 1 h)
      go true f false h = tenth_passes (ltb-true (at + 9) (length s) f) (eqb-false (get_or s (at + 9) 0) 1 h)

pub take_by_tenth : (s : List ℕ) (at v w p : ℕ) → Taking s at v w p → at + 9 ≤ p → {r : Option (Taken ℕ)} → r ≡ tenth_at s (at + 9) v w → Took s at r
take_by_tenth s at v w p g l = by_tenth s at v w (nine s at v w p g l)

-- ---- nothing of it is left open

same_place : (s : List ℕ) (i j : ℕ) → i ≤ length s → j ≤ length s → drop i s ≡ drop j s → i ≡ j
same_place s i j h k e = let a = ap length e in let b = length-drop i s in let c = length-drop j s in let z : i ≡ j = omega arith in z

pub taken_fixed : (s : List ℕ) (at : ℕ) (x y : Option (Taken ℕ)) → Took s at x → Took s at y → x ≡ y
taken_fixed s at None None p q = refl
taken_fixed s at None (Some y) p q = none_found (sym p ∙ q.is)
taken_fixed s at (Some x) None p q = none_found (sym q ∙ p.is)
taken_fixed s at (Some x) (Some y) p q =
    let e : found x.value (drop x.next s) ≡ found y.value (drop y.next s) = sym p.is ∙ q.is in
    let a : x.value ≡ y.value = cc in
    let b : drop x.next s ≡ drop y.next s = cc in
    let c = same_place s x.next y.next p.within q.within b in
    λ k. Some (record { value = a k; next = c k })
