-- Both round trips, over every layout; a row is right exactly if it reads back whole; and a row read part by part.
use Rattle.std.specs.Prelude.{ℕ, ◌^◌, ◌≤◌, Bool, cond, ◌&&◌, ◌≡◌, ltb, length}
use Rattle.std.proofs.Common.{arith, true≢false, sym, ap, ◌∙◌, lt-ltb, ltb-true}
use Rattle.std.proofs.Math.Bool.{true, false}
use mathlib.Core.List.{List, [], ◌∷◌, ◌++◌, append_assoc, append-nil}
use Rattle.std.proofs.Math.Path.{refl, subst}
use Rattle.rows.specs.Groups.{groups, Found, found, none, number_of}
use Rattle.rows.proofs.GroupLaws.{number_back, number_fits, number_spelled}
use Rattle.rows.specs.Layouts.{Layout, end, number, spell, fits, Read, held, wrong, only, first, read, Row, at_end, and_then, TookNumber, NoNumber, Goes, Fails}
use Rattle.rows.specs.Puts.{Small}
use Rattle.rows.specs.LayoutLaws.{Written}

-- ---- tests

pub both_left : (a b : Bool) → a && b ≡ true → a ≡ true
both_left true b h = refl
both_left false b h = h

pub both_right : (a b : Bool) → a && b ≡ true → b ≡ true
both_right true b h = h
both_right false b h = absurd (true≢false (sym h))

pub wrong_held : {A B : Type 0} {x : A} {t : List ℕ} → wrong ≡ held x t → B
wrong_held h = absurd (let z : ◌≡◌ {A = ℕ} 0 1 = cc in omega arith)

-- ---- the family and the test are one

module _ {A : Type 0} where
  pub row_fits : {a : Layout A} {l : List ℕ} {x : A} → Row a l x → fits a l ≡ true
  row_fits at_end = refl
  row_fits (and_then small ok row) = rw (small, ok) (row_fits row)

  pub fits_row : (a : Layout A) (l : List ℕ) → fits a l ≡ true → (x : A) × Row a l x
  fits_row (end x) [] h = (x, at_end)
  fits_row (end x) (n ∷ l) h = absurd (true≢false (sym h))
  fits_row (number ok next) [] h = absurd (true≢false (sym h))
  fits_row (number ok next) (n ∷ l) h =
      let later = both_right (ltb n (2 ^ 64)) (ok n && fits (next n) l) h in
      let r = fits_row (next n) l (both_right (ok n) (fits (next n) l) later) in
      (r.0, and_then (both_left (ltb n (2 ^ 64)) (ok n && fits (next n) l) h) (both_left (ok n) (fits (next n) l) later) r.1)

  -- ---- what was written reads back

  pub row_back : {a : Layout A} {l : List ℕ} {x : A} → Row a l x → (t : List ℕ) → read a (spell l ++ t) ≡ held x t
  unfolding read spell
  row_back at_end t = refl
  row_back (and_then {ok = ok} {n = n} {row = row} small right later) t =
      rw (append_assoc (groups n) (spell row) t, number_back n (spell row ++ t) (ltb-true n (2 ^ 64) small), right) (row_back later t)

  -- ---- what reads was written so

  module _ (ok : ℕ → Bool) (next : ℕ → Layout A) (s : List ℕ) (x : A) (t : List ℕ) (later : (n : ℕ) (u : List ℕ) → read (next n) u ≡ held x t → Written (next n) u x t) where
    tested : (n : ℕ) (u : List ℕ) → number_of s ≡ found n u → (b : Bool) → ok n ≡ b → first (λ (n : ℕ). read (next n)) (cond b (found n u) none) ≡ held x t → Written (number ok next) s x t
    unfolding spell
    tested n u e false f q = wrong_held q
    tested n u e true f q =
        let w = later n u q in
        record {
          numbers = n ∷ w.numbers;
          row = and_then (lt-ltb n (2 ^ 64) (number_fits s n u e)) f w.row;
          is = number_spelled s n u e ∙ rw (append_assoc (groups n) (spell w.numbers) t) (ap (λ (z : List ℕ). groups n ++ z) w.is);
        }

    begun : (f : Found) → number_of s ≡ f → first (λ (n : ℕ). read (next n)) (only ok f) ≡ held x t → Written (number ok next) s x t
    begun none e q = wrong_held q
    begun (found n u) e q = tested n u e (ok n) refl q

  pub row_only : (a : Layout A) (s : List ℕ) (x : A) (t : List ℕ) → read a s ≡ held x t → Written a s x t
  unfolding read spell
  row_only (end y) s x t h = let q : y ≡ x = cc in record { numbers = []; row = subst (Row (end y) []) q at_end; is = cc }
  row_only (number ok next) s x t h = begun ok next s x t (λ n u. row_only (next n) u x t) (number_of s) refl h

  -- ---- wrong exactly when no right row is spelled there

  pub none_right : (a : Layout A) (s : List ℕ) → read a s ≡ wrong → (l t : List ℕ) → fits a l ≡ true → s ≡ spell l ++ t → ⊥
  none_right a s e l t h q = let r = fits_row a l h in wrong_held (sym e ∙ ap (read a) q ∙ row_back r.1 t)

  pub none_otherwise : (a : Layout A) (s : List ℕ) → ((l t : List ℕ) → fits a l ≡ true → s ≡ spell l ++ t → ⊥) → read a s ≡ wrong
  none_otherwise a s h = go (read a s) refl
    where
      go : (x : Read A) → read a s ≡ x → read a s ≡ wrong
      go wrong e = e
      go (held x t) e = let w = row_only a s x t e in absurd (h w.numbers t (row_fits w.row) w.is)

-- ---- rows of numbers of 64 bits have different spellings

nothing_read : {A : Type 0} {n : ℕ} {t : List ℕ} → number_of [] ≡ found n t → A
unfolding number_of
nothing_read h = absurd (let z : ◌≡◌ {A = ℕ} 0 1 = cc in omega arith)

pub spell_one : (l m : List ℕ) → Small l → Small m → spell l ≡ spell m → l ≡ m
unfolding spell
spell_one [] [] a b e = refl
spell_one [] (n ∷ m) a b e = nothing_read (ap number_of e ∙ number_back n (spell m) b.0)
spell_one (n ∷ l) [] a b e = nothing_read (ap number_of (sym e) ∙ number_back n (spell l) a.0)
spell_one (n ∷ l) (j ∷ m) a b e = go (spell_one l m a.1 b.1)
  where
    same : found n (spell l) ≡ found j (spell m)
    same = sym (number_back n (spell l) a.0) ∙ ap number_of e ∙ number_back j (spell m) b.0

    go : (spell l ≡ spell m → l ≡ m) → n ∷ l ≡ j ∷ m
    go r =
        let s : found n (spell l) ≡ found j (spell m) = same in
        let x : n ≡ j = cc in
        let y : spell l ≡ spell m = cc in
        let z = r y in
        cc

pub spell_append : (l m : List ℕ) → spell (l ++ m) ≡ spell l ++ spell m
unfolding spell
spell_append [] m = refl
spell_append (n ∷ l) m = ap (λ (x : List ℕ). groups n ++ x) (spell_append l m) ∙ sym (append_assoc (groups n) (spell l) (spell m))

pub small_append : (l m : List ℕ) → Small l → Small m → Small (l ++ m)
small_append [] m a b = b
small_append (n ∷ l) m a b = (a.0, small_append l m a.1 b)

-- ---- right exactly if it reads back whole

module _ {A : Type 0} where
  pub row_small : {a : Layout A} {l : List ℕ} {x : A} → Row a l x → Small l
  row_small at_end = tt
  row_small (and_then {n = n} small ok row) = (ltb-true n (2 ^ 64) small, row_small row)

  module _ (a : Layout A) (l : List ℕ) where
    pub right_if : (x : A) → Small l → read a (spell l) ≡ held x [] → fits a l ≡ true
    right_if x s e =
        let w = row_only a (spell l) x [] e in
        rw (spell_one l w.numbers s (row_small w.row) (w.is ∙ append-nil (spell w.numbers))) (row_fits w.row)

    back : fits a l ≡ true → (x : A) × (read a (spell l) ≡ held x [])
    back h = let r = fits_row a l h in (r.0, ap (read a) (sym (append-nil (spell l))) ∙ row_back r.1 [])

    pub wrong_if_none : read a (spell l) ≡ wrong → fits a l ≡ false
    wrong_if_none e = go (fits a l) refl
      where
        go : (b : Bool) → fits a l ≡ b → fits a l ≡ false
        go true f = wrong_held (sym e ∙ (back f).1)
        go false f = f

    pub wrong_if_short : (x : A) (t : List ℕ) → read a (spell l) ≡ held x t → (t ≡ [] → ⊥) → fits a l ≡ false
    wrong_if_short x t e n = go (fits a l) refl
      where
        go : (b : Bool) → fits a l ≡ b → fits a l ≡ false
        go true f = absurd (n (let y = back f in let z : held x t ≡ held y.0 [] = sym e ∙ y.1 in cc))
        go false f = f

-- ---- a row read part by part, as code goes

module _ {A : Type 0} {s : List ℕ} {at : ℕ} where
  pub goes_here : (a : Layout A) → at ≤ length s → Goes a s at a at
  goes_here a h = record { within = h; is = refl }

  module _ {a b : Layout A} {p : ℕ} (x : Goes a s at b p) where
    pub goes_on : {c : Layout A} {q : ℕ} → Goes b s p c q → Goes a s at c q
    goes_on y = record { within = y.within; is = x.is ∙ y.is }

    pub goes_wrong : Fails b s p → Fails a s at
    goes_wrong y = record { is = x.is ∙ y.is }

  module _ (ok : ℕ → Bool) (next : ℕ → Layout A) where
    pub number_wrong : NoNumber ok s at → Fails (number ok next) s at
    unfolding read
    number_wrong x = record { is = rw x.is }

    pub number_goes : {n p : ℕ} → TookNumber ok s at n p → Goes (number ok next) s at (next n) p
    unfolding read
    number_goes x = record { within = x.within; is = rw x.is }
