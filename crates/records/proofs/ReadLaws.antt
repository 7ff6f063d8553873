-- Numbers with a test, and doubles one after the other, as the reader takes them.
use Prim.Native.Nat.{ℕ, suc, ◌+◌, ◌-◌, ◌≤◌, ◌<◌}
use Rattle.std.proofs.Common.{true≢false, sym, add-one, append_assoc, append-nil, ap, ◌∙◌, subst, length-set, take-suc-set, take_all, Fits}
use native.Mathlib.Omega.{arith}
use Rattle.std.specs.Int.{w8}
use Rattle.std.specs.Prelude.{Bool, true, false, cond, ltb, List, [], ◌∷◌, ◌++◌, ◌≡◌, refl, length, take, drop, set, Float}
use Rattle.std.specs.Float.{binary64}
use Rattle.std.specs.Float.Ieee.{of_bits}
use borrow.Author.Tests.{ltb-false}
use Rattle.rows.specs.Groups.{Found, found, none, number_of, TookOne}
use Rattle.rows.specs.Layouts.{Layout, number, only, TookNumber, NoNumber, Goes}
use Rattle.rows.proofs.GroupLaws.{none_found}
use Rattle.rows.proofs.LayoutLaws.{goes_on, goes_wrong, number_wrong, number_goes}
use Rattle.records.specs.Records.{between, is_double, is_tally, record_layout, doubles}
use Rattle.records.specs.Parts.{Part, double_part, HeldPart, NoPart}
use Rattle.records.specs.declared.Record.{Record}
use Rattle.records.specs.ReadLaws.{Filling}

-- ---- what a test lets pass

passed : (ok : ℕ → Bool) (f : Found) {n : ℕ} {t : List ℕ} → only ok f ≡ found n t → ok n ≡ true
passed ok none h = none_found h
passed ok (found m u) {n} {t} h = go (ok m) refl h
  where
    go : (b : Bool) → ok m ≡ b → cond b (found m u) none ≡ found n t → ok n ≡ true
    go true e q = let z : m ≡ n = cc in rw (← z) e
    go false e q = none_found q

pub is_right : {ok : ℕ → Bool} {s : List ℕ} {at n p : ℕ} → TookNumber ok s at n p → ok n ≡ true
is_right {ok} {s} {at} g = passed ok (number_of (drop at s)) g.is

pub most : (least bound n : ℕ) → between least bound n ≡ true → n ≤ bound
unfolding between
most least bound n h = go (ltb n least) (ltb bound n) refl h
  where
    go : (b c : Bool) → ltb bound n ≡ c → cond b false (cond c false true) ≡ true → n ≤ bound
    go true c e q = absurd (true≢false (sym q))
    go false true e q = absurd (true≢false (sym q))
    go false false e q = ltb-false bound n e

pub least : (bound most n : ℕ) → between bound most n ≡ true → bound ≤ n
unfolding between
least bound most n h = go (ltb n bound) refl (ltb most n) h
  where
    go : (b : Bool) → ltb n bound ≡ b → (c : Bool) → cond b false (cond c false true) ≡ true → bound ≤ n
    go true e c q = absurd (true≢false (sym q))
    go false e c q = ltb-false n bound e

module _ (low high : ℕ) {s : List ℕ} {at n p : ℕ} (g : TookNumber (between low high) s at n p) where
  pub room_for : {j : ℕ} → high ≤ j → n ≤ j
  room_for h = let l = most low high n (is_right g) in omega arith

  pub byte_fits : high < 256 → Fits w8 n
  byte_fits h = let l = most low high n (is_right g) in record { fits = omega arith }

-- ---- a number as a part

module _ {ok : ℕ → Bool} {s : List ℕ} {at : ℕ} where
  pub number_held : {n p : ℕ} → TookNumber ok s at n p → HeldPart (number ok) s at n p
  number_held x = record { goes = λ next. number_goes ok next x }

  pub number_missed : NoNumber ok s at → NoPart (number ok) s at
  number_missed x = record { fails = λ next. number_wrong ok next x }

  pub double_held : {n p : ℕ} {y : Float} → TookNumber ok s at n p → y ≡ of_bits binary64 n → HeldPart (double_part ok) s at y p
  double_held x e = record { goes = λ next. rw e (number_goes ok (λ bits. next (of_bits binary64 bits)) x) }

  pub double_missed : NoNumber ok s at → NoPart (double_part ok) s at
  double_missed x = record { fails = λ next. number_wrong ok (λ bits. next (of_bits binary64 bits)) x }

-- a tally is a number of any size
module _ {s : List ℕ} {at : ℕ} where
  pub tally_held : {n p : ℕ} → TookOne s at n p → HeldPart (number is_tally) s at n p
  unfolding is_tally
  tally_held x = number_held (record { within = x.within; is = ap (only is_tally) x.is })

  pub tally_missed : number_of (drop at s) ≡ none → NoPart (number is_tally) s at
  tally_missed x = number_missed (record { is = ap (only is_tally) x })

-- ---- where a part ends

pub place : {X : Type 0} {part : Part X} {s : List ℕ} {at p : ℕ} {x : X} → HeldPart part s at x p → p ≤ length s
place g = (g.goes (λ x. record_layout)).within

-- ---- doubles

module _ {k : ℕ} {s : List ℕ} {at : ℕ} {a : List Float} {p i : ℕ} (g : Filling k s at a p i) where
  pub fill_done : k ≤ i → HeldPart (doubles k) s at a p
  unfolding doubles
  fill_done h = record { goes = λ next. subst (λ (b : Layout Record). Goes (doubles k next) s at b p) (ap (λ (j : ℕ). doubles j (λ rest. next (take i a ++ rest))) none_left ∙ ap next (append-nil (take i a) ∙ take_all i a (let e = g.room in omega arith))) (g.goes next) }
    where
      none_left : k - i ≡ 0
      none_left = omega arith

  module _ (h : i < k) where
    one_more : (next : List Float → Layout Record) → Goes (doubles k next) s at (double_part is_double (λ y. doubles (k - (i + 1)) (λ rest. next (take i a ++ (y ∷ rest))))) p
    unfolding doubles
    one_more next = rw less at (g.goes next)
      where
        less : k - i ≡ suc (k - (i + 1))
        less = omega arith

    pub fill_none : NoPart (double_part is_double) s p → NoPart (doubles k) s at
    fill_none x = record { fails = λ next. goes_wrong (one_more next) (x.fails (λ y. doubles (k - (i + 1)) (λ rest. next (take i a ++ (y ∷ rest))))) }

    pub fill_on : {y : Float} {q : ℕ} → HeldPart (double_part is_double) s p y q → Filling k s at (set a i y) q (i + 1)
    fill_on {y} {q} x =
        record {
          within = place x;
          count = omega arith;
          room = rw length-set g.room;
          goes = λ next. rw (joined next) (goes_on (one_more next) (x.goes (λ y. doubles (k - (i + 1)) (λ rest. next (take i a ++ (y ∷ rest))))));
        }
      where
        front : (rest : List Float) → take (i + 1) (set a i y) ++ rest ≡ take i a ++ (y ∷ rest)
        front rest =
            ap (λ (l : List Float). l ++ rest) (ap (λ (j : ℕ). take j (set a i y)) (add-one i) ∙ take-suc-set a i y (let e = g.room in omega arith))
            ∙ append_assoc (take i a) (y ∷ []) rest

        joined : (next : List Float → Layout Record) → doubles (k - (i + 1)) (λ rest. next (take (i + 1) (set a i y) ++ rest)) ≡ doubles (k - (i + 1)) (λ rest. next (take i a ++ (y ∷ rest)))
        joined next = λ j. doubles (k - (i + 1)) (λ rest. next (front rest j))
