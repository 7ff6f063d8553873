-- Bytes put one after the other, and a number group by group.
use Rattle.std.specs.Prelude.{ℕ, zero, suc, ◌+◌, ◌/◌, ◌%◌, ◌^◌, ◌≤◌, ◌<◌, List, [], ◌∷◌, ◌++◌, ◌≡◌, refl, length, take, drop, set, get_or}
use Rattle.std.proofs.Common.{add-one, arith, append_assoc, append-nil, sym, ap, ◌∙◌, length-append, length-drop, take-append-drop, length-take-le, take_all, take_at, drop_at, drop-drop}
use Rattle.std.proofs.lemmas.List.{set_split}
use Rattle.std.proofs.Math.Seq.{take-suc}
use Rattle.rows.specs.Groups.{groups_in, groups}
use Rattle.rows.specs.GroupLaws.{limit_in}
use Rattle.rows.proofs.GroupLaws.{groups_last, groups_on, shorter, ten_at_most}
use Rattle.rows.specs.Layouts.{spell}
use Rattle.rows.proofs.LayoutLaws.{spell_append, small_append}
use Rattle.rows.specs.Puts.{Put, PutRow}
use Rattle.rows.specs.PutLaws.{Putting}

-- ---- items copied

-- one more of t stands at the start
pub copy_on : {X : Type 0} (t before now : List X) (i : ℕ) (x : X) → now ≡ take i t ++ drop i before → length t ≤ length before → i < length t → x ≡ get_or t i x → set now i x ≡ take (i + 1) t ++ drop (i + 1) before
copy_on t before now i x e l h f = set_split now i x room ∙ rw (front, behind, add-one i, take-suc t i x h, ← f) (sym (append_assoc (take i t) (x ∷ []) (drop (suc i) before)))
  where
    count : length (take i t) ≡ i
    count = length-take-le i t (omega arith)

    room : i < length now
    room = rw (e, length-append, count, length-drop) (omega arith)

    front : take i now ≡ take i t
    front = rw e (take_at (take i t) (drop i before) i count)

    behind : drop (suc i) now ≡ drop (suc i) before
    behind = rw (← (add-one i)) (sym (drop-drop 1 i now) ∙ ap (drop 1) off ∙ drop-drop 1 i before)
      where
        off : drop i now ≡ drop i before
        off = rw e (drop_at (take i t) (drop i before) i count)

pub copy_done : {X : Type 0} (t before now : List X) (i : ℕ) → now ≡ take i t ++ drop i before → length t ≤ i → i ≤ length t → now ≡ t ++ drop (length t) before
copy_done t before now i e h l = e ∙ rw (take_all i t h) (ap (λ (j : ℕ). t ++ drop j before) (omega arith))

-- ---- bytes

pub put_nothing : (a : List ℕ) (at : ℕ) → at ≤ length a → Put a at [] a at
put_nothing a at h = record { ends = omega arith; within = h; is = sym (take-append-drop at a) }

pub put_one : (a : List ℕ) (at b : ℕ) → at < length a → Put a at (b ∷ []) (set a at b) (at + 1)
put_one a at b h = record { ends = refl; within = omega arith; is = rw (add-one at) (set_split a at b h) }

module _ {a b : List ℕ} {at p : ℕ} {t : List ℕ} (x : Put a at t b p) where
  pub put_length : length b ≡ length a
  put_length =
      let e = x.ends in
      let w = x.within in
      ap length x.is ∙ simp (length-append, length-drop) (let l = length-take-le at a (omega arith) in omega arith)

  -- up to p, and behind it
  front : length (take at a ++ t) ≡ p
  front = let e = x.ends in let w = x.within in length-append (take at a) t ∙ (let l = length-take-le at a (omega arith) in let z : length (take at a) + length t ≡ p = omega arith in z)

  regrouped : b ≡ (take at a ++ t) ++ drop p a
  regrouped = x.is ∙ sym (append_assoc (take at a) t (drop p a))

  pub put_front : take p b ≡ take at a ++ t
  put_front = rw regrouped (take_at (take at a ++ t) (drop p a) p front)

  pub put_behind : drop p b ≡ drop p a
  put_behind = ap (drop p) regrouped ∙ drop_at (take at a ++ t) (drop p a) p front

  -- nothing of it is left open
  pub put_fixed : {c : List ℕ} {q : ℕ} → Put a at t c q → b ≡ c
  put_fixed y = x.is ∙ ap (λ (k : ℕ). take at a ++ (t ++ drop k a)) (x.ends ∙ sym y.ends) ∙ sym y.is

  module _ {c : List ℕ} {u : List ℕ} {r : ℕ} (y : Put b p u c r) where
    further : r ≡ p + length u
    further = y.ends

    behind : drop r b ≡ drop r a
    behind = rw further (sym (drop-drop (length u) p b) ∙ ap (drop (length u)) put_behind ∙ drop-drop (length u) p a)

    pub put_both : Put a at (t ++ u) c r
    put_both =
        record {
          ends = rw length-append (let e = x.ends in let f = y.ends in omega arith);
          within = let l = put_length in let w = y.within in omega arith;
          is = y.is ∙ ap (λ (l : List ℕ). l ++ (u ++ drop r b)) put_front ∙ rw behind (append_assoc (take at a) t (u ++ drop r a) ∙ ap (λ (l : List ℕ). take at a ++ l) (sym (append_assoc t u (drop r a))));
        }

-- ---- a number

pub put_starts : (a : List ℕ) (at n : ℕ) → at + 10 ≤ length a → n < 2 ^ 64 → Putting a at n a n at
unfolding groups
put_starts a at n h l = record { done = []; left = 9; room = h; count = refl; holds = l; is = refl; put = put_nothing a at (omega arith) }

module _ {a : List ℕ} {at n : ℕ} {b : List ℕ} {m p : ℕ} (g : Putting a at n b m p) where
  room_left : p < length b
  room_left = let l = put_length g.put in let c = g.count in let r = g.room in omega arith

  pub put_last : m < 128 → Put a at (groups n) (set b p m) (p + 1)
  put_last h = rw (g.is ∙ ap (λ (l : List ℕ). g.done ++ l) (last g.left m h g.holds)) (put_both g.put (put_one b p m room_left))
    where
      last : (k m : ℕ) → m < 128 → m < limit_in k → groups_in k m ≡ m ∷ []
      last zero m h l = refl
      last (suc k) m h l = groups_last k m h

  pub put_on : 128 ≤ m → Putting a at n (set b p (m % 128 + 128)) (m / 128) (p + 1)
  put_on h = go g.left refl
    where
      go : (k : ℕ) → g.left ≡ k → Putting a at n (set b p (m % 128 + 128)) (m / 128) (p + 1)
      go zero e = absurd (let z : m < limit_in 0 = rw e at g.holds in omega arith)
      go (suc k) e =
          let c = g.count in
          record {
            done = g.done ++ ((m % 128 + 128) ∷ []);
            left = k;
            room = g.room;
            count = omega arith;
            holds = shorter k m (rw e at g.holds);
            is = g.is ∙ rw (e, groups_on k m h) (sym (append_assoc g.done ((m % 128 + 128) ∷ []) (groups_in k (m / 128))));
            put = put_both g.put (put_one b p (m % 128 + 128) room_left);
          }

-- ---- rows

pub row_nothing : (a : List ℕ) (at : ℕ) → at ≤ length a → PutRow a at [] a at
unfolding spell
row_nothing a at h = record { put = put_nothing a at h; small = tt }

pub row_one : (a : List ℕ) (at n : ℕ) {b : List ℕ} {r : ℕ} → n < 2 ^ 64 → Put a at (groups n) b r → PutRow a at (n ∷ []) b r
unfolding spell
row_one a at n h x = record { put = rw append-nil x; small = (h, tt) }

pub number_near : (a : List ℕ) (at n : ℕ) {b : List ℕ} {r : ℕ} → Put a at (groups n) b r → r ≤ at + 10
number_near a at n x = let e = x.ends in let l = ten_at_most n in omega arith

pub row_both : {a b c : List ℕ} {at p r : ℕ} {l m : List ℕ} → PutRow a at l b p → PutRow b p m c r → PutRow a at (l ++ m) c r
row_both {l = l} {m = m} x y = record { put = rw (spell_append l m) (put_both x.put y.put); small = small_append l m x.small y.small }
