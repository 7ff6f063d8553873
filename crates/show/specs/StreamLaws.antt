-- The lines of a block, put one after the other.
use Rattle.std.specs.Prelude.{ℕ, zero, suc, ◌+◌, ◌-◌, ◌≤◌, ◌<◌, Bool, true, false, List, [], ◌∷◌, ◌++◌, ◌≡◌, refl, ltb, length, drop, Option, Some, None, Result, Ok, Err}
use Rattle.std.proofs.Common.{arith, append_assoc, append-nil, sym, ap, ◌∙◌, length-drop, length-append, drop-drop, ltb-true, ltb-false}
use Rattle.std.proofs.lemmas.List.{drop-append-le, take_rest}
use Rattle.records.specs.Records.{longest_record, reading_of}
use Rattle.records.specs.ReadingLaws.{tail}
use Rattle.records.specs.declared.Reading.{Reading}
use Rattle.records.specs.declared.Refusal.{Refusal}
use Rattle.records.specs.declared.Refusal.TheVariants.{NoRecord}
use Rattle.records.proofs.PrefixLaws.{bytes_hold, refused_eleven, record_stays, refusal_stays}
use Rattle.line_text.specs.Texts.{Put}
use Rattle.line_text.specs.TextLaws.{put_both}
use Rattle.record_text.specs.RecordTexts.{record_text, refused_text, reading_text, taken_by}
use Rattle.show.specs.Streams.{Shows, nothing, line, refused, Filled}

-- ---- one record

-- how many bytes were taken tells what was read
pub record Taken (s : List ℕ) (n : ℕ) : Type 0 where
  pub reading : Reading
  pub is : reading_of s ≡ Ok reading
  pub count : reading.length ≡ n

module _ (s : List ℕ) {taken : Option ℕ} (e : taken ≡ taken_by (reading_of s)) where
  taken_right : {n : ℕ} → taken ≡ Some n → Taken s n
  taken_right {n} h = go (reading_of s) refl (sym e ∙ h)
    where
      go : (f : Result Reading Refusal) → reading_of s ≡ f → taken_by f ≡ Some n → Taken s n
      go (Ok r) q z = record { reading = r; is = q; count = cc }
      go (Err refusal) q z = cc

  taken_wrong : taken ≡ None → reading_of s ≡ Err NoRecord
  taken_wrong h = go (reading_of s) refl (sym e ∙ h)
    where
      go : (f : Result Reading Refusal) → reading_of s ≡ f → taken_by f ≡ None → reading_of s ≡ Err NoRecord
      go (Ok r) q z = cc
      go (Err refusal) q z = q ∙ ap Err (refused_eleven s q)

-- ---- a block

-- the lines up to `at` are put, up to `waiting`
pub record Filling (block : List ℕ) (from : ℕ) (out now : List ℕ) (at waiting : ℕ) : Type 0 where
  pub begun : from ≤ at
  pub within : at ≤ length block
  pub text : List ℕ
  pub put : Put out 0 text now waiting
  pub on : (u t : List ℕ) → Shows (drop at block ++ u) t → Shows (drop from block ++ u) (text ++ t)

fill_ends : {block : List ℕ} {from : ℕ} {out now : List ℕ} {at waiting : ℕ} → Filling block from out now at waiting → (least : ℕ) → from < at → waiting ≤ length out → Filled block from least out now (record { waiting = waiting; next = Some at })
fill_ends g least h r = record { room = r; text = g.text; put = g.put; told = (h, g.within, g.on) }

-- the record at `at` was shown, or refused
module _ {block : List ℕ} {from : ℕ} {out now : List ℕ} {at waiting : ℕ} (g : Filling block from out now at waiting) {taken : Option ℕ} (e : taken ≡ taken_by (reading_of (tail block at))) {after : List ℕ} {p : ℕ} (x : Put now waiting (reading_text (reading_of (tail block at))) after p) where
  e' : taken ≡ taken_by (reading_of (drop at block))
  e' = rw (take_rest block at) at e

  x' : Put now waiting (reading_text (reading_of (drop at block))) after p
  x' = rw (take_rest block at) at x

  left : length (drop at block) ≡ length block - at
  left = length-drop at block

  module _ {n : ℕ} (z : taken ≡ Some n) where
    held : Taken (drop at block) n
    held = taken_right (drop at block) e' z

    pub taken_some : 0 < n
    taken_some = let h = (bytes_hold (drop at block) held.is).1 in let p = h.some in let c = held.count in omega arith

    within : n ≤ length (drop at block)
    within = let h = (bytes_hold (drop at block) held.is).1 in let p = h.count in let c = held.count in omega arith

    shows_on : (u t : List ℕ) → Shows (drop (at + n) block ++ u) t → Shows (drop at block ++ u) (record_text held.reading.length held.reading.content ++ t)
    shows_on u t s = line {text = t} (record_stays (drop at block) u held.is) (rw (held.count, rest) s)
      where
        rest : drop n (drop at block ++ u) ≡ drop (at + n) block ++ u
        rest = rw (drop-append-le n (drop at block) u within, drop-drop)

    pub fill_on : Filling block from out after (at + n) p
    fill_on =
        record {
          begun = let b = g.begun in omega arith;
          within = let w = g.within in let m = left in let k = within in omega arith;
          text = g.text ++ record_text held.reading.length held.reading.content;
          put = put_both g.put (rw held.is at x');
          on = λ u t s. rw append_assoc (g.on u (record_text held.reading.length held.reading.content ++ t) (shows_on u t s));
        }

    -- the buffer is full
    pub fill_full : (least : ℕ) → p ≤ length out → Filled block from least out after (record { waiting = p; next = Some (at + n) })
    fill_full least h = fill_ends fill_on least (let b = g.begun in let s = taken_some in omega arith) h

  pub fill_wrong : taken ≡ None → (least : ℕ) → 1 ≤ least → least ≤ length block - at → p ≤ length out → Filled block from least out after (record { waiting = p; next = None })
  fill_wrong q least a b h =
      record {
        room = h;
        text = g.text ++ refused_text 11;
        put = put_both g.put (rw is_refused at x');
        told = λ u f. g.on u (refused_text 11) (refused (some u) (stays u f));
      }
    where
      is_refused : reading_of (drop at block) ≡ Err NoRecord
      is_refused = taken_wrong (drop at block) e' q

      some : (u : List ℕ) → 0 < length (drop at block ++ u)
      some u = rw (length-append (drop at block) u) (let m = left in omega arith)

      stays : (u : List ℕ) → (least < longest_record → u ≡ []) → reading_of (drop at block ++ u) ≡ Err NoRecord
      stays u f = go (ltb least longest_record) refl
        where
          go : (b : Bool) → ltb least longest_record ≡ b → reading_of (drop at block ++ u) ≡ Err NoRecord
          go true y = rw (f (ltb-true least longest_record y), append-nil) is_refused
          go false y = refusal_stays (drop at block) u (let m = left in let k = ltb-false least longest_record y in omega arith) is_refused

-- ---- each input has one text

no_record : {r : Reading} → reading_of [] ≡ Ok r → ⊥
no_record e = let h = (bytes_hold [] e).1 in let p = h.some in let q = h.count in omega arith

pub shows_one : {s t u : List ℕ} → Shows s t → Shows s u → t ≡ u
shows_one nothing nothing = refl
shows_one nothing (line e y) = absurd (no_record e)
shows_one nothing (refused h f) = absurd (omega arith)
shows_one (line e x) nothing = absurd (no_record e)
shows_one {s} (line {r = r} {text = t} e x) (line {r = q} {text = u} f y) =
    ap (λ (r : Reading). record_text r.length r.content ++ t) same ∙ ap (λ (l : List ℕ). record_text q.length q.content ++ l) (shows_one (rw same at x) y)
  where
    same : r ≡ q
    same = cc
shows_one (line e x) (refused h f) = cc
shows_one (refused h e) nothing = absurd (omega arith)
shows_one (refused h e) (line f y) = cc
shows_one (refused h e) (refused i f) = refl

shows_next : (s : List ℕ) → ((n : ℕ) → 0 < n → (t : List ℕ) × Shows (drop n s) t) → (t : List ℕ) × Shows s t
shows_next [] on = ([], nothing)
shows_next (b ∷ s) on = go (reading_of (b ∷ s)) refl
  where
    go : (f : Result Reading Refusal) → reading_of (b ∷ s) ≡ f → (t : List ℕ) × Shows (b ∷ s) t
    go (Ok r) e = let n = on r.length (bytes_hold (b ∷ s) e).1.some in (record_text r.length r.content ++ n.0, line e n.1)
    go (Err refusal) e = (refused_text 11, refused {s = b ∷ s} (omega arith) (e ∙ ap Err (refused_eleven (b ∷ s) e)))

shows_empty : (s : List ℕ) → length s ≤ 0 → (t : List ℕ) × Shows s t
shows_empty [] h = ([], nothing)
shows_empty (b ∷ s) h = absurd (omega arith)

shows_within : (k : ℕ) (s : List ℕ) → length s ≤ k → (t : List ℕ) × Shows s t
shows_within zero s h = shows_empty s h
shows_within (suc k) s h = shows_next s (λ n p. shows_within k (drop n s) (rw length-drop (omega arith)))

pub shows_some : (s : List ℕ) → (t : List ℕ) × Shows s t
shows_some s = shows_within (length s) s (omega arith)
