-- How a playback goes on over the bytes, record by record.
use Prim.Native.Nat.{ℕ, zero, suc, ◌+◌, ◌-◌, ◌≤◌, ◌<◌}
use Rattle.std.proofs.Common.{arith, ◌∙◌, drop-drop}
use Rattle.std.specs.Prelude.{◌≡◌, drop, Option, None, Some, Result, Ok, Err}
use mathlib.Core.List.{List, [], ◌∷◌}
use mathlib.Core.Logic.{◌⊎◌, inl, inr}
use Rattle.std.proofs.Math.Path.{refl, ap, sym}
use Rattle.std.proofs.Math.ListN.{length, length-drop}
use Rattle.simple_convergency.specs.Stop.{most_coefficients}
use Rattle.records.specs.Records.{reading_of}
use Rattle.records.proofs.PrefixLaws.{bytes_hold, refused_eleven}
use Rattle.records.specs.ReadingLaws.{tail}
use Rattle.records.proofs.ReadingLaws.{tail_is, read_length, read_within, read_few}
use Rattle.records.specs.declared.Reading.{Reading}
use Rattle.records.specs.declared.Refusal.{Refusal}
use Rattle.records.specs.declared.Refusal.TheVariants.{NoRecord}
use Rattle.playback.specs.Playback.{field_at, field_number, difference_in, compared_in, Series, none, led, onward, series_within, series_in, settled, verdict_over, played_from, played_back}
use Rattle.playback.specs.declared.Field.{Field}
use Rattle.playback.specs.declared.Difference.{Difference}
use Rattle.playback.specs.declared.Playback.{Playback}
use Rattle.playback.specs.declared.Playback.TheVariants as playback
use Rattle.playback.specs.PlaybackLaws.{Playing}

-- ---- field by field

-- a field's number is its place in record order, from 1 on
pub numbered_in_order : (place : ℕ) → place < 8 → field_number (field_at place) ≡ place + 1
numbered_in_order zero h = refl
numbered_in_order (suc zero) h = refl
numbered_in_order (suc (suc zero)) h = refl
numbered_in_order (suc (suc (suc zero))) h = refl
numbered_in_order (suc (suc (suc (suc zero)))) h = refl
numbered_in_order (suc (suc (suc (suc (suc zero))))) h = refl
numbered_in_order (suc (suc (suc (suc (suc (suc zero)))))) h = refl
numbered_in_order (suc (suc (suc (suc (suc (suc (suc zero))))))) h = refl
numbered_in_order (suc (suc (suc (suc (suc (suc (suc (suc n)))))))) h = absurd (omega arith)

-- where one of the three lists is at its end nothing differs any more
pub none_left : (fields : List Field) (recorded present : List ℕ) → (length fields ≡ 0) ⊎ ((length recorded ≡ 0) ⊎ (length present ≡ 0)) → None ≡ difference_in fields recorded present
none_left [] recorded present e = refl
none_left (f ∷ fields) [] present e = refl
none_left (f ∷ fields) (m ∷ recorded) [] e = refl
none_left (f ∷ fields) (m ∷ recorded) (n ∷ present) (inl e) = absurd (omega (arith, e))
none_left (f ∷ fields) (m ∷ recorded) (n ∷ present) (inr (inl e)) = absurd (omega (arith, e))
none_left (f ∷ fields) (m ∷ recorded) (n ∷ present) (inr (inr e)) = absurd (omega (arith, e))

-- ---- the records in bytes

-- more room for records than bytes changes nothing
module _ where
  by_reading : (bytes : List ℕ) (f g : Reading → Series) → ((r : Reading) → reading_of bytes ≡ Ok r → f r ≡ g r) → onward bytes (reading_of bytes) f ≡ onward bytes (reading_of bytes) g
  by_reading bytes f g h = go (reading_of bytes) refl
    where
      go : (v : Result Reading Refusal) → reading_of bytes ≡ v → onward bytes v f ≡ onward bytes v g
      go (Ok r) e = h r e
      go (Err refusal) e = refl

  nothing_read : (bytes : List ℕ) (f : Reading → Series) → length bytes ≤ 0 → none bytes ≡ onward bytes (reading_of bytes) f
  nothing_read bytes f h = go (reading_of bytes) refl
    where
      go : (v : Result Reading Refusal) → reading_of bytes ≡ v → none bytes ≡ onward bytes v f
      go (Ok r) e = absurd (let z = (bytes_hold bytes e).1.some in let y = read_within bytes e in omega arith)
      go (Err refusal) e = refl

  enough : (j k : ℕ) (bytes : List ℕ) → length bytes ≤ j → length bytes ≤ k → series_within j bytes ≡ series_within k bytes
  unfolding series_within
  enough zero zero bytes a b = refl
  enough zero (suc k) bytes a b = nothing_read bytes _ a
  enough (suc j) zero bytes a b = sym (nothing_read bytes _ b)
  enough (suc j) (suc k) bytes a b =
      by_reading bytes _ _
      (λ r e. ap (led r.content) (enough j k (drop r.length bytes) (shorter r e j a) (shorter r e k b)))
    where
      shorter : (r : Reading) → reading_of bytes ≡ Ok r → (k : ℕ) → length bytes ≤ suc k → length (drop r.length bytes) ≤ k
      shorter r e k h = rw length-drop (let z = (bytes_hold bytes e).1.some in omega arith)

  one_more : (bytes : List ℕ) {v : Result Reading Refusal} → reading_of bytes ≡ v → series_in bytes ≡ onward bytes v (λ r. led r.content (series_within (length bytes) (drop r.length bytes)))
  unfolding series_in series_within
  one_more bytes e =
      enough (length bytes) (suc (length bytes)) bytes (omega arith) (omega arith)
      ∙ ap (λ (v : Result Reading Refusal). onward bytes v (λ r. led r.content (series_within (length bytes) (drop r.length bytes)))) e

-- the record at the start, and then those behind it
pub series_first : (bytes : List ℕ) {r : Reading} → reading_of bytes ≡ Ok r → series_in bytes ≡ led r.content (series_in (drop r.length bytes))
unfolding series_in
series_first bytes {r} e = one_more bytes e ∙ ap (led r.content) (enough (length bytes) (length (drop r.length bytes)) (drop r.length bytes) (rw length-drop (omega arith)) (omega arith))

pub series_none : (bytes : List ℕ) {refusal : Refusal} → reading_of bytes ≡ Err refusal → series_in bytes ≡ none bytes
series_none bytes e = one_more bytes e

-- ---- the verdict, record by record

module _ (count offset : ℕ) (bytes : List ℕ) where
  pub played_none : length bytes ≤ 0 → played_from count offset bytes ≡ playback.Agree count
  unfolding played_from series_in series_within
  played_none h = go bytes h
    where
      go : (bytes : List ℕ) → length bytes ≤ 0 → played_from count offset bytes ≡ playback.Agree count
      go [] h = refl
      go (b ∷ bytes) h = absurd (omega arith)

  pub played_refused : {refusal : Refusal} → 0 < length bytes → reading_of bytes ≡ Err refusal → played_from count offset bytes ≡ playback.Refused NoRecord count offset
  unfolding played_from
  played_refused h e = ap (λ (s : Series). verdict_over count offset s.records s.behind) (series_none bytes e) ∙ go bytes h
    where
      go : (bytes : List ℕ) → 0 < length bytes → verdict_over count offset [] bytes ≡ playback.Refused NoRecord count offset
      go [] h = absurd (omega arith)
      go (b ∷ bytes) h = refl

  module _ {r : Reading} (e : reading_of bytes ≡ Ok r) where
    one_played : played_from count offset bytes ≡ settled count offset (compared_in r.content) (played_from (count + 1) (offset + r.length) (drop r.length bytes))
    unfolding played_from
    one_played =
        ap (λ (s : Series). verdict_over count offset s.records s.behind) (series_first bytes e)
        ∙ ap (λ (k : ℕ). settled count offset (compared_in r.content) (verdict_over (count + 1) (offset + k) (series_in (drop r.length bytes)).records (series_in (drop r.length bytes)).behind)) (read_length bytes e)

    pub played_differs : {d : Difference} → compared_in r.content ≡ Some d → played_from count offset bytes ≡ playback.Differs count offset d
    played_differs q = one_played ∙ ap (λ (c : Option Difference). settled count offset c (played_from (count + 1) (offset + r.length) (drop r.length bytes))) q

    pub played_on : compared_in r.content ≡ None → played_from count offset bytes ≡ played_from (count + 1) (offset + r.length) (drop r.length bytes)
    played_on q = one_played ∙ ap (λ (c : Option Difference). settled count offset c (played_from (count + 1) (offset + r.length) (drop r.length bytes))) q

-- ---- what holds of every verdict

-- record by record: what holds where no bytes are left, where the record at the start is refused or differs, and where it agrees and the same holds behind it
module _ (P : ℕ → ℕ → List ℕ → Playback → Type 0)
    (none_left : (c k : ℕ) (s : List ℕ) → length s ≤ 0 → P c k s (played_from c k s))
    (is_refused : (c k : ℕ) (s : List ℕ) (refusal : Refusal) → 0 < length s → reading_of s ≡ Err refusal → P c k s (played_from c k s))
    (one-differs : (c k : ℕ) (s : List ℕ) (r : Reading) → reading_of s ≡ Ok r → (d : Difference) → compared_in r.content ≡ Some d → P c k s (played_from c k s))
    (one-agrees : (c k : ℕ) (s : List ℕ) (r : Reading) → reading_of s ≡ Ok r → compared_in r.content ≡ None → P (c + 1) (k + r.length) (drop r.length s) (played_from (c + 1) (k + r.length) (drop r.length s)) → P c k s (played_from c k s)) where
  by_first : (c k : ℕ) (s : List ℕ) → 0 < length s → ((n : ℕ) → 0 < n → P (c + 1) (k + n) (drop n s) (played_from (c + 1) (k + n) (drop n s))) → P c k s (played_from c k s)
  by_first c k s h later = go (reading_of s) refl
    where
      go : (v : Result Reading Refusal) → reading_of s ≡ v → P c k s (played_from c k s)
      go (Err refusal) e = is_refused c k s refusal h e
      go (Ok r) e = by (compared_in r.content) refl
        where
          by : (x : Option Difference) → compared_in r.content ≡ x → P c k s (played_from c k s)
          by None q = one-agrees c k s r e q (later r.length (bytes_hold s e).1.some)
          by (Some d) q = one-differs c k s r e d q

  by_records_within : (m c k : ℕ) (s : List ℕ) → length s ≤ m → P c k s (played_from c k s)
  by_records_within zero c k s h = none_left c k s h
  by_records_within (suc m) c k [] h = none_left c k [] (omega arith)
  by_records_within (suc m) c k (b ∷ s) h = by_first c k (b ∷ s) (omega arith) (λ n p. by_records_within m (c + 1) (k + n) (drop n (b ∷ s)) (rw length-drop (omega arith)))

  pub by_records : (c k : ℕ) (s : List ℕ) → P c k s (played_from c k s)
  by_records c k s = by_records_within (length s) c k s (omega arith)

-- ---- what the loop keeps

pub play_starts : (bytes : List ℕ) → Playing bytes 0 0
play_starts bytes = record { within = omega arith; few = omega arith; is = refl }

module _ {bytes : List ℕ} {records at : ℕ} (g : Playing bytes records at) (h : at < length bytes) {v : Result Reading Refusal} (e : v ≡ reading_of (tail bytes at)) where
  here : v ≡ reading_of (drop at bytes)
  here = rw (tail_is bytes at) at e

  pub play_refused : {refusal : Refusal} → v ≡ Err refusal → playback.Refused refusal records at ≡ played_back bytes
  play_refused {refusal} q =
      let there : reading_of (drop at bytes) ≡ Err refusal = sym here ∙ q in
      ap (λ (k : Refusal). playback.Refused k records at) (refused_eleven (drop at bytes) there) ∙ sym (played_refused records at (drop at bytes) (rw length-drop (omega arith)) there) ∙ g.is

  module _ {r : Reading} (q : v ≡ Ok r) where
    right : reading_of (drop at bytes) ≡ Ok r
    right = sym here ∙ q

    pub play_few : r.content.count ≤ most_coefficients
    play_few = read_few (drop at bytes) right

    pub play_within : at + r.length ≤ length bytes
    play_within = let z = read_within (drop at bytes) right in let l = length-drop at bytes in omega arith

    -- it is no larger than the bytes' count, which fits its type
    pub play_fits : {most : ℕ} → length bytes < most → at + r.length < most
    play_fits l = let w = play_within in omega arith

    some : 0 < r.length
    some = (bytes_hold (drop at bytes) right).1.some

    pub play_less : length bytes - (at + r.length) < length bytes - at
    play_less = let z = some in let w = play_within in omega arith

    module _ {c : Option Difference} (k : c ≡ compared_in r.content) where
      pub play_differs : {d : Difference} → c ≡ Some d → playback.Differs records at d ≡ played_back bytes
      play_differs p = sym (played_differs records at (drop at bytes) right (sym k ∙ p)) ∙ g.is

      pub play_on : c ≡ None → Playing bytes (records + 1) (at + r.length)
      play_on p =
          record {
            within = play_within;
            few = let z = some in let w = g.few in omega arith;
            is = ap (played_from (records + 1) (at + r.length)) (sym (drop-drop r.length at bytes)) ∙ sym (played_on records at (drop at bytes) right (sym k ∙ p)) ∙ g.is;
          }

pub play_ends : {bytes : List ℕ} {records at : ℕ} → Playing bytes records at → length bytes ≤ at → playback.Agree records ≡ played_back bytes
play_ends {bytes} {records} {at} g h = sym (played_none records at (drop at bytes) (rw length-drop (omega arith))) ∙ g.is
