-- A playback that goes on: what the verdict over some bytes says of the verdict over these and more.
use Rattle.std.specs.Prelude.{ℕ, ◌+◌, ◌-◌, ◌≤◌, ◌<◌, List, [], ◌∷◌, ◌++◌, Option, None, Some, Ok, Err, ◌≡◌, refl, length, drop}
use Rattle.std.proofs.Common.{add_assoc, add-zero, arith, ap, sym, ◌∙◌, subst, length-drop, length-append, drop-drop}
use Rattle.std.proofs.lemmas.List.{drop-append-le}
use Rattle.records.specs.Records.{bytes_of, reading_of}
use Rattle.records.proofs.PrefixLaws.{bytes_hold, record_stays, refusal_stays}
use Rattle.records.proofs.ReadingLaws.{read_within}
use Rattle.records.specs.declared.Record.{Record}
use Rattle.records.specs.declared.Reading.{Reading}
use Rattle.records.specs.declared.Refusal.{Refusal}
use Rattle.playback.specs.Playback.{compared_in, settled, verdict_over, series_in, played_from, played_back}
use Rattle.playback.proofs.PlaybackLaws.{played_none, played_refused, played_differs, played_on, by_records}
use Rattle.playback.specs.declared.Difference.{Difference}
use Rattle.playback.specs.declared.Playback.{Playback}
use Rattle.playback.specs.declared.Playback.TheVariants as playback
use Rattle.playback.specs.AheadLaws.{shifted, Ahead}

-- ---- behind other records

shift_over : (c o d p : ℕ) (rs : List Record) (b : List ℕ) → verdict_over (c + d) (o + p) rs b ≡ shifted c o (verdict_over d p rs b)
shift_over c o d p [] [] = refl
shift_over c o d p [] (x ∷ b) = refl
shift_over c o d p (r ∷ rs) b = go (shift_over c o (d + 1) (p + length (bytes_of r)) rs b) (compared_in r)
  where
    go :
        verdict_over (c + (d + 1)) (o + (p + length (bytes_of r))) rs b ≡ shifted c o (verdict_over (d + 1) (p + length (bytes_of r)) rs b) →
        (k : Option Difference) → settled (c + d) (o + p) k (verdict_over (c + d + 1) (o + p + length (bytes_of r)) rs b) ≡ shifted c o (settled d p k (verdict_over (d + 1) (p + length (bytes_of r)) rs b))
    go later None = rw (add_assoc c d 1, add_assoc o p (length (bytes_of r))) later
    go later (Some d) = refl

pub played_shifted : (count offset : ℕ) (s : List ℕ) → played_from count offset s ≡ shifted count offset (played_back s)
unfolding played_from
played_shifted count offset s = rw (add-zero count, add-zero offset) at (shift_over count offset 0 0 (series_in s).records (series_in s).behind)

-- ---- with more bytes behind

module _ (c o : ℕ) (s : List ℕ) where
  ahead_none : length s ≤ 0 → Ahead c o s (played_from c o s)
  ahead_none h = subst (Ahead c o s) (sym (played_none c o s h)) (omega arith, go s h)
    where
      go : (s : List ℕ) → length s ≤ 0 → (u : List ℕ) → played_from c o (s ++ u) ≡ played_from c (o + length s) u
      go [] h u = ap (λ (k : ℕ). played_from c k u) (sym (add-zero o))
      go (b ∷ s) h u = absurd (omega arith)

  ahead_refused : {k : Refusal} → 0 < length s → reading_of s ≡ Err k → Ahead c o s (played_from c o s)
  ahead_refused h e =
      subst (Ahead c o s) (sym (played_refused c o s h e)) (
        omega arith,
        omega arith,
        omega arith,
        λ u. ap (λ (k : ℕ). played_from c o (drop k s ++ u)) (let z : 0 ≡ o - o = omega arith in z),
        λ l u. played_refused c o (s ++ u) (rw (length-append s u) (omega arith)) (refusal_stays s u (omega (arith, l)) e),
      )

  module _ {r : Reading} (e : reading_of s ≡ Ok r) where
    stays : (u : List ℕ) → reading_of (s ++ u) ≡ Ok r
    stays u = record_stays s u e

    some : 0 < r.length
    some = (bytes_hold s e).1.some

    within : r.length ≤ length s
    within = read_within s e

    ahead_differs : {d : Difference} → compared_in r.content ≡ Some d → Ahead c o s (played_from c o s)
    ahead_differs q = subst (Ahead c o s) (sym (played_differs c o s e q)) (omega arith, omega arith, λ u. played_differs c o (s ++ u) (stays u) q)

    module _ (q : compared_in r.content ≡ None) where
      step : (u : List ℕ) → played_from c o (s ++ u) ≡ played_from (c + 1) (o + r.length) (drop r.length s ++ u)
      step u = played_on c o (s ++ u) (stays u) q ∙ ap (played_from (c + 1) (o + r.length)) (drop-append-le r.length s u within)

      rest : length (drop r.length s) ≡ length s - r.length
      rest = length-drop r.length s

      back : (v : Playback) → Ahead (c + 1) (o + r.length) (drop r.length s) v → Ahead c o s v
      back (playback.Agree m) (b, h) =
          let l = rest in let w = within in let p = some in
          (omega (arith, b, l, w, p), λ u. step u ∙ h u ∙ ap (λ (k : ℕ). played_from m k u) (let z : o + r.length + length (drop r.length s) ≡ o + length s = omega (arith, l, w) in z))
      back (playback.Differs m at d) (b, e, h) =
          let l = rest in let w = within in let p = some in
          (omega (arith, b, l, w, p), omega (arith, e, l, w), λ u. step u ∙ h u)
      back (playback.Refused k m at) (b, i, j, h, more) =
          let l = rest in let w = within in let p = some in
          let left : drop (at - (o + r.length)) (drop r.length s) ≡ drop (at - o) s = drop-drop (at - (o + r.length)) r.length s ∙ ap (λ (k : ℕ). drop k s) (let z : r.length + (at - (o + r.length)) ≡ at - o = omega (arith, i) in z) in (
            omega (arith, b, l, w, p),
            omega (arith, i),
            omega (arith, j, l, w),
            λ u. step u ∙ h u ∙ ap (λ (t : List ℕ). played_from m at (t ++ u)) left,
            λ long u. step u ∙ more (omega (arith, long, l, w, i)) u,
          )

      ahead_on : Ahead (c + 1) (o + r.length) (drop r.length s) (played_from (c + 1) (o + r.length) (drop r.length s)) → Ahead c o s (played_from c o s)
      ahead_on a = subst (Ahead c o s) (sym (played_on c o s e q)) (back (played_from (c + 1) (o + r.length) (drop r.length s)) a)

pub ahead : (c o : ℕ) (s : List ℕ) → Ahead c o s (played_from c o s)
ahead = by_records Ahead ahead_none (λ c o s n h e. ahead_refused c o s h e) (λ c o s n e d q. ahead_differs c o s e q) (λ c o s n e q a. ahead_on c o s e q a)
