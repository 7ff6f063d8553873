-- What follows a record does not change it, and what is no record within as many bytes as the longest has is none whatever follows.
use Rattle.std.specs.Prelude.{ℕ, ◌+◌, ◌-◌, ◌/◌, ◌%◌, ◌≤◌, ◌<◌, Bool, true, false, cond, ltb, Ok, Err}
use native.Mathlib.Omega.{arith}
use mathlib.Core.List.{List, [], ◌∷◌, ◌++◌, append_assoc}
use Rattle.std.proofs.Math.Path.{◌≡◌, refl, sym, ap}
use Rattle.std.proofs.Common.{◌∙◌, subst, take-append-drop}
use Rattle.std.proofs.Math.ListN.{length, take, drop, length-append}
use Rattle.std.proofs.lemmas.List.{take-append-le}
use Rattle.std.proofs.Math.Seq.{take-append_seam}
use Rattle.rows.specs.Groups.{groups, groups_in}
use Rattle.rows.specs.Layouts.{Layout, number, spell, Read, held, wrong, read, Row, and_then}
use Rattle.rows.proofs.LayoutLaws.{row_fits, row_back, row_only, none_right}
use Rattle.records.specs.Records.{headed, record_layout, longest_record, told, reading_of}
use Rattle.records.proofs.BackLaws.{at_most_longest}
use Rattle.records.specs.declared.Record.{Record}
use Rattle.records.specs.declared.Reading.{Reading}
use Rattle.records.specs.declared.Refusal.{Refusal}
use Rattle.records.specs.declared.Refusal.TheVariants.{NoRecord}
use Rattle.records.specs.PrefixLaws.{Holds}

-- ---- a record has a byte at least

some_groups : (n : ℕ) → 0 < length (groups n)
unfolding groups
some_groups n = go (ltb n 128)
  where
    go : (b : Bool) → 0 < length (cond b (n ∷ []) ((n % 128 + 128) ∷ groups_in 8 (n / 128)))
    go true = omega arith
    go false = omega arith

some_bytes : {A : Type 0} {ok : ℕ → Bool} {next : ℕ → Layout A} {l : List ℕ} {x : A} → Row (number ok next) l x → 0 < length (spell l)
unfolding spell
some_bytes (and_then {n = n} {row = row} small right later) = rw (length-append (groups n) (spell row)) (let p = some_groups n in omega arith)

record_some : (l : List ℕ) (x : Record) → Row record_layout l x → 0 < length (spell l)
unfolding record_layout headed
record_some l x r = some_bytes r

-- ---- what a reading tells of the bytes

module _ (s : List ℕ) where
  pub bytes_hold : {r : Reading} → reading_of s ≡ Ok r → (t : List ℕ) × Holds s r t
  unfolding reading_of
  bytes_hold {r} e = go (read record_layout s) refl e
    where
      go : (f : Read Record) → read record_layout s ≡ f → told (length s) f ≡ Ok r → (t : List ℕ) × Holds s r t
      go wrong q z = absurd (let y : ◌≡◌ {A = ℕ} 0 1 = cc in omega arith)
      go (held o t) q z =
          let y : record { length = length s - length t; content = o } ≡ r = cc in
          let w = row_only record_layout s o t q in
          let l = ap length w.is ∙ length-append (spell w.numbers) t in
          let m = record_some w.numbers o w.row in
          (t, subst (λ (r : Reading). Holds s r t) y (record { is = q; count = omega arith; some = omega arith }))

  module _ {refusal : Refusal} where
    pub refused_wrong : reading_of s ≡ Err refusal → read record_layout s ≡ wrong
    unfolding reading_of
    refused_wrong e = go (read record_layout s) refl e
      where
        go : (f : Read Record) → read record_layout s ≡ f → told (length s) f ≡ Err refusal → read record_layout s ≡ wrong
        go wrong q z = q
        go (held o t) q z = absurd (let y : ◌≡◌ {A = ℕ} 0 1 = cc in omega arith)

    pub refused_eleven : reading_of s ≡ Err refusal → refusal ≡ NoRecord
    unfolding reading_of
    refused_eleven e = go (read record_layout s) e
      where
        go : (f : Read Record) → told (length s) f ≡ Err refusal → refusal ≡ NoRecord
        go wrong z = cc
        go (held o t) z = absurd (let y : ◌≡◌ {A = ℕ} 0 1 = cc in omega arith)

-- ---- more bytes

module _ (s u : List ℕ) where
  -- a record stays the same
  pub record_stays : {r : Reading} → reading_of s ≡ Ok r → reading_of (s ++ u) ≡ Ok r
  unfolding reading_of
  record_stays {r} e = ap (told (length (s ++ u))) longer ∙ ap (λ (k : ℕ). Ok (record { length = k; content = r.content })) count
    where
      h : (t : List ℕ) × Holds s r t
      h = bytes_hold s e

      longer : read record_layout (s ++ u) ≡ held r.content (h.0 ++ u)
      longer =
          let w = row_only record_layout s r.content h.0 h.1.is in
          ap (λ (l : List ℕ). read record_layout (l ++ u)) w.is ∙ rw (append_assoc (spell w.numbers) h.0 u) (row_back w.row (h.0 ++ u))

      count : length (s ++ u) - length (h.0 ++ u) ≡ r.length
      count = rw (length-append s u, length-append h.0 u) (let c = h.1.count in omega arith)

  -- what is refused with as many bytes at hand as the longest record has stays refused
  pub refusal_stays : {refusal : Refusal} → longest_record ≤ length s → reading_of s ≡ Err refusal → reading_of (s ++ u) ≡ Err NoRecord
  unfolding reading_of
  refusal_stays h e = go (read record_layout (s ++ u)) refl
    where
      go : (f : Read Record) → read record_layout (s ++ u) ≡ f → told (length (s ++ u)) f ≡ Err NoRecord
      go wrong q = refl
      go (held o t) q =
          let w = row_only record_layout (s ++ u) o t q in
          let m = at_most_longest w.row in
          let front : take (length (spell w.numbers)) s ≡ spell w.numbers = sym (take-append-le (length (spell w.numbers)) s u (omega arith)) ∙ ap (take (length (spell w.numbers))) w.is ∙ take-append_seam (spell w.numbers) t in
          let split : s ≡ spell w.numbers ++ drop (length (spell w.numbers)) s = sym (take-append-drop (length (spell w.numbers)) s) ∙ ap (λ (l : List ℕ). l ++ drop (length (spell w.numbers)) s) front in
          absurd (none_right record_layout s (refused_wrong s e) w.numbers (drop (length (spell w.numbers)) s) (row_fits w.row) split)
