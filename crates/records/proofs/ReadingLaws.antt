-- What was read is a record by its own row, with its bytes and its length; and what can be recorded reads back from its bytes.
use Rattle.std.specs.Prelude.{ℕ, ◌-◌, ◌≤◌, true, List, ◌++◌, ◌≡◌, drop, Ok}
use native.Mathlib.Omega.{arith}
use Rattle.std.proofs.Math.Path.{ap}
use Rattle.std.proofs.Common.{sym, ◌∙◌, subst, length-drop, drop_at, take_all}
use Rattle.std.proofs.Math.ListN.{length, length-append}
use Rattle.simple_convergency.specs.Stop.{most_coefficients}
use Rattle.rows.specs.Layouts.{spell, held, read, Row}
use Rattle.rows.specs.LayoutLaws.{Written}
use Rattle.rows.proofs.LayoutLaws.{row_fits, fits_row, row_only, row_back}
use Rattle.records.specs.Records.{row_of, record_layout, recordable, bytes_of, told, reading_of}
use Rattle.records.specs.RoundLaws.{Sound, trimmed}
use Rattle.records.proofs.RoundLaws.{most, row_right, recordable_parts, parts_recordable}
use Rattle.records.proofs.BackLaws as back
use Rattle.records.specs.PrefixLaws.{Holds}
use Rattle.records.proofs.PrefixLaws.{bytes_hold}
use Rattle.records.specs.declared.Record.{Record}
use Rattle.records.specs.declared.Reading.{Reading}
use Rattle.records.specs.ReadingLaws.{tail}

-- ---- what the layout held

module _ (s : List ℕ) (o : Record) (t : List ℕ) (e : read record_layout s ≡ held o t) where
  as_written : Written record_layout s o t
  as_written = row_only record_layout s o t e

  own_row : row_of o ≡ as_written.numbers
  own_row = back.row_back as_written.row

  pub own_right : Row record_layout (row_of o) o
  own_right = subst (λ (l : List ℕ). Row record_layout l o) (sym own_row) as_written.row

  pub own_bytes : s ≡ bytes_of o ++ t
  own_bytes = as_written.is ∙ ap (λ (l : List ℕ). spell l ++ t) (sym own_row)

  pub own_length : length s - length t ≡ length (bytes_of o)
  own_length = let a = ap length own_bytes ∙ length-append (bytes_of o) t in omega arith

  pub own_recordable : recordable o ≡ true
  own_recordable = parts_recordable o (back.row_both own_right) (row_fits own_right)

  pub own_sound : Sound o
  own_sound = back.row_sound own_right

-- ---- what was read

pub tail_is : (s : List ℕ) (at : ℕ) → tail s at ≡ drop at s
tail_is s at = take_all (length s - at) (drop at s) (let m = length-drop at s in omega arith)

module _ (s : List ℕ) {r : Reading} (e : reading_of s ≡ Ok r) where
  abbrev behind : List ℕ
  behind = (bytes_hold s e).0

  holds : Holds s r behind
  holds = (bytes_hold s e).1

  pub read_length : length (bytes_of r.content) ≡ r.length
  read_length = let a = own_length s _ behind holds.is in let b = holds.count in omega arith

  pub read_bytes : s ≡ bytes_of r.content ++ drop r.length s
  read_bytes = own ∙ ap (λ (l : List ℕ). bytes_of r.content ++ l) (sym rest)
    where
      own : s ≡ bytes_of r.content ++ behind
      own = own_bytes s _ behind holds.is

      rest : drop r.length s ≡ behind
      rest = ap (drop r.length) own ∙ drop_at (bytes_of r.content) behind r.length read_length

  pub read_within : r.length ≤ length s
  read_within = let b = holds.count in omega arith

  pub read_recordable : recordable r.content ≡ true
  read_recordable = own_recordable s _ behind holds.is

  pub read_sound : Sound r.content
  read_sound = own_sound s _ behind holds.is

  -- at most 16 coefficients
  pub read_few : r.content.count ≤ most_coefficients
  read_few = most 1 most_coefficients _ (row_right _ read_sound (recordable_parts _ read_recordable).0 (own_right s _ behind holds.is)).0.count

-- ---- what can be recorded

module _ (o : Record) (s : Sound o) (e : recordable o ≡ true) where
  pub recorded_right : Row record_layout (row_of o) (trimmed o)
  recorded_right =
      let p = recordable_parts o e in
      let r = fits_row record_layout (row_of o) p.1 in
      subst (Row record_layout (row_of o)) (sym (row_right o s p.0 r.1).1) r.1

  -- its bytes read back, whatever follows them: of the coefficients those that it counts
  pub recorded_reads : (t : List ℕ) → reading_of (bytes_of o ++ t) ≡ Ok (record { length = length (bytes_of o); content = trimmed o })
  unfolding reading_of
  recorded_reads t =
      ap (told (length (bytes_of o ++ t))) (row_back recorded_right t)
      ∙ ap (λ (n : ℕ). Ok (record { length = n; content = trimmed o })) (let a = length-append (bytes_of o) t in let z : length (bytes_of o ++ t) - length t ≡ length (bytes_of o) = omega arith in z)
