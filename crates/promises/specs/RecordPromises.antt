-- Request 2, records of searches: what is promised of writing and reading, of whatever the contracts of `write` and `read`, and of C's two calls, allow.
use Rattle.std.specs.Prelude.{ℕ, ◌≤◌, ◌<◌, ◌⊎◌, ◌↔◌, ◌≡◌, take, Result, Ok, Err}
use mathlib.Core.List.{List, ◌++◌}
use Rattle.std.proofs.Math.ListN.{length, drop}
use Rattle.records.specs.Records.{longest_record, bytes_of, refusal_number, written_to, left_by, blank, reading_of}
use Rattle.records.specs.RoundLaws.{Sound, trimmed}
use Rattle.records.specs.declared.Record.{Record}
use Rattle.records.specs.declared.Reading.{Reading}
use Rattle.records.specs.declared.Refusal.{Refusal}
use Rattle.records.specs.declared.Refusal.TheVariants.{NoRoom, NoRecord}
use Rattle.roots_c.specs.FlatRecords.{content_of}
use Rattle.promises.specs.RecordLaws.{Recordable}

-- ---- writing

-- what is promised of writing o into a buffer: its verdict, and what the buffer holds then
pub record Writes (o : Record) (before : List ℕ) (v : Result ℕ Refusal) (now : List ℕ) : Type 0 where
  -- 11 exactly when it cannot be recorded
  pub eleven_exactly : (v ≡ Err NoRecord) ↔ ¬ Recordable o
  -- 10 exactly when it can, and the room is less than its length
  pub ten_exactly : (v ≡ Err NoRoom) ↔ (Recordable o × (length before < length (bytes_of o)))
  -- and no other refusal
  pub ten_or_eleven : (refusal : Refusal) → v ≡ Err refusal → (refusal_number refusal ≡ 10) ⊎ (refusal_number refusal ≡ 11)
  -- either leaves the buffer as it was
  pub left_alone : (refusal : Refusal) → v ≡ Err refusal → now ≡ before
  -- what is written are the record's bytes, of the length told, and nothing behind them changes
  pub its_bytes : (n : ℕ) → v ≡ Ok n → take n now ≡ bytes_of o
  pub its_length : (n : ℕ) → v ≡ Ok n → n ≡ length (bytes_of o)
  pub none_behind : (n : ℕ) → v ≡ Ok n → drop n now ≡ drop n before
  -- reading gives it back, with the length written: of the coefficients those that it counts
  pub reads_back : (n : ℕ) → v ≡ Ok n → reading_of now ≡ Ok (record { length = n; content = trimmed o })
  -- no record is longer than the constant, and that many bytes always suffice
  pub no_longer : (n : ℕ) → v ≡ Ok n → n ≤ longest_record
  pub suffices : longest_record ≤ length before → ¬ (v ≡ Err NoRoom)

-- ---- reading

-- what is promised of reading bytes
pub record Reads (s : List ℕ) (v : Result Reading Refusal) : Type 0 where
  -- 11 exactly when the bytes of nothing that can be recorded stand at the start, and no other refusal; beside it all is zero
  pub eleven_exactly : (v ≡ Err NoRecord) ↔ ¬ ((o : Record) × (rest : List ℕ) × Sound o × Recordable o × (s ≡ bytes_of o ++ rest))
  pub only_eleven : (refusal : Refusal) → v ≡ Err refusal → refusal_number refusal ≡ 11
  pub all_zero : (refusal : Refusal) → v ≡ Err refusal → content_of v ≡ blank
  -- what was read can be recorded, and the bytes are its own, of the length told
  pub is_record : (r : Reading) → v ≡ Ok r → Sound r.content × Recordable r.content
  pub its_bytes : (r : Reading) → v ≡ Ok r → take r.length s ≡ bytes_of r.content
  pub its_length : (r : Reading) → v ≡ Ok r → r.length ≡ length (bytes_of r.content)
  -- no byte behind the record is looked at
  pub none_behind : (r : Reading) → v ≡ Ok r → (t : List ℕ) → reading_of (take r.length s ++ t) ≡ v
  -- it is written back as the same bytes
  pub writes_back : (r : Reading) → v ≡ Ok r → (before : List ℕ) → r.length ≤ length before → (written_to r.content (length before) ≡ Ok r.length) × (left_by r.content before (Ok r.length) ≡ take r.length s ++ drop r.length before)
  pub no_longer : (r : Reading) → v ≡ Ok r → r.length ≤ longest_record
