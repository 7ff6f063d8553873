-- How a playback goes from block to block. Definitions only.
use Rattle.std.specs.Prelude.{ℕ, ◌+◌, ◌-◌, ◌^◌, ◌≤◌, ◌<◌, Bool, true, false, cond, List, [], ◌++◌, ◌≡◌, ltb, length, take, drop}
use Rattle.std.specs.declared.ops.ControlFlow.{ControlFlow}
use Rattle.std.specs.declared.ops.ControlFlow.TheVariants.{Break, Continue}
use Rattle.records.specs.Records.{longest_record}
use Rattle.playback.specs.Playback.{played_from}
use Rattle.playback.specs.declared.Playback.{Playback}
use Rattle.playback.specs.declared.Playback.TheVariants.{Agree, Differs, Refused}
use Rattle.replay.specs.declared.Block.{Block}
use Rattle.replay.specs.declared.Reached.{Reached}
use Rattle.replay.specs.declared.Rest.{Rest}

-- ---- what a block's verdict says

-- the counts of a verdict over a block of so many bytes
abbrev pub Within : ℕ → Playback → Type 0
Within long (Agree n) = n ≤ long
Within long (Differs n at d) = (n ≤ long) × (at ≤ long)
Within long (Refused k n at) = (n ≤ long) × (at < long)

-- there is room to add them
abbrev pub Room : ℕ → Reached → Type 0
Room long reached = (reached.records + long < 2 ^ 64) × (reached.offset + long < 2 ^ 64)

-- there is room to add those of this verdict
abbrev pub Fits : Playback → Reached → Type 0
Fits (Agree n) reached = reached.records + n < 2 ^ 64
Fits (Differs n at d) reached = (reached.records + n < 2 ^ 64) × (reached.offset + at < 2 ^ 64)
Fits (Refused k n at) reached = (reached.records + n < 2 ^ 64) × (reached.offset + at < 2 ^ 64)

abbrev pub reached_at : ℕ → ℕ → Reached
reached_at records offset = record { records = records; offset = offset }

-- where others may follow: a record that was refused may be cut off by the block's end, if fewer bytes than the longest record has are at hand
abbrev pub course_of : Playback → ℕ → Reached → ControlFlow Playback Rest
course_of (Agree n) long reached = Continue (record { at = long; reached = reached_at (reached.records + n) (reached.offset + long) })
course_of (Differs n at d) long reached = Break (Differs (reached.records + n) (reached.offset + at) d)
course_of (Refused k n at) long reached =
    cond (ltb (long - at) longest_record) (Continue (record { at = at; reached = reached_at (reached.records + n) (reached.offset + at) })) (Break (Refused k (reached.records + n) (reached.offset + at)))

-- ---- the input's verdict

-- it is the one told, whatever u follows the block, and none follows the last; or what is left is few bytes, and the input goes on with them
abbrev pub Goes : List ℕ → Bool → Reached → ControlFlow Playback Rest → Type 0
Goes block is_last reached (Break v) = (u : List ℕ) → (is_last ≡ true → u ≡ []) → played_from reached.records reached.offset (block ++ u) ≡ v
Goes block is_last reached (Continue rest) =
    (is_last ≡ false) × (rest.at ≤ length block) × (length block < rest.at + longest_record)
    × (rest.reached.records ≤ reached.records + length block) × (rest.reached.offset ≡ reached.offset + rest.at)
    × ((u : List ℕ) → played_from reached.records reached.offset (block ++ u) ≡ played_from rest.reached.records rest.reached.offset (drop rest.at block ++ u))

-- a playback that goes on has reached what a course says, and the bytes that are left of those given stand at the front
abbrev pub Follows : List ℕ → Reached → Block → Type 0
Follows given reached b = (at : ℕ) × Goes given false reached (Continue (record { at = at; reached = b.reached })) × (take b.kept b.bytes ≡ drop at given)

-- ---- how much there is

-- a block's bytes, and the most bytes that `main` reads: 2^46 blocks
abbrev pub block_length : ℕ
block_length = 65536

abbrev pub most_bytes_in_all : ℕ
most_bytes_in_all = 2 ^ 62

-- so many bytes and records were taken at the most
pub record Bounded (bytes records : ℕ) (b : Block) : Type 0 where
  pub most_bytes : b.reached.offset + b.kept ≤ bytes
  pub most_records : b.reached.records ≤ records
