-- The lines of an input of records. Definitions only.
use Rattle.std.specs.Prelude.{ℕ, ◌+◌, ◌≤◌, ◌<◌, List, [], ◌++◌, ◌≡◌, length, take, drop, Option, Some, None, Ok, Err}
use Rattle.records.specs.Records.{longest_record, reading_of}
use Rattle.records.specs.declared.Reading.{Reading}
use Rattle.records.specs.declared.Refusal.TheVariants.{NoRecord}
use Rattle.line_text.specs.Texts.{Put}
use Rattle.record_text.specs.RecordTexts.{record_text, refused_text}
use Rattle.show.specs.declared.Pause.{Pause}

-- a line for each record, and a last one where the rest is none
pub data Shows : List ℕ → List ℕ → Type 0 where
  nothing : Shows [] []
  line : {s : List ℕ} {r : Reading} {text : List ℕ} → reading_of s ≡ Ok r → Shows (drop r.length s) text → Shows s (record_text r.length r.content ++ text)
  refused : {s : List ℕ} → 0 < length s → reading_of s ≡ Err NoRecord → Shows s (refused_text 11)

-- Whatever u the input goes on with, the text is that of the input from an index on up to the next one; and where the rest
-- was refused it is all, if as many bytes as the longest record has were at hand or none follow.
abbrev pub Told : List ℕ → ℕ → ℕ → List ℕ → Option ℕ → Type 0
Told block from least text (Some next) = (from < next) × (next ≤ length block) × ((u t : List ℕ) → Shows (drop next block ++ u) t → Shows (drop from block ++ u) (text ++ t))
Told block from least text None = (u : List ℕ) → (least < longest_record → u ≡ []) → Shows (drop from block ++ u) text

-- The lines of a block from an index on were put into the buffer.
pub record Filled (block : List ℕ) (from least : ℕ) (out now : List ℕ) (r : Pause) : Type 0 where
  pub room : r.waiting ≤ length out
  pub text : List ℕ
  pub put : Put out 0 text now r.waiting
  pub told : Told block from least text r.next

-- so many bytes are kept at the front, the last ones of those given
abbrev pub Keeps : List ℕ → List ℕ → ℕ → Type 0
Keeps given block kept = (at : ℕ) × (at + kept ≡ length given) × (take kept block ≡ drop at given)
