-- A verdict behind records that were played before, and what it says of bytes to come. Definitions only.
use Rattle.std.specs.Prelude.{ℕ, ◌+◌, ◌-◌, ◌≤◌, ◌<◌, List, ◌++◌, ◌≡◌, length, drop}
use Rattle.records.specs.Records.{longest_record}
use Rattle.playback.specs.Playback.{played_from}
use Rattle.playback.specs.declared.Playback.{Playback}
use Rattle.playback.specs.declared.Playback.TheVariants as playback

-- `count` records of `offset` bytes stand before
abbrev pub shifted : ℕ → ℕ → Playback → Playback
shifted count offset (playback.Agree n) = playback.Agree (count + n)
shifted count offset (playback.Differs n at d) = playback.Differs (count + n) (offset + at) d
shifted count offset (playback.Refused k n at) = playback.Refused k (count + n) (offset + at)

-- behind c records of o bytes: whatever u follows, all of s agreed and u is next; the record that differs stays; and where a record was refused, it is played again
-- with what follows, unless as many bytes as the longest record has were at hand
abbrev pub Ahead : ℕ → ℕ → List ℕ → Playback → Type 0
Ahead c o s (playback.Agree n) = (n ≤ c + length s) × ((u : List ℕ) → played_from c o (s ++ u) ≡ played_from n (o + length s) u)
Ahead c o s (playback.Differs n at d) = (n ≤ c + length s) × (at ≤ o + length s) × ((u : List ℕ) → played_from c o (s ++ u) ≡ playback.Differs n at d)
Ahead c o s (playback.Refused k n at) =
    (n ≤ c + length s) × (o ≤ at) × (at < o + length s)
    × ((u : List ℕ) → played_from c o (s ++ u) ≡ played_from n at (drop (at - o) s ++ u))
    × (longest_record ≤ length s - (at - o) → (u : List ℕ) → played_from c o (s ++ u) ≡ playback.Refused k n at)
