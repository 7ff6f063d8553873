-- What was put into a draft. Definitions only.
use Rattle.std.specs.Prelude.{ℕ, ◌+◌, ◌≤◌, List}
use Rattle.rows.specs.Puts.{PutRow}
use Rattle.records.specs.declared.Draft.{Draft}

-- the numbers stand behind what stood there before, in `room` bytes at most
pub record Puts (room : ℕ) (row : List ℕ) (before now : Draft) : Type 0 where
  pub put : PutRow before.bytes before.length row now.bytes now.length
  pub near : now.length ≤ before.length + room
