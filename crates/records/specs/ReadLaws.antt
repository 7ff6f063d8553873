-- Doubles as they are read. Definitions only.
use Prim.Native.Nat.{ℕ, ◌-◌, ◌≤◌}
use Rattle.std.specs.Prelude.{List, ◌++◌, ◌≡◌, length, take, Float}
use Rattle.rows.specs.Layouts.{Layout, Goes}
use Rattle.records.specs.Records.{doubles}
use Rattle.records.specs.declared.Record.{Record}

-- i of k doubles are read into the front of a, and p is where they end
pub record Filling (k : ℕ) (s : List ℕ) (at : ℕ) (a : List Float) (p i : ℕ) : Type 0 where
  pub within : p ≤ length s
  pub count : i ≤ k
  pub room : length a ≡ k
  pub goes : (next : List Float → Layout Record) → Goes (doubles k next) s at (doubles (k - i) (λ rest. next (take i a ++ rest))) p
