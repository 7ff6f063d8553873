-- Why bytes spell no number. Definitions only.
use Rattle.std.specs.Prelude.{ℕ, suc, ◌≤◌, ◌<◌, List, [], ◌∷◌}

-- with up to k groups more
pub data Broken : ℕ → List ℕ → Type 0 where
  ends_early : {k : ℕ} → Broken k []
  eleventh : {b : ℕ} {s : List ℕ} → 128 ≤ b → Broken 0 (b ∷ s)
  passes : {b : ℕ} {s : List ℕ} → 2 ≤ b → b < 128 → Broken 0 (b ∷ s)
  needless : {k b : ℕ} {s : List ℕ} → 128 ≤ b → Broken (suc k) (b ∷ 0 ∷ s)
  no_byte : {k b : ℕ} {s : List ℕ} → 256 ≤ b → Broken (suc k) (b ∷ s)
  later : {k b : ℕ} {s : List ℕ} → 128 ≤ b → Broken k s → Broken (suc k) (b ∷ s)
