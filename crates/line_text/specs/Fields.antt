-- The fields of a line: what stands between spaces. Definitions, and what the contract of `fields` says of a part of a line.
use Rattle.std.specs.Prelude.{ℕ, ◌-◌, ◌≤◌, not, List, ◌≡◌, eqb, length, take, drop}
use Rattle.std.specs.List.{position_or_len, before_first}
use Rattle.line_text.specs.declared.fields.Span.{Span}

-- a text without the spaces in front
abbrev pub skipped : List ℕ → List ℕ
skipped t = drop (position_or_len (λ b. not (eqb b 32)) t) t

-- what stands before the first space
abbrev pub until_space : List ℕ → List ℕ
until_space t = before_first (λ b. eqb b 32) t

-- what stands from the first space on
abbrev pub from_space : List ℕ → List ℕ
from_space t = drop (position_or_len (λ b. eqb b 32) t) t

-- the first field, empty where there is none, and what follows it
unfoldable pub field_of : List ℕ → List ℕ
field_of t = until_space (skipped t)

unfoldable pub rest_of : List ℕ → List ℕ
rest_of t = from_space (skipped t)

pub record Field (s : List ℕ) (at : ℕ) (r : Span) : Type 0 where
  pub past : r.from ≤ r.to
  pub within : r.to ≤ length s
  pub is : take (r.to - r.from) (drop r.from s) ≡ field_of (drop at s)
  pub leaves : drop r.to s ≡ rest_of (drop at s)
