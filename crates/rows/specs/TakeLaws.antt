-- Where `take` stands in the groups of a number. Definitions only.
use Rattle.std.specs.Prelude.{ℕ, ◌+◌, ◌-◌, ◌^◌, ◌≤◌, ◌<◌, List, ◌≡◌, drop}
use Rattle.rows.specs.Groups.{above, number_in, number_of}

-- the groups before p are read: they make v, and the next one has weight w
pub record Taking (s : List ℕ) (at v w p : ℕ) : Type 0 where
  pub some : at < p
  pub count : p ≤ at + 9
  pub weight : w ≡ 128 ^ (p - at)
  pub low : v < w
  pub is : number_of (drop at s) ≡ above v w (number_in (at + 9 - p) (drop p s))
