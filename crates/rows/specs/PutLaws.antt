-- Where `put` stands in the groups of a number. Definitions only.
use Rattle.std.specs.Prelude.{ℕ, ◌+◌, ◌≤◌, ◌<◌, List, ◌++◌, ◌≡◌, length}
use Rattle.rows.specs.Groups.{groups_in, groups}
use Rattle.rows.specs.GroupLaws.{limit_in}
use Rattle.rows.specs.Puts.{Put}

-- the groups that stand, and those that m still makes
pub record Putting (before : List ℕ) (at n : ℕ) (now : List ℕ) (m p : ℕ) : Type 0 where
  pub done : List ℕ
  pub left : ℕ
  pub room : at + 10 ≤ length before
  pub count : p + left ≡ at + 9
  pub holds : m < limit_in left
  pub is : groups n ≡ done ++ groups_in left m
  pub put : Put before at done now p
