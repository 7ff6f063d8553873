-- Room that is left after a count.
use Rattle.std.specs.Prelude.{ℕ, ◌+◌, ◌≤◌, ◌^◌, Bool, ◌≡◌}
use Rattle.std.proofs.Common.{arith}
use Rattle.numerical.specs.Tallies.{fresh, valued_of, sloped_of, stepped_of, ruled_of, Room}
use Rattle.numerical.specs.declared.Progress.{Progress}

pub room_fresh : {k : ℕ} {q : Progress} → k ≤ 2 ^ 32 → q ≡ fresh → Room k q
room_fresh {k} h e = rw e (record { steps = omega arith; values = omega arith; derivatives = omega arith })

module _ {j k : ℕ} {p : Progress} (r : Room j p) where
  pub room_less : k ≤ j → Room k p
  room_less h = let a = r.steps in let b = r.values in let c = r.derivatives in record { steps = omega arith; values = omega arith; derivatives = omega arith }

-- p counts at most one more of each than q
module _ {j k : ℕ} {p q : Progress} (r : Room j p) where
  one_more : k + 1 ≤ j → q.tally.steps.0 ≤ p.tally.steps.0 + 1 → q.tally.values.0 ≤ p.tally.values.0 + 1 → q.tally.derivatives.0 ≤ p.tally.derivatives.0 + 1 → Room k q
  one_more h s v d = let a = r.steps in let b = r.values in let c = r.derivatives in record { steps = omega arith; values = omega arith; derivatives = omega arith }

  pub room_valued : k + 1 ≤ j → q ≡ valued_of p → Room k q
  room_valued h e = one_more h (rw e (omega arith)) (rw e (omega arith)) (rw e (omega arith))

  pub room_sloped : k + 1 ≤ j → q ≡ sloped_of p → Room k q
  room_sloped h e = one_more h (rw e (omega arith)) (rw e (omega arith)) (rw e (omega arith))

  pub room_stepped : k + 1 ≤ j → q ≡ stepped_of p → Room k q
  room_stepped h e = one_more h (rw e (omega arith)) (rw e (omega arith)) (rw e (omega arith))

  pub room_ruled : (rule : ℕ) (departed : Bool) → k ≤ j → q ≡ ruled_of rule departed p → Room k q
  room_ruled rule departed h e = rw e (let a = r.steps in let b = r.values in let c = r.derivatives in record { steps = omega arith; values = omega arith; derivatives = omega arith })

-- all of them, for `search`
pub ruleset room = (room_fresh, room_less, room_valued, room_sloped, room_stepped, room_ruled)
