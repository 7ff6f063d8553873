-- How a run's tallies and its mark count what it does. Definitions only.
use Rattle.std.specs.Prelude.{ℕ, ◌+◌, ◌≤◌, ◌^◌, Bool, cond, ◌&&◌, eqb}
use Rattle.numerical.specs.declared.Progress.{Progress}

-- before anything was done: all zero
abbrev pub fresh : Progress
fresh = record { tally = record { steps = record { 0 = 0 }; values = record { 0 = 0 }; derivatives = record { 0 = 0 } }; mark = 0 }

-- a polynomial value was worked out
abbrev pub valued_of : Progress → Progress
valued_of p =
    record {
      tally = record { steps = p.tally.steps; values = record { 0 = p.tally.values.0 + 1 }; derivatives = p.tally.derivatives };
      mark = p.mark;
    }

-- "A value with its derivative counts as one of each"
abbrev pub sloped_of : Progress → Progress
sloped_of p =
    record {
      tally = record { steps = p.tally.steps; values = record { 0 = p.tally.values.0 + 1 }; derivatives = record { 0 = p.tally.derivatives.0 + 1 } };
      mark = p.mark;
    }

-- a step was completed: the Rust's `iter` grew by one
abbrev pub stepped_of : Progress → Progress
stepped_of p =
    record {
      tally = record { steps = record { 0 = p.tally.steps.0 + 1 }; values = p.tally.values; derivatives = p.tally.derivatives };
      mark = p.mark;
    }

-- "The mark is 0, or the number of the first added rule that departed"
unfoldable pub mark_after : ℕ → Bool → ℕ → ℕ
mark_after rule departed mark = cond (departed && eqb mark 0) rule mark

abbrev pub ruled_of : ℕ → Bool → Progress → Progress
ruled_of rule departed p = record { tally = p.tally; mark = mark_after rule departed p.mark }

-- each tally can still grow by k
pub record Room (k : ℕ) (p : Progress) : Type 0 where
  pub steps : p.tally.steps.0 + k ≤ 2 ^ 32
  pub values : p.tally.values.0 + k ≤ 2 ^ 32
  pub derivatives : p.tally.derivatives.0 + k ≤ 2 ^ 32
