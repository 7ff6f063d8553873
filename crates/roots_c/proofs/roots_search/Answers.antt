use Rattle.roots_c.proofs.roots_search.Goals as goal

pub returns-clause-kind : goal.returns-clause-kind
returns-clause-kind c = rw (c.outcome_of-outcome.ensures, c.chosen_by-chosen.ensures) at c.kind.ensures

pub returns-clause-numbers : goal.returns-clause-numbers
returns-clause-numbers c = rw (c.outcome_of-outcome.ensures, c.chosen_by-chosen.ensures) at c.numbers.ensures

pub returns-clause-tallies : goal.returns-clause-tallies
returns-clause-tallies c = rw (c.outcome_of-outcome.ensures, c.chosen_by-chosen.ensures) at c.counts.ensures
