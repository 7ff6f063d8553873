-- Brent's method with the Rust's evaluations: in each step brent.rs works out again the value at the end that it keeps. Definitions only.
-- The steps are the Rust's, with document 01's additions. No code computes it: `brent` is proved to differ from it in the count of values alone, and is compared with the Rust.
use Rattle.std.specs.Prelude.{◌+◌, Bool, List, Float}
use Rattle.doubles.specs.Doubles.{opposite_sign}
use Rattle.numerical.specs.declared.Answer.{Answer}
use Rattle.numerical.specs.declared.Answer.TheVariants.{ByWidth}
use Rattle.numerical.specs.declared.Outcome.{Outcome}
use Rattle.numerical.specs.declared.Progress.{Progress}
use Rattle.numerical.specs.declared.Sample.{Sample}
use Rattle.simple_convergency.specs.Stop.{turns_of}
use Rattle.simple_convergency.specs.declared.StopRule.{StopRule}
use Rattle.searching.specs.Programs.{found, converged, ruled, Prog, log, Turned, test, stops, answers, by_value, value_at, offered, pulled_into, searches, answer_of}
use Rattle.brent.specs.Brent.{arrange, opening, guess_of, bisects, used_of, completes, step_departs}
use Rattle.brent.specs.declared.Brent.{Brent}

-- arrange(a, f(a), s, ys), or arrange(s, ys, b, f(b)): the kept end is evaluated again, and counted
unfoldable pub rust_arrived : Brent → Bool → Sample → Prog (Turned Brent)
rust_arrived s flag p =
    log (ruled 1 (step_departs s.a p))
    (test (opposite_sign s.a.y p.y)
    (value_at s.a.x (λ a. completes s flag (arrange a p)))
    (value_at s.b.x (λ b. completes s flag (arrange p b))))

-- "Only the s finally used is refused 9 or pulled"; then ys = f(s)
unfoldable pub rust_step : Brent → Bool → Float → Prog (Turned Brent)
rust_step s bisecting guess =
    offered (used_of bisecting s guess)
    (λ x. pulled_into s.a.x s.b.x x
    (λ y. value_at y (rust_arrived s bisecting)))

unfoldable pub rust_turn : StopRule → Brent → Prog (Turned Brent)
rust_turn stop s =
    stops stop (found s.a)
    (by_value s.a)
    (stops stop (found s.b)
    (by_value s.b)
    (stops stop (converged s.a.x s.b.x)
    (answers (ByWidth s.c.x s.a.x s.b.x))
    (rust_step s (bisects stop s (guess_of s)) (guess_of s))))

unfoldable pub rust_program : StopRule → Float → Float → Prog Answer
rust_program stop a b = searches (opening stop a b) (λ r. turns_of stop) (rust_turn stop)

unfoldable pub rust_brent : List Float → StopRule → Float → Float → Outcome
rust_brent cs stop a b = answer_of cs (rust_program stop a b)

-- ---- the count that differs

-- one value more for each step
abbrev pub repeated : Progress → Progress
repeated p =
    record {
      tally = record { steps = p.tally.steps; values = record { 0 = p.tally.values.0 + p.tally.steps.0 }; derivatives = p.tally.derivatives };
      mark = p.mark;
    }
