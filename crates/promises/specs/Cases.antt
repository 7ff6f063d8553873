-- W1 to W13 of document 01, its limits with the Rust's for a plain eps, calls with two different tolerances, calls that reach its bounds, and W1, W7 and W8 with the Rust's evaluations, as one statement each over a list of calls with their answers.
use Rattle.std.specs.Prelude.{ℕ, zero, suc, ◌+◌, Bool, true, false, cond, ◌&&◌, List, [], ◌∷◌, eqb, Float}
use Rattle.std.specs.Float.{binary64}
use Rattle.std.specs.Float.Ieee.{of_bits, to_bits}
use Rattle.numerical.specs.Answers.{kind_of, numbers_of}
use Rattle.numerical.specs.declared.Outcome.{Outcome}
use Rattle.simple_convergency.specs.Stop.{plain_limit, tolerances_of}
use Rattle.polynom.specs.Polynom.{value}
use Rattle.roots.specs.Calls.{answer}
use Rattle.roots.specs.declared.Method.{Method}
use Rattle.roots.specs.declared.Method.TheVariants.{Brent, RegulaFalsi, Secant, NewtonRaphson, Polynom}
use Rattle.promises.specs.Counts.{rule_of, most_values, most_derivatives, rust_found_by}

-- a call, its doubles given by their bits, and everything that its answer carries
pub record Case : Type 0 where
  pub coefficients : List ℕ
  pub method : Method
  pub value_tolerance : ℕ
  pub point_tolerance : ℕ
  pub limit : ℕ
  pub kind : ℕ
  pub numbers : List ℕ
  pub steps : ℕ
  pub values : ℕ
  pub derivatives : ℕ
  pub mark : ℕ

abbrev pub double : ℕ → Float
double bits = of_bits binary64 bits

unfoldable pub doubles : List ℕ → List Float
doubles [] = []
doubles (n ∷ rest) = double n ∷ doubles rest

unfoldable pub same_bits : List ℕ → List Float → Bool
same_bits [] [] = true
same_bits [] (y ∷ ys) = false
same_bits (n ∷ ns) [] = false
same_bits (n ∷ ns) (y ∷ ys) = cond (eqb n (to_bits binary64 y)) (same_bits ns ys) false

-- whether an outcome is the one that the case gives
unfoldable pub agrees : Case → Outcome → Bool
agrees c o =
    eqb (kind_of o.answer) c.kind
    && (same_bits c.numbers (numbers_of o.answer)
    && (eqb o.progress.tally.steps.0 c.steps
    && (eqb o.progress.tally.values.0 c.values
    && (eqb o.progress.tally.derivatives.0 c.derivatives
    && eqb o.progress.mark c.mark))))

unfoldable pub is_met : Case → Bool
is_met c = agrees c (answer (doubles c.coefficients) c.method (tolerances_of (double c.value_tolerance) (double c.point_tolerance)) c.limit)

unfoldable pub all_met : List Case → Bool
all_met [] = true
all_met (c ∷ rest) = cond (is_met c) (all_met rest) false

-- ---- the numbers of the table

abbrev pub d0 : ℕ
d0 = 0

abbrev pub d1 : ℕ
d1 = 0x3ff0_0000_0000_0000

abbrev pub d2 : ℕ
d2 = 0x4000_0000_0000_0000

abbrev pub d4 : ℕ
d4 = 0x4010_0000_0000_0000

abbrev pub d100 : ℕ
d100 = 0x4059_0000_0000_0000

abbrev pub minus1 : ℕ
minus1 = 0xbff0_0000_0000_0000

abbrev pub minus2 : ℕ
minus2 = 0xc000_0000_0000_0000

abbrev pub minus4 : ℕ
minus4 = 0xc010_0000_0000_0000

abbrev pub minus150 : ℕ
minus150 = 0xc062_c000_0000_0000

abbrev pub part64 : ℕ
part64 = 0x3f90_0000_0000_0000

abbrev pub part1024 : ℕ
part1024 = 0x3f50_0000_0000_0000

abbrev pub part4096 : ℕ
part4096 = 0x3f30_0000_0000_0000

-- the double nearest 300/204
abbrev pub nearest300by204 : ℕ
nearest300by204 = 0x3ff7_8787_8787_8788

-- a refusal, and the two acceptances, with one eps for both tolerances; the mark is 0 in all of them
abbrev pub refused : List ℕ → Method → ℕ → ℕ → ℕ → ℕ → ℕ → ℕ → Case
refused a m eps limit number steps values derivatives =
    record { coefficients = a; method = m; value_tolerance = eps; point_tolerance = eps; limit = limit; kind = 10 + number; numbers = []; steps = steps; values = values; derivatives = derivatives; mark = 0 }

abbrev pub accepted : List ℕ → Method → ℕ → ℕ → ℕ → List ℕ → ℕ → ℕ → ℕ → Case
accepted a m eps limit kind numbers steps values derivatives =
    record { coefficients = a; method = m; value_tolerance = eps; point_tolerance = eps; limit = limit; kind = kind; numbers = numbers; steps = steps; values = values; derivatives = derivatives; mark = 0 }

-- ---- "W1 to W13 are proved as one statement about the definitions over the list"

unfoldable pub cases : List Case
cases =
    -- W1 to W5: 8
    refused (d0 ∷ minus2 ∷ []) (Brent (double d0) (double d2)) part1024 1 8 1 3 0
    ∷ refused (d0 ∷ minus2 ∷ []) (RegulaFalsi (double d0) (double d2)) part1024 1 8 1 3 0
    ∷ refused (d0 ∷ minus2 ∷ []) (Secant (double d0) (double d2)) part1024 1 8 1 3 0
    ∷ refused (d0 ∷ minus2 ∷ []) (NewtonRaphson (double d0)) part1024 1 8 2 2 2
    ∷ refused (d0 ∷ minus2 ∷ []) (Polynom (double d0) (double d2)) part1024 1 8 1 4 1
    -- W6: by value, root 1
    ∷ accepted (d0 ∷ minus1 ∷ []) (RegulaFalsi (double d0) (double d1)) part1024 1 0 (d1 ∷ d0 ∷ []) 0 2 0
    -- W7 and W8: the last sample is not tested at the limit
    ∷ refused (minus1 ∷ []) (Brent (double d0) (double d2)) part1024 1 8 1 3 0
    ∷ accepted (minus1 ∷ []) (Brent (double d0) (double d2)) part1024 2 0 (d1 ∷ d0 ∷ []) 1 3 0
    -- W9 and W10: by width
    ∷ accepted (d100 ∷ minus150 ∷ []) (Brent (double d0) (double d2)) d4 10 1 (d0 ∷ d0 ∷ d2 ∷ []) 0 2 0
    ∷ accepted (d100 ∷ minus150 ∷ []) (RegulaFalsi (double d0) (double d2)) d4 10 1 (nearest300by204 ∷ d0 ∷ d2 ∷ []) 0 2 0
    -- W11: 7
    ∷ refused (d0 ∷ d1 ∷ []) (NewtonRaphson (double d0)) part1024 5 7 2 3 3
    -- W12: by value, root 1/64; W13: 6
    ∷ accepted (d0 ∷ d0 ∷ []) (RegulaFalsi (double part64) (double d1)) part1024 9 0 (part64 ∷ part4096 ∷ []) 0 1 0
    ∷ refused (d0 ∷ d0 ∷ []) (Brent (double part64) (double d1)) part1024 9 6 0 2 0
    ∷ []

-- ---- "Limits: 16 coefficients pass, 17 get 1; eps 2^-300 passes, its half gets 4; limit 400 passes, 401 gets 5"

abbrev pub noughts : ℕ → List ℕ
noughts zero = []
noughts (suc n) = d0 ∷ noughts n

abbrev pub from_nought : Method
from_nought = RegulaFalsi (double d0) (double d1)

abbrev pub least : ℕ
least = 0x2d30_0000_0000_0000

abbrev pub half : ℕ
half = 0x3fe0_0000_0000_0000

abbrev pub half_least : ℕ
half_least = 0x2d20_0000_0000_0000

-- x^n from 0: the value at the first start is 0, and found at once where the call passes
unfoldable pub limits : List Case
limits =
    accepted (noughts 16) from_nought part1024 9 0 (d0 ∷ d0 ∷ []) 0 1 0
    ∷ refused (noughts 17) from_nought part1024 9 1 0 0 0
    ∷ refused (noughts 0) from_nought part1024 9 1 0 0 0
    ∷ accepted (noughts 1) from_nought least 9 0 (d0 ∷ d0 ∷ []) 0 1 0
    ∷ refused (noughts 1) from_nought half_least 9 4 0 0 0
    ∷ accepted (noughts 1) from_nought part1024 400 0 (d0 ∷ d0 ∷ []) 0 1 0
    ∷ refused (noughts 1) from_nought part1024 401 5 0 0 0
    -- with a plain eps the Rust gives up on x^2 + 1 after 30 values and derivatives
    ∷ refused (d0 ∷ d1 ∷ []) (NewtonRaphson (double half)) part1024 plain_limit 8 30 30 30
    ∷ []

-- ---- two different tolerances; but for the last four, each answer is another where the two change places

abbrev pub d3 : ℕ
d3 = 0x4008_0000_0000_0000

abbrev pub d5 : ℕ
d5 = 0x4014_0000_0000_0000

abbrev pub d6 : ℕ
d6 = 0x4018_0000_0000_0000

abbrev pub d54 : ℕ
d54 = 0x404b_0000_0000_0000

abbrev pub d64 : ℕ
d64 = 0x4050_0000_0000_0000

-- the same case with these tolerances
abbrev pub within : ℕ → ℕ → Case → Case
within value point c =
    record { coefficients = c.coefficients; method = c.method; value_tolerance = value; point_tolerance = point; limit = c.limit; kind = c.kind; numbers = c.numbers; steps = c.steps; values = c.values; derivatives = c.derivatives; mark = c.mark }

unfoldable pub apart : List Case
apart =
    -- Brent, Illinois and the polynomial search on W9's polynomial: by value with the larger value tolerance, by width with the larger point tolerance
    within d64 part1024 (accepted (d100 ∷ minus150 ∷ []) (Brent (double d0) (double d2)) d0 10 0 (d2 ∷ d54 ∷ []) 0 2 0)
    ∷ within part1024 d4 (accepted (d100 ∷ minus150 ∷ []) (Brent (double d0) (double d2)) d0 10 1 (d0 ∷ d0 ∷ d2 ∷ []) 0 2 0)
    ∷ within d64 part1024 (accepted (d100 ∷ minus150 ∷ []) (RegulaFalsi (double d0) (double d2)) d0 10 0 (d2 ∷ d54 ∷ []) 0 2 0)
    ∷ within part1024 d4 (accepted (d100 ∷ minus150 ∷ []) (RegulaFalsi (double d0) (double d2)) d0 10 1 (nearest300by204 ∷ d0 ∷ d2 ∷ []) 0 2 0)
    ∷ within d64 part1024 (accepted (d100 ∷ minus150 ∷ []) (Polynom (double d0) (double d2)) d0 10 0 (d2 ∷ d54 ∷ []) 0 2 0)
    ∷ within part1024 d4 (accepted (d100 ∷ minus150 ∷ []) (Polynom (double d0) (double d2)) d0 10 1 (nearest300by204 ∷ d0 ∷ d2 ∷ []) 0 2 0)
    -- Brent's fourth condition fails by the point tolerance and holds by the value tolerance; then so does the fifth
    ∷ within d2 d1 (accepted (d0 ∷ minus4 ∷ []) (Brent (double d4) (double d0)) d0 4 0 (0x3ffd_b6db_6db6_db6e ∷ 0xbfe1_a1f5_8d0f_ac68 ∷ []) 3 5 0)
    ∷ within d2 d1 (accepted (d4 ∷ d0 ∷ []) (Brent (double minus2) (double d1)) d0 4 0 (0xbfb5_c34b_064c_be20 ∷ 0xbfd5_4ce3_33b2_32ed ∷ []) 3 5 0)
    -- secant's x - 1 from 5 and 6, whose values differ by 1: 7 by the value tolerance, and else the root
    ∷ within d2 part1024 (refused (minus1 ∷ []) (Secant (double d5) (double d6)) d0 10 7 0 2 0)
    ∷ within part1024 d2 (accepted (minus1 ∷ []) (Secant (double d5) (double d6)) d0 10 0 (d1 ∷ d0 ∷ []) 0 3 0)
    -- Newton's x + 3 from 3, whose derivative is 1: nudged and then 7 by the value tolerance, and else a step to -3, 6 away
    ∷ within d4 part1024 (refused (d3 ∷ []) (NewtonRaphson (double d3)) d0 1 7 1 2 2)
    ∷ within part1024 d4 (refused (d3 ∷ []) (NewtonRaphson (double d3)) d0 1 8 1 1 1)
    -- each of the two may be 2^-300, and neither its half
    ∷ within least part1024 (accepted (noughts 1) from_nought d0 9 0 (d0 ∷ d0 ∷ []) 0 1 0)
    ∷ within part1024 least (accepted (noughts 1) from_nought d0 9 0 (d0 ∷ d0 ∷ []) 0 1 0)
    ∷ within half_least part1024 (refused (noughts 1) from_nought d0 9 4 0 0 0)
    ∷ within part1024 half_least (refused (noughts 1) from_nought d0 9 4 0 0 0)
    ∷ []

-- ---- the bounds on values and derivatives are reached, at limits 1 and 3

-- the calls of W1 to W5 with limit 3, and an eps so small that nothing stops them before
unfoldable pub reaching : List Case
reaching =
    refused (d0 ∷ minus2 ∷ []) (Brent (double d0) (double d2)) least 3 8 3 5 0
    ∷ refused (d0 ∷ minus2 ∷ []) (RegulaFalsi (double d0) (double d2)) least 3 8 3 5 0
    ∷ refused (d0 ∷ minus2 ∷ []) (Secant (double d0) (double d2)) least 3 8 3 5 0
    ∷ refused (d0 ∷ minus2 ∷ []) (NewtonRaphson (double d0)) least 3 8 3 3 3
    ∷ refused (d0 ∷ minus2 ∷ []) (Polynom (double d0) (double d2)) least 3 8 3 8 3
    ∷ []

-- the counts of a case are its method's bounds
unfoldable pub reaches_bounds : Case → Bool
reaches_bounds c =
    let stop = rule_of (tolerances_of (double c.value_tolerance) (double c.point_tolerance)) c.limit in
    eqb c.values (most_values c.method stop) && eqb c.derivatives (most_derivatives c.method stop)

unfoldable pub all_reach : List Case → Bool
all_reach [] = true
all_reach (c ∷ rest) = cond (reaches_bounds c) (all_reach rest) false

-- ---- W1, W7 and W8 by the definition with the Rust's evaluations: the kept end's value is worked out again in their one step

unfoldable pub rust_cases : List Case
rust_cases =
    refused (d0 ∷ minus2 ∷ []) (Brent (double d0) (double d2)) part1024 1 8 1 4 0
    ∷ refused (minus1 ∷ []) (Brent (double d0) (double d2)) part1024 1 8 1 4 0
    ∷ accepted (minus1 ∷ []) (Brent (double d0) (double d2)) part1024 2 0 (d1 ∷ d0 ∷ []) 1 4 0
    ∷ []

-- whether the definition with the Rust's evaluations meets each
unfoldable pub all_met_again : List Case → Bool
all_met_again [] = true
all_met_again (c ∷ rest) = cond (agrees c (rust_found_by (doubles c.coefficients) (rule_of (tolerances_of (double c.value_tolerance) (double c.point_tolerance)) c.limit) c.method)) (all_met_again rest) false
