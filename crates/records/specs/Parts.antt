-- A record read part by part: the layouts of the parts, and what code found at an index. Definitions only.
use Rattle.std.specs.Prelude.{ℕ, ◌^◌, ◌<◌, Bool, true, false, List, [], ◌∷◌, ◌≡◌, Option, Some, None, Float}
use Rattle.std.specs.Float.{binary64}
use Rattle.std.specs.Float.Ieee.{of_bits}
use Rattle.numerical.specs.declared.Answer.{Answer}
use Rattle.numerical.specs.declared.Progress.{Progress}
use Rattle.simple_convergency.specs.Stop.{greatest_limit, most_coefficients}
use Rattle.simple_convergency.specs.declared.Tolerances.{Tolerances}
use Rattle.roots.specs.Methods.{start_count}
use Rattle.roots.specs.declared.Method.{Method}
use Rattle.rows.specs.Layouts.{Layout, number, Read, held, wrong, read, TookNumber, NoNumber, Goes, Fails}
use Rattle.rows.specs.declared.Taken.{Taken}
use Rattle.records.specs.Records.{between, is_kind, is_tally, numbers_for, answer_of, started_at, padded, progress_of, doubles, headed, tolerances_for, record_layout}
use Rattle.records.specs.declared.Record.{Record}
use Rattle.records.specs.declared.Head.{Head}
use Rattle.records.specs.declared.Rule.{Rule}
use Rattle.records.specs.declared.Call.{Call}

-- ---- the layouts of the parts: `next` is what follows

unfoldable pub rule_layout : ℕ → ℕ → (Method → Tolerances → ℕ → Layout Record) → Layout Record
rule_layout kind method next = doubles (start_count method) λ starts. tolerances_for kind λ tolerances. number (between 0 greatest_limit) λ limit. next (started_at method starts) tolerances limit

unfoldable pub call_layout : (ℕ → List Float → ℕ → Method → Tolerances → ℕ → Layout Record) → Layout Record
call_layout next = headed λ kind method. number (between 1 most_coefficients) λ count. doubles count λ coefficients. rule_layout kind method (next kind coefficients count)

unfoldable pub answer_layout : (Answer → Layout Record) → Layout Record
answer_layout next = number is_kind λ kind. doubles (numbers_for kind) λ numbers. next (answer_of kind numbers)

unfoldable pub progress_layout : (Progress → Layout Record) → Layout Record
progress_layout next = number is_tally λ steps. number is_tally λ values. number is_tally λ derivatives. number (between 0 2) λ mark. next (progress_of steps values derivatives mark)

-- ---- a part: a layout with what follows it left open

abbrev pub Part : Type 0 → Type 0
Part X = (X → Layout Record) → Layout Record

abbrev pub double_part : (ℕ → Bool) → Part Float
double_part ok next = number ok λ bits. next (of_bits binary64 bits)

abbrev pub head_part : Part Head
head_part next = headed λ kind method. next (record { kind = kind; method = method })

abbrev pub rule_part : ℕ → ℕ → Part Rule
rule_part kind method next = rule_layout kind method λ started tolerances limit. next (record { method = started; tolerances = tolerances; limit = limit })

abbrev pub call_part : Part Call
call_part next =
    call_layout λ kind coefficients count method tolerances limit.
    next (record { kind = kind; coefficients = padded coefficients; count = count; rule = record { method = method; tolerances = tolerances; limit = limit } })

-- ---- what code found at an index

-- a test of the code, by what its calls give, is this one
abbrev pub Decides : (ℕ → Bool → Type 0) → (ℕ → Bool) → Type 0
Decides given ok = (n : ℕ) → n < 2 ^ 64 → (b : Bool) → given n b → b ≡ ok n

-- a number that passes a test
abbrev pub TookIf : (ℕ → Bool) → List ℕ → ℕ → Option (Taken ℕ) → Type 0
TookIf ok s at (Some taken) = TookNumber ok s at taken.value taken.next
TookIf ok s at None = NoNumber ok s at

-- a part that holds x, whatever follows it
pub record HeldPart {X : Type 0} (part : Part X) (s : List ℕ) (at : ℕ) (x : X) (p : ℕ) : Type 0 where
  pub goes : (next : X → Layout Record) → Goes (part next) s at (next x) p

pub record NoPart {X : Type 0} (part : Part X) (s : List ℕ) (at : ℕ) : Type 0 where
  pub fails : (next : X → Layout Record) → Fails (part next) s at

abbrev pub TookPart : {X : Type 0} → Part X → List ℕ → ℕ → Option (Taken X) → Type 0
TookPart part s at (Some taken) = HeldPart part s at taken.value taken.next
TookPart part s at None = NoPart part s at

-- k doubles, which stand in a
abbrev pub Filled : ℕ → List ℕ → ℕ → List Float → Option ℕ → Type 0
Filled k s at a (Some p) = HeldPart (doubles k) s at a p
Filled k s at a None = NoPart (doubles k) s at

-- ---- whether bytes are one record, with nothing behind it

abbrev pub is_all : {A : Type 0} → Read A → Bool
is_all (held x []) = true
is_all (held x (b ∷ rest)) = false
is_all wrong = false

unfoldable pub whole_of : List ℕ → Bool
whole_of s = is_all (read record_layout s)
