-- A line as a call. Definitions only.
use Rattle.std.specs.Prelude.{ℕ, zero, suc, ◌+◌, ◌-◌, ◌≤◌, Bool, true, false, cond, ◌&&◌, List, [], ◌∷◌, ◌≡◌, ltb, eqb, length, take, drop, get_or, Float, Option, Some, None, Result, Ok, Err, is_some}
use Rattle.std.specs.Float.{nan, binary64}
use Rattle.std.specs.Float.Ieee.{of_bits}
use Rattle.simple_convergency.specs.Stop.{tolerances_of}
use Rattle.simple_convergency.specs.declared.Tolerances.{Tolerances}
use Rattle.roots.specs.Methods.{start_count, method_of}
use Rattle.roots.specs.declared.Method.{Method}
use Rattle.line_text.specs.Digits.{decimal_of, word_of}
use Rattle.line_text.specs.Fields.{field_of, rest_of}
use Rattle.line_text.specs.declared.call.Call.{Call}
use Rattle.line_text.specs.declared.call.Fault.{Fault}
use Rattle.line_text.specs.declared.call.Fault.TheVariants as fault

-- ---- the doubles of a line

-- what is left behind k fields
abbrev pub past : ℕ → List ℕ → List ℕ
past zero t = t
past (suc k) t = past k (rest_of t)

-- k fields are words of 16 digits
abbrev pub all_words : ℕ → List ℕ → Bool
all_words zero t = true
all_words (suc k) t = is_some (word_of (field_of t)) && all_words k (rest_of t)

abbrev pub double_of : Option ℕ → Float
double_of (Some n) = of_bits binary64 n
double_of None = nan

-- the doubles of k fields
abbrev pub doubles_of : ℕ → List ℕ → List Float
doubles_of zero t = []
doubles_of (suc k) t = double_of (word_of (field_of t)) ∷ doubles_of k (rest_of t)

-- a with the doubles of k fields in front, up to the first field that is none
abbrev pub filled_with : ℕ → List ℕ → List Float → List Float
filled_with zero t a = a
filled_with (suc k) t [] = []
filled_with (suc k) t (x ∷ a) = cond (is_some (word_of (field_of t))) (double_of (word_of (field_of t)) ∷ filled_with k (rest_of t) a) (x ∷ a)

pub record EndsAt (s : List ℕ) (at k p : ℕ) : Type 0 where
  pub within : p ≤ length s
  pub all : all_words k (drop at s) ≡ true
  pub leaves : drop p s ≡ past k (drop at s)

-- where the doubles end, if each field is one
abbrev pub Ends : List ℕ → ℕ → ℕ → Option ℕ → Type 0
Ends s at k (Some p) = EndsAt s at k p
Ends s at k None = all_words k (drop at s) ≡ false

pub record Filled (s : List ℕ) (at k : ℕ) (before a : List Float) (r : Option ℕ) : Type 0 where
  pub ends : Ends s at k r
  pub array : a ≡ filled_with k (drop at s) before

-- ---- the method

-- `1` to `5` by itself; any other field is none
unfoldable pub method_number : List ℕ → Option ℕ
method_number t = cond (eqb (length t) 1) (cond (ltb (get_or t 0 0) 49) None (cond (ltb (get_or t 0 0) 54) (Some (get_or t 0 0 - 48)) None)) None

-- ---- METHOD COUNT A0 .. START [START] VALUE_TOLERANCE POINT_TOLERANCE LIMIT

-- the call with its coefficients
pub record Request : Type 0 where
  pub coefficients : List Float
  pub method : Method
  pub tolerances : Tolerances
  pub limit : ℕ

abbrev pub Asked : Type 0
Asked = Result Request Fault

abbrev pub call : List Float → Method → Tolerances → ℕ → Asked
call a m tolerances limit = Ok (record { coefficients = a; method = m; tolerances = tolerances; limit = limit })

-- behind the limit nothing may follow; a are the coefficients, n of them, the starts and the tolerances
abbrev pub limited : ℕ → ℕ → List Float → Option ℕ → List ℕ → Asked
limited m n a (Some l) t =
    cond (eqb (length (field_of t)) 0)
    (call (take n a) (method_of m (get_or a n nan) (get_or a (n + 1) nan)) (tolerances_of (get_or a (n + start_count m) nan) (get_or a (n + start_count m + 1) nan)) l)
    (Err fault.Trailing)
limited m n a None t = Err fault.Limit

unfoldable pub with_limit : ℕ → ℕ → List Float → List ℕ → Asked
with_limit m n a t = limited m n a (decimal_of (field_of t)) (rest_of t)

-- n coefficients, the starts and the tolerances
abbrev pub doubles : ℕ → ℕ → ℕ
doubles m n = n + start_count m + 2

unfoldable pub with_doubles : ℕ → ℕ → List ℕ → Asked
with_doubles m n t =
    cond (all_words (doubles m n) t)
    (with_limit m n (doubles_of (doubles m n) t) (past (doubles m n) t))
    (Err fault.Number)

-- up to 40 coefficients, so that a count above 16 can be refused
abbrev pub counted : ℕ → Option ℕ → List ℕ → Asked
counted m (Some n) t = cond (ltb 40 n) (Err fault.Count) (with_doubles m n t)
counted m None t = Err fault.Count

unfoldable pub with_count : ℕ → List ℕ → Asked
with_count m t = counted m (decimal_of (field_of t)) (rest_of t)

abbrev pub with_method : Option ℕ → List ℕ → Asked
with_method (Some m) t = with_count m t
with_method None t = Err fault.Method

unfoldable pub asked_of : List ℕ → Asked
asked_of t = cond (eqb (length (field_of t)) 0) (Err fault.Empty) (with_method (method_number (field_of t)) (rest_of t))

-- ---- what the array then holds: it is written where the method and the count are right

abbrev pub due : ℕ → Option ℕ → ℕ
due m (Some n) = cond (ltb 40 n) 0 (doubles m n)
due m None = 0

unfoldable pub count_fills : ℕ → List ℕ → List Float → List Float
count_fills m t a = filled_with (due m (decimal_of (field_of t))) (rest_of t) a

abbrev pub method_fills : Option ℕ → List ℕ → List Float → List Float
method_fills (Some m) t a = count_fills m t a
method_fills None t a = a

unfoldable pub line_fills : List ℕ → List Float → List Float
line_fills t a = cond (eqb (length (field_of t)) 0) a (method_fills (method_number (field_of t)) (rest_of t) a)

-- ---- what the code read, with the coefficients in a

abbrev pub count_of : Result Call Fault → ℕ
count_of (Ok c) = c.count
count_of (Err r) = 0

abbrev pub request_of : Call → List Float → Request
request_of c a = record { coefficients = take c.count a; method = c.method; tolerances = c.tolerances; limit = c.limit }

abbrev pub asked_by : Result Call Fault → List Float → Asked
asked_by (Ok c) a = Ok (request_of c a)
asked_by (Err r) a = Err r

pub record ReadAs (asked : Asked) (filled a : List Float) (r : Result Call Fault) : Type 0 where
  pub within : count_of r ≤ length a
  pub is : asked_by r a ≡ asked
  pub array : a ≡ filled
