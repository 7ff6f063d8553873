-- A line read field by field.
use Rattle.std.specs.Prelude.{ℕ, ◌+◌, ◌-◌, ◌≤◌, ◌<◌, false, List, ◌≡◌, refl, eqb, length, take, drop, get_or, Float, Option, Some, None, Result, Ok, Err}
use Rattle.std.proofs.Common.{arith, sym, ap, ◌∙◌, get_or-take, length-take-le, lt-ltb, le-ltb}
use Rattle.std.proofs.Math.Seq.{take-take}
use Rattle.std.proofs.lemmas.Bool.Decides.{nat_tests}
use Rattle.std.proofs.lemmas.List.{take_rest}
use Rattle.std.specs.Float.{nan}
use Rattle.simple_convergency.specs.Stop.{tolerances_of}
use Rattle.roots.specs.Methods.{start_count, method_of}
use Rattle.roots.specs.declared.Method.{Method}
use Rattle.line_text.specs.Digits.{decimal_of}
use Rattle.line_text.specs.Fields.{field_of, rest_of, Field}
use Rattle.line_text.specs.FieldLaws.{no_field, some_field}
use Rattle.line_text.specs.Calls.{all_words, doubles_of, filled_with, EndsAt, Filled, method_number, Request, Asked, limited, with_limit, doubles, with_doubles, counted, with_count, with_method, asked_of, due, count_fills, method_fills, line_fills, request_of, asked_by, ReadAs}
use Rattle.line_text.specs.CallLaws.{filled_front}
use Rattle.line_text.specs.declared.fields.Span.{Span}
use Rattle.line_text.specs.declared.call.Call.{Call}
use Rattle.line_text.specs.declared.call.Fault.{Fault}
use Rattle.line_text.specs.declared.call.Fault.TheVariants as fault

-- ---- what is no call

wrong : (asked : Asked) (filled a : List Float) (why : Fault) → asked ≡ Err why → a ≡ filled → ReadAs asked filled a (Err why)
wrong asked filled a why e q = record { within = omega arith; is = sym e; array = q }

-- ---- the limit

module _ (s : List ℕ) (at m n : ℕ) (a : List Float) {f : Span} (j : Field s at f) {d : Option ℕ} (e : d ≡ decimal_of (take (f.to - f.from) (drop f.from s))) where
  the_limit : with_limit m n a (drop at s) ≡ limited m n a d (drop f.to s)
  unfolding with_limit
  the_limit = rw (j.leaves, e, j.is)

  pub limit_wrong : {r : Result Call Fault} → d ≡ None → r ≡ Err fault.Limit → ReadAs (with_limit m n a (drop at s)) a a r
  limit_wrong q x = rw x (wrong (with_limit m n a (drop at s)) a a fault.Limit (the_limit ∙ rw q) refl)

  module _ {l : ℕ} (q : d ≡ Some l) {g : Span} (k : Field s f.to g) where
    pub limit_trailing : g.from < g.to → ReadAs (with_limit m n a (drop at s)) a a (Err fault.Trailing)
    limit_trailing h = wrong (with_limit m n a (drop at s)) a a fault.Trailing (the_limit ∙ rw (q, some_field k h)) refl

    pub limit_read : {method : Method} {k : ℕ} → g.to ≤ g.from → n + 4 ≤ length a → method ≡ method_of m (get_or a n nan) (get_or a (n + 1) nan) → k ≡ start_count m → ReadAs (with_limit m n a (drop at s)) a a (Ok (record { method = method; count = n; tolerances = tolerances_of (get_or a (n + k) nan) (get_or a (n + k + 1) nan); limit = l }))
    limit_read h b x y = record { within = omega arith; is = rw (x, y) (sym (the_limit ∙ rw (q, no_field k h))); array = refl }

-- ---- the doubles

pub few_starts : (m : ℕ) → start_count m ≤ 2
unfolding start_count
few_starts m = grind (arith, nat_tests)

some_starts : (m : ℕ) → 1 ≤ start_count m
unfolding start_count
some_starts m = grind (arith, nat_tests)

module _ (m n : ℕ) (a : List Float) (k : ℕ) (t : List ℕ) where
  -- only the first n + starts + 2 doubles count
  first_ones : k ≡ doubles m n → with_limit m n a t ≡ with_limit m n (take k a) t
  unfolding with_limit
  first_ones e = go (decimal_of (field_of t))
    where
      coefficients : take n (take k a) ≡ take n a
      coefficients = take-take n k a (omega arith)

      at_start : get_or (take k a) n nan ≡ get_or a n nan
      at_start = get_or-take k a n nan (omega arith)

      at_next : get_or (take k a) (n + 1) nan ≡ get_or a (n + 1) nan
      at_next = get_or-take k a (n + 1) nan (let h = some_starts m in omega arith)

      at_value : get_or (take k a) (n + start_count m) nan ≡ get_or a (n + start_count m) nan
      at_value = get_or-take k a (n + start_count m) nan (omega arith)

      at_point : get_or (take k a) (n + start_count m + 1) nan ≡ get_or a (n + start_count m + 1) nan
      at_point = get_or-take k a (n + start_count m + 1) nan (omega arith)

      go : (d : Option ℕ) → limited m n a d (rest_of t) ≡ limited m n (take k a) d (rest_of t)
      go (Some l) = rw (coefficients, at_start, at_next, at_value, at_point)
      go None = refl

module _ (s : List ℕ) (at k : ℕ) (before a : List Float) {w : Option ℕ} {p : ℕ} (g : Filled s at k before a w) (q : w ≡ Some p) where
  filled_to : EndsAt s at k p
  filled_to = (rw q at g).ends

module _ (s : List ℕ) (at m n : ℕ) (before a : List Float) {k : ℕ} (e : k ≡ start_count m) {w : Option ℕ} (g : Filled s at (n + k + 2) before a w) where
  pub doubles_wrong : {r : Result Call Fault} → w ≡ None → r ≡ Err fault.Number → ReadAs (with_doubles m n (drop at s)) (filled_with (doubles m n) (drop at s) before) a r
  unfolding with_doubles
  doubles_wrong q x = rw x (wrong (with_doubles m n (drop at s)) (filled_with (doubles m n) (drop at s) before) a fault.Number (rw (← e, none)) (rw (← e) g.array))
    where
      none : all_words (n + k + 2) (drop at s) ≡ false
      none = (rw q at g).ends

  module _ {p : ℕ} (q : w ≡ Some p) (h : n ≤ 40) (l : 44 ≤ length before) where
    ends : EndsAt s at (n + k + 2) p
    ends = filled_to s at (n + k + 2) before a g q

    front : take (n + k + 2) a ≡ doubles_of (n + k + 2) (drop at s)
    front = ap (λ (b : List Float). take (n + k + 2) b) g.array ∙ filled_front (n + k + 2) (drop at s) before (let t = few_starts m in omega arith) ends.all

    pub doubles_read : {r : Result Call Fault} → ReadAs (with_limit m n a (take (length s - p) (drop p s))) a a r → ReadAs (with_doubles m n (drop at s)) (filled_with (doubles m n) (drop at s) before) a r
    unfolding with_doubles
    doubles_read {r} x = record { within = x.within; is = x.is ∙ ap (with_limit m n a) (take_rest s p) ∙ same; array = rw (← e) g.array }
      where
        same : with_limit m n a (drop p s) ≡ with_doubles m n (drop at s)
        same = first_ones m n a (n + k + 2) (drop p s) (rw e) ∙ rw (← e, ends.all, front, ends.leaves)

-- ---- the count

module _ (s : List ℕ) (at m : ℕ) (a : List Float) {f : Span} (j : Field s at f) {d : Option ℕ} (e : d ≡ decimal_of (take (f.to - f.from) (drop f.from s))) where
  the_count : with_count m (drop at s) ≡ counted m d (drop f.to s)
  unfolding with_count
  the_count = rw (j.leaves, e, j.is)

  the_doubles : filled_with (due m d) (drop f.to s) a ≡ count_fills m (drop at s) a
  unfolding count_fills
  the_doubles = rw (j.leaves, e, j.is)

  no_count : counted m d (drop f.to s) ≡ Err fault.Count → due m d ≡ 0 → ReadAs (with_count m (drop at s)) (count_fills m (drop at s) a) a (Err fault.Count)
  no_count q z = wrong (with_count m (drop at s)) (count_fills m (drop at s) a) a fault.Count (the_count ∙ q) (sym (rw z) ∙ the_doubles)

  pub count_wrong : {r : Result Call Fault} → d ≡ None → r ≡ Err fault.Count → ReadAs (with_count m (drop at s)) (count_fills m (drop at s) a) a r
  count_wrong q x = rw x (no_count (rw q) (rw q))

  module _ {n : ℕ} (q : d ≡ Some n) where
    pub count_large : 40 < n → ReadAs (with_count m (drop at s)) (count_fills m (drop at s) a) a (Err fault.Count)
    count_large h = no_count (rw (q, lt-ltb 40 n h)) (rw (q, lt-ltb 40 n h))

    pub count_read : n ≤ 40 → {b : List Float} {r : Result Call Fault} → ReadAs (with_doubles m n (take (length s - f.to) (drop f.to s))) (filled_with (doubles m n) (take (length s - f.to) (drop f.to s)) a) b r → ReadAs (with_count m (drop at s)) (count_fills m (drop at s) a) b r
    count_read h k =
        record {
          within = k.within;
          is = k.is ∙ rw take_rest (sym (the_count ∙ rw (q, le-ltb 40 n h)));
          array = k.array ∙ rw take_rest (sym (rw (q, le-ltb 40 n h)) ∙ the_doubles);
        }

-- ---- the method, at the start of the line

module _ (s : List ℕ) (a : List Float) {f : Span} (j : Field s 0 f) where
  pub read_empty : f.from ≡ f.to → ReadAs (asked_of s) (line_fills s a) a (Err fault.Empty)
  unfolding asked_of line_fills
  read_empty h = wrong (asked_of s) (line_fills s a) a fault.Empty (rw (no_field j (omega arith))) (rw (no_field j (omega arith)))

  module _ (h : f.from ≡ f.to → ⊥) {d : Option ℕ} (e : d ≡ method_number (take (f.to - f.from) (drop f.from s))) where
    some : eqb (length (field_of s)) 0 ≡ false
    some = some_field j (let p = j.past in omega arith)

    the_method : asked_of s ≡ with_method d (drop f.to s)
    unfolding asked_of
    the_method = rw (some, e, j.is, j.leaves)

    the_fills : line_fills s a ≡ method_fills d (drop f.to s) a
    unfolding line_fills
    the_fills = rw (some, e, j.is, j.leaves)

    pub read_no_method : {r : Result Call Fault} → d ≡ None → r ≡ Err fault.Method → ReadAs (asked_of s) (line_fills s a) a r
    read_no_method q x = rw x (wrong (asked_of s) (line_fills s a) a fault.Method (the_method ∙ rw q) (sym (the_fills ∙ rw q)))

    pub read_read : {m : ℕ} → d ≡ Some m → {b : List Float} {r : Result Call Fault} → ReadAs (with_count m (take (length s - f.to) (drop f.to s))) (count_fills m (take (length s - f.to) (drop f.to s)) a) b r → ReadAs (asked_of s) (line_fills s a) b r
    read_read q k = record { within = k.within; is = k.is ∙ rw take_rest (sym (the_method ∙ rw q)); array = k.array ∙ rw take_rest (sym (the_fills ∙ rw q)) }

-- ---- one reading

pub reading_fixed : (asked : Asked) (filled a b : List Float) (r q : Result Call Fault) → ReadAs asked filled a r → ReadAs asked filled b q → r ≡ q
reading_fixed asked filled a b (Ok c) (Ok d) x y = rw (counts, ap (λ (q : Request). q.method) requests, ap (λ (q : Request). q.tolerances) requests, ap (λ (q : Request). q.limit) requests)
  where
    same : asked_by (Ok c) a ≡ asked_by (Ok d) b
    same = x.is ∙ sym y.is

    requests : request_of c a ≡ request_of d b
    requests = cc

    counts : c.count ≡ d.count
    counts = sym (length-take-le c.count a x.within) ∙ ap (λ (q : Request). length q.coefficients) requests ∙ length-take-le d.count b y.within
reading_fixed asked filled a b (Ok c) (Err w) x y = cc
reading_fixed asked filled a b (Err v) (Ok d) x y = cc
reading_fixed asked filled a b (Err v) (Err w) x y = cc
