-- The parts of a record, read one after the other.
use Rattle.std.specs.Prelude.{Err, ℕ, ◌-◌, ◌≤◌, Bool, eqb, length, take, drop, get_or, Ok, Float, Option, Some, None}
use Rattle.std.specs.Option.{ok_or}
use native.Mathlib.Omega.{arith}
use Rattle.std.proofs.Math.Bool.{true, false, cond}
use mathlib.Core.List.{List, [], ◌∷◌, ◌++◌}
use Rattle.std.proofs.Math.Path.{◌≡◌, refl, ap}
use Rattle.std.proofs.Common.{sym, ◌∙◌, subst, length-drop, length-take-le}
use Rattle.std.specs.Float.{nan}
use borrow.Author.Tests.{eq-eqb, ne_eqb, eqb-true}
use Rattle.numerical.specs.declared.Answer.{Answer}
use Rattle.numerical.specs.declared.Answer.TheVariants.{ByValue, ByWidth, Refused}
use Rattle.numerical.specs.declared.Progress.{Progress}
use Rattle.simple_convergency.specs.Stop.{greatest_limit, one_eps, tolerances_of, most_coefficients}
use Rattle.simple_convergency.specs.declared.Tolerances.{Tolerances}
use Rattle.roots.specs.Methods.{start_count, method_of}
use Rattle.roots.specs.declared.Method.{Method}
use Rattle.rows.specs.Groups.{none, number_of, TookOne}
use Rattle.rows.specs.Layouts.{Layout, end, number, read, TookNumber, NoNumber, Goes, Fails}
use Rattle.rows.proofs.LayoutLaws.{goes_on, goes_wrong}
use Rattle.records.specs.Records.{between, is_tolerance, is_kind, is_tally, numbers_for, answer_of, started_at, noughts, padded, progress_of, doubles, behind_zero, headed, tolerances_for, record_layout, reading_of}
use Rattle.records.specs.Parts.{double_part, head_part, rule_layout, rule_part, call_layout, call_part, answer_layout, progress_layout, Part, HeldPart, NoPart, TookPart}
use Rattle.records.proofs.ReadLaws.{number_held, number_missed, tally_held, tally_missed}
use Rattle.records.specs.declared.Record.{Record}
use Rattle.records.specs.declared.Reading.{Reading}
use Rattle.rows.specs.declared.Taken.{Taken}
use Rattle.records.specs.declared.Refusal.{Refusal}
use Rattle.records.specs.declared.Refusal.TheVariants.{NoRecord}
use Rattle.records.specs.declared.Head.{Head}
use Rattle.records.specs.declared.Rule.{Rule}
use Rattle.records.specs.declared.Call.{Call}
use Rattle.records.specs.PartLaws.{after_call}

-- ---- the tallies and the mark

abbrev after_steps : (Progress → Layout Record) → ℕ → Layout Record
after_steps next i = number is_tally (λ j. number is_tally (λ k. number (between 0 2) (λ l. next (progress_of i j k l))))

abbrev after_values : (Progress → Layout Record) → ℕ → ℕ → Layout Record
after_values next i j = number is_tally (λ k. number (between 0 2) (λ l. next (progress_of i j k l)))

abbrev after_derivatives : (Progress → Layout Record) → ℕ → ℕ → ℕ → Layout Record
after_derivatives next i j k = number (between 0 2) (λ l. next (progress_of i j k l))

module _ (s : List ℕ) (at : ℕ) where
  pub no_steps : number_of (drop at s) ≡ none → NoPart progress_layout s at
  unfolding progress_layout
  no_steps x = record { fails = λ next. (tally_missed x).fails (after_steps next) }

  module _ {i p : ℕ} (x : TookOne s at i p) where
    steps_read : (next : Progress → Layout Record) → Goes (progress_layout next) s at (after_steps next i) p
    unfolding progress_layout
    steps_read next = (tally_held x).goes (after_steps next)

    pub no_values : number_of (drop p s) ≡ none → NoPart progress_layout s at
    no_values y = record { fails = λ next. goes_wrong (steps_read next) ((tally_missed y).fails (after_values next i)) }

    module _ {j q : ℕ} (y : TookOne s p j q) where
      values_read : (next : Progress → Layout Record) → Goes (progress_layout next) s at (after_values next i j) q
      values_read next = goes_on (steps_read next) ((tally_held y).goes (after_values next i))

      pub no_derivatives : number_of (drop q s) ≡ none → NoPart progress_layout s at
      no_derivatives z = record { fails = λ next. goes_wrong (values_read next) ((tally_missed z).fails (after_derivatives next i j)) }

      module _ {k t : ℕ} (z : TookOne s q k t) where
        derivatives_read : (next : Progress → Layout Record) → Goes (progress_layout next) s at (after_derivatives next i j k) t
        derivatives_read next = goes_on (values_read next) ((tally_held z).goes (after_derivatives next i j))

        pub no_mark : NoNumber (between 0 2) s t → NoPart progress_layout s at
        no_mark w = record { fails = λ next. goes_wrong (derivatives_read next) ((number_missed w).fails (λ l. next (progress_of i j k l))) }

        pub progress_is : {l u : ℕ} → TookNumber (between 0 2) s t l u → HeldPart progress_layout s at (progress_of i j k l) u
        progress_is w = record { goes = λ next. goes_on (derivatives_read next) ((number_held w).goes (λ l. next (progress_of i j k l))) }

-- ---- the kind and the method

abbrev after_first : (ℕ → ℕ → Layout Record) → ℕ → Layout Record
after_first next first = cond (eqb first 0) (behind_zero next) (next 1 first)

abbrev head_next : (Head → Layout Record) → ℕ → ℕ → Layout Record
head_next next kind method = next (record { kind = kind; method = method })

module _ (s : List ℕ) where
  pub no_first : NoNumber (between 0 5) s 0 → NoPart head_part s 0
  unfolding headed
  no_first x = record { fails = λ next. (number_missed x).fails (after_first (head_next next)) }

  module _ {i p : ℕ} (x : TookNumber (between 0 5) s 0 i p) where
    first_read : (next : ℕ → ℕ → Layout Record) → Goes (headed next) s 0 (after_first next i) p
    unfolding headed
    first_read next = (number_held x).goes (after_first next)

    pub old_head : (i ≡ 0 → ⊥) → HeldPart head_part s 0 (record { kind = 1; method = i }) p
    old_head z = record { goes = λ next. subst (λ (b : Bool). Goes (head_part next) s 0 (cond b (behind_zero (head_next next)) (head_next next 1 i)) p) (ne_eqb i 0 z) (first_read (head_next next)) }

    module _ (z : i ≡ 0) where
      zero_read : (next : ℕ → ℕ → Layout Record) → Goes (headed next) s 0 (behind_zero next) p
      zero_read next = subst (λ (b : Bool). Goes (headed next) s 0 (cond b (behind_zero next) (next 1 i)) p) (eq-eqb i 0 z) (first_read next)

      pub no_second : NoNumber (between 2 2) s p → NoPart head_part s 0
      no_second y = record { fails = λ next. goes_wrong (zero_read (head_next next)) ((number_missed y).fails (λ kind. number (between 1 5) (λ method. head_next next kind method))) }

      module _ {kind q : ℕ} (y : TookNumber (between 2 2) s p kind q) where
        kind_first : (next : ℕ → ℕ → Layout Record) → Goes (headed next) s 0 (number (between 1 5) (next kind)) q
        kind_first next = goes_on (zero_read next) ((number_held y).goes (λ kind. number (between 1 5) (next kind)))

        pub no_method : NoNumber (between 1 5) s q → NoPart head_part s 0
        no_method w = record { fails = λ next. goes_wrong (kind_first (head_next next)) ((number_missed w).fails (head_next next kind)) }

        pub new_head : {m t : ℕ} → TookNumber (between 1 5) s q m t → HeldPart head_part s 0 (record { kind = kind; method = m }) t
        new_head w = record { goes = λ next. goes_on (kind_first (head_next next)) ((number_held w).goes (head_next next kind)) }

-- ---- the tolerances

abbrev with_points : (Tolerances → Layout Record) → Float → Layout Record
with_points next value = double_part is_tolerance (λ point. next (tolerances_of value point))

abbrev after_value : ℕ → (Tolerances → Layout Record) → Float → Layout Record
after_value kind next value = cond (eqb kind 1) (next (one_eps value)) (with_points next value)

module _ (kind : ℕ) (s : List ℕ) (at : ℕ) where
  pub no_value : NoPart (double_part is_tolerance) s at → NoPart (tolerances_for kind) s at
  unfolding tolerances_for
  no_value x = record { fails = λ next. x.fails (after_value kind next) }

  module _ {value : Float} {p : ℕ} (x : HeldPart (double_part is_tolerance) s at value p) where
    value_read : (next : Tolerances → Layout Record) → Goes (tolerances_for kind next) s at (after_value kind next value) p
    unfolding tolerances_for
    value_read next = x.goes (after_value kind next)

    value_goes : (next : Tolerances → Layout Record) {b : Bool} → eqb kind 1 ≡ b → Goes (tolerances_for kind next) s at (cond b (next (one_eps value)) (with_points next value)) p
    value_goes next e = subst (λ (b : Bool). Goes (tolerances_for kind next) s at (cond b (next (one_eps value)) (with_points next value)) p) e (value_read next)

    pub one_tolerance : {t : Tolerances} → kind ≡ 1 → t ≡ one_eps value → HeldPart (tolerances_for kind) s at t p
    one_tolerance z f = record { goes = λ next. rw f (value_goes next (eq-eqb kind 1 z)) }

    module _ (z : kind ≡ 1 → ⊥) where
      pub no_point : NoPart (double_part is_tolerance) s p → NoPart (tolerances_for kind) s at
      no_point y = record { fails = λ next. goes_wrong (value_goes next (ne_eqb kind 1 z)) (y.fails (λ point. next (tolerances_of value point))) }

      pub two_tolerances : {point : Float} {q : ℕ} → HeldPart (double_part is_tolerance) s p point q → HeldPart (tolerances_for kind) s at (tolerances_of value point) q
      two_tolerances y = record { goes = λ next. goes_on (value_goes next (ne_eqb kind 1 z)) (y.goes (λ point. next (tolerances_of value point))) }

-- ---- the starts, the tolerances and the limit

-- doubles that were read into the front of an array
pub filled : {k : ℕ} (before : List Float) {s : List ℕ} {at : ℕ} {b : List Float} {p : ℕ} → k ≤ length before → HeldPart (doubles (length (take k before))) s at b p → HeldPart (doubles k) s at b p
filled {k} before h x = rw (length-take-le k before h) at x

pub not_filled : {k : ℕ} (before : List Float) {s : List ℕ} {at : ℕ} → k ≤ length before → NoPart (doubles (length (take k before))) s at → NoPart (doubles k) s at
not_filled {k} before h x = rw (length-take-le k before h) at x

module _ (m : ℕ) where
  not_four : (n : ℕ) → (n ≡ 4 → ⊥) → eqb m 4 ≡ true → eqb m n ≡ false
  not_four n z f = ne_eqb m n (λ q. z (sym q ∙ eqb-true m 4 f))

  -- Newton's second start is not looked at
  one_start : (x y z : Float) → eqb m 4 ≡ true → method_of m x y ≡ method_of m x z
  unfolding method_of
  one_start x y z f = rw (not_four 1 (λ e. omega (arith, e)) f, not_four 2 (λ e. omega (arith, e)) f, not_four 3 (λ e. omega (arith, e)) f, f)

  -- and so it does not matter what stands behind the starts that were read
  started : (b rest : List Float) → length b ≡ start_count m → method_of m (get_or (b ++ rest) 0 nan) (get_or (b ++ rest) 1 nan) ≡ started_at m b
  unfolding start_count started_at
  started b rest e = go b (eqb m 4) refl e
    where
      go : (b : List Float) (c : Bool) → eqb m 4 ≡ c → length b ≡ cond c 1 2 → method_of m (get_or (b ++ rest) 0 nan) (get_or (b ++ rest) 1 nan) ≡ method_of m (get_or b 0 nan) (get_or b 1 nan)
      go [] true f h = absurd (omega arith)
      go [] false f h = absurd (omega arith)
      go (x ∷ []) true f h = one_start x (get_or rest 0 nan) nan f
      go (x ∷ []) false f h = absurd (omega arith)
      go (x ∷ y ∷ b) c f h = refl

abbrev after_tolerances : ℕ → (Rule → Layout Record) → List Float → Tolerances → Layout Record
after_tolerances m next starts tolerances = number (between 0 greatest_limit) (λ limit. next (record { method = started_at m starts; tolerances = tolerances; limit = limit }))

abbrev after_starts : ℕ → ℕ → (Rule → Layout Record) → List Float → Layout Record
after_starts kind m next starts = tolerances_for kind (after_tolerances m next starts)

module _ (kind m : ℕ) (s : List ℕ) (at : ℕ) {k : ℕ} (e : k ≡ start_count m) where
  pub no_starts : NoPart (doubles k) s at → NoPart (rule_part kind m) s at
  unfolding rule_layout
  no_starts x = record { fails = λ next. rw (← e) (x.fails (after_starts kind m next)) }

  module _ {b : List Float} {p : ℕ} (x : HeldPart (doubles k) s at b p) where
    starts_read : (next : Rule → Layout Record) → Goes (rule_part kind m next) s at (after_starts kind m next b) p
    unfolding rule_layout
    starts_read next = rw (← e) (x.goes (after_starts kind m next))

    pub no_tolerances : NoPart (tolerances_for kind) s p → NoPart (rule_part kind m) s at
    no_tolerances y = record { fails = λ next. goes_wrong (starts_read next) (y.fails (after_tolerances m next b)) }

    module _ {tolerances : Tolerances} {q : ℕ} (y : HeldPart (tolerances_for kind) s p tolerances q) where
      tolerances_read : (next : Rule → Layout Record) → Goes (rule_part kind m next) s at (after_tolerances m next b tolerances) q
      tolerances_read next = goes_on (starts_read next) (y.goes (after_tolerances m next b))

      pub no_limit : NoNumber (between 0 greatest_limit) s q → NoPart (rule_part kind m) s at
      no_limit z = record { fails = λ next. goes_wrong (tolerances_read next) ((number_missed z).fails (λ limit. next (record { method = started_at m b; tolerances = tolerances; limit = limit }))) }

      pub rule_is :
          {limit u : ℕ} {method : Method} (rest : List Float) → TookNumber (between 0 greatest_limit) s q limit u → length b ≡ k → method ≡ method_of m (get_or (b ++ rest) 0 nan) (get_or (b ++ rest) 1 nan) →
          HeldPart (rule_part kind m) s at (record { method = method; tolerances = tolerances; limit = limit }) u
      rule_is {limit} {u} {method} rest z l n =
          record {
            goes = λ next.
                rw (n ∙ started m b rest (l ∙ e))
                (goes_on (tolerances_read next) ((number_held z).goes (λ limit. next (record { method = started_at m b; tolerances = tolerances; limit = limit }))));
          }

-- ---- a call

abbrev call_held : ℕ → ℕ → List Float → Rule → Call
call_held kind n b rule = record { kind = kind; coefficients = padded b; count = n; rule = rule }

abbrev after_count : (Call → Layout Record) → ℕ → ℕ → ℕ → Layout Record
after_count next kind m n = doubles n (λ b. rule_part kind m (λ rule. next (call_held kind n b rule)))

abbrev after_head : (Call → Layout Record) → Head → Layout Record
after_head next head = number (between 1 most_coefficients) (after_count next head.kind head.method)

module _ (s : List ℕ) where
  pub no_head : NoPart head_part s 0 → NoPart call_part s 0
  unfolding call_layout
  no_head x = record { fails = λ next. x.fails (after_head next) }

  module _ {head : Head} {p : ℕ} (x : HeldPart head_part s 0 head p) where
    head_read : (next : Call → Layout Record) → Goes (call_part next) s 0 (after_head next head) p
    unfolding call_layout
    head_read next = x.goes (after_head next)

    pub no_count : NoNumber (between 1 most_coefficients) s p → NoPart call_part s 0
    no_count y = record { fails = λ next. goes_wrong (head_read next) ((number_missed y).fails (after_count next head.kind head.method)) }

    module _ {n q : ℕ} (y : TookNumber (between 1 most_coefficients) s p n q) where
      count_read : (next : Call → Layout Record) → Goes (call_part next) s 0 (after_count next head.kind head.method n) q
      count_read next = goes_on (head_read next) ((number_held y).goes (after_count next head.kind head.method))

      pub no_coefficients : NoPart (doubles n) s q → NoPart call_part s 0
      no_coefficients z = record { fails = λ next. goes_wrong (count_read next) (z.fails (λ b. rule_part head.kind head.method (λ rule. next (call_held head.kind n b rule)))) }

      module _ {b : List Float} {t : ℕ} (z : HeldPart (doubles n) s q b t) where
        coefficients_read : (next : Call → Layout Record) → Goes (call_part next) s 0 (rule_part head.kind head.method (λ rule. next (call_held head.kind n b rule))) t
        coefficients_read next = goes_on (count_read next) (z.goes (λ b. rule_part head.kind head.method (λ rule. next (call_held head.kind n b rule))))

        pub no_rule : NoPart (rule_part head.kind head.method) s t → NoPart call_part s 0
        no_rule w = record { fails = λ next. goes_wrong (coefficients_read next) (w.fails (λ rule. next (call_held head.kind n b rule))) }

        pub call_is : {rule : Rule} {u : ℕ} → HeldPart (rule_part head.kind head.method) s t rule u → length b ≡ n → HeldPart call_part s 0 (record { kind = head.kind; coefficients = b ++ drop n noughts; count = n; rule = rule }) u
        unfolding padded
        call_is w l = record { goes = λ next. rw (ap (λ (j : ℕ). b ++ drop j noughts) (sym l)) (goes_on (coefficients_read next) (w.goes (λ rule. next (call_held head.kind n b rule)))) }

-- ---- an answer

-- it does not matter what stands behind the numbers that were read
answered : (kind : ℕ) (b rest : List Float) → length b ≡ numbers_for kind → answer_of kind (b ++ rest) ≡ answer_of kind b
unfolding answer_of numbers_for
answered kind b rest e = go b (eqb kind 0) (eqb kind 1) e
  where
    go :
        (b : List Float) (x y : Bool) → length b ≡ cond x 2 (cond y 3 0) →
        cond x (ByValue (get_or (b ++ rest) 0 nan) (get_or (b ++ rest) 1 nan)) (cond y (ByWidth (get_or (b ++ rest) 0 nan) (get_or (b ++ rest) 1 nan) (get_or (b ++ rest) 2 nan)) (Refused (kind - 10)))
        ≡ cond x (ByValue (get_or b 0 nan) (get_or b 1 nan)) (cond y (ByWidth (get_or b 0 nan) (get_or b 1 nan) (get_or b 2 nan)) (Refused (kind - 10)))
    go b false false h = refl
    go (u ∷ v ∷ b) true y h = refl
    go (u ∷ v ∷ w ∷ b) false true h = refl
    go [] true y h = absurd (omega arith)
    go (u ∷ []) true y h = absurd (omega arith)
    go [] false true h = absurd (omega arith)
    go (u ∷ []) false true h = absurd (omega arith)
    go (u ∷ v ∷ []) false true h = absurd (omega arith)

abbrev after_kind : (Answer → Layout Record) → ℕ → Layout Record
after_kind next kind = doubles (numbers_for kind) (λ numbers. next (answer_of kind numbers))

module _ (s : List ℕ) (at : ℕ) where
  pub no_kind : NoNumber is_kind s at → NoPart answer_layout s at
  unfolding answer_layout
  no_kind x = record { fails = λ next. (number_missed x).fails (after_kind next) }

  module _ {kind p : ℕ} (x : TookNumber is_kind s at kind p) where
    kind_read : (next : Answer → Layout Record) → Goes (answer_layout next) s at (after_kind next kind) p
    unfolding answer_layout
    kind_read next = (number_held x).goes (after_kind next)

    module _ {k : ℕ} (e : k ≡ numbers_for kind) where
      pub no_numbers : NoPart (doubles k) s p → NoPart answer_layout s at
      no_numbers y = record { fails = λ next. goes_wrong (kind_read next) (rw (← e) (y.fails (λ numbers. next (answer_of kind numbers)))) }

      pub answer_is : {b : List Float} {answer : Answer} {u : ℕ} (rest : List Float) → HeldPart (doubles k) s p b u → length b ≡ k → answer ≡ answer_of kind (b ++ rest) → HeldPart answer_layout s at answer u
      answer_is {b} rest y l f =
          record {
            goes = λ next.
                rw (f ∙ answered kind b rest (l ∙ e))
                (goes_on (kind_read next) (rw (← e) (y.goes (λ numbers. next (answer_of kind numbers)))));
          }

-- ---- a record

-- the record's layout is that of its parts
pub by_parts : record_layout ≡ call_layout after_call
unfolding record_layout call_layout rule_layout answer_layout progress_layout
by_parts = refl

abbrev content_of : Call → Answer → Progress → Record
content_of call answer progress =
    record { kind = call.kind; coefficients = call.coefficients; count = call.count; method = call.rule.method; tolerances = call.rule.tolerances; limit = call.rule.limit; outcome = record { answer = answer; progress = progress } }

abbrev after_answer : Call → Answer → Layout Record
after_answer call answer = progress_layout (λ progress. end (content_of call answer progress))

abbrev behind_call : Call → Layout Record
behind_call call = answer_layout (after_answer call)

module _ (s : List ℕ) where
  pub no_call : NoPart call_part s 0 → Fails record_layout s 0
  no_call x = rw by_parts (x.fails behind_call)

  module _ {call : Call} {p : ℕ} (x : HeldPart call_part s 0 call p) where
    call_read : Goes record_layout s 0 (behind_call call) p
    call_read = rw by_parts (x.goes behind_call)

    pub no_answer : NoPart answer_layout s p → Fails record_layout s 0
    no_answer y = goes_wrong call_read (y.fails (after_answer call))

    module _ {answer : Answer} {q : ℕ} (y : HeldPart answer_layout s p answer q) where
      answer_read : Goes record_layout s 0 (after_answer call answer) q
      answer_read = goes_on call_read (y.goes (after_answer call))

      pub no_progress : NoPart progress_layout s q → Fails record_layout s 0
      no_progress z = goes_wrong answer_read (z.fails (λ progress. end (content_of call answer progress)))

      pub record_is : {progress : Progress} {u : ℕ} → HeldPart progress_layout s q progress u → Goes record_layout s 0 (end (content_of call answer progress)) u
      record_is z = goes_on answer_read (z.goes (λ progress. end (content_of call answer progress)))

-- ---- a part, or no record

module _ {X : Type 0} {part : Part X} {s : List ℕ} {at : ℕ} (o : Option (Taken X)) where
  pub held_or : {taken : Taken X} → Ok taken ≡ ok_or o NoRecord → TookPart part s at o → HeldPart part s at taken.value taken.next
  held_or {taken} e t = rw (some o e) at t
    where
      some : (o : Option (Taken X)) → Ok taken ≡ ok_or o NoRecord → o ≡ Some taken
      some (Some x) e = cc
      some None e = cc

  pub none_or : {why : Refusal} → Err why ≡ ok_or o NoRecord → TookPart part s at o → NoPart part s at
  none_or {why} e t = rw (none o e) at t
    where
      none : (o : Option (Taken X)) → Err why ≡ ok_or o NoRecord → o ≡ None
      none (Some x) e = cc
      none None e = refl

-- ---- what reading tells

pub no_reading : (s : List ℕ) → Fails record_layout s 0 → Err NoRecord ≡ reading_of s
unfolding reading_of
no_reading s x = rw x.is

pub reading_is : (s : List ℕ) (r : Reading) → Goes record_layout s 0 (end r.content) r.length → Ok r ≡ reading_of s
unfolding reading_of read
reading_is s r x = rw x.is (ap (λ (n : ℕ). Ok (record { length = n; content = r.content })) (let h = x.within in let j = length-drop r.length s in omega arith))
