-- The theorems about what specs/RecordPromises.antt defines.
use Rattle.std.specs.Prelude.{ℕ, zero, suc, ◌-◌, ◌≤◌, ◌<◌, Bool, true, false, Option, Some, Result, Ok, Err, ◌≡◌, ltb, take, Float}
use native.Mathlib.Omega.{arith}
use Rattle.std.proofs.Common.{true≢false, inl, inr, sym, ◌∙◌, take_at, drop_at, ltb-true, ltb-false}
use mathlib.Core.List.{List, [], ◌∷◌, ◌++◌}
use Rattle.std.proofs.Math.Path.{refl, ap, subst}
use Rattle.std.proofs.Math.ListN.{length, drop, length-append}
use Rattle.std.specs.Float.{binary64}
use Rattle.std.specs.Float.Ieee.{fits}
use Rattle.numerical.specs.Answers.{numbers_of, padded, counts_of}
use Rattle.numerical.specs.declared.Answer.{Answer}
use Rattle.numerical.specs.declared.Answer.TheVariants.{ByValue, ByWidth, Refused}
use Rattle.numerical.specs.contracts.Answer as the-answer
use Rattle.roots.specs.contracts.Method as the_method
use Rattle.roots.specs.Calls.{starts_of}
use Rattle.roots.specs.Methods.{method_of}
use Rattle.roots.specs.declared.Method.{Method}
use Rattle.roots.specs.declared.Method.TheVariants.{Brent, RegulaFalsi, Secant, NewtonRaphson, Polynom}
use Rattle.simple_convergency.specs.Stop.{tolerances_of}
use Rattle.rows.specs.Layouts.{spell, Read, held, wrong, read, Row}
use Rattle.rows.proofs.LayoutLaws.{row_fits, fits_row, row_only, row_back, none_right}
use denote.Array.{each}
use denote.Shadow.{shadow}
use mir.Val.{Val}
use Rattle.doubles.proofs.Compare.{of_true}
use denote.Triple.Clauses.{AtExit}
use contract.Lifetimes.{Lfts}
use borrow.Fn.Kinds.{GoodsP, Dens, ended_of}
use Rattle.records.proofs.write.Kinds as write-kinds
use Rattle.records.proofs.write.Reads as write-reads
use Rattle.roots_c.proofs.roots_record_write.Kinds as c-write-kinds
use Rattle.roots_c.proofs.roots_record_write.Reads as c-write-reads
use Rattle.roots_c.proofs.roots_record_read.Kinds as c-read-kinds
use Rattle.roots_c.proofs.roots_record_read.Reads as c-read-reads
use Rattle.roots_c.specs.Flat.{chosen_by}
use Rattle.roots_c.specs.FlatRecords.{outcome_from, record_from, refusal_of, bytes_in, verdict_for, left_for, points_of, content_of, words_of}
use Rattle.records.proofs.read.Kinds as read-kinds
use Rattle.records.proofs.read.Reads as read-reads
use Rattle.records.specs.Records.{between, row_of, record_layout, recordable, longest_record, bytes_of, refusal_number, written_to, left_by, told, reading_of}
use Rattle.records.specs.RoundLaws.{Held, Sound, trimmed}
use Rattle.records.proofs.RoundLaws.{row_right, recordable_parts, parts_recordable}
use Rattle.records.proofs.WriteLaws.{eleven, ten, enough}
use Rattle.records.proofs.BackLaws as back
use Rattle.records.specs.declared.Record.{Record}
use Rattle.records.specs.declared.Reading.{Reading}
use Rattle.records.specs.declared.Refusal.{Refusal}
use Rattle.records.specs.declared.Refusal.TheVariants.{NoRoom, NoRecord}
use Rattle.promises.specs.Returned.{Numbered}
use Rattle.promises.specs.Returned.{brent, illinois, secant, newton, polynom}
use Rattle.promises.specs.RecordLaws.{Recordable}
use Rattle.promises.proofs.RecordLaws.{recordable_if, if_recordable}
use Rattle.promises.specs.RecordPromises.{Writes, Reads}

-- ---- they hold of the definitions

same_refusal : {A : Type 0} {e f : Refusal} → ◌≡◌ {A = Result A Refusal} (Err e) (Err f) → e ≡ f
same_refusal q = cc

same_done : {A : Type 0} {x y : A} → ◌≡◌ {A = Result A Refusal} (Ok x) (Ok y) → x ≡ y
same_done q = cc

module _ (o : Record) (s : Sound o) (before : List ℕ) where
  none_recorded : recordable o ≡ false → Writes o before (Err NoRecord) before
  none_recorded e =
      record {
        eleven_exactly = (λ q w. true≢false (sym (if_recordable o s w) ∙ e), λ w. refl);
        ten_exactly = (λ q. (cc), λ w. absurd (true≢false (sym (if_recordable o s w.0) ∙ e)));
        ten_or_eleven = λ n q. inr (ap refusal_number (sym (same_refusal q)));
        left_alone = λ n q. refl;
        its_bytes = λ n q. (cc);
        its_length = λ n q. (cc);
        none_behind = λ n q. (cc);
        reads_back = λ n q. (cc);
        no_longer = λ n q. (cc);
        suffices = λ h q. (cc);
      }

  module _ (e : recordable o ≡ true) where
    right : Row record_layout (row_of o) (trimmed o)
    right = let p = recordable_parts o e in let r = fits_row record_layout (row_of o) p.1 in subst (Row record_layout (row_of o)) (sym (row_right o s p.0 r.1).1) r.1

    short : length (bytes_of o) ≤ longest_record
    short = back.at_most_longest right

    too_short : length before < length (bytes_of o) → Writes o before (Err NoRoom) before
    too_short h =
        record {
          eleven_exactly = (λ q. (cc), λ w. absurd (w (recordable_if o s e)));
          ten_exactly = (λ q. (recordable_if o s e, h), λ w. refl);
          ten_or_eleven = λ n q. inl (ap refusal_number (sym (same_refusal q)));
          left_alone = λ n q. refl;
          its_bytes = λ n q. (cc);
          its_length = λ n q. (cc);
          none_behind = λ n q. (cc);
          reads_back = λ n q. (cc);
          no_longer = λ n q. (cc);
          suffices = λ k q. absurd (let z = short in omega (arith, k, h, z));
        }

    now' : List ℕ
    now' = bytes_of o ++ drop (length (bytes_of o)) before

    module _ (h : length (bytes_of o) ≤ length before) where
      found_again : reading_of (bytes_of o ++ drop (length (bytes_of o)) before) ≡ Ok (record { length = length (bytes_of o); content = trimmed o })
      unfolding reading_of
      found_again =
          ap (told (length (bytes_of o ++ drop (length (bytes_of o)) before))) (row_back right (drop (length (bytes_of o)) before))
          ∙ ap (λ (n : ℕ). Ok (record { length = n; content = trimmed o })) (let a = length-append (bytes_of o) (drop (length (bytes_of o)) before) in let z : length (bytes_of o ++ drop (length (bytes_of o)) before) - length (drop (length (bytes_of o)) before) ≡ length (bytes_of o) = omega arith in z)

      all_written : Writes o before (Ok (length (bytes_of o))) (bytes_of o ++ drop (length (bytes_of o)) before)
      all_written =
          record {
            eleven_exactly = (λ q. (cc), λ w. absurd (w (recordable_if o s e)));
            ten_exactly = (λ q. (cc), λ w. absurd (omega (arith, w.1, h)));
            ten_or_eleven = λ n q. (cc);
            left_alone = λ n q. (cc);
            its_bytes = λ n q. take_at (bytes_of o) (drop (length (bytes_of o)) before) n (same_done q);
            its_length = λ n q. sym (same_done q);
            none_behind = λ n q. drop_at (bytes_of o) (drop (length (bytes_of o)) before) n (same_done q) ∙ ap (λ (k : ℕ). drop k before) (same_done q);
            reads_back = λ n q. found_again ∙ ap (λ (k : ℕ). Ok (record { length = k; content = trimmed o })) (same_done q);
            no_longer = λ n q. let z = short in let y = same_done q in omega arith;
            suffices = λ k q. (cc);
          }

  pub writes : Writes o before (written_to o (length before)) (left_by o before (written_to o (length before)))
  writes = go (recordable o) refl (ltb (length before) (length (bytes_of o))) refl
    where
      by : {v : Result ℕ Refusal} → v ≡ written_to o (length before) → Writes o before v (left_by o before v) → Writes o before (written_to o (length before)) (left_by o before (written_to o (length before)))
      by q w = subst (λ (v : Result ℕ Refusal). Writes o before v (left_by o before v)) q w

      go : (b : Bool) → recordable o ≡ b → (c : Bool) → ltb (length before) (length (bytes_of o)) ≡ c → Writes o before (written_to o (length before)) (left_by o before (written_to o (length before)))
      go false e c f = by (eleven o before e) (none_recorded e)
      go true e true f = let h = ltb-true (length before) (length (bytes_of o)) f in by (ten o before e h) (too_short e h)
      go true e false f = let h = ltb-false (length before) (length (bytes_of o)) f in by (enough o before e h) (all_written e h)

-- ---- reading

module _ (s : List ℕ) where
  none_read : read record_layout s ≡ wrong → Reads s (Err NoRecord)
  none_read e =
      record {
        eleven_exactly = (λ q w. none_right record_layout s e (row_of w.0) w.1 (recordable_parts w.0 (if_recordable w.0 w.2 w.3)).1 w.4, λ w. refl);
        only_eleven = λ n q. ap refusal_number (sym (same_refusal q));
        all_zero = λ n q. refl;
        is_record = λ n q. (cc);
        its_bytes = λ n q. (cc);
        its_length = λ n q. (cc);
        none_behind = λ n q. (cc);
        writes_back = λ n q. (cc);
        no_longer = λ n q. (cc);
      }

  module _ (o : Record) (t : List ℕ) (e : read record_layout s ≡ held o t) where
    as_written : Rattle.rows.specs.LayoutLaws.Written record_layout s o t
    as_written = row_only record_layout s o t e

    own_row : row_of o ≡ as_written.numbers
    own_row = back.row_back as_written.row

    own_right : Row record_layout (row_of o) o
    own_right = subst (λ (l : List ℕ). Row record_layout l o) (sym own_row) as_written.row

    own_bytes : s ≡ bytes_of o ++ t
    own_bytes = as_written.is ∙ ap (λ (l : List ℕ). spell l ++ t) (sym own_row)

    as_long : length s - length t ≡ length (bytes_of o)
    as_long = let a = ap length own_bytes ∙ length-append (bytes_of o) t in omega arith

    fits_it : recordable o ≡ true
    fits_it = parts_recordable o (back.row_both own_right) (row_fits own_right)

    own_sound : Sound o
    own_sound = back.row_sound own_right

    own_front : (n : ℕ) → length s - length t ≡ n → take n s ≡ bytes_of o
    own_front n q = ap (take n) own_bytes ∙ take_at (bytes_of o) t n (sym as_long ∙ q)

    again : (n : ℕ) → length s - length t ≡ n → (u : List ℕ) → reading_of (take n s ++ u) ≡ Ok (record { length = length s - length t; content = o })
    unfolding reading_of
    again n q u =
        ap (λ (l : List ℕ). told (length (l ++ u)) (read record_layout (l ++ u))) (own_front n q)
        ∙ ap (told (length (bytes_of o ++ u))) (row_back own_right u)
        ∙ ap (λ (k : ℕ). Ok (record { length = k; content = o })) (let a = length-append (bytes_of o) u in let b = as_long in let z : length (bytes_of o ++ u) - length u ≡ length s - length t = omega arith in z)

    written_back : (n : ℕ) → length s - length t ≡ n → (before : List ℕ) → n ≤ length before → (written_to o (length before) ≡ Ok n) × (left_by o before (Ok n) ≡ take n s ++ drop n before)
    written_back n q before h =
        let k : length (bytes_of o) ≡ n = sym as_long ∙ q in
        (sym (enough o before fits_it (omega (arith, k, h))) ∙ ap Ok k, ap (λ (l : List ℕ). l ++ drop n before) (sym (own_front n q)))

    abbrev told_one : Reading
    told_one = record { length = length s - length t; content = o }

    -- what holds of it holds of what was told
    there : (P : Reading → Type 0) → P told_one → (r : Reading) → ◌≡◌ {A = Result Reading Refusal} (Ok told_one) (Ok r) → P r
    there P p r q = subst P (same_done q) p

    one_read : Reads s (Ok told_one)
    one_read =
        record {
          eleven_exactly = (λ q. (cc), λ w. absurd (w (o, t, own_sound, recordable_if o own_sound fits_it, own_bytes)));
          only_eleven = λ n q. (cc);
          all_zero = λ n q. (cc);
          is_record = there (λ (r : Reading). Sound r.content × Recordable r.content) (own_sound, recordable_if o own_sound fits_it);
          its_bytes = there (λ (r : Reading). take r.length s ≡ bytes_of r.content) (own_front _ refl);
          its_length = there (λ (r : Reading). r.length ≡ length (bytes_of r.content)) as_long;
          none_behind = there (λ (r : Reading). (u : List ℕ) → reading_of (take r.length s ++ u) ≡ Ok told_one) (again _ refl);
          writes_back = there (λ (r : Reading). (before : List ℕ) → r.length ≤ length before → (written_to r.content (length before) ≡ Ok r.length) × (left_by r.content before (Ok r.length) ≡ take r.length s ++ drop r.length before)) (written_back _ refl);
          no_longer = there (λ (r : Reading). r.length ≤ longest_record) (let a = back.at_most_longest own_right in let b = as_long in omega arith);
        }

  pub reads : Reads s (reading_of s)
  unfolding reading_of
  reads = go (read record_layout s) refl
    where
      go : (f : Read Record) → read record_layout s ≡ f → Reads s (told (length s) (read record_layout s))
      go wrong e = subst (λ (f : Read Record). Reads s (told (length s) f)) (sym e) (none_read e)
      go (held o t) e = subst (λ (f : Read Record). Reads s (told (length s) f)) (sym e) (one_read o t e)

-- ---- whatever the contract of `write` allows

-- the elements of an array of f64 are values of the format
held_each : (l : List Float) (vals : List Val) → shadow (each Float (denote.Struct.Field.f64-field).row.own_val l vals) → Held l
held_each [] vals p = tt
held_each (x ∷ l) [] p = absurd p
held_each (x ∷ l) (v ∷ vals) p = (of_true _ p.0.1, held_each l vals p.1)

held_front : (k : ℕ) (l : List Float) → Held l → Held (take k l)
held_front zero l h = tt
held_front (suc k) [] h = tt
held_front (suc k) (x ∷ l) h = (h.0, held_front k l h.1)

-- and so are the starts of a method and the numbers of an answer
held_starts : (m : Method) (vals : List Val) → shadow ((the_method.the_field).row.own_val ((the_method.the_field).into m) vals) → Held (starts_of m)
held_starts (Brent from to) vals p = (of_true _ p.1.1.1.1.0.1, (of_true _ p.1.1.1.1.1.0.1, tt))
held_starts (RegulaFalsi from to) vals p = (of_true _ p.1.1.1.1.0.1, (of_true _ p.1.1.1.1.1.0.1, tt))
held_starts (Secant first second) vals p = (of_true _ p.1.1.1.1.0.1, (of_true _ p.1.1.1.1.1.0.1, tt))
held_starts (NewtonRaphson start) vals p = (of_true _ p.1.1.1.1.0.1, tt)
held_starts (Polynom from to) vals p = (of_true _ p.1.1.1.1.0.1, (of_true _ p.1.1.1.1.1.0.1, tt))

held_numbers : (a : Answer) (vals : List Val) → shadow ((the-answer.the_field).row.own_val ((the-answer.the_field).into a) vals) → Held (numbers_of a)
held_numbers (ByValue root value) vals p = (of_true _ p.1.1.1.1.0.1, (of_true _ p.1.1.1.1.1.0.1, tt))
held_numbers (ByWidth root x y) vals p = (of_true _ p.1.1.1.1.0.1, (of_true _ p.1.1.1.1.1.0.1, (of_true _ p.1.1.1.1.1.1.0.1, tt)))
held_numbers (Refused n) vals p = tt

module _ (κs : Lfts 1) (args : Dens κs write-kinds.ps) (g : GoodsP κs write-kinds.ps args) where
  value_held : fits binary64 args.0.tolerances.value ≡ true
  value_held = search g.0

  point_held : fits binary64 args.0.tolerances.point ≡ true
  point_held = search g.0

  coefficients_held : Held args.0.coefficients
  coefficients_held = held_each args.0.coefficients _ g.0.1.1.1.0.1.1

  sound_args : Sound args.0
  sound_args =
      record {
        kind = search g.0;
        all = g.0.1.1.1.0.1.0.1;
        coefficients = held_front args.0.count args.0.coefficients coefficients_held;
        starts = held_starts args.0.method _ g.0.1.1.1.1.1.0;
        value_tolerance = of_true _ value_held;
        point_tolerance = of_true _ point_held;
        limit = search g.0;
        numbers = held_numbers args.0.outcome.answer _ g.0.1.1.1.1.1.1.1.1.0.1.1.0;
        steps = search g.0.1.1.1.1.1.1.1.1.0.1.1.1.0;
        values = search g.0.1.1.1.1.1.1.1.1.0.1.1.1.0;
        derivatives = search g.0.1.1.1.1.1.1.1.1.0.1.1.1.0;
      }

pub write_keeps :
    (κs : Lfts 1) (args : Dens κs write-kinds.ps) → GoodsP κs write-kinds.ps args → (v : Result ℕ Refusal) (last : AtExit (ended_of 1 write-kinds.ps write-kinds.r) κs) →
    write-reads.Learnt κs args v last → Writes args.0 args.1.0.now v last.1.0.now
write_keeps κs args good v last allowed =
    subst (λ (b : List ℕ). Writes args.0 args.1.0.now v b) (sym allowed.1)
    (subst (λ (w : Result ℕ Refusal). Writes args.0 args.1.0.now w (left_by args.0 args.1.0.now (written_to args.0 (length args.1.0.now)))) (sym allowed.0)
    (writes args.0 (sound_args κs args good) args.1.0.now))

-- ---- whatever the contract of `read` allows

pub read_keeps :
    (κs : Lfts 1) (args : Dens κs read-kinds.ps) (v : Result Reading Refusal) (last : AtExit (ended_of 1 read-kinds.ps read-kinds.r) κs) → read-reads.Learnt κs args v last → Reads args.0.now v
read_keeps κs args v last allowed = subst (Reads args.0.now) (sym allowed) (reads args.0.now)

-- ---- C's two calls

-- a method's number chooses it
chosen_is : {first second : Float} {n : ℕ} {m : Method} → Numbered first second n m → chosen_by n first second ≡ Some m
unfolding chosen_by between method_of
chosen_is brent = refl
chosen_is illinois = refl
chosen_is secant = refl
chosen_is newton = refl
chosen_is polynom = refl

-- whatever the contract of `roots_record_write` allows for a method's number: a verdict that keeps its promises, as a refusal, the bytes and a length.
-- That what is handed over are doubles, and numbers of 64 bits, is asked: the language tells it of an f64 and a u64, and not of those in a lent slice.
pub roots_record_write_keeps :
    (κs : Lfts 5) (args : Dens κs c-write-kinds.ps) (refusal : ℕ) (last : AtExit (ended_of 5 c-write-kinds.ps c-write-kinds.r) κs) → c-write-reads.Learnt κs args refusal last →
    (m : Method) → Numbered args.1.1.1.0 args.1.1.1.1.0 args.1.1.0 m →
    Sound (record_from args.0 args.1.0.now m (tolerances_of args.1.1.1.1.1.0 args.1.1.1.1.1.1.0) args.1.1.1.1.1.1.1.0 (outcome_from args.1.1.1.1.1.1.1.1.0 args.1.1.1.1.1.1.1.1.1.0.now args.1.1.1.1.1.1.1.1.1.1.0.now)) →
    (v : Result ℕ Refusal)
    × Writes (record_from args.0 args.1.0.now m (tolerances_of args.1.1.1.1.1.0 args.1.1.1.1.1.1.0) args.1.1.1.1.1.1.1.0 (outcome_from args.1.1.1.1.1.1.1.1.0 args.1.1.1.1.1.1.1.1.1.0.now args.1.1.1.1.1.1.1.1.1.1.0.now)) args.1.1.1.1.1.1.1.1.1.1.1.0.now v last.1.1.1.1.1.1.1.1.1.1.1.0.now
    × (refusal ≡ refusal_of v)
    × (last.1.1.1.1.1.1.1.1.1.1.1.1.0.now ≡ bytes_in v)
roots_record_write_keeps κs args refusal last allowed m b sound =
    let before = args.1.1.1.1.1.1.1.1.1.1.1.0.now in
    let o = record_from args.0 args.1.0.now m (tolerances_of args.1.1.1.1.1.0 args.1.1.1.1.1.1.0) args.1.1.1.1.1.1.1.0 (outcome_from args.1.1.1.1.1.1.1.1.0 args.1.1.1.1.1.1.1.1.1.0.now args.1.1.1.1.1.1.1.1.1.1.0.now) in (
      written_to o (length before),
      subst (λ (l : List ℕ). Writes o before (written_to o (length before)) l) (sym (allowed.1.0 ∙ ap (left_for args.0 args.1.0.now (tolerances_of args.1.1.1.1.1.0 args.1.1.1.1.1.1.0) args.1.1.1.1.1.1.1.0 (outcome_from args.1.1.1.1.1.1.1.1.0 args.1.1.1.1.1.1.1.1.1.0.now args.1.1.1.1.1.1.1.1.1.1.0.now) before) (chosen_is b))) (writes o sound before),
      allowed.0 ∙ ap (λ (c : Option Method). refusal_of (verdict_for args.0 args.1.0.now (tolerances_of args.1.1.1.1.1.0 args.1.1.1.1.1.1.0) args.1.1.1.1.1.1.1.0 (outcome_from args.1.1.1.1.1.1.1.1.0 args.1.1.1.1.1.1.1.1.1.0.now args.1.1.1.1.1.1.1.1.1.1.0.now) before c)) (chosen_is b),
      allowed.1.1 ∙ ap (λ (c : Option Method). bytes_in (verdict_for args.0 args.1.0.now (tolerances_of args.1.1.1.1.1.0 args.1.1.1.1.1.1.0) args.1.1.1.1.1.1.1.0 (outcome_from args.1.1.1.1.1.1.1.1.0 args.1.1.1.1.1.1.1.1.1.0.now args.1.1.1.1.1.1.1.1.1.1.0.now) before c)) (chosen_is b),
    )

-- whatever the contract of `roots_record_read` allows: a reading that keeps its promises, in a refusal and five buffers
pub roots_record_read_keeps :
    (κs : Lfts 6) (args : Dens κs c-read-kinds.ps) (refusal : ℕ) (last : AtExit (ended_of 6 c-read-kinds.ps c-read-kinds.r) κs) → c-read-reads.Learnt κs args refusal last →
    (v : Result Reading Refusal)
    × Reads args.0.now v
    × (refusal ≡ refusal_of v)
    × (last.1.0.now ≡ (content_of v).coefficients)
    × (last.1.1.0.now ≡ points_of (content_of v).method (content_of v).tolerances)
    × (last.1.1.1.0.now ≡ padded (numbers_of (content_of v).outcome.answer))
    × (last.1.1.1.1.0.now ≡ counts_of (content_of v).outcome.progress)
    × (last.1.1.1.1.1.0.now ≡ words_of v)
roots_record_read_keeps κs args refusal last allowed =
    (reading_of args.0.now, reads args.0.now, allowed.0, allowed.1.0, allowed.1.1.0, allowed.1.1.1.0, allowed.1.1.1.1.0, allowed.1.1.1.1.1)
