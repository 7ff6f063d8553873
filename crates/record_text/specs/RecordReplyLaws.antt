-- A call line's reply: a record written and put down as digits.
use Rattle.std.specs.Prelude.{ℕ, ◌-◌, ◌≤◌, ◌<◌, Bool, true, false, cond, List, [], ◌∷◌, ◌++◌, ◌≡◌, refl, ltb, length, take, drop, Float, Option, Result, Ok, Err, unwrap_or}
use Rattle.std.proofs.Common.{eq-zero-or-pos, arith, inl, inr, sym, ap, ◌∙◌, length-append, take_all, take_at, take-take}
use Rattle.std.proofs.Math.Seq.{length-take-le}
use borrow.Author.Tests.{le-ltb}
use Rattle.numerical.specs.declared.Outcome.{Outcome}
use Rattle.roots.specs.Calls.{answer}
use Rattle.rows.proofs.LayoutLaws.{fits_row}
use Rattle.records.specs.Records.{call_row, row_of, record_layout, holds_both, recordable, longest_record, newest, bytes_of, written_to, left_by}
use Rattle.records.proofs.RoundLaws.{recordable_parts}
use Rattle.records.proofs.BackLaws.{at_most_longest}
use Rattle.records.specs.declared.Record.{Record}
use Rattle.records.specs.declared.Refusal.{Refusal}
use Rattle.records.specs.declared.Refusal.TheVariants.{NoRoom, NoRecord}
use Rattle.line_text.specs.Calls.{request_of}
use Rattle.line_text.specs.Texts.{Put}
use Rattle.line_text.specs.TextLaws.{put_both}
use Rattle.line_text.specs.declared.call.Call.{Call}
use Rattle.record_text.specs.RecordTexts.{hex_bytes, refused_text, refusal_of, recorded_text, record_of, record_for, record_reply, line_record}

-- ---- a record written, or refused

record_short : (o : Record) → recordable o ≡ true → length (bytes_of o) ≤ longest_record
record_short o h = at_most_longest (fits_row record_layout (row_of o) (recordable_parts o h).1).1

-- what the result of writing tells
bytes_told : (b c : Bool) (k n : ℕ) → cond b (cond c (Err NoRoom) (Ok k)) (Err NoRecord) ≡ Ok n → (b ≡ true) × (k ≡ n)
bytes_told true false k n e = (refl, cc)
bytes_told true true k n e = cc
bytes_told false c k n e = cc

refusal_told : (b c : Bool) (k : ℕ) (refusal : Refusal) → (b ≡ true → c ≡ false) → cond b (cond c (Err NoRoom) (Ok k)) (Err NoRecord) ≡ Err refusal → b ≡ false
refusal_told false c k refusal h e = refl
refusal_told true false k refusal h e = cc
refusal_told true true k refusal h e = let q = h refl in cc

module _ (o : Record) (before : List ℕ) {v : Result ℕ Refusal} (x : v ≡ written_to o (length before)) where
  module _ {aside : List ℕ} (y : aside ≡ left_by o before (written_to o (length before))) {n : ℕ} (e : v ≡ Ok n) where
    both_told : (recordable o ≡ true) × (length (bytes_of o) ≡ n)
    unfolding written_to
    both_told = bytes_told (recordable o) (ltb (length before) (length (bytes_of o))) (length (bytes_of o)) n (sym x ∙ e)

    holds : aside ≡ bytes_of o ++ drop n before
    holds = y ∙ ap (left_by o before) (sym x ∙ e)

    front : take n aside ≡ bytes_of o
    front = rw holds (take_at (bytes_of o) (drop n before) n both_told.1)

    pub bytes_within : n ≤ length aside
    bytes_within = rw (holds, length-append (bytes_of o) (drop n before)) (let m = both_told.1 in omega arith)

    pub bytes_count : n ≡ length (take n aside)
    bytes_count = sym (ap length front ∙ both_told.1)

    pub recorded_put : (at : ℕ) (out : List ℕ) {out' out'' : List ℕ} {p r : ℕ} → Put out at (hex_bytes (take n aside)) out' p → Put out' p (10 ∷ []) out'' r → Put out at (recorded_text o) out'' r
    unfolding recorded_text
    recorded_put at out f g = rw (both_told.0, ← front) (put_both f g)

  pub unrecorded_put : {refusal : Refusal} {k : ℕ} (at : ℕ) (out : List ℕ) {out' : List ℕ} {r : ℕ} → v ≡ Err refusal → length before ≡ longest_record → {w : Option ℕ} → w ≡ refusal_of o.outcome.answer → k ≡ unwrap_or w 0 → Put out at (refused_text k) out' r → Put out at (recorded_text o) out' r
  unfolding recorded_text written_to
  unrecorded_put {refusal} at out e l f h g = rw (no_record, ← f, ← h) g
    where
      roomy : recordable o ≡ true → ltb (length before) (length (bytes_of o)) ≡ false
      roomy h = le-ltb (length before) (length (bytes_of o)) (let s = record_short o h in omega arith)

      no_record : recordable o ≡ false
      no_record = refusal_told (recordable o) (ltb (length before) (length (bytes_of o))) (length (bytes_of o)) refusal roomy (sym x ∙ e)

-- ---- a call searched

-- a record is told by its row, its tolerances and its answer
same_text : (o u : Record) → holds_both o.kind o.tolerances ≡ holds_both u.kind u.tolerances → row_of o ≡ row_of u → o.outcome ≡ u.outcome → recorded_text o ≡ recorded_text u
unfolding recorded_text
same_text o u b e f = rw (b, e, f)

same_front : (n : ℕ) (a : List Float) → n ≤ length a → take n (take 16 a) ≡ take n (take 16 (take n a))
same_front n a h = elim (eq-zero-or-pos (n - 16)) [ inl e ↦ few (omega arith) | inr g ↦ many (omega arith) ]
  where
    few : n ≤ 16 → take n (take 16 a) ≡ take n (take 16 (take n a))
    few l = take-take n 16 a l ∙ sym (rw (take_all 16 (take n a) (let m = length-take-le n a h in omega arith)) (take-take n n a (omega arith)))

    many : 16 < n → take n (take 16 a) ≡ take n (take 16 (take n a))
    many l = rw (take-take 16 n a (omega arith))

module _ (a : List Float) (c : Call) (h : c.count ≤ length a) where
  -- the record that the code makes, with the first 16 doubles of the array
  abbrev kept : List Float → Outcome → Record
  kept front o = record { kind = newest; coefficients = front; count = c.count; method = c.method; tolerances = c.tolerances; limit = c.limit; outcome = o }

  same_row : (front : List Float) (o : Outcome) → front ≡ take 16 a → o ≡ answer (take c.count a) c.method c.tolerances c.limit → row_of (kept front o) ≡ row_of (record_of (take c.count a) c.method c.tolerances c.limit)
  unfolding row_of call_row
  same_row front o e f = rw (e, f, length-take-le c.count a h, same_front c.count a h)

  pub searched_put : (at : ℕ) (out : List ℕ) {front : List Float} {o : Outcome} {now : List ℕ} {r : ℕ} → front ≡ take 16 a → o ≡ answer (take c.count a) c.method c.tolerances c.limit → Put out at (recorded_text (record { kind = newest; coefficients = front; count = c.count; method = c.method; tolerances = c.tolerances; limit = c.limit; outcome = o })) now r → Put out at (record_for (request_of c a)) now r
  searched_put at out {front} {o} e f g = rw (same_text (kept front o) (record_of (take c.count a) c.method c.tolerances c.limit) refl (same_row front o e f) f) at g

-- the reply to a line that was kept whole
pub reply_to_line : (t : List ℕ) → line_record false t ≡ record_reply t
reply_to_line t = refl
