-- The parts of a record put one after the other, and a record written or refused.
use Rattle.std.specs.Prelude.{ℕ, ◌+◌, ◌*◌, ◌-◌, ◌≤◌, ◌<◌, Bool, true, ◌⊎◌, eqb, min, Result, Ok, Err, length, take, drop, get_or, Float}
use Rattle.std.proofs.Common.{add-one, arith, true≢false, inl, inr, sym, ◌∙◌, length-append, take_all}
use Rattle.std.proofs.Math.Bool.{false}
use mathlib.Core.List.{List, [], ◌∷◌, ◌++◌, append_assoc}
use Rattle.std.proofs.Math.Path.{◌≡◌, refl, ap}
use Rattle.std.proofs.Math.Seq.{take-suc}
use Rattle.std.proofs.lemmas.List.{length-take, take_min}
use Rattle.std.specs.Float.Ieee.{nan, to_bits}
use Rattle.std.specs.Float.{binary64}
use borrow.Author.Tests.{lt-ltb, le-ltb, eq-eqb, ne_eqb}
use Rattle.numerical.specs.Answers.{kind_of, numbers_of, padded, counts_of}
use Rattle.numerical.specs.declared.Answer.{Answer}
use Rattle.numerical.specs.declared.Answer.TheVariants.{ByValue, ByWidth, Refused}
use Rattle.simple_convergency.specs.declared.Tolerances.{Tolerances}
use Rattle.roots.specs.Calls.{starts_of, two_starts}
use Rattle.roots.specs.Methods.{method_number, start_count}
use Rattle.roots.proofs.CallLaws.{few_starts, own_starts}
use Rattle.roots.specs.declared.Method.{Method}
use Rattle.rows.specs.Layouts.{spell, fits, Read, held, wrong, read}
use Rattle.rows.proofs.LayoutLaws.{row_only, right_if, wrong_if_none, wrong_if_short}
use Rattle.rows.specs.Puts.{PutRow}
use Rattle.rows.proofs.PutLaws.{put_front, row_nothing, row_both}
use Rattle.records.specs.Records.{bits_of, head_row, tolerances_row, rule_row, call_row, answer_row, progress_row, row_of, record_layout, holds_both, numbers_for, own_count, recordable, bytes_of, written_to, left_by, told, reading_of}
use Rattle.records.specs.Parts.{is_all, whole_of}
use Rattle.records.specs.Drafts.{Puts}
use Rattle.records.specs.declared.Draft.{Draft}
use Rattle.records.specs.declared.Record.{Record}
use Rattle.records.specs.declared.Reading.{Reading}
use Rattle.records.specs.declared.Refusal.{Refusal}
use Rattle.records.specs.declared.Refusal.TheVariants.{NoRoom, NoRecord}

-- ---- doubles

pub bits_append : (a b : List Float) → bits_of (a ++ b) ≡ bits_of a ++ bits_of b
unfolding bits_of
bits_append [] b = refl
bits_append (x ∷ a) b = ap (λ (l : List ℕ). to_bits binary64 x ∷ l) (bits_append a b)

pub doubles_start : (d : Draft) (a : List Float) → d.length ≤ length d.bytes → Puts (10 * 0) (bits_of (take 0 a)) d d
unfolding bits_of
doubles_start d a h = record { put = row_nothing d.bytes d.length h; near = omega arith }

module _ (a : List Float) (i : ℕ) {before now : Draft} (g : Puts (10 * i) (bits_of (take i a)) before now) where
  pub doubles_on : {n : ℕ} {after : Draft} → i < length a → n ≡ to_bits binary64 (get_or a i nan) → Puts 10 (n ∷ []) now after → Puts (10 * (i + 1)) (bits_of (take (i + 1) a)) before after
  unfolding bits_of
  doubles_on {n} {after} h e x = record { put = rw bits (row_both g.put x.put); near = let y = g.near in let z = x.near in omega arith }
    where
      bits : bits_of (take (i + 1) a) ≡ bits_of (take i a) ++ (n ∷ [])
      bits = rw (add-one i, take-suc a i nan h, bits_append, e)

  pub doubles_done : length a ≤ i → i ≤ length a → Puts (10 * length a) (bits_of a) before now
  doubles_done h l = record { put = rw (take_all i a h) at g.put; near = let y = g.near in omega arith }

-- ---- numbers

pub numbers_start : (d : Draft) (row : List ℕ) → d.length ≤ length d.bytes → Puts (10 * 0) (take 0 row) d d
numbers_start d row h = record { put = row_nothing d.bytes d.length h; near = omega arith }

module _ (row : List ℕ) (i : ℕ) {before now : Draft} (g : Puts (10 * i) (take i row) before now) where
  pub numbers_on : {after : Draft} → i < length row → Puts 10 (get_or row i 0 ∷ []) now after → Puts (10 * (i + 1)) (take (i + 1) row) before after
  numbers_on {after} h x = record { put = rw (add-one i, take-suc row i 0 h) (row_both g.put x.put); near = let y = g.near in let z = x.near in omega arith }

  pub numbers_done : length row ≤ i → i ≤ length row → Puts (10 * length row) row before now
  numbers_done h l = record { put = rw (take_all i row h) at g.put; near = let y = g.near in omega arith }

-- ---- a method's own starts, and a record's own coefficients

-- the coefficients up to its count, of 16 at most
pub own_are : (k : Record) {count : ℕ} → count ≡ own_count k → length k.coefficients ≡ 16 → take count k.coefficients ≡ take k.count k.coefficients
own_are k e l = ap (λ (i : ℕ). take i k.coefficients) (e ∙ ap (min k.count) (sym l)) ∙ take_min k.count k.coefficients

module _ {before now : Draft} where
  pub starts_put :
      (m : Method) {number count : ℕ} {two : List Float} → number ≡ method_number m → count ≡ start_count number → two ≡ two_starts m →
      Puts (10 * length (take count two)) (bits_of (take count two)) before now → Puts 20 (bits_of (starts_of m)) before now
  starts_put m {number} {count} {two} e f g x = record { put = rw (own_starts m e f g) at x.put; near = let y = x.near in let z = length-take count two in let few = few_starts number f in omega arith }

  pub own_put :
      (k : Record) {count : ℕ} → count ≡ own_count k → length k.coefficients ≡ 16 →
      Puts (10 * length (take count k.coefficients)) (bits_of (take count k.coefficients)) before now → Puts 160 (bits_of (take k.count k.coefficients)) before now
  own_put k {count} e l x = record { put = rw (own_are k e l) at x.put; near = let y = x.near in let z = length-take count k.coefficients in omega arith }

-- ---- the parts of a record

-- as many of an answer's numbers as its kind has
own_numbers : (o : Answer) (n : ℕ) → n ≡ kind_of o → take (numbers_for n) (padded (numbers_of o)) ≡ numbers_of o
unfolding numbers_for
own_numbers (ByValue x y) n e = rw e
own_numbers (ByWidth x y z) n e = rw e
own_numbers (Refused m) n e = rw (ne_eqb n 0 (λ z. omega arith), ne_eqb n 1 (λ z. omega arith))

module _ (a : List ℕ) (at : ℕ) {b : List ℕ} {p : ℕ} where
  pub old_head_put : (kind : ℕ) (m : Method) {n : ℕ} → kind ≡ 1 → n ≡ method_number m → PutRow a at (n ∷ []) b p → PutRow a at (head_row kind ++ (method_number m ∷ [])) b p
  unfolding head_row
  old_head_put kind m e f y = rw (eq-eqb kind 1 e, ← f) y

  pub new_head_put : (kind : ℕ) (m : Method) {n : ℕ} → (kind ≡ 1 → ⊥) → n ≡ method_number m → PutRow a at (0 ∷ kind ∷ n ∷ []) b p → PutRow a at (head_row kind ++ (method_number m ∷ [])) b p
  unfolding head_row
  new_head_put kind m z f x = rw (ne_eqb kind 1 z, ← f) x

  pub one_put : (kind : ℕ) (t : Tolerances) → kind ≡ 1 → PutRow a at (bits_of (t.value ∷ [])) b p → PutRow a at (tolerances_row kind t) b p
  unfolding tolerances_row bits_of
  one_put kind t e y = rw (eq-eqb kind 1 e) y

  pub two_put : (kind : ℕ) (t : Tolerances) → (kind ≡ 1 → ⊥) → PutRow a at (bits_of (t.value ∷ t.point ∷ [])) b p → PutRow a at (tolerances_row kind t) b p
  unfolding tolerances_row bits_of
  two_put kind t z y = rw (ne_eqb kind 1 z) y

  module _ {c : List ℕ} {q : ℕ} where
    pub answer_put :
        (o : Answer) {n k : ℕ} {l : List Float} → n ≡ kind_of o → k ≡ numbers_for n → l ≡ padded (numbers_of o) → PutRow a at (n ∷ []) b p → PutRow b p (bits_of (take k l)) c q →
        PutRow a at (answer_row o) c q
    unfolding answer_row
    answer_put o {n} {k} {l} e f g x y = rw (← e) (rw (own_numbers o n e) at (rw (f, g) at (row_both x y)))

    module _ {d : List ℕ} {r : ℕ} where
      pub rule_put :
          (kind : ℕ) (m : Method) (t : Tolerances) (limit : ℕ) → PutRow a at (bits_of (starts_of m)) b p → PutRow b p (tolerances_row kind t) c q → PutRow c q (limit ∷ []) d r →
          PutRow a at (rule_row kind m t limit) d r
      unfolding rule_row
      rule_put kind m t limit x y z = row_both x (row_both y z)

      pub call_put :
          (k : Record) {e : List ℕ} {u : ℕ} → PutRow a at (head_row k.kind ++ (method_number k.method ∷ [])) b p → PutRow b p (k.count ∷ []) c q →
          PutRow c q (bits_of (take k.count k.coefficients)) d r → PutRow d r (rule_row k.kind k.method k.tolerances k.limit) e u → PutRow a at (call_row k) e u
      unfolding call_row
      call_put k {e} {u} x y z w =
          rw (append_assoc (head_row k.kind) (method_number k.method ∷ []) (k.count ∷ (bits_of (take k.count k.coefficients) ++ rule_row k.kind k.method k.tolerances k.limit))) at
          (row_both x (row_both y (row_both z w)))

pub record_put :
    (k : Record) {before called answered now : Draft} {counts : List ℕ} → counts ≡ counts_of k.outcome.progress → Puts 250 (call_row k) before called →
    Puts 40 (answer_row k.outcome.answer) called answered → Puts (10 * length counts) counts answered now → Puts 330 (row_of k) before now
unfolding row_of progress_row
record_put k f x y z =
    let last = rw f at z in
    record { put = row_both x.put (row_both y.put last.put); near = let a = x.near in let b = y.near in let c = last.near in omega arith }

-- ---- a record written, or refused

-- kind 1 has room for both tolerances where their bits are the same
pub same_bits : (kind : ℕ) (t : Tolerances) {i j : ℕ} → kind ≡ 1 → i ≡ to_bits binary64 t.value → j ≡ to_bits binary64 t.point → eqb i j ≡ holds_both kind t
unfolding holds_both
same_bits kind t e f g = rw (eq-eqb kind 1 e, ← f, ← g)

module _ {row bytes : List ℕ} {draft : Draft} (x : Puts 330 row (record { bytes = bytes; length = 0 }) draft) where
  -- the bytes that were put
  abbrev drawn : List ℕ
  drawn = take draft.length draft.bytes

  spelled : drawn ≡ spell row
  spelled = put_front x.put.put

  as_long : draft.length ≡ length (spell row)
  as_long = x.put.put.ends ∙ (let z : 0 + length (spell row) ≡ length (spell row) = omega arith in z)

-- what a reading says of the bytes
module _ (s : List ℕ) where
  pub whole_not : {refusal : Refusal} → Err refusal ≡ reading_of s → false ≡ whole_of s
  unfolding reading_of whole_of
  whole_not {refusal} e = go (read record_layout s) e
    where
      go : (f : Read Record) → Err refusal ≡ told (length s) f → false ≡ is_all f
      go wrong q = refl
      go (held o t) q = absurd (let z : ◌≡◌ {A = ℕ} 0 1 = cc in omega arith)

  pub whole_if : {r : Reading} → Ok r ≡ reading_of s → eqb r.length (length s) ≡ whole_of s
  unfolding reading_of whole_of
  whole_if {r} e = go (read record_layout s) refl e
    where
      go : (f : Read Record) → read record_layout s ≡ f → Ok r ≡ told (length s) f → eqb r.length (length s) ≡ is_all f
      go wrong g q = absurd (let z : ◌≡◌ {A = ℕ} 0 1 = cc in omega arith)
      go (held o t) g q = let u : r ≡ record { length = length s - length t; content = o } = cc in all_or_not t g (ap (λ (x : Reading). x.length) u)
        where
          all_or_not : (t : List ℕ) → read record_layout s ≡ held o t → r.length ≡ length s - length t → eqb r.length (length s) ≡ is_all (held o t)
          all_or_not [] g u = eq-eqb r.length (length s) (omega arith)
          all_or_not (c ∷ t) g u =
              let w = row_only record_layout s o (c ∷ t) g in
              let a = ap length w.is ∙ length-append (spell w.numbers) (c ∷ t) in
              ne_eqb r.length (length s) (λ z. omega arith)

-- a row is right exactly if its bytes are one record
all_held : (f : Read Record) → is_all f ≡ true → (o : Record) × (f ≡ held o [])
all_held (held o []) e = (o, refl)
all_held (held o (c ∷ t)) e = absurd (true≢false (sym e))
all_held wrong e = absurd (true≢false (sym e))

not_all : (f : Read Record) → is_all f ≡ false → (f ≡ wrong) ⊎ ((o : Record) × (t : List ℕ) × (f ≡ held o t) × (t ≡ [] → ⊥))
not_all wrong e = inl refl
not_all (held o []) e = absurd (true≢false e)
not_all (held o (c ∷ t)) e = inr (o, t', refl, λ z. absurd (let a = ap length z in omega arith))
  where
    t' : List ℕ
    t' = c ∷ t

module _ (o : Record) (before : List ℕ) where
  -- the verdict, and what it leaves
  both : {v w : Result ℕ Refusal} {now : List ℕ} → w ≡ v → v ≡ written_to o (length before) → now ≡ left_by o before v → (w ≡ written_to o (length before)) × (now ≡ left_by o before (written_to o (length before)))
  both e f g = (e ∙ f, g ∙ ap (left_by o before) f)

  pub eleven : recordable o ≡ false → Err NoRecord ≡ written_to o (length before)
  unfolding written_to
  eleven e = rw e

  pub ten : recordable o ≡ true → length before < length (bytes_of o) → Err NoRoom ≡ written_to o (length before)
  unfolding written_to
  ten e h = rw (e, lt-ltb (length before) (length (bytes_of o)) h)

  pub enough : recordable o ≡ true → length (bytes_of o) ≤ length before → Ok (length (bytes_of o)) ≡ written_to o (length before)
  unfolding written_to
  enough e h = rw (e, le-ltb (length before) (length (bytes_of o)) h)

  -- two tolerances that the kind has no room for
  pub no_room_for_both : {b : Bool} → b ≡ holds_both o.kind o.tolerances → b ≡ false → (Err NoRecord ≡ written_to o (length before)) × (before ≡ left_by o before (written_to o (length before)))
  no_room_for_both y e = both refl (eleven (rw (sym y ∙ e))) refl

module _ (before : List ℕ) (o : Record) {h : Bool} (k : h ≡ holds_both o.kind o.tolerances) (j : h ≡ true) {bytes : List ℕ} {draft : Draft} (x : Puts 330 (row_of o) (record { bytes = bytes; length = 0 }) draft) {b : Bool} (y : b ≡ whole_of (take draft.length draft.bytes)) where
  on_row : b ≡ is_all (read record_layout (spell (row_of o)))
  unfolding whole_of
  on_row = y ∙ ap (λ (s : List ℕ). is_all (read record_layout s)) (spelled x)

  -- where both have room, the row decides
  by_row : recordable o ≡ fits record_layout (row_of o)
  by_row = rw (sym k ∙ j)

  pub not_whole : b ≡ false → (Err NoRecord ≡ written_to o (length before)) × (before ≡ left_by o before (written_to o (length before)))
  not_whole e = both o before refl (eleven o before (by_row ∙ go (not_all (read record_layout (spell (row_of o))) (sym on_row ∙ e)))) refl
    where
      go : (read record_layout (spell (row_of o)) ≡ wrong) ⊎ ((c : Record) × (t : List ℕ) × (read record_layout (spell (row_of o)) ≡ held c t) × (t ≡ [] → ⊥)) → fits record_layout (row_of o) ≡ false
      go (inl f) = wrong_if_none record_layout (row_of o) f
      go (inr f) = wrong_if_short record_layout (row_of o) f.0 f.1 f.2 f.3

  module _ (e : b ≡ true) where
    right : recordable o ≡ true
    right = let f = all_held (read record_layout (spell (row_of o))) (sym on_row ∙ e) in by_row ∙ right_if record_layout (row_of o) f.0 x.put.small f.1

    pub no_room : length before < draft.length → (Err NoRoom ≡ written_to o (length before)) × (before ≡ left_by o before (written_to o (length before)))
    no_room h = both o before refl (ten o before right (rw (← (as_long x)) h)) refl

    pub written :
        {now : List ℕ} → draft.length ≤ length before → now ≡ drawn x ++ drop (length (drawn x)) before →
        (Ok draft.length ≡ written_to o (length before)) × (now ≡ left_by o before (written_to o (length before)))
    written h q = both o before (ap (λ (k : ℕ). Ok k) (as_long x)) (enough o before right (rw (← (as_long x)) h)) (q ∙ ap (λ (l : List ℕ). l ++ drop (length l) before) (spelled x))
