-- A line's reply.
use Rattle.std.specs.Prelude.{ℕ, suc, ◌+◌, ◌-◌, ◌≤◌, Bool, true, false, cond, List, [], ◌∷◌, ◌≡◌, refl, eqb, length, take, drop, get_or, Float, Option, Some, None, unwrap_or, MatchOption, Result, Ok, Err}
use lib.Pointwise.{pointwise}
use Rattle.std.proofs.Math.Bool.{and-true}
use Rattle.std.proofs.Math.Seq.{take-length}
use Rattle.std.proofs.Common.{Bor, arith, length-take-le, drop-cons, drop_of_length-le}
use Rattle.line_text.specs.Calls.{Request, asked_of, request_of, asked_by, ReadAs}
use Rattle.line_text.specs.Fields.{field_of}
use Rattle.line_text.specs.Texts.{fault_text, replied, trimmed, reply_to, Put}
use Rattle.line_text.specs.declared.call.Call.{Call}
use Rattle.line_text.specs.declared.call.Fault.{Fault}
use Rattle.line_text.specs.declared.call.Fault.TheVariants as fault

-- ---- the carriage return

ends_in : (s : List ℕ) → pointwise eqb (drop (length s - 1) s) (13 ∷ []) ≡ eqb (get_or s (length s - 1) 0) 13
ends_in [] = refl
ends_in (b ∷ s) = rw (drop-cons (b ∷ s) (length (b ∷ s) - 1) 0 (omega arith), nothing, and-true)
  where
    nothing : drop (suc (length (b ∷ s) - 1)) (b ∷ s) ≡ []
    nothing = let h : length (b ∷ s) ≤ suc (length (b ∷ s) - 1) = omega arith in drop_of_length-le (b ∷ s) h

-- what is left of a line, where its last byte was looked at and taken off
trim_is : (s : Bor (List ℕ)) (o : Option (Bor (List ℕ))) {r : Bor (List ℕ)} → MatchOption o (pointwise eqb (drop (length s.now - 1) s.now) (13 ∷ []) ≡ false) (λ x. (pointwise eqb (drop (length s.now - 1) s.now) (13 ∷ []) ≡ true) × (x.now ≡ take (length s.now - 1) s.now) × (length x.now + 1 ≡ length s.now)) → r ≡ unwrap_or o s → r.now ≡ trimmed s.now
unfolding trimmed
trim_is s None h e = rw (e, ← ends_in s.now, h)
trim_is s (Some x) h e = rw (e, h.1, ← ends_in s.now, h.0)

trim_part : (s : List ℕ) → (length (trimmed s) ≤ length s) × (take (length (trimmed s)) s ≡ trimmed s)
unfolding trimmed
trim_part s = go (eqb (get_or s (length s - 1) 0) 13)
  where
    short : length (take (length s - 1) s) ≡ length s - 1
    short = length-take-le (length s - 1) s (omega arith)

    go : (b : Bool) → (length (cond b (take (length s - 1) s) s) ≤ length s) × (take (length (cond b (take (length s - 1) s) s)) s ≡ cond b (take (length s - 1) s) s)
    go true = (omega (arith, short), rw short)
    go false = (omega arith, take-length s)

pub trim_count : (s : Bor (List ℕ)) (o : Option (Bor (List ℕ))) {r : Bor (List ℕ)} → MatchOption o (pointwise eqb (drop (length s.now - 1) s.now) (13 ∷ []) ≡ false) (λ x. (pointwise eqb (drop (length s.now - 1) s.now) (13 ∷ []) ≡ true) × (x.now ≡ take (length s.now - 1) s.now) × (length x.now + 1 ≡ length s.now)) → r ≡ unwrap_or o s → (length r.now ≤ length s.now) × (take (length r.now) s.now ≡ trimmed s.now)
trim_count s o h e = rw (trim_is s o h e) (trim_part s.now)

-- ---- what was read, and its reply

module _ (text : Request → List ℕ) (s t : List ℕ) {filled : List Float} (a : List Float) {r : Result Call Fault} (k : ReadAs (asked_of t) filled a r) (w : t ≡ trimmed s) where
  replies : replied text (asked_by r a) ≡ reply_to text s
  unfolding reply_to
  replies = rw (k.is, w)

  pub call_put : (before : List ℕ) (at : ℕ) {now : List ℕ} {p : ℕ} {c : Call} → r ≡ Ok c → Put before at (text (request_of c a)) now p → Put before at (reply_to text s) now p
  call_put before at e g = rw (← replies, e) g

  pub wrong_put : (before : List ℕ) (at : ℕ) {now : List ℕ} {p : ℕ} {why : Fault} → r ≡ Err why → Put before at (fault_text why) now p → Put before at (reply_to text s) now p
  wrong_put before at e g = rw (← replies, e) g

-- an empty line is no call, whatever a program replies to calls
pub empty_put : (text : Request → List ℕ) (s : List ℕ) {n : ℕ} {before now : List ℕ} {at p : ℕ} → take n s ≡ trimmed s → n ≡ 0 → Put before at (fault_text fault.Empty) now p → Put before at (reply_to text s) now p
unfolding reply_to asked_of field_of
empty_put text s e f g = rw (← e, f) g
