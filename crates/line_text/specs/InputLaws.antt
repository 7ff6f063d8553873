-- The input, byte by byte and block by block.
use Rattle.std.specs.Prelude.{ℕ, ◌+◌, ◌-◌, ◌≤◌, ◌<◌, true, false, List, [], ◌∷◌, ◌++◌, ◌≡◌, refl, length, take, drop, get_or, set}
use Rattle.std.proofs.Math.Numerals.{add-one}
use native.Mathlib.Omega.{arith}
use Rattle.std.proofs.Common.{append_assoc, append-nil, ap, ◌∙◌, length-set, take-append-drop, drop-cons, length-take-le, drop-drop}
use Rattle.std.proofs.Math.Path.{sym}
use Rattle.std.proofs.Math.Seq.{take-suc-set, set_out}
use borrow.Author.Tests.{eq-eqb, ne_eqb, lt-ltb, le-ltb}
use Rattle.line_text.specs.FieldLaws.{part_more}
use Rattle.line_text.specs.Calls.{Request}
use Rattle.line_text.specs.Texts.{line_reply, Put}
use Rattle.line_text.specs.TextLaws.{put_within, put_both, put_nothing, put_fixed}
use Rattle.line_text.specs.Inputs.{Line, fresh, grown, next_line, reply_at, line_after, replies_to, stored, buffer_after, count_taken, line_of, stops_at, Fine, Taken, Fed}
use Rattle.line_text.specs.declared.input.State.{State}

-- ---- in blocks or whole

-- However the input comes in blocks, the line that has begun is the same,
pub line_in_blocks : (most : ℕ) (l : Line) (t u : List ℕ) → line_after most l (t ++ u) ≡ line_after most (line_after most l t) u
line_in_blocks most l [] u = refl
line_in_blocks most l (b ∷ t) u = line_in_blocks most (next_line most l b) t u

-- and so are the replies.
pub replies_in_blocks : (text : Request → List ℕ) (most : ℕ) (l : Line) (t u : List ℕ) → replies_to text most l (t ++ u) ≡ replies_to text most l t ++ replies_to text most (line_after most l t) u
replies_in_blocks text most l [] u = refl
replies_in_blocks text most l (b ∷ t) u =
    ap (λ (x : List ℕ). reply_at text l b ++ x) (replies_in_blocks text most (next_line most l b) t u)
    ∙ sym (append_assoc (reply_at text l b) (replies_to text most (next_line most l b) t) (replies_to text most (line_after most (next_line most l b) t) u))

-- and so is the line's buffer.
buffer_in_blocks : (most : ℕ) (line : List ℕ) (l : Line) (t u : List ℕ) → buffer_after most line l (t ++ u) ≡ buffer_after most (buffer_after most line l t) (line_after most l t) u
buffer_in_blocks most line l [] u = refl
buffer_in_blocks most line l (b ∷ t) u = buffer_in_blocks most (stored line l b) (next_line most l b) t u

-- ---- one byte

module _ (line : List ℕ) (s : State) (h : s.kept ≤ length line) (b : ℕ) where
  kept_count : length (take s.kept line) ≡ s.kept
  kept_count = length-take-le s.kept line h

  -- the line ended
  pub line_ended : b ≡ 10 → fresh ≡ next_line (length line) (line_of line s) b
  unfolding next_line
  line_ended e = rw (eq-eqb b 10 e)

  module _ (n : b ≡ 10 → ⊥) where
    pub line_kept : s.kept < length line → record { text = take (s.kept + 1) (set line s.kept b); long = s.is_long } ≡ next_line (length line) (line_of line s) b
    unfolding next_line grown
    line_kept l = rw (ne_eqb b 10 n, kept_count, lt-ltb s.kept (length line) l, add-one s.kept, take-suc-set line s.kept b l)

    pub line_lost : length line ≤ s.kept → record { text = take s.kept line; long = true } ≡ next_line (length line) (line_of line s) b
    unfolding next_line grown
    line_lost l = rw (ne_eqb b 10 n, kept_count, le-ltb s.kept (length line) l)

module _ (text : Request → List ℕ) (line out : List ℕ) (s : State) (f : Fine line out s) (b : ℕ) where
  -- the line ended, and its reply was put
  pub taken_end : {out' : List ℕ} {r : State} → b ≡ 10 → r.kept ≡ 0 → r.is_long ≡ false → Put out s.waiting (line_reply text s.is_long (take s.kept line)) out' r.waiting → Taken text line out s b line out' r
  unfolding reply_at stored
  taken_end {out'} {r} e k l p =
      record {
        fine = record { kept = omega arith; waiting = put_within p };
        begun = rw (k, l) (line_ended line s f.kept b e);
        buffer = rw (eq-eqb b 10 e);
        replies = rw (eq-eqb b 10 e) p;
      }

  module _ (n : b ≡ 10 → ⊥) where
    no_reply : Put out s.waiting (reply_at text (line_of line s) b) out s.waiting
    unfolding reply_at
    no_reply = rw (ne_eqb b 10 n) (put_nothing out s.waiting f.waiting)

    -- where the byte stands, or would stand
    place : stored line (line_of line s) b ≡ set line s.kept b
    unfolding stored
    place = rw (ne_eqb b 10 n, kept_count line s f.kept b)

    pub taken_kept : {r : State} → s.kept < length line → r ≡ record { kept = s.kept + 1; is_long = s.is_long; waiting = s.waiting } → Taken text line out s b (set line s.kept b) out r
    taken_kept {r} h e =
        record {
          fine = record { kept = rw (e, length-set) (omega arith); waiting = rw e f.waiting };
          begun = rw e (line_kept line s f.kept b n h);
          buffer = sym place;
          replies = rw e no_reply;
        }

    pub taken_lost : {r : State} → length line ≤ s.kept → r ≡ record { kept = s.kept; is_long = true; waiting = s.waiting } → Taken text line out s b line out r
    taken_lost {r} h e =
        record {
          fine = rw e (record { kept = f.kept; waiting = f.waiting });
          begun = rw e (line_lost line s f.kept b n h);
          buffer = sym (place ∙ set_out line s.kept b h);
          replies = rw e no_reply;
        }

-- ---- a block

module _ {text : Request → List ℕ} (block : List ℕ) (i : ℕ) (h : i < length block) (line out : List ℕ) (s : State) {line' out' : List ℕ} {r : State} (t : Taken text line out s (get_or block i 0) line' out' r) where
  one_off : drop i block ≡ get_or block i 0 ∷ drop (i + 1) block
  one_off = rw (add-one, drop-cons block i 0)

  pub feed_on : (from : ℕ) (line₀ out₀ : List ℕ) (s₀ : State) → length line ≡ length line₀ → Fed text block from line₀ out₀ s₀ i line out s → Fed text block from line₀ out₀ s₀ (i + 1) line' out' r
  feed_on from line₀ out₀ s₀ e f =
      record {
        past = let p = f.past in omega arith;
        within = omega arith;
        fine = t.fine;
        begun = t.begun ∙ rw (e, f.begun, more, line_in_blocks);
        buffer = t.buffer ∙ rw (f.begun, f.buffer, more, buffer_in_blocks);
        replies = rw (more, replies_in_blocks, append-nil, ← f.begun) (put_both f.replies t.replies);
      }
    where
      more : take (i + 1 - from) (drop from block) ≡ take (i - from) (drop from block) ++ (get_or block i 0 ∷ [])
      more = part_more block i h from f.past

  -- a byte that ends no line leaves what waits as it was
  pub none_more : (get_or block i 0 ≡ 10 → ⊥) → r.waiting ≡ s.waiting
  unfolding reply_at
  none_more n = let e = rw (ne_eqb (get_or block i 0) 10 n) at t.replies.ends in omega arith

  -- where the block is left
  module _ (longest from : ℕ) (line₀ out₀ : List ℕ) (s₀ : State) (k : stops_at text longest block i line out s ≡ stops_at text longest block from line₀ out₀ s₀) (o : length out' ≡ length out) where
    pub stop_on : length line' ≡ length line → r.waiting ≤ length out' - longest → stops_at text longest block (i + 1) line' out' r ≡ stops_at text longest block from line₀ out₀ s₀
    stop_on e l = rw (e, o) (let p = one_more in omega arith)
      where
        one_more : stops_at text longest block i line out s ≡ i + (1 + count_taken text (length line) (length out - longest) (line_of line' r) r.waiting (drop (i + 1) block))
        one_more = rw (one_off, ← t.replies.ends, le-ltb (length out - longest) r.waiting (rw o at l), ← t.begun)

-- nothing is left open: the state is told by the line that has begun and by the replies
module _ {text : Request → List ℕ} {block : List ℕ} {from : ℕ} {line out : List ℕ} {s : State} {i j : ℕ} (e : i ≡ j) {line' out' line'' out'' : List ℕ} {r q : State} (x : Fed text block from line out s i line' out' r) (z : Fed text block from line out s j line'' out'' q) where
  y : Fed text block from line out s i line'' out'' q
  y = rw e z

  same_line : line_of line' r ≡ line_of line'' q
  same_line = x.begun ∙ sym y.begun

  kept : r.kept ≡ q.kept
  kept = sym (length-take-le r.kept line' x.fine.kept) ∙ ap (λ (l : Line). length l.text) same_line ∙ length-take-le q.kept line'' y.fine.kept

  pub state_fixed : r ≡ q
  state_fixed = rw (kept, ap (λ (l : Line). l.long) same_line, x.replies.ends, y.replies.ends)

  pub buffer_fixed : line' ≡ line''
  buffer_fixed = x.buffer ∙ sym y.buffer

  pub replies_fixed : out' ≡ out''
  replies_fixed = put_fixed x.replies y.replies

-- ---- a block in parts

module _ (block line : List ℕ) (s : State) (at : ℕ) (line' : List ℕ) (r : State) (k : line_after (length line) (line_of line' r) (drop at block) ≡ line_after (length line) (line_of line s) block) where
  -- the replies were written, so none waits
  pub part_on : length line' ≡ length line → {text : Request → List ℕ} {out out' line'' : List ℕ} {i : ℕ} {q : State} → Fed text block at line' out r i line'' out' q → line_after (length line) (line_of line'' (record { kept = q.kept; is_long = q.is_long; waiting = 0 })) (drop i block) ≡ line_after (length line) (line_of line s) block
  part_on e {line'' = line''} {i = i} {q = q} f = same ∙ k
    where
      whole : drop at block ≡ take (i - at) (drop at block) ++ drop i block
      whole =
          let n : at + (i - at) ≡ i = let p = f.past in omega arith in
          sym (take-append-drop (i - at) (drop at block)) ∙ rw (drop-drop, n)

      same : line_after (length line) (line_of line'' q) (drop i block) ≡ line_after (length line) (line_of line' r) (drop at block)
      same = sym (ap (line_after (length line) (line_of line' r)) whole ∙ rw (line_in_blocks, ← e, f.begun))
