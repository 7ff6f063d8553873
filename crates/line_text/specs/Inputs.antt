-- The input as lines, and the replies to them: `text` is what a program replies to a call. Definitions, and what contracts say of its state.
use Rattle.std.specs.Prelude.{ℕ, ◌+◌, ◌-◌, ◌≤◌, Bool, true, false, cond, List, [], ◌∷◌, ◌++◌, ◌≡◌, eqb, ltb, length, take, drop, set}
use Rattle.line_text.specs.Calls.{Request}
use Rattle.line_text.specs.Texts.{line_reply, Put}
use Rattle.line_text.specs.declared.input.State.{State}

-- a line that has begun: what is kept of it, and whether there was more
pub record Line : Type 0 where
  pub text : List ℕ
  pub long : Bool

abbrev pub fresh : Line
fresh = record { text = []; long = false }

-- with one byte more, where up to `most` are kept
unfoldable pub grown : ℕ → Line → ℕ → Line
grown most l b =
    cond (ltb (length l.text) most)
    (record { text = l.text ++ (b ∷ []); long = l.long })
    (record { text = l.text; long = true })

-- a line feed ends a line, and only then there is a reply
unfoldable pub next_line : ℕ → Line → ℕ → Line
next_line most l b = cond (eqb b 10) fresh (grown most l b)

unfoldable pub reply_at : (Request → List ℕ) → Line → ℕ → List ℕ
reply_at text l b = cond (eqb b 10) (line_reply text l.long l.text) []

-- the line that has begun behind the bytes t, and the replies to those that ended in them
abbrev pub line_after : ℕ → Line → List ℕ → Line
line_after most l [] = l
line_after most l (b ∷ t) = line_after most (next_line most l b) t

abbrev pub replies_to : (Request → List ℕ) → ℕ → Line → List ℕ → List ℕ
replies_to text most l [] = []
replies_to text most l (b ∷ t) = reply_at text l b ++ replies_to text most (next_line most l b) t

-- what the line's buffer holds: a byte stands behind those that are kept, and nothing is wiped out
unfoldable pub stored : List ℕ → Line → ℕ → List ℕ
stored line l b = cond (eqb b 10) line (set line (length l.text) b)

abbrev pub buffer_after : ℕ → List ℕ → Line → List ℕ → List ℕ
buffer_after most line l [] = line
buffer_after most line l (b ∷ t) = buffer_after most (stored line l b) (next_line most l b) t

-- how many of the bytes t are taken while w bytes of replies wait: all, or those up to a reply with which more than `full` wait
abbrev pub count_taken : (Request → List ℕ) → ℕ → ℕ → Line → ℕ → List ℕ → ℕ
count_taken text most full l w [] = 0
count_taken text most full l w (b ∷ t) = cond (ltb full (w + length (reply_at text l b))) 1 (1 + count_taken text most full (next_line most l b) (w + length (reply_at text l b)) t)

-- ---- a program's state

-- the line that has begun, in its buffer
abbrev pub line_of : List ℕ → State → Line
line_of line s = record { text = take s.kept line; long = s.is_long }

-- what is kept and what waits lies within the buffers
pub record Fine (line out : List ℕ) (s : State) : Type 0 where
  pub kept : s.kept ≤ length line
  pub waiting : s.waiting ≤ length out

-- one byte was taken
pub record Taken (text : Request → List ℕ) (line out : List ℕ) (s : State) (b : ℕ) (line' out' : List ℕ) (r : State) : Type 0 where
  pub fine : Fine line' out' r
  pub begun : line_of line' r ≡ next_line (length line) (line_of line s) b
  pub buffer : line' ≡ stored line (line_of line s) b
  pub replies : Put out s.waiting (reply_at text (line_of line s) b) out' r.waiting

-- a block was answered: if it could be, the line that has begun is the one behind it
abbrev pub Begun : List ℕ → List ℕ → State → List ℕ → Bool → State → Type 0
Begun block line s line' answered r = answered ≡ true → line_of line' r ≡ line_after (length line) (line_of line s) block

-- where a block is left: another reply, of up to `longest` bytes, has to find room
abbrev pub stops_at : (Request → List ℕ) → ℕ → List ℕ → ℕ → List ℕ → List ℕ → State → ℕ
stops_at text longest block from line out s = from + count_taken text (length line) (length out - longest) (line_of line s) s.waiting (drop from block)

-- the bytes of a block from an index on were taken, up to i
pub record Fed (text : Request → List ℕ) (block : List ℕ) (from : ℕ) (line out : List ℕ) (s : State) (i : ℕ) (line' out' : List ℕ) (r : State) : Type 0 where
  pub past : from ≤ i
  pub within : i ≤ length block
  pub fine : Fine line' out' r
  pub begun : line_of line' r ≡ line_after (length line) (line_of line s) (take (i - from) (drop from block))
  pub buffer : line' ≡ buffer_after (length line) line (line_of line s) (take (i - from) (drop from block))
  pub replies : Put out s.waiting (replies_to text (length line) (line_of line s) (take (i - from) (drop from block))) out' r.waiting
