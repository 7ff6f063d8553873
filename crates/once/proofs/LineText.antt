-- Each public function of `line_text`: its contract allows one result, and one last value of each buffer.
use Rattle.std.specs.Prelude.{ℕ, List, length, Float, refl}
use Rattle.std.proofs.Common.{ap, sym, ◌∙◌, length-take-le}
use Rattle.line_text.proofs.call.read_doubles.Reads as read-doubles-reads
use Rattle.line_text.proofs.call.read.Reads as read-reads
use Rattle.line_text.proofs.desk.serve.Reads as serve-reads
use Rattle.line_text.proofs.desk.serve_at_once.Reads as serve-at-once-reads
use Rattle.line_text.proofs.digits.digit.Reads as digit-reads
use Rattle.line_text.proofs.digits.number_in.Reads as number-in-reads
use Rattle.line_text.proofs.digits.decimal.Reads as decimal-reads
use Rattle.line_text.proofs.digits.word.Reads as word-reads
use Rattle.line_text.proofs.fields.next.Reads as next-reads
use Rattle.line_text.proofs.input.fed.Reads as fed-reads
use Rattle.line_text.proofs.reply.put_line.Reads as put-line-reads
use Rattle.line_text.proofs.reply.put_answered.Reads as put-answered-reads
use Rattle.line_text.proofs.text.put.Reads as put_reads
use Rattle.line_text.proofs.text.put_byte.Reads as put-byte-reads
use Rattle.line_text.proofs.text.put_decimal.Reads as put-decimal-reads
use Rattle.line_text.proofs.text.put_hex.Reads as put-hex-reads
use Rattle.line_text.proofs.text.put_double.Reads as put-double-reads
use Rattle.line_text.proofs.text.put_doubles.Reads as put-doubles-reads
use Rattle.line_text.proofs.text.put_outcome.Reads as put-outcome-reads
use Rattle.line_text.proofs.text.put_fault.Reads as put-fault-reads
use Rattle.line_text.specs.CallLaws.{ends_fixed}
use Rattle.line_text.specs.FieldLaws.{field_fixed}
use Rattle.line_text.specs.InputLaws.{state_fixed, buffer_fixed, replies_fixed}
use Rattle.line_text.specs.ReadingLaws.{reading_fixed}
use Rattle.line_text.specs.TextLaws.{put_fixed}
use Rattle.once.specs.One.{One, Last}
use Rattle.once.proofs.Fixed.{fixed}

-- ---- call: what was read, then the array `a`

pub read_doubles_once : One read-doubles-reads.Learnt
read_doubles_once k a x y e f p q = ends_fixed a.0.now a.1.0 _ x y p.ends q.ends

pub read_doubles_array : Last {B = List Float} read-doubles-reads.Learnt (λ k e. e.1.1.1.0.now)
read_doubles_array k a x y e f p q = p.array ∙ sym q.array

pub read_once : One read-reads.Learnt
read_once k a x y e f p q = reading_fixed _ _ _ _ x y p q

pub read_array : Last {B = List Float} read-reads.Learnt (λ k e. e.1.0.now)
read_array k a x y e f p q = p.array ∙ sym q.array

-- ---- digits

pub digit_once : One digit-reads.Learnt
digit_once = fixed _ _

pub number_in_once : One number-in-reads.Learnt
number_in_once = fixed _ _

pub decimal_once : One decimal-reads.Learnt
decimal_once = fixed _ _

pub word_once : One word-reads.Learnt
word_once = fixed _ _

-- ---- fields

pub next_once : One next-reads.Learnt
next_once k a x y e f p q = field_fixed p q

-- ---- input: where a block is left, then the buffers `line` and `out`, whatever a program replies

pub fed_once : (R A B C : _) → One (fed-reads.Learnt R A B C)
fed_once R A B C k a x y e f p q = rw (p.1.0, q.1.0, state_fixed (p.1.0 ∙ sym q.1.0) p.0 q.0)

pub fed_line : (R A B C : _) → Last {B = List ℕ} (fed-reads.Learnt R A B C) (λ k e. e.1.1.0.now)
fed_line R A B C k a x y e f p q = buffer_fixed (p.1.0 ∙ sym q.1.0) p.0 q.0

pub fed_out : (R A B C : _) → Last {B = List ℕ} (fed-reads.Learnt R A B C) (λ k e. e.1.1.1.0.now)
fed_out R A B C k a x y e f p q = replies_fixed (p.1.0 ∙ sym q.1.0) p.0 q.0

-- ---- reply: the length, and where a reply ends, then the buffer `out`, whatever a program replies

pub put_line_once : (R A B C : _) → One (put-line-reads.Learnt R A B C)
put_line_once R A B C k a x y e f p q = p.0.ends ∙ sym q.0.ends

pub put_line_out : (R A B C : _) → Last {B = List ℕ} (put-line-reads.Learnt R A B C) (λ k e. e.1.1.0.now)
put_line_out R A B C k a x y e f p q = put_fixed p.0 q.0

pub put_answered_once : One put-answered-reads.Learnt
put_answered_once k a x y e f p q = p.0.ends ∙ sym q.0.ends

pub put_answered_out : Last {B = List ℕ} put-answered-reads.Learnt (λ k e. e.1.1.0.now)
put_answered_out k a x y e f p q = put_fixed p.0 q.0

-- ---- desk: it answers nothing

pub serve_once : (R A B C : _) → One (serve-reads.Learnt R A B C)
serve_once R A B C k a x y e f p q = refl

pub serve_at_once_once : (R A B C : _) → One (serve-at-once-reads.Learnt R A B C)
serve_at_once_once R A B C k a x y e f p q = refl

-- ---- text: where it ends, then the buffer `out`

pub put_once : One put_reads.Learnt
put_once k a x y e f p q = p.ends ∙ sym q.ends

pub put_out : Last {B = List ℕ} put_reads.Learnt (λ k e. e.0.now)
put_out k a x y e f p q = put_fixed p q

pub put_byte_once : One put-byte-reads.Learnt
put_byte_once k a x y e f p q = p.ends ∙ sym q.ends

pub put_byte_out : Last {B = List ℕ} put-byte-reads.Learnt (λ k e. e.0.now)
put_byte_out k a x y e f p q = put_fixed p q

pub put_decimal_once : One put-decimal-reads.Learnt
put_decimal_once k a x y e f p q = p.0.ends ∙ sym q.0.ends

pub put_decimal_out : Last {B = List ℕ} put-decimal-reads.Learnt (λ k e. e.0.now)
put_decimal_out k a x y e f p q = put_fixed p.0 q.0

pub put_hex_once : One put-hex-reads.Learnt
put_hex_once k a x y e f p q = p.0.ends ∙ sym q.0.ends

pub put_hex_out : Last {B = List ℕ} put-hex-reads.Learnt (λ k e. e.0.now)
put_hex_out k a x y e f p q = put_fixed p.0 q.0

pub put_double_once : One put-double-reads.Learnt
put_double_once k a x y e f p q = p.0.ends ∙ sym q.0.ends

pub put_double_out : Last {B = List ℕ} put-double-reads.Learnt (λ k e. e.0.now)
put_double_out k a x y e f p q = put_fixed p.0 q.0

pub put_doubles_once : One put-doubles-reads.Learnt
put_doubles_once k a x y e f p q = p.0.ends ∙ sym q.0.ends

pub put_doubles_out : Last {B = List ℕ} put-doubles-reads.Learnt (λ k e. e.0.now)
put_doubles_out k a x y e f p q = put_fixed p.0 q.0

pub put_outcome_once : One put-outcome-reads.Learnt
put_outcome_once k a x y e f p q = p.0.ends ∙ sym q.0.ends

pub put_outcome_out : Last {B = List ℕ} put-outcome-reads.Learnt (λ k e. e.0.now)
put_outcome_out k a x y e f p q = put_fixed p.0 q.0

pub put_fault_once : One put-fault-reads.Learnt
put_fault_once k a x y e f p q = p.0.ends ∙ sym q.0.ends

pub put_fault_out : Last {B = List ℕ} put-fault-reads.Learnt (λ k e. e.0.now)
put_fault_out k a x y e f p q = put_fixed p.0 q.0
