-- Each public function of `record_text`: its contract allows one result, and one last value of its buffer.
use Rattle.std.specs.Prelude.{ℕ, List, ◌≡◌}
use Rattle.std.proofs.Common.{sym, ◌∙◌}
use Rattle.record_text.proofs.hex.put_bytes.Reads as put-bytes-reads
use Rattle.record_text.proofs.record.put_refused.Reads as put-refused-reads
use Rattle.record_text.proofs.record.put_first.Reads as put-first-reads
use Rattle.record_text.proofs.reply.put_line.Reads as put-line-reads
use Rattle.record_text.specs.declared.record.Shown.{Shown}
use Rattle.line_text.specs.TextLaws.{put_fixed}
use Rattle.once.specs.One.{One, Last}

pub put_bytes_once : One put-bytes-reads.Learnt
put_bytes_once k a x y e f p q = p.1 ∙ sym q.1

pub put_bytes_buffer : Last {B = List ℕ} put-bytes-reads.Learnt (λ k e. e.0.now)
put_bytes_buffer k a x y e f p q = put_fixed p.0 q.0

pub put_refused_once : One put-refused-reads.Learnt
put_refused_once k a x y e f p q = p.0.ends ∙ sym q.0.ends

pub put_refused_buffer : Last {B = List ℕ} put-refused-reads.Learnt (λ k e. e.0.now)
put_refused_buffer k a x y e f p q = put_fixed p.0 q.0

-- where the line ends and how many bytes were taken
shown_one : (x y : Shown) → x.end ≡ y.end → x.taken ≡ y.taken → x ≡ y
shown_one x y e f = λ i. record { end = e i; taken = f i }

pub put_first_once : One put-first-reads.Learnt
put_first_once k a x y e f p q = shown_one x y (p.0.ends ∙ sym q.0.ends) (p.1.0 ∙ sym q.1.0)

pub put_first_buffer : Last {B = List ℕ} put-first-reads.Learnt (λ k e. e.0.now)
put_first_buffer k a x y e f p q = put_fixed p.0 q.0

pub put_line_once : One put-line-reads.Learnt
put_line_once k a x y e f p q = p.0.ends ∙ sym q.0.ends

pub put_line_buffer : Last {B = List ℕ} put-line-reads.Learnt (λ k e. e.1.1.0.now)
put_line_buffer k a x y e f p q = put_fixed p.0 q.0
