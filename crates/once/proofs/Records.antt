-- Each public function of `records`: its contract allows one result, and one last value of its buffer.
use Rattle.std.specs.Prelude.{ℕ, List}
use Rattle.std.proofs.Common.{sym, ◌∙◌}
use Rattle.records.proofs.Refusal.number.Reads as number-reads
use Rattle.records.proofs.Record.own_count.Reads as own-count-reads
use Rattle.records.proofs.read.Reads as read-reads
use Rattle.records.proofs.write.Reads as write-reads
use Rattle.once.specs.One.{One, Last}
use Rattle.once.proofs.Fixed.{fixed}

pub number_once : One number-reads.Learnt
number_once = fixed _ _

pub own_count_once : One own-count-reads.Learnt
own_count_once = fixed _ _

pub read_once : One read-reads.Learnt
read_once = fixed _ _

-- the verdict, then the buffer `out`, parameter 1 counted from 0
pub write_once : One write-reads.Learnt
write_once k a x y e f p q = p.0 ∙ sym q.0

pub write_buffer : Last {B = List ℕ} write-reads.Learnt (λ k e. e.1.0.now)
write_buffer k a x y e f p q = p.1 ∙ sym q.1
