-- Each public function of `rows`: its contract allows one result, and one last value of its buffer.
use Rattle.std.specs.Prelude.{ℕ, List}
use Rattle.std.proofs.Common.{refl, sym, ◌∙◌}
use Rattle.rows.proofs.take.Reads as take-reads
use Rattle.rows.proofs.put.Reads as put_reads
use Rattle.rows.proofs.copy.Reads as copy_reads
use Rattle.rows.proofs.TakeLaws.{taken_fixed}
use Rattle.rows.proofs.PutLaws.{put_fixed}
use Rattle.once.specs.One.{One, Last}

pub take_once : One take-reads.Learnt
take_once k a x y e f p q = taken_fixed a.0.now a.1.0 x y p q

-- where it ends, then the buffer `out`, parameter 1 counted from 0
pub put_once : One put_reads.Learnt
put_once k a x y e f p q = p.ends ∙ sym q.ends

pub put_buffer : Last {B = List ℕ} put_reads.Learnt (λ k e. e.1.0.now)
put_buffer k a x y e f p q = put_fixed p q

-- nothing, then the buffer `out`, parameter 1 counted from 0; of every type of item
pub copy_once : (T A B C D : _) → One (copy_reads.Learnt T A B C D)
copy_once T A B C D k a x y e f p q = refl

pub copy_buffer : (T A B C D : _) → Last (copy_reads.Learnt T A B C D) (λ k e. e.1.0.now)
copy_buffer T A B C D k a x y e f p q = p ∙ sym q
