-- Each public function of `blocks`: its contract allows one result, and one last value of its buffer.
use Rattle.std.specs.Prelude.{ℕ, List}
use Rattle.std.proofs.Common.{sym, ◌∙◌}
use Rattle.blocks.proofs.move_to_front.Reads as move-to-front-reads
use Rattle.once.specs.One.{One, Last}

pub move_to_front_once : One move-to-front-reads.Learnt
move_to_front_once k a x y e f p q = p.0 ∙ sym q.0

pub move_to_front_block : Last {B = List ℕ} move-to-front-reads.Learnt (λ k e. e.0.now)
move_to_front_block k a x y e f p q = p.1 ∙ sym q.1
