-- Each public function of `searching`: its contract allows one result.
use Rattle.std.specs.Prelude.{◌≡◌}
use Rattle.std.proofs.Common.{sym, ◌∙◌}
use Rattle.searching.proofs.LoopLaws.{seen_once}
use Rattle.searching.proofs.Turn.ended.Reads as ended-reads
use Rattle.searching.proofs.Turn.refused.Reads as refused-reads
use Rattle.searching.proofs.Turn.by_value.Reads as by-value-reads
use Rattle.searching.proofs.Turn.next.Reads as next-reads
use Rattle.searching.proofs.finished.Reads as finished-reads
use Rattle.searching.specs.Turns.{viewed}
use Rattle.searching.specs.declared.Turn.{Turn}
use Rattle.searching.proofs.pull.Reads as pull-reads
use Rattle.searching.proofs.alike.Reads as alike-reads
use Rattle.searching.proofs.in_order.Reads as in-order-reads
use Rattle.once.specs.One.{One}
use Rattle.once.proofs.Fixed.{fixed}

-- a turn is what it stands for, whatever its state
turn_one : {S : Type 0} (x y : Turn S) → viewed x ≡ viewed y → x ≡ y
turn_one x y e = λ i. record { leads = seen_once x.leads y.leads (λ j. (e j).0) i; progress = (e i).1 }

pub ended_once : (S L : _) → One (ended-reads.Learnt S L)
ended_once S L k a x y e f p q = turn_one x y (p ∙ sym q)

pub refused_once : (S L : _) → One (refused-reads.Learnt S L)
refused_once S L k a x y e f p q = turn_one x y (p ∙ sym q)

pub by_value_once : (S L : _) → One (by-value-reads.Learnt S L)
by_value_once S L k a x y e f p q = turn_one x y (p ∙ sym q)

pub next_once : (S L : _) → One (next-reads.Learnt S L)
next_once S L k a x y e f p q = turn_one x y (p ∙ sym q)

-- of every method, with its state
pub finished_once : (M S A B C D E F G : _) → One (finished-reads.Learnt M S A B C D E F G)
finished_once M S A B C D E F G = fixed _ _

pub pull_once : One pull-reads.Learnt
pull_once = fixed _ _

pub alike_once : One alike-reads.Learnt
alike_once = fixed _ _

pub in_order_once : One in-order-reads.Learnt
in_order_once = fixed _ _
