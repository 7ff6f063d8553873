-- Each public function of `numerical`: its contract allows one result.
use Rattle.numerical.proofs.Progress.fresh.Reads as fresh-reads
use Rattle.numerical.proofs.Progress.valued.Reads as valued-reads
use Rattle.numerical.proofs.Progress.sloped.Reads as sloped-reads
use Rattle.numerical.proofs.Progress.stepped.Reads as stepped-reads
use Rattle.numerical.proofs.Progress.ruled.Reads as ruled-reads
use Rattle.numerical.proofs.Progress.counts.Reads as counts-reads
use Rattle.numerical.proofs.Answer.kind.Reads as kind-reads
use Rattle.numerical.proofs.Answer.numbers.Reads as numbers-reads
use Rattle.numerical.proofs.Outcome.refused_at_once.Reads as refused-at-once-reads
use Rattle.numerical.proofs.Sample.chord_to.Reads as chord-to-reads
use Rattle.numerical.proofs.Interval.crosses.Reads as crosses-reads
use Rattle.numerical.proofs.Interval.middle.Reads as middle-reads
use Rattle.once.specs.One.{One}
use Rattle.once.proofs.Fixed.{fixed}

pub fresh_once : One fresh-reads.Learnt
fresh_once = fixed _ _

pub valued_once : One valued-reads.Learnt
valued_once = fixed _ _

pub sloped_once : One sloped-reads.Learnt
sloped_once = fixed _ _

pub stepped_once : One stepped-reads.Learnt
stepped_once = fixed _ _

pub ruled_once : One ruled-reads.Learnt
ruled_once = fixed _ _

pub counts_once : One counts-reads.Learnt
counts_once = fixed _ _

pub kind_once : One kind-reads.Learnt
kind_once = fixed _ _

pub numbers_once : One numbers-reads.Learnt
numbers_once = fixed _ _

pub refused_at_once_once : One refused-at-once-reads.Learnt
refused_at_once_once = fixed _ _

pub chord_to_once : One chord-to-reads.Learnt
chord_to_once = fixed _ _

pub crosses_once : One crosses-reads.Learnt
crosses_once = fixed _ _

pub middle_once : One middle-reads.Learnt
middle_once = fixed _ _
