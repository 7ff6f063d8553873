-- Each public function of `playback`: its contract allows one result.
use Rattle.playback.proofs.Field.number.Reads as number-reads
use Rattle.playback.proofs.play_back.Reads as play-back-reads
use Rattle.once.specs.One.{One}
use Rattle.once.proofs.Fixed.{fixed}

pub number_once : One number-reads.Learnt
number_once = fixed _ _

pub play_back_once : One play-back-reads.Learnt
play_back_once = fixed _ _
