use borrow.Author.Rules.{rules}
use Rattle.playback.proofs.PlaybackLaws.{play_starts, play_refused, play_few, play_fits, play_less, play_differs, play_on, play_ends}
use Rattle.playback.proofs.play_back.Goals as goal

pub loop-at-init : goal.loop-at-init
loop-at-init c = search play_starts

pub returns-in-Err : goal.returns-in-Err
returns-in-Err c = search play_refused

pub compared-requires : goal.compared-requires
compared-requires c = search play_few

pub returns-in-Some : goal.returns-in-Some
returns-in-Some c = search play_differs

pub overflow_add-at : goal.overflow_add-at
overflow_add-at c = search (play_fits, rules)

pub loop-at-smaller : goal.loop-at-smaller
loop-at-smaller c = search play_less

pub loop-at-preserved : goal.loop-at-preserved
loop-at-preserved c = search play_on

pub returns : goal.returns
returns c = search play_ends
