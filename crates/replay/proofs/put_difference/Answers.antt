use Rattle.line_text.specs.TextLaws.{put_both}
use Rattle.std.specs.Prelude.{◌≡◌}
use Rattle.playback.specs.Playback.{field_number}
use Rattle.replay.specs.VerdictTexts.{difference_text}
use Rattle.replay.proofs.put_difference.Goals as goal

pub returns-clause-put : goal.returns-clause-put
unfolding difference_text
returns-clause-put c = let e : c.from.result ≡ field_number c.args.difference.field = cc in let p = rw e at c.put_decimal-p.ensures.put in search put_both
