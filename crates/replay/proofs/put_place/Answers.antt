use Rattle.line_text.specs.TextLaws.{put_both}
use Rattle.replay.specs.VerdictTexts.{place_text}
use Rattle.replay.proofs.put_place.Goals as goal

pub returns-clause-put : goal.returns-clause-put
unfolding place_text
returns-clause-put c = search put_both
