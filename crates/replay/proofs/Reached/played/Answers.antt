use borrow.Author.Rules.{rules}
use Rattle.replay.proofs.CourseLaws.{played_within, course_goes}
use Rattle.replay.proofs.Reached.played.Goals as goal

pub course_of-requires : goal.course_of-requires
course_of-requires c = (search played_within, search rules)

pub returns : goal.returns
returns c = search course_goes
