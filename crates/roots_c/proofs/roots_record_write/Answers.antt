use Rattle.roots_c.proofs.roots_record_write.Goals as goal

pub returns-clause-refusal : goal.returns-clause-refusal
returns-clause-refusal c = rw (c.write_chosen-written.ensures.verdict, c.chosen_by-chosen.ensures, c.answer_from-answer.ensures, c.progress_from-progress.ensures) at c.refusal_of.ensures
