use Rattle.std.proofs.Common.{rules, ◌≡◌, Err}
use Rattle.records.specs.declared.Refusal.TheVariants.{NoRecord}
use Rattle.records.proofs.PartLaws.{held_or, none_or, no_reading, reading_is, no_call, no_answer, no_progress, record_is}
use Rattle.records.proofs.read.Goals as goal

pub returns-in_err-call : goal.returns-in_err-call
returns-in_err-call c =
    let e : c.from_residual.result ≡ Err NoRecord = search rules in
    rw e (no_reading _ (no_call _ (none_or _ c.in_err-call.ensures.value c.read_call.ensures)))

pub returns-in_err-answer : goal.returns-in_err-answer
returns-in_err-answer c =
    let e : c.from_residual-in_err-answer.result ≡ Err NoRecord = search rules in
    let call = held_or _ c.in_ok-call.ensures.value c.read_call.ensures in
    rw e (no_reading _ (no_answer _ call (none_or _ c.in_err-answer.ensures.value c.read_answer.ensures)))

pub returns-in_err-progress : goal.returns-in_err-progress
returns-in_err-progress c =
    let e : c.from_residual-in_err-progress.result ≡ Err NoRecord = search rules in
    let call = held_or _ c.in_ok-call.ensures.value c.read_call.ensures in
    let answer = held_or _ c.in_ok-answer.ensures.value c.read_answer.ensures in
    rw e (no_reading _ (no_progress _ call answer (none_or _ c.in_err-progress.ensures.value c.read_progress.ensures)))

pub returns : goal.returns
returns c =
    let call = held_or _ c.in_ok-call.ensures.value c.read_call.ensures in
    let answer = held_or _ c.in_ok-answer.ensures.value c.read_answer.ensures in
    reading_is _ _ (record_is _ call answer (held_or _ c.in_ok-progress.ensures.value c.read_progress.ensures))
