use Rattle.std.proofs.Common.{rules, ◌∙◌, length-take-le}
use Rattle.records.specs.Records.{is_kind}
use Rattle.records.proofs.ReadLaws.{is_right}
use Rattle.records.proofs.PartLaws.{filled, not_filled, no_kind, no_numbers, answer_is}
use Rattle.records.proofs.read_answer.Goals as goal

pub returns-in_err-kind : goal.returns-in_err-kind
returns-in_err-kind c = rw c.from_residual.ensures (no_kind _ _ (c.in_err-kind.ensures is_kind (λ n h b p. search rules)))

pub take_doubles-requires : goal.take_doubles-requires
take_doubles-requires c = (c.in_ok-kind.ensures is_kind (λ n h b p. search rules)).within

pub returns-in_err-next : goal.returns-in_err-next
returns-in_err-next c =
    rw c.from_residual-in_err-next.ensures
    (no_numbers _ _ (c.in_ok-kind.ensures is_kind (λ n h b p. search rules)) c.number_count.ensures.0 (not_filled _ c.number_count.ensures.1 c.in_err-next.ensures))

pub answer_of-requires : goal.answer_of-requires
answer_of-requires c = is_right (c.in_ok-kind.ensures is_kind (λ n h b p. search rules))

pub returns : goal.returns
returns c =
    answer_is _ _ (c.in_ok-kind.ensures is_kind (λ n h b p. search rules)) c.number_count.ensures.0 _ (filled _ c.number_count.ensures.1 c.in_ok-next.ensures)
    (c.take_doubles.auto.a ∙ length-take-le _ _ c.number_count.ensures.1)
    c.answer_of.ensures
