use Rattle.numerical.proofs.AnswerLaws.{by_numbers}
use Rattle.numerical.proofs.Answer.numbers.Goals as goal

pub returns-in-ByWidth : goal.returns-in-ByWidth
returns-in-ByWidth c = search by_numbers
