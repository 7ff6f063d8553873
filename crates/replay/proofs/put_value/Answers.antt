use Rattle.replay.proofs.CourseLaws.{value_hex, value_decimal}
use Rattle.replay.proofs.put_value.Goals as goal

pub returns-then-is_number-clause-put : goal.returns-then-is_number-clause-put
returns-then-is_number-clause-put c = search value_hex

pub returns-else-is_number-clause-put : goal.returns-else-is_number-clause-put
returns-else-is_number-clause-put c = search value_decimal
