use Rattle.std.proofs.Common.{arith}
use Rattle.text_values.proofs.Spelled.{ten_most}
use Rattle.text_values.proofs.digits.small_number_of.Goals as goal

pub overflow_mul-n : goal.overflow_mul-n
overflow_mul-n c = let most = ten_most c.loop-byte.byte-index 3 (omega arith) in omega arith

pub returns-clause-small : goal.returns-clause-small
returns-clause-small c = let most = ten_most c.loop-byte.byte-index 4 (omega arith) in omega arith
