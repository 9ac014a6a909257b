use Rattle.std.proofs.Common.{◌+◌, length, arith}
use Rattle.row_store.proofs.Copies.{copy_of, copies_back, marks_rise}
use Rattle.row_store.proofs.laws.going_back_gives_the_copy.Goals as goal

pub returns-clause-copy : goal.returns-clause-copy
returns-clause-copy c = λ rows changes marks copies i h lt. copy_of rows changes marks copies i h lt

pub returns-clause-copies : goal.returns-clause-copies
returns-clause-copies c = λ rows changes marks copies i h m lt.
    copies_back rows changes _ 0 (length changes) marks copies (i + 1) h m (λ j less there. marks_rise 0 (length changes) marks m j i (omega arith) lt)
