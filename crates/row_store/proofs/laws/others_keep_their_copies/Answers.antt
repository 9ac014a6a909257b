use Rattle.row_store.proofs.Copies.{copies_same}
use Rattle.row_store.proofs.laws.others_keep_their_copies.Goals as goal

pub returns-clause-copies : goal.returns-clause-copies
returns-clause-copies c = λ rows other changes marks copies same h. copies_same rows other changes marks copies same h
