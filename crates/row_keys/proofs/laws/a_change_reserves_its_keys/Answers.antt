use Rattle.row_keys.proofs.Kept.{reserved_none, reserves_for_others}
use Rattle.row_keys.proofs.UniqueMoves.{reserves_own}
use Rattle.row_keys.proofs.laws.a_change_reserves_its_keys.Goals as goal

pub returns-clause-own : goal.returns-clause-own
returns-clause-own c = reserves_own

pub returns-clause-others : goal.returns-clause-others
returns-clause-others c = reserves_for_others

pub returns-clause-none : goal.returns-clause-none
returns-clause-none c = reserved_none
