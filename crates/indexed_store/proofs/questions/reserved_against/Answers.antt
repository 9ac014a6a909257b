use Rattle.std.proofs.Common.{Option, List, sym, subst}
use Rattle.abl_base.specs.declared.value.Value.{Value}
use Rattle.row_keys.specs.Questions.{IsRead}
use Rattle.indexed_store.proofs.questions.reserved_against.Goals as goal

pub returns-in-Ok-clause-found : goal.returns-in-Ok-clause-found
returns-in-Ok-clause-found c = λ stored is. c.in-Ok.ensures stored (subst (λ (o : Option (List Value)). IsRead c.args.table o stored) (sym c.as_ref.ensures.value) is)
