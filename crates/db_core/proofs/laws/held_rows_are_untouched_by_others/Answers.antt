use Rattle.std.proofs.Common.{true, sym, ap, ◌∙◌}
use Rattle.std.specs.FinMap.{get}
use Rattle.database_meaning.specs.State.{Held}
use Rattle.db_core.proofs.Clients.{untouched_where_held}
use Rattle.db_core.proofs.laws.held_rows_are_untouched_by_others.Goals as goal

pub returns : goal.returns
returns c = λ f rows control s own d row represents seen ne held.
    untouched_where_held f rows control s represents seen d own row true (λ e. ne (sym e)) (ap (λ (m : Held). get m row) (sym (represents.client own).held) ∙ held)
