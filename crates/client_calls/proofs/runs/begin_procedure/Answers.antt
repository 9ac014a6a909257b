use Rattle.std.proofs.Common.{List, sym, ap, ◌∙◌, subst, refl}
use Rattle.std.specs.Prelude.{slice_get}
use Rattle.bound_tree.specs.Tree.{Argument}
use Rattle.client_calls.specs.Calls.{Opens}
use Rattle.client_calls.proofs.runs.begin_procedure.Goals as goal

pub returns : goal.returns
returns c =
    let found = c.in-Some-procedure_code.found.now in
    let k = c.args.place in
    let code = c.args.code.now in
    let is = ap (λ n. slice_get code.procedures.items n) (sym c.in-Some-number_at.ensures) ∙ c.in-Some-procedure_code.ensures in
    record {
      procedure = found;
      found = is;
      number_is = c.in-Some-number_at.ensures;
      place_is = refl;
      opens = subst (λ (xs : List Argument). Opens found xs c.args.values c.args.memory.now c.open_frame.new.memory) c.in-Some.ensures c.in_ok-open_frame.ensures;
    }
