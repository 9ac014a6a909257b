use Rattle.std.proofs.Common.{◌++◌, ◌∷◌, [], ◌∙◌, sym, subst}
use Rattle.std.proofs.lemmas.Iterator.Adapters.{YieldsList-from_vec}
use Rattle.std.proofs.lemmas.Iterator.Consumers.{YieldsList-end}
use Rattle.block_code.specs.Emitted.{EmittedProcedures}
use Rattle.block_code.proofs.Emits.{map_same}
use Rattle.block_code.proofs.Procedures.{no_procedures, one_more_procedure}
use Rattle.block_code.proofs.compiler.emit_procedures.Goals as goal

pub loop-procedure-init : goal.loop-procedure-init
loop-procedure-init c = subst (λ cs. EmittedProcedures c.args.code.now.items c.args.code.now.items [] cs) (sym c.new-all.ensures.items) (no_procedures c.args.code.now.items)

pub loop-procedure-preserved : goal.loop-procedure-preserved
loop-procedure-preserved c =
    let old = c.args.code.now.items in
    let new = c.emit_procedure.new.code.items in
    subst (λ cs. EmittedProcedures old new (c.loop-procedure.yielded ++ c.in-Some.procedure ∷ []) cs) (sym c.in_ok-push.ensures.items)
    (one_more_procedure old c.loop-procedure.code.items new c.loop-procedure.yielded c.loop-procedure.all.items c.in-Some.procedure c.in_ok-one.one c.loop-procedure.invariant c.in_ok-one.ensures)

pub returns : goal.returns
returns c =
    let qs = c.args.procedures.items in
    let all = YieldsList-from_vec {s = c.into_iter-procedure-iterator.result} qs c.into_iter-procedure-iterator.ensures.into_iter_gives.0 (c.into_iter-procedure-iterator.ensures.into_iter_gives.1 ∙ c.args.procedures.ok.0) in
    let e = YieldsList-end all c.loop-procedure.yielded c.loop-procedure.procedure-iterator c.loop-procedure.yielded_by c.next.result c.next.new.self c.in-None.is c.next.ensures.steps in
    subst (λ ys. EmittedProcedures c.args.code.now.items c.loop-procedure.code.items ys c.loop-procedure.all.items) (sym (map_same c.loop-procedure.yielded) ∙ e.0) c.loop-procedure.invariant
