use Rattle.std.proofs.Common.{◌++◌, ◌∷◌, [], ◌∙◌, ap, refl, subst}
use Rattle.block_code.specs.declared.code.Instr.TheVariants as instr
use Rattle.block_code.specs.Emitted.{EmittedProcedures}
use Rattle.block_code.proofs.Procedures.{compiled}
use Rattle.block_code.proofs.compiler.compile.Goals as goal

pub returns : goal.returns
returns c =
    compiled _ c.args.bound
    (subst (λ is. EmittedProcedures is c.emit_procedures.new.code.items c.args.bound.procedures.items c.in_ok-procedures.procedures.items) (c.in_ok-push.ensures.items ∙ ap (λ is. is ++ instr.End ∷ []) c.new-instrs.ensures.items) c.in_ok-procedures.ensures)
    refl refl refl
