use Rattle.std.proofs.Common.{◌∙◌, refl}
use Rattle.block_code.specs.declared.code.Instr.TheVariants as instr
use Rattle.block_code.proofs.Procedures.{procedure_emitted}
use Rattle.block_code.proofs.compiler.emit_procedure.Goals as goal

pub returns : goal.returns
returns c =
    procedure_emitted c.args.code.now.items c.emit_body.new.code.items c.push.new.self.items (instr.Block c.args.procedure.header c.in_ok-body.body 0) c.args.procedure _ c.in_ok-body.body
    c.in_ok-body.ensures c.in_ok-push.ensures.items refl (c.len-place.ensures ∙ c.emit_body.new.code.ok.0) refl refl refl refl
