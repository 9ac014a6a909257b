use Rattle.std.proofs.Common.{◌≡◌, ◌++◌, ◌∷◌, [], length}
use Rattle.block_code.specs.declared.code.Instr.TheVariants as instr
use Rattle.block_code.specs.Emitted.{EmittedStmt}
use Rattle.block_code.proofs.Emits.{if_ok, simple_emitted, simple_is}
use Rattle.block_code.proofs.compiler.push_simple.Goals as goal

pub returns : goal.returns
returns c =
    let old = c.args.code.now.items in
    let new = c.push.new.code.items in
    if_ok c.push.result (length old) (new ≡ old ++ instr.Simple c.args.stmt c.args.next ∷ []) (λ place. EmittedStmt old new c.args.stmt c.args.next place) c.push.ensures
    (λ is. simple_emitted old new c.args.stmt c.args.next (simple_is c.args.stmt c.requires) is)
