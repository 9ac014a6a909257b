use Rattle.std.proofs.Common.{◌≡◌, ◌∙◌, ap, sym, subst}
use Rattle.bound_tree.specs.Bound.{header_of}
use Rattle.bound_tree.specs.Tree.{Header}
use Rattle.flat_machine.specs.Flat as flat
use Rattle.client_values.specs.Ends.{Judges}
use Rattle.client_values.specs.Reads.{Reads}
use Rattle.client_values.specs.Variables.{state_with}
use Rattle.client_machine.specs.Config.{header_at}
use Rattle.client_machine.proofs.BlocksAt.{block_at}
use Rattle.client_machine.proofs.machine.Machine.judge_at.Goals as goal

pub returns-in-Some-Block-clause-judges : goal.returns-in-Some-Block-clause-judges
returns-in-Some-Block-clause-judges c =
    λ p rest ns t go ks reads e1 e2 e3.
    let old = c.args.self.now in
    let at : header_of c.deref-in-Some-Block.result.now ≡ header_at old.code.instrs.items c.args.place =
    ap header_of c.deref-in-Some-Block.ensures
    ∙ block_at old.code.instrs.items c.deref.result.now c.args.place c.in-Some-Block.field-0.now c.in-Some-Block.header c.in-Some-Block.field-0-1 c.in-Some-Block.field-0-2 c.deref.ensures.value c.in-Some-Block.ensures.lookup.3.0 c.in-Some-Block.ensures.lookup.1 c.in-Some-Block.field-0-is in
    subst (λ (b : Header). Judges c.iteration_begins.result (flat.loop_step p b.to t c.args.retry (λ s. flat.while_step p b.while_test c.args.retry go ks s) ks (state_with rest ns old.memory)) go ks (state_with rest ns c.iteration_begins.new.memory)) at
    (c.iteration_begins.ensures.judges p rest ns t go ks (subst (λ r. Reads p rest ns old.memory old.status r) (sym c.as_slice.ensures) reads) e1 e2 e3)
