use Rattle.std.proofs.Common.{sym, ap, ◌∙◌}
use Rattle.std.proofs.lemmas.Bool.{lt-ltb, le-ltb}
use Rattle.block_meaning.specs.State.{Empty, Normal}
use Rattle.block_meaning.specs.Buffers.{holding_in}
use Rattle.database_protocol.specs.declared.operation.Op.TheVariants as op
use Rattle.flat_machine.specs.Config.{Unwind, WasGot}
use Rattle.flat_machine.specs.Steps.{ask, config, config_if, update_step}
use Rattle.client_memory.specs.Buffers.{denoted_content, denoted_held}
use Rattle.client_ends.proofs.refresh.refresh_of.Goals as goal

pub returns-in-Empty : goal.returns-in-Empty
returns-in-Empty c = λ at ks s. ap (λ x. update_step c.args.mark at c.args.buffer.now.table (denoted_content x) ks s) c.in-Empty.is

pub returns-then-mark-made : goal.returns-then-mark-made
returns-then-mark-made c = λ at ks s.
    ap (λ x. update_step c.args.mark at c.args.buffer.now.table (denoted_content x) ks s) c.in-Pending.is
    ∙ ap (λ b. config_if b (config (Unwind Normal) ks (holding_in at Empty s)) (config (Unwind Normal) ks s)) (lt-ltb c.args.mark c.in-Pending.made c.if-mark-made.true)

pub returns-else-mark-made : goal.returns-else-mark-made
returns-else-mark-made c = λ at ks s.
    ap (λ x. update_step c.args.mark at c.args.buffer.now.table (denoted_content x) ks s) c.in-Pending.is
    ∙ ap (λ b. config_if b (config (Unwind Normal) ks (holding_in at Empty s)) (config (Unwind Normal) ks s)) (le-ltb c.args.mark c.in-Pending.made c.if-mark-made.false)

pub returns-then-is_later : goal.returns-then-is_later
returns-then-is_later c = λ at ks s.
    ap (λ x. update_step c.args.mark at c.args.buffer.now.table (denoted_content x) ks s) c.in-Record.is
    ∙ ap (λ b. config_if b (config (Unwind Normal) ks (holding_in at Empty s)) (ask (op.Get c.args.buffer.now.table c.in-Record.row) (WasGot at c.in-Record.row (denoted_held c.in-Record.held) c.in-Record.made) ks s)) (sym c.is_later.ensures ∙ c.if-is_later.true)

pub returns-else-is_later : goal.returns-else-is_later
returns-else-is_later c = λ at ks s.
    ap (λ x. update_step c.args.mark at c.args.buffer.now.table (denoted_content x) ks s) c.in-Record.is
    ∙ ap (λ b. config_if b (config (Unwind Normal) ks (holding_in at Empty s)) (ask (op.Get c.args.buffer.now.table c.in-Record.row) (WasGot at c.in-Record.row (denoted_held c.in-Record.held) c.in-Record.made) ks s)) (sym c.is_later.ensures ∙ c.if-is_later.false)
