use Rattle.std.proofs.Common.{ap, ◌∙◌}
use Rattle.std.proofs.lemmas.Result.{IfOk-weaker}
use Rattle.flat_machine.specs.Steps.{enter_step}
use Rattle.client_memory.specs.Buffers.{denoted_content}
use Rattle.client_ends.proofs.insertion.insertion_of.Goals as goal

pub returns-in-Empty : goal.returns-in-Empty
returns-in-Empty c = λ p tables at ks s. ap (λ x. enter_step p at c.args.buffer.now.table (denoted_content x) ks s) c.in-Empty.is

pub returns-in-Record : goal.returns-in-Record
returns-in-Record c = λ p tables at ks s. ap (λ x. enter_step p at c.args.buffer.now.table (denoted_content x) ks s) c.in-Record.is

pub returns-in-Pending : goal.returns-in-Pending
returns-in-Pending c = IfOk-weaker c.inserted.result _ _ (λ step h p tables at ks s. ap (λ x. enter_step p at c.args.buffer.now.table (denoted_content x) ks s) c.in-Pending.is ∙ h p tables at ks s) c.inserted.ensures
