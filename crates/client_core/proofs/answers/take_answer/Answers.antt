use Rattle.std.proofs.Common.{sym, ◌∙◌}
use Rattle.client_machine.proofs.RunKept.{on_ok}
use Rattle.client_machine.proofs.Answered.{answer_keeps}
use Rattle.client_core.proofs.answers.take_answer.Goals as goal

pub returns-in-Await-clause-ok : goal.returns-in-Await-clause-ok
returns-in-Await-clause-ok c = on_ok c.answered.result (λ d asks. answer_keeps c.in-Await.op c.in-Await.on_answer c.args.answer _ c.args.machine.now c.answered.new.machine (sym c.in-Await.is ∙ c.replace.ensures.value) d) c.answered.ensures.ok
