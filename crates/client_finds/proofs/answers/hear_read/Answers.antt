use Rattle.std.proofs.Common.{Option, List, ap, sym, subst}
use Rattle.abl_base.specs.declared.value.Value.{Value}
use Rattle.block_meaning.specs.Views as views
use Rattle.flat_machine.specs.Flat as flat
use Rattle.client_machine.specs.declared.mode.OnAnswer.TheVariants as on_answer
use Rattle.client_machine.specs.declared.mode.reads.ReadAnswer.TheVariants as read_answer
use Rattle.client_machine.specs.Config.{reading_at, search_of}
use Rattle.client_machine.specs.KeepsFrom.{KeepsFrom}
use Rattle.client_machine.specs.Machine.{stack_in}
use Rattle.client_memory.specs.Buffers.{denoted_held}
use Rattle.client_finds.specs.Steps.{instrs_in}
use Rattle.client_finds.proofs.Kept.{answer_from, on_ok}
use Rattle.client_finds.proofs.answers.hear_read.Goals as goal

pub returns-clause-ok : goal.returns-clause-ok
returns-clause-ok c =
    let old = c.args.machine.now in
    on_ok c.was_read.result (λ keeps.
    answer_from c.args.op (on_answer.Read (read_answer.WasRead c.args.place c.args.retry c.args.row c.args.held)) c.args.answer old c.was_read.new.machine c.requires (λ o. o)
    (subst (λ (x : Option (List Value)). KeepsFrom (λ p s. flat.read_answered p x (reading_at (instrs_in old) c.args.place) c.args.retry c.args.row (denoted_held c.args.held) (stack_in old) s) old c.was_read.new.machine) c.values_in-values.ensures keeps)) c.was_read.ensures.ok
