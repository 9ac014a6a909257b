use Rattle.std.proofs.Common.{◌≡◌, rules, sym, ◌∙◌, subst, w64}
use Rattle.std.specs.Prelude.{ℤ}
use Rattle.std.proofs.lemmas.Int.{to_z-of_z}
use Rattle.database_protocol.specs.declared.operation.Op.TheVariants.{CurrentValue}
use Rattle.database_protocol.specs.declared.answer.Answer.TheVariants.{Value as ValueAnswer}
use Rattle.database_meaning.specs.Answers.{FromGone, current_value}
use Rattle.db_core.proofs.SequenceRows.{sequence_read, value_stays}
use Rattle.db_core.proofs.sequences.decide_current_value.Goals as goal

pub returns-clause-answer : goal.returns-clause-answer
returns-clause-answer c = λ f rows s d represents.
    let read : current_value s c.args.sequence ≡ c.index.result.now =
    sequence_read c.args.control.now.sequences.items s.sequences c.from.result c.args.sequence c.index.result.now c.from.ensures c.requires c.index.ensures represents.sequences in
    subst (λ (v : ℤ). FromGone f s d (CurrentValue c.args.sequence) (ValueAnswer v)) (read ∙ sym (to_z-of_z w64 c.index.result.now (search rules))) (value_stays f s d c.args.sequence)
