use Rattle.std.proofs.Common.{◌≡◌, rules, sym, ◌∙◌, subst, w64, to_z, of_z}
use Rattle.std.specs.Prelude.{ℤ, FitsSigned}
use Rattle.std.proofs.lemmas.Int.{to_z-of_z}
use Rattle.database_protocol.specs.declared.operation.Op.TheVariants.{NextValue}
use Rattle.database_protocol.specs.declared.answer.Answer.TheVariants.{Value as ValueAnswer}
use Rattle.database_meaning.specs.Answers.{FromGone, current_value}
use Rattle.db_core.proofs.SequenceRows.{sequence_read, sum_is, value_ends, value_moves}
use Rattle.db_core.proofs.sequences.decide_next_value.Goals as goal

pub returns-in-None-clause-answer : goal.returns-in-None-clause-answer
returns-in-None-clause-answer c = λ f rows s d represents increment.
    let read : current_value s c.args.sequence ≡ c.index-current.result.now =
    sequence_read c.args.control.now.sequences.items s.sequences c.from.result c.args.sequence c.index-current.result.now c.from.ensures c.requires c.index-current.ensures represents.sequences in
    let sum = sum_is f s c.args.sequence c.index-current.result.now c.args.increment (to_z w64 (of_z w64 c.index-current.result.now)) (to_z w64 (of_z w64 c.args.increment)) read increment (to_z-of_z w64 c.index-current.result.now (search rules)) (to_z-of_z w64 c.args.increment c.ranges.increment) in
    value_ends f s d c.args.sequence (subst (λ (v : ℤ). ¬ FitsSigned w64 v) (sym sum) c.in-None.ensures)

pub returns-in-Some-clause-answer : goal.returns-in-Some-clause-answer
returns-in-Some-clause-answer c = λ f rows s d represents increment.
    let read : current_value s c.args.sequence ≡ c.index-current.result.now =
    sequence_read c.args.control.now.sequences.items s.sequences c.from.result c.args.sequence c.index-current.result.now c.from.ensures c.requires c.index-current.ensures represents.sequences in
    let sum = sum_is f s c.args.sequence c.index-current.result.now c.args.increment (to_z w64 (of_z w64 c.index-current.result.now)) (to_z w64 (of_z w64 c.args.increment)) read increment (to_z-of_z w64 c.index-current.result.now (search rules)) (to_z-of_z w64 c.args.increment c.ranges.increment) in
    subst (λ (v : ℤ). FromGone f s d (NextValue c.args.sequence) (ValueAnswer v)) (sum ∙ (sym c.in-Some.ensures.1 ∙ sym (to_z-of_z w64 c.in-Some.value (search rules))))
    (value_moves f s d c.args.sequence (subst (λ (v : ℤ). FitsSigned w64 v) (sym sum) c.in-Some.ensures.0))

same_value : (a b : ℤ) → ValueAnswer a ≡ ValueAnswer b → b ≡ a
same_value a b e = cc

pub returns-in-Some-clause-value : goal.returns-in-Some-clause-value
returns-in-Some-clause-value c = λ f rows s value represents increment is.
    let read : current_value s c.args.sequence ≡ c.index-current.result.now =
    sequence_read c.args.control.now.sequences.items s.sequences c.from.result c.args.sequence c.index-current.result.now c.from.ensures c.requires c.index-current.ensures represents.sequences in
    let sum = sum_is f s c.args.sequence c.index-current.result.now c.args.increment (to_z w64 (of_z w64 c.index-current.result.now)) (to_z w64 (of_z w64 c.args.increment)) read increment (to_z-of_z w64 c.index-current.result.now (search rules)) (to_z-of_z w64 c.args.increment c.ranges.increment) in
    same_value (to_z w64 (of_z w64 c.in-Some.value)) value is ∙ sym (sum ∙ (sym c.in-Some.ensures.1 ∙ sym (to_z-of_z w64 c.in-Some.value (search rules))))
