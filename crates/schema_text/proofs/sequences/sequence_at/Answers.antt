use Rattle.std.proofs.lemmas.Result.{err_from_is_err_and}
use Rattle.std.proofs.Common.{◌≡◌, ◌∷◌, [], None, Some, sym, ◌∙◌, rules}
use Rattle.std.proofs.lemmas.Option.{none-some}
use Rattle.std.proofs.lemmas.Int.{to_z-of_z}
use Rattle.std.proofs.Common.{w64}
use Rattle.abl_values.proofs.RowLaws.{fits_signed}
use Rattle.abl_base.specs.declared.value.Kind.TheVariants as kind
use Rattle.abl_base.specs.declared.value.Value.TheVariants.{Int64}
use Rattle.schema_text.specs.Words.{name_after}
use Rattle.schema_text.proofs.Exported.{row_is_read}
use Rattle.schema_text.proofs.Started.{sequence_is, sequence_started, sequence_there}
use Rattle.schema_text.proofs.sequences.sequence_at.Goals as goal

pub returns-in_default-clause-sequence : goal.returns-in_default-clause-sequence
returns-in_default-clause-sequence c q r w e =
    let none : name_after 83 32 c.args.text.now ≡ None = search rules in
    absurd (none-some _ (sym none ∙ sequence_there q r c.args.text.now w e))

pub returns-in_err-values-clause-sequence : goal.returns-in_err-values-clause-sequence
returns-in_err-values-clause-sequence c q r w e =
    let st = sequence_started q r c.args.text.now _ w e c.in-Some.ensures.name in
    let b = row_is_read (kind.Int64 ∷ kind.Int64 ∷ []) (Int64 q.initial ∷ Int64 q.increment ∷ []) c.in-Some.name.rest.now r (w.sound.initial, (w.sound.increment, tt)) st.1 in
    let err = err_from_is_err_and c.from_residual.result c.from_residual.ensures.1 in
    rw (err.1, err.2) (c.in_err-values.ensures.values (Some (Int64 q.initial) ∷ Some (Int64 q.increment) ∷ []) b.next b.within b.line)

pub returns-in_default-numbers_of-clause-sequence : goal.returns-in_default-numbers_of-clause-sequence
returns-in_default-numbers_of-clause-sequence c q r w e =
    let st = sequence_started q r c.args.text.now _ w e c.in-Some.ensures.name in
    let b = row_is_read (kind.Int64 ∷ kind.Int64 ∷ []) (Int64 q.initial ∷ Int64 q.increment ∷ []) c.in-Some.name.rest.now r (w.sound.initial, (w.sound.increment, tt)) st.1 in
    let read = c.in_ok-values.ensures.values (Some (Int64 q.initial) ∷ Some (Int64 q.increment) ∷ []) b.next b.within b.line in
    absurd (c.in_default-numbers_of.ensures.numbers q.initial q.increment (c.as_slice.ensures ∙ read.0))

pub returns-clause-sequence : goal.returns-clause-sequence
returns-clause-sequence c q r w e =
    let st = sequence_started q r c.args.text.now _ w e c.in-Some.ensures.name in
    let b = row_is_read (kind.Int64 ∷ kind.Int64 ∷ []) (Int64 q.initial ∷ Int64 q.increment ∷ []) c.in-Some.name.rest.now r (w.sound.initial, (w.sound.increment, tt)) st.1 in
    let read = c.in_ok-values.ensures.values (Some (Int64 q.initial) ∷ Some (Int64 q.increment) ∷ []) b.next b.within b.line in
    let n = c.in-Some-numbers_of.ensures.numbers q.initial q.increment (c.as_slice.ensures ∙ read.0) in
    let fits = c.in-Some-numbers_of.ensures.within in (
      sequence_is q c.in_ok-of.field-0 _ _ w.told (c.in_ok-of.ensures ∙ st.0)
          (to_z-of_z w64 c.in-Some-numbers_of.numbers.initial (fits_signed w64 c.in-Some-numbers_of.numbers.initial fits.0) ∙ n.0)
          (to_z-of_z w64 c.in-Some-numbers_of.numbers.increment (fits_signed w64 c.in-Some-numbers_of.numbers.increment fits.1) ∙ n.1),
      read.1 ∙ b.after,
    )
