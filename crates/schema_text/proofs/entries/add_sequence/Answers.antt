use Rattle.std.proofs.lemmas.Result.{err_from_is_err_and}
use Rattle.std.proofs.Common.{sym, ap, subst, refl, ◌∙◌, map, arith}
use Rattle.abl_values.specs.declared.schema.SequenceDef.{SequenceDef}
use Rattle.abl_values.specs.Schema.{lines_in_order, number_of_name}
use Rattle.abl_values.specs.Sound.{IsSound}
use Rattle.schema_text.specs.Written.{IsHeld}
use Rattle.schema_text.proofs.Begun.{after_sequence, held_sequence, next_sequence, one_sequence_more, sequence_free, sequences_few, sound_sequence}
use Rattle.schema_text.proofs.Names.{short_name}
use Rattle.schema_text.proofs.Told.{sequence_at-written}
use Rattle.schema_text.proofs.entries.add_sequence.Goals as goal

pub returns-then-len-ge-MAX_SEQUENCES-clause-sequence : goal.returns-then-len-ge-MAX_SEQUENCES-clause-sequence
returns-then-len-ge-MAX_SEQUENCES-clause-sequence c s w b begun =
    let n = next_sequence s c.args.entries.now c.args.text.now begun b in
    absurd (omega (arith, sequences_few s c.args.entries.now c.args.text.now w n))

pub returns-in_err-sequence-clause-sequence : goal.returns-in_err-sequence-clause-sequence
returns-in_err-sequence-clause-sequence c s w b begun =
    let n = next_sequence s c.args.entries.now c.args.text.now begun b in
    let written = sequence_at-written s w c.args.entries.now.sequences n.sequence n.sequences n.all_sequences in
    let err = err_from_is_err_and c.from_residual.result c.from_residual.ensures.1 in
    rw (err.1, err.2) (c.in_err-sequence.ensures.sequence n.sequence (lines_in_order n.order n.tables n.sequences) written n.others)

pub returns-in_err-add-clause-sequence : goal.returns-in_err-add-clause-sequence
returns-in_err-add-clause-sequence c s w b begun =
    let n = next_sequence s c.args.entries.now c.args.text.now begun b in
    let written = sequence_at-written s w c.args.entries.now.sequences n.sequence n.sequences n.all_sequences in
    let same = c.in_ok-sequence.ensures.sequence n.sequence (lines_in_order n.order n.tables n.sequences) written n.others in
    let err = err_from_is_err_and c.from_residual-in_err-add.result c.from_residual-in_err-add.ensures.1 in
    rw (err.1, err.2) (c.in_err-add.ensures.refused (short_name c.in_ok-sequence.sequence.name c.in_ok-sequence.ensures.sound.name)
    (ap (λ (u : SequenceDef). number_of_name 0 (map (λ v. v.name) c.args.entries.now.sequences) u.name) same.0 ∙ sequence_free s c.args.entries.now c.args.text.now w n))

pub returns-clause-sequence : goal.returns-clause-sequence
returns-clause-sequence c s w b begun =
    let n = next_sequence s c.args.entries.now c.args.text.now begun b in
    let written = sequence_at-written s w c.args.entries.now.sequences n.sequence n.sequences n.all_sequences in
    let same = c.in_ok-sequence.ensures.sequence n.sequence (lines_in_order n.order n.tables n.sequences) written n.others in
    after_sequence s c.args.entries.now _ c.args.text.now c.in_ok-sequence.rest.now n c.in_ok-sequence.sequence same.0 refl c.in_ok-add.ensures.added c.in_ok-push.ensures.ok same.1

pub returns-clause-sound : goal.returns-clause-sound
returns-clause-sound c h =
    subst IsSound (sym (one_sequence_more c.args.entries.now _ c.in_ok-sequence.sequence refl c.in_ok-add.ensures.added c.in_ok-push.ensures.ok))
    (sound_sequence c.args.entries.now.tables c.args.entries.now.sequences c.args.entries.now.order c.in_ok-sequence.sequence h c.in_ok-sequence.ensures.sound)

pub returns-clause-held : goal.returns-clause-held
returns-clause-held c h =
    subst IsHeld (sym (one_sequence_more c.args.entries.now _ c.in_ok-sequence.sequence refl c.in_ok-add.ensures.added c.in_ok-push.ensures.ok))
    (held_sequence c.args.entries.now.tables c.args.entries.now.sequences c.args.entries.now.order c.in_ok-sequence.sequence h c.in_ok-add.ensures.free (omega arith))
