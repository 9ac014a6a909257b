use Rattle.std.proofs.Common.{Bool, ◌||◌, List, [], ◌∷◌, take, get_or, sym, ◌∙◌, ap, arith}
use Rattle.std.proofs.lemmas.List.{take_more}
use Rattle.log_meaning.specs.declared.note.Note.{Note}
use Rattle.log_meaning.specs.declared.note.Note.TheVariants.{Change as Changed}
use Rattle.log_meaning.specs.Recovered.{is_committed}
use Rattle.log_meaning.proofs.Notes.{is_committed-append}
use Rattle.bi_recovery.proofs.recovered_slots.committed_numbers.Goals as goal

abbrev no_note : Note
no_note = Changed (record { tx = 0; slot = 0; old = []; new = [] })

pub loop-note-preserved : goal.loop-note-preserved
loop-note-preserved c = λ tx.
    let n = get_or c.args.notes.now c.loop-note.note-index no_note in
    c.in_ok-add_number.ensures tx
    ∙ ap (λ (b : Bool). b || is_committed (n ∷ []) tx) (c.loop-note.invariant tx)
    ∙ sym (ap (λ (l : List Note). is_committed l tx) (take_more c.args.notes.now c.loop-note.note-index no_note (omega arith)) ∙ is_committed-append (take c.loop-note.note-index c.args.notes.now) (n ∷ []) tx)
