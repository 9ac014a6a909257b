-- The store and the machine are those of the new contents.
use Rattle.std.proofs.Common.{◌≡◌, ◌∙◌, List, [], refl, sym, ap, subst}
use Rattle.std.specs.Prelude.{map}
use Rattle.storage.specs.Slots.{SlotState}
use Rattle.abl_values.specs.declared.schema.SequenceDef.{SequenceDef}
use Rattle.byte_rows.specs.Places.{HoldNothing}
use Rattle.new_database.specs.Contents.{new_contents}
use Rattle.sequence_slots.specs.Values.{HoldValues}
use Rattle.new_database.proofs.Empty.{hold_no_value, hold_nothing, is_opened, sound}
use Rattle.new_database.proofs.database.open.Goals as goal

pub new-requires-2-clause-idle : goal.new-requires-2-clause-idle
new-requires-2-clause-idle c = λ client. ap (λ (s : SlotState). (s.transaction client).begun) c.in_ok-slots.ensures

pub new-requires-2-clause-clean : goal.new-requires-2-clause-clean
new-requires-2-clause-clean c = λ client. ap (λ (s : SlotState). (s.transaction client).undo) c.in_ok-slots.ensures

pub new-requires-2-clause-empty : goal.new-requires-2-clause-empty
new-requires-2-clause-empty c = λ readable. subst (λ (s : SlotState). HoldNothing s.reads) (sym c.in_ok-slots.ensures) hold_nothing

pub new-requires-2-clause-none : goal.new-requires-2-clause-none
new-requires-2-clause-none c = λ readable. subst (λ (s : SlotState). HoldValues s.committed []) (sym c.in_ok-slots.ensures) hold_no_value

pub new-requires-2-clause-settled : goal.new-requires-2-clause-settled
new-requires-2-clause-settled c = λ readable k. subst (λ (s : SlotState). s.committed k ≡ s.reads k) (sym c.in_ok-slots.ensures) refl

pub new-requires-2-clause-stops : goal.new-requires-2-clause-stops
new-requires-2-clause-stops c = λ committed m left none. absurd none

pub new-requires-in-Ok-clause-opened : goal.new-requires-in-Ok-clause-opened
new-requires-in-Ok-clause-opened c =
    let schema = c.args.schema in
    (new_contents schema, is_opened _ schema c.in-Ok.ensures.idle c.in-Ok.ensures.empty, c.in_ok-sequences.ensures ∙ ap (λ (s : List SequenceDef). map (λ (x : SequenceDef). x.initial) s) c.sequences.ensures)

pub returns-in-Ok-new : goal.returns-in-Ok-new
returns-in-Ok-new c =
    let schema = c.args.schema in
    let e = c.in-Ok-new.ensures in
    record {
      opened =
          e.opened (new_contents schema) (is_opened _ schema c.in-Ok.ensures.idle c.in-Ok.ensures.empty)
          (c.in_ok-sequences.ensures ∙ ap (λ (s : List SequenceDef). map (λ (x : SequenceDef). x.initial) s) c.sequences.ensures) refl (sound schema c.args.clients) (λ first known. absurd known.1);
      active = e.active;
      trace = e.trace;
    }
