use Rattle.std.proofs.Common.{◌≤◌, List, ℕ, length, map, sym, ap, subst, ◌∙◌, arith}
use Rattle.abl_values.specs.declared.schema.SequenceDef.{SequenceDef}
use Rattle.abl_base.specs.declared.limits.TheConstants.{MAX_NAME_BYTES}
use Rattle.abl_values.specs.Schema.{number_of_name}
use Rattle.schema_reader.proofs.KeptItems.{sequence_next}
use Rattle.schema_reader.proofs.meaning.sequences_of.Goals as goal

pub add-requires-clause-short : goal.add-requires-clause-short
add-requires-clause-short c =
    subst (λ (s : SequenceDef). length s.name ≤ MAX_NAME_BYTES) (sym c.in_ok-sequence.ensures)
    (sequence_next c.args.items.now c.loop-item.item-index c.requires c.item-item.result (omega arith) c.item-item.is c.in-Sequence.name c.in-Sequence.is).0

pub add-requires-clause-free : goal.add-requires-clause-free
add-requires-clause-free c =
    let one = (sequence_next c.args.items.now c.loop-item.item-index c.requires c.item-item.result (omega arith) c.item-item.is c.in-Sequence.name c.in-Sequence.is).1 in
    ap (λ (n : List ℕ). number_of_name 0 (map (λ (s : SequenceDef). s.name) c.loop-item.sequences) n) (ap (λ (s : SequenceDef). s.name) c.in_ok-sequence.ensures)
    ∙ ap (λ (ss : List SequenceDef). number_of_name 0 (map (λ s. s.name) ss) c.in-Sequence.name) c.loop-item.invariant ∙ one
