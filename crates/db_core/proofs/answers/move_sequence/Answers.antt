use Rattle.std.proofs.Common.{w64, subst, rules}
use Rattle.std.specs.Prelude.{ℤ, slice_set}
use Rattle.std.proofs.lemmas.Int.{to_z-of_z}
use Rattle.db_core.specs.Moves.{Sets}
use Rattle.db_core.proofs.Drops.{sequence_represents, stay_sound}
use Rattle.db_core.proofs.answers.move_sequence.Goals as goal

pub returns-clause-represents : goal.returns-clause-represents
returns-clause-represents c = λ f rows s is represents. sequence_represents f rows c.args.control.now c.set_sequence.new.control s c.args.client c.args.sequence c.args.value is
    (subst (λ (v : ℤ). Sets c.args.control.now c.args.client (slice_set c.args.control.now.sequences.items c.args.sequence v) c.set_sequence.new.control) (to_z-of_z w64 c.args.value c.ranges.value) c.set_sequence.ensures) represents

pub returns-clause-sound : goal.returns-clause-sound
returns-clause-sound c = λ rows sound. stay_sound rows c.args.control.now c.set_sequence.new.control c.args.client _ c.set_sequence.ensures.client sound

pub returns-clause-counts : goal.returns-clause-counts
returns-clause-counts c =
    let sets = c.set_sequence.ensures in
    record { clients = sets.client.count; sequences = (search rules); frees = sets.frees }
