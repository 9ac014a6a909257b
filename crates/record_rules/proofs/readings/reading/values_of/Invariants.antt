use Rattle.std.proofs.Common.{◌≡◌, Bool, drop}
use Rattle.evaluator.specs.Forms.{AreForms}
use Rattle.block_meaning.specs.Program.{Program}
use Rattle.block_meaning.specs.State.{State}
use Rattle.block_meaning.specs.Values.{env_of, values_now}
use Rattle.record_rules.proofs.ReadingsLemmas.InOrder.{all_after, expressions}
use Rattle.record_rules.proofs.readings.reading.values_of.Given as goal

-- the values so far, before those of the expressions to come
abbrev pub invariant-loop-part : goal.invariant-loop-part
invariant-loop-part g l =
    (p : Program) (retry : Bool) (s : State) → AreForms p.forms → env_of retry s ≡ g.S.Surroundings.env l.surroundings →
    values_now p (expressions l.bracket) retry s ≡ all_after l.values.items (values_now p (expressions (drop l.part-index l.bracket)) retry s)
