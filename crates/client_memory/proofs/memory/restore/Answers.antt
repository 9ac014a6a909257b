use Rattle.std.proofs.Common.{sym, ◌∙◌, ◌≤◌, length, reverse, arith}
use Rattle.client_memory.specs.OldValues.{old_values_of}
use Rattle.client_memory.proofs.Remembers.{length_olds}
use Rattle.client_memory.proofs.Copies.{values_stay, old_values_stay}
use Rattle.client_memory.proofs.memory.restore.Goals as goal

pub returns-clause-values : goal.returns-clause-values
returns-clause-values c =
    let le : length (reverse (old_values_of c.loop-old_values.old_values.items)) ≤ c.args.at = omega (arith, length_olds c.loop-old_values.old_values.items, c.loop-old_values.old_values.ok.0) in
    sym (values_stay c.args.at (reverse (old_values_of c.loop-old_values.old_values.items)) c.loop-old_values.frames.items le) ∙ c.loop-old_values.invariant.values_same

pub returns-clause-old_values : goal.returns-clause-old_values
returns-clause-old_values c =
    let le : length (reverse (old_values_of c.loop-old_values.old_values.items)) ≤ c.args.at = omega (arith, length_olds c.loop-old_values.old_values.items, c.loop-old_values.old_values.ok.0) in
    sym (old_values_stay c.args.at (reverse (old_values_of c.loop-old_values.old_values.items)) le) ∙ c.loop-old_values.invariant.olds_same
