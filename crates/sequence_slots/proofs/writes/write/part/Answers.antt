use Rattle.std.proofs.Common.{◌-◌, ℕ, ℤ, List, length, take, drop, min, ap, ◌∙◌}
use Rattle.std.proofs.lemmas.List.{take_rest}
use Rattle.sequence_slots.proofs.WritesLemmas.Low.{part_is}
use Rattle.sequence_slots.proofs.writes.write.part.Goals as goal

pub returns-clause-is : goal.returns-clause-is
returns-clause-is c =
    let values = c.args.values.now in
    let from = c.min-from.result in
    ap (λ (n : ℕ). take n (take (length values - from) (drop from values))) c.min.ensures
    ∙ (ap (λ (xs : List ℤ). take (min (length xs) 30) xs) (take_rest values from) ∙ part_is c.args.number from values c.min-from.ensures)
