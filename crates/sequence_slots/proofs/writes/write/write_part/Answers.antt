use Rattle.std.proofs.Common.{◌≡◌, ◌+◌, ◌<◌, ◌∙◌, ℕ, true, ap, arith}
use Rattle.std.proofs.lemmas.Bool.Decides.{nat_tests}
use Rattle.std.proofs.lemmas.Slice.Eq.{slice_eq-Decides}
use Rattle.std.specs.Cmp.{signed_Decides}
use Rattle.row_fragments.specs.Fragments.{ends}
use Rattle.row_fragments.proofs.Composes.{on_ok}
use Rattle.sequence_slots.specs.Values.{slot_bytes}
use Rattle.sequence_slots.proofs.WritesLemmas.Low.{by_others, by_write, low_by}
use Rattle.sequence_slots.proofs.writes.write.write_part.Goals as goal

outside : (k : ℕ) → k < 9 → ends (5000 + k) ≡ true
outside k lt = grind (arith, nat_tests, lt)

pub returns-then-eq-clause-here : goal.returns-then-eq-clause-here
returns-then-eq-clause-here g c = λ readable was.
    was ∙ ap slot_bytes ((slice_eq-Decides signed_Decides c.args.stored.now c.args.values.now c.eq.result c.eq.ensures).0 c.if-eq.true)

pub returns-clause-ok : goal.returns-clause-ok
returns-clause-ok g c =
    low_by c.write.result (g.S.Slots.state c.args.chains.now.slots) (g.S.Slots.state c.write.new.self.slots) c.args.client (5000 + c.args.number) c.slot_of.result (outside c.args.number c.requires.number) c.write.ensures.cause c.write.ensures.ok

pub returns-clause-here : goal.returns-clause-here
returns-clause-here g c =
    on_ok c.write.result c.write.ensures.ok
    (λ w readable was. by_write (g.S.Slots.state c.args.chains.now.slots) (g.S.Slots.state c.write.new.self.slots) c.args.client (5000 + c.args.number) c.slot_of.result w readable ∙ c.slot_of.ensures)

pub returns-clause-others : goal.returns-clause-others
returns-clause-others g c =
    on_ok c.write.result c.write.ensures.ok (λ w. by_others (g.S.Slots.state c.args.chains.now.slots) (g.S.Slots.state c.write.new.self.slots) c.args.client (5000 + c.args.number) c.slot_of.result w)
