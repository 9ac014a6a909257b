-- Which writes keep the parts.
use Rattle.std.proofs.Common.{◌-◌, ℕ, refl, ap, ◌∙◌, subst, arith}
use Rattle.std.proofs.lemmas.Bool.Decides.{nat_tests}
use Rattle.disk_database.specs.Parts.{AreValues, values_at}
use Rattle.disk_database.proofs.Parts.{for_rows, in_values}
use Rattle.disk_database.proofs.guard.SlotGuardGuard.allows.Goals as goal

pub returns-then-slot-ge-AFTER_VALUES : goal.returns-then-slot-ge-AFTER_VALUES
returns-then-slot-ge-AFTER_VALUES g c = λ yes. for_rows g.K.Opening.schema g.K.Opening.images c.args.slot c.args.bytes.now c.args.self.now.short (grind (arith, nat_tests, yes))

pub returns : goal.returns
returns g c = λ yes.
    let number = c.args.slot - 5000 in
    in_values g.K.Opening.schema g.K.Opening.images c.args.slot number c.args.bytes.now c.args.self.now.short (omega (arith, c.if-slot-lt-FIRST_VALUES.false)) (omega (arith, c.if-slot-ge-AFTER_VALUES.false)) refl
    (subst (λ (n : ℕ). AreValues n c.args.bytes.now) (c.count_at.ensures.is ∙ ap (λ (n : ℕ). values_at n number) c.args.self.now.count) (c.are_values.ensures yes))
