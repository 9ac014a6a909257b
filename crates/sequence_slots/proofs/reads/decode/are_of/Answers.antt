use Rattle.std.proofs.Common.{◌≡◌, ℕ, Bool, true, false, not, [], get_or, inl, inr, refl, sym, ap, ◌∙◌, subst, arith}
use Rattle.std.proofs.lemmas.Bool.{cases_eq}
use Rattle.std.specs.Cmp.Lexicographic.{bytes_decides}
use Rattle.sequence_slots.specs.Values.{part, slot_bytes}
use Rattle.sequence_slots.proofs.reads.decode.are_of.Goals as goal

not_false : (b : Bool) → not b ≡ false → b ≡ true
not_false true e = refl
not_false false e = absurd (cc e)

pub loop-number-preserved : goal.loop-number-preserved
loop-number-preserved c = λ k lt.
    let here : get_or c.args.slots.now c.loop-number.number [] ≡ c.slot_of.result = (bytes_decides (get_or c.args.slots.now c.loop-number.number []) c.slot_of.result).0 (not_false _ (sym c.ne.ensures ∙ c.if-ne.false)) in
    elim (cases_eq k c.loop-number.number) [
      | inl e ↦ subst (λ (n : ℕ). get_or c.args.slots.now n [] ≡ slot_bytes (part n c.args.values.now)) (sym e) (here ∙ c.slot_of.ensures ∙ ap slot_bytes c.part_of-part.ensures.is)
      | inr ne ↦ c.loop-number.invariant k (omega (arith, lt, ne))
    ]
