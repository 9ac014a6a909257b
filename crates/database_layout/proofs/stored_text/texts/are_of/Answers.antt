use Rattle.std.proofs.Common.{rules, ◌≡◌, ℕ, [], length, get_or, inl, inr, sym, ◌∙◌, subst, arith}
use Rattle.std.proofs.lemmas.Bool.{cases_eq}
use Rattle.database_layout.specs.contents.Chains.{chain_slot, counted}
use Rattle.database_layout.proofs.stored_text.texts.are_of.Goals as goal

pub loop-i-preserved : goal.loop-i-preserved
loop-i-preserved c = λ k lt.
    let here : get_or c.args.slots.now c.loop-i.i [] ≡ c.text_slot.result = search rules in
    elim (cases_eq k c.loop-i.i) [
      | inl e ↦ subst (λ (n : ℕ). get_or c.args.slots.now n [] ≡ chain_slot 3 3 0 (counted 1 (length c.args.slots.now)) c.args.text.now n) (sym e) (here ∙ c.text_slot.ensures)
      | inr ne ↦ c.loop-i.invariant k (omega (arith, lt, ne))
    ]
