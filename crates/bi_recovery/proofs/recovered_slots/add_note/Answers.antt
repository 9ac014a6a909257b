use Rattle.std.proofs.Common.{◌≡◌, ◌++◌, ◌∷◌, true, false, [], sym, ◌∙◌, ap, subst, arith}
use Rattle.std.specs.BTreeSet.{contains}
use Rattle.std.specs.Ordering.{nat_cmp}
use Rattle.std.proofs.lemmas.Grind.{common_steps}
use Rattle.log_meaning.specs.declared.note.Note.{Note}
use Rattle.log_meaning.specs.Recovered.{changes_of}
use Rattle.bi_recovery.specs.NoteSlots.{bytes_of, HasBytes}
use Rattle.bi_recovery.proofs.NoteSlots.{change_more, has_commit}
use Rattle.bi_recovery.proofs.recovered_slots.add_note.Goals as goal

pub returns-then-contains : goal.returns-then-contains
returns-then-contains c = λ before has s.
    let p = contains nat_cmp c.args.committed.now in
    let is : p c.in-Change.change.tx ≡ true = sym c.contains.ensures ∙ c.if-contains.true in
    let u = c.in_ok-insert-in-Change.ensures.updates in
    change_more p before c.in-Change.change c.args.slots.now s _ has (λ this. grind (arith, common_steps, u, is, this)) (λ other. grind (arith, common_steps, u, other))
    ∙ ap (λ (n : Note). bytes_of p (changes_of s (before ++ n ∷ []))) (sym c.in-Change.is)

pub returns-in-Commit : goal.returns-in-Commit
returns-in-Commit c = λ before has.
    subst (λ (n : Note). HasBytes (contains nat_cmp c.args.committed.now) (before ++ n ∷ []) c.args.slots.now) (sym c.in-Commit.is) (has_commit (contains nat_cmp c.args.committed.now) before c.in-Commit.field-0 c.args.slots.now has)

pub returns-in_ok-slots-in-Change : goal.returns-in_ok-slots-in-Change
returns-in_ok-slots-in-Change c = λ before has s.
    let p = contains nat_cmp c.args.committed.now in
    let not : p c.in-Change.change.tx ≡ false = sym c.contains.ensures ∙ c.if-contains.false in
    change_more p before c.in-Change.change c.args.slots.now s _ has (λ this. grind (arith, common_steps, not, this)) (λ other. grind (arith, common_steps, other))
    ∙ ap (λ (n : Note). bytes_of p (changes_of s (before ++ n ∷ []))) (sym c.in-Change.is)
