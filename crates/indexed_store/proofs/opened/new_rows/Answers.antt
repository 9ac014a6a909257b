use Rattle.std.proofs.Common.{◌≡◌, ℕ, Bool, [], None, IsTrue, refl, sym, ap, ◌∙◌, subst}
use Rattle.storage.specs.Slots.{IsReadable}
use Rattle.abl_values.specs.Schema.{SchemaData}
use Rattle.row_store.specs.Rows.{Commits, RowTransaction}
use Rattle.slot_rows.specs.Decoded.{decoded}
use Rattle.slot_rows.specs.State.{state_of}
use Rattle.indexed_store.specs.State.{IsNewStore, initial_values, no_reserved}
use Rattle.indexed_store.proofs.NewStore.{new_by_commit}
use Rattle.indexed_store.proofs.opened.new_rows.Goals as goal

pub commit-requires-clause-fine : goal.commit-requires-clause-fine
commit-requires-clause-fine g c =
    let begins = c.in_ok-begin.ensures.ok no_reserved [] refl in
    begins.base.failed ∙ (ap (λ x. (g.S.Slots.state x).failed) c.in-Ok.ensures.same ∙ c.requires.fine)

pub commit-requires-clause-begun : goal.commit-requires-clause-begun
commit-requires-clause-begun g c =
    let begins = c.in_ok-begin.ensures.ok no_reserved [] refl in
    ap (λ (t : RowTransaction). t.begun) begins.transaction.own

pub returns-clause-new : goal.returns-clause-new
returns-clause-new g c =
    let rows = c.in-Ok.rows in
    let first = rows.opens.items in
    let second = c.begin.new.self.opens.items in
    let third = c.commit.new.self.opens.items in
    let values = c.args.values.now in
    let s = g.S.Slots.state rows.chains.slots in
    let m = g.S.Slots.state c.begin.new.self.chains.slots in
    let t = g.S.Slots.state c.commit.new.self.chains.slots in
    let e = c.in-Ok.ensures in
    let begins = c.in_ok-begin.ensures.ok no_reserved [] refl in
    let commits : Commits (state_of rows.schema no_reserved [] m second) (state_of rows.schema no_reserved values t third) 0 values =
    subst (λ (x : SchemaData). Commits (state_of x no_reserved [] m second) (state_of x no_reserved values t third) 0 values) c.begin.ensures.schema (c.in_ok-commit.ensures.ok no_reserved no_reserved [] values refl (λ d ne. refl)) in
    let new : IsNewStore (state_of rows.schema no_reserved values t third) rows.schema =
    new_by_commit rows.schema s m t first second third values rows.stored (λ k. ap (λ x. ((g.S.Slots.state x).transaction k).begun) e.same ∙ c.requires.idle k)
    (ap (λ x. (g.S.Slots.state x).failed) e.same ∙ c.requires.fine)
    (subst (λ (x : SchemaData). (k : ℕ) → IsReadable s → decoded x s.reads k ≡ None) (sym e.schema)
    (subst (λ x. (k : ℕ) → IsReadable (g.S.Slots.state x) → decoded c.args.schema (g.S.Slots.state x).reads k ≡ None) (sym e.same) e.rows))
    (subst (λ (x : SchemaData). (k : ℕ) → IsReadable s → decoded x s.committed k ≡ None) (sym e.schema)
    (subst (λ x. (k : ℕ) → IsReadable (g.S.Slots.state x) → decoded c.args.schema (g.S.Slots.state x).committed k ≡ None) (sym e.same) e.committed))
    begins commits (c.requires.values ∙ ap initial_values (sym e.schema)) in
    subst (λ (x : SchemaData). IsNewStore (state_of x no_reserved values t third) c.args.schema) (sym (c.commit.ensures.schema ∙ c.begin.ensures.schema))
    (subst (λ (y : SchemaData). IsNewStore (state_of rows.schema no_reserved values t third) y) e.schema new)

pub returns-clause-held : goal.returns-clause-held
returns-clause-held g c = λ seen.
    let begins = c.in_ok-begin.ensures.ok no_reserved [] refl in
    c.in_ok-commit.ensures.held (subst (λ (b : Bool). IsTrue b) c.commit.ensures.observable seen, begins.base.failed ∙ (ap (λ x. (g.S.Slots.state x).failed) c.in-Ok.ensures.same ∙ c.requires.fine))
