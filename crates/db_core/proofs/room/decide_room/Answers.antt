use Rattle.std.proofs.Common.{◌∙◌, ℕ, ◌<◌, sym, subst, refl, inl, inr}
use Rattle.abl_base.specs.declared.limits.TheConstants.{MAX_FRAGMENTS, MAX_SLOT_WRITES}
use Rattle.row_store.proofs.AnswersLemmas.TableLaws.{false_no}
use Rattle.db_core.proofs.WriteRows.{draws_path, drawing_writes, writes_path}
use Rattle.db_core.proofs.room.decide_room.Goals as goal

pub returns-then-passes-clause-answer : goal.returns-then-passes-clause-answer
returns-then-passes-clause-answer g c = λ f s op represents seen drawing d w.
    let path = draws_path f (g.R.RowStore.state c.args.rows.now) c.args.control.now s represents c.requires.sound (g.met.R.RowStore.consistent c.args.rows.now) seen c.requires.few op c.used.result c.saturating_sub-drawn.result (c.used.ensures seen) (d ∙ sym c.saturating_sub-drawn.ensures) in
    inl ((drawing, subst (λ (k : ℕ). MAX_FRAGMENTS < k) path (c.passes.ensures.0 c.if-passes.true)), refl)

pub returns-then-passes-2-clause-answer : goal.returns-then-passes-2-clause-answer
returns-then-passes-2-clause-answer g c = λ f s op represents seen drawing d w.
    let rows = g.R.RowStore.state c.args.rows.now in
    let settled = g.met.R.RowStore.consistent c.args.rows.now in
    let path = draws_path f rows c.args.control.now s represents c.requires.sound settled seen c.requires.few op c.used.result c.saturating_sub-drawn.result (c.used.ensures seen) (d ∙ sym c.saturating_sub-drawn.ensures) in
    let more = writes_path f rows c.args.control.now s represents c.requires.sound settled seen c.requires.few c.args.client op c.written.result c.max.result c.written.ensures (w ∙ sym c.max.ensures) in
    inr (
      (λ full. false_no c.passes.result _ c.passes.ensures c.if-passes.false (subst (λ (k : ℕ). MAX_FRAGMENTS < k) (sym path) full.1)),
      (drawing_writes op drawing, subst (λ (k : ℕ). MAX_SLOT_WRITES < k) more (c.passes-2.ensures.0 c.if-passes-2.true)),
      refl,
    )

pub returns-clause-answer : goal.returns-clause-answer
returns-clause-answer g c = λ f s op represents seen drawing d w.
    let rows = g.R.RowStore.state c.args.rows.now in
    let settled = g.met.R.RowStore.consistent c.args.rows.now in
    let path = draws_path f rows c.args.control.now s represents c.requires.sound settled seen c.requires.few op c.used.result c.saturating_sub-drawn.result (c.used.ensures seen) (d ∙ sym c.saturating_sub-drawn.ensures) in
    let more = writes_path f rows c.args.control.now s represents c.requires.sound settled seen c.requires.few c.args.client op c.written.result c.max.result c.written.ensures (w ∙ sym c.max.ensures) in (
      λ full. false_no c.passes.result _ c.passes.ensures c.if-passes.false (subst (λ (k : ℕ). MAX_FRAGMENTS < k) (sym path) full.1),
      λ full. false_no c.passes-2.result _ c.passes-2.ensures c.if-passes-2.false (subst (λ (k : ℕ). MAX_SLOT_WRITES < k) (sym more) full.1),
    )
