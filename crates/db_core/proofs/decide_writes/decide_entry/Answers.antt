use Rattle.std.proofs.Common.{ℕ, MatchOption, refl, subst, inl, inr}
use Rattle.abl_base.specs.declared.row.RowId.{RowId}
use Rattle.database_meaning.specs.Waiting.{row_in}
use Rattle.row_store.specs.Questions.{IsLeastDuplicate}
use Rattle.row_store.specs.Rows.{IsObservable, RowState}
use Rattle.row_store.specs.declared.store.Duplicate.{Duplicate}
use Rattle.row_store.proofs.AnswersLemmas.TableLaws.{found_at, none_at_all}
use Rattle.db_core.proofs.WriteRows.{first_duplicate, no_duplicates, none_long}
use Rattle.db_core.proofs.Crashes.{asked}
use Rattle.db_core.proofs.decide_writes.decide_entry.Goals as goal

pub returns-in-Some-2-clause-answer : goal.returns-in-Some-2-clause-answer
returns-in-Some-2-clause-answer g c = λ f s represents seen.
    let short = none_long f (g.R.RowStore.state c.args.rows.now) c.args.control.now s represents c.requires.sound (g.met.R.RowStore.consistent c.args.rows.now) seen c.args.op.now c.args.table c.args.values.now c.requires.entered (none_at_all c.in_ok-index.field-0 _ _ c.in_default.is c.in_ok-index.ensures.found) in
    inr (inl (short, found_at c.in_ok-answer.field-0 c.in-Some-2.answer _ _ c.in-Some-2.is (c.in_ok-answer.ensures.answer f s represents seen)))

pub returns-in-None-clause-answer : goal.returns-in-None-clause-answer
returns-in-None-clause-answer g c = λ f s represents seen.
    let rows = g.R.RowStore.state c.args.rows.now in
    let settled = g.met.R.RowStore.consistent c.args.rows.now in
    let short = none_long f rows c.args.control.now s represents c.requires.sound settled seen c.args.op.now c.args.table c.args.values.now c.requires.entered (none_at_all c.in_ok-index.field-0 _ _ c.in_default.is c.in_ok-index.ensures.found) in
    let found : IsObservable rows → MatchOption c.in_ok-duplicate.field-0 ((index : ℕ) (other : RowId) → ¬ IsLeastDuplicate rows c.args.replaced (row_in c.args.table c.args.values.now) index other) (λ (d : Duplicate). IsLeastDuplicate rows c.args.replaced (row_in c.args.table c.args.values.now) d.index d.row) =
    subst (λ (r : RowState). IsObservable r → MatchOption c.in_ok-duplicate.field-0 ((index : ℕ) (other : RowId) → ¬ IsLeastDuplicate r c.args.replaced (row_in c.args.table c.args.values.now) index other) (λ (d : Duplicate). IsLeastDuplicate r c.args.replaced (row_in c.args.table c.args.values.now) d.index d.row)) c.in_ok-answer.ensures.same c.in_ok-duplicate.ensures.found in (
      short,
      none_at_all c.in_ok-answer.field-0 _ _ c.in_default-2.is (c.in_ok-answer.ensures.answer f s represents seen),
      no_duplicates f rows c.args.control.now s represents c.requires.sound settled seen c.args.op.now c.args.table c.args.values.now c.requires.entered c.args.replaced c.requires.own (none_at_all c.in_ok-duplicate.field-0 _ _ c.in-None.is (found seen)),
    )

pub returns-in-Some-3-clause-answer : goal.returns-in-Some-3-clause-answer
returns-in-Some-3-clause-answer g c = λ f s represents seen.
    let rows = g.R.RowStore.state c.args.rows.now in
    let settled = g.met.R.RowStore.consistent c.args.rows.now in
    let short = none_long f rows c.args.control.now s represents c.requires.sound settled seen c.args.op.now c.args.table c.args.values.now c.requires.entered (none_at_all c.in_ok-index.field-0 _ _ c.in_default.is c.in_ok-index.ensures.found) in
    let found : IsObservable rows → MatchOption c.in_ok-duplicate.field-0 ((index : ℕ) (other : RowId) → ¬ IsLeastDuplicate rows c.args.replaced (row_in c.args.table c.args.values.now) index other) (λ (d : Duplicate). IsLeastDuplicate rows c.args.replaced (row_in c.args.table c.args.values.now) d.index d.row) =
    subst (λ (r : RowState). IsObservable r → MatchOption c.in_ok-duplicate.field-0 ((index : ℕ) (other : RowId) → ¬ IsLeastDuplicate r c.args.replaced (row_in c.args.table c.args.values.now) index other) (λ (d : Duplicate). IsLeastDuplicate r c.args.replaced (row_in c.args.table c.args.values.now) d.index d.row)) c.in_ok-answer.ensures.same c.in_ok-duplicate.ensures.found in
    let alone = none_at_all c.in_ok-answer.field-0 _ _ c.in_default-2.is (c.in_ok-answer.ensures.answer f s represents seen) in
    inr (inr (
      short,
      alone,
      (
        c.in-Some-3.duplicate.index,
        c.in-Some-3.duplicate.row,
        first_duplicate f rows c.args.control.now s represents c.requires.sound settled seen c.args.op.now c.args.table c.args.values.now c.requires.entered c.args.replaced c.requires.own c.in-Some-3.duplicate.index c.in-Some-3.duplicate.row
            (found_at c.in_ok-duplicate.field-0 c.in-Some-3.duplicate _ _ c.in-Some-3.is (found seen)),
        refl,
      ),
    ))

pub returns-in_err-duplicate-clause-durable : goal.returns-in_err-duplicate-clause-durable
returns-in_err-duplicate-clause-durable g c = λ f contents trace h. asked (g.R.RowStore.state c.decide_keys.new.rows) (g.R.RowStore.state c.duplicate.new.self) (g.R.RowStore.left c.decide_keys.new.rows) (g.R.RowStore.left c.duplicate.new.self) (g.R.RowStore.times c.decide_keys.new.rows) (g.R.RowStore.times c.duplicate.new.self) (g.met.R.RowStore.left_known c.duplicate.new.self) (g.met.R.RowStore.since_past c.decide_keys.new.rows) c.duplicate.result c.duplicate.ensures.time c.duplicate.ensures.same c.duplicate.ensures.err f contents trace (c.decide_keys.ensures.durable f contents trace h)

pub returns-in-None-clause-durable : goal.returns-in-None-clause-durable
returns-in-None-clause-durable g c = λ f contents trace h. asked (g.R.RowStore.state c.decide_keys.new.rows) (g.R.RowStore.state c.duplicate.new.self) (g.R.RowStore.left c.decide_keys.new.rows) (g.R.RowStore.left c.duplicate.new.self) (g.R.RowStore.times c.decide_keys.new.rows) (g.R.RowStore.times c.duplicate.new.self) (g.met.R.RowStore.left_known c.duplicate.new.self) (g.met.R.RowStore.since_past c.decide_keys.new.rows) c.duplicate.result c.duplicate.ensures.time c.duplicate.ensures.same c.duplicate.ensures.err f contents trace (c.decide_keys.ensures.durable f contents trace h)

pub returns-in-Some-3-clause-durable : goal.returns-in-Some-3-clause-durable
returns-in-Some-3-clause-durable g c = λ f contents trace h. asked (g.R.RowStore.state c.decide_keys.new.rows) (g.R.RowStore.state c.duplicate.new.self) (g.R.RowStore.left c.decide_keys.new.rows) (g.R.RowStore.left c.duplicate.new.self) (g.R.RowStore.times c.decide_keys.new.rows) (g.R.RowStore.times c.duplicate.new.self) (g.met.R.RowStore.left_known c.duplicate.new.self) (g.met.R.RowStore.since_past c.decide_keys.new.rows) c.duplicate.result c.duplicate.ensures.time c.duplicate.ensures.same c.duplicate.ensures.err f contents trace (c.decide_keys.ensures.durable f contents trace h)
