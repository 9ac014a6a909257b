use Rattle.std.proofs.Common.{◌≡◌, ℕ, ◌<◌, List, length, Err, IsTrue, ℤ, sym, ap, ◌∙◌, subst, arith}
use Rattle.row_indexes.specs.Places.{keepers_of}
use Rattle.row_keys.specs.Reserved.{reserved_at}
use Rattle.row_moves.specs.Moved.{moved_in}
use Rattle.indexed_store.proofs.Calls.{asked_err, asked_values}
use Rattle.std.proofs.Common.{Bool}
use Rattle.abl_values.specs.Schema.{SchemaData}
use Rattle.row_store.specs.Times.{IsInDoubt}
use Rattle.sequence_slots.specs.Values.{HoldValues}
use Rattle.slot_rows.specs.Durable.{durable_in, times_in}
use Rattle.indexed_store.proofs.Timed.{durable_is, store_goes}
use Rattle.row_store.specs.Rows.{Commits}
use Rattle.row_moves.proofs.Kept.{refused_indexed}
use Rattle.indexed_store.specs.State.{store_state}
use Rattle.indexed_store.proofs.Returns.{commit_ok, commit_store}
use Rattle.indexed_store.proofs.row_operations.RecordStoreRowStore.commit.Goals as goal

pub end-requires : goal.end-requires
end-requires g c = record { client = subst (λ (n : ℕ). c.args.client < n) (sym c.args.self.now.sixteen) c.requires.client }

pub store_values-requires : goal.store_values-requires
store_values-requires g c = c.args.self.now.values ∙ sym c.requires.sequences

pub returns-in-Ok-clause-ok : goal.returns-in-Ok-clause-ok
returns-in-Ok-clause-ok g c =
    let store = c.args.self.now in
    let rows = store.rows in
    let new = c.commit.new.self in
    let s = g.S.Slots.state rows.chains.slots in
    let t = g.S.Slots.state new.chains.slots in
    let e = c.commit.ensures in
    let err = e.err (reserved_at rows.schema (keepers_of store.indexes.items)) store.sequences.items in
    let u = c.end.ensures in
    subst (λ (v : List ℤ). Commits (store_state rows.schema store.indexes.items store.sequences.items s rows.opens.items) (store_state new.schema c.end.new.indexes.items c.store_values.new.values.items t new.opens.items) c.args.client v) c.store_values.ensures (commit_ok rows.schema new.schema store.indexes.items c.end.new.indexes.items store.sequences.items c.store_values.new.values.items s t rows.opens.items new.opens.items (moved_in store.clients.items) (moved_in c.end.new.clients.items) c.args.client e.schema store.indexed u.keepers u.count u.own u.others c.in-Ok.ensures.ok)

pub returns-in-Ok-clause-time : goal.returns-in-Ok-clause-time
returns-in-Ok-clause-time g c =
    let store = c.args.self.now in
    let rows = store.rows in
    let new = c.commit.new.self in
    let s = g.S.Slots.state rows.chains.slots in
    let t = g.S.Slots.state new.chains.slots in
    let e = c.commit.ensures in
    store_goes rows.schema store.indexes.items store.sequences.items s rows.opens.items new.schema t (g.S.Slots.stop rows.chains.slots) (g.S.Slots.stop new.chains.slots) e.schema store.values store.held e.time (g.met.S.Slots.stop_known new.chains.slots) e.observable

pub returns-in-Ok-clause-cause : goal.returns-in-Ok-clause-cause
returns-in-Ok-clause-cause g c =
    let store = c.args.self.now in
    let rows = store.rows in
    let new = c.commit.new.self in
    let s = g.S.Slots.state rows.chains.slots in
    let t = g.S.Slots.state new.chains.slots in
    let e = c.commit.ensures in
    let err = e.err (reserved_at rows.schema (keepers_of store.indexes.items)) store.sequences.items in
    let cause = c.in-Ok.ensures.cause (reserved_at rows.schema (keepers_of store.indexes.items)) store.sequences.items in
    record { later = cause.later; disk = λ q. absurd (cc q) }

pub returns-in-Err-clause-err : goal.returns-in-Err-clause-err
returns-in-Err-clause-err g c =
    let store = c.args.self.now in
    let rows = store.rows in
    let new = c.commit.new.self in
    let s = g.S.Slots.state rows.chains.slots in
    let t = g.S.Slots.state new.chains.slots in
    let e = c.commit.ensures in
    let err = e.err (reserved_at rows.schema (keepers_of store.indexes.items)) store.sequences.items in
    asked_err rows.schema new.schema store.indexes.items store.sequences.items s t rows.opens.items new.opens.items e.schema {T = ℕ} (Err c.in-Err.error) (c.in-Err.ensures.err (reserved_at rows.schema (keepers_of store.indexes.items)) store.sequences.items)

pub returns-in-Err-clause-doubt : goal.returns-in-Err-clause-doubt
returns-in-Err-clause-doubt g c =
    let store = c.args.self.now in
    let rows = store.rows in
    let new = c.commit.new.self in
    let s = g.S.Slots.state rows.chains.slots in
    let t = g.S.Slots.state new.chains.slots in
    let e = c.commit.ensures in
    subst (λ (x : SchemaData). IsInDoubt (store_state rows.schema store.indexes.items store.sequences.items s rows.opens.items) c.args.client c.args.sequences.now (times_in rows.schema s) (times_in x t)) (sym e.schema)
    (c.in-Err.ensures.doubt (reserved_at rows.schema (keepers_of store.indexes.items)) store.sequences.items)

pub returns-in-Err-clause-time : goal.returns-in-Err-clause-time
returns-in-Err-clause-time g c =
    let store = c.args.self.now in
    let rows = store.rows in
    let new = c.commit.new.self in
    let s = g.S.Slots.state rows.chains.slots in
    let t = g.S.Slots.state new.chains.slots in
    let e = c.commit.ensures in
    store_goes rows.schema store.indexes.items store.sequences.items s rows.opens.items new.schema t (g.S.Slots.stop rows.chains.slots) (g.S.Slots.stop new.chains.slots) e.schema store.values store.held e.time (g.met.S.Slots.stop_known new.chains.slots) e.observable

pub returns-in-Err-clause-cause : goal.returns-in-Err-clause-cause
returns-in-Err-clause-cause g c =
    let store = c.args.self.now in
    let rows = store.rows in
    let new = c.commit.new.self in
    let s = g.S.Slots.state rows.chains.slots in
    let t = g.S.Slots.state new.chains.slots in
    let e = c.commit.ensures in
    let err = e.err (reserved_at rows.schema (keepers_of store.indexes.items)) store.sequences.items in
    c.in-Err.ensures.cause (reserved_at rows.schema (keepers_of store.indexes.items)) store.sequences.items

pub invariant_of-self-clause-indexed : goal.invariant_of-self-clause-indexed
invariant_of-self-clause-indexed g c =
    let store = c.args.self.now in
    let rows = store.rows in
    let new = c.commit.new.self in
    let s = g.S.Slots.state rows.chains.slots in
    let t = g.S.Slots.state new.chains.slots in
    let e = c.commit.ensures in
    let err = e.err (reserved_at rows.schema (keepers_of store.indexes.items)) store.sequences.items in
    let u = c.end.ensures in
    commit_store rows.schema new.schema store.indexes.items c.end.new.indexes.items store.sequences.items c.store_values.new.values.items s t rows.opens.items new.opens.items (moved_in store.clients.items) (moved_in c.end.new.clients.items) c.args.client e.schema store.indexed u.keepers u.count u.own u.others c.in-Ok.ensures.ok u.places

pub invariant_of-self-clause-values : goal.invariant_of-self-clause-values
invariant_of-self-clause-values g c =
    let store = c.args.self.now in
    let rows = store.rows in
    let new = c.commit.new.self in
    let s = g.S.Slots.state rows.chains.slots in
    let t = g.S.Slots.state new.chains.slots in
    let e = c.commit.ensures in
    let err = e.err (reserved_at rows.schema (keepers_of store.indexes.items)) store.sequences.items in
    ap length c.store_values.ensures ∙ (asked_values rows.schema new.schema store.indexes.items c.args.sequences.now s t rows.opens.items new.opens.items e.schema c.requires.sequences)

pub invariant_of-self-in-Err-1 : goal.invariant_of-self-in-Err-1
invariant_of-self-in-Err-1 g c =
    let store = c.args.self.now in
    let rows = store.rows in
    let new = c.commit.new.self in
    let s = g.S.Slots.state rows.chains.slots in
    let t = g.S.Slots.state new.chains.slots in
    let e = c.commit.ensures in
    let err = e.err (reserved_at rows.schema (keepers_of store.indexes.items)) store.sequences.items in
    record { sixteen = store.sixteen; values = asked_values rows.schema new.schema store.indexes.items store.sequences.items s t rows.opens.items new.opens.items e.schema store.values; few = store.few; held = λ seen. let was : IsTrue s.observable = subst (λ (b : Bool). IsTrue b) e.observable seen in subst (λ (f : ℕ → List ℕ). HoldValues f store.sequences.items) (sym (c.in-Err.ensures.fails was)) (store.held was); indexed = refused_indexed (store_state rows.schema store.indexes.items store.sequences.items s rows.opens.items) (store_state new.schema store.indexes.items store.sequences.items t new.opens.items) (moved_in store.clients.items) store.indexes.items c.in-Err.error (asked_err rows.schema new.schema store.indexes.items store.sequences.items s t rows.opens.items new.opens.items e.schema {T = ℕ} (Err c.in-Err.error) (c.in-Err.ensures.err (reserved_at rows.schema (keepers_of store.indexes.items)) store.sequences.items)) store.indexed }

pub commit-requires-clause-few : goal.commit-requires-clause-few
commit-requires-clause-few g c =
    let few = c.args.self.now.few in
    let values = c.args.self.now.values in
    let many = c.requires.sequences in
    omega (arith, few, values, many)

pub commit-requires-clause-held : goal.commit-requires-clause-held
commit-requires-clause-held g c = λ readable. subst (HoldValues (g.S.Slots.state c.args.self.now.rows.chains.slots).committed) (sym c.as_slice.ensures.value) (c.args.self.now.held readable.0)

pub returns-in-Ok-clause-acknowledged : goal.returns-in-Ok-clause-acknowledged
returns-in-Ok-clause-acknowledged g c = λ durable left.
    let store = c.args.self.now in
    let rows = store.rows in
    let new = c.commit.new.self in
    let s = g.S.Slots.state rows.chains.slots in
    let t = g.S.Slots.state new.chains.slots in
    let e = c.commit.ensures in
    let held_now : IsTrue t.observable → HoldValues t.committed c.store_values.new.values.items =
    λ seen. subst (HoldValues t.committed) (sym c.store_values.ensures) (c.in-Ok.ensures.held (subst (λ (b : Bool). IsTrue b) e.observable seen, c.requires.fine)) in
    let long : length c.store_values.new.values.items ≡ length new.schema.sequences = ap length c.store_values.ensures ∙ (c.requires.sequences ∙ ap (λ (x : SchemaData). length x.sequences) (sym e.schema)) in
    left.2
    ∙ (ap (durable_in new.schema) (c.in-Ok.ensures.acknowledged left.0 left.1)
    ∙ sym (durable_is new.schema c.end.new.indexes.items c.store_values.new.values.items t new.opens.items long held_now (g.met.S.Slots.stop_known new.chains.slots t.moment left.0 left.1).observable))

pub returns-in-Ok-clause-certain : goal.returns-in-Ok-clause-certain
returns-in-Ok-clause-certain g c = λ seen.
    let store = c.args.self.now in
    let rows = store.rows in
    let new = c.commit.new.self in
    let s = g.S.Slots.state rows.chains.slots in
    let t = g.S.Slots.state new.chains.slots in
    let e = c.commit.ensures in
    let held_now : IsTrue t.observable → HoldValues t.committed c.store_values.new.values.items =
    λ seen. subst (HoldValues t.committed) (sym c.store_values.ensures) (c.in-Ok.ensures.held (subst (λ (b : Bool). IsTrue b) e.observable seen, c.requires.fine)) in
    let long : length c.store_values.new.values.items ≡ length new.schema.sequences = ap length c.store_values.ensures ∙ (c.requires.sequences ∙ ap (λ (x : SchemaData). length x.sequences) (sym e.schema)) in
    ap (durable_in new.schema) (c.in-Ok.ensures.certain seen)
    ∙ sym (durable_is new.schema c.end.new.indexes.items c.store_values.new.values.items t new.opens.items long held_now (subst (λ (b : Bool). IsTrue b) (sym e.observable) seen))

pub invariant_of-self-clause-held : goal.invariant_of-self-clause-held
invariant_of-self-clause-held g c =
    let store = c.args.self.now in
    let rows = store.rows in
    let new = c.commit.new.self in
    let s = g.S.Slots.state rows.chains.slots in
    let t = g.S.Slots.state new.chains.slots in
    let e = c.commit.ensures in
    let held_now : IsTrue t.observable → HoldValues t.committed c.store_values.new.values.items =
    λ seen. subst (HoldValues t.committed) (sym c.store_values.ensures) (c.in-Ok.ensures.held (subst (λ (b : Bool). IsTrue b) e.observable seen, c.requires.fine)) in
    held_now

pub invariant_of-self-clause-few : goal.invariant_of-self-clause-few
invariant_of-self-clause-few g c =
    let few = c.args.self.now.few in
    let values = c.args.self.now.values in
    let many = c.requires.sequences in
    let same : length c.store_values.new.values.items ≡ length c.args.sequences.now = ap length c.store_values.ensures in
    omega (arith, few, values, many, same)
