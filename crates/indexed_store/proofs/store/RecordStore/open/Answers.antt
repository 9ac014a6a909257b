use Rattle.std.proofs.Common.{◌≡◌, ℕ, [], length, refl, sym, ap, ◌∙◌}
use Rattle.row_store.specs.Rows.{RowState, no_transaction}
use Rattle.storage.specs.Slots.{IsReadable, SlotState, Transaction}
use Rattle.abl_values.specs.Schema.{SchemaData}
use Rattle.byte_rows.specs.Still.{Still}
use Rattle.byte_rows.proofs.Reading.{still_both}
use Rattle.row_moves.specs.Moved.{moved_in}
use Rattle.row_fragments.proofs.Composes.{readable_on}
use Rattle.row_keys.specs.Numbers.{index_count}
use Rattle.slot_rows.specs.Decoded.{decoded}
use Rattle.slot_rows.specs.State.{state_of}
use Rattle.indexed_store.specs.Opened.{AreEntered, CanOpen}
use Rattle.indexed_store.specs.State.{no_reserved}
use Rattle.indexed_store.proofs.Entered.{entered_on}
use Rattle.indexed_store.proofs.OpenedStore.{held_committed, idle_rows, opened_indexed, opened_store}
use Rattle.indexed_store.proofs.Refused.{read_at, refused_read, still_read}
use Rattle.indexed_store.proofs.store.RecordStore.open.Goals as goal

pub invariant_of-result : goal.invariant_of-result
invariant_of-result g c =
    let rows = c.in_ok-rows.rows in
    let now = c.indexes_of.new.rows in
    let a = g.S.Slots.state c.args.slots in
    let m = g.S.Slots.state rows.chains.slots in
    let t = g.S.Slots.state now.chains.slots in
    let at_a = g.S.Slots.stop c.args.slots in
    let at_m = g.S.Slots.stop rows.chains.slots in
    let at_t = g.S.Slots.stop now.chains.slots in
    let i = c.in_ok-rows.ensures in
    let e = c.in-Ok-indexes_of.ensures in
    let can : CanOpen a = record { idle = c.requires.idle; clean = c.requires.clean; fine = c.requires.fine; settled = c.requires.settled; certain = c.requires.certain } in
    let step : Still m t at_m at_t = still_read m t at_m at_t (state_of rows.schema no_reserved [] m rows.opens.items) (state_of now.schema no_reserved [] t now.opens.items) _ refl refl e.read in
    let still : Still a t at_a at_t = still_both a m t at_a at_m at_t (g.met.S.Slots.stop_known now.chains.slots) i.still step in
    let same : now.schema ≡ c.args.schema = e.schema ∙ i.schema in
    let idle : (d : ℕ) → (state_of now.schema no_reserved [] t now.opens.items).transaction d ≡ no_transaction = λ d.
    ap (λ (x : RowState). x.transaction d) (e.read.same (λ q. cc q))
    ∙ idle_rows rows.schema m rows.opens.items d (ap (λ (f : ℕ → Transaction). (f d).begun) i.still.rests.transaction ∙ c.requires.idle d) (i.none d) in
    let count : length c.in-Ok-indexes_of.indexes.items ≡ index_count now.schema = e.count ∙ ap index_count (sym e.schema) in
    let entered : IsReadable a → AreEntered now.schema (decoded now.schema a.reads) c.in-Ok-indexes_of.indexes.items = λ readable.
    entered_on rows.schema now.schema m.reads a.reads c.in-Ok-indexes_of.indexes.items e.schema (sym (i.still.rests.reads readable)) (e.entered (readable_on a m i.still.rests.keeps.observable i.still.failed readable)) in
    record {
      sixteen = c.in-Ok.ensures.sixteen;
      values = i.count ∙ ap (λ (x : SchemaData). length x.sequences) (sym same);
      few = i.few;
      held =
          held_committed now.schema c.args.schema c.in-Ok-indexes_of.indexes.items c.in_ok-rows.sequences.items a t at_a at_t now.opens.items (moved_in c.in-Ok.clients.items) same can still idle count e.keepers entered c.in-Ok.ensures.idle i.count i.values
          i.held;
      indexed =
          opened_indexed now.schema c.args.schema c.in-Ok-indexes_of.indexes.items c.in_ok-rows.sequences.items a t at_a at_t now.opens.items (moved_in c.in-Ok.clients.items) same can still idle count e.keepers entered c.in-Ok.ensures.idle i.count i.values
          i.held;
    }

pub returns-in-Ok-indexes_of-clause-opened : goal.returns-in-Ok-indexes_of-clause-opened
returns-in-Ok-indexes_of-clause-opened g c =
    let rows = c.in_ok-rows.rows in
    let now = c.indexes_of.new.rows in
    let a = g.S.Slots.state c.args.slots in
    let m = g.S.Slots.state rows.chains.slots in
    let t = g.S.Slots.state now.chains.slots in
    let at_a = g.S.Slots.stop c.args.slots in
    let at_m = g.S.Slots.stop rows.chains.slots in
    let at_t = g.S.Slots.stop now.chains.slots in
    let i = c.in_ok-rows.ensures in
    let e = c.in-Ok-indexes_of.ensures in
    let can : CanOpen a = record { idle = c.requires.idle; clean = c.requires.clean; fine = c.requires.fine; settled = c.requires.settled; certain = c.requires.certain } in
    let step : Still m t at_m at_t = still_read m t at_m at_t (state_of rows.schema no_reserved [] m rows.opens.items) (state_of now.schema no_reserved [] t now.opens.items) _ refl refl e.read in
    let still : Still a t at_a at_t = still_both a m t at_a at_m at_t (g.met.S.Slots.stop_known now.chains.slots) i.still step in
    let same : now.schema ≡ c.args.schema = e.schema ∙ i.schema in
    let idle : (d : ℕ) → (state_of now.schema no_reserved [] t now.opens.items).transaction d ≡ no_transaction = λ d.
    ap (λ (x : RowState). x.transaction d) (e.read.same (λ q. cc q))
    ∙ idle_rows rows.schema m rows.opens.items d (ap (λ (f : ℕ → Transaction). (f d).begun) i.still.rests.transaction ∙ c.requires.idle d) (i.none d) in
    let count : length c.in-Ok-indexes_of.indexes.items ≡ index_count now.schema = e.count ∙ ap index_count (sym e.schema) in
    let entered : IsReadable a → AreEntered now.schema (decoded now.schema a.reads) c.in-Ok-indexes_of.indexes.items = λ readable.
    entered_on rows.schema now.schema m.reads a.reads c.in-Ok-indexes_of.indexes.items e.schema (sym (i.still.rests.reads readable)) (e.entered (readable_on a m i.still.rests.keeps.observable i.still.failed readable)) in
    opened_store now.schema c.args.schema c.in-Ok-indexes_of.indexes.items c.in_ok-rows.sequences.items a t at_a at_t now.opens.items (moved_in c.in-Ok.clients.items) same can still idle count e.keepers entered c.in-Ok.ensures.idle i.count i.values i.held
    i.chains

pub returns-in-Ok-indexes_of-clause-still : goal.returns-in-Ok-indexes_of-clause-still
returns-in-Ok-indexes_of-clause-still g c =
    let rows = c.in_ok-rows.rows in
    let now = c.indexes_of.new.rows in
    let a = g.S.Slots.state c.args.slots in
    let m = g.S.Slots.state rows.chains.slots in
    let t = g.S.Slots.state now.chains.slots in
    let at_m = g.S.Slots.stop rows.chains.slots in
    let at_t = g.S.Slots.stop now.chains.slots in
    let step : Still m t at_m at_t = still_read m t at_m at_t (state_of rows.schema no_reserved [] m rows.opens.items) (state_of now.schema no_reserved [] t now.opens.items) _ refl refl c.in-Ok-indexes_of.ensures.read in
    still_both a m t (g.S.Slots.stop c.args.slots) at_m at_t (g.met.S.Slots.stop_known now.chains.slots) c.in_ok-rows.ensures.still step

pub returns-in-Err-indexes_of-clause-refused : goal.returns-in-Err-indexes_of-clause-refused
returns-in-Err-indexes_of-clause-refused g c =
    let rows = c.in_ok-rows.rows in
    let now = c.indexes_of.new.rows in
    let a = g.S.Slots.state c.args.slots in
    let m = g.S.Slots.state rows.chains.slots in
    let t = g.S.Slots.state c.close.result in
    let at_m = g.S.Slots.stop rows.chains.slots in
    let can : CanOpen a = record { idle = c.requires.idle; clean = c.requires.clean; fine = c.requires.fine; settled = c.requires.settled; certain = c.requires.certain } in
    let was = state_of rows.schema no_reserved [] m rows.opens.items in
    refused_read a m t (g.S.Slots.stop c.args.slots) at_m (g.S.Slots.stop c.close.result) was (state_of now.schema no_reserved [] t now.opens.items) c.in-Err-indexes_of.error (g.met.S.Slots.stop_known c.close.result) can c.in_ok-rows.ensures.still refl refl (λ d. refl) (λ d. refl)
    c.close.ensures.idle c.close.ensures.settled
    (read_at g.S.Slots.state g.S.Slots.stop (λ (x : SlotState). state_of now.schema no_reserved [] x now.opens.items) m at_m was now.chains.slots c.close.result _ c.close.ensures.same c.in-Err-indexes_of.ensures.read)
