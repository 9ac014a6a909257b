-- The store of a new database may go to another thread; with `db_send` of `db_machine` the database may.
use Rattle.std.proofs.Crossing.{crosses}
use Rattle.std.proofs.MapsCrossing.{crosses as maps}
use denote.RattleType.{RattleType}
use denote.Struct.Struct.{Struct}
use denote.Struct.Declared.{shape}
use denote.Param.Send.{IsSend, sendable, recorded_send, struct_send}
use Rattle.storage.specs.declared.slots.Slots.{Ghosts}
use Rattle.new_database.specs.contracts.slots.mem_slots.MemSlots as slots
use Rattle.new_database.proofs.slots.mem_slots.MemSlots.TheSendSync as slots_sends
use Rattle.key_index.specs.contracts.index.Index as index
use Rattle.key_index.proofs.chain.Links.TheLaws.TheKnot.{crosses as links}
use Rattle.row_moves.specs.contracts.client_moves.ClientMoves as moves
use Rattle.row_moves.proofs.client_moves.ClientMoves.TheSendSync as moves_sends
use Rattle.slot_rows.specs.contracts.rows.StoredRows as rows
use Rattle.slot_rows.proofs.rows.StoredRows.TheSendSync as rows_sends
use Rattle.indexed_store.specs.contracts.store.RecordStore as store

pub slots_send : IsSend slots.the_row
slots_send = search (slots_sends.the_send, maps, crosses, sendable) depth 60 fits 20000

index_send : IsSend (index.the_field).row
index_send = search (links, maps, crosses, sendable) depth 60 fits 20000

moves_send : IsSend moves.the_row
moves_send = search (moves_sends.the_send, crosses, sendable) depth 60 fits 20000

rows_field_send : (S : RattleType) (d : Ghosts S.Denot) → IsSend S → IsSend (rows.the_field S d).row
rows_field_send S d s = search (sendable, rows_sends.the_field_send) depth 12

pub store_send : (S : RattleType) (d : Ghosts S.Denot) → IsSend S → IsSend (store.the_row S d)
store_send S d s =
    let T = store.the_type S d in
    recorded_send (Struct (shape T)) T.D T.to T.to_one
    (struct_send (shape T) (
      search (crosses, sendable) depth 20,
      (rows_field_send S d s, (search (index_send, crosses, sendable) depth 20, (search (moves_send, crosses, sendable) depth 20, (search (crosses, sendable) depth 20, tt)))),
    ))
