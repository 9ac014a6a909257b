-- A store of rows may go to another thread where its slots may.
use denote.RattleType.{RattleType}
use denote.Param.Send.{IsSend, sendable}
use Rattle.storage.specs.declared.slots.Slots.{Ghosts}
use Rattle.slot_rows.specs.contracts.rows.StoredRows.{the_row}
use Rattle.slot_rows.proofs.rows.StoredRows.TheSendSync.{the_send}

pub rows_send : (S : RattleType) (d : Ghosts S.Denot) → IsSend S → IsSend (the_row S d)
rows_send S d s = search (sendable, the_send) depth 12
