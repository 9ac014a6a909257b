-- Records that agree in their fields.
use Rattle.std.proofs.Common.{◌≡◌, ℕ}
use Rattle.abl_base.specs.declared.row.RowId.{RowId}
use Rattle.database_protocol.specs.declared.operation.Op.{Op}
use Rattle.database_meaning.specs.declared.state.BlockedRequest.{BlockedRequest}

pub blocked_same : (w : BlockedRequest) (op : Op) (frees : ℕ) → w.op ≡ op → w.frees ≡ frees → w ≡ record { op = op; frees = frees }
blocked_same w op frees o n = λ z. record { op = o z; frees = n z }
