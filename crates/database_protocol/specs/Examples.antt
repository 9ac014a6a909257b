-- Examples of the definitions that compute.
use Rattle.std.specs.Prelude.{◌≡◌, true, [], codes, refl}
use Rattle.database_protocol.specs.declared.operation.Op.TheVariants.{Leave, Lock}
use Rattle.database_protocol.specs.declared.ends.StopWhy.TheVariants.{TxFull}
use Rattle.database_protocol.specs.Ends.{stop_name}
use Rattle.database_protocol.specs.Levels.{IsLevelOp}

-- a Lock is no operation of levels, and a Leave that keeps no row is one
lock_is_no_level_op : IsLevelOp (Lock 0 (record { 0 = 8192 }) true true) → ⊥
lock_is_no_level_op h = h

leave_is_a_level_op : IsLevelOp (Leave [])
leave_is_a_level_op = refl

a_full_transaction_stops_by_its_name : stop_name TxFull ≡ codes "TxFull"
a_full_transaction_stops_by_its_name = refl
