-- How a client ends.
use Rattle.std.specs.Prelude.{ℕ, List, codes}
use Rattle.database_protocol.specs.declared.ends.StopWhy.{StopWhy}
use Rattle.database_protocol.specs.declared.ends.StopWhy.TheVariants.{Deadlock, Budget, Statement, Closed, TxFull, TraceFull, OutputFull, Depth}

-- the name of a stop, as the line about the client prints it
abbrev pub stop_name : StopWhy → List ℕ
stop_name Deadlock = codes "Deadlock"
stop_name Budget = codes "Budget"
stop_name Statement = codes "Statement"
stop_name Closed = codes "Closed"
stop_name TxFull = codes "TxFull"
stop_name TraceFull = codes "TraceFull"
stop_name OutputFull = codes "OutputFull"
stop_name Depth = codes "Depth"
