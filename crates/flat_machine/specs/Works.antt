-- Machines that await no answer.
use Rattle.flat_machine.specs.Config.{Mode, Execute, Unwind, Await}

-- it runs without an answer
abbrev pub IsRunning : Mode → Type 0
IsRunning (Execute task) = Unit {0}
IsRunning (Unwind completion) = Unit {0}
IsRunning (Await op k) = ⊥
