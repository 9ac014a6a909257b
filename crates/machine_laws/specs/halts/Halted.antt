-- Where a machine takes no step without an answer.
use Rattle.std.specs.Prelude.{List, [], ◌∷◌}
use Rattle.flat_machine.specs.Config.{Await, Config, Execute, Mode, StackEntry, Unwind}

-- it awaits the answer to an operation, or its stack is empty and the run is over
abbrev pub HaltsIn : Mode → List StackEntry → Type 0
HaltsIn (Execute task) ks = ⊥
HaltsIn (Unwind completion) [] = Unit {0}
HaltsIn (Unwind completion) (k ∷ ks) = ⊥
HaltsIn (Await op on) ks = Unit {0}

abbrev pub IsHalted : Config → Type 0
IsHalted c = HaltsIn c.mode c.stack
