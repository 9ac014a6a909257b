-- Back is answered: the variables and the pending records are as in the copy of the level.
use Rattle.std.proofs.Common.{◌≡◌, ℕ, List, length, Some, ap, ◌∙◌}
use Rattle.block_meaning.specs.State.{State, Copy}
use Rattle.block_meaning.specs.Frames.{put_back}
use Rattle.client_memory.specs.Memory.{Remembered, last_copy, restored, IsWhole}
use Rattle.client_memory.proofs.LevelFrames.{restored_is}
use Rattle.client_machine.specs.Config.{state_of, AreEven}

-- the state once the copy of the innermost level is put back
pub level_comes_back : (rest : State) (ns : List ℕ) (m m' : Remembered) (units : ℕ) (c : Copy) → m' ≡ restored m → last_copy m.copies ≡ Some c → c.depth ≡ length m.copies → IsWhole m → AreEven ns m → state_of rest ns m' units ≡ put_back c (state_of rest ns m units)
level_comes_back rest ns m m' units c is last deep whole even = ap (λ x. state_of rest ns x units) is ∙ restored_is (record rest { units = units }) ns m c even whole last deep
