-- What an UNDO, ERROR or ENDKEY does at an iteration, and what the action after an UNDO leaves.
use Rattle.std.specs.Prelude.{Bool, List}
use Rattle.bound_tree.specs.Tree.{Action, ThenReturn, OnPhrase}
use Rattle.block_meaning.specs.State.{State}
use Rattle.block_meaning.specs.Program.{Program}
use Rattle.block_meaning.specs.Blocks.{returns_with}
use Rattle.block_code.specs.declared.code.Instr.{Instr}
use Rattle.client_machine.specs.declared.actions.OnCondition.{OnCondition}
use Rattle.client_machine.specs.Config.{after_undo_of}

-- the block that a condition undoes, and what happens then
abbrev pub phrase_of : List Instr → OnCondition → OnPhrase
phrase_of code on = record { target = on.block; action = after_undo_of code on.after_undo }

-- the state after an action: RETURN sets RETURN-VALUE
abbrev pub after_action : Program → Action → Bool → State → State
after_action p (ThenReturn error e) retry s = returns_with p e retry s
after_action p action retry s = s
