-- A completion that reaches an entry of the stack spends no unit.
use Rattle.std.proofs.Common.{◌≡◌, ℕ, Bool, true, false, List, [], ◌∷◌, Option}
use Rattle.bound_tree.specs.declared.statement.FindWord.{FindWord}
use Rattle.bound_tree.specs.declared.statement.FindWord.TheVariants as find
use Rattle.bound_tree.specs.Tree.{Argument, Header, Procedure}
use Rattle.block_meaning.specs.Program.{Program, procedure_at}
use Rattle.block_meaning.specs.State.{Again, Completion, Content, Copy, EndKeys, Faults, Found, Lost, Normal, NotFound, Raises, Returns, State, Stops, Turn, nothing_passed}
use Rattle.block_meaning.specs.Blocks.{Iteration, complained}
use Rattle.block_meaning.specs.Frames.{own_frame}
use Rattle.block_meaning.specs.Meaning.{copied_out, without_frame}
use Rattle.block_meaning.proofs.Whole.{complained_stays, copied_out_keeps}
use Rattle.flat_machine.specs.Config.{AfterClosing, AndAgain, AsBefore, Called, Completes, ErrorComes, FetchedAs, FoundAs, Handles, In, OrDo, Quiet, StackEntry, Task, ThenDo}
use Rattle.flat_machine.specs.Means.{contents_back}
use Rattle.flat_machine.specs.Machine.{again_step, before_step, called_step, closing_step, fetched_step, found_step, handled_step, not_found_step, or_step, over_step, pop_step, quiet_step, then_step}
use Rattle.machine_laws.specs.units.Spending.{Spends}
use Rattle.machine_laws.proofs.UnitsLemmas.Parts.{back_keeps, errs_spends, same, unwinds}

then_spends : (completion : Completion) (t : Task) (ks : List StackEntry) (s : State) → Spends s.units (then_step completion t ks s)
then_spends Normal t ks s = same s.units
then_spends completion t ks s = same s.units

or_spends : (completion : Completion) (t : Task) (ks : List StackEntry) (s : State) → Spends s.units (or_step completion t ks s)
or_spends Lost t ks s = same s.units
or_spends completion t ks s = same s.units

not_found_spends : (word : FindWord) (b : ℕ) (ks : List StackEntry) (s : State) → Spends s.units (not_found_step word b ks s)
not_found_spends find.Next b ks s = same s.units
not_found_spends find.Previous b ks s = same s.units
not_found_spends word b ks s = same s.units

found_spends : (completion : Completion) (word : FindWord) (b : ℕ) (ks : List StackEntry) (s : State) → Spends s.units (found_step completion word b ks s)
found_spends (Found c) word b ks s = same s.units
found_spends NotFound word b ks s = not_found_spends word b ks s
found_spends completion word b ks s = same s.units

before_spends : (completion : Completion) (olds : List Content) (bs : List ℕ) (ks : List StackEntry) (s : State) → Spends s.units (before_step completion olds bs ks s)
before_spends (Faults c) olds bs ks s = unwinds (Faults c) ks s (contents_back olds bs s) (back_keeps olds bs s)
before_spends completion olds bs ks s = same s.units

closing_spends : (completion : Completion) (p : Program) (b : Header) (o : Iteration) (out : Completion) (ks : List StackEntry) (s : State) → Spends s.units (closing_step completion p b o out ks s)
closing_spends Normal p b o out ks s = same s.units
closing_spends (Faults c) p b o out ks s = errs_spends (complained p c s) (ErrorComes b o nothing_passed) ks s.units (complained_stays p c s).units
closing_spends completion p b o out ks s = same s.units

quiet_spends : (completion : Completion) (quiet : Bool) (ks : List StackEntry) (s : State) → Spends s.units (quiet_step completion quiet ks s)
quiet_spends (EndKeys passed) true ks s = same s.units
quiet_spends (EndKeys passed) false ks s = same s.units
quiet_spends completion quiet ks s = same s.units

handled_spends : (completion : Completion) (p : Program) (quiet : Bool) (ks : List StackEntry) (s : State) → Spends s.units (handled_step completion p quiet ks s)
handled_spends (Faults c) p false ks s = errs_spends (complained p c s) (Completes (Raises nothing_passed)) ks s.units (complained_stays p c s).units
handled_spends (Faults c) p true ks s = same s.units
handled_spends completion p quiet ks s = same s.units

fetched_spends : (completion : Completion) (b : Header) (copy : Option Copy) (t : Turn) (buffer body d : ℕ) (retry : Bool) (ks : List StackEntry) (s : State) → Spends s.units (fetched_step completion b copy t buffer body d retry ks s)
fetched_spends (Found own) b copy t buffer body d retry ks s = same s.units
fetched_spends (Faults c) b copy t buffer body d retry ks s = same s.units
fetched_spends (Stops end) b copy t buffer body d retry ks s = same s.units
fetched_spends completion b copy t buffer body d retry ks s = same s.units

again_spends : (completion : Completion) (n : ℕ) (b : Header) (outer : Bool) (body d : ℕ) (ks : List StackEntry) (s : State) → Spends s.units (again_step completion n b outer body d ks s)
again_spends (Again t) n b outer body d ks s = same s.units
again_spends completion n b outer body d ks s = same s.units

copied : (args : List Argument) (q : Procedure) (s : State) → (copied_out args q.parameters (own_frame s.frames) (without_frame s)).units ≡ s.units
copied args q s = (copied_out_keeps args q.parameters (own_frame s.frames) (without_frame s)).units

called_spends : (completion : Completion) (args : List Argument) (q : Procedure) (ks : List StackEntry) (s : State) → Spends s.units (called_step completion args q ks s)
called_spends Normal args q ks s = unwinds Normal ks s (copied_out args q.parameters (own_frame s.frames) (without_frame s)) (copied args q s)
called_spends (Returns false) args q ks s = unwinds Normal ks s (copied_out args q.parameters (own_frame s.frames) (without_frame s)) (copied args q s)
called_spends (Returns true) args q ks s = same s.units
called_spends completion args q ks s = same s.units

pop_spends : (p : Program) (k : StackEntry) (completion : Completion) (ks : List StackEntry) (s : State) → Spends s.units (pop_step p k completion ks s)
pop_spends p (ThenDo t) completion ks s = then_spends completion t ks s
pop_spends p (OrDo t) completion ks s = or_spends completion t ks s
pop_spends p (FoundAs word b) completion ks s = found_spends completion word b ks s
pop_spends p (AsBefore olds bs) completion ks s = before_spends completion olds bs ks s
pop_spends p (AfterClosing b o out) completion ks s = closing_spends completion p b o out ks s
pop_spends p (Quiet quiet) completion ks s = quiet_spends completion quiet ks s
pop_spends p (Handles quiet) completion ks s = handled_spends completion p quiet ks s
pop_spends p (In b o) completion ks s = same s.units
pop_spends p (FetchedAs b copy t buffer body d retry) completion ks s = fetched_spends completion b copy t buffer body d retry ks s
pop_spends p (AndAgain n b outer body d) completion ks s = again_spends completion n b outer body d ks s
pop_spends p (Called args n) completion ks s = called_spends completion args (procedure_at p n) ks s

pub over_spends : (p : Program) (ks : List StackEntry) (completion : Completion) (s : State) → Spends s.units (over_step p ks completion s)
over_spends p [] completion s = same s.units
over_spends p (k ∷ ks) completion s = pop_spends p k completion ks s
