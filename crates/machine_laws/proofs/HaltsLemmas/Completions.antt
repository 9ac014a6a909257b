-- A completion that reaches an entry of the stack leaves less to do.
use Rattle.std.proofs.Common.{arith, inr, ◌+◌, ℕ, Bool, true, false, List, Option}
use Rattle.bound_tree.specs.declared.statement.FindWord.{FindWord}
use Rattle.bound_tree.specs.declared.statement.FindWord.TheVariants as find
use Rattle.bound_tree.specs.Tree.{Argument, Header, Procedure}
use Rattle.block_meaning.specs.Program.{Program, procedure_at}
use Rattle.block_meaning.specs.State.{Again, Completion, Content, Copy, EndKeys, Faults, Found, Lost, Normal, NotFound, Returns, State, Stops, Turn}
use Rattle.block_meaning.specs.Blocks.{Iteration}
use Rattle.flat_machine.specs.Config.{AfterClosing, AndAgain, AsBefore, Called, FetchedAs, FoundAs, Handles, In, OrDo, Quiet, StackEntry, Task, ThenDo}
use Rattle.flat_machine.specs.Machine.{again_step, before_step, called_step, closing_step, fetched_step, found_step, handled_step, not_found_step, or_step, pop_step, quiet_step, then_step}
use Rattle.machine_laws.proofs.HaltsLemmas.Weights.{Falls, entry_rounds, entry_work, rounds, rounds_of, turns_work, work, work_of}

module _ (p : Program) (ks : List StackEntry) (s : State) where
  then_falls : (completion : Completion) (t : Task) → Falls s.units (rounds t + rounds_of ks) ((work t + 1) + work_of ks) (then_step completion t ks s)
  then_falls Normal t = inr (inr (omega arith, omega arith))
  then_falls completion t = inr (inr (omega arith, omega arith))

  or_falls : (completion : Completion) (t : Task) → Falls s.units (rounds t + rounds_of ks) ((work t + 1) + work_of ks) (or_step completion t ks s)
  or_falls Lost t = inr (inr (omega arith, omega arith))
  or_falls completion t = inr (inr (omega arith, omega arith))

  not_found_falls : (word : FindWord) (b : ℕ) → Falls s.units (0 + rounds_of ks) (1 + work_of ks) (not_found_step word b ks s)
  not_found_falls find.Next b = inr (inr (omega arith, omega arith))
  not_found_falls find.Previous b = inr (inr (omega arith, omega arith))
  not_found_falls word b = inr (inr (omega arith, omega arith))

  found_falls : (completion : Completion) (word : FindWord) (b : ℕ) → Falls s.units (0 + rounds_of ks) (1 + work_of ks) (found_step completion word b ks s)
  found_falls (Found at) word b = inr (inr (omega arith, omega arith))
  found_falls NotFound word b = not_found_falls word b
  found_falls completion word b = inr (inr (omega arith, omega arith))

  before_falls : (completion : Completion) (olds : List Content) (bs : List ℕ) → Falls s.units (0 + rounds_of ks) (1 + work_of ks) (before_step completion olds bs ks s)
  before_falls (Faults f) olds bs = inr (inr (omega arith, omega arith))
  before_falls completion olds bs = inr (inr (omega arith, omega arith))

  closing_falls : (completion : Completion) (b : Header) (o : Iteration) (out : Completion) → Falls s.units (1 + rounds_of ks) (8 + work_of ks) (closing_step completion p b o out ks s)
  closing_falls Normal b o out = inr (inr (omega arith, omega arith))
  closing_falls (Faults f) b o out = inr (inr (omega arith, omega arith))
  closing_falls completion b o out = inr (inr (omega arith, omega arith))

  quiet_falls : (completion : Completion) (quiet : Bool) → Falls s.units (0 + rounds_of ks) (1 + work_of ks) (quiet_step completion quiet ks s)
  quiet_falls (EndKeys passed) true = inr (inr (omega arith, omega arith))
  quiet_falls (EndKeys passed) false = inr (inr (omega arith, omega arith))
  quiet_falls completion quiet = inr (inr (omega arith, omega arith))

  handled_falls : (completion : Completion) (quiet : Bool) → Falls s.units (0 + rounds_of ks) (3 + work_of ks) (handled_step completion p quiet ks s)
  handled_falls (Faults f) false = inr (inr (omega arith, omega arith))
  handled_falls (Faults f) true = inr (inr (omega arith, omega arith))
  handled_falls completion quiet = inr (inr (omega arith, omega arith))

  fetched_falls : (completion : Completion) (b : Header) (copy : Option Copy) (t : Turn) (buffer body d : ℕ) (retry : Bool) → Falls s.units (3 + rounds_of ks) (13 + work_of ks) (fetched_step completion b copy t buffer body d retry ks s)
  fetched_falls (Found at) b copy t buffer body d retry = inr (inr (omega arith, omega arith))
  fetched_falls (Faults f) b copy t buffer body d retry = inr (inr (omega arith, omega arith))
  fetched_falls (Stops end) b copy t buffer body d retry = inr (inr (omega arith, omega arith))
  fetched_falls completion b copy t buffer body d retry = inr (inr (omega arith, omega arith))

  again_falls : (completion : Completion) (n : ℕ) (b : Header) (outer : Bool) (body d : ℕ) → Falls s.units (0 + rounds_of ks) ((turns_work n + 1) + work_of ks) (again_step completion n b outer body d ks s)
  again_falls (Again t) n b outer body d = inr (inr (omega arith, omega arith))
  again_falls completion n b outer body d = inr (inr (omega arith, omega arith))

  called_falls : (completion : Completion) (args : List Argument) (q : Procedure) → Falls s.units (0 + rounds_of ks) (1 + work_of ks) (called_step completion args q ks s)
  called_falls Normal args q = inr (inr (omega arith, omega arith))
  called_falls (Returns false) args q = inr (inr (omega arith, omega arith))
  called_falls (Returns true) args q = inr (inr (omega arith, omega arith))
  called_falls completion args q = inr (inr (omega arith, omega arith))

  pub pop_falls : (e : StackEntry) (completion : Completion) → Falls s.units (entry_rounds e + rounds_of ks) (entry_work e + work_of ks) (pop_step p e completion ks s)
  pop_falls (ThenDo t) completion = then_falls completion t
  pop_falls (OrDo t) completion = or_falls completion t
  pop_falls (FoundAs word b) completion = found_falls completion word b
  pop_falls (AsBefore olds bs) completion = before_falls completion olds bs
  pop_falls (AfterClosing b o out) completion = closing_falls completion b o out
  pop_falls (Quiet quiet) completion = quiet_falls completion quiet
  pop_falls (Handles quiet) completion = handled_falls completion quiet
  pop_falls (In b o) completion = inr (inr (omega arith, omega arith))
  pop_falls (FetchedAs b copy t buffer body d retry) completion = fetched_falls completion b copy t buffer body d retry
  pop_falls (AndAgain n b outer body d) completion = again_falls completion n b outer body d
  pop_falls (Called args n) completion = called_falls completion args (procedure_at p n)
