-- Parts of steps spend no units, but for operations and charges.
use Rattle.std.proofs.Common.{◌≡◌, ◌≤◌, ℕ, zero, suc, Bool, true, false, List, [], ◌∷◌, Option, Some, None, refl, arith}
use Rattle.abl_base.specs.declared.value.Value.{Value}
use Rattle.database_protocol.specs.declared.operation.Op.{Op}
use Rattle.bound_tree.specs.Tree.{Expr}
use Rattle.expression_meaning.specs.Operators.{holds}
use Rattle.block_meaning.specs.Program.{Program}
use Rattle.block_meaning.specs.State.{State, Completed, Completion, Content}
use Rattle.block_meaning.specs.Frames.{content_of, emptied, holding}
use Rattle.block_meaning.specs.Values.{Evaluated, Gives, Fails, EvaluatedAll, GivesAll, FailsAll, value_now}
use Rattle.flat_machine.specs.Config.{Config, Mode, Execute, Unwind, Await, OnAnswer, StackEntry, Task}
use Rattle.block_meaning.specs.Changes.{as_before}
use Rattle.flat_machine.specs.Means.{contents_back, first_of, less}
use Rattle.flat_machine.specs.Steps.{ask, asked_from, config, config_if, costing, ends_as, errs_step, given_all_step, given_step, judge_step, test_step}
use Rattle.machine_laws.specs.units.Spending.{LeavesIn, Spends}

pub same : (n : ℕ) → n ≤ n
same n = omega arith

-- of more units, no more are left either
less_in : (m : Mode) (k n after : ℕ) → LeavesIn m k after → k ≤ n → LeavesIn m n after
less_in (Execute t) k n after h e = omega (arith, h, e)
less_in (Unwind completion) k n after h e = omega (arith, h, e)
less_in (Await op a) k n after h e = omega (arith, h, e)

pub of_more : (k n : ℕ) (c : Config) → Spends k c → k ≤ n → Spends n c
of_more k n c h e = less_in c.mode k n c.state.units h e

pub spends_if : (b : Bool) (n : ℕ) (one other : Config) → Spends n one → Spends n other → Spends n (config_if b one other)
spends_if true n one other g h = g
spends_if false n one other g h = h

asked_spends : (n : ℕ) (op : Op) (k : OnAnswer) (ks : List StackEntry) (s : State) → s.units ≡ n → Spends n (asked_from n op k ks s)
asked_spends zero op k ks s e = omega (arith, e)
asked_spends (suc n) op k ks s e = omega arith

-- an operation costs a unit
pub ask_spends : (op : Op) (k : OnAnswer) (ks : List StackEntry) (s : State) → Spends s.units (ask op k ks s)
ask_spends op k ks s = asked_spends s.units op k ks s refl

-- what follows a charge
charged : (n : ℕ) (go : State → Config) (ks : List StackEntry) (s : State) → s.units ≡ n → ((t : State) → Spends t.units (go t)) → Spends n (costing n go ks s)
charged zero go ks s e x = omega (arith, e)
charged (suc n) go ks s e x = of_more n (suc n) (go (record s { units = n })) (x (record s { units = n })) (omega arith)

pub costing_spends : (go : State → Config) (ks : List StackEntry) (s : State) → ((t : State) → Spends t.units (go t)) → Spends s.units (costing s.units go ks s)
costing_spends go ks s x = charged s.units go ks s refl x

-- after an evaluation
pub given_spends : (v : Evaluated) (go : Value → State → Config) (ks : List StackEntry) (s : State) → ((v : Value) → Spends s.units (go v s)) → Spends s.units (given_step v go ks s)
given_spends (Gives v) go ks s x = x v
given_spends (Fails c) go ks s x = same s.units

pub given_all_spends : (v : EvaluatedAll) (go : List Value → State → Config) (ks : List StackEntry) (s : State) → ((vs : List Value) → Spends s.units (go vs s)) → Spends s.units (given_all_step v go ks s)
given_all_spends (GivesAll vs) go ks s x = x vs
given_all_spends (FailsAll c) go ks s x = same s.units

judge_spends : (v : Evaluated) (b : ℕ) (good bad : State → Config) (ks : List StackEntry) (s : State) → ((t : State) → Spends t.units (good t)) → ((t : State) → Spends t.units (bad t)) → Spends s.units (judge_step v b good bad ks s)
judge_spends (Gives v) b good bad ks s x y = spends_if (holds v) s.units (good s) (bad (emptied b s)) (x s) (y (emptied b s))
judge_spends (Fails c) b good bad ks s x y = same s.units

-- after WHERE
pub test_spends : (p : Program) (e : Option Expr) (b : ℕ) (retry : Bool) (good bad : State → Config) (ks : List StackEntry) (s : State) → ((t : State) → Spends t.units (good t)) → ((t : State) → Spends t.units (bad t)) →
    Spends s.units (test_step p e b retry good bad ks s)
test_spends p None b retry good bad ks s x y = x s
test_spends p (Some e) b retry good bad ks s x y = judge_spends (value_now p e retry s) b good bad ks s x y

-- a completion with its state
pub ends_spends : (x : Completed) (ks : List StackEntry) (n : ℕ) → x.state.units ≤ n → Spends n (ends_as x ks)
ends_spends x ks n h = h

pub errs_spends : (x : Completed) (t : Task) (ks : List StackEntry) (n : ℕ) → x.state.units ≤ n → Spends n (errs_step x t ks)
errs_spends x t ks n h = h

-- the contents of buffers are put back
pub back_keeps : (cs : List Content) (bs : List ℕ) (s : State) → (contents_back cs bs s).units ≡ s.units
back_keeps cs [] s = refl
back_keeps cs (b ∷ bs) s = back_keeps (less cs) bs (holding b (as_before (first_of cs) (content_of b s)) s)

-- a completion after a change that keeps the units
pub unwinds : (completion : Completion) (ks : List StackEntry) (s t : State) → t.units ≡ s.units → Spends s.units (config (Unwind completion) ks t)
unwinds completion ks s t e = omega (arith, e)

pub executes : (task : Task) (ks : List StackEntry) (s t : State) → t.units ≡ s.units → Spends s.units (config (Execute task) ks t)
executes task ks s t e = omega (arith, e)
