-- The right sides of assignments, evaluated.
use Rattle.std.specs.Prelude.{◌≡◌, ℕ, Bool, List, [], ◌∷◌, Option, Some, None, Result, Ok, Err, drop}
use Rattle.evaluator.specs.declared.fault.EvalFault.{EvalFault}
use Rattle.evaluator.specs.declared.fault.EvalFault.TheVariants.{Fault, NoMemory}
use Rattle.bound_tree.specs.declared.statement.Target.{Target}
use Rattle.bound_tree.specs.Tree.{Expr, Right, ValueOf, NextOf, CurrentOf, Assignment}
use Rattle.block_meaning.specs.Changes.{stored}
use Rattle.block_meaning.specs.Lines.{complaint_of}
use Rattle.block_meaning.specs.Program.{Program}
use Rattle.block_meaning.specs.State.{State}
use Rattle.block_meaning.specs.Values.{value_now, Gives, Fails}
use Rattle.flat_machine.specs.Flat as flat
use Rattle.database_protocol.specs.declared.operation.Op.TheVariants as op
use Rattle.client_records.specs.declared.rights.RightSide.{RightSide}
use Rattle.client_records.specs.declared.rights.RightSide.TheVariants as right
use Rattle.client_records.specs.declared.rights.NextAssignment.{NextAssignment}

-- it denotes the right side: an expression of this value or fault, or a sequence
abbrev pub IsRightSide : Result RightSide EvalFault → Right → Program → Bool → State → Type 0
IsRightSide (Ok (right.Value v)) r p retry s = (e : Expr) × (r ≡ ValueOf e) × (value_now p e retry s ≡ Gives v)
IsRightSide (Ok (right.NextValue q)) r p retry s = r ≡ NextOf q
IsRightSide (Ok (right.CurrentValue q)) r p retry s = r ≡ CurrentOf q
IsRightSide (Err (Fault f)) r p retry s = (e : Expr) × (r ≡ ValueOf e) × (value_now p e retry s ≡ Fails (complaint_of f))
IsRightSide (Err NoMemory) r p retry s = Unit {0}

-- the first of the assignments from one index on, and the others
abbrev pub StartsWith : List Assignment → Target → Right → List Assignment → Type 0
StartsWith xs t r more = xs ≡ record { target = t; right = r } ∷ more

-- it is the assignment of this index; there is none; or its expression has a fault
abbrev pub IsNext : Result (Option NextAssignment) EvalFault → List Assignment → ℕ → Program → Bool → State → Type 0
IsNext (Ok None) xs i p retry s = drop i xs ≡ []
IsNext (Ok (Some x)) xs i p retry s = (r : Right) × StartsWith (drop i xs) x.target r (drop x.after xs) × IsRightSide (Ok x.right) r p retry s
IsNext (Err f) xs i p retry s = (t : Target) × (r : Right) × (more : List Assignment) × StartsWith (drop i xs) t r more × IsRightSide (Err f) r p retry s

-- what the right side does to the target
abbrev pub right_step : RightSide → Target → List flat.StackEntry → State → flat.Config
right_step (right.Value v) t ks s = flat.ends_as (stored t v s) ks
right_step (right.NextValue q) t ks s = flat.ask (op.NextValue q) (flat.WasCounted t) ks s
right_step (right.CurrentValue q) t ks s = flat.ask (op.CurrentValue q) (flat.WasCounted t) ks s
