-- The values of TO.
use Rattle.std.specs.Prelude.{◌≡◌, ℕ, List, Bool, Option, Some, None, Result, Ok, Err, pos}
use Rattle.abl_base.specs.declared.value.Value.{Value}
use Rattle.abl_base.specs.declared.value.Value.TheVariants.{Int64}
use Rattle.abl_values.specs.Arithmetic.{sum_of}
use Rattle.evaluator.specs.declared.fault.EvalFault.{EvalFault}
use Rattle.evaluator.specs.declared.fault.EvalFault.TheVariants.{Fault, NoMemory}
use Rattle.bound_tree.specs.declared.block.ToPhrase.{ToPhrase as SourceToPhrase}
use Rattle.bound_tree.specs.Tree.{Expr, ToPhrase, Header}
use Rattle.bound_tree.specs.Bound.{expr_of, maybe_expr_of}
use Rattle.block_meaning.specs.Program.{Program}
use Rattle.block_meaning.specs.State.{State}
use Rattle.block_meaning.specs.Lines.{complaint_of}
use Rattle.block_meaning.specs.Frames.{value_of}
use Rattle.block_meaning.specs.Values.{Evaluated, Gives, value_now, or_range}
use Rattle.block_meaning.specs.Blocks.{first_turn}
use Rattle.flat_machine.specs.Config.{Config, StackEntry, Execute, Turns}
use Rattle.flat_machine.specs.Steps.{config, fault}
use Rattle.client_values.specs.declared.loops.LoopValues.{LoopValues}

-- the phrase
abbrev pub phrase_of : SourceToPhrase → ToPhrase
phrase_of x = record { variable = x.variable; start = expr_of x.start; end = expr_of x.end; by = maybe_expr_of x.by }

-- the value of BY; 1 without it
abbrev pub by_value : Program → Option Expr → Bool → State → Evaluated
by_value p None retry s = Gives (Int64 (pos 1))
by_value p (Some e) retry s = value_now p e retry s

-- the next value of the loop variable: the start value, else the variable plus BY
abbrev pub value_to_set : ToPhrase → Value → Option Value → State → Evaluated
value_to_set l by None s = or_range (sum_of (value_of l.variable s) by)
value_to_set l by (Some v) s = Gives v

-- a call that evaluates the values of a header, with which the iterations begin, or its header has a fault
abbrev pub BeginsWith : Result LoopValues EvalFault → Config → Header → Bool → ℕ → ℕ → List StackEntry → State → Type 0
BeginsWith (Ok v) c b outer body d ks s = c ≡ config (Execute (Turns s.units b outer body d (first_turn v.start v.by))) ks s
BeginsWith (Err (Fault f)) c b outer body d ks s = c ≡ fault (complaint_of f) ks s
BeginsWith (Err NoMemory) c b outer body d ks s = Unit {0}
