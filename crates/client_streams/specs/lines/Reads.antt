-- What a call answers that reads a value.
use Rattle.std.specs.Prelude.{◌≡◌, Bool, List, ◌++◌, Result, Ok, Err, Vec, map}
use Rattle.std.specs.declared.alloc.Global.{Global}
use Rattle.abl_base.specs.declared.value.Value.{Value}
use Rattle.expression_meaning.specs.Env.{Env}
use Rattle.evaluator.specs.Forms.{AreForms}
use Rattle.evaluator.specs.declared.fault.EvalFault.{EvalFault}
use Rattle.evaluator.specs.declared.fault.EvalFault.TheVariants.{Fault, NoMemory}
use Rattle.block_meaning.specs.Lines.{complaint_of}
use Rattle.block_meaning.specs.Program.{Program}
use Rattle.block_meaning.specs.State.{State}
use Rattle.block_meaning.specs.Values.{env_of, Evaluated, Gives, Fails, EvaluatedAll, GivesAll, FailsAll}
use Rattle.client_streams.specs.declared.lines.read.Read.{Read}
use Rattle.client_streams.specs.declared.lines.read.Read.TheVariants.{Lent, Own}

-- an expression of the program reads this in the state, with this value of RETRY
pub record IsReadIn (p : Program) (retry : Bool) (s : State) (env : Env) : Type 0 where
  pub forms : AreForms p.forms
  pub env_is : env_of retry s ≡ env

-- the value
abbrev pub value_read : Read → Value
value_read (Lent v) = v.now
value_read (Own v) = v

-- the call answers the value or the fault, or there is no memory
abbrev pub ReadsAs : Result Read EvalFault → Evaluated → Type 0
ReadsAs (Ok read) wanted = wanted ≡ Gives (value_read read)
ReadsAs (Err (Fault fault)) wanted = wanted ≡ Fails (complaint_of fault)
ReadsAs (Err NoMemory) wanted = Unit {0}

-- the same for several values
abbrev pub ReadsAllAs : Result (Vec Read Global) EvalFault → EvaluatedAll → Type 0
ReadsAllAs (Ok reads) wanted = wanted ≡ GivesAll (map value_read reads.items)
ReadsAllAs (Err (Fault fault)) wanted = wanted ≡ FailsAll (complaint_of fault)
ReadsAllAs (Err NoMemory) wanted = Unit {0}

-- values before others
abbrev pub all_after : List Value → EvaluatedAll → EvaluatedAll
all_after vs (GivesAll more) = GivesAll (vs ++ more)
all_after vs (FailsAll c) = FailsAll c

-- the call adds the next value, where the expressions have the values `all` from it on and `more` after it; or it answers its fault
abbrev pub ReadsNext : Result (Unit {0}) EvalFault → List Read → List Read → EvaluatedAll → EvaluatedAll → Type 0
ReadsNext (Ok done) old new all more = all_after (map value_read old) all ≡ all_after (map value_read new) more
ReadsNext (Err (Fault fault)) old new all more = all ≡ FailsAll (complaint_of fault)
ReadsNext (Err NoMemory) old new all more = Unit {0}
