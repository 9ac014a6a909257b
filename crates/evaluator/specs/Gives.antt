-- What a call answers, beside what is to be given.
use Rattle.std.specs.Prelude.{◌≡◌, Bool, true, false, Result, Ok, Err}
use Rattle.abl_base.specs.declared.value.Value.{Value}
use Rattle.abl_base.specs.declared.value.Value.TheVariants.{Logical}
use Rattle.abl_values.specs.declared.arithmetic.ArithFault.{ArithFault}
use Rattle.abl_values.specs.declared.arithmetic.ArithFault.TheVariants as arith
use Rattle.expression_meaning.specs.declared.fault.RunFault.TheVariants.{Range}
use Rattle.expression_meaning.specs.Operators.{Given}
use Rattle.evaluator.specs.declared.fault.EvalFault.{EvalFault}
use Rattle.evaluator.specs.declared.fault.EvalFault.TheVariants.{Fault, NoMemory}
use Rattle.evaluator.specs.declared.held.Held.{Held}
use Rattle.evaluator.specs.declared.held.Held.TheVariants.{Own, Lent}

-- the call answers what is given, or there is no memory
abbrev pub Gives : Result Value EvalFault → Given → Type 0
Gives (Ok v) given = given ≡ Ok v
Gives (Err (Fault fault)) given = given ≡ Err fault
Gives (Err NoMemory) given = Unit {0}

-- what an operator on values answers, where an overflow is a fault of range
abbrev pub ranged : Result Value ArithFault → Result Value EvalFault
ranged (Ok v) = Ok v
ranged (Err arith.Overflow) = Err (Fault Range)
ranged (Err arith.NoMemory) = Err NoMemory

-- the value is no
abbrev pub is_no : Value → Bool
is_no (Logical false) = true
is_no v = false

-- ---- values that are not copied

-- the value
abbrev pub held_value : Held → Value
held_value (Own v) = v
held_value (Lent v) = v.now

-- the call answers what is given, or there is no memory
abbrev pub Holds : Result Held EvalFault → Given → Type 0
Holds (Ok h) given = given ≡ Ok (held_value h)
Holds (Err (Fault fault)) given = given ≡ Err fault
Holds (Err NoMemory) given = Unit {0}
