-- The expressions that a step evaluates.
use Rattle.std.specs.Prelude.{List, [], ◌∷◌, ◌++◌, Option, Some, None, map}
use Rattle.bound_tree.specs.Tree.{Action, Argument, Export, Expr, In, InOut, Item, Message, Out, PutItems, Return, ReturnError, Right, Run, Shows, Skips, Spaces, Stmt, ThenReturn, ToPhrase, ValueOf}
use Rattle.flat_machine.specs.Code.{Code, Instr, Plain, Tests}
use Rattle.flat_machine.specs.Config.{Acts, AssignsOne, Await, Blocks, Execute, Iterates, Mode, OnAnswer, RunsFrom, Searches, Task, Unwind, WasNext, WasRead, WasSecond}

abbrev pub expressions_if : Option Expr → List Expr
expressions_if None = []
expressions_if (Some e) = e ∷ []

abbrev pub right_expressions : Right → List Expr
right_expressions (ValueOf e) = e ∷ []
right_expressions right = []

-- of RETURN in an action
abbrev pub action_expressions : Action → List Expr
action_expressions (ThenReturn error e) = expressions_if e
action_expressions action = []

abbrev pub argument_expressions : List Argument → List Expr
argument_expressions [] = []
argument_expressions (In e ∷ as_) = e ∷ argument_expressions as_
argument_expressions (Out v ∷ as_) = argument_expressions as_
argument_expressions (InOut v ∷ as_) = argument_expressions as_

abbrev pub item_expressions : List Item → List Expr
item_expressions [] = []
item_expressions (Shows e mask ∷ items) = e ∷ item_expressions items
item_expressions (Skips n ∷ items) = item_expressions items
item_expressions (Spaces n ∷ items) = item_expressions items

-- a statement itself. Its assignments and its search are tasks that follow
abbrev pub statement_expressions : Stmt → List Expr
statement_expressions (Return e) = expressions_if e
statement_expressions (ReturnError block e) = expressions_if e
statement_expressions (Run procedure as_ quiet) = argument_expressions as_
statement_expressions (Export stream es) = es
statement_expressions (PutItems stream items) = item_expressions items
statement_expressions (Message es) = es
statement_expressions t = []

abbrev pub instruction_expressions : Instr → List Expr
instruction_expressions (Tests test one other) = test ∷ []
instruction_expressions (Plain t next) = statement_expressions t
instruction_expressions instr = []

-- the start value of TO and BY, once for a block
abbrev pub start_expressions : Option ToPhrase → List Expr
start_expressions None = []
start_expressions (Some l) = l.start ∷ expressions_if l.by

-- the end value of TO, in each iteration
abbrev pub end_expressions : Option ToPhrase → List Expr
end_expressions None = []
end_expressions (Some l) = l.end ∷ []

abbrev pub task_expressions : Code → Task → List Expr
task_expressions code (RunsFrom place d retry) = instruction_expressions (code.instr place)
task_expressions code (AssignsOne t x retry) = right_expressions x
task_expressions code (Searches r forward only wait retry from) = map (λ x. x.value) r.bracket
task_expressions code (Acts b o act retry) = action_expressions act
task_expressions code (Blocks b outer body d) = start_expressions b.to
task_expressions code (Iterates b outer body d t) = end_expressions b.to ++ expressions_if b.while_test
task_expressions code t = []

-- after an answer: WHERE
abbrev pub answer_expressions : OnAnswer → List Expr
answer_expressions (WasNext n k) = expressions_if k.reading.test
answer_expressions (WasSecond n k c values) = expressions_if k.reading.test
answer_expressions (WasRead r retry row held) = expressions_if r.test
answer_expressions asking = []

-- THE EXPRESSIONS THAT THE NEXT STEP, OR THE ANSWER, EVALUATES
abbrev pub expressions_of : Code → Mode → List Expr
expressions_of code (Execute t) = task_expressions code t
expressions_of code (Unwind completion) = []
expressions_of code (Await op k) = answer_expressions k
