-- The bound tree as the definition of what a client does reads it: names are numbers, and each block has its header.
use Rattle.std.specs.Prelude.{ℕ, Bool, List, Option}
use Rattle.abl_base.specs.declared.place.Place.{Place}
use Rattle.abl_base.specs.declared.value.Value.{Value}
use Rattle.abl_base.specs.declared.value.Kind.{Kind}
use Rattle.bound_tree.specs.declared.expression.Variable.{Variable}
use Rattle.bound_tree.specs.declared.expression.Unary.{Unary}
use Rattle.bound_tree.specs.declared.expression.Binary.{Binary}
use Rattle.bound_tree.specs.declared.expression.Ternary.{Ternary}
use Rattle.bound_tree.specs.declared.block.LockWanted.{LockWanted}
use Rattle.bound_tree.specs.declared.block.FetchWord.{FetchWord}
use Rattle.bound_tree.specs.declared.block.BlockKind.{BlockKind}
use Rattle.bound_tree.specs.declared.block.Flags.{Flags}
use Rattle.bound_tree.specs.declared.statement.FindWord.{FindWord}
use Rattle.bound_tree.specs.declared.statement.Target.{Target}
use Rattle.bound_tree.specs.declared.procedure.BufferDef.{BufferDef}
use Rattle.bound_tree.specs.declared.procedure.Reference.{Reference}

-- an expression
pub data Expr : Type 0 where
  Literal : (value : Value) → Expr
  TheVariable : (variable : Variable) → Expr
  TheField : (buffer field : ℕ) (kind : Kind) → Expr
  One : (operator : Unary) (a : Expr) → Expr
  Two : (operator : Binary) (a b : Expr) → Expr
  Three : (operator : Ternary) (a b c : Expr) → Expr
  Both : (a b : Expr) → Expr
  Either : (a b : Expr) → Expr
  IfElse : (test one other : Expr) (kind : Option Kind) → Expr
  Masked : (a : Expr) (mask : List ℕ) → Expr
  IsAvailable : (buffer : ℕ) → Expr
  IsLocked : (buffer : ℕ) → Expr
  Retry : Expr
  ErrorStatus : Expr
  ReturnValue : Expr

-- what happens after a block was undone. The last is that of the statement RETURN ERROR, whose value was evaluated before
pub data Action : Type 0 where
  ThenRetry : Action
  ThenLeave : (block : ℕ) → Action
  ThenNext : (block : ℕ) → Action
  ThenReturn : (error : Bool) (value : Option Expr) → Action
  ThenError : Action

-- ON ERROR or ON ENDKEY: the block that it undoes, and what happens then
pub record OnPhrase : Type 0 where
  pub target : ℕ
  pub action : Action

-- a value of the bracket, with the kind of the index component
pub record BracketValue : Type 0 where
  pub kind : Kind
  pub value : Expr

-- which records are read: by which index (None: by row identity), the values of the bracket, WHERE, and the lock
pub record Reading : Type 0 where
  pub buffer : ℕ
  pub index : Option ℕ
  pub bracket : List BracketValue
  pub test : Option Expr
  pub lock : LockWanted

-- FOR EACH, FIRST or LAST
pub record Fetch : Type 0 where
  pub word : FetchWord
  pub reading : Reading

-- variable = start TO end BY by
pub record ToPhrase : Type 0 where
  pub variable : Variable
  pub start : Expr
  pub end : Expr
  pub by : Option Expr

-- the place of a source's first byte, where its external procedure begins
abbrev pub start_of_source : Place
start_of_source = record { line = 1; column = 1 }

-- the header of a block, and the buffers scoped to it in buffer order
pub record Header : Type 0 where
  pub number : ℕ
  pub kind : BlockKind
  -- the place of its first word, and whether the word TRANSACTION is in it
  pub place : Place
  pub transaction : Bool
  pub flags : Flags
  pub scoped : List ℕ
  pub to : Option ToPhrase
  pub while_test : Option Expr
  pub fetch : Option Fetch
  pub on_error : Option OnPhrase
  pub on_endkey : Option OnPhrase

-- the right side of an assignment. The last is a value that IMPORT has read
pub data Right : Type 0 where
  ValueOf : (e : Expr) → Right
  NextOf : (sequence : ℕ) → Right
  CurrentOf : (sequence : ℕ) → Right
  Given : (value : Value) → Right

-- target = right
pub record Assignment : Type 0 where
  pub target : Target
  pub right : Right

-- an argument of RUN
pub data Argument : Type 0 where
  In : (e : Expr) → Argument
  Out : (variable : Variable) → Argument
  InOut : (variable : Variable) → Argument

-- an item of PUT: a value, under a mask or plain; line feeds; blanks
pub data Item : Type 0 where
  Shows : (e : Expr) (mask : Option (List ℕ)) → Item
  Skips : (n : ℕ) → Item
  Spaces : (n : ℕ) → Item

mutual
  -- a statement; `quiet` is NO-ERROR
  pub data Stmt : Type 0 where
    Inner : (header : Header) (body : Body) → Stmt
    Choose : (test : Expr) (then_it else_it : Body) → Stmt
    Assign : (pairs : List Assignment) (quiet : Bool) → Stmt
    Find : (word : FindWord) (reading : Reading) (wait quiet : Bool) → Stmt
    FindCurrent : (reading : Reading) (wait quiet : Bool) → Stmt
    Create : (buffer : ℕ) (quiet : Bool) → Stmt
    Remove : (buffer : ℕ) (quiet : Bool) → Stmt
    Release : (buffer : ℕ) (quiet : Bool) → Stmt
    UndoBlock : (block : ℕ) (action : Action) → Stmt
    LeaveBlock : (block : ℕ) → Stmt
    NextBlock : (block : ℕ) → Stmt
    Return : (value : Option Expr) → Stmt
    ReturnError : (block : ℕ) (value : Option Expr) → Stmt
    Stop : Stmt
    Run : (procedure : ℕ) (arguments : List Argument) (quiet : Bool) → Stmt
    Import : (stream : ℕ) (targets : List (Option Target)) (quiet : Bool) → Stmt
    Export : (stream : ℕ) (values : List Expr) → Stmt
    ExportRecord : (stream buffer : ℕ) → Stmt
    PutItems : (stream : ℕ) (items : List Item) → Stmt
    Message : (values : List Expr) → Stmt
    OutputTo : (stream output : ℕ) (append : Bool) → Stmt
    OutputClose : (stream : ℕ) → Stmt
    InputFrom : (stream input : ℕ) → Stmt
    InputClose : (stream : ℕ) → Stmt

  -- the statements of a block or branch
  pub data Body : Type 0 where
    Nothing : Body
    Then : (first : Stmt) (rest : Body) → Body

-- a procedure: its name, the initial values of its variables, its buffers, the variables that are its parameters, and the namings of
-- its buffers in text order
pub record Procedure : Type 0 where
  pub name : List ℕ
  pub undoable : List Value
  pub no_undo : List Value
  pub buffers : List BufferDef
  pub parameters : List Variable
  pub header : Header
  pub body : Body
  pub references : List Reference

-- a source: its procedures, the external one first, the number of streams beside the unnamed one, and the names after OUTPUT TO and
-- after INPUT FROM, each once, in text order
pub record Source : Type 0 where
  pub procedures : List Procedure
  pub streams : ℕ
  pub outputs : List (List ℕ)
  pub inputs : List (List ℕ)
