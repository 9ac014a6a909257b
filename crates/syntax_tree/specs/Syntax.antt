-- The syntax of a source: what a derivation of its tokens denotes, without the words and signs that say nothing more. Each part has
-- the place of the token that a refusal would name, its `at`.
use Rattle.std.specs.Prelude.{ℕ, Bool, List, Option}
use Rattle.abl_base.specs.declared.place.Place.{Place}
use Rattle.abl_base.specs.declared.value.Kind.{Kind}
use Rattle.abl_base.specs.declared.value.Value.{Value}
use Rattle.bound_tree.specs.declared.block.FetchWord.{FetchWord}
use Rattle.bound_tree.specs.declared.block.LockWanted.{LockWanted}
use Rattle.bound_tree.specs.declared.expression.Binary.{Binary}
use Rattle.syntax_tree.specs.declared.name.Named.{Named}
use Rattle.syntax_tree.specs.declared.name.Named.TheVariants.{Plain, Qualified}
use Rattle.syntax_tree.specs.declared.name.Word.{Word}
use Rattle.syntax_tree.specs.declared.definition.VariableOption.{VariableOption}
use Rattle.syntax_tree.specs.declared.word.BlockWord.{BlockWord}
use Rattle.syntax_tree.specs.declared.word.Direction.{Direction}
use Rattle.syntax_tree.specs.declared.word.FindWhich.{FindWhich}
use Rattle.syntax_tree.specs.declared.word.Function.{Function}

mutual
  -- Expression. The place of an operator is its own; that of what begins with a word or sign is that of this token
  pub data Expression : Type 0 where
    Literal : (value : Value) (at : Place) → Expression
    Name : (name : Named) → Expression
    Grouped : (at : Place) (a : Expression) → Expression
    Plus : (at : Place) (a : Expression) → Expression
    Minus : (at : Place) (a : Expression) → Expression
    Not : (at : Place) (a : Expression) → Expression
    Two : (operator : Binary) (at : Place) (a b : Expression) → Expression
    And : (at : Place) (a b : Expression) → Expression
    Or : (at : Place) (a b : Expression) → Expression
    If : (at : Place) (test one other : Expression) → Expression
    Available : (at : Place) (buffer : Word) → Expression
    Locked : (at : Place) (buffer : Word) → Expression
    Retry : (at : Place) → Expression
    ReturnValue : (at : Place) → Expression
    ErrorStatus : (at : Place) → Expression
    -- STRING, with a mask or without
    Text : (at : Place) (a : Expression) (mask : Option Word) → Expression
    Call : (function : Function) (at : Place) (arguments : Arguments) → Expression

  -- Expression ("," Expression)*
  pub data Arguments : Type 0 where
    NoMore : Arguments
    More : (first : Expression) (rest : Arguments) → Arguments

-- RightSide
pub data RightSide : Type 0 where
  ValueOf : (e : Expression) → RightSide
  NextValue : (at : Place) (sequence : Word) → RightSide
  CurrentValue : (at : Place) (sequence : Word) → RightSide

-- Target "=" RightSide
pub record Pair : Type 0 where
  pub target : Named
  pub right : RightSide

-- RecordOption | NO-WAIT | NO-ERROR
pub data RecordOption : Type 0 where
  Where : (at : Place) (e : Expression) → RecordOption
  UseIndex : (at : Place) (index : Word) → RecordOption
  Lock : (at : Place) (lock : LockWanted) → RecordOption
  NoWait : (at : Place) → RecordOption
  NoError : (at : Place) → RecordOption

-- Action, LEAVE, NEXT and RETRY with the label
pub data Action : Type 0 where
  Leave : (at : Place) (label : Option Word) → Action
  Next : (at : Place) (label : Option Word) → Action
  RetryIt : (at : Place) (label : Option Word) → Action
  Return : (at : Place) (error : Bool) (value : Option Expression) → Action

-- Phrase
pub data Phrase : Type 0 where
  While : (at : Place) (e : Expression) → Phrase
  Transaction : (at : Place) → Phrase
  OnError : (at : Place) (label : Option Word) (action : Option Action) → Phrase
  OnEndkey : (at : Place) (label : Option Word) (action : Option Action) → Phrase

-- variable "=" start TO end [BY by]
pub record Counting : Type 0 where
  pub variable : Named
  pub start : Expression
  pub end : Expression
  pub by : Option Expression

-- DO or REPEAT with the buffers after FOR, or FOR with its buffer and record options
pub data Opening : Type 0 where
  Plainly : (word : BlockWord) (buffers : List Word) → Opening
  ForRecords : (which : FetchWord) (buffer : Word) (options : List RecordOption) → Opening

-- the head of a block, with its label; `at` is its first word, the label aside
pub record Head : Type 0 where
  pub label : Option Word
  pub at : Place
  pub opening : Opening
  pub counting : Option Counting
  pub phrases : List Phrase

-- Definition. The place of a parameter is that of the word PARAMETER
pub data Definition : Type 0 where
  Variable : (name : Word) (kind : Kind) (options : List VariableOption) → Definition
  Parameter : (direction : Direction) (at : Place) (name : Word) (kind : Kind) (options : List VariableOption) → Definition
  Buffer : (name table : Word) → Definition
  Stream : (name : Word) → Definition

-- Argument of RUN; its place is that of its first token
pub data Argument : Type 0 where
  Input : (at : Place) (e : Expression) → Argument
  Output : (at : Place) (name : Word) → Argument
  InputOutput : (at : Place) (name : Word) → Argument

-- a count after SKIP or SPACE
pub record Count : Type 0 where
  pub number : ℕ
  pub at : Place

-- PutItem
pub data PutItem : Type 0 where
  Shows : (e : Expression) (mask : Option Word) → PutItem
  Skip : (count : Option Count) → PutItem
  Space : (count : Option Count) → PutItem

mutual
  -- Statement; `quiet` is NO-ERROR
  pub data Statement : Type 0 where
    Block : (head : Head) (body : Statements) → Statement
    Choose : (test : Expression) (then_it : Statement) (else_it : Statements) → Statement
    Define : (definition : Definition) → Statement
    Assign : (pairs : List Pair) (quiet : Bool) → Statement
    Find : (which : FindWhich) (buffer : Word) (options : List RecordOption) → Statement
    Create : (buffer : Word) (quiet : Bool) → Statement
    Delete : (buffer : Word) (quiet : Bool) → Statement
    Release : (buffer : Word) (quiet : Bool) → Statement
    Undo : (at : Place) (label : Option Word) (action : Option Action) → Statement
    LeaveBlock : (at : Place) (label : Option Word) → Statement
    NextBlock : (at : Place) (label : Option Word) → Statement
    ReturnIt : (at : Place) (error : Bool) (value : Option Expression) → Statement
    Stop : Statement
    Run : (procedure : Word) (arguments : List Argument) (quiet : Bool) → Statement
    -- None is `^`
    Import : (stream : Option Word) (targets : List (Option Named)) (quiet : Bool) → Statement
    Export : (stream : Option Word) (values : List Expression) → Statement
    Put : (stream : Option Word) (plain : Bool) (items : List PutItem) → Statement
    Message : (values : List Expression) → Statement
    -- None is CLOSE
    InputFrom : (stream : Option Word) (file : Option Word) → Statement
    OutputTo : (stream : Option Word) (file : Option Word) (append : Bool) → Statement

  -- Statement*
  pub data Statements : Type 0 where
    Nothing : Statements
    Then : (first : Statement) (rest : Statements) → Statements

-- Item
pub data Item : Type 0 where
  Procedure : (at : Place) (name : Word) (body : Statements) → Item
  Alone : (statement : Statement) → Item

-- Program
abbrev pub Program : Type 0
Program = List Item

-- the place of the first token of an expression
abbrev pub named_at : Named → Place
named_at (Plain word) = word.at
named_at (Qualified buffer field at) = at

abbrev pub starts_at : Expression → Place
starts_at (Literal v at) = at
starts_at (Name n) = named_at n
starts_at (Grouped at a) = at
starts_at (Plus at a) = at
starts_at (Minus at a) = at
starts_at (Not at a) = at
starts_at (Two op at a b) = starts_at a
starts_at (And at a b) = starts_at a
starts_at (Or at a b) = starts_at a
starts_at (If at t a b) = at
starts_at (Available at b) = at
starts_at (Locked at b) = at
starts_at (Retry at) = at
starts_at (ReturnValue at) = at
starts_at (ErrorStatus at) = at
starts_at (Text at a mask) = at
starts_at (Call f at as_) = at
