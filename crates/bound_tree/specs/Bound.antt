-- The tree of the definitions that a bound source denotes.
use Rattle.std.specs.Prelude.{List, [], ◌∷◌, Option, Some, None, map}
use Rattle.bound_tree.specs.declared.expression.Operator.{Operator}
use Rattle.bound_tree.specs.declared.expression.Operator.TheVariants as op
use Rattle.bound_tree.specs.declared.expression.Expr.{Expr as SourceExpr, Row_of-Link, end_of-Link, more_of-Link}
use Rattle.bound_tree.specs.declared.expression.Expr.TheVariants as e
use Rattle.bound_tree.specs.declared.expression.Link.{Link}
use Rattle.bound_tree.specs.declared.block.Action.{Action as SourceAction}
use Rattle.bound_tree.specs.declared.block.Action.TheVariants as act
use Rattle.bound_tree.specs.declared.block.OnPhrase.{OnPhrase as SourceOnPhrase}
use Rattle.bound_tree.specs.declared.block.BracketValue.{BracketValue as SourceBracketValue}
use Rattle.bound_tree.specs.declared.block.Reading.{Reading as SourceReading}
use Rattle.bound_tree.specs.declared.block.Fetch.{Fetch as SourceFetch}
use Rattle.bound_tree.specs.declared.block.ToPhrase.{ToPhrase as SourceToPhrase}
use Rattle.bound_tree.specs.declared.block.Header.{Header as SourceHeader}
use Rattle.bound_tree.specs.declared.statement.Right.{Right as SourceRight}
use Rattle.bound_tree.specs.declared.statement.Right.TheVariants as right
use Rattle.bound_tree.specs.declared.statement.Assignment.{Assignment as SourceAssignment}
use Rattle.bound_tree.specs.declared.statement.Argument.{Argument as SourceArgument}
use Rattle.bound_tree.specs.declared.statement.Argument.TheVariants as arg
use Rattle.bound_tree.specs.declared.statement.PutItem.{PutItem}
use Rattle.bound_tree.specs.declared.statement.PutItem.TheVariants as put
use Rattle.bound_tree.specs.declared.statement.Stmt.{Stmt as SourceStmt, Row_of-Stmt, end_of-Stmt, more_of-Stmt}
use Rattle.bound_tree.specs.declared.statement.Stmt.TheVariants as stmt
use Rattle.bound_tree.specs.declared.procedure.Procedure.{Procedure as SourceProcedure}
use Rattle.bound_tree.specs.declared.procedure.Bound.{Bound}
use Rattle.bound_tree.specs.Tree.{Expr, Literal, TheVariable, TheField, One, Two, Three, Both, Either, IfElse, Masked, IsAvailable, IsLocked, Retry, ErrorStatus, ReturnValue, Action, ThenRetry, ThenLeave, ThenNext, ThenReturn, OnPhrase, BracketValue, Reading, Fetch, ToPhrase, Header, Right, ValueOf, NextOf, CurrentOf, Assignment, Argument, In, Out, InOut, Item, Shows, Skips, Spaces, Stmt, Inner, Choose, Assign, Find, FindCurrent, Create, Remove, Release, UndoBlock, LeaveBlock, NextBlock, Return, ReturnError, Stop, Run, Import, Export, ExportRecord, PutItems, Message, OutputTo, OutputClose, InputFrom, InputClose, Body, Nothing, Then, Procedure, Source}

-- a chain, with one more operator and operand
abbrev pub joined : Operator → Expr → Expr → Expr
joined (op.Binary two) a b = Two two a b
joined op.And a b = Both a b
joined op.Or a b = Either a b

abbrev mutual
  -- the expression
  pub expr_of : SourceExpr → Expr
  expr_of (e.Literal v) = Literal v
  expr_of (e.Variable x) = TheVariable x
  expr_of (e.Field b f k) = TheField b f k
  expr_of (e.Unary' operator p a) = One operator (expr_of a)
  expr_of (e.Chain' p a shape rest) = chained (expr_of a) rest
  expr_of (e.Ternary' operator p a q b r c) = Three operator (expr_of a) (expr_of b) (expr_of c)
  expr_of (e.If' p a q b r c k) = IfElse (expr_of a) (expr_of b) (expr_of c) k
  expr_of (e.Masked' p a mask) = Masked (expr_of a) mask
  expr_of (e.Available b) = IsAvailable b
  expr_of (e.Locked b) = IsLocked b
  expr_of e.Retry = Retry
  expr_of e.ErrorStatus = ErrorStatus
  expr_of e.ReturnValue = ReturnValue

  -- a chain: its links are folded to the left
  pub chained : {m : _} → Expr → Row_of-Link m → Expr
  chained a end_of-Link = a
  chained a (more_of-Link operator b rest) = chained (joined operator a (expr_of b)) rest

-- the same fold over a list of links
abbrev pub chain_of : Expr → List Link → Expr
chain_of a [] = a
chain_of a (x ∷ xs) = chain_of (joined x.operator a (expr_of x.operand)) xs

-- the expression that may be left out
abbrev pub maybe_expr_of : Option SourceExpr → Option Expr
maybe_expr_of None = None
maybe_expr_of (Some a) = Some (expr_of a)

-- what happens after a block was undone
abbrev pub action_of : SourceAction → Action
action_of act.Retry = ThenRetry
action_of (act.Leave l) = ThenLeave l
action_of (act.Next l) = ThenNext l
action_of (act.Return error a) = ThenReturn error (maybe_expr_of a)

-- an ON phrase
abbrev pub on_of : Option SourceOnPhrase → Option OnPhrase
on_of None = None
on_of (Some on) = Some (record { target = on.target; action = action_of on.action })

-- a value of the bracket
abbrev pub bracket_value_of : SourceBracketValue → BracketValue
bracket_value_of x = record { kind = x.kind; value = expr_of x.value }

-- which records are read
abbrev pub reading_of : SourceReading → Reading
reading_of r = record { buffer = r.buffer; index = r.index; bracket = map bracket_value_of r.bracket.items; test = maybe_expr_of r.test; lock = r.lock }

-- the record phrase of a FOR
abbrev pub fetch_of : Option SourceFetch → Option Fetch
fetch_of None = None
fetch_of (Some f) = Some (record { word = f.word; reading = reading_of f.reading })

-- variable = start TO end BY by
abbrev pub to_of : Option SourceToPhrase → Option ToPhrase
to_of None = None
to_of (Some x) = Some (record { variable = x.variable; start = expr_of x.start; end = expr_of x.end; by = maybe_expr_of x.by })

-- the header
abbrev pub header_of : SourceHeader → Header
header_of h = record {
  number = h.number;
  kind = h.kind;
  place = h.place;
  transaction = h.transaction;
  flags = h.flags;
  scoped = h.scoped.items;
  to = to_of h.to;
  while_test = maybe_expr_of h.while_test;
  fetch = fetch_of h.fetch;
  on_error = on_of h.on_error;
  on_endkey = on_of h.on_endkey;
}

-- the right side of an assignment
abbrev pub right_of : SourceRight → Right
right_of (right.Value a) = ValueOf (expr_of a)
right_of (right.NextValue q) = NextOf q
right_of (right.CurrentValue q) = CurrentOf q

-- target = right
abbrev pub assignment_of : SourceAssignment → Assignment
assignment_of x = record { target = x.target; right = right_of x.right }

-- an argument of RUN
abbrev pub argument_of : SourceArgument → Argument
argument_of (arg.Input a) = In (expr_of a)
argument_of (arg.Output x) = Out x
argument_of (arg.InputOutput x) = InOut x

-- an item of PUT
abbrev pub item_of : PutItem → Item
item_of (put.Shows a mask) = Shows (expr_of a) mask
item_of (put.Skip n) = Skips n
item_of (put.Space n) = Spaces n

abbrev mutual
  -- the statement
  pub stmt_of : SourceStmt → Stmt
  stmt_of (stmt.Block' h shape body) = Inner (header_of h.value) (row_of body)
  stmt_of (stmt.If' test shape then_it shape' else_it) = Choose (expr_of test) (row_of then_it) (row_of else_it)
  stmt_of (stmt.Assign pairs quiet) = Assign (map assignment_of pairs.items) quiet
  stmt_of (stmt.Find word reading wait quiet) = Find word (reading_of reading.value) wait quiet
  stmt_of (stmt.FindCurrent reading wait quiet) = FindCurrent (reading_of reading.value) wait quiet
  stmt_of (stmt.Create b quiet) = Create b quiet
  stmt_of (stmt.Delete b quiet) = Remove b quiet
  stmt_of (stmt.Release b quiet) = Release b quiet
  stmt_of (stmt.Undo l action) = UndoBlock l (action_of action)
  stmt_of (stmt.Leave l) = LeaveBlock l
  stmt_of (stmt.Next l) = NextBlock l
  stmt_of (stmt.Return a) = Return (maybe_expr_of a)
  stmt_of (stmt.ReturnError l a) = ReturnError l (maybe_expr_of a)
  stmt_of stmt.Stop = Stop
  stmt_of (stmt.Run n args quiet) = Run n (map argument_of args.items) quiet
  stmt_of (stmt.Import n targets quiet) = Import n targets.items quiet
  stmt_of (stmt.Export n values) = Export n (map expr_of values.items)
  stmt_of (stmt.ExportRecord n b) = ExportRecord n b
  stmt_of (stmt.Put n items) = PutItems n (map item_of items.items)
  stmt_of (stmt.Message values) = Message (map expr_of values.items)
  stmt_of (stmt.OutputTo n output append) = OutputTo n output append
  stmt_of (stmt.OutputClose n) = OutputClose n
  stmt_of (stmt.InputFrom n input) = InputFrom n input
  stmt_of (stmt.InputClose n) = InputClose n

  -- the statements inside a statement
  pub row_of : {m : _} → Row_of-Stmt m → Body
  row_of end_of-Stmt = Nothing
  row_of (more_of-Stmt t rest) = Then (stmt_of t) (row_of rest)

-- the statements of a list
abbrev pub body_of : List SourceStmt → Body
body_of [] = Nothing
body_of (t ∷ ts) = Then (stmt_of t) (body_of ts)

-- a procedure
abbrev pub procedure_of : SourceProcedure → Procedure
procedure_of q = record {
  name = q.name;
  undoable = q.undoable;
  no_undo = q.no_undo;
  buffers = q.buffers.items;
  parameters = q.parameters.items;
  header = header_of q.header.value;
  body = body_of q.body.items;
  references = q.references.items;
}

-- the source
abbrev pub source_of : Bound → Source
source_of b = record {
  procedures = map procedure_of b.procedures.items;
  streams = b.streams;
  outputs = b.outputs.items;
  inputs = b.inputs.items;
}
