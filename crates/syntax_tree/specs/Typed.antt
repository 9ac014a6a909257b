-- What the types of the program denote.
use Rattle.std.specs.Prelude.{List, [], ◌∷◌, Option, Some, None, map, Box}
use Rattle.std.specs.declared.alloc.Global.{Global}
use Rattle.abl_base.specs.declared.place.Place.{Place}
use Rattle.syntax_tree.specs.declared.expression.Operator.{Operator}
use Rattle.syntax_tree.specs.declared.expression.Operator.TheVariants as op
use Rattle.syntax_tree.specs.declared.expression.Link.{Link as TypedLink}
use Rattle.syntax_tree.specs.declared.expression.Expression.{Expression as TypedExpression, Row_of-Link, end_of-Link, more_of-Link, Row_of-Expression, end_of-Expression, more_of-Expression}
use Rattle.syntax_tree.specs.declared.expression.Expression.TheVariants as e
use Rattle.syntax_tree.specs.declared.block.Action.{Action as TypedAction}
use Rattle.syntax_tree.specs.declared.block.Action.TheVariants as act
use Rattle.syntax_tree.specs.declared.block.Phrase.{Phrase as TypedPhrase}
use Rattle.syntax_tree.specs.declared.block.Phrase.TheVariants as ph
use Rattle.syntax_tree.specs.declared.block.Counting.{Counting as TypedCounting}
use Rattle.syntax_tree.specs.declared.block.Opening.{Opening as TypedOpening}
use Rattle.syntax_tree.specs.declared.block.Opening.TheVariants as opening
use Rattle.syntax_tree.specs.declared.block.Head.{Head as TypedHead}
use Rattle.syntax_tree.specs.declared.definition.Definition.{Definition as TypedDefinition}
use Rattle.syntax_tree.specs.declared.definition.Definition.TheVariants as d
use Rattle.syntax_tree.specs.declared.record.RecordOption.{RecordOption as TypedRecordOption}
use Rattle.syntax_tree.specs.declared.record.RecordOption.TheVariants as ro
use Rattle.syntax_tree.specs.declared.statement.RightSide.{RightSide as TypedRightSide}
use Rattle.syntax_tree.specs.declared.statement.RightSide.TheVariants as r
use Rattle.syntax_tree.specs.declared.statement.Pair.{Pair as TypedPair}
use Rattle.syntax_tree.specs.declared.statement.Argument.{Argument as TypedArgument}
use Rattle.syntax_tree.specs.declared.statement.Argument.TheVariants as arg
use Rattle.syntax_tree.specs.declared.statement.Count.{Count as TypedCount}
use Rattle.syntax_tree.specs.declared.statement.PutItem.{PutItem as TypedPutItem}
use Rattle.syntax_tree.specs.declared.statement.PutItem.TheVariants as put
use Rattle.syntax_tree.specs.declared.statement.Statement.{Statement as TypedStatement, Held-Statement-If-2, None', Some', Row_of-Statement, end_of-Statement, more_of-Statement}
use Rattle.syntax_tree.specs.declared.statement.Statement.TheVariants as st
use Rattle.syntax_tree.specs.declared.program.Item.{Item as TypedItem}
use Rattle.syntax_tree.specs.declared.program.Item.TheVariants as i
use Rattle.syntax_tree.specs.declared.program.Program.{Program as TypedProgram}
use Rattle.syntax_tree.specs.Syntax as s
use Rattle.syntax_tree.specs.Syntax.{Expression, Arguments, RightSide, Pair, RecordOption, Action, Phrase, Counting, Opening, Head, Definition, Argument, Count, PutItem, Statement, Statements, Item, Program}

-- an operator with the operands on both sides
abbrev pub joined : Operator → Place → Expression → Expression → Expression
joined (op.Two o) at a b = s.Two o at a b
joined op.And at a b = s.And at a b
joined op.Or at a b = s.Or at a b

abbrev mutual
  pub expression_of : TypedExpression → Expression
  expression_of (e.Literal v at) = s.Literal v at
  expression_of (e.Name n) = s.Name n
  expression_of (e.Grouped' at p a) = s.Grouped at (expression_of a)
  expression_of (e.Plus' at p a) = s.Plus at (expression_of a)
  expression_of (e.Minus' at p a) = s.Minus at (expression_of a)
  expression_of (e.Not' at p a) = s.Not at (expression_of a)
  expression_of (e.Chain' p a shape links) = linked_row links (expression_of a)
  expression_of (e.If' at p t q a r b) = s.If at (expression_of t) (expression_of a) (expression_of b)
  expression_of (e.Available at buffer) = s.Available at buffer
  expression_of (e.Locked at buffer) = s.Locked at buffer
  expression_of (e.Retry at) = s.Retry at
  expression_of (e.ReturnValue at) = s.ReturnValue at
  expression_of (e.ErrorStatus at) = s.ErrorStatus at
  expression_of (e.Text' at p a mask) = s.Text at (expression_of a) mask
  expression_of (e.Call' function at shape arguments) = s.Call function at (arguments_row arguments)

  -- the operands of a chain, from the left
  pub linked_row : {m : _} → Row_of-Link m → Expression → Expression
  linked_row end_of-Link a = a
  linked_row (more_of-Link operator at b rest) a = linked_row rest (joined operator at a (expression_of b))

  -- the arguments of a function
  pub arguments_row : {m : _} → Row_of-Expression m → Arguments
  arguments_row end_of-Expression = s.NoMore
  arguments_row (more_of-Expression a rest) = s.More (expression_of a) (arguments_row rest)

-- an expression with the links after it, from the left
abbrev pub linked_of : List TypedLink → Expression → Expression
linked_of [] a = a
linked_of (l ∷ ls) a = linked_of ls (joined l.operator l.at a (expression_of l.operand))

-- the arguments of a list
abbrev pub arguments_of : List TypedExpression → Arguments
arguments_of [] = s.NoMore
arguments_of (a ∷ rest) = s.More (expression_of a) (arguments_of rest)

abbrev pub maybe_expression_of : Option TypedExpression → Option Expression
maybe_expression_of None = None
maybe_expression_of (Some a) = Some (expression_of a)

abbrev pub right_side_of : TypedRightSide → RightSide
right_side_of (r.Value a) = s.ValueOf (expression_of a)
right_side_of (r.NextValue at name) = s.NextValue at name
right_side_of (r.CurrentValue at name) = s.CurrentValue at name

abbrev pub pair_of : TypedPair → Pair
pair_of p = record { target = p.target; right = right_side_of p.right }

abbrev pub record_option_of : TypedRecordOption → RecordOption
record_option_of (ro.Where at a) = s.Where at (expression_of a)
record_option_of (ro.UseIndex at index) = s.UseIndex at index
record_option_of (ro.Lock at lock) = s.Lock at lock
record_option_of (ro.NoWait at) = s.NoWait at
record_option_of (ro.NoError at) = s.NoError at

abbrev pub action_of : TypedAction → Action
action_of (act.Leave at label) = s.Leave at label
action_of (act.Next at label) = s.Next at label
action_of (act.Retry at label) = s.RetryIt at label
action_of (act.Return at error value) = s.Return at error (maybe_expression_of value)

abbrev pub maybe_action_of : Option TypedAction → Option Action
maybe_action_of None = None
maybe_action_of (Some a) = Some (action_of a)

abbrev pub phrase_of : TypedPhrase → Phrase
phrase_of (ph.While at a) = s.While at (expression_of a)
phrase_of (ph.Transaction at) = s.Transaction at
phrase_of (ph.OnError at label action) = s.OnError at label (maybe_action_of action)
phrase_of (ph.OnEndkey at label action) = s.OnEndkey at label (maybe_action_of action)

abbrev pub counting_of : TypedCounting → Counting
counting_of c = record { variable = c.variable; start = expression_of c.start; end = expression_of c.end; by = maybe_expression_of c.by }

abbrev pub maybe_counting_of : Option TypedCounting → Option Counting
maybe_counting_of None = None
maybe_counting_of (Some c) = Some (counting_of c)

abbrev pub opening_of : TypedOpening → Opening
opening_of (opening.Plainly word buffers) = s.Plainly word buffers.items
opening_of (opening.ForRecords which buffer options) = s.ForRecords which buffer (map record_option_of options.items)

abbrev pub head_of : TypedHead → Head
head_of h = record { label = h.label; at = h.at; opening = opening_of h.opening; counting = maybe_counting_of h.counting; phrases = map phrase_of h.phrases.items }

abbrev pub definition_of : TypedDefinition → Definition
definition_of (d.Variable name kind options) = s.Variable name kind options.items
definition_of (d.Parameter direction at name kind options) = s.Parameter direction at name kind options.items
definition_of (d.Buffer name table) = s.Buffer name table
definition_of (d.Stream name) = s.Stream name

abbrev pub argument_of : TypedArgument → Argument
argument_of (arg.Input at a) = s.Input at (expression_of a)
argument_of (arg.Output at name) = s.Output at name
argument_of (arg.InputOutput at name) = s.InputOutput at name

abbrev pub count_of : Option TypedCount → Option Count
count_of None = None
count_of (Some c) = Some (record { number = c.number; at = c.at })

abbrev pub put_item_of : TypedPutItem → PutItem
put_item_of (put.Shows a mask) = s.Shows (expression_of a) mask
put_item_of (put.Skip count) = s.Skip (count_of count)
put_item_of (put.Space count) = s.Space (count_of count)

abbrev pub maybe_boxed_of : Option (Box TypedExpression Global) → Option Expression
maybe_boxed_of None = None
maybe_boxed_of (Some b) = Some (expression_of b.value)

abbrev pub maybe_boxed_action_of : Option (Box TypedAction Global) → Option Action
maybe_boxed_action_of None = None
maybe_boxed_action_of (Some b) = Some (action_of b.value)

abbrev mutual
  pub statement_of : TypedStatement → Statement
  statement_of (st.Block' head shape body) = s.Block (head_of head.value) (statements_row body)
  statement_of (st.If' test p then_it else_it) = s.Choose (expression_of test.value) (statement_of then_it) (else_of else_it)
  statement_of (st.Define d) = s.Define (definition_of d)
  statement_of (st.Assign pairs quiet) = s.Assign (map pair_of pairs.items) quiet
  statement_of (st.Find which buffer options) = s.Find which buffer (map record_option_of options.items)
  statement_of (st.Create buffer quiet) = s.Create buffer quiet
  statement_of (st.Delete buffer quiet) = s.Delete buffer quiet
  statement_of (st.Release buffer quiet) = s.Release buffer quiet
  statement_of (st.Undo at label action) = s.Undo at label (maybe_boxed_action_of action)
  statement_of (st.Leave at label) = s.LeaveBlock at label
  statement_of (st.Next at label) = s.NextBlock at label
  statement_of (st.Return at error value) = s.ReturnIt at error (maybe_boxed_of value)
  statement_of st.Stop = s.Stop
  statement_of (st.Run procedure arguments quiet) = s.Run procedure (map argument_of arguments.items) quiet
  statement_of (st.Import stream targets quiet) = s.Import stream targets.items quiet
  statement_of (st.Export stream values) = s.Export stream (map expression_of values.items)
  statement_of (st.Put stream plain items) = s.Put stream plain (map put_item_of items.items)
  statement_of (st.Message values) = s.Message (map expression_of values.items)
  statement_of (st.InputFrom stream file) = s.InputFrom stream file
  statement_of (st.OutputTo stream file append) = s.OutputTo stream file append

  -- the statement after ELSE, if there is one
  pub else_of : Held-Statement-If-2 → Statements
  else_of None' = s.Nothing
  else_of (Some' p t) = s.Then (statement_of t) s.Nothing

  -- the statements inside a statement
  pub statements_row : {m : _} → Row_of-Statement m → Statements
  statements_row end_of-Statement = s.Nothing
  statements_row (more_of-Statement t rest) = s.Then (statement_of t) (statements_row rest)

-- the statements of a list
abbrev pub statements_of : List TypedStatement → Statements
statements_of [] = s.Nothing
statements_of (t ∷ ts) = s.Then (statement_of t) (statements_of ts)

abbrev pub item_of : TypedItem → Item
item_of (i.Procedure at name body) = s.Procedure at name (statements_of body.items)
item_of (i.Alone t) = s.Alone (statement_of t)

abbrev pub program_of : TypedProgram → Program
program_of p = map item_of p.items.items
