-- Which blocks name RETRY outside inner blocks with the undo property. RETRY in the first value of TO and in BY is that of the block around, since both
-- are evaluated before the first iteration. In the rest of a header, and in the RETURN of an action, it is that of the block in which the text is.
use Rattle.std.specs.Prelude.{Bool, true, false, not, ◌&&◌, ◌||◌, List, Option, Some, None}
use Rattle.std.specs.List.{list_any}
use Rattle.bound_tree.specs.Tree.{Expr, One, Two, Three, Both, Either, IfElse, Masked, Retry, Action, ThenReturn, OnPhrase, Reading, Fetch, ToPhrase, Header, Right, ValueOf, Assignment, Argument, In, Item, Shows, Stmt, Inner, Choose, Assign, Find, FindCurrent, UndoBlock, Return, ReturnError, Run, Export, PutItems, Message, Body, Nothing, Then}
use Rattle.txn_infer.specs.Undo.{has_undo}

-- the expression names RETRY
abbrev pub asks_retry : Expr → Bool
asks_retry Retry = true
asks_retry (One op a) = asks_retry a
asks_retry (Two op a b) = asks_retry a || asks_retry b
asks_retry (Three op a b c) = asks_retry a || (asks_retry b || asks_retry c)
asks_retry (Both a b) = asks_retry a || asks_retry b
asks_retry (Either a b) = asks_retry a || asks_retry b
asks_retry (IfElse t a b k) = asks_retry t || (asks_retry a || asks_retry b)
asks_retry (Masked a mask) = asks_retry a
asks_retry e = false

abbrev pub maybe_retry : Option Expr → Bool
maybe_retry None = false
maybe_retry (Some e) = asks_retry e

abbrev pub right_retry : Right → Bool
right_retry (ValueOf e) = asks_retry e
right_retry r = false

abbrev pub argument_retry : Argument → Bool
argument_retry (In e) = asks_retry e
argument_retry x = false

abbrev pub item_retry : Item → Bool
item_retry (Shows e mask) = asks_retry e
item_retry x = false

-- in the RETURN of an action
abbrev pub action_retry : Action → Bool
action_retry (ThenReturn error e) = maybe_retry e
action_retry a = false

abbrev pub on_retry : Option OnPhrase → Bool
on_retry None = false
on_retry (Some on) = action_retry on.action

-- in WHERE; the values of the bracket are parts of it
abbrev pub reading_retry : Reading → Bool
reading_retry r = maybe_retry r.test

abbrev pub fetch_retry : Option Fetch → Bool
fetch_retry None = false
fetch_retry (Some f) = reading_retry f.reading

-- in the first value of TO, or in BY
abbrev pub start_retry : Option ToPhrase → Bool
start_retry None = false
start_retry (Some x) = asks_retry x.start || maybe_retry x.by

-- in the end value of TO
abbrev pub end_retry : Option ToPhrase → Bool
end_retry None = false
end_retry (Some x) = asks_retry x.end

-- where a header names RETRY, and it is that of the block itself
abbrev pub header_retry : Header → Bool
header_retry h = end_retry h.to || (maybe_retry h.while_test || (fetch_retry h.fetch || (on_retry h.on_error || on_retry h.on_endkey)))

abbrev pub any_retry : List Expr → Bool
any_retry = list_any asks_retry

abbrev pub pairs_retry : List Assignment → Bool
pairs_retry = list_any (λ (p : Assignment). right_retry p.right)

abbrev pub arguments_retry : List Argument → Bool
arguments_retry = list_any argument_retry

abbrev pub items_retry : List Item → Bool
items_retry = list_any item_retry

-- a statement names RETRY in its own expressions. IF has its condition
abbrev pub asks_itself : Stmt → Bool
asks_itself (Choose test x y) = asks_retry test
asks_itself (Assign pairs quiet) = pairs_retry pairs
asks_itself (Find word reading wait quiet) = reading_retry reading
asks_itself (FindCurrent reading wait quiet) = reading_retry reading
asks_itself (UndoBlock block a) = action_retry a
asks_itself (Return e) = maybe_retry e
asks_itself (ReturnError block e) = maybe_retry e
asks_itself (Run p arguments quiet) = arguments_retry arguments
asks_itself (Export stream es) = any_retry es
asks_itself (PutItems stream items) = items_retry items
asks_itself (Message es) = any_retry es
asks_itself t = false

-- a block names the RETRY of the block around it, where `inside` says whether its statements name RETRY
abbrev pub block_names_retry : Header → Bool → Bool
block_names_retry h inside = start_retry h.to || (not (has_undo h) && (header_retry h || inside))

abbrev mutual
  -- the statement names RETRY outside inner blocks with the undo property
  pub names_retry : Stmt → Bool
  names_retry (Inner h body) = block_names_retry h (names_retry_in body)
  names_retry (Choose test x y) = asks_retry test || (names_retry_in x || names_retry_in y)
  names_retry t = asks_itself t

  -- so does one of the statements
  pub names_retry_in : Body → Bool
  names_retry_in Nothing = false
  names_retry_in (Then t ts) = names_retry t || names_retry_in ts
