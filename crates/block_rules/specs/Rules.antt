-- The rules U, by recursion over the syntax. `around` has the blocks around the place, the innermost first.
use Rattle.std.specs.Prelude.{not, if◌then◌else◌, List, [], ◌∷◌, ◌++◌, Option, Some, None, map}
use Rattle.abl_base.specs.declared.place.Place.{Place}
use Rattle.abl_base.specs.declared.rule.Rule.TheVariants.{U1, U2, U3, U4, U5, U6, U7}
use Rattle.bind_names.specs.declared.violation.Violation.{Violation}
use Rattle.bind_names.specs.Judged.{at, first, unless}
use Rattle.syntax_tree.specs.declared.name.Word.{Word}
use Rattle.syntax_tree.specs.declared.word.FindWhich.{FindWhich}
use Rattle.syntax_tree.specs.declared.word.FindWhich.TheVariants as which
use Rattle.syntax_tree.specs.Syntax.{Phrase, OnError, OnEndkey, RecordOption, Where, UseIndex, Opening, ForRecords, Head, Action, Leave, Next, RetryIt, Return, Definition, Variable, Parameter, Statement, Block, Choose, Define, Find, Undo, LeaveBlock, NextBlock, Statements, Nothing, Then, Item, Procedure, Alone, Program}
use Rattle.block_rules.specs.Blocks.{first_has_undo, first_is_called, first_iterates, from_label, from_undo, is_inner, one_iterates}
use Rattle.block_rules.specs.Options.{of_option, of_phrase, of_variable_option, repeats}

-- ---- labels. U1: a label that names no block around

-- LEAVE with a label
abbrev pub leave_breaks : List Head → Word → List Violation
leave_breaks around label = unless (is_inner (from_label label around)) U1 label.at

-- NEXT with a label. U4: the block does not iterate
abbrev pub next_breaks : List Head → Word → List Violation
next_breaks around label = if is_inner (from_label label around) then unless (first_iterates (from_label label around)) U4 label.at else at U1 label.at

-- U5: the label names a block, which is inside the undone one
abbrev pub inside_breaks : List Head → List Head → Word → List Violation
inside_breaks around undone label = if is_inner (from_label label around) then unless (is_inner (from_label label undone)) U5 label.at else []

-- RETRY with a label. U7: the block is not the undone one
abbrev pub retry_breaks : List Head → List Head → Word → List Violation
retry_breaks around undone label = if is_inner (from_label label around) then unless (first_is_called undone label) U7 label.at else at U1 label.at

-- ---- UNDO, in a statement and in an ON phrase

-- an action, where `undone` is undone before it. NEXT without a label means the undone block
abbrev pub action_breaks : List Head → List Head → Action → List Violation
action_breaks around undone (Leave word None) = []
action_breaks around undone (Leave word (Some label)) = leave_breaks around label ++ inside_breaks around undone label
action_breaks around undone (Next word None) = unless (first_iterates undone) U4 word
action_breaks around undone (Next word (Some label)) = next_breaks around label ++ inside_breaks around undone label
action_breaks around undone (RetryIt word None) = []
action_breaks around undone (RetryIt word (Some label)) = retry_breaks around undone label
action_breaks around undone (Return word error value) = []

abbrev pub maybe_action_breaks : List Head → List Head → Option Action → List Violation
maybe_action_breaks around undone None = []
maybe_action_breaks around undone (Some action) = action_breaks around undone action

-- the undone block
abbrev pub undone_by : List Head → Option Word → List Head
undone_by around None = from_undo around
undone_by around (Some label) = from_label label around

-- U3: the block that UNDO names does not have the undo property
abbrev pub target_breaks : List Head → Option Word → List Violation
target_breaks around None = []
target_breaks around (Some label) = if is_inner (from_label label around) then unless (first_has_undo (from_label label around)) U3 label.at else at U1 label.at

-- UNDO with a label or without, and its action
abbrev pub undo_breaks : List Head → Option Word → Option Action → List Violation
undo_breaks around label action = target_breaks around label ++ maybe_action_breaks around (undone_by around label) action

-- ---- headers. An ON phrase may name its own block

abbrev pub phrase_breaks : List Head → Phrase → List Violation
phrase_breaks around (OnError word label action) = undo_breaks around label action
phrase_breaks around (OnEndkey word label action) = undo_breaks around label action
phrase_breaks around p = []

-- each ON phrase of a header; `around` begins with the block itself
abbrev pub phrases_break : List Head → List Phrase → List Violation
phrases_break around [] = []
phrases_break around (p ∷ ps) = phrase_breaks around p ++ phrases_break around ps

-- U2: a block around has its label
abbrev pub label_breaks : List Head → Option Word → List Violation
label_breaks around None = []
label_breaks around (Some label) = unless (not (is_inner (from_label label around))) U2 label.at

-- U6 among the options of a FOR
abbrev pub opening_breaks : Opening → List Violation
opening_breaks (ForRecords word buffer options) = repeats (map of_option options)
opening_breaks o = []

abbrev pub head_breaks : List Head → Head → List Violation
head_breaks around h = label_breaks around h.label ++ (opening_breaks h.opening ++ (repeats (map of_phrase h.phrases) ++ phrases_break (h ∷ around) h.phrases))

-- ---- statements

-- U6: WHERE or USE-INDEX on FIND CURRENT
abbrev pub current_breaks : List RecordOption → List Violation
current_breaks [] = []
current_breaks (Where word e ∷ options) = at U6 word ++ current_breaks options
current_breaks (UseIndex word index ∷ options) = at U6 word ++ current_breaks options
current_breaks (o ∷ options) = current_breaks options

abbrev pub find_breaks : FindWhich → List RecordOption → List Violation
find_breaks which.Current options = repeats (map of_option options) ++ current_breaks options
find_breaks word options = repeats (map of_option options)

abbrev pub definition_breaks : Definition → List Violation
definition_breaks (Variable name kind options) = repeats (map of_variable_option options)
definition_breaks (Parameter direction word name kind options) = repeats (map of_variable_option options)
definition_breaks d = []

-- LEAVE and NEXT. Without a label LEAVE means the innermost block that iterates or else the procedure, and U4 is a NEXT with no such block
abbrev pub leaves_break : List Head → Option Word → List Violation
leaves_break around None = []
leaves_break around (Some label) = leave_breaks around label

abbrev pub nexts_break : List Head → Place → Option Word → List Violation
nexts_break around word None = unless (one_iterates around) U4 word
nexts_break around word (Some label) = next_breaks around label

abbrev mutual
  -- THE RULES U THAT A STATEMENT BREAKS
  pub statement_breaks : List Head → Statement → List Violation
  statement_breaks around (Block h body) = head_breaks around h ++ statements_break (h ∷ around) body
  statement_breaks around (Choose test x y) = statement_breaks around x ++ statements_break around y
  statement_breaks around (Define d) = definition_breaks d
  statement_breaks around (Find w buffer options) = find_breaks w options
  statement_breaks around (Undo word label action) = undo_breaks around label action
  statement_breaks around (LeaveBlock word label) = leaves_break around label
  statement_breaks around (NextBlock word label) = nexts_break around word label
  statement_breaks around t = []

  pub statements_break : List Head → Statements → List Violation
  statements_break around Nothing = []
  statements_break around (Then t ts) = statement_breaks around t ++ statements_break around ts

-- each procedure by itself
abbrev pub item_breaks : Item → List Violation
item_breaks (Procedure word name body) = statements_break [] body
item_breaks (Alone t) = statement_breaks [] t

abbrev pub program_breaks : Program → List Violation
program_breaks [] = []
program_breaks (i ∷ is) = item_breaks i ++ program_breaks is

-- THE FIRST RULE U THAT A SOURCE BREAKS
abbrev pub first_broken : Program → Option Violation
first_broken p = first (program_breaks p)
