-- Which bound sources are well-kinded, from the tree and the schema's tables alone: each operand fits its operator, each value its place,
-- each mask its value, and each mark of a kind is that of the field, the variable or the IF that it marks.
use Rattle.std.specs.Prelude.{ℕ, Bool, true, false, not, ◌&&◌, if◌then◌else◌, List, [], ◌∷◌, map, slice_get, slice_index_or, Option, Some, None}
use Rattle.std.specs.List.{list_all}
use Rattle.abl_base.specs.declared.value.Kind.{Kind}
use Rattle.abl_base.specs.declared.value.Kind.TheVariants.{Character}
use Rattle.abl_base.specs.declared.value.Value.{Value}
use Rattle.abl_values.specs.declared.schema.FieldDef.{FieldDef}
use Rattle.abl_values.specs.declared.schema.KeyPart.{KeyPart}
use Rattle.abl_values.specs.declared.schema.TableDef.{TableDef}
use Rattle.abl_values.specs.Masks.{mask_is_for}
use Rattle.abl_values.specs.Schema.{SchemaData, table_at, no_table, no_field, no_index}
use Rattle.bound_tree.specs.declared.expression.Variable.{Variable}
use Rattle.bound_tree.specs.declared.procedure.BufferDef.{BufferDef}
use Rattle.bound_tree.specs.declared.statement.Target.{Target}
use Rattle.bound_tree.specs.declared.statement.Target.TheVariants as target
use Rattle.bound_tree.specs.Tree as b
use Rattle.bound_tree.specs.Tree.{Expr, Action, OnPhrase, BracketValue, Reading, Fetch, ToPhrase, Header, Right, Assignment, Argument, Item, Stmt, Body, Procedure, Source}
use Rattle.bind_names.specs.declared.sort.Sort.{Sort}
use Rattle.bind_names.specs.Sorts.{same_kind, is_whole_kind, is_number_kind, may, may_be_logical, may_be_number, fits, sort_of_value, is_broken, branch_sort, if_sort, kind_in, mask_fits}
use Rattle.bind_expressions.specs.WellKinded.{sort_of}

-- the kinds of a procedure's variables by their numbers: of those that an UNDO restores, and of the NO-UNDO ones
pub record VariableKinds : Type 0 where
  pub undoable : List Kind
  pub no_undo : List Kind

-- what the statements of a procedure refer to: the schema, the procedure's buffers, the kinds of its own variables and of those of the
-- external procedure, and the parameters of each procedure of the source
pub record Surroundings : Type 0 where
  pub schema : SchemaData
  pub buffers : List BufferDef
  pub own : VariableKinds
  pub outer : VariableKinds
  pub parameters : List (List Variable)

-- ---- marks of kinds

abbrev pub is_kind : Kind → Option Kind → Bool
is_kind k None = false
is_kind k (Some l) = same_kind k l

abbrev pub is_same_mark : Option Kind → Option Kind → Bool
is_same_mark None None = true
is_same_mark None (Some k) = false
is_same_mark (Some k) other = is_kind k other

-- the table of a buffer, which has no fields where the procedure has no such buffer
abbrev pub table_of : Surroundings → ℕ → TableDef
table_of x buffer = elim (slice_get x.buffers buffer) as (λ _. TableDef) [ None ↦ no_table | Some d ↦ table_at x.schema d.table ]

-- the kind of a field of a table, where it has one
abbrev pub kind_of_field : TableDef → ℕ → Option Kind
kind_of_field t field = (slice_index_or t.fields field no_field).kind

-- the table of the buffer has this field, of this kind
abbrev pub is_field : Surroundings → ℕ → ℕ → Kind → Bool
is_field x buffer field kind = is_kind kind (kind_of_field (table_of x buffer) field)

-- the kind of a variable, where the procedure has it
abbrev pub kind_of_variable : Surroundings → Variable → Option Kind
kind_of_variable x v =
    let all = if v.external then x.outer else x.own in
    slice_get (if v.undoable then all.undoable else all.no_undo) v.number

-- the procedure has this variable, of this kind
abbrev pub is_variable : Surroundings → Variable → Bool
is_variable x v = is_kind v.kind (kind_of_variable x v)

-- each mark in an expression is right: a variable's and a field's are those of what they name, that of an IF is what its branches make
abbrev pub is_marked : Surroundings → Expr → Bool
is_marked x (b.Literal v) = true
is_marked x (b.TheVariable v) = is_variable x v
is_marked x (b.TheField buffer field kind) = is_field x buffer field kind
is_marked x (b.One op a) = is_marked x a
is_marked x (b.Two op a c) = is_marked x a && is_marked x c
is_marked x (b.Three op a c d) = is_marked x a && (is_marked x c && is_marked x d)
is_marked x (b.Both a c) = is_marked x a && is_marked x c
is_marked x (b.Either a c) = is_marked x a && is_marked x c
is_marked x (b.IfElse test a c kind) =
    (is_marked x test && (is_marked x a && is_marked x c)) && is_same_mark kind (kind_in (if_sort (sort_of test) (branch_sort (sort_of a) (sort_of c))))
is_marked x (b.Masked a mask) = is_marked x a
is_marked x (b.IsAvailable buffer) = true
is_marked x (b.IsLocked buffer) = true
is_marked x b.Retry = true
is_marked x b.ErrorStatus = true
is_marked x b.ReturnValue = true

-- ---- expressions in their places

-- the marks are right, each operand fits its operator and each mask its value, and the sort of the whole passes the test of the place
abbrev pub is_good : Surroundings → (Sort → Bool) → Expr → Bool
is_good x test e = is_marked x e && (not (is_broken (sort_of e)) && test (sort_of e))

abbrev pub is_value : Surroundings → Expr → Bool
is_value x = is_good x (λ s. true)

abbrev pub is_condition : Surroundings → Expr → Bool
is_condition x = is_good x may_be_logical

abbrev pub is_number : Surroundings → Expr → Bool
is_number x = is_good x may_be_number

-- it fits a target of the kind
abbrev pub is_for : Surroundings → Kind → Expr → Bool
is_for x kind = is_good x (λ s. fits s kind)

-- it may be shown under the mask, where there is one
abbrev pub is_shown : Surroundings → Option (List ℕ) → Expr → Bool
is_shown x None = is_value x
is_shown x (Some mask) = is_good x (mask_fits mask)

-- a part that is left out passes the test
abbrev pub if_there : {A : Type 0} → (A → Bool) → Option A → Bool
if_there test None = true
if_there test (Some a) = test a

-- ---- parts of statements

abbrev pub is_target : Surroundings → Target → Bool
is_target x (target.Variable v) = is_variable x v
is_target x (target.Field buffer field kind) = is_field x buffer field kind

abbrev pub kind_of_target : Target → Kind
kind_of_target (target.Variable v) = v.kind
kind_of_target (target.Field buffer field kind) = kind

-- the value fits the target; a sequence gives a number
abbrev pub is_right_side : Surroundings → Kind → Right → Bool
is_right_side x kind (b.ValueOf e) = is_for x kind e
is_right_side x kind (b.NextOf q) = is_number_kind kind
is_right_side x kind (b.CurrentOf q) = is_number_kind kind
is_right_side x kind (b.Given v) = fits (sort_of_value v) kind

abbrev pub is_assignment : Surroundings → Assignment → Bool
is_assignment x a = is_target x a.target && is_right_side x (kind_of_target a.target) a.right

-- the components of the index by which records are read
abbrev pub parts_of : TableDef → Option ℕ → List KeyPart
parts_of t None = []
parts_of t (Some i) = (slice_index_or t.indexes i no_index).parts

-- each value of a bracket has a component at its position, is of that component's kind, and fits it
abbrev pub is_bracket : Surroundings → TableDef → List KeyPart → List BracketValue → Bool
is_bracket x t parts [] = true
is_bracket x t [] (v ∷ vs) = false
is_bracket x t (p ∷ parts) (v ∷ vs) = (is_kind v.kind (kind_of_field t p.field) && is_for x v.kind v.value) && is_bracket x t parts vs

abbrev pub is_reading : Surroundings → Reading → Bool
is_reading x r = if_there (is_condition x) r.test && is_bracket x (table_of x r.buffer) (parts_of (table_of x r.buffer) r.index) r.bracket

-- what is returned is a text
abbrev pub is_returned : Surroundings → Option Expr → Bool
is_returned x = if_there (is_for x Character)

abbrev pub is_action : Surroundings → Action → Bool
is_action x b.ThenRetry = true
is_action x (b.ThenLeave block) = true
is_action x (b.ThenNext block) = true
is_action x (b.ThenReturn error value) = is_returned x value
is_action x b.ThenError = true

-- a loop counts in whole numbers, from a number to a number by a number
abbrev pub is_counting : Surroundings → ToPhrase → Bool
is_counting x c = (is_variable x c.variable && is_whole_kind c.variable.kind) && (is_number x c.start && (is_number x c.end && if_there (is_number x) c.by))

abbrev pub is_header : Surroundings → Header → Bool
is_header x h =
    if_there (is_counting x) h.to
    && (if_there (is_condition x) h.while_test
    && (if_there (λ f. is_reading x f.reading) h.fetch
    && (if_there (λ on. is_action x on.action) h.on_error && if_there (λ on. is_action x on.action) h.on_endkey)))

-- an INPUT argument fits its parameter; an OUTPUT or INPUT-OUTPUT one is a variable of the parameter's kind
abbrev pub is_argument : Surroundings → Variable → Argument → Bool
is_argument x p (b.In e) = is_for x p.kind e
is_argument x p (b.Out v) = is_variable x v && same_kind p.kind v.kind
is_argument x p (b.InOut v) = is_variable x v && same_kind p.kind v.kind

-- the lists have the same length, and each argument fits its parameter
abbrev pub are_arguments : Surroundings → List Variable → List Argument → Bool
are_arguments x [] [] = true
are_arguments x [] (a ∷ as_) = false
are_arguments x (p ∷ ps) [] = false
are_arguments x (p ∷ ps) (a ∷ as_) = is_argument x p a && are_arguments x ps as_

-- the procedure exists, and the arguments fit its parameters
abbrev pub is_run : Surroundings → Option (List Variable) → List Argument → Bool
is_run x None as_ = false
is_run x (Some ps) as_ = are_arguments x ps as_

abbrev pub is_item : Surroundings → Item → Bool
is_item x (b.Shows e mask) = is_shown x mask e
is_item x (b.Skips n) = true
is_item x (b.Spaces n) = true

-- ---- statements

abbrev mutual
  pub is_statement : Surroundings → Stmt → Bool
  is_statement x (b.Inner h body) = is_header x h && is_body x body
  is_statement x (b.Choose test then_it else_it) = is_condition x test && (is_body x then_it && is_body x else_it)
  is_statement x (b.Assign pairs quiet) = list_all (is_assignment x) pairs
  is_statement x (b.Find word r wait quiet) = is_reading x r
  is_statement x (b.FindCurrent r wait quiet) = is_reading x r
  is_statement x (b.Create buffer quiet) = true
  is_statement x (b.Remove buffer quiet) = true
  is_statement x (b.Release buffer quiet) = true
  is_statement x (b.UndoBlock block action) = is_action x action
  is_statement x (b.LeaveBlock block) = true
  is_statement x (b.NextBlock block) = true
  is_statement x (b.Return value) = is_returned x value
  is_statement x (b.ReturnError block value) = is_returned x value
  is_statement x b.Stop = true
  is_statement x (b.Run procedure as_ quiet) = is_run x (slice_get x.parameters procedure) as_
  is_statement x (b.Import stream targets quiet) = list_all (if_there (is_target x)) targets
  is_statement x (b.Export stream values) = list_all (is_value x) values
  is_statement x (b.ExportRecord stream buffer) = true
  is_statement x (b.PutItems stream items) = list_all (is_item x) items
  is_statement x (b.Message values) = list_all (is_value x) values
  is_statement x (b.OutputTo stream output append) = true
  is_statement x (b.OutputClose stream) = true
  is_statement x (b.InputFrom stream input) = true
  is_statement x (b.InputClose stream) = true

  pub is_body : Surroundings → Body → Bool
  is_body x b.Nothing = true
  is_body x (b.Then t ts) = is_statement x t && is_body x ts

-- ---- the whole source

-- the value is of the kind, or `?`
abbrev pub is_of_kind : Kind → Value → Bool
is_of_kind kind v = may (same_kind kind) (sort_of_value v)

-- the lists have the same length, and each value is `?` or of the kind at its position
abbrev pub are_of_kinds : List Kind → List Value → Bool
are_of_kinds [] [] = true
are_of_kinds [] (v ∷ vs) = false
are_of_kinds (k ∷ ks) [] = false
are_of_kinds (k ∷ ks) (v ∷ vs) = is_of_kind k v && are_of_kinds ks vs

abbrev pub parameters_of : List Procedure → List (List Variable)
parameters_of = map (λ q. q.parameters)

-- inside a procedure with variables of these kinds, of a source with these kinds of the external procedure and these parameters
abbrev pub inside : SchemaData → VariableKinds → List (List Variable) → VariableKinds → Procedure → Surroundings
inside schema outer parameters own q = record { schema = schema; buffers = q.buffers; own = own; outer = outer; parameters = parameters }

-- its variables begin with values of their kinds
abbrev pub begins_well : VariableKinds → Procedure → Bool
begins_well own q = are_of_kinds own.undoable q.undoable && are_of_kinds own.no_undo q.no_undo

abbrev pub is_good_procedure : Surroundings → Procedure → Bool
is_good_procedure x q = begins_well x.own q && (list_all (is_variable x) q.parameters && (is_header x q.header && is_body x q.body))

abbrev pub is_procedure : SchemaData → VariableKinds → List (List Variable) → VariableKinds → Procedure → Bool
is_procedure schema outer parameters own q = is_good_procedure (inside schema outer parameters own q) q

-- the lists have the same length, and each procedure is well-kinded with the variable kinds at its position
abbrev pub are_procedures : SchemaData → VariableKinds → List (List Variable) → List VariableKinds → List Procedure → Bool
are_procedures schema outer parameters [] [] = true
are_procedures schema outer parameters [] (q ∷ qs) = false
are_procedures schema outer parameters (own ∷ kinds) [] = false
are_procedures schema outer parameters (own ∷ kinds) (q ∷ qs) = is_procedure schema outer parameters own q && are_procedures schema outer parameters kinds qs

-- IT IS WELL-KINDED where the variables of its procedures have these kinds, the external procedure's first: one kind per variable, wherever
-- it is used
abbrev pub is_well_kinded : SchemaData → List VariableKinds → Source → Bool
is_well_kinded schema [] source = false
is_well_kinded schema (main ∷ others) source = are_procedures schema main (parameters_of source.procedures) (main ∷ others) source.procedures

-- ---- the schema

-- a field's mask is one for its kind
abbrev pub is_masked_field : FieldDef → Bool
is_masked_field f = if_there (mask_is_for f.mask) f.kind

-- each field's mask is one for its kind
abbrev pub is_masked : SchemaData → Bool
is_masked s = list_all (λ t. list_all is_masked_field t.fields) s.tables
