-- Worked trees, with the source text that each is bound from; and trees that no source is bound to.
use Rattle.std.specs.Prelude.{◌≡◌, Bool, true, false, List, [], ◌∷◌, Some, None, codes, pos, refl}
use Rattle.abl_base.specs.declared.value.Kind.{Kind}
use Rattle.abl_base.specs.declared.value.Kind.TheVariants as kind
use Rattle.abl_base.specs.declared.value.Value.TheVariants as value
use Rattle.abl_values.specs.Masks.{mask_is_for}
use Rattle.abl_values.specs.Schema.{SchemaData}
use Rattle.bound_tree.specs.declared.block.BlockKind.TheVariants as block_kind
use Rattle.bound_tree.specs.declared.block.LockWanted.TheVariants as lock
use Rattle.bound_tree.specs.declared.expression.Binary.TheVariants as two
use Rattle.bound_tree.specs.declared.expression.Variable.{Variable}
use Rattle.bound_tree.specs.declared.procedure.BufferDef.{BufferDef}
use Rattle.bound_tree.specs.declared.statement.FindWord.TheVariants as find_word
use Rattle.bound_tree.specs.declared.statement.Target.TheVariants as target
use Rattle.bound_tree.specs.Tree as b
use Rattle.bound_tree.specs.Tree.{Body, Expr, Header, Procedure, Source, Stmt, start_of_source}
use Rattle.kind_laws.specs.bound_kinds.WellKinded.{VariableKinds, is_masked, is_well_kinded}

-- table customer, fields num integer and name character, unique primary index num
abbrev shop : SchemaData
shop = record {
  tables = (record {
    name = codes "customer";
    fields = (record { name = codes "num"; kind = Some kind.Integer; initial = value.Int (pos 0); mandatory = false; mask = codes "->,>>>,>>9" })
        ∷ (record { name = codes "name"; kind = Some kind.Character; initial = value.Text []; mandatory = false; mask = codes "x(8)" }) ∷ [];
    indexes = (record { name = codes "num"; unique = true; parts = (record { field = 0; descending = false }) ∷ [] }) ∷ [];
    primary = Some 0;
  }) ∷ [];
  sequences = [];
  order = true ∷ [];
}

abbrev header : Header
header = record {
  number = 0;
  kind = block_kind.Procedure;
  place = start_of_source;
  transaction = false;
  flags = record { starts = false; undo = false; retry_seen = false };
  scoped = [];
  to = None;
  while_test = None;
  fetch = None;
  on_error = None;
  on_endkey = None;
}

abbrev customer : BufferDef
customer = record { name = codes "customer"; table = 0 }

-- a procedure with the INTEGER variable i, and the INTEGER parameter a where it has one
abbrev procedure : List Variable → Body → Procedure
procedure parameters body = record {
  name = [];
  undoable = value.Int (pos 0) ∷ [];
  no_undo = [];
  buffers = customer ∷ [];
  parameters = parameters;
  header = header;
  body = body;
  references = [];
}

abbrev only : Stmt → Source
only t = record { procedures = procedure [] (b.Then t b.Nothing) ∷ []; streams = 0; outputs = []; inputs = [] }

-- one INTEGER variable, which an UNDO restores
abbrev counts : VariableKinds
counts = record { undoable = kind.Integer ∷ []; no_undo = [] }

abbrev is_good : Source → Bool
is_good = is_well_kinded shop (counts ∷ [])

abbrev i : Variable
i = record { external = false; undoable = true; number = 0; kind = kind.Integer }

abbrev num : Expr
num = b.TheField 0 0 kind.Integer

abbrev one : Expr
one = b.Literal (value.Int64 (pos 1))

abbrev x : Expr
x = b.Literal (value.Text (codes "x"))

abbrev assigns : Expr → Source
assigns e = only (b.Assign (record { target = target.Variable i; right = b.ValueOf e } ∷ []) false)

-- i = i + 1.5.  A number fits any target that is a number
a_sum_is_assigned : is_good (assigns (b.Two two.Add (b.TheVariable i) (b.Literal (value.Dec (pos 15000000000))))) ≡ true
a_sum_is_assigned = refl

-- i = "x".
a_text_is_no_number : is_good (assigns x) ≡ false
a_text_is_no_number = refl

-- i = "x" + 1.
a_text_is_not_added_to : is_good (assigns (b.Two two.Add x one)) ≡ false
a_text_is_not_added_to = refl

-- i = customer.num.  The mark of a field is its kind in the schema
a_field_is_assigned : is_good (assigns num) ≡ true
a_field_is_assigned = refl

a_field_marked_otherwise : is_good (assigns (b.TheField 0 1 kind.Integer)) ≡ false
a_field_marked_otherwise = refl

a_buffer_that_is_not_there : is_good (assigns (b.TheField 1 0 kind.Integer)) ≡ false
a_buffer_that_is_not_there = refl

a_variable_that_is_not_there : is_good (assigns (b.TheVariable (record i { number = 1 }))) ≡ false
a_variable_that_is_not_there = refl

-- a use of i as an INTEGER and one as a DATE
two_kinds_of_one_variable : is_good (assigns (b.Two two.Add (b.TheVariable i) (b.TheVariable (record i { kind = kind.Date })))) ≡ false
two_kinds_of_one_variable = refl

-- d = d.  where d is a DATE that begins with `?`: it is a DATE, and no INTEGER
abbrev unknown_date : Kind → Source
unknown_date k = record {
  procedures = record (procedure [] (b.Then (b.Assign (record { target = target.Variable (record i { kind = k }); right = b.ValueOf (b.TheVariable (record i { kind = k })) } ∷ []) false) b.Nothing)) { undoable = value.Unknown ∷ [] } ∷ [];
  streams = 0;
  outputs = [];
  inputs = [];
}

a_date_that_begins_unknown : is_well_kinded shop (record { undoable = kind.Date ∷ []; no_undo = [] } ∷ []) (unknown_date kind.Date) ≡ true
a_date_that_begins_unknown = refl

another_kind_of_it : is_well_kinded shop (record { undoable = kind.Date ∷ []; no_undo = [] } ∷ []) (unknown_date kind.Integer) ≡ false
another_kind_of_it = refl

a_value_of_another_kind : is_well_kinded shop (record { undoable = kind.Date ∷ []; no_undo = [] } ∷ []) (assigns one) ≡ false
a_value_of_another_kind = refl

-- i = IF yes THEN 1 ELSE 1.5.  The mark of IF is DECIMAL, as one branch is
abbrev chooses : Kind → Expr
chooses k = b.IfElse (b.Literal (value.Logical true)) one (b.Literal (value.Dec (pos 15000000000))) (Some k)

the_mark_of_if : is_good (assigns (chooses kind.Decimal)) ≡ true
the_mark_of_if = refl

another_mark_of_if : is_good (assigns (chooses kind.Int64)) ≡ false
another_mark_of_if = refl

-- FIND FIRST customer WHERE customer.num = 1.  Its bracket has a value for the INTEGER component
abbrev finds : List b.BracketValue → Expr → Source
finds bracket test = only (b.Find find_word.First (record { buffer = 0; index = Some 0; bracket = bracket; test = Some test; lock = lock.Share }) true false)

a_bracket : is_good (finds (record { kind = kind.Integer; value = one } ∷ []) (b.Two two.Equal num one)) ≡ true
a_bracket = refl

a_text_in_a_bracket : is_good (finds (record { kind = kind.Integer; value = x } ∷ []) (b.Two two.Equal num one)) ≡ false
a_text_in_a_bracket = refl

a_value_beyond_the_index : is_good (finds (record { kind = kind.Integer; value = one } ∷ record { kind = kind.Character; value = x } ∷ []) (b.Two two.Equal num one)) ≡ false
a_value_beyond_the_index = refl

a_where_that_is_a_number : is_good (finds [] num) ≡ false
a_where_that_is_a_number = refl

-- PUT i FORMAT "x(3)".
a_mask_for_texts : is_good (only (b.PutItems 0 (b.Shows (b.TheVariable i) (Some (codes "x(3)")) ∷ []))) ≡ false
unfolding mask_is_for
a_mask_for_texts = refl

-- PUT i.
the_mask_of_the_variable : is_good (only (b.PutItems 0 (b.Shows (b.TheVariable i) (Some (codes "->,>>>,>>9")) ∷ []))) ≡ true
unfolding mask_is_for
the_mask_of_the_variable = refl

-- RETURN 1.
a_number_is_returned : is_good (only (b.Return (Some one))) ≡ false
a_number_is_returned = refl

-- RUN p(..).  with PROCEDURE p: DEFINE INPUT PARAMETER a AS INTEGER.
abbrev runs : List b.Argument → Source
runs as_ = record { procedures = procedure [] (b.Then (b.Run 1 as_ false) b.Nothing) ∷ procedure (i ∷ []) b.Nothing ∷ []; streams = 0; outputs = []; inputs = [] }

an_argument : is_well_kinded shop (counts ∷ counts ∷ []) (runs (b.In one ∷ [])) ≡ true
an_argument = refl

an_argument_of_another_kind : is_well_kinded shop (counts ∷ counts ∷ []) (runs (b.In x ∷ [])) ≡ false
an_argument_of_another_kind = refl

one_argument_too_few : is_well_kinded shop (counts ∷ counts ∷ []) (runs []) ≡ false
one_argument_too_few = refl

-- the masks of the schema
masks_of_the_schema : is_masked shop ≡ true
unfolding mask_is_for
masks_of_the_schema = refl
