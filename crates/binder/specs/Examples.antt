-- Worked rows, each with its source text.
use Rattle.std.specs.Prelude.{ℕ, Bool, ◌≡◌, true, false, List, [], ◌∷◌, Some, None, Ok, Err, codes, pos, refl}
use Rattle.abl_base.specs.declared.place.Place.{Place}
use Rattle.abl_base.specs.declared.rule.Rule.{Rule}
use Rattle.abl_base.specs.declared.rule.Rule.TheVariants as r
use Rattle.abl_base.specs.declared.value.Kind.TheVariants as kind
use Rattle.abl_base.specs.declared.value.Value.TheVariants as value
use Rattle.abl_values.specs.Schema.{SchemaData, table_named, field_named}
use Rattle.bound_tree.specs.declared.block.BlockKind.TheVariants as block_kind
use Rattle.bound_tree.specs.declared.block.LockWanted.TheVariants as lock
use Rattle.bound_tree.specs.declared.statement.FindWord.TheVariants as find_word
use Rattle.bound_tree.specs.declared.expression.Binary.TheVariants as two
use Rattle.bound_tree.specs.declared.expression.Variable.{Variable}
use Rattle.bound_tree.specs.declared.statement.Target.TheVariants as target
use Rattle.bound_tree.specs.declared.procedure.Reference.{Reference}
use Rattle.bound_tree.specs.declared.procedure.ReferenceKind.TheVariants as reference_kind
use Rattle.bound_tree.specs.Tree as b
use Rattle.syntax_tree.specs.Syntax as s
use Rattle.syntax_tree.specs.declared.name.Named.TheVariants as spelled
use Rattle.syntax_tree.specs.declared.name.Word.{Word}
use Rattle.syntax_tree.specs.Syntax.{Program, Statement}
use Rattle.syntax_tree.specs.declared.word.BlockWord.TheVariants as word
use Rattle.syntax_tree.specs.declared.word.Direction.TheVariants as direction
use Rattle.syntax_tree.specs.declared.word.FindWhich.TheVariants as which
use Rattle.bind_names.specs.declared.violation.Violation.{Violation}
use Rattle.binder.specs.Sources.{bound, violations}

abbrev place : ℕ → ℕ → Place
place line column = record { line = line; column = column }

abbrev named : List ℕ → ℕ → ℕ → Word
named spelling line column = record { spelling = spelling; at = place line column }

-- table customer, fields num integer and name character, unique primary index num
abbrev shop : SchemaData
shop = record {
  tables = (record {
    name = codes "customer";
    fields = (record { name = codes "num"; kind = Some kind.Integer; initial = value.Int (pos 0); mandatory = false; mask = codes "->,>>>,>>9" })
        ∷ (record { name = codes "name"; kind = Some kind.Character; initial = value.Text []; mandatory = false; mask = codes "x(8)" }) ∷ [];
    indexes = (record { name = codes "num"; unique = true; parts = (record { field = 0; descending = false }) ∷ [] }) ∷ [];
    primary = Some 0;
  }) ∷ [];
  sequences = [];
  order = true ∷ [];
}

abbrev breaks : Rule → ℕ → ℕ → Violation
breaks rule line column = record { rule = rule; place = place line column }

-- i = "x" + zz.  with i INTEGER: Y1 at zz and nothing more
abbrev unknown_name : Program
unknown_name =
    s.Alone (s.Define (s.Variable (named (codes "i") 1 17) kind.Integer []))
    ∷ s.Alone (s.Assign (record { target = spelled.Plain (named (codes "i") 2 1); right = s.ValueOf (s.Two two.Add (place 2 9) (s.Literal (value.Text (codes "x")) (place 2 5)) (s.Name (spelled.Plain (named (codes "zz") 2 11)))) } ∷ []) false)
    ∷ []

pub a_name_at_fault_breaks_nothing_more : violations shop unknown_name ≡ breaks r.Y1 2 11 ∷ []
unfolding table_named field_named
a_name_at_fault_breaks_nothing_more = refl

-- i = "x" + 1.  Y4 at the operator
abbrev text_and_number : Program
text_and_number =
    s.Alone (s.Define (s.Variable (named (codes "i") 1 17) kind.Integer []))
    ∷ s.Alone (s.Assign (record { target = spelled.Plain (named (codes "i") 2 1); right = s.ValueOf (s.Two two.Add (place 2 9) (s.Literal (value.Text (codes "x")) (place 2 5)) (s.Literal (value.Int64 (pos 1)) (place 2 11))) } ∷ []) false)
    ∷ []

pub operands_that_do_not_fit : bound shop text_and_number ≡ Err (breaks r.Y4 2 9)
unfolding table_named field_named
operands_that_do_not_fit = refl

-- num = num + 1. FIND FIRST customer.   the field is known though its buffer is named later
abbrev field_before : Program
field_before =
    s.Alone (s.Assign (record { target = spelled.Plain (named (codes "num") 1 1); right = s.ValueOf (s.Two two.Add (place 1 11) (s.Name (spelled.Plain (named (codes "NUM") 1 7))) (s.Literal (value.Int64 (pos 1)) (place 1 13))) } ∷ []) false)
    ∷ s.Alone (s.Find which.First (named (codes "Customer") 2 12) [])
    ∷ []

pub a_later_naming_counts : violations shop field_before ≡ []
unfolding table_named field_named
a_later_naming_counts = refl

-- DEFINE BUFFER b FOR customer. / FIND customer. / name = "A".   two buffers have the field
abbrev two_buffers : Program
two_buffers =
    s.Alone (s.Define (s.Buffer (named (codes "b") 1 15) (named (codes "customer") 1 21)))
    ∷ s.Alone (s.Find which.Only (named (codes "customer") 2 6) [])
    ∷ s.Alone (s.Assign (record { target = spelled.Plain (named (codes "name") 3 1); right = s.ValueOf (s.Literal (value.Text (codes "A")) (place 3 8)) } ∷ []) false)
    ∷ []

pub a_field_of_two_buffers : violations shop two_buffers ≡ breaks r.Y2 3 1 ∷ []
unfolding table_named field_named
a_field_of_two_buffers = refl

-- IF 1 THEN x = 1.   two rules are broken: the one at the first place is reported
abbrev two_rules : Program
two_rules =
    s.Alone (s.Choose (s.Literal (value.Int64 (pos 1)) (place 1 4)) (s.Assign (record { target = spelled.Plain (named (codes "x") 1 11); right = s.ValueOf (s.Literal (value.Int64 (pos 1)) (place 1 15)) } ∷ []) false) s.Nothing)
    ∷ []

pub both_are_listed : violations shop two_rules ≡ breaks r.Y6 1 4 ∷ breaks r.Y1 1 11 ∷ []
unfolding table_named field_named
both_are_listed = refl

pub the_first_is_told : bound shop two_rules ≡ Err (breaks r.Y6 1 4)
unfolding table_named field_named
the_first_is_told = refl

-- FIND customer WHERE NUM = 1 AND name BEGINS "A".   the bracket of the primary index
abbrev found_by_number : Program
found_by_number =
    s.Alone (s.Find which.Only (named (codes "customer") 1 6) (s.Where (place 1 15) (s.And (place 1 29)
    (s.Two two.Equal (place 1 25) (s.Name (spelled.Plain (named (codes "NUM") 1 21))) (s.Literal (value.Int64 (pos 1)) (place 1 27)))
    (s.Two two.Begins (place 1 38) (s.Name (spelled.Plain (named (codes "name") 1 33))) (s.Literal (value.Text (codes "A")) (place 1 45)))) ∷ []))
    ∷ []

abbrev reference : ℕ → ℕ → Reference
reference line column = record { buffer = 0; kind = reference_kind.Free; block = 0; place = place line column }

pub is_read_by_its_number : bound shop found_by_number ≡ Ok (record {
  procedures = (record {
    name = [];
    undoable = [];
    no_undo = [];
    buffers = (record { name = codes "customer"; table = 0 }) ∷ [];
    parameters = [];
    header = record { number = 0; kind = block_kind.Procedure; place = b.start_of_source; transaction = false; flags = record { starts = false; undo = false; retry_seen = false }; scoped = []; to = None; while_test = None; fetch = None; on_error = None; on_endkey = None };
    body = b.Then (b.Find find_word.Only (record {
      buffer = 0;
      index = Some 0;
      bracket = (record { kind = kind.Integer; value = b.Literal (value.Int64 (pos 1)) }) ∷ [];
      test = Some (b.Both (b.Two two.Equal (b.TheField 0 0 kind.Integer) (b.Literal (value.Int64 (pos 1)))) (b.Two two.Begins (b.TheField 0 1 kind.Character) (b.Literal (value.Text (codes "A")))));
      lock = lock.Share;
    }) true false) b.Nothing;
    references = reference 1 6 ∷ reference 1 21 ∷ reference 1 33 ∷ [];
  }) ∷ [];
  streams = 0;
  outputs = [];
  inputs = [];
})
unfolding table_named field_named
is_read_by_its_number = refl

-- DEFINE VARIABLE i AS INTEGER. / PROCEDURE p: / DEFINE INPUT PARAMETER x AS INTEGER. / i = x. / END. / RUN p (INPUT 3).
-- inside, i is the external procedure's variable
abbrev with_procedure : Program
with_procedure =
    s.Alone (s.Define (s.Variable (named (codes "i") 1 17) kind.Integer []))
    ∷ s.Procedure (place 2 1) (named (codes "p") 2 11)
    (s.Then (s.Define (s.Parameter direction.Input (place 3 14) (named (codes "x") 3 24) kind.Integer []))
    (s.Then (s.Assign (record { target = spelled.Plain (named (codes "i") 4 1); right = s.ValueOf (s.Name (spelled.Plain (named (codes "x") 4 5))) } ∷ []) false) s.Nothing))
    ∷ s.Alone (s.Run (named (codes "p") 6 5) (s.Input (place 6 8) (s.Literal (value.Int64 (pos 3)) (place 6 14)) ∷ []) false)
    ∷ []

abbrev first_variable : Bool → Variable
first_variable external = record { external = external; undoable = true; number = 0; kind = kind.Integer }

-- the header of a procedure's block of this number, which begins at this place
abbrev plain_header : ℕ → Place → b.Header
plain_header number place = record { number = number; kind = block_kind.Procedure; place = place; transaction = false; flags = record { starts = false; undo = false; retry_seen = false }; scoped = []; to = None; while_test = None; fetch = None; on_error = None; on_endkey = None }

pub an_internal_procedure : bound shop with_procedure ≡ Ok (record {
  procedures =
      (record {
        name = [];
        undoable = value.Int (pos 0) ∷ [];
        no_undo = [];
        buffers = [];
        parameters = [];
        header = plain_header 0 b.start_of_source;
        body = b.Then (b.Run 1 (b.In (b.Literal (value.Int64 (pos 3))) ∷ []) false) b.Nothing;
        references = [];
      })
      ∷ (record {
        name = codes "p";
        undoable = value.Int (pos 0) ∷ [];
        no_undo = [];
        buffers = [];
        parameters = first_variable false ∷ [];
        header = plain_header 1 (place 2 1);
        body = b.Then (b.Assign (record { target = target.Variable (first_variable true); right = b.ValueOf (b.TheVariable (first_variable false)) } ∷ []) false) b.Nothing;
        references = [];
      })
      ∷ [];
  streams = 0;
  outputs = [];
  inputs = [];
})
unfolding table_named field_named
an_internal_procedure = refl

-- PROCEDURE p: / DEFINE VARIABLE i AS INTEGER. / END. / PROCEDURE P: / END. / i = 1.   the variable is unknown outside its procedure
abbrev two_procedures : Program
two_procedures =
    s.Procedure (place 1 1) (named (codes "p") 1 11) (s.Then (s.Define (s.Variable (named (codes "i") 2 17) kind.Integer [])) s.Nothing)
    ∷ s.Procedure (place 4 1) (named (codes "P") 4 11) s.Nothing
    ∷ s.Alone (s.Assign (record { target = spelled.Plain (named (codes "i") 6 1); right = s.ValueOf (s.Literal (value.Int64 (pos 1)) (place 6 5)) } ∷ []) false)
    ∷ []

pub a_procedure_ends_what_it_defines : violations shop two_procedures ≡ breaks r.Y3 4 11 ∷ breaks r.Y1 6 1 ∷ []
unfolding table_named field_named
a_procedure_ends_what_it_defines = refl

-- OUTPUT TO f. / a: DO TRANSACTION: / FIND FIRST customer. / END.   the place of a block is that of DO, and a reference has its block
abbrev in_a_block : Program
in_a_block =
    s.Alone (s.OutputTo None (Some (named (codes "f") 1 11)) false)
    ∷ s.Alone (s.Block (record { label = Some (named (codes "a") 2 1); at = place 3 1; opening = s.Plainly word.Do []; counting = None; phrases = s.Transaction (place 3 4) ∷ [] })
    (s.Then (s.Find which.First (named (codes "customer") 4 12) []) s.Nothing))
    ∷ []

pub a_block_with_its_place : bound shop in_a_block ≡ Ok (record {
  procedures = (record {
    name = [];
    undoable = [];
    no_undo = [];
    buffers = (record { name = codes "customer"; table = 0 }) ∷ [];
    parameters = [];
    header = plain_header 0 b.start_of_source;
    body = b.Then (b.OutputTo 0 0 false) (b.Then (b.Inner
        (record { number = 1; kind = block_kind.Do; place = place 3 1; transaction = true; flags = record { starts = false; undo = false; retry_seen = false }; scoped = []; to = None; while_test = None; fetch = None; on_error = None; on_endkey = None })
        (b.Then (b.Find find_word.First (record { buffer = 0; index = Some 0; bracket = []; test = None; lock = lock.Share }) true false) b.Nothing)) b.Nothing);
    references = (record { buffer = 0; kind = reference_kind.Free; block = 1; place = place 4 12 }) ∷ [];
  }) ∷ [];
  streams = 0;
  outputs = codes "f" ∷ [];
  inputs = [];
})
unfolding table_named field_named
a_block_with_its_place = refl
