-- What is known after a statement has all that was known before it.
use Rattle.std.proofs.Common.{◌≡◌, ℕ, map, Bool, true, false, List, [], ◌∷◌, ◌++◌, Option, Some, None, refl, sym, ◌∙◌, ap, append_assoc, append-nil}
use Rattle.std.specs.Prelude.{if◌then◌else◌}
use Rattle.abl_base.specs.declared.value.Kind.{Kind}
use Rattle.abl_values.specs.Schema.{number_of_name, table_named}
use Rattle.syntax_tree.specs.Syntax as s
use Rattle.syntax_tree.specs.Syntax.{Statement, Statements}
use Rattle.syntax_tree.specs.declared.name.Word.{Word}
use Rattle.syntax_tree.specs.declared.definition.VariableOption.{VariableOption}
use Rattle.bind_names.specs.declared.names.Defined.{Defined}
use Rattle.bind_names.specs.declared.names.Known.{Known}
use Rattle.bind_names.specs.Names.{Scene}
use Rattle.bind_expressions.specs.Parts.{scene_after}
use Rattle.bind_statements.specs.declared.definitions.Options.{Options}
use Rattle.bind_statements.specs.Definitions.{buffer_for, define, no_options, options, variable}
use Rattle.bind_statements.specs.Runs.{run_numbered}
use Rattle.bind_statements.specs.Streams.{input, output}
use Rattle.bind_blocks.specs.Headers.{inside}
use Rattle.binder.specs.Statements.{statement, statements}

-- a list and what was added to it
pub record IsMore {A : Type 0} (xs ys : List A) : Type 0 where
  pub added : List A
  pub is : ys ≡ xs ++ added

pub no_more : {A : Type 0} (xs : List A) → IsMore xs xs
no_more xs = record { added = []; is = sym (append-nil xs) }

pub more_then : {A : Type 0} (xs ys zs : List A) → IsMore xs ys → IsMore ys zs → IsMore xs zs
more_then xs ys zs g h = record { added = g.added ++ h.added; is = h.is ∙ ap (λ l. l ++ h.added) g.is ∙ append_assoc xs g.added h.added }

more_if : {A : Type 0} (c : Bool) (xs : List A) (x : A) → IsMore xs (if c then xs ++ x ∷ [] else xs)
more_if true xs x = record { added = x ∷ []; is = refl }
more_if false xs x = no_more xs

more_unless : {A : Type 0} (c : Bool) (xs : List A) (x : A) → IsMore xs (if c then xs else xs ++ x ∷ [])
more_unless true xs x = no_more xs
more_unless false xs x = record { added = x ∷ []; is = refl }

-- what a procedure has defined, and defines later
pub record DefinesMore (d e : Defined) : Type 0 where
  pub variables : IsMore d.variables e.variables
  pub undoable : IsMore d.undoable e.undoable
  pub no_undo : IsMore d.no_undo e.no_undo
  pub buffers : IsMore d.buffers e.buffers

pub defines_same : (d : Defined) → DefinesMore d d
defines_same d = record { variables = no_more d.variables; undoable = no_more d.undoable; no_undo = no_more d.no_undo; buffers = no_more d.buffers }

pub defines_then : (d e f : Defined) → DefinesMore d e → DefinesMore e f → DefinesMore d f
defines_then d e f g h = record {
  variables = more_then d.variables e.variables f.variables g.variables h.variables;
  undoable = more_then d.undoable e.undoable f.undoable g.undoable h.undoable;
  no_undo = more_then d.no_undo e.no_undo f.no_undo g.no_undo h.no_undo;
  buffers = more_then d.buffers e.buffers f.buffers g.buffers h.buffers;
}

-- the same is known of the external procedure, and more may be of one's own
pub record Grows (k l : Known) : Type 0 where
  pub own : DefinesMore k.own l.own
  pub outer : l.outer ≡ k.outer

pub grows_same : (k l : Known) → l.own ≡ k.own → l.outer ≡ k.outer → Grows k l
grows_same k l e f = record { own = go k.own l.own e; outer = f }
  where
    go : (d d' : Defined) → d' ≡ d → DefinesMore d d'
    go d d' e = rw e (defines_same d)

pub grows_then : (k l m : Known) → Grows k l → Grows l m → Grows k m
grows_then k l m g h = record { own = defines_then k.own l.own m.own g.own h.own; outer = h.outer ∙ g.outer }

variable_grows : (w : Scene) (k : Kind) (name : Word) (os : List VariableOption) (is_parameter : Bool) → Grows w.known (variable w k name os is_parameter).is.after
variable_grows w k name os is_parameter =
    let o : Options = (options k no_options os).is in
    record {
      own = record {
        variables = record { added = _; is = refl };
        undoable = more_if o.undoable w.known.own.undoable _;
        no_undo = more_unless o.undoable w.known.own.no_undo _;
        buffers = no_more w.known.own.buffers;
      };
      outer = refl;
    }

buffer_grows : (w : Scene) (name table : Word) (o : Option ℕ) → Grows w.known (buffer_for w name table o).is.after
buffer_grows w name table None = grows_same w.known w.known refl refl
buffer_grows w name table (Some t) = record {
  own = record { variables = no_more w.known.own.variables; undoable = no_more w.known.own.undoable; no_undo = no_more w.known.own.no_undo; buffers = record { added = _; is = refl } };
  outer = refl;
}

define_grows : (w : Scene) (d : s.Definition) → Grows w.known (define w d).is.after
define_grows w (s.Variable name k os) = variable_grows w k name os false
define_grows w (s.Parameter direction place name k os) = variable_grows w k name os true
define_grows w (s.Buffer name table) = buffer_grows w name table (table_named w.context.schema table.spelling)
define_grows w (s.Stream name) = record {
  own = record { variables = no_more w.known.own.variables; undoable = no_more w.known.own.undoable; no_undo = no_more w.known.own.no_undo; buffers = no_more w.known.own.buffers };
  outer = refl;
}

input_grows : (w : Scene) (name file : Option Word) → Grows w.known (input w name file).is.after
input_grows w name None = grows_same w.known _ refl refl
input_grows w name (Some file) = grows_same w.known _ refl refl

output_grows : (w : Scene) (name file : Option Word) (append_it : Bool) → Grows w.known (output w name file append_it).is.after
output_grows w name None append_it = grows_same w.known _ refl refl
output_grows w name (Some file) append_it = grows_same w.known _ refl refl

run_grows : (w : Scene) (name : Word) (as_ : List s.Argument) (quiet : Bool) (o : Option ℕ) → Grows w.known (run_numbered w name as_ quiet o).is.after
run_grows w name as_ quiet None = grows_same w.known _ refl refl
run_grows w name as_ quiet (Some p) = grows_same w.known _ refl refl

mutual
  pub grows : (w : Scene) (t : Statement) → Grows w.known (statement w t).is.after
  grows w (s.Block h body) = grows_then w.known (inside h w).known (statements (inside h w) body).is.after (grows_same w.known (inside h w).known refl refl) (all_grow (inside h w) body)
  grows w (s.Choose test then_it else_it) =
      let after = (statement w then_it).is.after in
      grows_then w.known after (statements (scene_after w after) else_it).is.after (grows w then_it) (all_grow (scene_after w after) else_it)
  grows w (s.Define d) = define_grows w d
  grows w (s.Assign ps quiet) = grows_same w.known _ refl refl
  grows w (s.Find word x os) = grows_same w.known _ refl refl
  grows w (s.Create x quiet) = grows_same w.known _ refl refl
  grows w (s.Delete x quiet) = grows_same w.known _ refl refl
  grows w (s.Release x quiet) = grows_same w.known _ refl refl
  grows w (s.Undo place label act) = grows_same w.known _ refl refl
  grows w (s.LeaveBlock place label) = grows_same w.known _ refl refl
  grows w (s.NextBlock place label) = grows_same w.known _ refl refl
  grows w (s.ReturnIt place error e) = grows_same w.known _ refl refl
  grows w s.Stop = grows_same w.known _ refl refl
  grows w (s.Run name as_ quiet) = run_grows w name as_ quiet (number_of_name 0 (map (λ p. p.name) w.context.procedures) name.spelling)
  grows w (s.Import name targets quiet) = grows_same w.known _ refl refl
  grows w (s.Export name es) = grows_same w.known _ refl refl
  grows w (s.Put name plain items) = grows_same w.known _ refl refl
  grows w (s.Message es) = grows_same w.known _ refl refl
  grows w (s.InputFrom name file) = input_grows w name file
  grows w (s.OutputTo name file append_it) = output_grows w name file append_it

  pub all_grow : (w : Scene) (ts : Statements) → Grows w.known (statements w ts).is.after
  all_grow w s.Nothing = grows_same w.known w.known refl refl
  all_grow w (s.Then t ts) =
      let after = (statement w t).is.after in
      grows_then w.known after (statements (scene_after w after) ts).is.after (grows w t) (all_grow (scene_after w after) ts)
