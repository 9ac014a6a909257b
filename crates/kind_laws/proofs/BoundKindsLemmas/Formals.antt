-- The parameters of a procedure are those of its signature.
use Rattle.std.proofs.Common.{◌≡◌, ℕ, Bool, List, [], ◌∷◌, ◌++◌, Option, Some, None, map, refl, sym, ap, ◌∙◌, append_assoc, append-nil}
use Rattle.abl_values.specs.Schema.{number_of_name, table_named}
use Rattle.bound_tree.specs.declared.expression.Variable.{Variable}
use Rattle.syntax_tree.specs.Syntax as s
use Rattle.syntax_tree.specs.Syntax.{Statement, Statements}
use Rattle.syntax_tree.specs.declared.name.Word.{Word}
use Rattle.bind_names.specs.declared.names.Formal.{Formal}
use Rattle.bind_names.specs.declared.names.Known.{Known}
use Rattle.bind_names.specs.Names.{Scene}
use Rattle.bind_expressions.specs.Parts.{scene_after}
use Rattle.bind_statements.specs.Definitions.{buffer_for, define}
use Rattle.bind_statements.specs.Runs.{run_numbered}
use Rattle.bind_blocks.specs.Headers.{inside}
use Rattle.binder.specs.Sources.{formals_in, formals_of}
use Rattle.binder.specs.Statements.{statement, statements}
use Rattle.kind_laws.proofs.BoundKindsLemmas.Suits.{formal_kinds, kinds_of}

kinds_join : (xs ys : List Variable) → kinds_of (xs ++ ys) ≡ kinds_of xs ++ kinds_of ys
kinds_join [] ys = refl
kinds_join (x ∷ xs) ys = ap (λ l. x.kind ∷ l) (kinds_join xs ys)

formals_join : (xs ys : List Formal) → formal_kinds (xs ++ ys) ≡ formal_kinds xs ++ formal_kinds ys
formals_join [] ys = refl
formals_join (x ∷ xs) ys = ap (λ l. x.kind ∷ l) (formals_join xs ys)

-- the parameters that are known later are those known before and these
abbrev Adds : Known → Known → List Formal → Type 0
Adds k l fs = kinds_of l.own.parameters ≡ kinds_of k.own.parameters ++ formal_kinds fs

none_added : (ps : List Variable) → kinds_of ps ≡ kinds_of ps ++ []
none_added ps = sym (append-nil (kinds_of ps))

adds_then : (k l m : Known) (xs ys : List Formal) → Adds k l xs → Adds l m ys → Adds k m (xs ++ ys)
adds_then k l m xs ys g h =
    h ∙ ap (λ z. z ++ formal_kinds ys) g ∙ append_assoc (kinds_of k.own.parameters) (formal_kinds xs) (formal_kinds ys) ∙ ap (λ z. kinds_of k.own.parameters ++ z) (sym (formals_join xs ys))

buffer_adds : (w : Scene) (name table : Word) (o : Option ℕ) → Adds w.known (buffer_for w name table o).is.after []
buffer_adds w name table None = none_added w.known.own.parameters
buffer_adds w name table (Some t) = none_added w.known.own.parameters

run_adds : (w : Scene) (name : Word) (as_ : List s.Argument) (quiet : Bool) (o : Option ℕ) → Adds w.known (run_numbered w name as_ quiet o).is.after []
run_adds w name as_ quiet None = none_added w.known.own.parameters
run_adds w name as_ quiet (Some p) = none_added w.known.own.parameters

define_adds : (w : Scene) (d : s.Definition) → Adds w.known (define w d).is.after (formals_of (s.Define d))
define_adds w (s.Variable name k os) = none_added w.known.own.parameters
define_adds w (s.Parameter direction place name k os) = kinds_join w.known.own.parameters _
define_adds w (s.Buffer name table) = buffer_adds w name table (table_named w.context.schema table.spelling)
define_adds w (s.Stream name) = none_added w.known.own.parameters

mutual
  pub adds : (w : Scene) (t : Statement) → Adds w.known (statement w t).is.after (formals_of t)
  adds w (s.Block h body) = all_add (inside h w) body
  adds w (s.Choose test then_it else_it) =
      let k = (statement w then_it).is.after in
      adds_then w.known k (statements (scene_after w k) else_it).is.after (formals_of then_it) (formals_in else_it) (adds w then_it) (all_add (scene_after w k) else_it)
  adds w (s.Define d) = define_adds w d
  adds w (s.Assign ps quiet) = none_added w.known.own.parameters
  adds w (s.Find which x os) = none_added w.known.own.parameters
  adds w (s.Create x quiet) = none_added w.known.own.parameters
  adds w (s.Delete x quiet) = none_added w.known.own.parameters
  adds w (s.Release x quiet) = none_added w.known.own.parameters
  adds w (s.Undo place label act) = none_added w.known.own.parameters
  adds w (s.LeaveBlock place label) = none_added w.known.own.parameters
  adds w (s.NextBlock place label) = none_added w.known.own.parameters
  adds w (s.ReturnIt place error e) = none_added w.known.own.parameters
  adds w s.Stop = none_added w.known.own.parameters
  adds w (s.Run name as_ quiet) = run_adds w name as_ quiet (number_of_name 0 (map (λ p. p.name) w.context.procedures) name.spelling)
  adds w (s.Import name targets quiet) = none_added w.known.own.parameters
  adds w (s.Export name es) = none_added w.known.own.parameters
  adds w (s.Put name is_plain items) = none_added w.known.own.parameters
  adds w (s.Message es) = none_added w.known.own.parameters
  adds w (s.InputFrom name None) = none_added w.known.own.parameters
  adds w (s.InputFrom name (Some file)) = none_added w.known.own.parameters
  adds w (s.OutputTo name None append_it) = none_added w.known.own.parameters
  adds w (s.OutputTo name (Some file) append_it) = none_added w.known.own.parameters

  pub all_add : (w : Scene) (ts : Statements) → Adds w.known (statements w ts).is.after (formals_in ts)
  all_add w s.Nothing = none_added w.known.own.parameters
  all_add w (s.Then t ts) =
      let k = (statement w t).is.after in
      adds_then w.known k (statements (scene_after w k) ts).is.after (formals_of t) (formals_in ts) (adds w t) (all_add (scene_after w k) ts)
