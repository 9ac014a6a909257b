-- What the external procedure has defined stays the same in an internal one.
use Rattle.std.proofs.Common.{◌≡◌, ℕ, List, Bool, Option, Some, None, refl, ◌∙◌}
use Rattle.syntax_tree.specs.Syntax as s
use Rattle.syntax_tree.specs.Syntax.{Statement, Statements}
use Rattle.syntax_tree.specs.declared.name.Word.{Word}
use Rattle.bind_names.specs.Names.{Scene}
use Rattle.bind_expressions.specs.Parts.{scene_after}
use Rattle.bind_statements.specs.Definitions.{buffer_for, define}
use Rattle.bind_statements.specs.Runs.{run_numbered}
use Rattle.bind_blocks.specs.Headers.{inside}
use Rattle.binder.specs.Statements.{statement, statements}

buffer_keeps : (w : Scene) (name table : Word) (t : Option ℕ) → (buffer_for w name table t).is.after.outer ≡ w.known.outer
buffer_keeps w name table None = refl
buffer_keeps w name table (Some t) = refl

definition_keeps : (w : Scene) (d : s.Definition) → (define w d).is.after.outer ≡ w.known.outer
definition_keeps w (s.Variable name k os) = refl
definition_keeps w (s.Parameter direction at name k os) = refl
definition_keeps w (s.Buffer name table) = buffer_keeps w name table _
definition_keeps w (s.Stream name) = refl

run_keeps : (w : Scene) (name : Word) (as_ : List s.Argument) (quiet : Bool) (p : Option ℕ) → (run_numbered w name as_ quiet p).is.after.outer ≡ w.known.outer
run_keeps w name as_ quiet None = refl
run_keeps w name as_ quiet (Some p) = refl

mutual
  statement_keeps : (w : Scene) (t : Statement) → (statement w t).is.after.outer ≡ w.known.outer
  statement_keeps w (s.Block h body) = keeps_outer (inside h w) body
  statement_keeps w (s.Choose test then_it else_it) = keeps_outer (scene_after w (statement w then_it).is.after) else_it ∙ statement_keeps w then_it
  statement_keeps w (s.Define d) = definition_keeps w d
  statement_keeps w (s.Assign ps quiet) = refl
  statement_keeps w (s.Find word x os) = refl
  statement_keeps w (s.Create x quiet) = refl
  statement_keeps w (s.Delete x quiet) = refl
  statement_keeps w (s.Release x quiet) = refl
  statement_keeps w (s.Undo at label act) = refl
  statement_keeps w (s.LeaveBlock at label) = refl
  statement_keeps w (s.NextBlock at label) = refl
  statement_keeps w (s.ReturnIt at error e) = refl
  statement_keeps w s.Stop = refl
  statement_keeps w (s.Run name as_ quiet) = run_keeps w name as_ quiet _
  statement_keeps w (s.Import name targets quiet) = refl
  statement_keeps w (s.Export name es) = refl
  statement_keeps w (s.Put name plain items) = refl
  statement_keeps w (s.Message es) = refl
  statement_keeps w (s.InputFrom name None) = refl
  statement_keeps w (s.InputFrom name (Some file)) = refl
  statement_keeps w (s.OutputTo name None append) = refl
  statement_keeps w (s.OutputTo name (Some file) append) = refl

  pub keeps_outer : (w : Scene) (ts : Statements) → (statements w ts).is.after.outer ≡ w.known.outer
  keeps_outer w s.Nothing = refl
  keeps_outer w (s.Then t ts) = keeps_outer (scene_after w (statement w t).is.after) ts ∙ statement_keeps w t
