-- Statements that break no rule are well-kinded, where the surroundings are those at the end of their procedure.
use Rattle.std.proofs.Common.{◌≡◌, ℕ, true, List, [], Option, Some, None, refl, subst}
use Rattle.abl_values.specs.Schema.{table_named}
use Rattle.bound_tree.specs.Tree as b
use Rattle.bound_tree.specs.Tree.{Body}
use Rattle.syntax_tree.specs.Syntax as s
use Rattle.syntax_tree.specs.Syntax.{Statement, Statements}
use Rattle.syntax_tree.specs.declared.name.Word.{Word}
use Rattle.bind_names.specs.declared.names.Defined.{Defined}
use Rattle.bind_names.specs.declared.names.Known.{Known}
use Rattle.bind_names.specs.declared.names.NamedVariable.{NamedVariable}
use Rattle.bind_names.specs.Names.{Scene, from_outside}
use Rattle.bind_expressions.specs.Expressions.{condition}
use Rattle.bind_expressions.specs.Parts.{append, scene_after}
use Rattle.bind_statements.specs.Definitions.{buffer_for, define}
use Rattle.bind_blocks.specs.Headers.{head, inside}
use Rattle.binder.specs.Statements.{statement, statements}
use Rattle.kind_laws.specs.bound_kinds.WellKinded.{Surroundings, is_body, is_statement}
use Rattle.kind_laws.proofs.BoundKindsLemmas.Parts.{Each, Maybe, both, both_left, both_right, each_left, each_right, nil_left, nil_right}
use Rattle.kind_laws.proofs.BoundKindsLemmas.Suits.{AreGood, AreNumbered, IsGood, IsNumbered, IsOf, Suits}
use Rattle.kind_laws.proofs.BoundKindsLemmas.Marked.{condition_good}
use Rattle.kind_laws.proofs.BoundKindsLemmas.Assigned.{alone, assign_good, return_good, undo_good}
use Rattle.kind_laws.proofs.BoundKindsLemmas.Ran.{run_good}
use Rattle.kind_laws.proofs.BoundKindsLemmas.Shown.{export_good, import_good, message_good, put_good}
use Rattle.kind_laws.proofs.BoundKindsLemmas.Records.{find_good}
use Rattle.kind_laws.proofs.BoundKindsLemmas.Headed.{head_good}
use Rattle.kind_laws.proofs.BoundKindsLemmas.Grows.{Grows, IsMore, all_grow, grows}

-- what was known before is good where what is known later is
fewer_good : (x : Surroundings) (vs us : List NamedVariable) → IsMore vs us → Each (IsGood x) us → Each (IsGood x) vs
fewer_good x vs us m h = each_left (IsGood x) vs m.added (subst (Each (IsGood x)) m.is h)

pub good_before : (x : Surroundings) (k l : Known) → Grows k l → AreGood x l → AreGood x k
good_before x k l g h = record {
  own = fewer_good x k.own.variables l.own.variables g.own.variables h.own;
  outer = subst (Maybe (λ (d : Defined). Each (λ v. IsGood x (from_outside v)) d.variables)) g.outer h.outer;
}

pub appended : (x : Surroundings) (p q : Body) → is_body x p ≡ true → is_body x q ≡ true → is_body x (append p q) ≡ true
appended x b.Nothing q g h = h
appended x (b.Then t p) q g h = both (is_statement x t) _ (both_left (is_statement x t) _ g) (appended x p q (both_right (is_statement x t) _ g) h)

buffer_for_good : (x : Surroundings) (w : Scene) (name table : Word) (o : Option ℕ) → is_body x (buffer_for w name table o).is.body ≡ true
buffer_for_good x w name table None = refl
buffer_for_good x w name table (Some t) = refl

define_good : (x : Surroundings) (w : Scene) (d : s.Definition) → is_body x (define w d).is.body ≡ true
define_good x w (s.Variable name k os) = refl
define_good x w (s.Parameter direction place name k os) = refl
define_good x w (s.Buffer name table) = buffer_for_good x w name table (table_named w.context.schema table.spelling)
define_good x w (s.Stream name) = refl

abbrev at_block : (x : Surroundings) (w : Scene) (h : s.Head) → IsOf x w → IsOf x (inside h w)
at_block x w h o = record { schema = o.schema; masked = o.masked; main = o.main; others = o.others; parameters = o.parameters; match = o.match }

abbrev after : (x : Surroundings) (w : Scene) (k : Known) → IsOf x w → IsOf x (scene_after w k)
after x w k o = record { schema = o.schema; masked = o.masked; main = o.main; others = o.others; parameters = o.parameters; match = o.match }

suits : (x : Surroundings) (w : Scene) (t : Statement) → IsOf x w → AreGood x (statement w t).is.after → Suits x w
suits x w t o g = record { source = o; known = good_before x w.known (statement w t).is.after (grows w t) g }

mutual
  pub statement_good : (x : Surroundings) (w : Scene) → IsOf x w → (t : Statement) → AreGood x (statement w t).is.after → (statement w t).breaks ≡ [] → AreNumbered x w (statement w t).names → is_body x (statement w t).is.body ≡ true
  statement_good x w o (s.Block h body) g e n =
      let known = good_before x (inside h w).known (statements (inside h w) body).is.after (all_grow (inside h w) body) g in
      alone _ (both _ _
      (head_good x (inside h w) (record { source = at_block x w h o; known = known }) h (nil_left (head (inside h w) h).breaks _ e) (each_left (IsNumbered x w) (head (inside h w) h).names _ n))
      (body_good x (inside h w) (at_block x w h o) body g (nil_right (head (inside h w) h).breaks _ e) (each_right (IsNumbered x w) (head (inside h w) h).names _ n)))
  statement_good x w o (s.Choose test then_it else_it) g e n =
      let k = (statement w then_it).is.after in
      let mid = good_before x k (statements (scene_after w k) else_it).is.after (all_grow (scene_after w k) else_it) g in
      let rest = nil_right (condition w test).breaks _ e in
      let others = each_right (IsNumbered x w) (condition w test).names _ n in
      alone _ (both _ _
      (condition_good x w test (suits x w then_it o mid) (nil_left (condition w test).breaks _ e) (each_left (IsNumbered x w) (condition w test).names _ n))
      (both _ _
      (statement_good x w o then_it mid (nil_left (statement w then_it).breaks _ rest) (each_left (IsNumbered x w) (statement w then_it).names _ others))
      (body_good x (scene_after w k) (after x w k o) else_it g (nil_right (statement w then_it).breaks _ rest) (each_right (IsNumbered x w) (statement w then_it).names _ others))))
  statement_good x w o (s.Define d) g e n = define_good x w d
  statement_good x w o (s.Assign ps quiet) g e n = assign_good x w (suits x w (s.Assign ps quiet) o g) ps quiet e n
  statement_good x w o (s.Find which word os) g e n = find_good x w (suits x w (s.Find which word os) o g) which word os e n
  statement_good x w o (s.Create word quiet) g e n = refl
  statement_good x w o (s.Delete word quiet) g e n = refl
  statement_good x w o (s.Release word quiet) g e n = refl
  statement_good x w o (s.Undo place label act) g e n = undo_good x w (suits x w (s.Undo place label act) o g) label act e n
  statement_good x w o (s.LeaveBlock place label) g e n = refl
  statement_good x w o (s.NextBlock place label) g e n = refl
  statement_good x w o (s.ReturnIt place error value) g e n = return_good x w (suits x w (s.ReturnIt place error value) o g) error value e n
  statement_good x w o s.Stop g e n = refl
  statement_good x w o (s.Run name as_ quiet) g e n = run_good x w (suits x w (s.Run name as_ quiet) o g) name as_ quiet e n
  statement_good x w o (s.Import name targets quiet) g e n = import_good x w (suits x w (s.Import name targets quiet) o g) name targets quiet e n
  statement_good x w o (s.Export name es) g e n = export_good x w (suits x w (s.Export name es) o g) name es e n
  statement_good x w o (s.Put name plain items) g e n = put_good x w (suits x w (s.Put name plain items) o g) name plain items e n
  statement_good x w o (s.Message es) g e n = message_good x w (suits x w (s.Message es) o g) es e n
  statement_good x w o (s.InputFrom name None) g e n = refl
  statement_good x w o (s.InputFrom name (Some file)) g e n = refl
  statement_good x w o (s.OutputTo name None append_it) g e n = refl
  statement_good x w o (s.OutputTo name (Some file) append_it) g e n = refl

  pub body_good : (x : Surroundings) (w : Scene) → IsOf x w → (ts : Statements) → AreGood x (statements w ts).is.after → (statements w ts).breaks ≡ [] → AreNumbered x w (statements w ts).names → is_body x (statements w ts).is.body ≡ true
  body_good x w o s.Nothing g e n = refl
  body_good x w o (s.Then t ts) g e n =
      let k = (statement w t).is.after in
      let mid = good_before x k (statements (scene_after w k) ts).is.after (all_grow (scene_after w k) ts) g in
      appended x (statement w t).is.body (statements (scene_after w k) ts).is.body
      (statement_good x w o t mid (nil_left (statement w t).breaks _ e) (each_left (IsNumbered x w) (statement w t).names _ n))
      (body_good x (scene_after w k) (after x w k o) ts g (nil_right (statement w t).breaks _ e) (each_right (IsNumbered x w) (statement w t).names _ n))
