-- IF with its branches.
use Rattle.std.proofs.Common.{◌≡◌, refl, ap, rules, append-nil, append_assoc, ◌∙◌, subst}
use Rattle.std.specs.Prelude.{Vec}
use Rattle.std.specs.declared.alloc.Global.{Global}
use mathlib.Core.Former.{Count, none_left, one_more}
use Rattle.bound_tree.specs.declared.expression.Expr.{Expr as SourceExpr}
use Rattle.bound_tree.specs.declared.statement.Stmt.{Stmt as SourceStmt, Row_of-Stmt, end_of-Stmt, more_of-Stmt, items-the_row-Stmt}
use Rattle.bound_tree.specs.declared.statement.Stmt.TheViews as view
use Rattle.bound_tree.specs.declared.statement.Stmt.TheViews.{the_lemmas}
use Rattle.bound_tree.specs.Tree.{Body, Nothing, Then, Choose}
use Rattle.bound_tree.specs.Bound.{body_of, expr_of, row_of, stmt_of}
use Rattle.bind_names.specs.declared.names.Known.{Known}
use Rattle.bind_names.specs.declared.notes.Notes.{Notes}
use Rattle.bind_names.specs.Judged.{Judged, fine}
use Rattle.syntax_tree.specs.Syntax as s
use Rattle.syntax_tree.specs.Syntax.{Expression, Statement}
use Rattle.bind_names.specs.Names.{Scene}
use Rattle.bind_expressions.specs.Expressions.{Typed, condition}
use Rattle.bind_expressions.specs.Parts.{Done, append, scene_after}
use Rattle.binder.specs.Statements.{choose, statement, then_more}
use Rattle.bind_names.specs.Views.{IsJudged}
use Rattle.bind_names.proofs.Joined.{first_of_append}

row_is : (n : Count) (k : Row_of-Stmt n) → row_of k ≡ body_of (items-the_row-Stmt n k)
row_is none_left end_of-Stmt = refl
row_is (one_more n) (more_of-Stmt t rest) = ap (λ b. Then (stmt_of t) b) (row_is n rest)

pub choice_is : (test : SourceExpr) (v u : Vec SourceStmt Global) → stmt_of (view.If test v u) ≡ Choose (expr_of test) (body_of v.items) (body_of u.items)
choice_is test v u = search (rules, the_lemmas, row_is)

pub append_nothing : (b : Body) → append b Nothing ≡ b
append_nothing Nothing = refl
append_nothing (Then t ts) = ap (λ c. Then t c) (append_nothing ts)

abbrev pub done : Body → Known → Done
done b k = record { body = b; after = k }

pub choose_judged : (i : Judged Typed) (j k : Judged Done) (x : Typed) (a b : Body) (u v : Known) (o n m l : Notes) →
    IsJudged i x o n → IsJudged j (done a u) n m → IsJudged k (done b v) m l → IsJudged (choose i j k) (done (Then (Choose x.expr a b) Nothing) v) o l
choose_judged i j k x a b u v o n m l hi hj hk = record {
  is =
      let e : x.expr ≡ i.is.expr = ap (λ (d : Typed). d.expr) hi.is in
      let f : a ≡ j.is.body = ap (λ (d : Done). d.body) hj.is in
      let g : b ≡ k.is.body = ap (λ (d : Done). d.body) hk.is in
      let h : v ≡ k.is.after = ap (λ (d : Done). d.after) hk.is in
      rw (e, f, g, h) refl;
  first = let e = hi.first in let f = hj.first in let g = hk.first in rw (first_of_append, first_of_append) cc;
  names = let e = hi.names in let f = hj.names in let g = hk.names in rw (← append_assoc, ← append_assoc) cc;
}

-- no statement, and one statement
nothing_judged : (k u : Known) (o : Notes) → u ≡ k → IsJudged (fine (done Nothing k)) (done Nothing u) o o
nothing_judged k u o e = record { is = ap (λ (x : Known). done Nothing x) e; first = refl; names = rw append-nil refl }

alone_judged : (j : Judged Done) (b : Body) (u : Known) (o n : Notes) → IsJudged j (done b u) o n → IsJudged (then_more j (fine (done Nothing j.is.after))) (done b u) o n
alone_judged j b u o n h = record {
  is = let e = h.is in rw append_nothing e;
  first = rw append-nil h.first;
  names = rw append-nil h.names;
}

-- IF without ELSE
pub if_without_else : (w v : Scene) (all : Statement) (test : Expression) (t : Statement) → all ≡ s.Choose test t s.Nothing →
    (x : Typed) (a body : Body) (o n m : Notes) → IsJudged (condition w test) x o n → IsJudged (statement w t) (done a v.known) n m → body ≡ Then (Choose x.expr a Nothing) Nothing →
    IsJudged (statement w all) (done body v.known) o m
if_without_else w v all test t is x a body o n m hx ht e =
    rw (is, e) (choose_judged (condition w test) (statement w t) _ x a Nothing v.known v.known o n m m hx ht (nothing_judged _ v.known m (ap (λ (d : Done). d.after) ht.is)))

-- and with ELSE
pub if_with_else : (w v u : Scene) (all : Statement) (test : Expression) (t r : Statement) → all ≡ s.Choose test t (s.Then r s.Nothing) → v ≡ scene_after w v.known →
    (x : Typed) (a b body : Body) (o n m l : Notes) → IsJudged (condition w test) x o n → IsJudged (statement w t) (done a v.known) n m → IsJudged (statement v r) (done b u.known) m l →
    body ≡ Then (Choose x.expr a b) Nothing → IsJudged (statement w all) (done body u.known) o l
if_with_else w v u all test t r is is_v x a b body o n m l hx ht hr e =
    let known : v.known ≡ (statement w t).is.after = ap (λ (d : Done). d.after) ht.is in
    let place : v ≡ scene_after w (statement w t).is.after = is_v ∙ ap (scene_after w) known in
    let there : IsJudged (statement (scene_after w (statement w t).is.after) r) (done b u.known) m l = subst (λ (p : Scene). IsJudged (statement p r) (done b u.known) m l) place hr in
    rw (is, e) (choose_judged (condition w test) (statement w t) _ x a b v.known u.known o n m l hx ht (alone_judged _ b u.known m l there))
