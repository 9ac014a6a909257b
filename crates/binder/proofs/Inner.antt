-- A block of a header and the statements inside it.
use Rattle.std.proofs.Common.{◌≡◌, List, Bool, Option, map, refl, ap, sym, ◌∙◌, rules, append_assoc, subst}
use Rattle.std.specs.Prelude.{Vec, Box}
use Rattle.std.specs.declared.alloc.Global.{Global}
use mathlib.Core.Former.{Count, none_left, one_more}
use Rattle.bound_tree.specs.declared.block.Header.{Header}
use Rattle.bound_tree.specs.declared.statement.Stmt.{Stmt as SourceStmt, Row_of-Stmt, end_of-Stmt, more_of-Stmt, items-the_row-Stmt}
use Rattle.bound_tree.specs.declared.statement.Stmt.TheViews as view
use Rattle.bound_tree.specs.declared.statement.Stmt.TheViews.{the_lemmas}
use Rattle.bound_tree.specs.Tree as b
use Rattle.bound_tree.specs.Bound.{body_of, header_of, row_of, stmt_of}
use Rattle.syntax_tree.specs.declared.block.Head.{Head}
use Rattle.syntax_tree.specs.declared.statement.Statement.{Statement as TypedStatement}
use Rattle.syntax_tree.specs.declared.name.Word.{Word}
use Rattle.syntax_tree.specs.declared.statement.PutItem.{PutItem}
use Rattle.syntax_tree.specs.declared.statement.Statement.TheVariants as variant
use Rattle.syntax_tree.specs.declared.statement.Statement.TheViews as syntax
use Rattle.syntax_tree.specs.Typed.{head_of, put_item_of, statement_of, statements_of}
use Rattle.syntax_tree.proofs.Bodies.{block_is}
use Rattle.syntax_tree.specs.Syntax as s
use Rattle.bind_names.specs.declared.names.Known.{Known}
use Rattle.bind_names.specs.declared.notes.Notes.{Notes}
use Rattle.bind_names.specs.Judged.{Judged}
use Rattle.bind_names.specs.Names.{Scene}
use Rattle.bind_names.specs.Views.{IsJudged}
use Rattle.bind_names.proofs.Joined.{first_of_append}
use Rattle.bind_expressions.specs.Parts.{Done, does, scene_after}
use Rattle.bind_statements.specs.Shown.{put}
use Rattle.bind_blocks.specs.Headers.{head, inside}
use Rattle.binder.specs.Statements.{block, statement, statements}

-- ---- a block as the program has it

row_is : (n : Count) (k : Row_of-Stmt n) → row_of k ≡ body_of (items-the_row-Stmt n k)
row_is none_left end_of-Stmt = refl
row_is (one_more n) (more_of-Stmt t rest) = ap (λ c. b.Then (stmt_of t) c) (row_is n rest)

pub inner_is : (h : Box Header Global) (v : Vec SourceStmt Global) → stmt_of (view.Block h v) ≡ b.Inner (header_of h.value) (body_of v.items)
inner_is h v = search (rules, the_lemmas, row_is)

abbrev pub done : b.Body → Known → Done
done body k = record { body = body; after = k }

-- a header and the statements inside are a block
pub block_judged : (j : Judged b.Header) (k : Judged Done) (x : b.Header) (ts : b.Body) (u : Known) (o n m : Notes) → IsJudged j x o n → IsJudged k (done ts u) n m →
    IsJudged (block j k) (done (b.Then (b.Inner x ts) b.Nothing) u) o m
block_judged j k x ts u o n m hx hb = record {
  is =
      let e : ts ≡ k.is.body = ap (λ (d : Done). d.body) hb.is in
      let f : u ≡ k.is.after = ap (λ (d : Done). d.after) hb.is in
      rw (e, f, hx.is) refl;
  first = let e = hx.first in let f = hb.first in rw first_of_append cc;
  names = let e = hx.names in let f = hb.names in rw (← append_assoc) cc;
}

-- the block of a head, from the scene inside it and the one after its statements
pub block_bound : (w v u : Scene) (h : s.Head) (ts : s.Statements) (x : b.Header) (inside_it made : b.Body) (after : Known) (o n m : Notes) → v ≡ inside h w →
    IsJudged (head v h) x o n → IsJudged (statements v ts) (done inside_it u.known) n m → after ≡ u.known → made ≡ b.Then (b.Inner x inside_it) b.Nothing →
    IsJudged (block (head (inside h w) h) (statements (inside h w) ts)) (done made after) o m
block_bound w v u h ts x inside_it made after o n m is_v hx hb is_after is_made =
    let there : IsJudged (head (inside h w) h) x o n = subst (λ (p : Scene). IsJudged (head p h) x o n) is_v hx in
    let body : IsJudged (statements (inside h w) ts) (done inside_it u.known) n m = subst (λ (p : Scene). IsJudged (statements p ts) (done inside_it u.known) n m) is_v hb in
    rw (is_after, is_made) (block_judged (head (inside h w) h) (statements (inside h w) ts) x inside_it u.known o n m there body)

-- only what is known is another after the block
pub block_after : (w v u z : Scene) (h : s.Head) (after : Known) → v ≡ inside h w → u ≡ scene_after v u.known → after ≡ u.known →
    (u ≡ scene_after (inside h w) u.known → z ≡ scene_after w u.known) → z ≡ scene_after w after
block_after w v u z h after is_v is_u is_after left =
    left (is_u ∙ ap (λ (p : Scene). scene_after p u.known) is_v) ∙ ap (scene_after w) (sym is_after)

-- the statement that a block is
pub block_stands : (w : Scene) (t : TypedStatement) (h : Box Head Global) (v : Vec TypedStatement Global) (given : Head) (body : List TypedStatement) →
    t ≡ syntax.Block h v → given ≡ h.value → body ≡ v.items → (r : Done) (o n : Notes) →
    IsJudged (block (head (inside (head_of given) w) (head_of given)) (statements (inside (head_of given) w) (statements_of body))) r o n → IsJudged (statement w (statement_of t)) r o n
block_stands w t h v given body is is_given is_body r o n j =
    subst (λ (p : s.Statement). IsJudged (statement w p) r o n) (sym (ap statement_of is ∙ block_is h v)) (rw (is_given, is_body) at j)

-- PUT
pub put_stands : (w : Scene) (t : TypedStatement) (name : Option Word) (plain : Bool) (v : Vec PutItem Global) (items : List PutItem) →
    t ≡ variant.Put name plain v → items ≡ v.items → (x : b.Stmt) (body : b.Body) (o n : Notes) →
    IsJudged (put w name plain (map put_item_of items)) (does w x) o n → body ≡ b.Then x b.Nothing → IsJudged (statement w (statement_of t)) (done body w.known) o n
put_stands w t name plain v items is is_items x body o n j e = rw (is, e) (rw is_items at j)
