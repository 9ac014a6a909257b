-- Judging statements one after the other.
use Rattle.std.proofs.Common.{◌≡◌, ◌<◌, ◌+◌, ℕ, List, [], ◌∷◌, ◌++◌, length, drop, get_or, ap, sym, ◌∙◌, refl, suc, add-one, drop-cons, append_assoc, append-nil}
use Rattle.bound_tree.specs.declared.statement.Stmt.{Stmt as SourceStmt}
use Rattle.bound_tree.specs.Tree.{Body, Nothing, Then}
use Rattle.bound_tree.specs.Bound.{body_of, stmt_of}
use Rattle.syntax_tree.specs.declared.statement.Statement.{Statement as TypedStatement}
use Rattle.syntax_tree.specs.Typed.{statements_of, statement_of}
use Rattle.bind_names.specs.declared.notes.Notes.{Notes}
use Rattle.bind_names.specs.Judged.{first_of}
use Rattle.bind_names.specs.Names.{Scene}
use Rattle.bind_expressions.specs.Parts.{Done, append, scene_after}
use Rattle.binder.specs.Statements.{statement, statements}
use Rattle.bind_names.specs.Views.{IsJudged}
use Rattle.bind_names.proofs.Joined.{first_of_append}
use Rattle.binder.proofs.Choices.{append_nothing, done}

pub next_item : {A : Type 0} (xs : List A) (i : ℕ) (x : A) → i < length xs → x ≡ get_or xs i x → drop i xs ≡ x ∷ drop (i + 1) xs
next_item xs i x lt e = rw (add-one, drop-cons xs i x) (ap (λ y. y ∷ drop (suc i) xs) (sym e))

pub body_of_append : (ts us : List SourceStmt) → body_of (ts ++ us) ≡ append (body_of ts) (body_of us)
body_of_append [] us = refl
body_of_append (t ∷ ts) us = ap (λ b. Then (stmt_of t) b) (body_of_append ts us)

pub append_again : (a b c : Body) → append (append a b) c ≡ append a (append b c)
append_again Nothing b c = refl
append_again (Then t a) b c = ap (λ d. Then t d) (append_again a b c)

pub record BodyContinues (w : Scene) (all : List TypedStatement) (i : ℕ) (v : Scene) (bound : Body) (so_far begun : Notes) : Type 0 where
  pub body : append bound (statements v (statements_of (drop i all))).is.body ≡ (statements w (statements_of all)).is.body
  pub after : (statements v (statements_of (drop i all))).is.after ≡ (statements w (statements_of all)).is.after
  pub first : first_of so_far.first (statements v (statements_of (drop i all))).breaks ≡ first_of begun.first (statements w (statements_of all)).breaks
  pub names : so_far.names ++ (statements v (statements_of (drop i all))).names ≡ begun.names ++ (statements w (statements_of all)).names

pub one_more_statement : (w : Scene) (all : List TypedStatement) (i : ℕ) (x : TypedStatement) (v u : Scene) (bound made : List SourceStmt) (new : List SourceStmt) (begun n m : Notes) →
    i < length all → x ≡ get_or all i x → IsJudged (statement v (statement_of x)) (done (body_of made) u.known) n m → u ≡ scene_after v u.known → new ≡ bound ++ made →
    BodyContinues w all i v (body_of bound) n begun → BodyContinues w all (i + 1) u (body_of new) m begun
one_more_statement w all i x v u bound made new begun n m lt e j is_u is_new h =
    let d : drop i all ≡ x ∷ drop (i + 1) all = next_item all i x lt e in
    let body1 = rw d at h.body in
    let after1 = rw d at h.after in
    let first1 = rw d at h.first in
    let names1 = rw d at h.names in
    let b : body_of made ≡ (statement v (statement_of x)).is.body = ap (λ (y : Done). y.body) j.is in
    let k : u.known ≡ (statement v (statement_of x)).is.after = ap (λ (y : Done). y.after) j.is in
    let place : u ≡ scene_after v (statement v (statement_of x)).is.after = is_u ∙ ap (scene_after v) k in
    record {
      body = rw (is_new, body_of_append, place, b, append_again) body1;
      after = rw place after1;
      first = rw (place, j.first) (rw first_of_append at first1);
      names = rw (place, j.names) (rw append_assoc names1);
    }

pub drop_all : {A : Type 0} (xs : List A) → drop (length xs) xs ≡ []
drop_all [] = refl
drop_all (x ∷ xs) = drop_all xs

-- where nothing is left, all of it is judged
pub all_judged : (w : Scene) (all : List TypedStatement) (i : ℕ) (v : Scene) (bound : Body) (begun n : Notes) → i ≡ length all → BodyContinues w all i v bound n begun → IsJudged (statements w (statements_of all)) (done bound v.known) begun n
all_judged w all i v bound begun n e h =
    let d : drop i all ≡ [] = ap (λ j. drop j all) e ∙ drop_all all in
    let b : bound ≡ (statements w (statements_of all)).is.body = sym (append_nothing bound) ∙ (rw d at h.body) in
    let a : v.known ≡ (statements w (statements_of all)).is.after = rw d at h.after in
    record {
      is = rw (b, a) refl;
      first = rw d at h.first;
      names = sym (append-nil n.names) ∙ (rw d at h.names);
    }
