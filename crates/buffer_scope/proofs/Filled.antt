-- Statements, blocks and branches whose headers have the buffers scoped to their blocks.
use Rattle.std.proofs.Common.{◌≡◌, ℕ, ◌+◌, ◌<◌, List, [], ◌∷◌, Option, length, get_or, drop, refl, sym, ap, ◌∙◌, subst}
use Rattle.std.specs.Prelude.{map, Vec, Box, Result, Ok, OnOk}
use Rattle.std.specs.declared.alloc.Global.{Global}
use Rattle.bound_tree.specs.declared.block.Header.{Header}
use Rattle.bound_tree.specs.declared.expression.Expr.{Expr}
use Rattle.bound_tree.specs.declared.statement.Stmt.{Stmt}
use Rattle.bound_tree.specs.declared.statement.Stmt.TheViews as view
use Rattle.bound_tree.specs.declared.procedure.Procedure.{Procedure}
use Rattle.bound_tree.specs.Tree as tree
use Rattle.bound_tree.specs.Tree.{Inner, Choose, Nothing, Then}
use Rattle.bound_tree.specs.Bound.{expr_of, header_of, procedure_of, stmt_of, body_of}
use Rattle.txn_infer.proofs.Flagged.{block_of, if_of}
use Rattle.bind_names.specs.declared.violation.Violation.{Violation}
use Rattle.buffer_scope.specs.Blocks.{Placed}
use Rattle.buffer_scope.specs.First.{first_of}
use Rattle.buffer_scope.specs.Rules.{procedure_breaks, procedures_break}
use Rattle.buffer_scope.specs.Scoped.{scoped, scoped_body, scoped_stmt}
use Rattle.buffer_scope.proofs.Joined.{first_of_append}
use Rattle.buffer_scope.proofs.Walk.{here}

-- what holds after an Ok
pub on_ok : {E P : Type 0} (r : Result (Unit {0}) E) (x : Unit {0}) → r ≡ Ok x → OnOk r P → P
on_ok {E = E} {P = P} r x is holds = subst (λ (y : Result (Unit {0}) E). OnOk y P) is holds

-- the body of a list of statements
to_body : List tree.Stmt → tree.Body
to_body [] = Nothing
to_body (t ∷ ts) = Then t (to_body ts)

body_is : (ts : List Stmt) → body_of ts ≡ to_body (map stmt_of ts)
unfolding to_body
body_is [] = refl
body_is (t ∷ ts) = ap (λ b. Then (stmt_of t) b) (body_is ts)

scoped_is : (to : ℕ → List ℕ) (ts : List tree.Stmt) → scoped_body to (to_body ts) ≡ to_body (map (scoped_stmt to) ts)
unfolding to_body
scoped_is to [] = refl
scoped_is to (t ∷ ts) = ap (λ b. Then (scoped_stmt to t) b) (scoped_is to ts)

-- each of them has them
pub all_scoped : (to : ℕ → List ℕ) (xs ys : List Stmt) → map stmt_of xs ≡ map (scoped_stmt to) (map stmt_of ys) → body_of xs ≡ scoped_body to (body_of ys)
all_scoped to xs ys each = body_is xs ∙ ap to_body each ∙ sym (scoped_is to (map stmt_of ys)) ∙ ap (scoped_body to) (sym (body_is ys))

-- a block, and an IF. What is borrowed out of a statement is first known by a path, and then as its part
pub block_scoped :
    (to : ℕ → List ℕ) (s : Stmt) (k h0 h1 : Box Header Global) (h : Header) (v0 v w : Vec Stmt Global) → s ≡ view.Block h0 v → k ≡ h0 → v0 ≡ v → h ≡ k.value →
    header_of h1.value ≡ scoped to (header_of h) → body_of w.items ≡ scoped_body to (body_of v0.items) → stmt_of (view.Block h1 w) ≡ scoped_stmt to (stmt_of s)
block_scoped to s k h0 h1 h v0 v w is own inner same header body =
    block_of h1 w
    ∙ ap (λ x. Inner x (body_of w.items)) (header ∙ ap (λ (x : Header). scoped to (header_of x)) same)
    ∙ ap (λ b. Inner (scoped to (header_of k.value)) b) body
    ∙ ap (scoped_stmt to) (sym (block_of k v0))
    ∙ ap (λ x. scoped_stmt to (stmt_of (view.Block x v0))) own
    ∙ ap (λ x. scoped_stmt to (stmt_of (view.Block h0 x))) inner
    ∙ ap (λ x. scoped_stmt to (stmt_of x)) (sym is)

-- the parts of an IF are what they are known as
if_known :
    (s : Stmt) (a0 a : Expr) (v0 v w0 w : Vec Stmt Global) → s ≡ view.If a v w → a0 ≡ a → v0 ≡ v → w0 ≡ w →
    stmt_of s ≡ Choose (expr_of a0) (body_of v0.items) (body_of w0.items)
if_known s a0 a v0 v w0 w is test one other =
    ap stmt_of is ∙ if_of a v w
    ∙ ap (λ x. Choose (expr_of x) (body_of v.items) (body_of w.items)) (sym test)
    ∙ ap (λ (x : Vec Stmt Global). Choose (expr_of a0) (body_of x.items) (body_of w.items)) (sym one)
    ∙ ap (λ (x : Vec Stmt Global). Choose (expr_of a0) (body_of v0.items) (body_of x.items)) (sym other)

pub if_scoped :
    (to : ℕ → List ℕ) (s : Stmt) (a0 a : Expr) (v0 v v1 w0 w w1 : Vec Stmt Global) →
    body_of v1.items ≡ scoped_body to (body_of v0.items) → body_of w1.items ≡ scoped_body to (body_of w0.items) →
    s ≡ view.If a v w → a0 ≡ a → v0 ≡ v → w0 ≡ w → stmt_of (view.If a0 v1 w1) ≡ scoped_stmt to (stmt_of s)
if_scoped to s a0 a v0 v v1 w0 w w1 first second is test one other =
    if_of a0 v1 w1
    ∙ ap (λ x. Choose (expr_of a0) x (body_of w1.items)) first
    ∙ ap (λ x. Choose (expr_of a0) (scoped_body to (body_of v0.items)) x) second
    ∙ ap (scoped_stmt to) (sym (if_known s a0 a v0 v w0 w is test one other))

-- one more procedure is judged
pub next_procedure :
    (blocks : List Placed) (xs : List Procedure) (i : ℕ) (x : Procedure) (all so_far next : Option Violation) → i < length xs → x ≡ get_or xs i x →
    all ≡ first_of so_far (procedures_break blocks (map procedure_of (drop i xs))) → next ≡ first_of so_far (procedure_breaks blocks (procedure_of x)) →
    all ≡ first_of next (procedures_break blocks (map procedure_of (drop (i + 1) xs)))
next_procedure blocks xs i x all so_far next below is before now =
    let rest = procedures_break blocks (map procedure_of (drop (i + 1) xs)) in
    before
    ∙ ap (λ ys. first_of so_far (procedures_break blocks (map procedure_of ys))) (here xs i x below is)
    ∙ first_of_append so_far (procedure_breaks blocks (procedure_of x)) rest
    ∙ ap (λ o. first_of o rest) (sym now)
