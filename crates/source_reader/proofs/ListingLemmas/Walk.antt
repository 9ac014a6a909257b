-- The walk over the tree proceeds by one statement, by one procedure, and into a block.
use Rattle.std.proofs.Common.{◌≡◌, ℕ, suc, ◌+◌, ◌<◌, List, ◌∷◌, length, get_or, drop, sym, ap, ◌∙◌, add-one}
use Rattle.std.specs.Prelude.{map, Box, Vec}
use Rattle.std.specs.declared.alloc.Global.{Global}
use Rattle.std.proofs.Math.Seq.{drop-cons}
use Rattle.bound_tree.specs.declared.block.Header.{Header}
use Rattle.bound_tree.specs.declared.expression.Expr.{Expr}
use Rattle.bound_tree.specs.declared.procedure.BufferDef.{BufferDef}
use Rattle.bound_tree.specs.declared.procedure.Procedure.{Procedure}
use Rattle.bound_tree.specs.declared.statement.Stmt.{Stmt}
use Rattle.bound_tree.specs.declared.statement.Stmt.TheViews as view
use Rattle.bound_tree.specs.Bound.{body_of, header_of, procedure_of, stmt_of}
use Rattle.txn_infer.proofs.Flagged.{block_of, if_of}
use Rattle.source_reader.specs.listing.Listing.{Lines, add, in_body, in_procedure, in_procedures, in_stmt}

here : {A : Type 0} (xs : List A) (i : ℕ) (x : A) → i < length xs → x ≡ get_or xs i x → drop i xs ≡ x ∷ drop (i + 1) xs
here {A = A} xs i x below is =
    drop-cons xs i x below ∙ ap (λ (y : A). y ∷ drop (suc i) xs) (sym is) ∙ ap (λ j. x ∷ drop j xs) (sym (add-one i))

pub next_stmt :
    (buffers : List BufferDef) (xs : List Stmt) (i : ℕ) (x : Stmt) (all before next : Lines) → i < length xs → x ≡ get_or xs i x →
    all ≡ in_body buffers before (body_of (drop i xs)) → next ≡ in_stmt buffers before (stmt_of x) → all ≡ in_body buffers next (body_of (drop (i + 1) xs))
next_stmt buffers xs i x all before next below is so_far now =
    so_far
    ∙ ap (λ ys. in_body buffers before (body_of ys)) (here xs i x below is)
    ∙ ap (λ o. in_body buffers o (body_of (drop (i + 1) xs))) (sym now)

pub next_procedure :
    (xs : List Procedure) (i : ℕ) (x : Procedure) (all before next : Lines) → i < length xs → x ≡ get_or xs i x →
    all ≡ in_procedures before (map procedure_of (drop i xs)) → next ≡ in_procedure before (procedure_of x) → all ≡ in_procedures next (map procedure_of (drop (i + 1) xs))
next_procedure xs i x all before next below is so_far now =
    so_far
    ∙ ap (λ ys. in_procedures before (map procedure_of ys)) (here xs i x below is)
    ∙ ap (λ o. in_procedures o (map procedure_of (drop (i + 1) xs))) (sym now)

-- the header of a block, and then its statements
pub into_block :
    (buffers : List BufferDef) (s : Stmt) (h : Box Header Global) (v : Vec Stmt Global) (k : Header) (body : List Stmt) (old mid new : Lines) →
    s ≡ view.Block h v → k ≡ h.value → body ≡ v.items → mid ≡ add buffers old (header_of k) → new ≡ in_body buffers mid (body_of body) → new ≡ in_stmt buffers old (stmt_of s)
into_block buffers s h v k body old mid new is same items header inside =
    inside
    ∙ ap (λ ts. in_body buffers mid (body_of ts)) items
    ∙ ap (λ m. in_body buffers m (body_of v.items)) (header ∙ ap (λ (x : Header). add buffers old (header_of x)) same)
    ∙ ap (λ t. in_stmt buffers old t) (sym (block_of h v))
    ∙ ap (λ t. in_stmt buffers old (stmt_of t)) (sym is)

-- the branches of an IF
pub into_branches :
    (buffers : List BufferDef) (s : Stmt) (test : Expr) (v w : Vec Stmt Global) (one other : List Stmt) (old mid new : Lines) →
    s ≡ view.If test v w → one ≡ v.items → other ≡ w.items → mid ≡ in_body buffers old (body_of one) → new ≡ in_body buffers mid (body_of other) → new ≡ in_stmt buffers old (stmt_of s)
into_branches buffers s test v w one other old mid new is same1 same2 first second =
    second
    ∙ ap (λ ts. in_body buffers mid (body_of ts)) same2
    ∙ ap (λ m. in_body buffers m (body_of w.items)) (first ∙ ap (λ ts. in_body buffers old (body_of ts)) same1)
    ∙ ap (λ t. in_stmt buffers old t) (sym (if_of test v w))
    ∙ ap (λ t. in_stmt buffers old (stmt_of t)) (sym is)
