-- Statements, blocks and branches whose headers got their flags.
use Rattle.std.proofs.Common.{◌≡◌, List, [], ◌∷◌, Bool, ◌||◌, refl, sym, ap, ◌∙◌, rules}
use Rattle.std.specs.Prelude.{map, Vec, Box}
use Rattle.std.specs.List.{list_any}
use Rattle.std.specs.declared.alloc.Global.{Global}
use mathlib.Core.Former.{Count, none_left, one_more}
use Rattle.bound_tree.specs.declared.block.Header.{Header}
use Rattle.bound_tree.specs.declared.expression.Expr.{Expr}
use Rattle.bound_tree.specs.declared.statement.Stmt.{Stmt, Row_of-Stmt, end_of-Stmt, more_of-Stmt, items-the_row-Stmt}
use Rattle.bound_tree.specs.declared.statement.Stmt.TheViews as view
use Rattle.bound_tree.specs.declared.statement.Stmt.TheViews.{the_lemmas}
use Rattle.bound_tree.specs.Tree as tree
use Rattle.bound_tree.specs.Tree.{Inner, Choose, Nothing, Then}
use Rattle.bound_tree.specs.Bound.{expr_of, header_of, stmt_of, row_of, body_of}
use Rattle.txn_infer.specs.Updates.{block_updates, updates, updates_in}
use Rattle.txn_infer.specs.Retry.{asks_retry, block_names_retry, names_retry, names_retry_in}
use Rattle.txn_infer.specs.Flags.{flags_where, flagged_body, flagged_stmt, header_with}

-- ---- the statements of a list

-- the statements of a block are the list that its Vec has
row_is : (n : Count) (k : Row_of-Stmt n) → row_of k ≡ body_of (items-the_row-Stmt n k)
row_is none_left end_of-Stmt = refl
row_is (one_more n) (more_of-Stmt t rest) = ap (λ b. Then (stmt_of t) b) (row_is n rest)

pub block_of : (h : Box Header Global) (v : Vec Stmt Global) → stmt_of (view.Block h v) ≡ Inner (header_of h.value) (body_of v.items)
block_of h v = search (rules, the_lemmas, row_is)

pub if_of : (test : Expr) (v w : Vec Stmt Global) → stmt_of (view.If test v w) ≡ Choose (expr_of test) (body_of v.items) (body_of w.items)
if_of test v w = search (rules, the_lemmas, row_is)

-- the body of a list of statements, and of those that got their flags
to_body : List tree.Stmt → tree.Body
to_body [] = Nothing
to_body (t ∷ ts) = Then t (to_body ts)

body_is : (ts : List Stmt) → body_of ts ≡ to_body (map stmt_of ts)
unfolding to_body
body_is [] = refl
body_is (t ∷ ts) = ap (λ b. Then (stmt_of t) b) (body_is ts)

flagged_is : (ts : List tree.Stmt) → flagged_body (to_body ts) ≡ to_body (map flagged_stmt ts)
unfolding to_body
flagged_is [] = refl
flagged_is (t ∷ ts) = ap (λ b. Then (flagged_stmt t) b) (flagged_is ts)

-- each of them got its flags
pub all_flagged : (xs ys : List Stmt) → map stmt_of xs ≡ map flagged_stmt (map stmt_of ys) → body_of xs ≡ flagged_body (body_of ys)
all_flagged xs ys each = body_is xs ∙ ap to_body each ∙ sym (flagged_is (map stmt_of ys)) ∙ ap flagged_body (sym (body_is ys))

-- ---- what they do

abbrev pub any_updates : List Stmt → Bool
any_updates = list_any (λ t. updates (stmt_of t))

abbrev pub any_retries : List Stmt → Bool
any_retries = list_any (λ t. names_retry (stmt_of t))

pub updates_are : (ts : List Stmt) → updates_in (body_of ts) ≡ any_updates ts
updates_are [] = refl
updates_are (t ∷ ts) = ap (λ b. updates (stmt_of t) || b) (updates_are ts)

pub retries_are : (ts : List Stmt) → names_retry_in (body_of ts) ≡ any_retries ts
retries_are [] = refl
retries_are (t ∷ ts) = ap (λ b. names_retry (stmt_of t) || b) (retries_are ts)

-- ---- a block, and an IF. What is borrowed out of a statement is first known by a path, and then as its part

pub block_flagged :
    (s : Stmt) (k h0 h1 : Box Header Global) (h : Header) (v0 v w : Vec Stmt Global) (u r : Bool) → s ≡ view.Block h0 v → k ≡ h0 → v0 ≡ v → h ≡ k.value →
    header_of h1.value ≡ header_with (header_of h) (flags_where (header_of h) u r) → body_of w.items ≡ flagged_body (body_of v0.items) →
    u ≡ updates_in (body_of v0.items) → r ≡ names_retry_in (body_of v0.items) → stmt_of (view.Block h1 w) ≡ flagged_stmt (stmt_of s)
block_flagged s k h0 h1 h v0 v w u r is own inner same header body updating retrying =
    block_of h1 w
    ∙ ap (λ x. Inner x (body_of w.items)) (header ∙ ap (λ x. header_with (header_of x) (flags_where (header_of x) u r)) same)
    ∙ ap (λ b. Inner (header_with (header_of k.value) (flags_where (header_of k.value) u r)) b) body
    ∙ ap (λ b. Inner (header_with (header_of k.value) (flags_where (header_of k.value) b r)) (flagged_body (body_of v0.items))) updating
    ∙ ap (λ b. Inner (header_with (header_of k.value) (flags_where (header_of k.value) (updates_in (body_of v0.items)) b)) (flagged_body (body_of v0.items))) retrying
    ∙ ap flagged_stmt (sym (block_of k v0))
    ∙ ap (λ x. flagged_stmt (stmt_of (view.Block x v0))) own
    ∙ ap (λ x. flagged_stmt (stmt_of (view.Block h0 x))) inner
    ∙ ap (λ x. flagged_stmt (stmt_of x)) (sym is)

pub block_does_update :
    (s : Stmt) (k h0 : Box Header Global) (h : Header) (v0 v : Vec Stmt Global) (u result : Bool) → s ≡ view.Block h0 v → k ≡ h0 → v0 ≡ v → h ≡ k.value →
    u ≡ updates_in (body_of v0.items) → result ≡ block_updates (header_of h) u → result ≡ updates (stmt_of s)
block_does_update s k h0 h v0 v u result is own inner same updating e =
    e ∙ ap (λ x. block_updates (header_of x) u) same ∙ ap (λ b. block_updates (header_of k.value) b) updating
    ∙ ap updates (sym (block_of k v0)) ∙ ap (λ x. updates (stmt_of (view.Block x v0))) own
    ∙ ap (λ x. updates (stmt_of (view.Block h0 x))) inner ∙ ap (λ x. updates (stmt_of x)) (sym is)

pub block_does_retry :
    (s : Stmt) (k h0 : Box Header Global) (h : Header) (v0 v : Vec Stmt Global) (r result : Bool) → s ≡ view.Block h0 v → k ≡ h0 → v0 ≡ v → h ≡ k.value →
    r ≡ names_retry_in (body_of v0.items) → result ≡ block_names_retry (header_of h) r → result ≡ names_retry (stmt_of s)
block_does_retry s k h0 h v0 v r result is own inner same retrying e =
    e ∙ ap (λ x. block_names_retry (header_of x) r) same ∙ ap (λ b. block_names_retry (header_of k.value) b) retrying
    ∙ ap names_retry (sym (block_of k v0)) ∙ ap (λ x. names_retry (stmt_of (view.Block x v0))) own
    ∙ ap (λ x. names_retry (stmt_of (view.Block h0 x))) inner ∙ ap (λ x. names_retry (stmt_of x)) (sym is)

-- the parts of an IF are what they are known as
if_known :
    (s : Stmt) (a0 a : Expr) (v0 v w0 w : Vec Stmt Global) → s ≡ view.If a v w → a0 ≡ a → v0 ≡ v → w0 ≡ w →
    stmt_of s ≡ Choose (expr_of a0) (body_of v0.items) (body_of w0.items)
if_known s a0 a v0 v w0 w is test one other =
    ap stmt_of is ∙ if_of a v w
    ∙ ap (λ x. Choose (expr_of x) (body_of v.items) (body_of w.items)) (sym test)
    ∙ ap (λ x. Choose (expr_of a0) (body_of x.items) (body_of w.items)) (sym one)
    ∙ ap (λ x. Choose (expr_of a0) (body_of v0.items) (body_of x.items)) (sym other)

pub if_flagged :
    (s : Stmt) (a0 a : Expr) (v0 v v1 w0 w w1 : Vec Stmt Global) → s ≡ view.If a v w → a0 ≡ a → v0 ≡ v → w0 ≡ w →
    body_of v1.items ≡ flagged_body (body_of v0.items) → body_of w1.items ≡ flagged_body (body_of w0.items) → stmt_of (view.If a0 v1 w1) ≡ flagged_stmt (stmt_of s)
if_flagged s a0 a v0 v v1 w0 w w1 is test one other first second =
    if_of a0 v1 w1
    ∙ ap (λ x. Choose (expr_of a0) x (body_of w1.items)) first
    ∙ ap (λ x. Choose (expr_of a0) (flagged_body (body_of v0.items)) x) second
    ∙ ap flagged_stmt (sym (if_known s a0 a v0 v w0 w is test one other))

pub if_does_update :
    (s : Stmt) (a0 a : Expr) (v0 v w0 w : Vec Stmt Global) (x y both result : Bool) → s ≡ view.If a v w → a0 ≡ a → v0 ≡ v → w0 ≡ w →
    x ≡ updates_in (body_of v0.items) → y ≡ updates_in (body_of w0.items) → both ≡ x || y → result ≡ both → result ≡ updates (stmt_of s)
if_does_update s a0 a v0 v w0 w x y both result is test one other first second joins e =
    e ∙ joins ∙ ap (λ b. b || y) first ∙ ap (λ b. updates_in (body_of v0.items) || b) second
    ∙ ap updates (sym (if_known s a0 a v0 v w0 w is test one other))

pub if_does_retry :
    (s : Stmt) (a0 a : Expr) (v0 v w0 w : Vec Stmt Global) (asks x y both result : Bool) → s ≡ view.If a v w → a0 ≡ a → v0 ≡ v → w0 ≡ w →
    asks ≡ asks_retry (expr_of a0) → x ≡ names_retry_in (body_of v0.items) → y ≡ names_retry_in (body_of w0.items) → both ≡ x || y →
    result ≡ asks || both → result ≡ names_retry (stmt_of s)
if_does_retry s a0 a v0 v w0 w asks x y both result is test one other asked first second joins e =
    e ∙ ap (λ b. asks || b) joins ∙ ap (λ b. b || (x || y)) asked ∙ ap (λ b. asks_retry (expr_of a0) || (b || y)) first
    ∙ ap (λ b. asks_retry (expr_of a0) || (names_retry_in (body_of v0.items) || b)) second
    ∙ ap names_retry (sym (if_known s a0 a v0 v w0 w is test one other))
