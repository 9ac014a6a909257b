-- The code of statements.
use Rattle.std.proofs.Common.{◌≡◌, ℕ, ◌<◌, List, [], ◌∷◌, ◌++◌, length, refl, sym, ap, ◌∙◌, subst, rules, map}
use Rattle.std.specs.Prelude.{true, reverse, Vec, Box, Result, Ok, Err, IfOk}
use Rattle.std.specs.declared.alloc.Global.{Global}
use Rattle.std.proofs.lemmas.List.{reverse-append, reverse-reverse, length-reverse}
use Rattle.std.proofs.lemmas.Iterator.{YieldsList}
use Rattle.std.proofs.lemmas.Iterator.Consumers.{YieldsList-from_shown}
use Rattle.std.specs.Iterator.Adapters.{rev_source, rev_steps}
use Rattle.std.specs.Vec.Iter.{into_iter_items, into_iter_steps_back}
use mathlib.Core.Former.{Count, none_left, one_more}
use Rattle.bound_tree.specs.declared.block.Header.{Header as SourceHeader}
use Rattle.bound_tree.specs.declared.expression.Expr.{Expr as SourceExpr}
use Rattle.bound_tree.specs.declared.statement.Stmt.{Stmt as SourceStmt, Row_of-Stmt, end_of-Stmt, more_of-Stmt, items-the_row-Stmt}
use Rattle.bound_tree.specs.declared.statement.Stmt.TheVariants as stmt
use Rattle.bound_tree.specs.declared.statement.Stmt.TheViews as view
use Rattle.bound_tree.specs.declared.statement.Stmt.TheViews.{the_lemmas}
use Rattle.bound_tree.specs.Tree.{Expr, Header, Stmt, Inner, Choose, Body, Then}
use Rattle.bound_tree.specs.Bound.{expr_of, header_of, stmt_of, body_of, row_of}
use Rattle.flat_machine.specs.Code.{before, IsSimple}
use Rattle.flat_machine.specs.Code as flat
use Rattle.flat_machine.specs.Written.{tree_at, NamesBelow, DenotesNext}
use Rattle.flat_machine.proofs.Written.{opens_next, tests_next, plain_next}
use Rattle.block_code.specs.declared.code.Instr.{Instr}
use Rattle.block_code.specs.declared.code.Instr.TheVariants as instr
use Rattle.block_code.specs.Code.{instr_of, is_simple}
use Rattle.block_code.specs.Emitted.{Emitted, EmittedBody, EmittedStmt}
use Rattle.block_code.proofs.Grows.{before_nothing, stays, below_later, end_stays, grown_further, grown_one, emitted_then}

-- the statements inside a statement are the list that its Vec has
pub row_is : (n : Count) (k : Row_of-Stmt n) → row_of k ≡ body_of (items-the_row-Stmt n k)
row_is none_left end_of-Stmt = refl
row_is (one_more n) (more_of-Stmt t rest) = ap (λ b. Then (stmt_of t) b) (row_is n rest)

pub block_is : (h : Box SourceHeader Global) (v : Vec SourceStmt Global) → stmt_of (view.Block h v) ≡ Inner (header_of h.value) (body_of v.items)
block_is h v = search (rules, the_lemmas, row_is)

pub if_is : (e : SourceExpr) (v w : Vec SourceStmt Global) → stmt_of (view.If e v w) ≡ Choose (expr_of e) (body_of v.items) (body_of w.items)
if_is e v w = search (rules, the_lemmas, row_is)

-- a simple statement denotes one
pub simple_is : (t : SourceStmt) → is_simple t ≡ true → IsSimple (stmt_of t)
simple_is (stmt.Block' header shape body) e = absurd (cc)
simple_is (stmt.If' test shape one shape' other) e = absurd (cc)
simple_is (stmt.Assign a b) e = tt
simple_is (stmt.Find a b c d) e = tt
simple_is (stmt.FindCurrent a b c) e = tt
simple_is (stmt.Create a b) e = tt
simple_is (stmt.Delete a b) e = tt
simple_is (stmt.Release a b) e = tt
simple_is (stmt.Undo a b) e = tt
simple_is (stmt.Leave a) e = tt
simple_is (stmt.Next a) e = tt
simple_is (stmt.Return a) e = tt
simple_is (stmt.ReturnError a b) e = tt
simple_is stmt.Stop e = tt
simple_is (stmt.Run a b c) e = tt
simple_is (stmt.Import a b c) e = tt
simple_is (stmt.Export a b) e = tt
simple_is (stmt.ExportRecord a b) e = tt
simple_is (stmt.Put a b) e = tt
simple_is (stmt.Message a) e = tt
simple_is (stmt.OutputTo a b c) e = tt
simple_is (stmt.OutputClose a) e = tt
simple_is (stmt.InputFrom a b) e = tt
simple_is (stmt.InputClose a) e = tt

-- ---- one statement

pub simple_emitted : (old new : List Instr) (stmt : SourceStmt) (next : ℕ) → IsSimple (stmt_of stmt) → new ≡ old ++ instr.Simple stmt next ∷ [] → EmittedStmt old new stmt next (length old)
simple_emitted old new stmt next simple is = λ ts enc h lt. grown_one old new (instr.Simple stmt next) ts (Then (stmt_of stmt) (tree_at ts next)) is enc lt (plain_next ts (stmt_of stmt) next simple lt)

pub block_emitted : (old mid new : List Instr) (i : Instr) (h : Header) (b : Body) (body next : ℕ) → Emitted old mid (before b) 0 body → new ≡ mid ++ i ∷ [] → instr_of i ≡ flat.Opens h body next → Emitted old new (λ rest. Then (Inner h b) rest) next (length mid)
block_emitted old mid new i h b body next p is kind = λ ts enc e lt.
    let x = p ts enc e e.some in
    let ts1 = ts ++ x.grown.later in
    let low : next < length ts1 = below_later ts x.grown.later next lt in
    let body_is : tree_at ts1 body ≡ b = x.body_is ∙ ap (before b) e.end ∙ before_nothing b in
    let next_is : tree_at ts1 next ≡ tree_at ts next = stays ts x.grown.later next lt in
    let y = grown_one mid new i ts1 (Then (Inner h (tree_at ts1 body)) (tree_at ts1 next)) is x.grown.encodes (subst (λ z. NamesBelow (length ts1) z) (sym kind) (x.below, low)) (subst (λ z. DenotesNext ts1 (Then (Inner h (tree_at ts1 body)) (tree_at ts1 next)) z) (sym kind) (opens_next ts1 h body next x.below low)) in
    grown_further old mid new ts (length mid) (Then (Inner h (tree_at ts1 body)) (tree_at ts1 next)) (Then (Inner h b) (tree_at ts next)) x.grown y (ap (λ z. Then (Inner h z) (tree_at ts1 next)) body_is ∙ ap (λ z. Then (Inner h b) z) next_is)

pub if_emitted : (old mid far new : List Instr) (i : Instr) (test : Expr) (b1 b2 : Body) (one other next : ℕ) → Emitted old mid (before b1) next one → Emitted mid far (before b2) next other → new ≡ far ++ i ∷ [] → instr_of i ≡ flat.Tests test one other → Emitted old new (λ rest. Then (Choose test b1 b2) rest) next (length far)
if_emitted old mid far new i test b1 b2 one other next p q is kind = λ ts enc e lt.
    let x = p ts enc e lt in
    let ts1 = ts ++ x.grown.later in
    let low : next < length ts1 = below_later ts x.grown.later next lt in
    let y = q ts1 x.grown.encodes (end_stays ts x.grown.later e) low in
    let ts2 = ts1 ++ y.grown.later in
    let rest = tree_at ts next in
    let all = Then (Choose test b1 b2) rest in
    let one_is : tree_at ts2 one ≡ before b1 rest = stays ts1 y.grown.later one x.below ∙ x.body_is in
    let other_is : tree_at ts2 other ≡ before b2 rest = y.body_is ∙ ap (before b2) (stays ts x.grown.later next lt) in
    let one_low : one < length ts2 = below_later ts1 y.grown.later one x.below in
    let z = grown_one far new i ts2 all is y.grown.encodes (subst (λ k. NamesBelow (length ts2) k) (sym kind) (one_low, y.below)) (subst (λ k. DenotesNext ts2 all k) (sym kind) (tests_next ts2 test b1 b2 rest one other one_low y.below one_is other_is)) in
    grown_further old mid new ts (length far) all all x.grown (grown_further mid far new ts1 (length far) all all y.grown z refl) refl

-- ---- one more statement, before those that were written

pub one_more_emitted : (a b c : List Instr) (ys : List SourceStmt) (s : SourceStmt) (next mid place : ℕ) → EmittedBody a b (reverse ys) next mid → EmittedStmt b c s mid place → EmittedBody a c (reverse (ys ++ s ∷ [])) next place
one_more_emitted a b c ys s next mid place p q =
    subst (λ zs. EmittedBody a c zs next place) (sym (reverse-append ys (s ∷ [])))
    (emitted_then a b c (before (body_of (reverse ys))) (λ r. Then (stmt_of s) r) next mid place p q)

-- ---- the result of a push

pub if_ok : {E : Type 0} (r : Result ℕ E) (n : ℕ) (Q : Type 0) (P : ℕ → Type 0) → IfOk r (λ place. (place ≡ n) × Q) → (Q → P n) → IfOk r P
if_ok (Ok place) n Q P is f = subst P (sym is.0) (f is.1)
if_ok (Err e) n Q P is f = tt

pub stmt_is : (old new : List Instr) (s : Stmt) (stmt : SourceStmt) (next place : ℕ) → stmt_of stmt ≡ s → Emitted old new (λ rest. Then s rest) next place → EmittedStmt old new stmt next place
stmt_is old new s stmt next place is p = subst (λ x. Emitted old new (λ rest. Then x rest) next place) (sym is) p

-- ---- the statements of a Vec from the last one

pub map_same : {A : Type 0} (xs : List A) → map (λ x. x) xs ≡ xs
map_same [] = refl
map_same (x ∷ xs) = ap (λ ys. x ∷ ys) (map_same xs)

pub from_rev_vec : {A Z : Type 0} {s : _} (xs : List A) → into_iter_items {X = A} {Z = Z} (rev_source s) ≡ xs → YieldsList (rev_steps (into_iter_steps_back {X = A} {Z = Z})) (λ x. x) s (reverse xs)
from_rev_vec {A} {Z} {s} xs e = subst (λ k. YieldsList (rev_steps (into_iter_steps_back {X = A} {Z = Z})) (λ x. x) s (reverse k)) e
    (YieldsList-from_shown (rev_steps (into_iter_steps_back {X = A} {Z = Z})) (λ x. x) (λ u. reverse (into_iter_items (rev_source u)))
    (λ u t p. length-reverse (into_iter_items (rev_source u)) ∙ sym ((rev_source u).rest.ok.0) ∙ p.0)
    (λ u x t p. ap reverse p ∙ reverse-append (into_iter_items (rev_source t)) (x ∷ [])) s)

pub all_emitted : (a b : List Instr) (ys xs : List SourceStmt) (next place : ℕ) → map (λ y. y) ys ≡ reverse xs → EmittedBody a b (reverse ys) next place → EmittedBody a b xs next place
all_emitted a b ys xs next place e p = subst (λ zs. EmittedBody a b zs next place) (ap reverse (sym (map_same ys) ∙ e) ∙ reverse-reverse xs) p
