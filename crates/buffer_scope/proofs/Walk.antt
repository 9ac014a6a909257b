-- The walk over the syntax advances by one statement or one item, or enters a block.
use Rattle.std.proofs.Common.{◌≡◌, ℕ, suc, ◌+◌, ◌<◌, List, ◌∷◌, length, get_or, drop, sym, ap, ◌∙◌, add-one}
use Rattle.std.specs.Prelude.{map, Bool, Box, Vec}
use Rattle.std.specs.declared.alloc.Global.{Global}
use Rattle.std.proofs.Math.Seq.{drop-cons}
use Rattle.syntax_tree.specs.declared.block.Head.{Head}
use Rattle.syntax_tree.specs.declared.program.Item.{Item}
use Rattle.syntax_tree.specs.declared.statement.Statement.{Statement}
use Rattle.syntax_tree.specs.declared.statement.Statement.TheViews as view
use Rattle.syntax_tree.specs.Typed.{item_of, opening_of, statement_of, statements_of}
use Rattle.syntax_tree.proofs.Bodies.{block_is}
use Rattle.buffer_scope.specs.Blocks.{Placed, may_scope, one_more, through, through_all, through_item, through_items}

pub here : {A : Type 0} (xs : List A) (i : ℕ) (x : A) → i < length xs → x ≡ get_or xs i x → drop i xs ≡ x ∷ drop (i + 1) xs
here {A = A} xs i x below is =
    drop-cons xs i x below ∙ ap (λ (y : A). y ∷ drop (suc i) xs) (sym is) ∙ ap (λ j. x ∷ drop j xs) (sym (add-one i))

pub next_statement :
    (outer : List ℕ) (xs : List Statement) (i : ℕ) (x : Statement) (all before next : List Placed) → i < length xs → x ≡ get_or xs i x →
    all ≡ through_all outer before (statements_of (drop i xs)) → next ≡ through outer before (statement_of x) →
    all ≡ through_all outer next (statements_of (drop (i + 1) xs))
next_statement outer xs i x all before next below is so_far now =
    so_far
    ∙ ap (λ ys. through_all outer before (statements_of ys)) (here xs i x below is)
    ∙ ap (λ o. through_all outer o (statements_of (drop (i + 1) xs))) (sym now)

pub next_item :
    (xs : List Item) (i : ℕ) (x : Item) (all before next : List Placed) → i < length xs → x ≡ get_or xs i x →
    all ≡ through_items before (map item_of (drop i xs)) → next ≡ through_item before (item_of x) →
    all ≡ through_items next (map item_of (drop (i + 1) xs))
next_item xs i x all before next below is so_far now =
    so_far
    ∙ ap (λ ys. through_items before (map item_of ys)) (here xs i x below is)
    ∙ ap (λ o. through_items o (map item_of (drop (i + 1) xs))) (sym now)

-- a block, and then its statements
pub into_block :
    (s : Statement) (h : Box Head Global) (v : Vec Statement Global) (outer around inner : List ℕ) (k1 k2 : Head) (capable : Bool) (body : List Statement) (old mid new : List Placed) →
    s ≡ view.Block h v → k1 ≡ h.value → k2 ≡ h.value → body ≡ v.items → capable ≡ may_scope (opening_of k1.opening) → mid ≡ one_more old k2.at capable outer →
    around ≡ length old ∷ outer → inner ≡ around → new ≡ through_all inner mid (statements_of body) → new ≡ through outer old (statement_of s)
into_block s h v outer around inner k1 k2 capable body old mid new is same1 same2 items able opened held same_held inside =
    inside
    ∙ ap (λ xs. through_all xs mid (statements_of body)) (same_held ∙ held)
    ∙ ap (λ ts. through_all (length old ∷ outer) mid (statements_of ts)) items
    ∙ ap (λ m. through_all (length old ∷ outer) m (statements_of v.items))
    (opened ∙ ap (λ b. one_more old k2.at b outer) able
    ∙ ap (λ (y : Head). one_more old y.at (may_scope (opening_of k1.opening)) outer) same2
    ∙ ap (λ (y : Head). one_more old h.value.at (may_scope (opening_of y.opening)) outer) same1)
    ∙ ap (λ t. through outer old t) (sym (block_is h v))
    ∙ ap (λ t. through outer old (statement_of t)) (sym is)
