-- The walk proceeds by one statement, by one item, and into a block.
use Rattle.std.proofs.Common.{◌≡◌, ℕ, suc, ◌+◌, ◌<◌, List, ◌∷◌, length, get_or, drop, sym, ap, ◌∙◌, add-one}
use Rattle.std.specs.Prelude.{map, Option, Box, Vec}
use Rattle.std.specs.declared.alloc.Global.{Global}
use Rattle.std.proofs.Math.Seq.{drop-cons}
use Rattle.bind_names.specs.declared.violation.Violation.{Violation}
use Rattle.bind_names.specs.Judged.{first_of}
use Rattle.bind_names.proofs.Joined.{first_of_append}
use Rattle.syntax_tree.specs.declared.block.Head.{Head as TypedHead}
use Rattle.syntax_tree.specs.declared.program.Item.{Item}
use Rattle.syntax_tree.specs.declared.statement.Statement.{Statement}
use Rattle.syntax_tree.specs.declared.statement.Statement.TheViews as view
use Rattle.syntax_tree.specs.Syntax.{Head}
use Rattle.syntax_tree.specs.Typed.{head_of, item_of, statement_of, statements_of}
use Rattle.syntax_tree.proofs.Bodies.{block_is}
use Rattle.block_rules.specs.Rules.{head_breaks, item_breaks, program_breaks, statement_breaks, statements_break}

here : {A : Type 0} (xs : List A) (i : ℕ) (x : A) → i < length xs → x ≡ get_or xs i x → drop i xs ≡ x ∷ drop (i + 1) xs
here {A = A} xs i x below is =
    drop-cons xs i x below ∙ ap (λ (y : A). y ∷ drop (suc i) xs) (sym is) ∙ ap (λ j. x ∷ drop j xs) (sym (add-one i))

pub next_statement :
    (around : List Head) (xs : List Statement) (i : ℕ) (x : Statement) (all so_far next : Option Violation) → i < length xs → x ≡ get_or xs i x →
    all ≡ first_of so_far (statements_break around (statements_of (drop i xs))) → next ≡ first_of so_far (statement_breaks around (statement_of x)) →
    all ≡ first_of next (statements_break around (statements_of (drop (i + 1) xs)))
next_statement around xs i x all so_far next below is before now =
    let rest = statements_break around (statements_of (drop (i + 1) xs)) in
    before
    ∙ ap (λ ys. first_of so_far (statements_break around (statements_of ys))) (here xs i x below is)
    ∙ first_of_append so_far (statement_breaks around (statement_of x)) rest
    ∙ ap (λ o. first_of o rest) (sym now)

pub next_item :
    (xs : List Item) (i : ℕ) (x : Item) (all so_far next : Option Violation) → i < length xs → x ≡ get_or xs i x →
    all ≡ first_of so_far (program_breaks (map item_of (drop i xs))) → next ≡ first_of so_far (item_breaks (item_of x)) →
    all ≡ first_of next (program_breaks (map item_of (drop (i + 1) xs)))
next_item xs i x all so_far next below is before now =
    let rest = program_breaks (map item_of (drop (i + 1) xs)) in
    before
    ∙ ap (λ ys. first_of so_far (program_breaks (map item_of ys))) (here xs i x below is)
    ∙ first_of_append so_far (item_breaks (item_of x)) rest
    ∙ ap (λ o. first_of o rest) (sym now)

-- the header of a block, and then its statements
pub block_breaks :
    (s : Statement) (h : Box TypedHead Global) (v : Vec Statement Global) (around : List Head) (k1 k2 : TypedHead) (body : List Statement) (old mid new : Option Violation) →
    s ≡ view.Block h v → k1 ≡ h.value → k2 ≡ h.value → body ≡ v.items → mid ≡ first_of old (head_breaks around (head_of k1)) →
    new ≡ first_of mid (statements_break (head_of k2 ∷ around) (statements_of body)) → new ≡ first_of old (statement_breaks around (statement_of s))
block_breaks s h v around k1 k2 body old mid new is same1 same2 items header inside =
    let breaks = head_breaks around (head_of h.value) in
    let more = statements_break (head_of h.value ∷ around) (statements_of v.items) in
    inside
    ∙ ap (λ k. first_of mid (statements_break (head_of k ∷ around) (statements_of body))) same2
    ∙ ap (λ ts. first_of mid (statements_break (head_of h.value ∷ around) (statements_of ts))) items
    ∙ ap (λ o. first_of o more) (header ∙ ap (λ k. first_of old (head_breaks around (head_of k))) same1)
    ∙ sym (first_of_append old breaks more)
    ∙ ap (λ t. first_of old (statement_breaks around t)) (sym (block_is h v))
    ∙ ap (λ t. first_of old (statement_breaks around (statement_of t))) (sym is)
