-- A chain names RETRY where its first operand or that of a link does.
use Rattle.std.proofs.Common.{◌≡◌, List, [], ◌∷◌, Bool, true, false, ◌||◌, refl, sym, ap, ◌∙◌}
use Rattle.std.specs.Prelude.{Vec, Box}
use Rattle.std.specs.declared.alloc.Global.{Global}
use Rattle.std.proofs.Math.Bool.{or_assoc}
use Rattle.bound_tree.specs.declared.expression.Operator.{Operator}
use Rattle.bound_tree.specs.declared.expression.Operator.TheVariants as op
use Rattle.bound_tree.specs.declared.expression.Link.{Link}
use Rattle.bound_tree.specs.declared.expression.Expr.{Expr}
use Rattle.bound_tree.specs.declared.expression.Expr.TheViews as view
use Rattle.bound_tree.specs.Tree as tree
use Rattle.bound_tree.specs.Bound.{expr_of, joined, chain_of}
use Rattle.bound_tree.proofs.Chains.{chain_expr}
use Rattle.txn_infer.specs.Retry.{asks_retry}
use Rattle.txn_infer.specs.Links.{any_link}

asks_joined : (o : Operator) (a b : tree.Expr) → asks_retry (joined o a b) ≡ asks_retry a || asks_retry b
asks_joined (op.Binary two) a b = refl
asks_joined op.And a b = refl
asks_joined op.Or a b = refl

or_none : (b : Bool) → b ≡ b || false
or_none true = refl
or_none false = refl

asks_chain : (a : tree.Expr) (xs : List Link) → asks_retry (chain_of a xs) ≡ asks_retry a || any_link xs
asks_chain a [] = or_none (asks_retry a)
asks_chain a (x ∷ xs) =
    asks_chain (joined x.operator a (expr_of x.operand)) xs
    ∙ ap (λ b. b || any_link xs) (asks_joined x.operator a (expr_of x.operand))
    ∙ or_assoc (asks_retry a) (asks_retry (expr_of x.operand)) (any_link xs)

pub chain_asks : (e : Expr) (first : Box Expr Global) (rest : Vec Link Global) → e ≡ view.Chain first rest → asks_retry (expr_of e) ≡ asks_retry (expr_of first.value) || any_link rest.items
chain_asks e first rest is = ap (λ x. asks_retry (expr_of x)) is ∙ ap asks_retry (chain_expr first rest) ∙ asks_chain (expr_of first.value) rest.items

-- its first operand names it
pub chain_asks_first : (e : Expr) (first : Box Expr Global) (rest : Vec Link Global) (p : Expr) (b : Bool) → e ≡ view.Chain first rest → p ≡ first.value → b ≡ asks_retry (expr_of p) → b ≡ true → b ≡ asks_retry (expr_of e)
chain_asks_first e first rest p b is same asks true_is =
    true_is ∙ ap (λ c. c || any_link rest.items) (sym true_is ∙ asks ∙ ap (λ x. asks_retry (expr_of x)) same) ∙ sym (chain_asks e first rest is)

-- it does not, and a link decides
pub chain_asks_link : (e : Expr) (first : Box Expr Global) (rest : Vec Link Global) (p : Expr) (b : Bool) (links : List Link) (c : Bool) → e ≡ view.Chain first rest → p ≡ first.value → b ≡ asks_retry (expr_of p) → b ≡ false → links ≡ rest.items → c ≡ any_link links → c ≡ asks_retry (expr_of e)
chain_asks_link e first rest p b links c is same asks false_is held link =
    link ∙ ap any_link held ∙ ap (λ d. d || any_link rest.items) (sym false_is ∙ asks ∙ ap (λ x. asks_retry (expr_of x)) same) ∙ sym (chain_asks e first rest is)
