-- What a chain gives, link by link.
use Rattle.std.proofs.Common.{◌≡◌, ℕ, suc, ◌<◌, ◌≤◌, List, [], ◌∷◌, length, drop, get_or, Result, Ok, Err, refl, sym, ap, ◌∙◌, subst}
use Rattle.std.specs.Prelude.{Vec, Box}
use Rattle.std.specs.declared.alloc.Global.{Global}
use Rattle.std.proofs.Math.Seq.{drop-cons}
use Rattle.std.proofs.Math.ListN.{drop_of_length-le}
use Rattle.abl_base.specs.declared.value.Value.{Value}
use Rattle.bound_tree.specs.declared.expression.Expr.{Expr as SourceExpr}
use Rattle.bound_tree.specs.declared.expression.Expr.TheViews as view
use Rattle.bound_tree.specs.declared.expression.Operator.{Operator}
use Rattle.bound_tree.specs.declared.expression.Operator.TheVariants as op
use Rattle.bound_tree.specs.declared.expression.Link.{Link}
use Rattle.bound_tree.specs.Tree.{Expr}
use Rattle.bound_tree.specs.Bound.{chain_of, expr_of, joined}
use Rattle.bound_tree.proofs.Chains.{chain_expr}
use Rattle.expression_meaning.specs.declared.fault.RunFault.{RunFault}
use Rattle.expression_meaning.specs.Env.{Env}
use Rattle.expression_meaning.specs.Operators.{Given}
use Rattle.expression_meaning.specs.Evaluate.{bind, evaluate}
use Rattle.evaluator.specs.declared.fault.EvalFault.{EvalFault}
use Rattle.evaluator.specs.declared.fault.EvalFault.TheVariants.{Fault, NoMemory}
use Rattle.evaluator.specs.declared.held.Held.{Held}
use Rattle.evaluator.specs.Forms.{the_forms}
use Rattle.evaluator.specs.Gives.{Holds}
use Rattle.evaluator.specs.Chains.{chain_from, linked}

-- one link
joined_is : (env : Env) (o : Operator) (a b : Expr) → evaluate the_forms env (joined o a b) ≡ bind (evaluate the_forms env a) (λ v. linked o v (evaluate the_forms env b))
joined_is env (op.Binary two) a b = refl
joined_is env op.And a b = refl
joined_is env op.Or a b = refl

-- all of them
chain_gives : (env : Env) (a : Expr) (xs : List Link) → evaluate the_forms env (chain_of a xs) ≡ chain_from env (evaluate the_forms env a) xs
chain_gives env a [] = refl
chain_gives env a (x ∷ xs) =
    chain_gives env (joined x.operator a (expr_of x.operand)) xs ∙ ap (λ (given : Given). chain_from env given xs) (joined_is env x.operator a (expr_of x.operand))

-- a fault is that of the chain
chain_stops : (env : Env) (fault : RunFault) (xs : List Link) → chain_from env (Err fault) xs ≡ Err fault
chain_stops env fault [] = refl
chain_stops env fault (x ∷ xs) = chain_stops env fault xs

-- the chain gives what its links give after the first value
from_first : (env : Env) (a : Expr) (xs : List Link) (given : Given) → evaluate the_forms env a ≡ given → evaluate the_forms env (chain_of a xs) ≡ chain_from env given xs
from_first env a xs given h = chain_gives env a xs ∙ ap (λ (g : Given). chain_from env g xs) h

-- a fault of the first operand
first_fault : (env : Env) (a : Expr) (xs : List Link) (r : Result Held EvalFault) (fault : EvalFault) → r ≡ Err fault → Holds (Err fault) (evaluate the_forms env a) → Holds r (evaluate the_forms env (chain_of a xs))
first_fault env a xs r (Fault fault) is h =
    subst (λ (x : Result Held EvalFault). Holds x (evaluate the_forms env (chain_of a xs))) (sym is) (from_first env a xs (Err fault) h ∙ chain_stops env fault xs)
first_fault env a xs r NoMemory is h = subst (λ (x : Result Held EvalFault). Holds x (evaluate the_forms env (chain_of a xs))) (sym is) tt

-- the links from one on
next_link : (env : Env) (all : List Link) (x : Link) (i : ℕ) (v : Value) → i < length all → x ≡ get_or all i x
    → chain_from env (Ok v) (drop i all) ≡ chain_from env (linked x.operator v (evaluate the_forms env (expr_of x.operand))) (drop (suc i) all)
next_link env all x i v w is =
    ap (chain_from env (Ok v)) (drop-cons all i x w ∙ ap (λ (y : Link). y ∷ drop (suc i) all) (sym is))

-- a fault at a link
pub link_fault : (env : Env) (all : List Link) (x : Link) (i : ℕ) (v first : Value) (r : Result Held EvalFault) (fault : EvalFault) → r ≡ Err fault
    → chain_from env (Ok v) (drop i all) ≡ chain_from env (Ok first) all → i < length all → x ≡ get_or all i x
    → Holds (Err fault) (linked x.operator v (evaluate the_forms env (expr_of x.operand))) → Holds r (chain_from env (Ok first) all)
link_fault env all x i v first r (Fault fault) e same w is h =
    subst (λ (y : Result Held EvalFault). Holds y (chain_from env (Ok first) all)) (sym e)
    (sym same ∙ next_link env all x i v w is ∙ ap (λ (g : Given). chain_from env g (drop (suc i) all)) h ∙ chain_stops env fault (drop (suc i) all))
link_fault env all x i v first r NoMemory e same w is h = subst (λ (y : Result Held EvalFault). Holds y (chain_from env (Ok first) all)) (sym e) tt

-- after the last link
pub chain_ends : (env : Env) (all : List Link) (i : ℕ) (v first : Value) → chain_from env (Ok v) (drop i all) ≡ chain_from env (Ok first) all → length all ≤ i
    → chain_from env (Ok first) all ≡ Ok v
chain_ends env all i v first same past = sym same ∙ ap (chain_from env (Ok v)) (drop_of_length-le all past)

-- the chain of an expression
chain_holds : (env : Env) (first : Box SourceExpr Global) (rest : Vec Link Global) (a : SourceExpr) (xs : List Link) (e : SourceExpr) (r : Result Held EvalFault) → a ≡ first.value → xs ≡ rest.items → e ≡ view.Chain first rest
    → Holds r (evaluate the_forms env (chain_of (expr_of a) xs)) → Holds r (evaluate the_forms env (expr_of e))
chain_holds env first rest a xs e r one links is h =
    let h1 : Holds r (evaluate the_forms env (chain_of (expr_of a) rest.items)) = subst (λ (ys : List Link). Holds r (evaluate the_forms env (chain_of (expr_of a) ys))) links h in
    let h2 : Holds r (evaluate the_forms env (chain_of (expr_of first.value) rest.items)) = subst (λ (b : SourceExpr). Holds r (evaluate the_forms env (chain_of (expr_of b) rest.items))) one h1 in
    let h3 : Holds r (evaluate the_forms env (expr_of (view.Chain first rest))) = subst (λ (t : Expr). Holds r (evaluate the_forms env t)) (sym (chain_expr first rest)) h2 in
    subst (λ (b : SourceExpr). Holds r (evaluate the_forms env (expr_of b))) (sym is) h3

-- the links of an expression after its first value
pub links_hold : (env : Env) (first : Box SourceExpr Global) (rest : Vec Link Global) (a : SourceExpr) (xs : List Link) (e : SourceExpr) (r : Result Held EvalFault) (v : Value) → a ≡ first.value → xs ≡ rest.items → e ≡ view.Chain first rest
    → evaluate the_forms env (expr_of a) ≡ Ok v → Holds r (chain_from env (Ok v) xs) → Holds r (evaluate the_forms env (expr_of e))
links_hold env first rest a xs e r v one links is h so =
    chain_holds env first rest a xs e r one links is (subst (λ (g : Given). Holds r g) (sym (from_first env (expr_of a) xs (Ok v) h)) so)

-- a fault of the first operand of an expression
pub start_fault : (env : Env) (first : Box SourceExpr Global) (rest : Vec Link Global) (a : SourceExpr) (e : SourceExpr) (r : Result Held EvalFault) (fault : EvalFault) → a ≡ first.value → e ≡ view.Chain first rest → r ≡ Err fault
    → Holds (Err fault) (evaluate the_forms env (expr_of a)) → Holds r (evaluate the_forms env (expr_of e))
start_fault env first rest a e r fault one is same h =
    chain_holds env first rest a rest.items e r one refl is (first_fault env (expr_of a) rest.items r fault same h)
