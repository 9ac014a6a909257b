-- The notes of two consecutive parts are the notes of both: one lemma for each way of joining judgements.
use Rattle.std.proofs.Common.{◌≡◌, ◌<◌, ◌+◌, ℕ, List, [], ◌∷◌, ◌++◌, length, drop, get_or, suc, refl, ap, sym, subst, ◌∙◌, add-one, drop-cons, append_assoc}
use Rattle.std.specs.Option.{is_some}
use Rattle.abl_base.specs.declared.place.Place.{Place}
use Rattle.abl_base.specs.declared.rule.Rule.TheVariants.{Y4}
use Rattle.bound_tree.specs.Bound as b
use Rattle.bound_tree.specs.Tree.{Expr}
use Rattle.bound_tree.specs.declared.expression.Link.{Link as BoundLink}
use Rattle.bound_tree.proofs.Chains.{chain_of-snoc}
use Rattle.syntax_tree.specs.Syntax.{Expression, Call}
use Rattle.syntax_tree.specs.Typed.{arguments_of, expression_of, joined, linked_of}
use Rattle.syntax_tree.specs.declared.expression.Operator.{Operator}
use Rattle.syntax_tree.specs.declared.expression.Operator.TheVariants as op
use Rattle.syntax_tree.specs.declared.expression.Link.{Link}
use Rattle.syntax_tree.specs.declared.expression.Expression.{Expression as TypedExpression}
use Rattle.syntax_tree.specs.declared.expression.Expression.TheVariants as t
use Rattle.syntax_tree.specs.declared.expression.Expression.TheViews as view
use Rattle.syntax_tree.specs.declared.word.Function.{Function}
use Rattle.syntax_tree.proofs.Chains.{call_is, chain_is}
use Rattle.std.specs.Prelude.{Box, Vec}
use Rattle.std.specs.declared.alloc.Global.{Global}
use Rattle.bind_names.specs.declared.notes.Notes.{Notes}
use Rattle.bind_names.specs.declared.sort.Sort.{Sort}
use Rattle.bind_names.specs.declared.violation.Violation.{Violation}
use Rattle.bind_names.specs.Judged.{Judged, made, breaking, first_of, unless}
use Rattle.bind_names.specs.Names.{Scene}
use Rattle.bind_names.specs.Sorts.{sort_or_broken}
use Rattle.bind_names.specs.Views.{IsJudged}
use Rattle.bind_names.proofs.Joined.{first_of_append}
use Rattle.bind_expressions.specs.Expressions.{Typed, typed, arguments, called, condition, expression, operator, if_else}
use Rattle.bind_expressions.specs.Views.{IsChosen, IsMade, bound_operator, operator_sort}

-- a part that is built from another one
pub made_then : {A B : Type 0} (build : A → B) (more : A → List Violation) (j : Judged A) (x : A) (r : B) (o n p : Notes) →
    IsJudged j x o n → IsMade build more x r n p → IsJudged (breaking (made build j) (more j.is)) r o p
made_then build more j x r o n p hx h = record {
  is = let a = hx.is in let e = h.is in cc;
  first = let a = hx.first in let b = hx.is in let e = h.first in rw first_of_append cc;
  names = let a = hx.names in let e = h.names in cc;
}

-- IF with its condition and its branches
pub if_else_judged : (place : Place) (i j k : Judged Typed) (x y z v : Typed) (o n p q r : Notes) →
    IsJudged i x o n → IsJudged j y n p → IsJudged k z p q → IsChosen place x y z v q r → IsJudged (if_else place i j k) v o r
if_else_judged place i j k x y z v o n p q r hx hy hz h = record {
  is = let a = hx.is in let b = hy.is in let c = hz.is in let e = h.is in cc;
  first = let a = hx.first in let b = hy.first in let c = hz.first in let a' = hx.is in let b' = hy.is in let c' = hz.is in let e = h.first in rw (first_of_append, first_of_append, first_of_append) cc;
  names = let a = hx.names in let b = hy.names in let c = hz.names in let e = h.names in rw (← append_assoc, ← append_assoc) cc;
}

-- ---- chains

-- one more link
abbrev pub link_judged : Scene → Link → Judged Typed → Judged Typed
link_judged w l x = operator (b.joined (bound_operator l.operator)) (operator_sort l.operator) l.at x (expression w (expression_of l.operand))

-- the links of a chain, from the left
abbrev pub links_judged : Scene → List Link → Judged Typed → Judged Typed
links_judged w [] x = x
links_judged w (l ∷ ls) x = links_judged w ls (link_judged w l x)

pub joined_is : (w : Scene) (o : Operator) (at : Place) (a c : Expression) →
    expression w (joined o at a c) ≡ operator (b.joined (bound_operator o)) (operator_sort o) at (expression w a) (expression w c)
joined_is w (op.Two two) at a c = refl
joined_is w op.And at a c = refl
joined_is w op.Or at a c = refl

pub linked_is : (w : Scene) (ls : List Link) (a : Expression) → expression w (linked_of ls a) ≡ links_judged w ls (expression w a)
linked_is w [] a = refl
linked_is w (l ∷ ls) a = linked_is w ls (joined l.operator l.at a (expression_of l.operand)) ∙ ap (links_judged w ls) (joined_is w l.operator l.at a (expression_of l.operand))

-- the part that is bound so far, continued with the remaining links, is the whole chain
pub record ChainContinues (w : Scene) (a : Expression) (ls : List Link) (i : ℕ) (now : Typed) (n begun : Notes) : Type 0 where
  pub so_far : Judged Typed
  pub judged : IsJudged so_far now begun n
  pub rest : links_judged w (drop i ls) so_far ≡ expression w (linked_of ls a)

pub chain_begins : (w : Scene) (a : Expression) (ls : List Link) (e : Expr) (s : Sort) (items : List BoundLink) (n begun : Notes) → items ≡ [] →
    IsJudged (expression w a) (typed e s) begun n → ChainContinues w a ls 0 (typed (b.chain_of e items) s) n begun
chain_begins w a ls e s items n begun none h = rw none (record { so_far = expression w a; judged = h; rest = sym (linked_is w ls a) })

pub next_link : (xs : List Link) (i : ℕ) (x : Link) → i < length xs → x ≡ get_or xs i x → drop i xs ≡ x ∷ drop (i + 1) xs
next_link xs i x lt e = rw (add-one, drop-cons xs i x) (ap (λ y. y ∷ drop (suc i) xs) (sym e))

pub one_more_link : (w : Scene) (a : Expression) (ls : List Link) (i : ℕ) (l : Link) (now y next : Typed) (n m k begun : Notes) →
    i < length ls → l ≡ get_or ls i l → IsJudged (expression w (expression_of l.operand)) y n m →
    next ≡ typed (b.joined (bound_operator l.operator) now.expr y.expr) (sort_or_broken (operator_sort l.operator now.sort y.sort)) →
    k.first ≡ first_of m.first (unless (is_some (operator_sort l.operator now.sort y.sort)) Y4 l.at) → k.names ≡ m.names →
    ChainContinues w a ls i now n begun → ChainContinues w a ls (i + 1) next k begun
one_more_link w a ls i l now y next n m k begun lt e hy is first names h = record {
  so_far = link_judged w l h.so_far;
  judged = record {
    is = let p = h.judged.is in let q = hy.is in let r = is in cc;
    first = let p = h.judged.first in let p' = h.judged.is in let q = hy.first in let q' = hy.is in let r = first in rw (first_of_append, first_of_append) cc;
    names = let p = h.judged.names in let q = hy.names in let r = names in rw (← append_assoc) cc;
  };
  rest = let d : drop i ls ≡ l ∷ drop (i + 1) ls = next_link ls i l lt e in rw d at h.rest;
}

-- and as it is bound
pub one_more_bound : (w : Scene) (a : Expression) (ls : List Link) (i : ℕ) (l : Link) (e : Expr) (s t : Sort) (xs new : List BoundLink) (x : BoundLink) (y : Typed) (n m k begun : Notes) →
    i < length ls → l ≡ get_or ls i l → IsJudged (expression w (expression_of l.operand)) y n m →
    x.operator ≡ bound_operator l.operator → b.expr_of x.operand ≡ y.expr → new ≡ xs ++ x ∷ [] → t ≡ sort_or_broken (operator_sort l.operator s y.sort) →
    k.first ≡ first_of m.first (unless (is_some (operator_sort l.operator s y.sort)) Y4 l.at) → k.names ≡ m.names →
    ChainContinues w a ls i (typed (b.chain_of e xs) s) n begun → ChainContinues w a ls (i + 1) (typed (b.chain_of e new) t) k begun
one_more_bound w a ls i l e s t xs new x y n m k begun lt el hy is_operator is_operand is_new is_sort first names h =
    let c : b.chain_of e new ≡ b.joined x.operator (b.chain_of e xs) (b.expr_of x.operand) = ap (b.chain_of e) is_new ∙ chain_of-snoc e xs x in
    one_more_link w a ls i l (typed (b.chain_of e xs) s) y (typed (b.chain_of e new) t) n m k begun lt el hy (rw (c, is_operator, is_operand, is_sort) refl) first names h

drop_all : {A : Type 0} (xs : List A) → drop (length xs) xs ≡ []
drop_all [] = refl
drop_all (x ∷ xs) = drop_all xs

-- where no link is left, the whole chain is judged
pub chain_judged : (w : Scene) (a : Expression) (ls : List Link) (i : ℕ) (now r : Typed) (n begun : Notes) → i ≡ length ls → r ≡ now → ChainContinues w a ls i now n begun →
    IsJudged (expression w (linked_of ls a)) r begun n
chain_judged w a ls i now r n begun e is h =
    let d : drop i ls ≡ [] = ap (λ j. drop j ls) e ∙ drop_all ls in
    let whole : h.so_far ≡ expression w (linked_of ls a) = rw d at h.rest in
    rw (is, ← whole) h.judged

-- IF as the program has it
pub if_stands : (w : Scene) (e : TypedExpression) (place : Place) (p : _) (test : TypedExpression) (q : _) (one : TypedExpression) (r : _) (other a b c : TypedExpression) →
    e ≡ t.If' place p test q one r other → a ≡ test → b ≡ one → c ≡ other →
    (x y z v : Typed) (o n m k l : Notes) → IsJudged (condition w (expression_of a)) x o n → IsJudged (expression w (expression_of b)) y n m → IsJudged (expression w (expression_of c)) z m k →
    IsChosen place x y z v k l → IsJudged (expression w (expression_of e)) v o l
if_stands w e place p test q one r other a b c is is_a is_b is_c x y z v o n m k l hx hy hz h =
    rw is (if_else_judged place _ _ _ x y z v o n m k l (rw is_a at hx) (rw is_b at hy) (rw is_c at hz) h)

-- a chain as the program has it
pub chain_stands : (w : Scene) (e : TypedExpression) (first : Box TypedExpression Global) (v : Vec Link Global) (a : TypedExpression) (ls : List Link) →
    e ≡ view.Chain first v → a ≡ first.value → ls ≡ v.items →
    (x r : Typed) (o n m : Notes) → IsJudged (expression w (expression_of a)) x o n →
    ((c : Expression) (begun : Notes) → IsJudged (expression w c) x begun n → IsJudged (expression w (linked_of ls c)) r begun m) → IsJudged (expression w (expression_of e)) r o m
chain_stands w e first v a ls is is_a is_ls x r o n m h all =
    let t = all (expression_of a) o h in
    rw (is, chain_is first v) (rw (is_a, is_ls) at t)

-- a function as the program has it
pub call_stands : (w : Scene) (e : TypedExpression) (f : Function) (place : Place) (v : Vec TypedExpression Global) (as_ : List TypedExpression) →
    e ≡ view.Call f place v → as_ ≡ v.items → (r : Typed) (o n : Notes) → IsJudged (called f place (arguments w f 0 (arguments_of as_))) r o n → IsJudged (expression w (expression_of e)) r o n
call_stands w e f place v as_ is is_as r o n h =
    let there : expression_of e ≡ Call f place (arguments_of as_) = ap expression_of is ∙ call_is f place v ∙ ap (λ (xs : List TypedExpression). Call f place (arguments_of xs)) (sym is_as) in
    subst (λ (x : Expression). IsJudged (expression w x) r o n) (sym there) h
