-- Chains of operators, as far as a loop has read them.
use Rattle.std.proofs.Common.{◌≡◌, ◌+◌, ◌<◌, ◌≤◌, ℕ, List, [], ◌∷◌, ◌++◌, refl, ap, ◌∙◌, subst, arith}
use Rattle.abl_base.specs.declared.place.Place.{Place}
use Rattle.parse_tree.specs.declared.production.TheConstants as p
use Rattle.bound_tree.specs.declared.expression.Binary.{Binary}
use Rattle.syntax_tree.specs.declared.expression.Operator.TheVariants as op
use Rattle.syntax_tree.specs.declared.expression.Link.{Link as TypedLink}
use Rattle.syntax_tree.specs.declared.expression.Expression.{Expression as TypedExpression}
use Rattle.syntax_tree.specs.Syntax.{Expression, Arguments, More, NoMore}
use Rattle.syntax_tree.specs.Typed.{expression_of, linked_of, joined, arguments_of}
use Rattle.syntax_reader.specs.Nodes.{Source, Uses, IsAt}
use Rattle.syntax_reader.specs.Expressions.{IsExpression, IsConjunction, IsNegation, IsProduct, IsSigned, IsOperator, AreOr, one_or, AreAnd, one_and, AreAdded, one_added, AreMultiplied, one_factor, AreMoreArguments, no_argument, one_argument, AreArguments}

-- the last link of a chain joins what the links before it make
linked_snoc : (links : List TypedLink) (l : TypedLink) (a : Expression) → linked_of (links ++ l ∷ []) a ≡ joined l.operator l.at (linked_of links a) (expression_of l.operand)
linked_snoc [] l a = refl
linked_snoc (k ∷ links) l a = linked_snoc links l (joined k.operator k.at a (expression_of k.operand))

-- arguments with others after them
abbrev pub arguments_onto : List TypedExpression → Arguments → Arguments
arguments_onto [] more = more
arguments_onto (a ∷ rest) more = More (expression_of a) (arguments_onto rest more)

arguments_snoc : (found : List TypedExpression) (a : TypedExpression) (more : Arguments) → arguments_onto (found ++ a ∷ []) more ≡ arguments_onto found (More (expression_of a) more)
arguments_snoc [] a more = refl
arguments_snoc (b ∷ rest) a more = ap (λ x. More (expression_of b) x) (arguments_snoc rest a more)

arguments_end : (found : List TypedExpression) → arguments_onto found NoMore ≡ arguments_of found
arguments_end [] = refl
arguments_end (b ∷ rest) = ap (λ x. More (expression_of b) x) (arguments_end rest)

-- what the rest of a chain makes of the operands read so far, the whole chain makes of the first one
pub record InChain (R : ℕ → ℕ → Expression → Expression → Type 0) (begun : ℕ) (first : Expression) (n : ℕ) (left : Expression) : Type 0 where
  pub go : (all : Expression) (end : ℕ) → R n end left all → R begun end first all
  pub after : begun ≤ n

pub chain_begins : (R : ℕ → ℕ → Expression → Expression → Type 0) (begun : ℕ) (first : Expression) (links : List TypedLink) → links ≡ [] → InChain R begun first begun (linked_of links first)
chain_begins R begun first links is = rw is (record { go = λ all end r. r; after = omega arith })

pub chain_grows : {R : ℕ → ℕ → Expression → Expression → Type 0} {begun n m : ℕ} {first : Expression} (a : Expression) (links new : List TypedLink) (l : TypedLink) → InChain R begun first n (linked_of links a) → n < m →
    new ≡ links ++ l ∷ [] → ((all : Expression) (end : ℕ) → R m end (joined l.operator l.at (linked_of links a) (expression_of l.operand)) all → R n end (linked_of links a) all) →
    InChain R begun first m (linked_of new a)
chain_grows {R} {begun} {n} {m} {first} a links new l so_far onward is step = record {
  go = λ all end r. so_far.go all end (step all end (subst (λ (x : Expression). R m end x all) (ap (λ ls. linked_of ls a) is ∙ linked_snoc links l a) r));
  after = (let before : begun ≤ n = so_far.after in omega arith);
}

pub chain_done : {R : ℕ → ℕ → Expression → Expression → Type 0} {begun n : ℕ} {first left : Expression} (made : Expression) → InChain R begun first n left → made ≡ left → R n (n + 1) left left → R begun (n + 1) first made
chain_done {R} {begun} {n} {first} {left} made so_far is last = rw is (so_far.go left (n + 1) last)

pub or_grows : (c : Source) (begun n k m : ℕ) (first a : Expression) (at : Place) (links new : List TypedLink) (operand : TypedExpression) → InChain (AreOr c) begun first n (linked_of links a) →
    Uses c n p.OR_OTHERS_OR k → IsAt c k at → IsConjunction c (n + 1) m (expression_of operand) → n < m → new ≡ links ++ (record { operator = op.Or; at = at; operand = operand }) ∷ [] →
    InChain (AreOr c) begun first m (linked_of new a)
or_grows c begun n k m first a at links new operand so_far u placed b onward is = chain_grows a links new (record { operator = op.Or; at = at; operand = operand }) so_far onward is (λ all end r. one_or u placed b r)

pub and_grows : (c : Source) (begun n k m : ℕ) (first a : Expression) (at : Place) (links new : List TypedLink) (operand : TypedExpression) → InChain (AreAnd c) begun first n (linked_of links a) →
    Uses c n p.AND_OTHERS_AND k → IsAt c k at → IsNegation c (n + 1) m (expression_of operand) → n < m → new ≡ links ++ (record { operator = op.And; at = at; operand = operand }) ∷ [] →
    InChain (AreAnd c) begun first m (linked_of new a)
and_grows c begun n k m first a at links new operand so_far u placed b onward is = chain_grows a links new (record { operator = op.And; at = at; operand = operand }) so_far onward is (λ all end r. one_and u placed b r)

pub added_grows : (c : Source) (begun n k m : ℕ) (first a : Expression) (o : Binary) (at : Place) (links new : List TypedLink) (operand : TypedExpression) → InChain (AreAdded c) begun first n (linked_of links a) →
    Uses c n p.ADDED_OTHERS_PLUS_OR_MINUS k → IsOperator c (n + 1) o at → IsProduct c (n + 2) m (expression_of operand) → n < m → new ≡ links ++ (record { operator = op.Two o; at = at; operand = operand }) ∷ [] →
    InChain (AreAdded c) begun first m (linked_of new a)
added_grows c begun n k m first a o at links new operand so_far u placed b onward is = chain_grows a links new (record { operator = op.Two o; at = at; operand = operand }) so_far onward is (λ all end r. one_added u placed b r)

pub multiplied_grows : (c : Source) (begun n k m : ℕ) (first a : Expression) (o : Binary) (at : Place) (links new : List TypedLink) (operand : TypedExpression) → InChain (AreMultiplied c) begun first n (linked_of links a) →
    Uses c n p.MULTIPLIED_OTHERS_PRODUCT_SIGN k → IsOperator c (n + 1) o at → IsSigned c (n + 2) m (expression_of operand) → n < m → new ≡ links ++ (record { operator = op.Two o; at = at; operand = operand }) ∷ [] →
    InChain (AreMultiplied c) begun first m (linked_of new a)
multiplied_grows c begun n k m first a o at links new operand so_far u placed b onward is = chain_grows a links new (record { operator = op.Two o; at = at; operand = operand }) so_far onward is (λ all end r. one_factor u placed b r)

-- the arguments of a call as far as a loop has read them
pub record InArguments (c : Source) (begun : ℕ) (first : Expression) (n : ℕ) (found : List TypedExpression) : Type 0 where
  pub go : (more : Arguments) (end : ℕ) → AreMoreArguments c n end more → AreArguments c begun end first (arguments_onto found more)
  pub after : begun ≤ n

pub arguments_begin : (c : Source) (begun : ℕ) (first : TypedExpression) (none new : List TypedExpression) → none ≡ [] → new ≡ none ++ first ∷ [] → InArguments c begun (expression_of first) begun new
arguments_begin c begun first none new empty is = record {
  go = λ more end r. record { more = more; read = r; is = ap (λ xs. arguments_onto xs more) (is ∙ ap (λ xs. xs ++ first ∷ []) empty) };
  after = omega arith;
}

pub arguments_grow : (c : Source) (begun n k m : ℕ) (first : Expression) (found new : List TypedExpression) (a : TypedExpression) → InArguments c begun first n found → Uses c n p.MORE_EXPRESSIONS_COMMA k →
    IsExpression c (n + 1) m (expression_of a) → n < m → new ≡ found ++ a ∷ [] → InArguments c begun first m new
arguments_grow c begun n k m first found new a so_far u b onward is = record {
  go = λ more end r. rw (ap (λ xs. arguments_onto xs more) is ∙ arguments_snoc found a more) (so_far.go (More (expression_of a) more) end (one_argument u b r));
  after = (let before : begun ≤ n = so_far.after in omega arith);
}

pub arguments_done : (c : Source) (begun n k : ℕ) (first : Expression) (found : List TypedExpression) → InArguments c begun first n found → Uses c n p.MORE_EXPRESSIONS_NONE k → AreArguments c begun (n + 1) first (arguments_of found)
arguments_done c begun n k first found so_far u = rw (← (arguments_end found)) (so_far.go NoMore (n + 1) (no_argument u))
