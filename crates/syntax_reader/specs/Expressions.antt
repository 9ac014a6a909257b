-- Which expression a node denotes, a constructor a production. The first part inside begins with the next node, and each other one where the one
-- before ends. Each relation has the number of the node, the number after it and all inside it, and what it denotes.
use Rattle.std.specs.Prelude.{ℕ, ◌+◌, ◌≡◌, pos, true, false, Option}
use Rattle.abl_base.specs.declared.place.Place.{Place}
use Rattle.abl_base.specs.declared.value.Value.{Value}
use Rattle.abl_base.specs.declared.value.Value.TheVariants as value
use Rattle.parse_tree.specs.declared.production.TheConstants as p
use Rattle.bound_tree.specs.declared.expression.Binary.{Binary}
use Rattle.bound_tree.specs.declared.expression.Binary.TheVariants as two
use Rattle.syntax_tree.specs.declared.name.Named.{Named}
use Rattle.syntax_tree.specs.declared.name.Named.TheVariants.{Plain}
use Rattle.syntax_tree.specs.declared.name.Word.{Word}
use Rattle.syntax_tree.specs.declared.word.Function.{Function}
use Rattle.syntax_tree.specs.declared.word.Function.TheVariants as fn
use Rattle.syntax_tree.specs.Syntax as s
use Rattle.syntax_tree.specs.Syntax.{Expression, Arguments}
use Rattle.syntax_reader.specs.Nodes.{Source, Uses, IsAt, IsName, IsQualified, IsText, IsWhole, IsScaled, IsDay, IsTextThere}

-- the literals among the productions of Primary
pub data IsConstant (c : Source) : ℕ → Value → Place → Type 0 where
  whole : {n k x : ℕ} {at : Place} → Uses c n p.PRIMARY_WHOLE_NUMBER k → IsWhole c k x → IsAt c k at → IsConstant c n (value.Int64 (pos x)) at
  scaled : {n k x : ℕ} {at : Place} → Uses c n p.PRIMARY_DECIMAL_NUMBER k → IsScaled c k x → IsAt c k at → IsConstant c n (value.Dec (pos x)) at
  text : {n k : ℕ} {word : Word} → Uses c n p.PRIMARY_TEXT_LITERAL k → IsText c k word → IsConstant c n (value.Text word.spelling) word.at
  date : {n k : ℕ} {day : _} {at : Place} → Uses c n p.PRIMARY_DATE_LITERAL k → IsDay c k day → IsAt c k at → IsConstant c n (value.Date day) at
  yes : {n k : ℕ} {at : Place} → Uses c n p.PRIMARY_YES k → IsAt c k at → IsConstant c n (value.Logical true) at
  no : {n k : ℕ} {at : Place} → Uses c n p.PRIMARY_NO k → IsAt c k at → IsConstant c n (value.Logical false) at
  truth : {n k : ℕ} {at : Place} → Uses c n p.PRIMARY_TRUE k → IsAt c k at → IsConstant c n (value.Logical true) at
  falsehood : {n k : ℕ} {at : Place} → Uses c n p.PRIMARY_FALSE k → IsAt c k at → IsConstant c n (value.Logical false) at
  unknown : {n k : ℕ} {at : Place} → Uses c n p.PRIMARY_QUESTION_MARK k → IsAt c k at → IsConstant c n value.Unknown at

-- Function
pub data IsFunction (c : Source) : ℕ → Function → Type 0 where
  integer : {n k : ℕ} → Uses c n p.FUNCTION_INTEGER k → IsFunction c n fn.Integer
  int64 : {n k : ℕ} → Uses c n p.FUNCTION_INT64 k → IsFunction c n fn.Int64
  decimal : {n k : ℕ} → Uses c n p.FUNCTION_DECIMAL k → IsFunction c n fn.Decimal
  substring : {n k : ℕ} → Uses c n p.FUNCTION_SUBSTRING k → IsFunction c n fn.Substring
  length : {n k : ℕ} → Uses c n p.FUNCTION_LENGTH k → IsFunction c n fn.Length
  entry : {n k : ℕ} → Uses c n p.FUNCTION_ENTRY k → IsFunction c n fn.Entry
  num_entries : {n k : ℕ} → Uses c n p.FUNCTION_NUM_ENTRIES k → IsFunction c n fn.NumEntries
  date : {n k : ℕ} → Uses c n p.FUNCTION_DATE k → IsFunction c n fn.Date
  year : {n k : ℕ} → Uses c n p.FUNCTION_YEAR k → IsFunction c n fn.Year
  month : {n k : ℕ} → Uses c n p.FUNCTION_MONTH k → IsFunction c n fn.Month
  day : {n k : ℕ} → Uses c n p.FUNCTION_DAY k → IsFunction c n fn.Day

-- Comparison: the operator, and its place
pub data IsComparison (c : Source) : ℕ → Binary → Place → Type 0 where
  equals : {n k : ℕ} {at : Place} → Uses c n p.COMPARISON_EQUALS k → IsAt c k at → IsComparison c n two.Equal at
  not_equal : {n k : ℕ} {at : Place} → Uses c n p.COMPARISON_NOT_EQUAL k → IsAt c k at → IsComparison c n two.Unequal at
  less : {n k : ℕ} {at : Place} → Uses c n p.COMPARISON_LESS k → IsAt c k at → IsComparison c n two.Less at
  greater : {n k : ℕ} {at : Place} → Uses c n p.COMPARISON_GREATER k → IsAt c k at → IsComparison c n two.Greater at
  less_or_equal : {n k : ℕ} {at : Place} → Uses c n p.COMPARISON_LESS_OR_EQUAL k → IsAt c k at → IsComparison c n two.AtMost at
  greater_or_equal : {n k : ℕ} {at : Place} → Uses c n p.COMPARISON_GREATER_OR_EQUAL k → IsAt c k at → IsComparison c n two.AtLeast at
  eq : {n k : ℕ} {at : Place} → Uses c n p.COMPARISON_EQ k → IsAt c k at → IsComparison c n two.Equal at
  ne : {n k : ℕ} {at : Place} → Uses c n p.COMPARISON_NE k → IsAt c k at → IsComparison c n two.Unequal at
  lt : {n k : ℕ} {at : Place} → Uses c n p.COMPARISON_LT k → IsAt c k at → IsComparison c n two.Less at
  gt : {n k : ℕ} {at : Place} → Uses c n p.COMPARISON_GT k → IsAt c k at → IsComparison c n two.Greater at
  le : {n k : ℕ} {at : Place} → Uses c n p.COMPARISON_LE k → IsAt c k at → IsComparison c n two.AtMost at
  ge : {n k : ℕ} {at : Place} → Uses c n p.COMPARISON_GE k → IsAt c k at → IsComparison c n two.AtLeast at
  begins : {n k : ℕ} {at : Place} → Uses c n p.COMPARISON_BEGINS k → IsAt c k at → IsComparison c n two.Begins at

-- PlusOrMinus between two operands, and ProductSign: the operator, and its place
pub data IsOperator (c : Source) : ℕ → Binary → Place → Type 0 where
  plus : {n k : ℕ} {at : Place} → Uses c n p.PLUS_OR_MINUS_PLUS k → IsAt c k at → IsOperator c n two.Add at
  minus : {n k : ℕ} {at : Place} → Uses c n p.PLUS_OR_MINUS_MINUS k → IsAt c k at → IsOperator c n two.Subtract at
  star : {n k : ℕ} {at : Place} → Uses c n p.PRODUCT_SIGN_STAR k → IsAt c k at → IsOperator c n two.Multiply at
  slash : {n k : ℕ} {at : Place} → Uses c n p.PRODUCT_SIGN_SLASH k → IsAt c k at → IsOperator c n two.Divide at
  modulo : {n k : ℕ} {at : Place} → Uses c n p.PRODUCT_SIGN_MODULO k → IsAt c k at → IsOperator c n two.Modulo at

-- PlusOrMinus before an operand: what the sign makes of it
pub data IsWithSign (c : Source) (n : ℕ) (a : Expression) : Expression → Type 0 where
  positive : {k : ℕ} {at : Place} → Uses c n p.PLUS_OR_MINUS_PLUS k → IsAt c k at → IsWithSign c n a (s.Plus at a)
  negative : {k : ℕ} {at : Place} → Uses c n p.PLUS_OR_MINUS_MINUS k → IsAt c k at → IsWithSign c n a (s.Minus at a)

-- TestedName
pub data IsTestedName (c : Source) : ℕ → Word → Type 0 where
  bare : {n k : ℕ} {word : Word} → Uses c n p.TESTED_NAME_NAME k → IsName c k word → IsTestedName c n word
  enclosed : {n k : ℕ} {word : Word} → Uses c n p.TESTED_NAME_LEFT_PARENTHESIS k → IsName c (k + 1) word → IsTestedName c n word

mutual
  -- Expression
  pub data IsExpression (c : Source) : ℕ → ℕ → Expression → Type 0 where
    choice : {n k m l end : ℕ} {at : Place} {test one other : Expression} → Uses c n p.EXPRESSION_IF k → IsAt c k at → IsExpression c (n + 1) m test →
        IsExpression c m l one → IsExpression c l end other → IsExpression c n end (s.If at test one other)
    disjunction : {n k m l : ℕ} {a all : Expression} → Uses c n p.EXPRESSION_CONJUNCTION k → IsConjunction c (n + 1) m a → AreOr c m l a all → IsExpression c n l all

  -- OrOthers, after what is to their left: they are taken from the left, and so are the other chains
  pub data AreOr (c : Source) : ℕ → ℕ → Expression → Expression → Type 0 where
    no_or : {n k : ℕ} {a : Expression} → Uses c n p.OR_OTHERS_NONE k → AreOr c n (n + 1) a a
    one_or : {n k m l : ℕ} {at : Place} {a b all : Expression} → Uses c n p.OR_OTHERS_OR k → IsAt c k at → IsConjunction c (n + 1) m b → AreOr c m l (s.Or at a b) all → AreOr c n l a all

  -- Conjunction
  pub data IsConjunction (c : Source) : ℕ → ℕ → Expression → Type 0 where
    conjunction : {n k m l : ℕ} {a all : Expression} → Uses c n p.CONJUNCTION_NEGATION k → IsNegation c (n + 1) m a → AreAnd c m l a all → IsConjunction c n l all

  -- AndOthers
  pub data AreAnd (c : Source) : ℕ → ℕ → Expression → Expression → Type 0 where
    no_and : {n k : ℕ} {a : Expression} → Uses c n p.AND_OTHERS_NONE k → AreAnd c n (n + 1) a a
    one_and : {n k m l : ℕ} {at : Place} {a b all : Expression} → Uses c n p.AND_OTHERS_AND k → IsAt c k at → IsNegation c (n + 1) m b → AreAnd c m l (s.And at a b) all → AreAnd c n l a all

  -- Negation
  pub data IsNegation (c : Source) : ℕ → ℕ → Expression → Type 0 where
    negated : {n k m : ℕ} {at : Place} {a : Expression} → Uses c n p.NEGATION_NOT k → IsAt c k at → IsNegation c (n + 1) m a → IsNegation c n m (s.Not at a)
    compared : {n k m l : ℕ} {a all : Expression} → Uses c n p.NEGATION_SUM k → IsSum c (n + 1) m a → IsCompared c m l a all → IsNegation c n l all

  -- ComparedWith, after what is to its left
  pub data IsCompared (c : Source) : ℕ → ℕ → Expression → Expression → Type 0 where
    alone : {n k : ℕ} {a : Expression} → Uses c n p.COMPARED_WITH_NONE k → IsCompared c n (n + 1) a a
    with_other : {n k m : ℕ} {op : Binary} {at : Place} {a b : Expression} → Uses c n p.COMPARED_WITH_COMPARISON k → IsComparison c (n + 1) op at → IsSum c (n + 2) m b →
        IsCompared c n m a (s.Two op at a b)

  -- Sum
  pub data IsSum (c : Source) : ℕ → ℕ → Expression → Type 0 where
    sum : {n k m l : ℕ} {a all : Expression} → Uses c n p.SUM_PRODUCT k → IsProduct c (n + 1) m a → AreAdded c m l a all → IsSum c n l all

  -- AddedOthers
  pub data AreAdded (c : Source) : ℕ → ℕ → Expression → Expression → Type 0 where
    none_added : {n k : ℕ} {a : Expression} → Uses c n p.ADDED_OTHERS_NONE k → AreAdded c n (n + 1) a a
    one_added : {n k m l : ℕ} {op : Binary} {at : Place} {a b all : Expression} → Uses c n p.ADDED_OTHERS_PLUS_OR_MINUS k → IsOperator c (n + 1) op at → IsProduct c (n + 2) m b →
        AreAdded c m l (s.Two op at a b) all → AreAdded c n l a all

  -- Product
  pub data IsProduct (c : Source) : ℕ → ℕ → Expression → Type 0 where
    product : {n k m l : ℕ} {a all : Expression} → Uses c n p.PRODUCT_SIGNED k → IsSigned c (n + 1) m a → AreMultiplied c m l a all → IsProduct c n l all

  -- MultipliedOthers
  pub data AreMultiplied (c : Source) : ℕ → ℕ → Expression → Expression → Type 0 where
    no_factor : {n k : ℕ} {a : Expression} → Uses c n p.MULTIPLIED_OTHERS_NONE k → AreMultiplied c n (n + 1) a a
    one_factor : {n k m l : ℕ} {op : Binary} {at : Place} {a b all : Expression} → Uses c n p.MULTIPLIED_OTHERS_PRODUCT_SIGN k → IsOperator c (n + 1) op at → IsSigned c (n + 2) m b →
        AreMultiplied c m l (s.Two op at a b) all → AreMultiplied c n l a all

  -- Signed
  pub data IsSigned (c : Source) : ℕ → ℕ → Expression → Type 0 where
    signed : {n k m : ℕ} {a all : Expression} → Uses c n p.SIGNED_PLUS_OR_MINUS k → IsSigned c (n + 2) m a → IsWithSign c (n + 1) a all → IsSigned c n m all
    unsigned : {n k m : ℕ} {a : Expression} → Uses c n p.SIGNED_PRIMARY k → IsPrimary c (n + 1) m a → IsSigned c n m a

  -- Primary
  pub data IsPrimary (c : Source) : ℕ → ℕ → Expression → Type 0 where
    constant : {n : ℕ} {v : Value} {at : Place} → IsConstant c n v at → IsPrimary c n (n + 1) (s.Literal v at)
    name : {n k : ℕ} {word : Word} → Uses c n p.PRIMARY_NAME k → IsName c k word → IsPrimary c n (n + 1) (s.Name (Plain word))
    qualified : {n k : ℕ} {name : Named} → Uses c n p.PRIMARY_QUALIFIED_NAME k → IsQualified c k name → IsPrimary c n (n + 1) (s.Name name)
    grouped : {n k m : ℕ} {at : Place} {a : Expression} → Uses c n p.PRIMARY_LEFT_PARENTHESIS k → IsAt c k at → IsExpression c (n + 1) m a → IsPrimary c n m (s.Grouped at a)
    retry : {n k : ℕ} {at : Place} → Uses c n p.PRIMARY_RETRY k → IsAt c k at → IsPrimary c n (n + 1) (s.Retry at)
    return_value : {n k : ℕ} {at : Place} → Uses c n p.PRIMARY_RETURN_VALUE k → IsAt c k at → IsPrimary c n (n + 1) (s.ReturnValue at)
    error_status : {n k : ℕ} {at : Place} → Uses c n p.PRIMARY_ERROR_STATUS k → IsAt c k at → IsPrimary c n (n + 1) (s.ErrorStatus at)
    available : {n k j : ℕ} {at : Place} {word : Word} → Uses c n p.PRIMARY_RECORD_TEST k → IsAt c k at → Uses c (n + 1) p.RECORD_TEST_AVAILABLE j → IsTestedName c (n + 2) word →
        IsPrimary c n (n + 3) (s.Available at word)
    locked : {n k j : ℕ} {at : Place} {word : Word} → Uses c n p.PRIMARY_RECORD_TEST k → IsAt c k at → Uses c (n + 1) p.RECORD_TEST_LOCKED j → IsTestedName c (n + 2) word →
        IsPrimary c n (n + 3) (s.Locked at word)
    string : {n k m : ℕ} {at : Place} {a : Expression} {mask : Option Word} → Uses c n p.PRIMARY_STRING k → IsAt c k at → IsExpression c (n + 1) m a →
        IsTextThere c p.STRING_FORMAT_COMMA p.STRING_FORMAT_NONE m mask → IsPrimary c n (m + 1) (s.Text at a mask)
    call : {n k m l : ℕ} {at : Place} {f : Function} {a : Expression} {more : Arguments} → Uses c n p.PRIMARY_FUNCTION k → IsAt c k at → IsFunction c (n + 1) f →
        IsExpression c (n + 2) m a → AreMoreArguments c m l more → IsPrimary c n l (s.Call f at (s.More a more))

  -- MoreExpressions
  pub data AreMoreArguments (c : Source) : ℕ → ℕ → Arguments → Type 0 where
    no_argument : {n k : ℕ} → Uses c n p.MORE_EXPRESSIONS_NONE k → AreMoreArguments c n (n + 1) s.NoMore
    one_argument : {n k m l : ℕ} {a : Expression} {more : Arguments} → Uses c n p.MORE_EXPRESSIONS_COMMA k → IsExpression c (n + 1) m a → AreMoreArguments c m l more →
        AreMoreArguments c n l (s.More a more)

-- the arguments of a call, where the first one is read and the node is that of the others
pub record AreArguments (c : Source) (n end : ℕ) (first : Expression) (all : Arguments) : Type 0 where
  pub more : Arguments
  pub read : AreMoreArguments c n end more
  pub is : all ≡ s.More first more
