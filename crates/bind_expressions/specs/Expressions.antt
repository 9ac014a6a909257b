-- What an expression is bound to, its sort, the rules that it breaks, and the buffers that it names.
use Rattle.std.specs.Prelude.{ℕ, ◌+◌, Bool, false, not, ◌&&◌, ◌==◌, nat_lt, nat_le, if◌then◌else◌, List, [], ◌∷◌, ◌++◌, length, slice_index_or, Option, Some, None, pos, neg_ℤ}
use Rattle.std.specs.Option.{is_some}
use Rattle.abl_base.specs.declared.place.Place.{Place}
use Rattle.abl_base.specs.declared.rule.Rule.TheVariants.{Y4, Y5, Y6, Y7, Y8, Y12}
use Rattle.abl_base.specs.declared.value.Kind.{Kind}
use Rattle.abl_base.specs.declared.value.Kind.TheVariants.{Character, Logical}
use Rattle.abl_base.specs.declared.value.Value.TheVariants as value
use Rattle.bound_tree.specs.declared.expression.Unary.TheVariants as one
use Rattle.bound_tree.specs.declared.expression.Binary.TheVariants as two
use Rattle.bound_tree.specs.declared.expression.Ternary.TheVariants as three
use Rattle.bound_tree.specs.Tree as b
use Rattle.bound_tree.specs.Tree.{Expr}
use Rattle.syntax_tree.specs.Syntax as s
use Rattle.syntax_tree.specs.declared.name.Word.{Word}
use Rattle.syntax_tree.specs.Syntax.{Expression, Arguments, NoMore, More, named_at, starts_at}
use Rattle.syntax_tree.specs.declared.word.Function.{Function}
use Rattle.syntax_tree.specs.declared.word.Function.TheVariants as f
use Rattle.bind_names.specs.declared.names.NamedBuffer.{NamedBuffer}
use Rattle.bind_names.specs.declared.names.NamingKind.TheVariants.{Free}
use Rattle.bind_names.specs.declared.sort.Sort.{Sort}
use Rattle.bind_names.specs.declared.sort.Sort.TheVariants.{Of, Broken}
use Rattle.bind_names.specs.Judged.{Judged, unless, fine, broken, made, made_of, breaking, naming}
use Rattle.bind_names.specs.Sorts.{is_broken, may_be_logical, may_be_number, fits, sort_of_value, result_sort, both_logical, branch_sort, if_sort, negated, kind_in, sort_or_broken, mask_fits, fewest, most, takes, kind_of_function}
use Rattle.bind_names.specs.Names.{Scene, Meaning, TheVariable, TheField, TheBuffer, Nothing, names_it, meaning, buffer, number_of}

-- a bound expression with its sort
pub record Typed : Type 0 where
  pub expr : Expr
  pub sort : Sort

abbrev pub typed : Expr → Sort → Typed
typed e s = record { expr = e; sort = s }

-- replaces an expression that breaks a rule
abbrev pub no_value : Typed
no_value = typed (b.Literal value.Unknown) Broken

-- ---- names as values: a buffer is none (Y8)

abbrev pub value_of : Scene → Place → Meaning → Judged Typed
value_of w place (TheVariable x mask) = fine (typed (b.TheVariable x) (Of x.kind))
value_of w place (TheField buffer field kind mask) = fine (typed (b.TheField buffer field kind) (Of kind))
value_of w place (TheBuffer buffer) = naming (names_it w buffer Free false place) (broken no_value Y8 place)
value_of w place Nothing = fine no_value

-- the judgement of a name as a value, by what it means
abbrev pub of_meaning : {A : Type 0} → Judged Meaning → (Meaning → Judged A) → Judged A
of_meaning m use_it =
    let a = use_it m.is in
    record { is = a.is; breaks = m.breaks ++ a.breaks; names = m.names ++ a.names }

-- ---- operators: Y4 at the operator where the operands do not fit

abbrev pub operator : (Expr → Expr → Expr) → (Sort → Sort → Option Sort) → Place → Judged Typed → Judged Typed → Judged Typed
operator build sorts place x y =
    let s = sorts x.is.sort y.is.sort in
    breaking (made_of (λ x y. typed (build x.expr y.expr) (sort_or_broken s)) x y) (unless (is_some s) Y4 place)

-- one operand, which has to pass the test
abbrev pub sign : (Expr → Expr) → (Sort → Bool) → (Sort → Sort) → Place → Judged Typed → Judged Typed
sign build test sorts place x =
    breaking (made (λ x. typed (build x.expr) (if test x.sort then sorts x.sort else Broken)) x) (unless (test x.is.sort) Y4 place)

-- broken stays broken
abbrev pub logical_unless_broken : Sort → Sort
logical_unless_broken x = if is_broken x then Broken else Of Logical

-- ---- conditions: Y6 at their first token

abbrev pub conditional : Place → Judged Typed → Judged Typed
conditional place x = breaking x (unless (may_be_logical x.is.sort) Y6 place)

abbrev pub if_expr : Typed → Typed → Typed → Option Sort → Typed
if_expr x y z s = typed (b.IfElse x.expr y.expr z.expr (kind_in (if_sort x.sort s))) (if_sort x.sort s)

-- the branches fit (Y4 at IF) unless one is broken
abbrev pub if_else : Place → Judged Typed → Judged Typed → Judged Typed → Judged Typed
if_else place x y z =
    let s = branch_sort y.is.sort z.is.sort in
    record {
      is = if_expr x.is y.is z.is s;
      breaks = x.breaks ++ (y.breaks ++ (z.breaks ++ unless (is_some s) Y4 place));
      names = x.names ++ (y.names ++ z.names);
    }

-- ---- STRING: Y12 at a mask that does not fit

abbrev pub text : Option Word → Judged Typed → Judged Typed
text None x = made (λ x. typed (b.One one.ToText x.expr) (if is_broken x.sort then Broken else Of Character)) x
text (Some mask) x =
    let good = mask_fits mask.spelling x.is.sort in
    breaking (made (λ x. typed (b.Masked x.expr mask.spelling) (if good && not (is_broken x.sort) then Of Character else Broken)) x) (unless good Y12 mask.at)

-- ---- functions: Y7 at the function where arguments are too few, at the first one too many, and at one of a wrong kind

abbrev pub argument : Function → ℕ → Place → Judged Typed → Judged Typed
argument x i place a = breaking a (unless (if nat_lt i (most x) then takes x i a.is.sort else not (i == most x)) Y7 place)

abbrev pub all_fit : Function → ℕ → List Typed → Bool
all_fit x i [] = nat_le (fewest x) i && nat_le i (most x)
all_fit x i (a ∷ as_) = takes x i a.sort && (not (is_broken a.sort) && all_fit x (i + 1) as_)

abbrev pub exprs : List Typed → List Expr
exprs [] = []
exprs (a ∷ as_) = a.expr ∷ exprs as_

-- the argument with this number, or `other` if there is none
abbrev pub nth : List Expr → ℕ → Expr → Expr
nth es i other = slice_index_or es i other

abbrev pub missing : Expr
missing = b.Literal value.Unknown

abbrev pub comma : Expr
comma = b.Literal (value.Text (44 ∷ []))

abbrev pub the_rest : Expr
the_rest = b.Literal (value.Int64 (neg_ℤ (pos 1)))

abbrev pub call : Function → List Expr → Expr
call f.Integer es = b.One one.ToInteger (nth es 0 missing)
call f.Int64 es = b.One one.ToInt64 (nth es 0 missing)
call f.Decimal es = b.One one.ToDecimal (nth es 0 missing)
call f.Substring es = b.Three three.Substring (nth es 0 missing) (nth es 1 missing) (nth es 2 the_rest)
call f.Length es = b.One one.Length (nth es 0 missing)
call f.Entry es = b.Three three.Entry (nth es 0 missing) (nth es 1 missing) (nth es 2 comma)
call f.NumEntries es = b.Two two.NumEntries (nth es 0 missing) (nth es 1 comma)
call f.Date es = b.Three three.DateOf (nth es 0 missing) (nth es 1 missing) (nth es 2 missing)
call f.Year es = b.One one.Year (nth es 0 missing)
call f.Month es = b.One one.Month (nth es 0 missing)
call f.Day es = b.One one.Day (nth es 0 missing)

abbrev pub called : Function → Place → Judged (List Typed) → Judged Typed
called x place as_ =
    breaking (made (λ as_. typed (call x (exprs as_)) (if all_fit x 0 as_ then Of (kind_of_function x) else Broken)) as_)
    (unless (nat_le (fewest x) (length as_.is)) Y7 place)

-- ---- AVAILABLE and LOCKED

abbrev pub test_of : Scene → (ℕ → Expr) → Judged (Option NamedBuffer) → Judged Typed
test_of w build x = made (λ found. elim found as (λ _. Typed) [ None ↦ no_value | Some it ↦ typed (build (number_of w found)) (Of Logical) ]) x

abbrev mutual
  -- WHAT AN EXPRESSION IS BOUND TO
  pub expression : Scene → Expression → Judged Typed
  expression w (s.Literal v place) = fine (typed (b.Literal v) (sort_of_value v))
  expression w (s.Name n) = of_meaning (meaning w n) (value_of w (named_at n))
  expression w (s.Grouped place a) = expression w a
  expression w (s.Plus place a) = sign (b.One one.Positive) may_be_number (λ x. x) place (expression w a)
  expression w (s.Minus place a) = sign (b.One one.Negative) may_be_number negated place (expression w a)
  expression w (s.Not place a) = sign (b.One one.Not) may_be_logical logical_unless_broken place (expression w a)
  expression w (s.Two op place a c) = operator (b.Two op) (result_sort op) place (expression w a) (expression w c)
  expression w (s.And place a c) = operator b.Both both_logical place (expression w a) (expression w c)
  expression w (s.Or place a c) = operator b.Either both_logical place (expression w a) (expression w c)
  expression w (s.If place test one other) = if_else place (conditional (starts_at test) (expression w test)) (expression w one) (expression w other)
  expression w (s.Available place word) = test_of w b.IsAvailable (buffer w Free false word)
  expression w (s.Locked place word) = test_of w b.IsLocked (buffer w Free false word)
  expression w (s.Retry place) = fine (typed b.Retry (Of Logical))
  expression w (s.ReturnValue place) = fine (typed b.ReturnValue (Of Character))
  expression w (s.ErrorStatus place) = fine (typed b.ErrorStatus (Of Logical))
  expression w (s.Text place a mask) = text mask (expression w a)
  expression w (s.Call x place as_) = called x place (arguments w x 0 as_)

  pub arguments : Scene → Function → ℕ → Arguments → Judged (List Typed)
  arguments w x i NoMore = fine []
  arguments w x i (More e rest) = made_of (λ a as_. a ∷ as_) (argument x i (starts_at e) (expression w e)) (arguments w x (i + 1) rest)

-- a condition
abbrev pub condition : Scene → Expression → Judged Typed
condition w e = conditional (starts_at e) (expression w e)

-- a value for a target of the kind: Y5 at its first token
abbrev pub value_for : Scene → Kind → Expression → Judged Typed
value_for w kind e =
    let x = expression w e in
    breaking x (unless (fits x.is.sort kind) Y5 (starts_at e))

-- a number, as required by TO and BY
abbrev pub number : Scene → Expression → Judged Typed
number w e =
    let x = expression w e in
    breaking x (unless (may_be_number x.is.sort) Y5 (starts_at e))
