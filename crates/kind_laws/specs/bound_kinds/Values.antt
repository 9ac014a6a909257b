-- The values that well-kinded expressions may have.
use Rattle.std.specs.Prelude.{◌≡◌, Bool, true, ◌&&◌, ◌||◌, List, ℕ, IfSome, Ok, Err}
use Rattle.abl_base.specs.declared.value.Kind.{Kind}
use Rattle.abl_base.specs.declared.value.Value.{Value}
use Rattle.abl_values.specs.Masks.{mask_is_for}
use Rattle.bound_tree.specs.Tree as b
use Rattle.bound_tree.specs.Tree.{Expr}
use Rattle.expression_meaning.specs.Env.{Env}
use Rattle.expression_meaning.specs.Operators.{Given, is_unknown}
use Rattle.bind_names.specs.declared.sort.Sort.{Sort}
use Rattle.bind_names.specs.declared.sort.Sort.TheVariants.{Of, Unknown, Broken}
use Rattle.bind_names.specs.Sorts.{is_whole_kind, may, same_kind, sort_of_value}

-- INTEGER and INT64 are one here: the sign `+` of an INTEGER gives an INT64
abbrev pub is_like : Kind → Kind → Bool
is_like k l = same_kind k l || (is_whole_kind k && is_whole_kind l)

-- the value is one that an expression of the sort may have: one of the kind, or `?`
abbrev pub has_sort : Sort → Value → Bool
has_sort (Of k) v = may (is_like k) (sort_of_value v)
has_sort Unknown v = is_unknown v
has_sort Broken v = is_unknown v

-- the result has the sort, where it is no fault
abbrev pub Has : Sort → Given → Type 0
Has s (Ok v) = has_sort s v ≡ true
Has s (Err fault) = Unit {0}

-- each variable in the expression has a value of its kind, and so has each field of a record that is there
abbrev pub Keeps : Env → Expr → Type 0
Keeps env (b.Literal v) = Unit {0}
Keeps env (b.TheVariable v) = has_sort (Of v.kind) (env.variable v) ≡ true
Keeps env (b.TheField buffer field kind) = IfSome (env.field buffer field) (λ v. has_sort (Of kind) v ≡ true)
Keeps env (b.One op a) = Keeps env a
Keeps env (b.Two op a c) = Keeps env a × Keeps env c
Keeps env (b.Three op a c d) = Keeps env a × Keeps env c × Keeps env d
Keeps env (b.Both a c) = Keeps env a × Keeps env c
Keeps env (b.Either a c) = Keeps env a × Keeps env c
Keeps env (b.IfElse test a c kind) = Keeps env test × Keeps env a × Keeps env c
Keeps env (b.Masked a mask) = Keeps env a
Keeps env (b.IsAvailable buffer) = Unit {0}
Keeps env (b.IsLocked buffer) = Unit {0}
Keeps env b.Retry = Unit {0}
Keeps env b.ErrorStatus = Unit {0}
Keeps env b.ReturnValue = Unit {0}

-- the mask is one for values of this kind; under any mask `?` may be shown
abbrev pub is_masked_by : List ℕ → Value → Bool
is_masked_by mask v = may (mask_is_for mask) (sort_of_value v)
