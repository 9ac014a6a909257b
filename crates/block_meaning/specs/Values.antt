-- Values of expressions in a state.
use Rattle.std.specs.Prelude.{ℕ, Bool, true, false, List, [], ◌∷◌, ◌++◌, Option, Some, None, Result, Ok, Err, slice_index_or, replicate}
use Rattle.abl_base.specs.declared.value.Value.{Value}
use Rattle.abl_base.specs.declared.value.Value.TheVariants.{Unknown}
use Rattle.abl_base.specs.declared.value.Kind.{Kind}
use Rattle.abl_values.specs.declared.arithmetic.ArithFault.{ArithFault}
use Rattle.abl_values.specs.Fit.{fitted}
use Rattle.abl_values.specs.Texts.{plain_text, export_text}
use Rattle.bound_tree.specs.Tree.{Expr, Item, Shows, Skips, Spaces}
use Rattle.expression_meaning.specs.Env.{Env}
use Rattle.expression_meaning.specs.Operators.{Given}
use Rattle.expression_meaning.specs.Evaluate.{evaluate}
use Rattle.block_meaning.specs.Program.{Program}
use Rattle.block_meaning.specs.Lines.{Complaint, OutOfRange, complaint_of}
use Rattle.block_meaning.specs.State.{State, Content, Empty, Record, Pending, Continuation, Done, Faults}
use Rattle.block_meaning.specs.Frames.{value_of, content_of, buffer_at}

-- ---- the surroundings of an expression

-- a field of the content of a buffer
abbrev pub field_in : ℕ → Content → Option Value
field_in f Empty = None
field_in f (Record row values held made) = Some (slice_index_or values f Unknown)
field_in f (Pending values since made) = Some (slice_index_or values f Unknown)

-- AVAILABLE
abbrev pub is_available : Content → Bool
is_available Empty = false
is_available (Record row values held made) = true
is_available (Pending values since made) = true

-- what an expression reads in a state, with this value of RETRY
abbrev pub env_of : Bool → State → Env
env_of retry s = record {
  variable = λ x. value_of x s;
  field = λ b f. field_in f (content_of b s);
  available = λ b. is_available (content_of b s);
  locked = λ b. (buffer_at b s).locked;
  retry = retry;
  error_status = s.status;
  return_value = s.returned;
}

-- ---- one value

-- the value of an expression, or why it has none
pub data Evaluated : Type 0 where
  Gives : (value : Value) → Evaluated
  Fails : (complaint : Complaint) → Evaluated

-- the complaint of a failed evaluation
abbrev pub as_evaluated : Given → Evaluated
as_evaluated (Ok v) = Gives v
as_evaluated (Err fault) = Fails (complaint_of fault)

-- the value of an expression, with this value of RETRY
abbrev pub value_now : Program → Expr → Bool → State → Evaluated
value_now p e retry s = as_evaluated (evaluate p.forms (env_of retry s) e)

-- a function of the value
abbrev pub bind : Evaluated → (Value → Evaluated) → Evaluated
bind (Gives v) go = go v
bind (Fails c) go = Fails c

-- an arithmetic overflow is out of range
abbrev pub or_range : Result Value ArithFault → Evaluated
or_range (Ok v) = Gives v
or_range (Err fault) = Fails OutOfRange

-- a value converted to the kind of its target
abbrev pub fit : Kind → Value → Evaluated
fit kind v = or_range (fitted v kind)

-- continues with a value; without one the statement fails
abbrev pub given : Evaluated → (Value → Continuation) → Continuation
given (Gives v) go s ans = go v s ans
given (Fails c) go s ans = Done (Faults (Some c)) s ans

-- evaluates an expression, and continues with its value
abbrev pub evaluates : Program → Expr → Bool → (Value → Continuation) → Continuation
evaluates p e retry go s ans = given (value_now p e retry s) go s ans

-- ---- several values, from left to right

-- the values of several expressions, or the first failure
pub data EvaluatedAll : Type 0 where
  GivesAll : (values : List Value) → EvaluatedAll
  FailsAll : (complaint : Complaint) → EvaluatedAll

-- a function of the first
abbrev pub with_value : Evaluated → (Value → EvaluatedAll) → EvaluatedAll
with_value (Gives v) go = go v
with_value (Fails c) go = FailsAll c

-- prepends a value
abbrev pub before_all : Value → EvaluatedAll → EvaluatedAll
before_all v (GivesAll vs) = GivesAll (v ∷ vs)
before_all v (FailsAll c) = FailsAll c

-- the values of expressions
abbrev pub values_now : Program → List Expr → Bool → State → EvaluatedAll
values_now p [] retry s = GivesAll []
values_now p (e ∷ es) retry s = with_value (value_now p e retry s) (λ v. before_all v (values_now p es retry s))

-- continues with values
abbrev pub given_all : EvaluatedAll → (List Value → Continuation) → Continuation
given_all (GivesAll vs) go s ans = go vs s ans
given_all (FailsAll c) go s ans = Done (Faults (Some c)) s ans

-- evaluates expressions, and continues with their values
abbrev pub all_values : Program → List Expr → Bool → (List Value → Continuation) → Continuation
all_values p es retry go s ans = given_all (values_now p es retry s) go s ans

-- ---- texts

-- the texts of values, with a blank between
abbrev pub spaced : (Value → List ℕ) → List Value → List ℕ
spaced text [] = []
spaced text (v ∷ []) = text v
spaced text (v ∷ w ∷ vs) = text v ++ 32 ∷ spaced text (w ∷ vs)

-- the same as a line
abbrev pub text_line : (Value → List ℕ) → List Value → List ℕ
text_line text vs = spaced text vs ++ 10 ∷ []

-- the line of an EXPORT
abbrev pub export_line : List Value → List ℕ
export_line vs = text_line export_text vs

-- the line of a MESSAGE
abbrev pub message_line : List Value → List ℕ
message_line vs = text_line plain_text vs

-- the text of a PUT, unless an item fails
pub data Text : Type 0 where
  IsText : (bytes : List ℕ) → Text
  HasFault : (complaint : Complaint) → Text

-- the text of an item: plain, or under its mask
abbrev pub shown : Program → Option (List ℕ) → Value → List ℕ
shown p None v = plain_text v
shown p (Some mask) v = p.forms.masked mask v

-- prepends bytes
abbrev pub before_text : List ℕ → Text → Text
before_text bytes (IsText more) = IsText (bytes ++ more)
before_text bytes (HasFault c) = HasFault c

-- prepends the text of a value
abbrev pub with_shown : Evaluated → (Value → List ℕ) → Text → Text
with_shown (Gives v) show more = before_text (show v) more
with_shown (Fails c) show more = HasFault c

-- the text of all items
abbrev pub put_text : Program → List Item → Bool → State → Text
put_text p [] retry s = IsText []
put_text p (Shows e mask ∷ items) retry s = with_shown (value_now p e retry s) (shown p mask) (put_text p items retry s)
put_text p (Skips n ∷ items) retry s = before_text (replicate n 10) (put_text p items retry s)
put_text p (Spaces n ∷ items) retry s = before_text (replicate n 32) (put_text p items retry s)

-- continues with a text
abbrev pub given_text : Text → (List ℕ → Continuation) → Continuation
given_text (IsText bytes) go s ans = go bytes s ans
given_text (HasFault c) go s ans = Done (Faults (Some c)) s ans
