-- Values of expressions, from left to right.
use Rattle.std.proofs.Common.{◌≡◌, ℕ, ◌+◌, suc, ◌<◌, List, [], ◌∷◌, ◌++◌, length, drop, get_or, Bool, Result, Err, refl, sym, ap, ◌∙◌, subst, add-one, append_assoc}
use Rattle.std.specs.Prelude.{map}
use Rattle.std.proofs.Math.Seq.{drop-cons}
use Rattle.abl_base.specs.declared.value.Value.{Value}
use Rattle.bound_tree.specs.declared.block.BracketValue.{BracketValue as SourceBracketValue}
use Rattle.bound_tree.specs.Tree.{Expr}
use Rattle.bound_tree.specs.Bound.{bracket_value_of, expr_of}
use Rattle.evaluator.specs.declared.fault.EvalFault.{EvalFault}
use Rattle.evaluator.specs.declared.fault.EvalFault.TheVariants.{Fault, NoMemory}
use Rattle.expression_meaning.specs.Env.{Env}
use Rattle.expression_meaning.specs.Evaluate.{evaluate}
use Rattle.expression_meaning.specs.Operators.{Given}
use Rattle.expression_meaning.specs.declared.fault.RunFault.{RunFault}
use Rattle.block_meaning.specs.Lines.{complaint_of}
use Rattle.block_meaning.specs.Program.{Program}
use Rattle.block_meaning.specs.State.{State}
use Rattle.block_meaning.specs.Values.{Evaluated, Gives, Fails, as_evaluated, env_of, value_now, EvaluatedAll, GivesAll, FailsAll, with_value, before_all, values_now}
use Rattle.record_rules.specs.readings.Reading.{EvaluatesAll}

-- values before others
abbrev pub all_after : List Value → EvaluatedAll → EvaluatedAll
all_after vs (GivesAll more) = GivesAll (vs ++ more)
all_after vs (FailsAll c) = FailsAll c

-- the expressions of a bracket
abbrev pub expressions : List SourceBracketValue → List Expr
expressions bs = map (λ x. x.value) (map bracket_value_of bs)

one_more : (vs : List Value) (v : Value) (r : EvaluatedAll) → all_after (vs ++ v ∷ []) r ≡ all_after vs (before_all v r)
one_more vs v (GivesAll ws) = ap (λ (xs : List Value). GivesAll xs) (append_assoc vs (v ∷ []) ws)
one_more vs v (FailsAll c) = refl

rest_from : {A : Type 0} (xs : List A) (i : ℕ) (x : A) → i < length xs → x ≡ get_or xs i x → drop i xs ≡ x ∷ drop (i + 1) xs
rest_from xs i x below is =
    drop-cons xs i x below ∙ ap (λ y. y ∷ drop (suc i) xs) (sym is) ∙ ap (λ j. x ∷ drop j xs) (sym (add-one i))

-- what an expression gives in the surroundings is its value in the state
pub value_in : (p : Program) (e : Expr) (retry : Bool) (s : State) (env : Env) (r : Given) → env_of retry s ≡ env → evaluate p.forms env e ≡ r → value_now p e retry s ≡ as_evaluated r
value_in p e retry s env r same is = ap (λ (x : Env). as_evaluated (evaluate p.forms x e)) same ∙ ap as_evaluated is

-- the values so far, with one more
pub next_value : (p : Program) (bs : List SourceBracketValue) (i : ℕ) (b : SourceBracketValue) (retry : Bool) (s : State) (vs : List Value) (v : Value) → i < length bs → b ≡ get_or bs i b →
    values_now p (expressions bs) retry s ≡ all_after vs (values_now p (expressions (drop i bs)) retry s) → value_now p (expr_of b.value) retry s ≡ Gives v →
    values_now p (expressions bs) retry s ≡ all_after (vs ++ v ∷ []) (values_now p (expressions (drop (i + 1) bs)) retry s)
next_value p bs i b retry s vs v below is before now =
    let rest = values_now p (expressions (drop (i + 1) bs)) retry s in
    before
    ∙ ap (λ (ys : List SourceBracketValue). all_after vs (values_now p (expressions ys) retry s)) (rest_from bs i b below is)
    ∙ ap (λ (r : Evaluated). all_after vs (with_value r (λ w. before_all w rest))) now
    ∙ sym (one_more vs v rest)

-- the fault of the next one
pub next_fault : (p : Program) (bs : List SourceBracketValue) (i : ℕ) (b : SourceBracketValue) (retry : Bool) (s : State) (vs : List Value) (f : RunFault) → i < length bs → b ≡ get_or bs i b →
    values_now p (expressions bs) retry s ≡ all_after vs (values_now p (expressions (drop i bs)) retry s) → value_now p (expr_of b.value) retry s ≡ Fails (complaint_of f) →
    values_now p (expressions bs) retry s ≡ FailsAll (complaint_of f)
next_fault p bs i b retry s vs f below is before now =
    let rest = values_now p (expressions (drop (i + 1) bs)) retry s in
    before
    ∙ ap (λ (ys : List SourceBracketValue). all_after vs (values_now p (expressions ys) retry s)) (rest_from bs i b below is)
    ∙ ap (λ (r : Evaluated). all_after vs (with_value r (λ w. before_all w rest))) now

-- a call that answers a fault of this kind
pub fails : (r : Result (List Value) EvalFault) (fault : EvalFault) (wanted : EvaluatedAll) → r ≡ Err fault → ((f : RunFault) → fault ≡ Fault f → wanted ≡ FailsAll (complaint_of f)) → EvaluatesAll r wanted
fails r (Fault f) wanted e h = subst (λ (y : Result (List Value) EvalFault). EvaluatesAll y wanted) (sym e) (h f refl)
fails r NoMemory wanted e h = subst (λ (y : Result (List Value) EvalFault). EvaluatesAll y wanted) (sym e) tt
