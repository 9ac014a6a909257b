-- Several assignments, one by one.
use Rattle.std.proofs.Common.{◌≡◌, ℕ, zero, suc, ◌+◌, ◌<◌, ◌≤◌, List, [], ◌∷◌, ◌++◌, length, drop, get_or, Bool, Result, Err, Option, Some, None, refl, sym, ap, ◌∙◌, subst, add-one, arith}
use Rattle.std.specs.Prelude.{map, reverse}
use Rattle.std.proofs.Math.Seq.{drop-cons}
use Rattle.std.proofs.Math.ListN.{drop_of_length-le}
use Rattle.std.proofs.lemmas.List.{reverse-append}
use Rattle.abl_base.specs.declared.value.Value.{Value}
use Rattle.evaluator.specs.declared.fault.EvalFault.{EvalFault}
use Rattle.evaluator.specs.declared.fault.EvalFault.TheVariants.{Fault, NoMemory}
use Rattle.bound_tree.specs.declared.statement.Target.{Target}
use Rattle.bound_tree.specs.declared.statement.Assignment.{Assignment as SourceAssignment}
use Rattle.bound_tree.specs.Tree.{Assignment, Given}
use Rattle.bound_tree.specs.Bound.{assignment_of}
use Rattle.database_protocol.specs.declared.answer.Answer.{Answer}
use Rattle.block_meaning.specs.Program.{Program}
use Rattle.block_meaning.specs.State.{State, Completion, Normal, Again, Leaves, Nexts, Undoes, Faults, Raises, EndKeys, Returns, Stops, Found, Lost, NotFound, Outcome, Done, Suspended, Continuation, completes, and_then}
use Rattle.block_meaning.specs.Changes.{assigns_one, assigns_each, buffer_first, buffers_in}
use Rattle.block_meaning.specs.Streams.{pairs_of}
use Rattle.client_values.specs.Ends.{Ends}
use Rattle.client_values.specs.Given.{pair_of, first_buffer}

here : {A : Type 0} (xs : List A) (i : ℕ) (x : A) → i < length xs → x ≡ get_or xs i x → drop i xs ≡ x ∷ drop (i + 1) xs
here {A = A} xs i x below is =
    drop-cons xs i x below ∙ ap (λ (y : A). y ∷ drop (suc i) xs) (sym is) ∙ ap (λ j. x ∷ drop j xs) (sym (add-one i))

-- ---- the rest after the first few

each_from : (p : Program) (all : List SourceAssignment) (i : ℕ) (x : SourceAssignment) (retry : Bool) (s : State) (ans : List Answer) → i < length all → x ≡ get_or all i x →
    assigns_each p (map assignment_of (drop i all)) retry s ans ≡ and_then (assigns_one p (assignment_of x).target (assignment_of x).right retry s ans) (assigns_each p (map assignment_of (drop (i + 1) all)) retry)
each_from p all i x retry s ans below is = ap (λ ys. assigns_each p (map assignment_of ys) retry s ans) (here all i x below is)

pub next_pair : (p : Program) (all : List SourceAssignment) (i : ℕ) (x : SourceAssignment) (retry : Bool) (first s s' : State) (ans : List Answer) → i < length all → x ≡ get_or all i x →
    assigns_each p (map assignment_of all) retry first ans ≡ assigns_each p (map assignment_of (drop i all)) retry s ans →
    assigns_one p (assignment_of x).target (assignment_of x).right retry s ans ≡ Done Normal s' ans →
    assigns_each p (map assignment_of all) retry first ans ≡ assigns_each p (map assignment_of (drop (i + 1) all)) retry s' ans
next_pair p all i x retry first s s' ans below is before now =
    before ∙ each_from p all i x retry s ans below is ∙ ap (λ r. and_then r (assigns_each p (map assignment_of (drop (i + 1) all)) retry)) now

pub pair_fault : {A : Type 0} (p : Program) (all : List SourceAssignment) (i : ℕ) (x : SourceAssignment) (retry : Bool) (first s s' : State) (ans : List Answer) (r : Result A EvalFault) (fault : EvalFault) → r ≡ Err fault →
    i < length all → x ≡ get_or all i x →
    assigns_each p (map assignment_of all) retry first ans ≡ assigns_each p (map assignment_of (drop i all)) retry s ans →
    Ends {A = A} (Err fault) (assigns_one p (assignment_of x).target (assignment_of x).right retry s ans) s' ans →
    Ends r (assigns_each p (map assignment_of all) retry first ans) s' ans
pair_fault {A = A} p all i x retry first s s' ans r (Fault f) e below is before now =
    subst (λ (y : Result A EvalFault). Ends y (assigns_each p (map assignment_of all) retry first ans) s' ans) (sym e)
    (before ∙ each_from p all i x retry s ans below is ∙ ap (λ r. and_then r (assigns_each p (map assignment_of (drop (i + 1) all)) retry)) now)
pair_fault {A = A} p all i x retry first s s' ans r NoMemory e below is before now =
    subst (λ (y : Result A EvalFault). Ends y (assigns_each p (map assignment_of all) retry first ans) s' ans) (sym e) tt

pub last_pair : (p : Program) (all : List SourceAssignment) (i : ℕ) (retry : Bool) (first s : State) (ans : List Answer) → length all ≤ i →
    assigns_each p (map assignment_of all) retry first ans ≡ assigns_each p (map assignment_of (drop i all)) retry s ans →
    assigns_each p (map assignment_of all) retry first ans ≡ Done Normal s ans
last_pair p all i retry first s ans past before = before ∙ ap (λ ys. assigns_each p (map assignment_of ys) retry s ans) (drop_of_length-le all past)

-- ---- no buffers

pub next_target : (all : List SourceAssignment) (i : ℕ) (x : SourceAssignment) → i < length all → x ≡ get_or all i x → ((bs : List ℕ) → buffer_first x.target bs ≡ bs) →
    buffers_in (map assignment_of all) ≡ buffers_in (map assignment_of (drop i all)) → buffers_in (map assignment_of all) ≡ buffers_in (map assignment_of (drop (i + 1) all))
next_target all i x below is none before = before ∙ ap (λ ys. buffers_in (map assignment_of ys)) (here all i x below is) ∙ none _

pub last_target : (all : List SourceAssignment) (i : ℕ) → length all ≤ i → buffers_in (map assignment_of all) ≡ buffers_in (map assignment_of (drop i all)) → buffers_in (map assignment_of all) ≡ []
last_target all i past before = before ∙ ap (λ ys. buffers_in (map assignment_of ys)) (drop_of_length-le all past)

-- ---- given values

-- nothing follows a normal completion
normal_then : (c : Completion) (s : State) (ans : List Answer) (go : Continuation) → and_then (Done c s ans) go ≡ and_then (and_then (Done c s ans) (completes Normal)) go
normal_then Normal s ans go = refl
normal_then (Again t) s ans go = refl
normal_then (Leaves l) s ans go = refl
normal_then (Nexts l) s ans go = refl
normal_then (Undoes l a r b) s ans go = refl
normal_then (Faults c) s ans go = refl
normal_then (Raises b) s ans go = refl
normal_then (EndKeys b) s ans go = refl
normal_then (Found c) s ans go = refl
normal_then Lost s ans go = refl
normal_then NotFound s ans go = refl
normal_then (Returns e) s ans go = refl
normal_then (Stops e) s ans go = refl

done_then : (r : Outcome) (go : Continuation) → and_then r go ≡ and_then (and_then r (completes Normal)) go
done_then (Done c s ans) go = normal_then c s ans go
done_then (Suspended d) go = refl

pairs_none : (ts : List (Option Target)) → pairs_of ts [] ≡ []
pairs_none [] = refl
pairs_none (t ∷ ts) = refl

pairs_split : (t : Option Target) (v : Option Value) (ts : List (Option Target)) (vs : List (Option Value)) → pairs_of (t ∷ ts) (v ∷ vs) ≡ pair_of t v ++ pairs_of ts vs
pairs_split None v ts vs = refl
pairs_split (Some t) None ts vs = refl
pairs_split (Some t) (Some v) ts vs = refl

each_append : (p : Program) (t : Option Target) (v : Option Value) (more : List Assignment) (retry : Bool) (s : State) (ans : List Answer) →
    assigns_each p (pair_of t v ++ more) retry s ans ≡ and_then (assigns_each p (pair_of t v) retry s ans) (assigns_each p more retry)
each_append p None v more retry s ans = refl
each_append p (Some t) None more retry s ans = refl
each_append p (Some t) (Some v) more retry s ans = done_then (assigns_one p t (Given v) retry s ans) (assigns_each p more retry)

given_from : (p : Program) (ts : List (Option Target)) (i : ℕ) (t : Option Target) (v : Option Value) (vs : List (Option Value)) (retry : Bool) (s : State) (ans : List Answer) → i < length ts → t ≡ get_or ts i t →
    assigns_each p (pairs_of (drop i ts) (v ∷ vs)) retry s ans ≡ and_then (assigns_each p (pair_of t v) retry s ans) (assigns_each p (pairs_of (drop (i + 1) ts) vs) retry)
given_from p ts i t v vs retry s ans below is =
    ap (λ ys. assigns_each p (pairs_of ys (v ∷ vs)) retry s ans) (here ts i t below is)
    ∙ ap (λ ys. assigns_each p ys retry s ans) (pairs_split t v (drop (i + 1) ts) vs)
    ∙ each_append p t v (pairs_of (drop (i + 1) ts) vs) retry s ans

popped : {A : Type 0} (xs ys : List A) (x : A) → xs ≡ ys ++ x ∷ [] → reverse xs ≡ x ∷ reverse ys
popped xs ys x e = ap reverse e ∙ reverse-append ys (x ∷ [])

pub next_given : (p : Program) (ts : List (Option Target)) (i : ℕ) (t : Option Target) (v : Option Value) (xs ys : List (Option Value)) (retry : Bool) (all : Outcome) (s s' : State) (ans : List Answer) → i < length ts → t ≡ get_or ts i t →
    xs ≡ ys ++ v ∷ [] → all ≡ assigns_each p (pairs_of (drop i ts) (reverse xs)) retry s ans → assigns_each p (pair_of t v) retry s ans ≡ Done Normal s' ans →
    all ≡ assigns_each p (pairs_of (drop (i + 1) ts) (reverse ys)) retry s' ans
next_given p ts i t v xs ys retry all s s' ans below is e before now =
    before ∙ ap (λ zs. assigns_each p (pairs_of (drop i ts) zs) retry s ans) (popped xs ys v e)
    ∙ given_from p ts i t v (reverse ys) retry s ans below is ∙ ap (λ r. and_then r (assigns_each p (pairs_of (drop (i + 1) ts) (reverse ys)) retry)) now

pub given_fault : {A : Type 0} (p : Program) (ts : List (Option Target)) (i : ℕ) (t : Option Target) (v : Option Value) (xs ys : List (Option Value)) (retry : Bool) (all : Outcome) (s s' : State) (ans : List Answer) (r : Result A EvalFault) (fault : EvalFault) → r ≡ Err fault →
    i < length ts → t ≡ get_or ts i t → xs ≡ ys ++ v ∷ [] → all ≡ assigns_each p (pairs_of (drop i ts) (reverse xs)) retry s ans →
    Ends {A = A} (Err fault) (assigns_each p (pair_of t v) retry s ans) s' ans → Ends r all s' ans
given_fault {A = A} p ts i t v xs ys retry all s s' ans r (Fault f) fails below is e before now =
    subst (λ (y : Result A EvalFault). Ends y all s' ans) (sym fails)
    (before ∙ ap (λ zs. assigns_each p (pairs_of (drop i ts) zs) retry s ans) (popped xs ys v e)
    ∙ given_from p ts i t v (reverse ys) retry s ans below is ∙ ap (λ r. and_then r (assigns_each p (pairs_of (drop (i + 1) ts) (reverse ys)) retry)) now)
given_fault {A = A} p ts i t v xs ys retry all s s' ans r NoMemory fails below is e before now = subst (λ (y : Result A EvalFault). Ends y all s' ans) (sym fails) tt

pub last_given : (p : Program) (ts : List (Option Target)) (i : ℕ) (vs : List (Option Value)) (retry : Bool) (all : Outcome) (s : State) (ans : List Answer) → length ts ≤ i → all ≡ assigns_each p (pairs_of (drop i ts) vs) retry s ans → all ≡ Done Normal s ans
last_given p ts i vs retry all s ans past before = before ∙ ap (λ ys. assigns_each p (pairs_of ys vs) retry s ans) (drop_of_length-le ts past)

pub no_more_given : (p : Program) (ts : List (Option Target)) (i : ℕ) (xs : List (Option Value)) (retry : Bool) (all : Outcome) (s : State) (ans : List Answer) → xs ≡ [] → all ≡ assigns_each p (pairs_of (drop i ts) (reverse xs)) retry s ans → all ≡ Done Normal s ans
no_more_given p ts i xs retry all s ans e before =
    before ∙ ap (λ zs. assigns_each p (pairs_of (drop i ts) (reverse zs)) retry s ans) e ∙ ap (λ ys. assigns_each p ys retry s ans) (pairs_none (drop i ts))

-- ---- no buffers of given values

option_first : (t : Option Target) (v : Option Value) (ts : List (Option Target)) (vs : List (Option Value)) → ((bs : List ℕ) → first_buffer t bs ≡ bs) → buffers_in (pairs_of (t ∷ ts) (v ∷ vs)) ≡ buffers_in (pairs_of ts vs)
option_first None v ts vs none = refl
option_first (Some t) None ts vs none = refl
option_first (Some t) (Some v) ts vs none = none _

buffers_after : (t : Option Target) (ts : List (Option Target)) → ((bs : List ℕ) → first_buffer t bs ≡ bs) → ((vs : List (Option Value)) → buffers_in (pairs_of ts vs) ≡ []) → (vs : List (Option Value)) → buffers_in (pairs_of (t ∷ ts) vs) ≡ []
buffers_after t ts none rest [] = refl
buffers_after t ts none rest (v ∷ vs) = option_first t v ts vs none ∙ rest vs

pub next_none : (all : List (Option Target)) (i : ℕ) (t : Option Target) → i < length all → t ≡ get_or all i t → ((bs : List ℕ) → first_buffer t bs ≡ bs) →
    (((vs : List (Option Value)) → buffers_in (pairs_of (drop i all) vs) ≡ []) → (vs : List (Option Value)) → buffers_in (pairs_of all vs) ≡ []) →
    ((vs : List (Option Value)) → buffers_in (pairs_of (drop (i + 1) all) vs) ≡ []) → (vs : List (Option Value)) → buffers_in (pairs_of all vs) ≡ []
next_none all i t below is none before rest =
    before (λ vs. ap (λ ys. buffers_in (pairs_of ys vs)) (here all i t below is) ∙ buffers_after t (drop (i + 1) all) none rest vs)

pub last_none : (all : List (Option Target)) (i : ℕ) → length all ≤ i → (((vs : List (Option Value)) → buffers_in (pairs_of (drop i all) vs) ≡ []) → (vs : List (Option Value)) → buffers_in (pairs_of all vs) ≡ []) → (vs : List (Option Value)) → buffers_in (pairs_of all vs) ≡ []
last_none all i past before = before (λ vs. ap (λ ys. buffers_in (pairs_of ys vs)) (drop_of_length-le all past))

-- ---- the element at an index

item_at : {A : Type 0} (xs : List A) (i : ℕ) (x : A) → i < length xs → get_or xs i x ≡ get_or xs i (get_or xs i x)
item_at [] i x below = absurd (omega (arith, below))
item_at (y ∷ xs) zero x below = refl
item_at (y ∷ xs) (suc i) x below = item_at xs i x (omega (arith, below))

pub next_none_at : (all : List (Option Target)) (i : ℕ) (d : Option Target) → i < length all → ((bs : List ℕ) → first_buffer (get_or all i d) bs ≡ bs) →
    (((vs : List (Option Value)) → buffers_in (pairs_of (drop i all) vs) ≡ []) → (vs : List (Option Value)) → buffers_in (pairs_of all vs) ≡ []) →
    ((vs : List (Option Value)) → buffers_in (pairs_of (drop (i + 1) all) vs) ≡ []) → (vs : List (Option Value)) → buffers_in (pairs_of all vs) ≡ []
next_none_at all i d below none before = next_none all i (get_or all i d) below (item_at all i d below) none before

pub next_given_at : (p : Program) (ts : List (Option Target)) (i : ℕ) (d : Option Target) (v : Option Value) (xs ys : List (Option Value)) (retry : Bool) (all : Outcome) (s s' : State) (ans : List Answer) → i < length ts →
    xs ≡ ys ++ v ∷ [] → all ≡ assigns_each p (pairs_of (drop i ts) (reverse xs)) retry s ans → assigns_each p (pair_of (get_or ts i d) v) retry s ans ≡ Done Normal s' ans →
    all ≡ assigns_each p (pairs_of (drop (i + 1) ts) (reverse ys)) retry s' ans
next_given_at p ts i d v xs ys retry all s s' ans below e before now = next_given p ts i (get_or ts i d) v xs ys retry all s s' ans below (item_at ts i d below) e before now

pub given_fault_at : (A : Type 0) (p : Program) (ts : List (Option Target)) (i : ℕ) (d : Option Target) (v : Option Value) (xs ys : List (Option Value)) (retry : Bool) (all : Outcome) (s s' : State) (ans : List Answer) (r : Result A EvalFault) (fault : EvalFault) → r ≡ Err fault →
    i < length ts → xs ≡ ys ++ v ∷ [] → all ≡ assigns_each p (pairs_of (drop i ts) (reverse xs)) retry s ans →
    Ends {A = A} (Err fault) (assigns_each p (pair_of (get_or ts i d) v) retry s ans) s' ans → Ends r all s' ans
given_fault_at A p ts i d v xs ys retry all s s' ans r fault fails below e before now = given_fault p ts i (get_or ts i d) v xs ys retry all s s' ans r fault fails below (item_at ts i d below) e before now
