-- An assignment statement stores its buffers one by one: an entry for each of them does what the lists of buffers and contents do.
use Rattle.std.proofs.Common.{◌≡◌, refl, sym, ap, ◌∙◌, ℕ, List, [], ◌∷◌, Bool}
use Rattle.database_protocol.specs.declared.answer.Answer.{Answer}
use Rattle.bound_tree.specs.Tree.{Body, Assignment}
use Rattle.block_meaning.specs.Program.{Program}
use Rattle.block_meaning.specs.State.{State, Completion, Normal, Again, Leaves, Nexts, Undoes, Faults, Raises, EndKeys, Returns, Stops, Found, Lost, NotFound, Outcome, Continuation, Done, Suspended, and_then, if_normal}
use Rattle.block_meaning.specs.Frames.{content_of, table_of}
use Rattle.block_meaning.specs.Changes.{assigns_each, locks_content, locks_all, settles, settles_all, or_as_before, buffers_in}
use Rattle.flat_machine.specs.Flat as flat
use Rattle.flat_machine.specs.Flat.{means, after_stack, config, or_contents_back}
use Rattle.client_records.specs.Entries.{lock_entries, store_entries}

-- ---- one part after another

then_nothing : (completion : Completion) (next : Continuation) (s : State) (ans : List Answer) → ((s : State) (ans : List Answer) → next s ans ≡ Done Normal s ans) → if_normal completion next s ans ≡ Done completion s ans
then_nothing Normal next s ans none = none s ans
then_nothing (Again t) next s ans none = refl
then_nothing (Leaves l) next s ans none = refl
then_nothing (Nexts l) next s ans none = refl
then_nothing (Undoes l a r b) next s ans none = refl
then_nothing (Faults c) next s ans none = refl
then_nothing (Raises b) next s ans none = refl
then_nothing (EndKeys b) next s ans none = refl
then_nothing (Found c) next s ans none = refl
then_nothing Lost next s ans none = refl
then_nothing NotFound next s ans none = refl
then_nothing (Returns e) next s ans none = refl
then_nothing (Stops e) next s ans none = refl

-- the second part does nothing
and_nothing : (r : Outcome) (next : Continuation) → ((s : State) (ans : List Answer) → next s ans ≡ Done Normal s ans) → and_then r next ≡ r
and_nothing (Done completion s ans) next none = then_nothing completion next s ans none
and_nothing (Suspended d) next none = refl

if_normal_then : (completion : Completion) (one two both : Continuation) (s : State) (ans : List Answer) → ((s : State) (ans : List Answer) → both s ans ≡ and_then (one s ans) two) → and_then (if_normal completion one s ans) two ≡ if_normal completion both s ans
if_normal_then Normal one two both s ans is = sym (is s ans)
if_normal_then (Again t) one two both s ans is = refl
if_normal_then (Leaves l) one two both s ans is = refl
if_normal_then (Nexts l) one two both s ans is = refl
if_normal_then (Undoes l a r b) one two both s ans is = refl
if_normal_then (Faults c) one two both s ans is = refl
if_normal_then (Raises b) one two both s ans is = refl
if_normal_then (EndKeys b) one two both s ans is = refl
if_normal_then (Found c) one two both s ans is = refl
if_normal_then Lost one two both s ans is = refl
if_normal_then NotFound one two both s ans is = refl
if_normal_then (Returns e) one two both s ans is = refl
if_normal_then (Stops e) one two both s ans is = refl

-- two parts are one
and_then_both : (r : Outcome) (one two both : Continuation) → ((s : State) (ans : List Answer) → both s ans ≡ and_then (one s ans) two) → and_then (and_then r one) two ≡ and_then r both
and_then_both (Done completion s ans) one two both is = if_normal_then completion one two both s ans is
and_then_both (Suspended d) one two both is = refl

-- ---- locks

pub locks_one_by_one : (tree : ℕ → Body) (p : Program) (bs : List ℕ) (ks : List flat.StackEntry) (r : Outcome) → after_stack tree p (lock_entries bs ks) r ≡ after_stack tree p ks (and_then r (locks_all bs))
locks_one_by_one tree p [] ks r = ap (after_stack tree p ks) (sym (and_nothing r (locks_all []) (λ s ans. refl)))
locks_one_by_one tree p (b ∷ bs) ks r =
    let one = λ (s : State) (ans : List Answer). locks_content (content_of b s) (table_of b s) b s ans in
    locks_one_by_one tree p bs ks (and_then r one)
    ∙ ap (after_stack tree p ks) (and_then_both r one (locks_all bs) (locks_all (b ∷ bs)) (λ s ans. refl))

-- ---- storing

-- a buffer is restored, and then those after it
restored_on : (old : State) (b : ℕ) (bs : List ℕ) (completion : Completion) (s : State) (ans : List Answer) →
    or_as_before old bs (or_contents_back (content_of b old ∷ []) (b ∷ []) (Done completion s ans)) ≡ or_as_before old (b ∷ bs) (Done completion s ans)
restored_on old b bs Normal s ans = refl
restored_on old b bs (Again t) s ans = refl
restored_on old b bs (Leaves l) s ans = refl
restored_on old b bs (Nexts l) s ans = refl
restored_on old b bs (Undoes l a r x) s ans = refl
restored_on old b bs (Faults c) s ans = refl
restored_on old b bs (Raises x) s ans = refl
restored_on old b bs (EndKeys x) s ans = refl
restored_on old b bs (Found c) s ans = refl
restored_on old b bs Lost s ans = refl
restored_on old b bs NotFound s ans = refl
restored_on old b bs (Returns e) s ans = refl
restored_on old b bs (Stops e) s ans = refl

restored_after : (old : State) (b : ℕ) (bs : List ℕ) (r : Outcome) → or_as_before old bs (or_contents_back (content_of b old ∷ []) (b ∷ []) r) ≡ or_as_before old (b ∷ bs) r
restored_after old b bs (Done completion s ans) = restored_on old b bs completion s ans
restored_after old b bs (Suspended d) = refl

-- a completion is restored before the next part or after it
restored_if : (old : State) (bs : List ℕ) (next : Continuation) (completion : Completion) (s : State) (ans : List Answer) →
    or_as_before old bs (if_normal completion next s ans) ≡ and_then (or_as_before old bs (Done completion s ans)) (λ s ans. or_as_before old bs (next s ans))
restored_if old bs next Normal s ans = refl
restored_if old bs next (Again t) s ans = refl
restored_if old bs next (Leaves l) s ans = refl
restored_if old bs next (Nexts l) s ans = refl
restored_if old bs next (Undoes l a r x) s ans = refl
restored_if old bs next (Faults c) s ans = refl
restored_if old bs next (Raises x) s ans = refl
restored_if old bs next (EndKeys x) s ans = refl
restored_if old bs next (Found c) s ans = refl
restored_if old bs next Lost s ans = refl
restored_if old bs next NotFound s ans = refl
restored_if old bs next (Returns e) s ans = refl
restored_if old bs next (Stops e) s ans = refl

restored_then : (old : State) (bs : List ℕ) (next : Continuation) (r : Outcome) → or_as_before old bs (and_then r next) ≡ and_then (or_as_before old bs r) (λ s ans. or_as_before old bs (next s ans))
restored_then old bs next (Done completion s ans) = restored_if old bs next completion s ans
restored_then old bs next (Suspended d) = refl

restored_none : (old : State) (completion : Completion) (s : State) (ans : List Answer) → or_as_before old [] (Done completion s ans) ≡ Done completion s ans
restored_none old Normal s ans = refl
restored_none old (Again t) s ans = refl
restored_none old (Leaves l) s ans = refl
restored_none old (Nexts l) s ans = refl
restored_none old (Undoes l a r x) s ans = refl
restored_none old (Faults c) s ans = refl
restored_none old (Raises x) s ans = refl
restored_none old (EndKeys x) s ans = refl
restored_none old (Found c) s ans = refl
restored_none old Lost s ans = refl
restored_none old NotFound s ans = refl
restored_none old (Returns e) s ans = refl
restored_none old (Stops e) s ans = refl

nothing_restored : (old : State) (r : Outcome) → or_as_before old [] r ≡ r
nothing_restored old (Done completion s ans) = restored_none old completion s ans
nothing_restored old (Suspended d) = refl

pub stores_one_by_one : (tree : ℕ → Body) (p : Program) (old : State) (bs : List ℕ) (ks : List flat.StackEntry) (r : Outcome) →
    after_stack tree p (store_entries (λ b. content_of b old) bs ks) r ≡ after_stack tree p ks (and_then (or_as_before old bs r) (settles_all p old bs))
stores_one_by_one tree p old [] ks r =
    ap (after_stack tree p ks) (sym (nothing_restored old r) ∙ sym (and_nothing (or_as_before old [] r) (settles_all p old []) (λ s ans. refl)))
stores_one_by_one tree p old (b ∷ bs) ks r =
    let stored = λ (s : State) (ans : List Answer). or_as_before old (b ∷ bs) (settles p b s ans) in
    stores_one_by_one tree p old bs ks (or_contents_back (content_of b old ∷ []) (b ∷ []) (and_then r (settles p b)))
    ∙ ap (λ x. after_stack tree p ks (and_then x (settles_all p old bs))) (restored_after old b bs (and_then r (settles p b)) ∙ restored_then old (b ∷ bs) (settles p b) r)
    ∙ ap (after_stack tree p ks) (and_then_both (or_as_before old (b ∷ bs) r) stored (settles_all p old bs) (settles_all p old (b ∷ bs)) (λ s ans. refl))

-- ---- the statement

pub assigns_one_by_one : (tree : ℕ → Body) (p : Program) (xs : List Assignment) (retry : Bool) (ks : List flat.StackEntry) (s : State) (ans : List Answer) →
    means tree p (config (flat.Execute (flat.Assigns xs retry)) ks s) ans ≡ means tree p (config (flat.Execute (flat.AssignsEach xs retry)) (lock_entries (buffers_in xs) (store_entries (λ b. content_of b s) (buffers_in xs) ks)) s) ans
assigns_one_by_one tree p xs retry ks s ans =
    let bs = buffers_in xs in
    let r = assigns_each p xs retry s ans in
    sym (locks_one_by_one tree p bs (store_entries (λ b. content_of b s) bs ks) r ∙ stores_one_by_one tree p s bs ks (and_then r (locks_all bs)))
