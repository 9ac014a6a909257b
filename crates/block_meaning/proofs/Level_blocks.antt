-- Completions, UNDO and the end of an iteration ask for Leave and Back of open levels only.
use Rattle.std.proofs.Common.{◌≡◌, refl, sym, ap, ◌∙◌, subst, ℕ, ◌+◌, ◌-◌, ◌≤◌, ◌==◌, nat_lt, List, [], ◌∷◌, Bool, true, false, Option, Some, None, inl, inr, arith}
use Rattle.abl_base.specs.declared.value.Value.{Value}
use Rattle.database_protocol.specs.declared.operation.Op.TheVariants as op
use Rattle.database_protocol.specs.declared.answer.Answer.{Answer}
use Rattle.bound_tree.specs.Tree.{Header, Fetch, Action, ThenRetry, ThenLeave, ThenNext, ThenReturn, ThenError, OnPhrase}
use Rattle.block_meaning.specs.declared.wants.Piece.{Piece}
use Rattle.block_meaning.specs.Program.{Program}
use Rattle.block_meaning.specs.Lines.{Complaint}
use Rattle.block_meaning.specs.State.{State, Copy, Passed, nothing_passed, Turn, Completion, Normal, Again, Leaves, Nexts, Undoes, Faults, Raises, EndKeys, Found, Returns, Stops, Outcome, Continuation, completes, if_else, update_then, and_then, if_normal, bytes_in, written_if, wrote, writes}
use Rattle.block_meaning.specs.Frames.{emptied, copy_of}
use Rattle.block_meaning.specs.Values.{Evaluated, Gives, Fails, given, given_text}
use Rattle.block_meaning.specs.Buffers.{enters_all, enters_places, all_places, own, releases_all, releases}
use Rattle.block_meaning.specs.Reads.{fetches, finds_current}
use Rattle.block_meaning.specs.Changes.{assigns, creates, deletes}
use Rattle.block_meaning.specs.Blocks.{line_piece, complained, complains, errs, iterates, handles_endkey, Iteration, passed_with, next_turn, after_iteration, goes_back, returns_with, closes, instead_of_retry, acts, undone, passes, undo_comes, error_to, error_comes, endkey_to, leaves_if, enters_rest, closing, after_closing, ended, ends_with, ends, enters_at, none_left, runs_body, fetched_completion, fetched, begins_as, begins, deeper, inside, enters_level}
use Rattle.std.proofs.lemmas.Bool.Decides.{eqb_tells}
use Rattle.abl_base.specs.declared.limits.TheConstants.{MAX_OUTPUT_BYTES}
use Rattle.block_meaning.specs.Blocks.{completion_if, first_of_two}
use Rattle.block_meaning.specs.Buffers.{keep_of, left, was_left}
use Rattle.block_meaning.proofs.Continues.{Continues, continues_then, continues_done}
use Rattle.block_meaning.proofs.Pending.{not_both}
use Rattle.block_meaning.proofs.Parts.{enters_places_continues, releases_continues, releases_all_continues, fetches_continues, finds_current_continues}
use Rattle.block_meaning.proofs.Part_changes.{assigns_continues, creates_continues, deletes_continues}
use Rattle.block_meaning.proofs.Whole.{complained_stays, goes_back_continues, enters_rest_continues, closing_continues, after_closing_completion, after_closing_handles}
use Rattle.block_meaning.proofs.Levels.{FirstAt, IsStop, Over, LevelsIn, Levels, Legal, FollowsTo, steady_part, over_at_once, levels_goes, levels_where, in_at, in_where, in_ran, in_then, legal_at, levels_first, legal_from, legal_handled, legal_then, levels_then, levels_done}
use Rattle.bound_tree.specs.Tree.{Reading, Assignment}
use Rattle.block_meaning.specs.Values.{given_all, given_text, given, Text, IsText, HasFault, EvaluatedAll, GivesAll, FailsAll}
use Rattle.block_meaning.proofs.Level_parts.{Calm, calm_levels, fetches_calm, releases_all_calm, releases_calm, assigns_calm, creates_calm, deletes_calm, finds_current_calm}
use Rattle.block_meaning.proofs.Level_undo.{Plain, Faulty, faulty_family, enters_places_faulty, releases_all_faulty, left_level, legal_goes_back}

-- ---- helpers

-- a change and the end of the part
pub ran_levels : (change : State → State) (completion : Completion) → ((s : State) → (change s).level ≡ s.level) → ((s : State) → Over s.level s.level completion s) → Levels (update_then change (completes completion))
ran_levels change completion k o = levels_first change (completes completion) k (levels_goes completion o)

pub given_levels : (v : Evaluated) (go : Value → Continuation) → ((v : Value) → Levels (go v)) → Levels (given v go)
given_levels (Gives v) go x s ans = x v s ans
given_levels (Fails c) go x s ans = levels_goes (Faults (Some c)) (λ s. (refl, refl)) s ans

pub given_all_levels : (v : EvaluatedAll) (go : List Value → Continuation) → ((vs : List Value) → Levels (go vs)) → Levels (given_all v go)
given_all_levels (GivesAll vs) go x s ans = x vs s ans
given_all_levels (FailsAll c) go x s ans = levels_goes (Faults (Some c)) (λ s. (refl, refl)) s ans

pub given_text_levels : (t : Text) (go : List ℕ → Continuation) → ((bytes : List ℕ) → Levels (go bytes)) → Levels (given_text t go)
given_text_levels (IsText bytes) go x s ans = x bytes s ans
given_text_levels (HasFault c) go x s ans = levels_goes (Faults (Some c)) (λ s. (refl, refl)) s ans

releases_all_levels : (p : Program) (bs : List ℕ) → Levels (releases_all p bs)
releases_all_levels p bs = calm_levels (releases_all p bs) (releases_all_continues p bs) (releases_all_calm p bs)

pub releases_levels : (p : Program) (b : ℕ) → Levels (releases p b)
releases_levels p b = calm_levels (releases p b) (releases_continues p b) (releases_calm p b)

pub assigns_levels : (p : Program) (xs : List Assignment) (retry : Bool) → Levels (assigns p xs retry)
assigns_levels p xs retry = calm_levels (assigns p xs retry) (assigns_continues p xs retry) (assigns_calm p xs retry)

pub creates_levels : (p : Program) (b : ℕ) → Levels (creates p b)
creates_levels p b = calm_levels (creates p b) (creates_continues p b) (creates_calm p b)

pub deletes_levels : (b : ℕ) → Levels (deletes b)
deletes_levels b = calm_levels (deletes b) (deletes_continues b) (deletes_calm b)

pub finds_current_levels : (r : Reading) (wait : Bool) → Levels (finds_current r wait)
finds_current_levels r wait = calm_levels (finds_current r wait) (finds_current_continues r wait) (finds_current_calm r wait)

-- ---- completions

-- a completion that leaves the levels unchanged
abbrev Balanced : Completion → Type 0
Balanced completion = (k n : ℕ) (s : State) → (n ≡ s.level) × (s.level ≡ k) → Over k n completion s

this_or_balanced : (b : Bool) (one other : Completion) → Balanced one → Balanced other → Balanced (completion_if b one other)
this_or_balanced true one other x y = x
this_or_balanced false one other x y = y

way_out_balanced : (b : Header) (o : Iteration) (completion : Completion) → Balanced completion → Balanced (after_iteration b o completion)
way_out_balanced b o Normal x = this_or_balanced (iterates b) (Again (next_turn false o.turn)) Normal (λ k n s h. h) (λ k n s h. h)
way_out_balanced b o (Leaves l) x = this_or_balanced (l == b.number) Normal (Leaves l) (λ k n s h. h) (λ k n s h. h)
way_out_balanced b o (Nexts l) x = this_or_balanced (l == b.number) (Again (next_turn false o.turn)) (Nexts l) (λ k n s h. h) (λ k n s h. h)
way_out_balanced b o completion x = x

does_not_retry_balanced : (b : Bool) (l : ℕ) → Balanced (instead_of_retry b l)
does_not_retry_balanced true l k n s h = h
does_not_retry_balanced false l k n s h = h

legal_either : (O : ℕ → Completion → State → Type 0) (n : ℕ) (b : Bool) (one other : Continuation) (s : State) → (b ≡ true → (ans : List Answer) → Legal O n (one s) ans) → (b ≡ false → (ans : List Answer) → Legal O n (other s) ans) → (ans : List Answer) → Legal O n (if_else b one other s) ans
legal_either O n true one other s x y ans = x refl ans
legal_either O n false one other s x y ans = y refl ans

-- ---- writing

written_if_plain : (b : Bool) (piece : Piece) (s : State) → Plain s.level s.level (written_if b piece s).completion (written_if b piece s).state
written_if_plain true piece s = tt
written_if_plain false piece s = (refl, refl)

complained_plain : (p : Program) (c : Option Complaint) (s : State) → Plain s.level s.level (complained p c s).completion (complained p c s).state
complained_plain p None s = (refl, refl)
complained_plain p (Some c) s = written_if_plain (nat_lt MAX_OUTPUT_BYTES (s.size + bytes_in (line_piece p c s))) (line_piece p c s) s

complains_plain : (p : Program) (c : Option Complaint) → LevelsIn Plain (complains p c)
complains_plain p c s [] = (refl, complained_plain p c s)
complains_plain p c s (a ∷ ans) = (refl, complained_plain p c s)

-- a line, and what follows
legal_errs : (j n : ℕ) (R : ℕ → Completion → State → Type 0) → ((n : ℕ) (completion : Completion) (s : State) → IsStop completion → R n completion s) → (p : Program) (c : Option Complaint) (go : Continuation) (s : State) → n ≡ s.level → s.level ≡ j → ((n : ℕ) (s : State) → n ≡ s.level → s.level ≡ j → (ans : List Answer) → Legal R n (go s) ans) → (ans : List Answer) → Legal R n (errs p c go s) ans
legal_errs j n R z p c go s e f x ans =
    legal_then (Plain j) R n go follow (complains p c s) (steady_part (complains p c) (continues_done (complained p c) (complained_stays p c)) s) ans (in_at Plain j n (complains p c) (complains_plain p c) s e f ans)
  where
    follow : FollowsTo (Plain j) R (λ completion. if_normal completion go)
    follow m Normal s o ans = x m s o.0 o.1 ans
    follow m (Stops end) s o ans = over_at_once R m (Stops end) s (z m (Stops end) s tt) ans
    follow m completion s o ans = absurd o

over_stops : (k n : ℕ) (completion : Completion) (s : State) → IsStop completion → Over k n completion s
over_stops k n (Stops end) s i = tt
over_stops k n completion s i = absurd i

pub errs_levels : (p : Program) (c : Option Complaint) (go : Continuation) → Levels go → Levels (errs p c go)
errs_levels p c go x s ans = legal_errs s.level s.level (Over s.level) (over_stops s.level) p c go s refl refl (λ n t e f ans. legal_at s.level n go x t e f ans) ans

pub writes_levels : (piece : Piece) → Levels (writes piece)
writes_levels piece = levels_done (wrote piece) (λ s. wrote_over (nat_lt MAX_OUTPUT_BYTES (s.size + bytes_in piece)) s)
  where
    wrote_over : (b : Bool) (s : State) → Over s.level s.level (written_if b piece s).completion (written_if b piece s).state
    wrote_over true s = tt
    wrote_over false s = (refl, refl)

-- ---- UNDO

closes_levels : (p : Program) (b : Header) (o : Iteration) (completion : Completion) → Balanced completion → Levels (closes p b o completion)
closes_levels p b o completion x =
    levels_then (releases_all p b.scoped) (completes (after_iteration b o completion)) (releases_all_continues p b.scoped) (releases_all_levels p b.scoped) (levels_goes (after_iteration b o completion) (λ s. way_out_balanced b o completion x s.level s.level s (refl, refl)))

acts_levels : (p : Program) (b : Header) (o : Iteration) (action : Action) (retry : Bool) → Levels (acts p b o action retry)
acts_levels p b o ThenRetry retry =
    levels_where b.flags.retry_seen (completes (Again (next_turn true o.turn))) (closes p b o (instead_of_retry (iterates b) b.number)) (levels_goes (Again (next_turn true o.turn)) (λ s. (refl, refl)))
    (closes_levels p b o (instead_of_retry (iterates b) b.number) (does_not_retry_balanced (iterates b) b.number))
acts_levels p b o (ThenLeave l) retry = closes_levels p b o (Leaves l) (λ k n s h. h)
acts_levels p b o (ThenNext l) retry = closes_levels p b o (Nexts l) (λ k n s h. h)
acts_levels p b o (ThenReturn error e) retry = levels_first (returns_with p e retry) (closes p b o (Returns error)) (λ s. refl) (closes_levels p b o (Returns error) (λ k n s h. h))
acts_levels p b o ThenError retry = closes_levels p b o (Returns true) (λ k n s h. h)

-- what follows a part that completes normally
plain_follow : (k : ℕ) (next : Continuation) → Levels next → FollowsTo (Plain k) (Over k) (λ completion. if_normal completion next)
plain_follow k next x n Normal s o ans = legal_at k n next x s o.0 o.1 ans
plain_follow k next x n (Stops end) s o ans = over_at_once (Over k) n (Stops end) s tt ans
plain_follow k next x n completion s o ans = absurd o

legal_undone : (k : ℕ) (p : Program) (b : Header) (o : Iteration) (action : Action) (retry : Bool) (passed : Passed) (s : State) → FirstAt k passed.first s → (ans : List Answer) → Legal (Over k) s.level (undone p b o action retry passed s) ans
legal_undone k p b o action retry passed s h ans =
    legal_then (Plain k) (Over k) s.level (acts p b o action retry) (plain_follow k (acts p b o action retry) (acts_levels p b o action retry)) (goes_back passed.first passed.buffers s)
    (steady_part (goes_back passed.first passed.buffers) (goes_back_continues passed.first passed.buffers) s) ans (legal_goes_back k passed.first passed.buffers s h ans)

-- an iteration began at k levels, and its body at j
abbrev BodyAt : ℕ → ℕ → Option Copy → Type 0
BodyAt k j None = j ≡ k
BodyAt k j (Some copy) = (j ≡ k + 1) × (copy.depth ≡ k + 1)

first_passed : (k j : ℕ) (own inner : Option Copy) (s : State) → BodyAt k j own → FirstAt j inner s → FirstAt k (first_of_two own inner) s
first_passed k j None inner s b h = subst (λ m. FirstAt m inner s) b h
first_passed k j (Some copy) None s b h = let e : j ≡ k + 1 = b.0 in (b.1, omega arith)
first_passed k j (Some copy) (Some inner) s b h = let e : j ≡ k + 1 = b.0 in let l : j + 1 ≤ s.level = h.1 in (b.1, omega arith)

-- without a level none was passed
nothing_open : (k j : ℕ) (own inner : Option Copy) (s : State) → s.level ≡ 0 → BodyAt k j own → FirstAt j inner s → (inner ≡ None) × (s.level ≡ k)
nothing_open k j None None s z b h = (refl, h ∙ b)
nothing_open k j None (Some inner) s z b h = let l : j + 1 ≤ s.level = h.1 in absurd (omega arith)
nothing_open k j (Some copy) None s z b h = let e : j ≡ k + 1 = b.0 in absurd (omega arith)
nothing_open k j (Some copy) (Some inner) s z b h = let l : j + 1 ≤ s.level = h.1 in absurd (omega arith)

level_zero : (n : ℕ) → (n == 0) ≡ true → n ≡ 0
level_zero n e =
    elim (eqb_tells n 0) [
      | inl t ↦ t.1
      | inr t ↦ absurd (not_both (n == 0) e t.0)
    ]

-- a completion that propagates, by what it has passed
abbrev IsOut : (Passed → Completion) → Type 0
IsOut out = (k n : ℕ) (passed : Passed) (s : State) → (n ≡ s.level) × FirstAt k passed.first s → Over k n (out passed) s

legal_passes : (k j : ℕ) (p : Program) (b : Header) (o : Iteration) (passed : Passed) (out : Passed → Completion) → IsOut out → (s : State) → BodyAt k j o.copy → FirstAt j passed.first s → (ans : List Answer) → Legal (Over k) s.level (passes p b (out passed) (out (passed_with b o passed)) s) ans
legal_passes k j p b o passed out x s at h ans =
    legal_either (Over k) s.level (s.level == 0) (λ s ans. and_then (releases_all p b.scoped s ans) (completes (out passed))) (completes (out (passed_with b o passed))) s
    (λ e ans.
    let c = nothing_open k j o.copy passed.first s (level_zero s.level e) at h in
    legal_then (Over k) (Over k) s.level (completes (out passed)) (follow c.0) (releases_all p b.scoped s) (steady_part (releases_all p b.scoped) (releases_all_continues p b.scoped) s) ans
    (legal_at k s.level (releases_all p b.scoped) (releases_all_levels p b.scoped) s refl c.1 ans))
    (λ e ans. over_at_once (Over k) s.level (out (passed_with b o passed)) s (x k s.level (passed_with b o passed) s (refl, first_passed k j o.copy passed.first s at h)) ans) ans
  where
    follow : passed.first ≡ None → FollowsTo (Over k) (Over k) (λ completion. if_normal completion (completes (out passed)))
    follow none n Normal s o ans = over_at_once (Over k) n (out passed) s (x k n passed s (o.0, subst (λ f. FirstAt k f s) (sym none) o.1)) ans
    follow none n completion s o ans = over_at_once (Over k) n completion s o ans

legal_undo_comes : (k j : ℕ) (p : Program) (b : Header) (o : Iteration) (target : ℕ) (action : Action) (retry : Bool) (passed : Passed) (s : State) → BodyAt k j o.copy → FirstAt j passed.first s → (ans : List Answer) → Legal (Over k) s.level (undo_comes p b o target action retry passed s) ans
legal_undo_comes k j p b o target action retry passed s at h ans =
    legal_either (Over k) s.level (target == b.number) (undone p b o action retry (passed_with b o passed)) (passes p b (Undoes target action retry passed) (Undoes target action retry (passed_with b o passed))) s
    (λ e ans. legal_undone k p b o action retry (passed_with b o passed) s (first_passed k j o.copy passed.first s at h) ans)
    (λ e ans. legal_passes k j p b o passed (λ x. Undoes target action retry x) (λ k n x s h. h) s at h ans) ans

legal_error_to : (k j : ℕ) (p : Program) (b : Header) (o : Iteration) (on : Option OnPhrase) (passed : Passed) (s : State) → BodyAt k j o.copy → FirstAt j passed.first s → (ans : List Answer) → Legal (Over k) s.level (error_to p b o on passed s) ans
legal_error_to k j p b o None passed s at h ans = legal_undo_comes k j p b o b.number ThenRetry o.turn.retry passed s at h ans
legal_error_to k j p b o (Some on) passed s at h ans = legal_undo_comes k j p b o on.target on.action o.turn.retry passed s at h ans

legal_error_comes : (k j : ℕ) (p : Program) (b : Header) (o : Iteration) (passed : Passed) (s : State) → BodyAt k j o.copy → FirstAt j passed.first s → (ans : List Answer) → Legal (Over k) s.level (error_comes p b o passed s) ans
legal_error_comes k j p b o passed s at h ans =
    legal_either (Over k) s.level b.flags.undo (error_to p b o b.on_error passed) (passes p b (Raises passed) (Raises (passed_with b o passed))) s
    (λ e ans. legal_error_to k j p b o b.on_error passed s at h ans)
    (λ e ans. legal_passes k j p b o passed Raises (λ k n x s h. h) s at h ans) ans

legal_endkey_to : (k j : ℕ) (p : Program) (b : Header) (o : Iteration) (on : Option OnPhrase) (passed : Passed) (s : State) → BodyAt k j o.copy → FirstAt j passed.first s → (ans : List Answer) → Legal (Over k) s.level (endkey_to p b o on passed s) ans
legal_endkey_to k j p b o None passed s at h ans =
    legal_either (Over k) s.level (handles_endkey b) (undo_comes p b o b.number (ThenLeave b.number) o.turn.retry passed) (passes p b (EndKeys passed) (EndKeys (passed_with b o passed))) s
    (λ e ans. legal_undo_comes k j p b o b.number (ThenLeave b.number) o.turn.retry passed s at h ans)
    (λ e ans. legal_passes k j p b o passed EndKeys (λ k n x s h. h) s at h ans) ans
legal_endkey_to k j p b o (Some on) passed s at h ans = legal_undo_comes k j p b o on.target on.action o.turn.retry passed s at h ans

-- ---- the end of an iteration

-- the level of an iteration is left, if it has one
legal_leaves_if : (O : ℕ → Completion → State → Type 0) → ((n : ℕ) (completion : Completion) (s : State) → IsStop completion → O n completion s) → (k j : ℕ) → ((n : ℕ) (s : State) → (n ≡ s.level) × (s.level ≡ k) → O n Normal s) → (copy : Option Copy) (but : List ℕ) (s : State) → BodyAt k j copy → (n : ℕ) → n ≡ s.level → s.level ≡ j → (ans : List Answer) → Legal O n (leaves_if copy but s) ans
legal_leaves_if O z k j r None but s at n e f ans = over_at_once O n Normal s (r n s (e, f ∙ at)) ans
legal_leaves_if O z k j r (Some copy) but s at n e f ans =
    let d : j ≡ k + 1 = at.0 in
    legal_from O z s.units n (op.Leave (keep_of but s)) was_left s (omega arith)
    (λ m a ans.
    over_at_once O (n - 1) Normal (left (record s { units = m })) (r (n - 1) (left (record s { units = m })) (let l = left_level (record s { units = m }) in (ap (λ i. i - 1) e ∙ sym l, l ∙ ap (λ i. i - 1) (f ∙ d) ∙ one_less k))) ans) ans
  where
    one_less : (k : ℕ) → (k + 1) - 1 ≡ k
    one_less k = omega arith

-- after it is closed the levels are those before it; after a fault in closing, those of its body
abbrev Closing : ℕ → ℕ → ℕ → Completion → State → Type 0
Closing k j n Normal s = (n ≡ s.level) × (s.level ≡ k)
Closing k j n (Faults c) s = (n ≡ s.level) × (s.level ≡ j)
Closing k j n (Stops end) s = Unit {0}
Closing k j n completion s = ⊥

closing_stop : (k j n : ℕ) (completion : Completion) (s : State) → IsStop completion → Closing k j n completion s
closing_stop k j n (Stops end) s i = tt
closing_stop k j n completion s i = absurd i

enters_rest_faulty : (p : Program) (o : Option Copy) → LevelsIn Faulty (enters_rest p o)
enters_rest_faulty p None s ans = in_ran Faulty faulty_family s ans
enters_rest_faulty p (Some copy) s ans =
    in_where Faulty (copy.depth == 1) (λ s ans. enters_places p (all_places s) s ans) (completes Normal) (λ s ans. enters_places_faulty p (all_places s) s ans) (in_ran Faulty faulty_family) s ans

legal_closing : (k j : ℕ) (p : Program) (b : Header) (o : Iteration) (s : State) → BodyAt k j o.copy → (n : ℕ) → n ≡ s.level → s.level ≡ j → (ans : List Answer) → Legal (Closing k j) n (closing p b o s) ans
legal_closing k j p b o s at n e f ans =
    let one : Continuation = enters_all p b.scoped in
    let two : Continuation = λ s ans. and_then (enters_all p b.scoped s ans) (releases_all p b.scoped) in
    let three : Continuation = λ s ans. and_then (and_then (enters_all p b.scoped s ans) (releases_all p b.scoped)) (enters_rest p o.copy) in
    let one_goes : Continues one = λ s ans more. enters_places_continues p _ s ans more in
    let two_goes : Continues two = continues_then one (releases_all p b.scoped) one_goes (releases_all_continues p b.scoped) in
    let three_goes : Continues three = continues_then two (enters_rest p o.copy) two_goes (enters_rest_continues p o.copy) in
    let two_levels : LevelsIn Faulty two = in_then Faulty faulty_family one (releases_all p b.scoped) one_goes (λ s ans. enters_places_faulty p _ s ans) (releases_all_faulty p b.scoped) in
    let three_levels : LevelsIn Faulty three = in_then Faulty faulty_family two (enters_rest p o.copy) two_goes two_levels (enters_rest_faulty p o.copy) in
    legal_then (Faulty j) (Closing k j) n (leaves_if o.copy b.scoped) follow (three s) (steady_part three three_goes s) ans (in_at Faulty j n three three_levels s e f ans)
  where
    follow : FollowsTo (Faulty j) (Closing k j) (λ completion. if_normal completion (leaves_if o.copy b.scoped))
    follow n Normal s h ans = legal_leaves_if (Closing k j) (closing_stop k j) k j (λ n s h. h) o.copy b.scoped s at n h.0 h.1 ans
    follow n (Faults c) s h ans = over_at_once (Closing k j) n (Faults c) s h ans
    follow n (Stops end) s h ans = over_at_once (Closing k j) n (Stops end) s tt ans
    follow n completion s h ans = absurd h

at_own : (O : ℕ → Completion → State → Type 0) (f : List Answer → Outcome) (n : ℕ) (s : State) → n ≡ s.level → (ans : List Answer) → Legal O s.level f ans → Legal O n f ans
at_own O f n s e ans x = subst (λ m. Legal O m f ans) (sym e) x

after_closing_follow : (k j : ℕ) (p : Program) (b : Header) (o : Iteration) (completion : Completion) → BodyAt k j o.copy → Balanced completion → FollowsTo (Closing k j) (Over k) (after_closing_completion p b o completion)
after_closing_follow k j p b o completion at x n Normal s h ans = over_at_once (Over k) n (after_iteration b o completion) s (way_out_balanced b o completion x k n s h) ans
after_closing_follow k j p b o completion at x n (Faults c) s h ans =
    legal_errs j n (Over k) (over_stops k) p c (error_comes p b o nothing_passed) s h.0 h.1
    (λ n s e f ans. at_own (Over k) (error_comes p b o nothing_passed s) n s e ans (legal_error_comes k j p b o nothing_passed s at f ans)) ans
after_closing_follow k j p b o completion at x n (Stops end) s h ans = over_at_once (Over k) n (Stops end) s tt ans
after_closing_follow k j p b o completion at x n other s h ans = absurd h

legal_ended : (k j : ℕ) (p : Program) (b : Header) (o : Iteration) (completion : Completion) (s : State) → BodyAt k j o.copy → Balanced completion → (n : ℕ) → n ≡ s.level → s.level ≡ j → (ans : List Answer) → Legal (Over k) n (ended p b o completion s) ans
legal_ended k j p b o completion s at x n e f ans =
    legal_handled (Closing k j) (Over k) n (after_closing p b o completion) (after_closing_completion p b o completion) (after_closing_handles p b o completion) (after_closing_follow k j p b o completion at x) (closing p b o s)
    (steady_part (closing p b o) (closing_continues p b o) s) ans (legal_closing k j p b o s at n e f ans)

ends_way_follow : (k j : ℕ) (p : Program) (b : Header) (o : Iteration) → BodyAt k j o.copy → FollowsTo (Over j) (Over k) (ends_with p b o)
ends_way_follow k j p b o at n (Undoes target action retry passed) s h ans =
    at_own (Over k) (undo_comes p b o target action retry passed s) n s h.0 ans (legal_undo_comes k j p b o target action retry passed s at h.1 ans)
ends_way_follow k j p b o at n (Raises passed) s h ans = at_own (Over k) (error_comes p b o passed s) n s h.0 ans (legal_error_comes k j p b o passed s at h.1 ans)
ends_way_follow k j p b o at n (EndKeys passed) s h ans = at_own (Over k) (endkey_to p b o b.on_endkey passed s) n s h.0 ans (legal_endkey_to k j p b o b.on_endkey passed s at h.1 ans)
ends_way_follow k j p b o at n (Stops end) s h ans = over_at_once (Over k) n (Stops end) s tt ans
ends_way_follow k j p b o at n completion s h ans = legal_ended k j p b o completion s at (λ k n s h. h) n h.0 h.1 ans

-- ---- an iteration

legal_runs_body : (k j : ℕ) (p : Program) (b : Header) (copy : Option Copy) (t : Turn) (body : Continuation) → Continues body → Levels body → BodyAt k j copy → (n : ℕ) (s : State) → n ≡ s.level → s.level ≡ j → (ans : List Answer) → Legal (Over k) n (runs_body p b copy t body s) ans
legal_runs_body k j p b copy t body g x at n s e f ans =
    let o : Iteration = record { copy = copy; turn = t } in
    legal_handled (Over j) (Over k) n (ends p b o) (ends_with p b o) (record { completes = λ completion s ans. refl; stands = λ d. refl }) (ends_way_follow k j p b o at) (body s) (steady_part body g s) ans (legal_at j n body x s e f ans)

legal_none_left : (k j : ℕ) (b : Header) (copy : Option Copy) (buffer : ℕ) → BodyAt k j copy → (n : ℕ) (s : State) → n ≡ s.level → s.level ≡ j → (ans : List Answer) → Legal (Over k) n (none_left b copy buffer s) ans
legal_none_left k j b copy buffer at n s e f ans = legal_leaves_if (Over k) (over_stops k) k j (λ n s h. h) copy b.scoped (emptied buffer s) at n e f ans

own_first : (k j : ℕ) (copy : Option Copy) (s : State) → BodyAt k j copy → s.level ≡ j → FirstAt k copy s
own_first k j None s at f = f ∙ at
own_first k j (Some copy) s at f = let d : j ≡ k + 1 = at.0 in (at.1, omega arith)

fetched_follow : (k j : ℕ) (p : Program) (b : Header) (copy : Option Copy) (t : Turn) (buffer : ℕ) (body : Continuation) → Continues body → Levels body → BodyAt k j copy → FollowsTo (Calm j) (Over k) (fetched_completion p b copy t buffer body)
fetched_follow k j p b copy t buffer body g x at n (Found own) s h ans = legal_runs_body k j p b copy (record t { own = Some own }) body g x at n s h.0 h.1 ans
fetched_follow k j p b copy t buffer body g x at n (Faults c) s h ans =
    at_own (Over k) (λ ans. and_then (goes_back copy b.scoped s ans) (completes (Faults c))) n s h.0 ans
    (legal_then (Plain k) (Over k) s.level (completes (Faults c)) (plain_follow k (completes (Faults c)) (levels_goes (Faults c) (λ s. (refl, refl)))) (goes_back copy b.scoped s)
    (steady_part (goes_back copy b.scoped) (goes_back_continues copy b.scoped) s) ans (legal_goes_back k copy b.scoped s (own_first k j copy s at h.1) ans))
fetched_follow k j p b copy t buffer body g x at n (Stops end) s h ans = over_at_once (Over k) n (Stops end) s tt ans
fetched_follow k j p b copy t buffer body g x at n (Undoes l action retry passed) s h ans = absurd h
fetched_follow k j p b copy t buffer body g x at n (Raises passed) s h ans = absurd h
fetched_follow k j p b copy t buffer body g x at n (EndKeys passed) s h ans = absurd h
fetched_follow k j p b copy t buffer body g x at n completion s h ans = legal_none_left k j b copy buffer at n s h.0 h.1 ans

calm_legal : (j n : ℕ) (go : Continuation) → LevelsIn Calm go → (s : State) → n ≡ s.level → s.level ≡ j → (ans : List Answer) → Legal (Calm j) n (go s) ans
calm_legal j n go x s e f ans = in_at Calm j n go x s e f ans

legal_begins : (f : Option Fetch) (k j : ℕ) (p : Program) (b : Header) (copy : Option Copy) (t : Turn) (retry : Bool) (body : Continuation) → Continues body → Levels body → BodyAt k j copy → (n : ℕ) (s : State) → n ≡ s.level → s.level ≡ j → (ans : List Answer) → Legal (Over k) n (begins_as f p b copy t retry body s) ans
legal_begins None k j p b copy t retry body g x at n s e h ans = legal_runs_body k j p b copy t body g x at n s e h ans
legal_begins (Some f) k j p b copy t retry body g x at n s e h ans =
    legal_handled (Calm j) (Over k) n (fetched p b copy t f.reading.buffer body) (fetched_completion p b copy t f.reading.buffer body) (record { completes = λ completion s ans. refl; stands = λ d. refl })
    (fetched_follow k j p b copy t f.reading.buffer body g x at) (fetches p f t retry s) (steady_part (fetches p f t retry) (fetches_continues p f t retry) s) ans (calm_legal j n (fetches p f t retry) (fetches_calm p f t retry) s e h ans)

pub enters_level_levels : (p : Program) (b : Header) (t : Turn) (retry : Bool) (body : Continuation) → Continues body → Levels body → Levels (enters_level p b t retry body)
enters_level_levels p b t retry body g x s ans =
    legal_either (Over s.level) s.level (enters_at b s.level) (inside p b t retry body) (begins p b None t retry body) s
    (λ e ans.
    legal_from (Over s.level) (over_stops s.level) s.units s.level op.Enter (λ a s ans. begins p b (Some (copy_of s)) t retry body (deeper s) ans) s tt
    (λ m a ans. legal_begins b.fetch s.level (s.level + 1) p b (Some (copy_of (record s { units = m }))) t retry body g x (refl, refl) (s.level + 1) (deeper (record s { units = m })) refl refl ans) ans)
    (λ e ans. legal_begins b.fetch s.level s.level p b None t retry body g x refl s.level s refl refl ans) ans
