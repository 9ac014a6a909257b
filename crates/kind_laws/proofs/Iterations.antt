-- The ends of iterations: UNDO, ERROR, ENDKEY, and what follows.
use Rattle.std.proofs.Common.{◌≡◌, ℕ, Bool, true, false, List, ◌∷◌, Option, Some, None, refl, inl, inr}
use Rattle.std.specs.Prelude.{◌&&◌, ◌==◌, ◌⊎◌}
use Rattle.bound_tree.specs.Tree.{Action, Header, OnPhrase, Fetch, ThenError, ThenLeave, ThenNext, ThenReturn, ThenRetry}
use Rattle.kind_laws.specs.bound_kinds.WellKinded.{Surroundings, if_there, is_action, is_condition, is_counting, is_header, is_reading}
use Rattle.kind_laws.proofs.BoundKindsLemmas.Parts.{both_left, both_right}
use Rattle.block_meaning.specs.Blocks.{Iteration, after_iteration, handles_endkey, instead_of_retry, iterates, next_turn, passed_with}
use Rattle.block_meaning.specs.Program.{Program}
use Rattle.block_meaning.specs.State.{Again, Completion, EndKeys, Faults, Found, Leaves, Lost, Nexts, Normal, NotFound, Passed, Raises, Returns, State, Stops, Undoes}
use Rattle.flat_machine.specs.Config.{Closes, Execute, Passes, StackEntry, UndoComes, Unwind, Releases, ThenDo, Completes}
use Rattle.flat_machine.specs.Steps.{act_step, config, config_if, endkey_step, ends_step, error_step}
use Rattle.kind_laws.specs.Placed.{is_placed_phrase, names_one_of}
use Rattle.kind_laws.specs.Reached.{Ground}
use Rattle.kind_laws.proofs.Kept.{Allowed, allows, AreFrames, CanFail, here, in_block, IsAllowed, IsBlock, IsCopy, IsOpen, IsOver, IsStack, Kept}
use Rattle.kind_laws.proofs.Parts.{after_over, clash, covers, first_copy, in_self, IsOuter, kept_if, undoes_self, unwinds}

-- ---- parts of a header

pub header_to : (x : Surroundings) (b : Header) → is_header x b ≡ true → if_there (is_counting x) b.to ≡ true
header_to x b h = both_left (if_there (is_counting x) b.to) _ h

after_to : (x : Surroundings) (b : Header) → is_header x b ≡ true → (if_there (is_condition x) b.while_test && (if_there (λ (f : Fetch). is_reading x f.reading) b.fetch && (if_there (λ (on : OnPhrase). is_action x on.action) b.on_error && if_there (λ (on : OnPhrase). is_action x on.action) b.on_endkey))) ≡ true
after_to x b h = both_right (if_there (is_counting x) b.to) _ h

pub header_while : (x : Surroundings) (b : Header) → is_header x b ≡ true → if_there (is_condition x) b.while_test ≡ true
header_while x b h = both_left (if_there (is_condition x) b.while_test) _ (after_to x b h)

after_while : (x : Surroundings) (b : Header) → is_header x b ≡ true → (if_there (λ (f : Fetch). is_reading x f.reading) b.fetch && (if_there (λ (on : OnPhrase). is_action x on.action) b.on_error && if_there (λ (on : OnPhrase). is_action x on.action) b.on_endkey)) ≡ true
after_while x b h = both_right (if_there (is_condition x) b.while_test) _ (after_to x b h)

pub header_fetch : (x : Surroundings) (b : Header) → is_header x b ≡ true → if_there (λ (f : Fetch). is_reading x f.reading) b.fetch ≡ true
header_fetch x b h = both_left (if_there (λ (f : Fetch). is_reading x f.reading) b.fetch) _ (after_while x b h)

after_fetch : (x : Surroundings) (b : Header) → is_header x b ≡ true → (if_there (λ (on : OnPhrase). is_action x on.action) b.on_error && if_there (λ (on : OnPhrase). is_action x on.action) b.on_endkey) ≡ true
after_fetch x b h = both_right (if_there (λ (f : Fetch). is_reading x f.reading) b.fetch) _ (after_while x b h)

header_error : (x : Surroundings) (b : Header) → is_header x b ≡ true → if_there (λ (on : OnPhrase). is_action x on.action) b.on_error ≡ true
header_error x b h = both_left (if_there (λ (on : OnPhrase). is_action x on.action) b.on_error) _ (after_fetch x b h)

header_endkey : (x : Surroundings) (b : Header) → is_header x b ≡ true → if_there (λ (on : OnPhrase). is_action x on.action) b.on_endkey ≡ true
header_endkey x b h = both_right (if_there (λ (on : OnPhrase). is_action x on.action) b.on_error) _ (after_fetch x b h)

-- ---- the action after an UNDO

pub instead_over : (c : Bool) (n : ℕ) (bs : List ℕ) → IsOver (n ∷ bs) (instead_of_retry c n)
instead_over true n bs = in_self n bs
instead_over false n bs = in_self n bs

pub act_kept : (g : Ground) (ns : List ℕ) (p : Program) (act : Action) (b : Header) (o : Iteration) (retry : Bool) (ks : List StackEntry) (s : State) → AreFrames g ns s.frames → IsOpen g ns (allows ks) b o → is_action (here g ns) act ≡ true →
    names_one_of (b.number ∷ (allows ks).blocks) act ≡ true → (allows ks).faults ≡ true → IsStack g ns ks → Kept g ns (act_step p act b o retry ks s)
act_kept g ns p ThenRetry b o retry ks s h is a n r k =
    kept_if g ns b.flags.retry_seen (config (Unwind (Again (next_turn true o.turn))) ks s) (config (Execute (Closes b o (instead_of_retry (iterates b) b.number))) ks s)
    (λ _. (h, (is.again, k))) (λ _. (h, ((is, instead_over (iterates b) b.number (allows ks).blocks, r), k)))
act_kept g ns p (ThenLeave l) b o retry ks s h is a n r k = (h, ((is, n, r), k))
act_kept g ns p (ThenNext l) b o retry ks s h is a n r k = (h, ((is, n, r), k))
act_kept g ns p (ThenReturn error e) b o retry ks s h is a n r k = (h, ((is, tt, r), k))
act_kept g ns p ThenError b o retry ks s h is a n r k = (h, ((is, tt, r), k))

-- ---- ERROR and ENDKEY

-- ERROR or ENDKEY passes an iteration whose block does not handle it
inside_of : (g : Ground) (ns : List ℕ) (a : Allowed) (b : Header) → IsBlock g ns a b → (IsOuter a b → ⊥) → CanFail a
inside_of g ns a b h x = go (covers g ns a b h)
  where
    go : CanFail a ⊎ IsOuter a b → CanFail a
    go (inl f) = f
    go (inr o) = absurd (x o)

-- ---- ERROR

error_at : (g : Ground) (ns : List ℕ) (on : Option OnPhrase) (b : Header) (o : Iteration) (passed : Passed) (ks : List StackEntry) (s : State) → AreFrames g ns s.frames → IsOpen g ns (allows ks) b o →
    is_placed_phrase (b.number ∷ (allows ks).blocks) on ≡ true → if_there (λ (on : OnPhrase). is_action (here g ns) on.action) on ≡ true → IsCopy g ns passed.first → IsStack g ns ks → Kept g ns (error_step on b o passed ks s)
error_at g ns None b o passed ks s h is p a c k = (h, ((is, undoes_self b.number (allows ks).blocks ThenRetry refl, refl, c), k))
error_at g ns (Some on) b o passed ks s h is p a c k = (h, ((is, p, a, c), k))

pub error_kept : (g : Ground) (ns : List ℕ) (b : Header) (o : Iteration) (passed : Passed) (ks : List StackEntry) (s : State) → AreFrames g ns s.frames → IsOpen g ns (allows ks) b o → IsCopy g ns passed.first → IsStack g ns ks →
    Kept g ns (config_if b.flags.undo (error_step b.on_error b o passed ks s) (config (Execute (Passes b (Raises passed) (Raises (passed_with b o passed)))) ks s))
error_kept g ns b o passed ks s h is c k =
    kept_if g ns b.flags.undo (error_step b.on_error b o passed ks s) (config (Execute (Passes b (Raises passed) (Raises (passed_with b o passed)))) ks s)
    (λ e. error_at g ns b.on_error b o passed ks s h is (both_left (is_placed_phrase (b.number ∷ (allows ks).blocks) b.on_error) _ is.block.placed) (header_error (here g ns) b is.block.kinded) c k)
    (λ e. let f = inside_of g ns (allows ks) b is.block (λ x. clash b.flags.undo x.undo e) in
    (h, ((f.faults, (f.inside, c), (f.inside, first_copy g ns o.copy passed.first is.copy c)), k)))

-- ---- ENDKEY

endkey_at : (g : Ground) (ns : List ℕ) (on : Option OnPhrase) (b : Header) (o : Iteration) (passed : Passed) (ks : List StackEntry) (s : State) → AreFrames g ns s.frames → IsOpen g ns (allows ks) b o →
    is_placed_phrase (b.number ∷ (allows ks).blocks) on ≡ true → if_there (λ (on : OnPhrase). is_action (here g ns) on.action) on ≡ true → IsCopy g ns passed.first → IsStack g ns ks → Kept g ns (endkey_step on b o passed ks s)
endkey_at g ns None b o passed ks s h is p a c k =
    kept_if g ns (handles_endkey b) (config (Execute (UndoComes b o b.number (ThenLeave b.number) o.turn.retry passed)) ks s)
    (config (Execute (Passes b (EndKeys passed) (EndKeys (passed_with b o passed)))) ks s)
    (λ e. (h, ((is, undoes_self b.number (allows ks).blocks (ThenLeave b.number) (in_self b.number (allows ks).blocks), refl, c), k)))
    (λ e. let f = inside_of g ns (allows ks) b is.block (λ x. clash (handles_endkey b) x.endkey e) in
    (h, ((f.faults, (f.inside, c), (f.inside, first_copy g ns o.copy passed.first is.copy c)), k)))
endkey_at g ns (Some on) b o passed ks s h is p a c k = (h, ((is, p, a, c), k))

pub endkey_kept : (g : Ground) (ns : List ℕ) (b : Header) (o : Iteration) (passed : Passed) (ks : List StackEntry) (s : State) → AreFrames g ns s.frames → IsOpen g ns (allows ks) b o → IsCopy g ns passed.first → IsStack g ns ks →
    Kept g ns (endkey_step b.on_endkey b o passed ks s)
endkey_kept g ns b o passed ks s h is c k =
    endkey_at g ns b.on_endkey b o passed ks s h is (both_right (is_placed_phrase (b.number ∷ (allows ks).blocks) b.on_error) _ is.block.placed) (header_endkey (here g ns) b is.block.kinded) c k

-- ---- the completion of an iteration

pub ends_kept : (g : Ground) (ns : List ℕ) (completion : Completion) (b : Header) (o : Iteration) (ks : List StackEntry) (s : State) → AreFrames g ns s.frames → IsOpen g ns (allows ks) b o → IsAllowed g ns (in_block b.number (allows ks)) completion →
    IsStack g ns ks → Kept g ns (ends_step completion b o ks s)
ends_kept g ns Normal b o ks s h is a k = (h, (refl, ((is, tt), k)))
ends_kept g ns (Again t) b o ks s h is a k = absurd cc
ends_kept g ns (Leaves l) b o ks s h is a k = (h, (refl, ((is, a), k)))
ends_kept g ns (Nexts l) b o ks s h is a k = (h, (refl, ((is, a), k)))
ends_kept g ns (Undoes l act retry passed) b o ks s h is a k = (h, ((is, a.0, a.1, a.2), k))
ends_kept g ns (Faults c) b o ks s h is a k = absurd cc
ends_kept g ns (Raises passed) b o ks s h is a k = (h, ((is, a.1), k))
ends_kept g ns (EndKeys passed) b o ks s h is a k = (h, ((is, a.1), k))
ends_kept g ns (Found c) b o ks s h is a k = absurd cc
ends_kept g ns Lost b o ks s h is a k = absurd cc
ends_kept g ns NotFound b o ks s h is a k = absurd cc
ends_kept g ns (Returns error) b o ks s h is a k = (h, (refl, ((is, tt), k)))
ends_kept g ns (Stops end) b o ks s h is a k = (h, tt)

-- the iteration is closed after an UNDO
pub closes_kept : (g : Ground) (ns : List ℕ) (b : Header) (o : Iteration) (completion : Completion) (ks : List StackEntry) (s : State) → AreFrames g ns s.frames → IsOpen g ns (allows ks) b o → IsOver (b.number ∷ (allows ks).blocks) completion →
    (allows ks).faults ≡ true → IsStack g ns ks → Kept g ns (config (Execute (Releases b.scoped)) (ThenDo (Completes (after_iteration b o completion)) ∷ ks) s)
closes_kept g ns b o completion ks s h is c r k = (h, (r, (after_over g ns (allows ks) b o completion c is.again, k)))

-- an iteration is passed: where no level is open it ends here
pub passes_kept : (g : Ground) (ns : List ℕ) (b : Header) (ended_way left_way : Completion) (ks : List StackEntry) (s : State) → AreFrames g ns s.frames → (allows ks).faults ≡ true → IsAllowed g ns (allows ks) ended_way →
    IsAllowed g ns (allows ks) left_way → IsStack g ns ks → Kept g ns (config_if (s.level == 0) (config (Execute (Releases b.scoped)) (ThenDo (Completes ended_way) ∷ ks) s) (config (Unwind left_way) ks s))
passes_kept g ns b ended_way left_way ks s h r e l k =
    kept_if g ns (s.level == 0) (config (Execute (Releases b.scoped)) (ThenDo (Completes ended_way) ∷ ks) s) (config (Unwind left_way) ks s)
    (λ _. (h, (r, (e, k)))) (λ _. unwinds g ns left_way ks s h l k)
