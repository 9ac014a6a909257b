-- Steps taken at once, where no buffer is concerned.
use Rattle.std.proofs.Common.{◌≡◌, refl, ap, ◌∙◌, ℕ, List, [], ◌∷◌, Bool}
use Rattle.database_protocol.specs.declared.answer.Answer.{Answer}
use Rattle.bound_tree.specs.Tree.{Body, Assignment}
use Rattle.block_meaning.specs.Program.{Program}
use Rattle.block_meaning.specs.State.{State, Copy, Completion, Normal, Again, Leaves, Nexts, Undoes, Faults, Raises, EndKeys, Returns, Stops, Found, Lost, NotFound, Outcome, Done, Suspended, and_then}
use Rattle.block_meaning.specs.Frames.{put_back}
use Rattle.block_meaning.specs.Buffers.{all_places}
use Rattle.block_meaning.specs.Changes.{assigns_each, locks_all, settles_all, or_as_before, buffers_in}
use Rattle.flat_machine.specs.Config.{StackEntry, Execute, Assigns, AssignsEach, AfterBack, LeavesNow, Empties, Updates, ThenDo}
use Rattle.flat_machine.specs.Steps.{config}
use Rattle.flat_machine.specs.Means.{means, after_stack}

-- an assignment to variables alone completes with its last pair
simple_completion : (p : Program) (old : State) (completion : Completion) (s : State) (ans : List Answer) → and_then (or_as_before old [] (and_then (Done completion s ans) (locks_all []))) (settles_all p old []) ≡ Done completion s ans
simple_completion p old Normal s ans = refl
simple_completion p old (Again t) s ans = refl
simple_completion p old (Leaves l) s ans = refl
simple_completion p old (Nexts l) s ans = refl
simple_completion p old (Undoes l a r b) s ans = refl
simple_completion p old (Faults c) s ans = refl
simple_completion p old (Raises b) s ans = refl
simple_completion p old (EndKeys b) s ans = refl
simple_completion p old (Found c) s ans = refl
simple_completion p old Lost s ans = refl
simple_completion p old NotFound s ans = refl
simple_completion p old (Returns e) s ans = refl
simple_completion p old (Stops e) s ans = refl

simple_outcome : (p : Program) (old : State) (r : Outcome) → and_then (or_as_before old [] (and_then r (locks_all []))) (settles_all p old []) ≡ r
simple_outcome p old (Done completion s ans) = simple_completion p old completion s ans
simple_outcome p old (Suspended d) = refl

pub assigns_at_once : (tree : ℕ → Body) (p : Program) (xs : List Assignment) (retry : Bool) (ks : List StackEntry) (s : State) (ans : List Answer) → buffers_in xs ≡ [] → means tree p (config (Execute (Assigns xs retry)) ks s) ans ≡ means tree p (config (Execute (AssignsEach xs retry)) ks s) ans
assigns_at_once tree p xs retry ks s ans none =
    ap (λ bs. after_stack tree p ks (and_then (or_as_before s bs (and_then (assigns_each p xs retry s ans) (locks_all bs))) (settles_all p s bs))) none
    ∙ ap (after_stack tree p ks) (simple_outcome p s (assigns_each p xs retry s ans))

-- an UNDO without buffers leaves its level at once
pub after_back_at_once : (tree : ℕ → Body) (p : Program) (copy : Copy) (but : List ℕ) (ks : List StackEntry) (s : State) (ans : List Answer) → all_places (put_back copy s) ≡ [] → means tree p (config (Execute (AfterBack copy but)) ks s) ans ≡ means tree p (config (Execute (LeavesNow but)) (ThenDo (Empties but) ∷ ks) (put_back copy s)) ans
after_back_at_once tree p copy but ks s ans none =
    ap (λ ps. means tree p (config (Execute (Updates copy.made but ps)) (ThenDo (LeavesNow but) ∷ ThenDo (Empties but) ∷ ks) (put_back copy s)) ans) none
