-- Entries are pushed, and the mode is set.
use Rattle.std.proofs.Common.{◌≡◌, ℕ, List, [], ◌∷◌, ◌++◌, refl, sym, ap, ◌∙◌, subst}
use Rattle.std.specs.Prelude.{Vec, reverse}
use Rattle.std.specs.declared.alloc.Global.{Global}
use Rattle.std.proofs.lemmas.List.{reverse-append}
use Rattle.bound_tree.specs.Tree.{Body}
use Rattle.database_protocol.specs.declared.answer.Answer.{Answer}
use Rattle.block_meaning.specs.Program.{Program}
use Rattle.block_meaning.specs.Frames.{content_of}
use Rattle.block_meaning.specs.State.{Buffer, Content, Copy, State}
use Rattle.flat_machine.specs.Flat as flat
use Rattle.flat_machine.specs.Flat.{IsCodeOf}
use Rattle.block_code.specs.declared.code.Code.{Code}
use Rattle.client_machine.specs.declared.machine.Machine.{Machine}
use Rattle.client_machine.specs.declared.mode.Mode.{Mode}
use Rattle.client_machine.specs.declared.mode.StackEntry.{StackEntry}
use Rattle.client_machine.specs.Config.{entry_of, mode_of, stack_of}
use Rattle.client_machine.specs.KeepsFrom.{KeepsFrom}
use Rattle.client_machine.specs.Machine.{stack_in, state_in}
use Rattle.client_machine.specs.Order.{InOrder, ModeInOrder, nesting_of}
use Rattle.client_machine.specs.Step.{FitsIn}
use Rattle.client_memory.proofs.FramesOut.{own_buffer_is}
use Rattle.client_values.specs.Variables.{AreEven}
use Rattle.client_records.specs.Entries.{content_at, store_entries}
use Rattle.client_records.proofs.Lent.{rest_at}
use Rattle.client_records.proofs.Kept.{begun_mode, from_kept}

pub pushed : (xs ys : List StackEntry) (x : StackEntry) → ys ≡ xs ++ x ∷ [] → reverse ys ≡ x ∷ reverse xs
pushed xs ys x e = ap reverse e ∙ reverse-append xs (x ∷ [])

pub pushed_two : (xs ys zs : List StackEntry) (x y : StackEntry) → ys ≡ xs ++ x ∷ [] → zs ≡ ys ++ y ∷ [] → reverse zs ≡ y ∷ x ∷ reverse xs
pushed_two xs ys zs x y e1 e2 = pushed ys zs y e2 ∙ ap (λ (l : List StackEntry). y ∷ l) (pushed xs ys x e1)

-- the stack and the mode change
pub stack_kept : (from : Program → State → flat.Config) (old new : Machine) (x : Mode) (more : Vec StackEntry Global) → (let m : Machine = record old { mode = x; stack = more } in new ≡ m) →
    (InOrder (nesting_of old.memory) (reverse old.stack.items) → ModeInOrder (nesting_of old.memory) x (reverse more.items)) →
    ((tree : ℕ → Body) (p : Program) (rest : State) → FitsIn p rest begun_mode old → (ans : List Answer) →
    flat.means tree p (from p (state_in rest old)) ans ≡ flat.means tree p (flat.config (mode_of old.code.instrs.items old.memory.copies x) (stack_of old.code.instrs.items old.memory.copies (reverse more.items)) (state_in rest old)) ans) →
    KeepsFrom from old new
stack_kept from old new x more moved order goes =
    let m : Machine = record old { mode = x; stack = more } in
    subst (λ (n : Machine). KeepsFrom from old n) (sym moved)
    (from_kept from old m refl refl
    (λ p rest r. record { forms = r.forms; even = r.even; status_is = r.status_is; returned_is = r.returned_is })
    (λ p rest f. order f.order.1)
    (λ tree p rest is f ans. goes tree p rest f ans))

-- the contents in the memory are those in the state
pub same_contents : (m : Machine) (rest : State) (bs : List ℕ) (ks : List flat.StackEntry) → AreEven m.procedures.items m.memory → store_entries (λ b. content_of b (state_in rest m)) bs ks ≡ store_entries (content_at m.memory) bs ks
same_contents m rest [] ks even = refl
same_contents m rest (b ∷ bs) ks even =
    ap (λ (x : Content). flat.ThenDo (flat.SettlesOne b) ∷ flat.AsBefore (x ∷ []) (b ∷ []) ∷ store_entries (λ b. content_of b (state_in rest m)) bs ks) (ap (λ (x : Buffer). x.content) (own_buffer_is (rest_at rest m) m.procedures.items m.memory b even))
    ∙ ap (λ (xs : List flat.StackEntry). flat.ThenDo (flat.SettlesOne b) ∷ flat.AsBefore (content_at m.memory b ∷ []) (b ∷ []) ∷ xs) (same_contents m rest bs ks even)

-- one more entry, where the code and the copies are the same
pub same_stack : (old mid : Machine) (entry : StackEntry) → mid.code ≡ old.code → mid.memory.copies ≡ old.memory.copies → reverse mid.stack.items ≡ entry ∷ reverse old.stack.items → stack_in mid ≡ entry_of old.code.instrs.items old.memory.copies entry ∷ stack_in old
same_stack old mid entry code copies top =
    ap (λ (x : Code). stack_of x.instrs.items mid.memory.copies (reverse mid.stack.items)) code
    ∙ ap (λ (cs : List Copy). stack_of old.code.instrs.items cs (reverse mid.stack.items)) copies
    ∙ ap (stack_of old.code.instrs.items old.memory.copies) top
