-- Parts of steps.
use Rattle.std.proofs.Common.{◌≡◌, ℕ, zero, suc, Bool, true, false, List, ◌∷◌, Option, Some, None, refl, arith, inl, inr}
use Rattle.std.specs.Prelude.{◌&&◌, ◌||◌, ◌==◌, ◌⊎◌, not, if◌then◌else◌}
use Rattle.std.proofs.lemmas.Bool.Decides.{nat_tests}
use Rattle.abl_base.specs.declared.value.Value.{Value}
use Rattle.database_protocol.specs.declared.operation.Op.{Op}
use Rattle.bound_tree.specs.Tree.{Action, Expr, Header}
use Rattle.kind_laws.proofs.BoundKindsLemmas.Parts.{both_left, both_right}
use Rattle.expression_meaning.specs.Operators.{holds}
use Rattle.block_meaning.specs.declared.wants.Piece.{Piece}
use Rattle.block_meaning.specs.Blocks.{Iteration, after_iteration, complained, completion_if, first_of_two, handles_endkey, is_given, iterates, line_piece, next_turn}
use Rattle.block_meaning.specs.Frames.{emptied, is_in}
use Rattle.block_meaning.specs.Lines.{Complaint}
use Rattle.block_meaning.specs.Program.{Program}
use Rattle.block_meaning.specs.State.{Again, Completed, Completion, Copy, Leaves, Nexts, Normal, Returns, State, Stops, wrote, written_if}
use Rattle.block_meaning.specs.Values.{Evaluated, EvaluatedAll, Fails, FailsAll, Gives, GivesAll, value_now}
use Rattle.flat_machine.specs.Config.{Config, EndsWith, Execute, OnAnswer, StackEntry, Task, ThenDo, Unwind}
use Rattle.flat_machine.specs.Steps.{ask, asked_from, config, config_if, costing, ends_as, errs_step, given_all_step, given_step, judge_step, test_step}
use Rattle.kind_laws.specs.Placed.{is_nil, names_one_of, outward, undoes_one_of}
use Rattle.kind_laws.specs.Reached.{Ground}
use Rattle.kind_laws.proofs.Kept.{Allowed, allows, AreFrames, CanFail, IsAllowed, IsApart, IsAwaited, IsBlock, IsCopy, IsOver, IsStack, IsTask, Kept}
use Rattle.kind_laws.proofs.Calls.{Ends}
use Rattle.kind_laws.proofs.Buffers.{emptied_keeps}
use Rattle.kind_laws.specs.Operations.{IsOfSchema}

-- ---- tests

pub clash : (c : Bool) → c ≡ true → c ≡ false → ⊥
clash true e f = cc
clash false e f = cc

pub false_true : false ≡ true → ⊥
false_true e = cc

pub true_false : true ≡ false → ⊥
true_false e = cc

pub not_holds : (c : Bool) → not c ≡ true → c ≡ false
not_holds true e = absurd cc
not_holds false e = refl

pub equal_self : (n : ℕ) → (n == n) ≡ true
equal_self n = grind (arith, nat_tests)

pub in_self : (n : ℕ) (bs : List ℕ) → is_in n (n ∷ bs) ≡ true
in_self n bs = go (n == n) (equal_self n)
  where
    go : (c : Bool) → c ≡ true → (c || is_in n bs) ≡ true
    go true e = refl
    go false e = absurd cc

-- ---- configurations

pub unwinds : (g : Ground) (ns : List ℕ) (completion : Completion) (ks : List StackEntry) (s : State) → AreFrames g ns s.frames → IsAllowed g ns (allows ks) completion → IsStack g ns ks → Kept g ns (config (Unwind completion) ks s)
unwinds g ns (Stops end) ks s h a k = (h, tt)
unwinds g ns completion ks s h a k = (h, (a, k))

pub executes : (g : Ground) (ns : List ℕ) (t : Task) (ks : List StackEntry) (s : State) → AreFrames g ns s.frames → IsTask g ns (allows ks) t → IsStack g ns ks → Kept g ns (config (Execute t) ks s)
executes g ns (EndsWith b o (Stops end)) ks s h a k = (h, tt)
executes g ns t ks s h a k = (h, (a, k))

pub kept_if : (g : Ground) (ns : List ℕ) (c : Bool) (one other : Config) → (c ≡ true → Kept g ns one) → (c ≡ false → Kept g ns other) → Kept g ns (config_if c one other)
kept_if g ns true one other x y = x refl
kept_if g ns false one other x y = y refl

asked_kept : (g : Ground) (ns : List ℕ) (n : ℕ) (op : Op) (on : OnAnswer) (ks : List StackEntry) (s : State) → AreFrames g ns s.frames → IsOfSchema g.schema op → IsAwaited g ns (allows ks) op on → IsStack g ns ks → Kept g ns (asked_from n op on ks s)
asked_kept g ns zero op on ks s h w a k = (h, tt)
asked_kept g ns (suc n) op on ks s h w a k = (h, (w, a, k))

pub ask_kept : (g : Ground) (ns : List ℕ) (op : Op) (on : OnAnswer) (ks : List StackEntry) (s : State) → AreFrames g ns s.frames → IsOfSchema g.schema op → IsAwaited g ns (allows ks) op on → IsStack g ns ks → Kept g ns (ask op on ks s)
ask_kept g ns op on ks s h w a k = asked_kept g ns s.units op on ks s h w a k

pub costing_kept : (g : Ground) (ns : List ℕ) (n : ℕ) (go : State → Config) (ks : List StackEntry) (s : State) → AreFrames g ns s.frames → ((t : State) → AreFrames g ns t.frames → Kept g ns (go t)) → Kept g ns (costing n go ks s)
costing_kept g ns zero go ks s h x = (h, tt)
costing_kept g ns (suc n) go ks s h x = x (record s { units = n }) h

pub given_kept : (g : Ground) (ns : List ℕ) (v : Evaluated) (go : Value → State → Config) (ks : List StackEntry) (s : State) → AreFrames g ns s.frames → (allows ks).faults ≡ true → IsStack g ns ks → ((v : Value) → Kept g ns (go v s)) → Kept g ns (given_step v go ks s)
given_kept g ns (Gives v) go ks s h e k x = x v
given_kept g ns (Fails c) go ks s h e k x = (h, (e, k))

pub given_all_kept : (g : Ground) (ns : List ℕ) (v : EvaluatedAll) (go : List Value → State → Config) (ks : List StackEntry) (s : State) → AreFrames g ns s.frames → (allows ks).faults ≡ true → IsStack g ns ks → ((vs : List Value) → Kept g ns (go vs s)) →
    Kept g ns (given_all_step v go ks s)
given_all_kept g ns (GivesAll vs) go ks s h e k x = x vs
given_all_kept g ns (FailsAll c) go ks s h e k x = (h, (e, k))

judge_kept : (g : Ground) (ns : List ℕ) (v : Evaluated) (b : ℕ) (good bad : State → Config) (ks : List StackEntry) (s : State) → AreFrames g ns s.frames → (allows ks).faults ≡ true → IsStack g ns ks →
    ((t : State) → AreFrames g ns t.frames → Kept g ns (good t)) → ((t : State) → AreFrames g ns t.frames → Kept g ns (bad t)) → Kept g ns (judge_step v b good bad ks s)
judge_kept g ns (Gives v) b good bad ks s h e k x y = kept_if g ns (holds v) (good s) (bad (emptied b s)) (λ _. x s h) (λ _. y (emptied b s) (emptied_keeps g ns b s h))
judge_kept g ns (Fails c) b good bad ks s h e k x y = (emptied_keeps g ns b s h, (e, k))

-- after WHERE
pub test_kept : (g : Ground) (ns : List ℕ) (p : Program) (o : Option Expr) (b : ℕ) (retry : Bool) (good bad : State → Config) (ks : List StackEntry) (s : State) → AreFrames g ns s.frames → (allows ks).faults ≡ true → IsStack g ns ks →
    ((t : State) → AreFrames g ns t.frames → Kept g ns (good t)) → ((t : State) → AreFrames g ns t.frames → Kept g ns (bad t)) → Kept g ns (test_step p o b retry good bad ks s)
test_kept g ns p None b retry good bad ks s h e k x y = x s h
test_kept g ns p (Some t) b retry good bad ks s h e k x y = judge_kept g ns (value_now p t retry s) b good bad ks s h e k x y

pub ends_kept : (g : Ground) (ns : List ℕ) (x : Completed) (ks : List StackEntry) → Ends g ns (allows ks) x → IsStack g ns ks → Kept g ns (ends_as x ks)
ends_kept g ns x ks h k = unwinds g ns x.completion ks x.state h.frames h.allowed k

-- ---- what is written

written_ends : (g : Ground) (ns : List ℕ) (a : Allowed) (full : Bool) (piece : Piece) (s : State) → AreFrames g ns s.frames → Ends g ns a (written_if full piece s)
written_ends g ns a true piece s h = record { frames = h; allowed = tt }
written_ends g ns a false piece s h = record { frames = h; allowed = tt }

pub wrote_ends : (g : Ground) (ns : List ℕ) (a : Allowed) (piece : Piece) (s : State) → AreFrames g ns s.frames → Ends g ns a (wrote piece s)
wrote_ends g ns a piece s h = written_ends g ns a _ piece s h

complained_ends : (g : Ground) (ns : List ℕ) (a : Allowed) (p : Program) (c : Option Complaint) (s : State) → AreFrames g ns s.frames → Ends g ns a (complained p c s)
complained_ends g ns a p None s h = record { frames = h; allowed = tt }
complained_ends g ns a p (Some c) s h = wrote_ends g ns a (line_piece p c s) s h

-- the line about a fault, and then the task
pub errs_kept : (g : Ground) (ns : List ℕ) (p : Program) (c : Option Complaint) (t : Task) (ks : List StackEntry) (s : State) → AreFrames g ns s.frames → IsTask g ns (allows ks) t → IsStack g ns ks → Kept g ns (errs_step (complained p c s) t ks)
errs_kept g ns p c t ks s h a k = ends_kept g ns (complained p c s) (ThenDo t ∷ ks) (complained_ends g ns (allows ks) p c s h) (a, k)

-- ---- blocks that are named

if_allowed : (g : Ground) (ns : List ℕ) (a : Allowed) (c : Bool) (one other : Completion) → (c ≡ true → IsAllowed g ns a one) → (c ≡ false → IsAllowed g ns a other) → IsAllowed g ns a (completion_if c one other)
if_allowed g ns a true one other x y = x refl
if_allowed g ns a false one other x y = y refl

or_rest : (c d : Bool) → (c || d) ≡ true → c ≡ false → d ≡ true
or_rest true d h e = absurd cc
or_rest false d h e = h

-- after an iteration that is not undone
pub after_over : (g : Ground) (ns : List ℕ) (a : Allowed) (b : Header) (o : Iteration) (completion : Completion) → IsOver (b.number ∷ a.blocks) completion → a.again ≡ true → IsAllowed g ns a (after_iteration b o completion)
after_over g ns a b o Normal h e = if_allowed g ns a (iterates b) (Again (next_turn false o.turn)) Normal (λ _. e) (λ _. tt)
after_over g ns a b o (Leaves l) h e = if_allowed g ns a (l == b.number) Normal (Leaves l) (λ _. tt) (λ f. or_rest (l == b.number) (is_in l a.blocks) h f)
after_over g ns a b o (Nexts l) h e = if_allowed g ns a (l == b.number) (Again (next_turn false o.turn)) (Nexts l) (λ _. e) (λ f. or_rest (l == b.number) (is_in l a.blocks) h f)
after_over g ns a b o (Returns error) h e = tt
after_over g ns a b o completion h e = absurd h

-- an UNDO has come to its block
pub undoes_here : (n m : ℕ) (bs : List ℕ) (act : Action) → undoes_one_of (m ∷ bs) n act ≡ true → (n == m) ≡ true → names_one_of (m ∷ bs) act ≡ true
undoes_here n m bs act h e = go (n == m) h e
  where
    go : (c : Bool) → ((c || is_in n bs) && names_one_of (if c then m ∷ bs else outward n bs) act) ≡ true → c ≡ true → names_one_of (m ∷ bs) act ≡ true
    go true h e = h
    go false h e = absurd cc

-- it passes another block
pub undoes_outside : (n m : ℕ) (bs : List ℕ) (act : Action) → undoes_one_of (m ∷ bs) n act ≡ true → (n == m) ≡ false → undoes_one_of bs n act ≡ true
undoes_outside n m bs act h e = go (n == m) h e
  where
    go : (c : Bool) → ((c || is_in n bs) && names_one_of (if c then m ∷ bs else outward n bs) act) ≡ true → c ≡ false → undoes_one_of bs n act ≡ true
    go true h e = absurd cc
    go false h e = h

-- an UNDO of the innermost block
pub undoes_self : (n : ℕ) (bs : List ℕ) (act : Action) → names_one_of (n ∷ bs) act ≡ true → undoes_one_of (n ∷ bs) n act ≡ true
undoes_self n bs act h = go (n == n) (equal_self n)
  where
    go : (c : Bool) → c ≡ true → ((c || is_in n bs) && names_one_of (if c then n ∷ bs else outward n bs) act) ≡ true
    go true e = h
    go false e = absurd cc

-- ---- the block of a procedure

pub record IsOuter (a : Allowed) (b : Header) : Type 0 where
  pub undo : b.flags.undo ≡ true
  pub endkey : handles_endkey b ≡ true
  pub to : is_given b.to ≡ false
  pub while_test : is_given b.while_test ≡ false
  pub fetch : is_given b.fetch ≡ false
  pub alone : is_nil a.blocks ≡ true

pub outer : (a : Allowed) (b : Header) → IsApart a b → IsOuter a b
outer a b apart =
    let h = apart.outermost in
    let first = both_left (b.flags.undo && handles_endkey b) _ h in
    let rest = both_right (b.flags.undo && handles_endkey b) _ h in
    let second = both_right (not (is_given b.to)) _ rest in
    record {
      undo = both_left b.flags.undo _ first;
      endkey = both_right b.flags.undo _ first;
      to = not_holds (is_given b.to) (both_left (not (is_given b.to)) _ rest);
      while_test = not_holds (is_given b.while_test) (both_left (not (is_given b.while_test)) _ second);
      fetch = not_holds (is_given b.fetch) (both_right (not (is_given b.while_test)) _ second);
      alone = apart.alone;
    }

-- it is the block of a procedure, or a fault is handled around it
pub covers : (g : Ground) (ns : List ℕ) (a : Allowed) (b : Header) → IsBlock g ns a b → CanFail a ⊎ IsOuter a b
covers g ns a b h = go h.covered
  where
    go : CanFail a ⊎ IsApart a b → CanFail a ⊎ IsOuter a b
    go (inl f) = inl f
    go (inr e) = inr (outer a b e)

-- what a header has that the block of a procedure lacks
pub lacked : {A : Type 0} (g : Ground) (ns : List ℕ) (a : Allowed) (b : Header) (o : Option A) → IsBlock g ns a b → (IsOuter a b → is_given o ≡ false) → CanFail a ⊎ (is_given o ≡ false)
lacked g ns a b o h f = go (covers g ns a b h)
  where
    go : CanFail a ⊎ IsOuter a b → CanFail a ⊎ (is_given o ≡ false)
    go (inl x) = inl x
    go (inr x) = inr (f x)

-- ---- copies

pub first_copy : (g : Ground) (ns : List ℕ) (c d : Option Copy) → IsCopy g ns c → IsCopy g ns d → IsCopy g ns (first_of_two c d)
first_copy g ns None d x y = y
first_copy g ns (Some c) d x y = x
