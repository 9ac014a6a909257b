-- Blocks: TO, WHILE, levels and the record of a FOR.
use Rattle.std.proofs.Common.{◌≡◌, ℕ, Bool, true, false, List, Option, Some, None, refl, inl, inr}
use Rattle.std.specs.Prelude.{◌&&◌, ◌⊎◌, pos}
use Rattle.abl_base.specs.declared.value.Value.{Value}
use Rattle.abl_base.specs.declared.value.Value.TheVariants.{Int64}
use Rattle.database_protocol.specs.declared.operation.Op.TheVariants as op
use Rattle.bound_tree.specs.Tree.{Expr, Fetch, Header, ToPhrase}
use Rattle.kind_laws.specs.bound_kinds.WellKinded.{if_there, is_counting, is_of_kind, is_reading, is_variable}
use Rattle.bind_names.specs.Sorts.{is_whole_kind}
use Rattle.kind_laws.proofs.BoundKindsLemmas.Parts.{both_left}
use Rattle.expression_meaning.specs.Operators.{holds}
use Rattle.block_meaning.specs.Blocks.{counts_down, enters_at, first_turn, in_bound, is_given, next_value, retry_in}
use Rattle.block_meaning.specs.Frames.{assigned, value_of}
use Rattle.block_meaning.specs.Program.{Program}
use Rattle.block_meaning.specs.State.{Copy, Normal, State, Turn}
use Rattle.block_meaning.specs.Values.{Evaluated, Fails, Gives, fit, value_now}
use Rattle.flat_machine.specs.Config.{Begins, Config, EntersLevel, Execute, StackEntry, Turns, Unwind, WasEntered}
use Rattle.flat_machine.specs.Steps.{advance_step, ask, begins_step, block_step, by_step, config, config_if, given_step, loop_step, reach_step, set_step, turn_step, while_step}
use Rattle.kind_laws.specs.Reached.{Ground}
use Rattle.kind_laws.proofs.Kept.{Allowed, allows, AreFrames, CanFail, here, IsApart, IsBlock, IsStack, IsWhole, Kept, IsCopy}
use Rattle.kind_laws.proofs.Calls.{fit_is, IfGives}
use Rattle.kind_laws.proofs.Iterations.{header_fetch, header_to}
use Rattle.kind_laws.proofs.Parts.{ask_kept, given_kept, kept_if, lacked}
use Rattle.kind_laws.proofs.States.{assigned_keeps}
use Rattle.kind_laws.specs.schemas.Named.{has_fetch}

-- ---- where another iteration is allowed too

again_fails : (a : Allowed) → CanFail a → CanFail (record a { again = true })
again_fails a f = record { faults = f.faults; inside = f.inside }

pub again_block : (g : Ground) (ns : List ℕ) (a : Allowed) (b : Header) → IsBlock g ns a b → IsBlock g ns (record a { again = true }) b
again_block g ns a b h = record { kinded = h.kinded; placed = h.placed; named = h.named; covered = go h.covered }
  where
    go : CanFail a ⊎ IsApart a b → CanFail (record a { again = true }) ⊎ IsApart (record a { again = true }) b
    go (inl f) = inl (again_fails a f)
    go (inr e) = inr (record { outermost = e.outermost; alone = e.alone })

pub again_whole : (g : Ground) (ns : List ℕ) (a : Allowed) (b : Header) (body : ℕ) → IsWhole g ns a b body → IsWhole g ns (record a { again = true }) b body
again_whole g ns a b body h = record { block = again_block g ns a b h.block; code = record { kinded = h.code.kinded; placed = h.code.placed; named = h.code.named } }

-- ---- an iteration begins

begins_at : (g : Ground) (ns : List ℕ) (f : Option Fetch) (b : Header) (copy : Option Copy) (t : Turn) (retry : Bool) (body d : ℕ) (ks : List StackEntry) (s : State) → AreFrames g ns s.frames → IsWhole g ns (allows ks) b body → IsCopy g ns copy →
    (allows ks).again ≡ true → if_there (λ (f : Fetch). is_reading (here g ns) f.reading) f ≡ true → has_fetch g.schema (here g ns).buffers f ≡ true → CanFail (allows ks) ⊎ (is_given f ≡ false) → IsStack g ns ks → Kept g ns (begins_step f b copy t retry body d ks s)
begins_at g ns None b copy t retry body d ks s h w c a r nd x k = (h, ((record { kinded = w.code.kinded; placed = w.code.placed; named = w.code.named }, refl), (record { block = w.block; copy = c; again = a }, k)))
begins_at g ns (Some f) b copy t retry body d ks s h w c a r nd (inl x) k = (h, ((record { reading = r; named = nd; faults = refl }, refl), ((w, c, a, x.faults), k)))
begins_at g ns (Some f) b copy t retry body d ks s h w c a r nd (inr e) k = absurd cc

pub begins_kept : (g : Ground) (ns : List ℕ) (b : Header) (copy : Option Copy) (t : Turn) (retry : Bool) (body d : ℕ) (ks : List StackEntry) (s : State) → AreFrames g ns s.frames → IsWhole g ns (allows ks) b body → IsCopy g ns copy →
    (allows ks).again ≡ true → IsStack g ns ks → Kept g ns (begins_step b.fetch b copy t retry body d ks s)
begins_kept g ns b copy t retry body d ks s h w c a k =
    begins_at g ns b.fetch b copy t retry body d ks s h w c a (header_fetch (here g ns) b w.block.kinded) w.block.named (lacked g ns (allows ks) b b.fetch w.block (λ o. o.fetch)) k

-- a level is opened where the header says so
pub level_kept : (g : Ground) (ns : List ℕ) (b : Header) (t : Turn) (retry : Bool) (body d : ℕ) (ks : List StackEntry) (s : State) → AreFrames g ns s.frames → IsWhole g ns (allows ks) b body → (allows ks).again ≡ true → IsStack g ns ks →
    Kept g ns (config_if (enters_at b s.level) (ask op.Enter (WasEntered b t retry body d) ks s) (config (Execute (Begins b None t retry body d)) ks s))
level_kept g ns b t retry body d ks s h w a k =
    kept_if g ns (enters_at b s.level) (ask op.Enter (WasEntered b t retry body d) ks s) (config (Execute (Begins b None t retry body d)) ks s)
    (λ _. ask_kept g ns op.Enter (WasEntered b t retry body d) ks s h tt (w, a) k) (λ e. (h, ((w, tt, a), k)))

-- ---- WHILE and TO

while_kept : (g : Ground) (ns : List ℕ) (p : Program) (o : Option Expr) (retry : Bool) (go : State → Config) (ks : List StackEntry) (s : State) → AreFrames g ns s.frames → CanFail (allows ks) ⊎ (is_given o ≡ false) → IsStack g ns ks → Kept g ns (go s) →
    Kept g ns (while_step p o retry go ks s)
while_kept g ns p None retry go ks s h x k kept = kept
while_kept g ns p (Some e) retry go ks s h (inl f) k kept =
    given_kept g ns (value_now p e retry s) (λ v s. config_if (holds v) (go s) (config (Unwind Normal) ks s)) ks s h f.faults k (λ v. kept_if g ns (holds v) (go s) (config (Unwind Normal) ks s) (λ _. kept) (λ _. (h, (tt, k))))
while_kept g ns p (Some e) retry go ks s h (inr x) k kept = absurd cc

reach_kept : (g : Ground) (ns : List ℕ) (p : Program) (l : ToPhrase) (by : Value) (retry : Bool) (go : State → Config) (ks : List StackEntry) (s : State) → AreFrames g ns s.frames → (allows ks).faults ≡ true → IsStack g ns ks → Kept g ns (go s) →
    Kept g ns (reach_step p l by retry go ks s)
reach_kept g ns p l by retry go ks s h e k kept =
    given_kept g ns (value_now p l.end retry s) (λ end s. config_if (in_bound (counts_down by) (value_of l.variable s) end) (go s) (config (Unwind Normal) ks s)) ks s h e k
    (λ v. kept_if g ns (in_bound (counts_down by) (value_of l.variable s) v) (go s) (config (Unwind Normal) ks s) (λ _. kept) (λ _. (h, (tt, k))))

given_of : (g : Ground) (ns : List ℕ) (v : Evaluated) (P : Value → Type 0) (go : Value → State → Config) (ks : List StackEntry) (s : State) → AreFrames g ns s.frames → (allows ks).faults ≡ true → IsStack g ns ks → IfGives v P →
    ((v : Value) → P v → Kept g ns (go v s)) → Kept g ns (given_step v go ks s)
given_of g ns (Gives v) P go ks s h e k is x = x v is
given_of g ns (Fails c) P go ks s h e k is x = (h, (e, k))

set_kept : (g : Ground) (ns : List ℕ) (p : Program) (l : ToPhrase) (by : Value) (retry : Bool) (v : Evaluated) (go : State → Config) (ks : List StackEntry) (s : State) → AreFrames g ns s.frames → is_variable (here g ns) l.variable ≡ true →
    (allows ks).faults ≡ true → IsStack g ns ks → ((t : State) → AreFrames g ns t.frames → Kept g ns (go t)) → Kept g ns (set_step p l by retry v go ks s)
set_kept g ns p l by retry v go ks s h is e k x =
    given_kept g ns v (λ v s. given_step (fit l.variable.kind v) (λ v s. reach_step p l by retry go ks (assigned l.variable v s)) ks s) ks s h e k
    (λ v. given_of g ns (fit l.variable.kind v) (λ v. is_of_kind l.variable.kind v ≡ true) (λ v s. reach_step p l by retry go ks (assigned l.variable v s)) ks s h e k (fit_is l.variable.kind v)
    (λ v fits. let after = assigned_keeps g ns l.variable v s h is fits in reach_kept g ns p l by retry go ks (assigned l.variable v s) after e k (x (assigned l.variable v s) after)))

advance_kept : (g : Ground) (ns : List ℕ) (p : Program) (l : ToPhrase) (t : Turn) (retry : Bool) (start : Option Value) (go : State → Config) (ks : List StackEntry) (s : State) → AreFrames g ns s.frames → is_variable (here g ns) l.variable ≡ true →
    (allows ks).faults ≡ true → IsStack g ns ks → ((t : State) → AreFrames g ns t.frames → Kept g ns (go t)) → Kept g ns (advance_step p l t retry start go ks s)
advance_kept g ns p l t retry None go ks s h is e k x = set_kept g ns p l t.by retry (next_value l t s) go ks s h is e k x
advance_kept g ns p l t retry (Some v) go ks s h is e k x = set_kept g ns p l t.by retry (Gives v) go ks s h is e k x

counted : (g : Ground) (ns : List ℕ) (l : ToPhrase) → is_counting (here g ns) l ≡ true → is_variable (here g ns) l.variable ≡ true
counted g ns l h = both_left (is_variable (here g ns) l.variable) _ (both_left (is_variable (here g ns) l.variable && is_whole_kind l.variable.kind) _ h)

loop_kept : (g : Ground) (ns : List ℕ) (p : Program) (o : Option ToPhrase) (t : Turn) (retry : Bool) (go : State → Config) (ks : List StackEntry) (s : State) → AreFrames g ns s.frames → if_there (is_counting (here g ns)) o ≡ true →
    CanFail (allows ks) ⊎ (is_given o ≡ false) → IsStack g ns ks → ((t : State) → AreFrames g ns t.frames → Kept g ns (go t)) → Kept g ns (loop_step p o t retry go ks s)
loop_kept g ns p None t retry go ks s h is x k kept = kept s h
loop_kept g ns p (Some l) t retry go ks s h is (inl f) k kept =
    kept_if g ns t.retry (go s) (advance_step p l t retry t.start go ks s) (λ _. kept s h) (λ _. advance_kept g ns p l t retry t.start go ks s h (counted g ns l is) f.faults k kept)
loop_kept g ns p (Some l) t retry go ks s h is (inr e) k kept = absurd cc

-- an iteration
pub turn_kept : (g : Ground) (ns : List ℕ) (p : Program) (b : Header) (outer : Bool) (body d : ℕ) (t : Turn) (ks : List StackEntry) (s : State) → AreFrames g ns s.frames → IsWhole g ns (allows ks) b body → (allows ks).again ≡ true → IsStack g ns ks →
    Kept g ns (turn_step p b outer body d t ks s)
turn_kept g ns p b outer body d t ks s h w a k =
    loop_kept g ns p b.to t (retry_in b t outer) (λ s. while_step p b.while_test (retry_in b t outer) (λ s. config (Execute (EntersLevel b (record t { start = None }) (retry_in b t outer) body d)) ks s) ks s) ks s h
    (header_to (here g ns) b w.block.kinded) (lacked g ns (allows ks) b b.to w.block (λ o. o.to)) k
    (λ s h. while_kept g ns p b.while_test (retry_in b t outer) (λ s. config (Execute (EntersLevel b (record t { start = None }) (retry_in b t outer) body d)) ks s) ks s h
    (lacked g ns (allows ks) b b.while_test w.block (λ o. o.while_test)) k (h, ((w, a), k)))

-- ---- a block

by_kept : (g : Ground) (ns : List ℕ) (p : Program) (o : Option Expr) (outer : Bool) (go : Value → State → Config) (ks : List StackEntry) (s : State) → AreFrames g ns s.frames → (allows ks).faults ≡ true → IsStack g ns ks → ((v : Value) → Kept g ns (go v s)) →
    Kept g ns (by_step p o outer go ks s)
by_kept g ns p None outer go ks s h e k x = x (Int64 (pos 1))
by_kept g ns p (Some t) outer go ks s h e k x = given_kept g ns (value_now p t outer s) go ks s h e k x

block_at : (g : Ground) (ns : List ℕ) (p : Program) (o : Option ToPhrase) (b : Header) (outer : Bool) (body d : ℕ) (ks : List StackEntry) (s : State) → AreFrames g ns s.frames → IsWhole g ns (allows ks) b body →
    CanFail (allows ks) ⊎ (is_given o ≡ false) → IsStack g ns ks → Kept g ns (block_step p o b outer body d ks s)
block_at g ns p None b outer body d ks s h w x k = (h, (w, k))
block_at g ns p (Some l) b outer body d ks s h w (inl f) k =
    given_kept g ns (value_now p l.start outer s) (λ v s. by_step p l.by outer (λ w s. config (Execute (Turns s.units b outer body d (first_turn (Some v) w))) ks s) ks s) ks s h f.faults k
    (λ v. by_kept g ns p l.by outer (λ w s. config (Execute (Turns s.units b outer body d (first_turn (Some v) w))) ks s) ks s h f.faults k (λ u. (h, (w, k))))
block_at g ns p (Some l) b outer body d ks s h w (inr e) k = absurd cc

pub block_kept : (g : Ground) (ns : List ℕ) (p : Program) (b : Header) (outer : Bool) (body d : ℕ) (ks : List StackEntry) (s : State) → AreFrames g ns s.frames → IsWhole g ns (allows ks) b body → IsStack g ns ks → Kept g ns (block_step p b.to b outer body d ks s)
block_kept g ns p b outer body d ks s h w k = block_at g ns p b.to b outer body d ks s h w (lacked g ns (allows ks) b b.to w.block (λ o. o.to)) k
