-- An answer changes the open levels as the client's own events tell, and keeps the levels at which the stack is reached.
use Rattle.std.proofs.Common.{◌≡◌, ◌≢◌, ◌≤◌, inl, inr, refl, sym, ap, ◌∙◌, subst, ℕ, ◌+◌, ◌-◌, min, Bool, true, false, cond, List, ◌∷◌, Option, Some, None, arith, ℤ}
use Rattle.std.proofs.lemmas.Bool.Decides.{eqb_tells}
use Rattle.abl_base.specs.declared.row.RowId.{RowId}
use Rattle.abl_base.specs.declared.value.Value.{Value}
use Rattle.abl_base.specs.declared.value.Value.TheVariants.{Int64}
use Rattle.abl_values.specs.Schema.{SchemaData}
use Rattle.database_protocol.specs.declared.row_order.Cursor.{Cursor}
use Rattle.database_protocol.specs.declared.answer.Answer.{Answer}
use Rattle.database_protocol.specs.declared.answer.Answer.TheVariants as answer
use Rattle.database_protocol.specs.declared.operation.Op.{Op}
use Rattle.database_protocol.specs.declared.operation.Op.TheVariants as op
use Rattle.bound_tree.specs.declared.statement.Target.{Target}
use Rattle.bound_tree.specs.Tree.{Body, Reading}
use Rattle.database_meaning.specs.Fits.{Fits}
use Rattle.database_meaning.specs.Steps.{is_success}
use Rattle.block_meaning.specs.Buffers.{Place, got_content, holding_in, left, left_if}
use Rattle.block_meaning.specs.Changes.{stored}
use Rattle.block_meaning.specs.Frames.{emptied, holding, table_of}
use Rattle.block_meaning.specs.Lines.{Complaint, MoreThanOne, RecordIsGone}
use Rattle.block_meaning.specs.Program.{Program}
use Rattle.block_meaning.specs.Reads.{Search, held_as, next_shown, shows}
use Rattle.block_meaning.specs.State.{Exclusive, Held, Lost, Normal, Record, State}
use Rattle.block_meaning.specs.Views.{FoundRow, Grant, IsBusy, IsGone, IsGranted, found_in, grant_in, is_gone, number_in, refusal_in, row_in, values_in}
use Rattle.flat_machine.specs.Config.{Await, Config, CurrentGranted, Execute, Looks, OnAnswer, OrDo, Seconds, StackEntry, Takes, Unwind, WasBack, WasCounted, WasCurrent, WasDeleted, WasDropped, WasEntered, WasGot, WasGranted, WasInserted, WasLeft, WasNext, WasPut, WasRead, WasSecond, WasUpgraded}
use Rattle.flat_machine.specs.Machine.{answer_step, answered, count_answered, current_answered, current_grant_answered, grant_answered, insert_answered, next_answered, read_answered, refused_answered, second_answered}
use Rattle.flat_machine.specs.Steps.{config, config_if, fault}
use Rattle.client_runner.specs.Levels.{levels_after}
use Rattle.machine_laws.proofs.LevelsLemmas.Kept.{AwaitAt, IsStill, Sound, StackAt, takes}
use Rattle.machine_laws.proofs.LevelsLemmas.Parts.{asks, plain_unwinds, stored_class, stored_level, tests}

-- ---- one event

-- the open levels after it
abbrev pub levels_next : ℕ → Op → Answer → ℕ
levels_next k o a = cond (is_success a) (levels_after k o) k

levels_stay : (tree : ℕ → Body) (k : ℕ) (o : Op) → IsStill tree o → levels_after k o ≡ k
levels_stay tree k op.Enter is = absurd is
levels_stay tree k (op.Leave keep) is = absurd is
levels_stay tree k (op.Back depth) is = absurd is
levels_stay tree k op.End is = absurd is
levels_stay tree k o is = refl

same_if : (b : Bool) (j k : ℕ) → j ≡ k → cond b j k ≡ k
same_if true j k e = e
same_if false j k e = refl

-- ---- answers that are heard

-- an answer that neither stops the client nor blocks it
abbrev pub IsHeard : Answer → Type 0
IsHeard (answer.Blocked holders) = ⊥
IsHeard answer.NoMemory = ⊥
IsHeard answer.Closed = ⊥
IsHeard (answer.Deadlock cycle) = ⊥
IsHeard answer.TxFull = ⊥
IsHeard answer.TraceFull = ⊥
IsHeard a = Unit {0}

enter_done : (schema : SchemaData) (a : Answer) → Fits schema op.Enter a → a ≢ answer.Refused → IsHeard a → is_success a ≡ true
enter_done schema answer.Done fits unrefused heard = refl
enter_done schema answer.Refused fits unrefused heard = absurd (unrefused refl)
enter_done schema answer.NoMemory fits unrefused heard = absurd heard
enter_done schema answer.Closed fits unrefused heard = absurd heard
enter_done schema answer.TraceFull fits unrefused heard = absurd heard
enter_done schema a fits unrefused heard = absurd fits

leave_done : (schema : SchemaData) (keep : List RowId) (a : Answer) → Fits schema (op.Leave keep) a → a ≢ answer.Refused → IsHeard a → is_success a ≡ true
leave_done schema keep answer.Done fits unrefused heard = refl
leave_done schema keep (answer.Committed moment) fits unrefused heard = refl
leave_done schema keep answer.Refused fits unrefused heard = absurd (unrefused refl)
leave_done schema keep answer.NoMemory fits unrefused heard = absurd heard
leave_done schema keep answer.Closed fits unrefused heard = absurd heard
leave_done schema keep answer.TraceFull fits unrefused heard = absurd heard
leave_done schema keep a fits unrefused heard = absurd fits

back_done : (schema : SchemaData) (depth : ℕ) (a : Answer) → Fits schema (op.Back depth) a → a ≢ answer.Refused → IsHeard a → is_success a ≡ true
back_done schema depth answer.Done fits unrefused heard = refl
back_done schema depth answer.Refused fits unrefused heard = absurd (unrefused refl)
back_done schema depth answer.NoMemory fits unrefused heard = absurd heard
back_done schema depth answer.Closed fits unrefused heard = absurd heard
back_done schema depth answer.TraceFull fits unrefused heard = absurd heard
back_done schema depth a fits unrefused heard = absurd fits

-- ---- what follows an answer

module _ (tree : ℕ → Body) (k : ℕ) where
  insert_sound : (made_row : Option RowId) (place : Place) (t : ℕ) (vs : List Value) (made : ℕ) (f : Option Complaint) (ks : List StackEntry) (s : State) → s.level ≡ k → StackAt tree ks k k → Sound tree k (insert_answered made_row place t vs made f ks s)
  insert_sound (Some row) place t vs made f ks s e st = (e, (k, k, refl, st, omega arith))
  insert_sound None place t vs made (Some f) ks s e st = (e, (k, k, refl, st, omega arith))
  insert_sound None place t vs made None ks s e st = (e, (k, k, refl, st, omega arith))

  refused_sound : (f : Option Complaint) (ks : List StackEntry) (s : State) → s.level ≡ k → StackAt tree ks k k → Sound tree k (refused_answered f ks s)
  refused_sound (Some f) ks s e st = (e, (k, k, refl, st, omega arith))
  refused_sound None ks s e st = (e, (k, k, refl, st, omega arith))

  read_sound : (p : Program) (vs : Option (List Value)) (r : Reading) (retry : Bool) (row : RowId) (lock : Held) (ks : List StackEntry) (s : State) → s.level ≡ k → StackAt tree ks k k → 1 ≤ takes ks → Sound tree k (read_answered p vs r retry row lock ks s)
  read_sound p (Some values) r retry row lock ks s e st c =
      tests tree k p r.test r.buffer retry (λ s. config (Unwind Normal) ks (holding r.buffer (Record row values lock None) s)) (λ s. config (Unwind Lost) ks s) ks (shows r.buffer row values s) e st
      (λ t f. (f, (k, k, refl, st, omega arith))) (λ t f. (f, (k, k, refl, st, c)))
  read_sound p None r retry row lock ks s e st c = (e, (k, k, refl, st, c))

  grant_sound : (g : Grant) (r : Reading) (retry : Bool) (row : RowId) (ks : List StackEntry) (s : State) → s.level ≡ k → StackAt tree ks k k → 1 ≤ takes ks → Sound tree k (grant_answered g r retry row ks s)
  grant_sound IsGranted r retry row ks s e st c = asks tree k (op.Get (table_of r.buffer s) row) (WasRead r retry row (held_as r.lock)) ks s e st (tt, st, c)
  grant_sound IsBusy r retry row ks s e st c = (e, (k, k, refl, st, omega arith))
  grant_sound IsGone r retry row ks s e st c = (e, (k, k, refl, st, c))

  second_sound : (p : Program) (x : Option FoundRow) (n : ℕ) (q : Search) (at : Cursor) (values : List Value) (ks : List StackEntry) (s : State) → s.level ≡ k → StackAt tree ks k k → Sound tree k (second_answered p x n q at values ks s)
  second_sound p (Some x) n q at values ks s e st =
      tests tree k p q.reading.test q.reading.buffer q.retry (λ s. fault (MoreThanOne q.reading.buffer) ks (emptied q.reading.buffer s)) (λ s. config (Execute (Seconds n q at values x.cursor)) ks s) ks (shows q.reading.buffer x.cursor.row x.values s) e st
      (λ t f. (f, (k, k, refl, st, omega arith))) (λ t f. (f, (st, omega arith, tt)))
  second_sound p None n q at values ks s e st = (e, (k, k, refl, st, omega arith))

  next_sound : (p : Program) (x : Option FoundRow) (n : ℕ) (q : Search) (ks : List StackEntry) (s : State) → s.level ≡ k → StackAt tree ks k k → 1 ≤ takes ks → Sound tree k (next_answered p x n q ks s)
  next_sound p (Some x) n q ks s e st c =
      tests tree k p q.reading.test q.reading.buffer q.retry (λ s. config (Execute (Takes q x.cursor x.values)) (OrDo (Looks n q (Some x.cursor)) ∷ ks) s) (λ s. config (Execute (Looks n q (Some x.cursor))) ks s) ks (next_shown q x s) e st
      (λ t f. (f, ((refl, st, (st, c, tt)), c, tt))) (λ t f. (f, (st, c, tt)))
  next_sound p None n q ks s e st c = (e, (k, k, refl, st, c))

  current_sound : (vs : Option (List Value)) (r : Reading) (row : RowId) (made : Option ℕ) (ks : List StackEntry) (s : State) → s.level ≡ k → StackAt tree ks k k → Sound tree k (current_answered vs r row made ks s)
  current_sound (Some values) r row made ks s e st = (e, (k, k, refl, st, omega arith))
  current_sound None r row made ks s e st = (e, (k, k, refl, st, omega arith))

  current_grant_sound : (g : Grant) (r : Reading) (row : RowId) (made : Option ℕ) (ks : List StackEntry) (s : State) → s.level ≡ k → StackAt tree ks k k → Sound tree k (current_grant_answered g r row made ks s)
  current_grant_sound IsGranted r row made ks s e st = asks tree k (op.Get (table_of r.buffer s) row) (WasCurrent r row made) ks s e st (tt, st)
  current_grant_sound IsBusy r row made ks s e st = (e, (k, k, refl, st, omega arith))
  current_grant_sound IsGone r row made ks s e st = (e, (k, k, refl, st, omega arith))

  count_sound : (n : Option ℤ) (t : Target) (ks : List StackEntry) (s : State) → s.level ≡ k → StackAt tree ks k k → Sound tree k (count_answered n t ks s)
  count_sound (Some n) t ks s e st = plain_unwinds tree k (stored t (Int64 n) s).completion ks (stored t (Int64 n) s).state (stored_level t (Int64 n) s ∙ e) st (stored_class t (Int64 n) s)
  count_sound None t ks s e st = (e, (k, k, refl, st, omega arith))

  gone_sound : (b : Bool) (f : Complaint) (ks : List StackEntry) (s t : State) → s.level ≡ k → t.level ≡ k → StackAt tree ks k k → Sound tree k (config_if b (fault f ks s) (config (Unwind Normal) ks t))
  gone_sound true f ks s t e g st = (e, (k, k, refl, st, omega arith))
  gone_sound false f ks s t e g st = (g, (k, k, refl, st, omega arith))

left_level : (k m : ℕ) (s : State) → s.level ≡ k → k ≡ m + 1 → (left s).level ≡ m
left_level k m s e d =
    elim (eqb_tells s.level 1) [
      | inl one ↦ ap (λ b. (left_if b s).level) one.0 ∙ (let x = one.1 in omega (arith, x, e, d))
      | inr more ↦ ap (λ b. (left_if b s).level) more.0 ∙ (omega (arith, e, d))
    ]

-- ---- an answer that is heard

module _ (tree : ℕ → Body) (schema : SchemaData) (p : Program) (a : Answer) (ks : List StackEntry) (s : State) (unrefused : a ≢ answer.Refused) (heard : IsHeard a) (k : ℕ) (e : s.level ≡ k) where
  -- the operation leaves the levels as they are
  still : (o : Op) (c : Config) → IsStill tree o → Sound tree k c → Sound tree (levels_next k o a) c
  still o c is x = subst (λ j. Sound tree j c) (sym (same_if (is_success a) (levels_after k o) k (levels_stay tree k o is))) x

  changes : (o q : Op) (c : Config) → o ≡ q → levels_after k q ≡ k → Sound tree k c → Sound tree (levels_next k o a) c
  changes o q c is same x = subst (λ j. Sound tree j c) (sym (same_if (is_success a) (levels_after k o) k (ap (levels_after k) is ∙ same))) x

  heard_sound : (o : Op) (on : OnAnswer) → Fits schema o a → AwaitAt tree ks o on k → Sound tree (levels_next k o a) (answer_step p on a ks s)
  heard_sound o (WasInserted place t vs made) fits w = still o _ w.0 (insert_sound tree k (row_in a) place t vs made (refusal_in place.number t a) ks s e w.1)
  heard_sound o WasDropped fits w = still o (config (Unwind Normal) ks s) w.0 (e, (k, k, refl, w.1, omega arith))
  heard_sound o WasLeft fits w =
      let done = leave_done schema w.0 a (subst (λ o. Fits schema o a) w.1 fits) unrefused heard in
      let next : levels_next k o a ≡ w.2 = ap (λ o. levels_next k o a) w.1 ∙ ap (λ b. cond b (k - 1) k) done ∙ (let d = w.4 in omega (arith, d)) in
      (left_level k w.2 s e w.4 ∙ sym next, (w.2, w.3, next, w.5, omega arith))
  heard_sound o (WasBack copy but) fits w =
      let done = back_done schema copy.depth a (subst (λ o. Fits schema o a) w.0 fits) unrefused heard in
      let least : min copy.depth k ≡ copy.depth = (let d = w.3 in let l = w.4 in grind (arith, d, l)) in
      let next : levels_next k o a ≡ copy.depth = ap (λ o. levels_next k o a) w.0 ∙ ap (λ b. cond b (min copy.depth k) k) done ∙ least in
      (tt, (w.1, w.2, sym next, next ∙ w.3, w.5))
  heard_sound o (WasGot place row lock made) fits w = still o (config (Unwind Normal) ks (holding_in place (got_content (values_in a) row lock made) s)) w.0 (e, (k, w.1, refl, w.2, omega arith))
  heard_sound o (WasSecond n q at values) fits w = still o _ w.0 (second_sound tree k p (found_in a) n q at values ks s e w.1)
  heard_sound o (WasNext n q) fits w = still o _ w.0 (next_sound tree k p (found_in a) n q ks s e w.1 w.2)
  heard_sound o (WasGranted r retry row) fits w = still o _ w.0 (grant_sound tree k (grant_in a) r retry row ks s e w.1 w.2)
  heard_sound o (WasRead r retry row lock) fits w = still o _ w.0 (read_sound tree k p (values_in a) r retry row lock ks s e w.1 w.2)
  heard_sound o (CurrentGranted r row made) fits w = still o _ w.0 (current_grant_sound tree k (grant_in a) r row made ks s e w.1)
  heard_sound o (WasCurrent r row made) fits w = still o _ w.0 (current_sound tree k (values_in a) r row made ks s e w.1)
  heard_sound o (WasCounted t) fits w = still o _ w.0 (count_sound tree k (number_in a) t ks s e w.1)
  heard_sound o (WasUpgraded b row values made) fits w = still o _ w.0 (gone_sound tree k (is_gone a) (RecordIsGone b) ks s (holding b (Record row values Exclusive made) s) e e w.1)
  heard_sound o (WasPut b t) fits w = changes o (op.Put t w.0 w.1) _ w.2 refl (refused_sound tree k (refusal_in b t a) ks s e w.4)
  heard_sound o (WasDeleted b) fits w = changes o (op.Delete w.0 w.1) _ w.2 refl (gone_sound tree k (is_gone a) (RecordIsGone b) ks s (emptied b s) e e w.4)
  heard_sound o (WasEntered b t retry body d) fits w =
      let done = enter_done schema a (subst (λ o. Fits schema o a) w.0 fits) unrefused heard in
      let next : levels_next k o a ≡ k + 1 = ap (λ o. levels_next k o a) w.0 ∙ ap (λ b. cond b (k + 1) k) done in
      subst (λ j. Sound tree j (answer_step p (WasEntered b t retry body d) a ks s)) (sym next)
      (ap (λ n. n + 1) e, (record { inside = λ _. omega arith; flags = w.1.flags }, (k, (ap (λ n. n + 1) e, refl), w.2, w.3, tt)))

-- ---- an answer

-- the stack is reached somehow
awaits_stack : (tree : ℕ → Body) (ks : List StackEntry) (o : Op) (on : OnAnswer) (k : ℕ) → AwaitAt tree ks o on k → (n : ℕ) × (f : ℕ) × StackAt tree ks n f
awaits_stack tree ks o (WasInserted place t vs made) k w = (k, k, w.1)
awaits_stack tree ks o WasDropped k w = (k, k, w.1)
awaits_stack tree ks o WasLeft k w = (w.2, w.3, w.5)
awaits_stack tree ks o (WasBack copy but) k w = (w.1, w.2, w.5)
awaits_stack tree ks o (WasGot place row lock made) k w = (k, w.1, w.2)
awaits_stack tree ks o (WasSecond n q at values) k w = (k, k, w.1)
awaits_stack tree ks o (WasNext n q) k w = (k, k, w.1)
awaits_stack tree ks o (WasGranted r retry row) k w = (k, k, w.1)
awaits_stack tree ks o (WasRead r retry row lock) k w = (k, k, w.1)
awaits_stack tree ks o (CurrentGranted r row made) k w = (k, k, w.1)
awaits_stack tree ks o (WasCurrent r row made) k w = (k, k, w.1)
awaits_stack tree ks o (WasCounted t) k w = (k, k, w.1)
awaits_stack tree ks o (WasUpgraded b row values made) k w = (k, k, w.1)
awaits_stack tree ks o (WasPut b t) k w = (k, k, w.4)
awaits_stack tree ks o (WasDeleted b) k w = (k, k, w.4)
awaits_stack tree ks o (WasEntered b t retry body d) k w = (k, k, w.2)

module _ (tree : ℕ → Body) (schema : SchemaData) (p : Program) (k : ℕ) (o : Op) (on : OnAnswer) (ks : List StackEntry) (s : State) where
  stops_at : Sound tree k (config (Await o on) ks s) → (s.level ≡ k) × ((n : ℕ) × (f : ℕ) × Unit {0} × StackAt tree ks n f × (0 ≤ takes ks))
  stops_at x = let st = awaits_stack tree ks o on k x.1 in (x.0, (st.0, st.1, tt, st.2, omega arith))

  pub answer_sound : (a : Answer) → Fits schema o a → a ≢ answer.Refused → Sound tree k (config (Await o on) ks s) → Sound tree (levels_next k o a) (answered p a o on ks s)
  answer_sound (answer.Blocked holders) fits unrefused x = x
  answer_sound answer.NoMemory fits unrefused x = stops_at x
  answer_sound answer.Closed fits unrefused x = stops_at x
  answer_sound (answer.Deadlock cycle) fits unrefused x = stops_at x
  answer_sound answer.TxFull fits unrefused x = stops_at x
  answer_sound answer.TraceFull fits unrefused x = stops_at x
  answer_sound a fits unrefused x = heard_sound tree schema p a ks s unrefused tt k x.0 o on fits x.1
