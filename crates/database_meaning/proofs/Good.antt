-- What holds of every state that a legal trace leaves.
use Rattle.std.proofs.Common.{◌≡◌, ℕ, zero, suc, Bool, true, false, cond, List, [], ◌∷◌, Option, Some, None, refl, sym, ap, ◌∙◌, subst, inl, inr, nat_cmp, eq-eqb}
use Rattle.std.specs.FinMap.{get, entries, get-empty, get-entries}
use Rattle.std.proofs.lemmas.Bool.{cases_eq, ne_eqb}
use Rattle.std.specs.Prelude.{IsTrue, IsFalse}
use Rattle.database_meaning.specs.declared.state.StoredRow.{StoredRow}
use Rattle.database_meaning.specs.declared.state.BlockedRequest.{BlockedRequest}
use Rattle.database_meaning.specs.Setting.{Setting, unique_keys, has_key}
use Rattle.database_meaning.specs.State.{State, Client, Rows, Overlay, Held, view, laid, over}
use Rattle.database_meaning.specs.Waiting.{Conflicts, LocksConflict, WaitsFor, WouldWait, Chain}
use Rattle.database_meaning.specs.Answers.{Answers, IsRefused}
use Rattle.database_meaning.specs.Steps.{own_after, is_outermost, is_success, row_of_answer, after, client_after, blocked_after, committed_after, laid_on}
use Rattle.database_meaning.specs.Traces.{state_after, Follows, opened, IsLegal, left_by}
use Rattle.database_meaning.specs.declared.contents.Contents.{Contents}
use Rattle.database_protocol.specs.declared.event.Event.{Event}
use Rattle.database_protocol.specs.declared.operation.Op.{Op}
use Rattle.database_protocol.specs.declared.operation.Op.TheVariants.{Enter, Leave, Back, Next, Get, Lock, Insert, Put, Delete, Drop as DropLock, NextValue, CurrentValue, End}
use Rattle.database_protocol.specs.declared.answer.Answer.{Answer}
use Rattle.database_protocol.specs.declared.answer.Answer.TheVariants.{Refused, Closed, TraceFull, Gone, KeyTooLong, Busy, Blocked, Deadlock, Duplicate, Full, TxFull, SequenceEnd, AtEnd, NoMemory, Done, Committed, Found, Row as RowAnswer, Granted, Inserted, Value as ValueAnswer}
use Rattle.database_meaning.proofs.Maps.{get_laid_on_none, empty_cases}
use Rattle.database_meaning.proofs.TableRows.{success_of, waiting_of}
use Rattle.database_meaning.proofs.Own.{Own, Covers, BlockedHeld, OpHeld, OwnAfter, own_good, forget, sound, stable_true}
use Rattle.database_meaning.proofs.Clash.{NoClash, Suits, own_suits, suits_same}
use Rattle.database_meaning.proofs.Chains.{chain_map, none_idle, none_closed}

pub record Good (f : Setting) (s : State) : Type 0 where
  pub own : (c : ℕ) → Own (s.client c)
  pub clash : NoClash s.client
  pub acyclic : (c : ℕ) (others : List ℕ) → ¬ Chain (WaitsFor f s) c others c

-- ---- who changes

module _ (f : Setting) (s : State) (c : ℕ) (op : Op) (a : Answer) where
  pub self_after : (after f s c op a).client c ≡ record (client_after f s c op a) { blocked = blocked_after s c op a }
  self_after = ap (λ b. cond b (record (client_after f s c op a) { blocked = blocked_after s c op a }) (s.client c)) (eq-eqb c c refl)

  pub other_after : (d : ℕ) → (d ≡ c → ⊥) → (after f s c op a).client d ≡ s.client d
  other_after d ne = ap (λ b. cond b (record (client_after f s c op a) { blocked = blocked_after s c op a }) (s.client d)) (ne_eqb d c ne)

turned : (x y : Bool) → LocksConflict (Some y) x → LocksConflict (Some x) y
turned true true stands = tt
turned true false stands = tt
turned false true stands = refl
turned false false stands = cc

stands_sym : (o p : Option Bool) (x : Bool) → o ≡ Some x → LocksConflict p x → (y : Bool) × (p ≡ Some y) × LocksConflict o y
stands_sym o None x e stands = absurd stands
stands_sym o (Some y) x e stands = (y, refl, subst (λ q. LocksConflict q y) (sym e) (turned x y stands))

-- ---- each client alone

own_asks : (f : Setting) (s : State) (c : ℕ) (op : Op) → ¬ IsRefused f s c op → OpHeld (s.client c).held op
own_asks f s c (Put table row values) r = stable_true _ (λ k. sound f s c (Put table row values) r (λ p. k p.3))
own_asks f s c Enter r = tt
own_asks f s c (Leave keep) r = tt
own_asks f s c (Back depth) r = tt
own_asks f s c (Next table index prefix cursor forward) r = tt
own_asks f s c (Get table row) r = tt
own_asks f s c (Lock table row exclusive wait) r = tt
own_asks f s c (Insert table values) r = tt
own_asks f s c (Delete table row) r = tt
own_asks f s c (DropLock row) r = tt
own_asks f s c (NextValue sequence) r = tt
own_asks f s c (CurrentValue sequence) r = tt
own_asks f s c End r = tt

module _ (f : Setting) (s : State) (c : ℕ) (op : Op) where
  own_success : (a : Answer) → is_success a ≡ true → Answers f s c op a → Own (s.client c) → OwnAfter f s c op (row_of_answer a)
  own_success a good ok o = own_good f s c op (row_of_answer a) (success_of f s c op a good ok).sound o

  own_step : (a : Answer) → Answers f s c op a → Own (s.client c) → Own (record (client_after f s c op a) { blocked = blocked_after s c op a })
  own_step Refused ok o = o
  own_step (Blocked holders) ok o = record { covers = o.covers; copies = o.copies; idle = o.idle; wanted = own_asks f s c op (waiting_of f s c op holders ok).sound }
  own_step Done ok o = own_success Done refl ok o
  own_step (Committed moment) ok o = own_success (Committed moment) refl ok o
  own_step (Found row key values) ok o = own_success (Found row key values) refl ok o
  own_step (RowAnswer values) ok o = own_success (RowAnswer values) refl ok o
  own_step Granted ok o = own_success Granted refl ok o
  own_step (Inserted row) ok o = own_success (Inserted row) refl ok o
  own_step (ValueAnswer value) ok o = own_success (ValueAnswer value) refl ok o
  own_step Closed ok o = forget _ o
  own_step TraceFull ok o = forget _ o
  own_step Gone ok o = forget _ o
  own_step (KeyTooLong index) ok o = forget _ o
  own_step (Busy holders) ok o = forget _ o
  own_step (Deadlock cycle) ok o = forget _ o
  own_step (Duplicate index row) ok o = forget _ o
  own_step Full ok o = forget _ o
  own_step TxFull ok o = forget _ o
  own_step SequenceEnd ok o = forget _ o
  own_step AtEnd ok o = forget _ o
  own_step NoMemory ok o = forget _ o

  own_after_step : (a : Answer) → Answers f s c op a → ((d : ℕ) → Own (s.client d)) → (d : ℕ) → Own ((after f s c op a).client d)
  own_after_step a ok own d =
      elim (cases_eq d c) [
        | inl e ↦ subst (λ x. Own ((after f s c op a).client x)) (sym e) (subst (λ cl. Own cl) (sym (self_after f s c op a)) (own_step a ok (own c)))
        | inr ne ↦ subst (λ cl. Own cl) (sym (other_after f s c op a d ne)) (own d)
      ]

  -- ---- locks of two

  suits_step : (b : Bool) (a : Answer) → is_success a ≡ b → Answers f s c op a → NoClash s.client → Suits s.client c (cond b (own_after f s c op (row_of_answer a)) (s.client c)).held
  suits_step true a good ok clash = own_suits f s c op a (success_of f s c op a good ok) clash
  suits_step false a good ok clash = suits_same s.client c clash

  clash_self : (a : Answer) → Answers f s c op a → NoClash s.client → Suits s.client c ((after f s c op a).client c).held
  clash_self a ok clash = subst (λ (cl : Client). Suits s.client c cl.held) (sym (self_after f s c op a)) (suits_step (is_success a) a refl ok clash)

  clash_step : (a : Answer) → Answers f s c op a → NoClash s.client → NoClash (after f s c op a).client
  clash_step a ok clash d e row x ne has stands =
      let new : ℕ → Client = (after f s c op a).client in
      elim (cases_eq d c) [
        | inl dc ↦
            let ec : e ≡ c → ⊥ = λ k. ne (dc ∙ sym k) in
            clash_self a ok clash e row x (λ k. ec (sym k)) (subst (λ z. get (new z).held row ≡ Some x) dc has)
            (subst (λ (cl : Client). LocksConflict (get cl.held row) x) (other_after f s c op a e ec) stands)
        | inr dn ↦ elim (cases_eq e c) [
          | inl ec ↦
              let back = stands_sym (get (new d).held row) (get (new e).held row) x has stands in
              clash_self a ok clash d row back.0 (λ k. dn (sym k)) (subst (λ z. get (new z).held row ≡ Some back.0) ec back.1)
              (subst (λ (cl : Client). LocksConflict (get cl.held row) back.0) (other_after f s c op a d dn) back.2)
          | inr en ↦
              clash d e row x ne (subst (λ (cl : Client). get cl.held row ≡ Some x) (other_after f s c op a d dn) has)
              (subst (λ (cl : Client). LocksConflict (get cl.held row) x) (other_after f s c op a e en) stands)
        ]
      ]

-- ---- the view where a client holds a row exclusively

pub laid_same : (n : ℕ) (new old : ℕ → Client) (rows below : Rows) (row : ℕ) → ((d : ℕ) → get (new d).overlay row ≡ get (old d).overlay row) → get rows row ≡ get below row → laid n new rows row ≡ laid n old below row
laid_same zero new old rows below row same e = e
laid_same (suc n) new old rows below row same e = ap (λ o. over o (laid n new rows row)) (same n) ∙ ap (over (get (old n).overlay row)) (laid_same n new old rows below row same e)

pub not_held : (o : Option Bool) → ¬ LocksConflict o true → o ≡ None
not_held None h = refl
not_held (Some true) h = absurd (h tt)
not_held (Some false) h = absurd (h refl)

covered_none : (held : Held) (overlay : Overlay) (row : ℕ) (o : Option (Option StoredRow)) → get overlay row ≡ o → Covers held overlay → get held row ≡ None → o ≡ None
covered_none held overlay row None e covers none = refl
covered_none held overlay row (Some change) e covers none = let some : get held row ≡ Some true = covers row change e in cc

-- nobody else names the row
pub unnamed : (client : ℕ → Client) → ((d : ℕ) → Own (client d)) → NoClash client → (e d row : ℕ) → (e ≡ d → ⊥) → get (client e).held row ≡ Some true → get (client d).overlay row ≡ None
unnamed client own clash e d row ne has =
    covered_none (client d).held (client d).overlay row _ refl (own d).covers (not_held _ (clash e d row true ne has))

pub find_none : (overlay : Overlay) (rows : Rows) (row : ℕ) → get overlay row ≡ None → get (laid_on (entries overlay) rows) row ≡ get rows row
find_none overlay rows row e = get_laid_on_none (entries overlay) rows row (sym (get-entries overlay row) ∙ e)

same_either : {A : Type 0} (b : Bool) (x y z : A) → x ≡ z → y ≡ z → cond b x y ≡ z
same_either true x y z p q = p
same_either false x y z p q = q

committed_reserved : (s : State) (c : ℕ) (op : Op) (row : ℕ) → get (s.client c).overlay row ≡ None → get (committed_after s c op) row ≡ get s.committed row
committed_reserved s c (Leave keep) row e = elim (is_outermost s c) as (λ b. get (cond b (laid_on (entries (s.client c).overlay) s.committed) s.committed) row ≡ get s.committed row) [ true ↦ find_none _ s.committed row e | false ↦ refl ]
committed_reserved s c Enter row e = refl
committed_reserved s c (Back depth) row e = refl
committed_reserved s c (Next table index prefix cursor forward) row e = refl
committed_reserved s c (Get table at) row e = refl
committed_reserved s c (Lock table at exclusive wait) row e = refl
committed_reserved s c (Insert table values) row e = refl
committed_reserved s c (Put table at values) row e = refl
committed_reserved s c (Delete table at) row e = refl
committed_reserved s c (DropLock at) row e = refl
committed_reserved s c (NextValue sequence) row e = refl
committed_reserved s c (CurrentValue sequence) row e = refl
committed_reserved s c End row e = refl

-- ---- who waits for whom

module _ (f : Setting) (s : State) (c : ℕ) (op : Op) (a : Answer) where
  pub committed_step : (row : ℕ) → get (s.client c).overlay row ≡ None → get (after f s c op a).committed row ≡ get s.committed row
  committed_step row e = elim (is_success a) as (λ b. get (cond b (committed_after s c op) s.committed) row ≡ get s.committed row) [ true ↦ committed_reserved s c op row e | false ↦ refl ]

  view_step : Good f s → ((d : ℕ) → Own ((after f s c op a).client d)) → NoClash (after f s c op a).client → (e row : ℕ) → (e ≡ c → ⊥) → get (s.client e).held row ≡ Some true → view f (after f s c op a) row ≡ view f s row
  view_step g own clash e row ne has =
      let before : get (s.client c).overlay row ≡ None = unnamed s.client g.own g.clash e c row ne has in
      let still : get ((after f s c op a).client e).held row ≡ Some true = subst (λ (cl : Client). get cl.held row ≡ Some true) (sym (other_after f s c op a e ne)) has in
      let now : get ((after f s c op a).client c).overlay row ≡ None = unnamed (after f s c op a).client own clash e c row ne still in
      laid_same f.clients (after f s c op a).client s.client (after f s c op a).committed s.committed row
      (λ d. elim (cases_eq d c) [
        | inl dc ↦ ap (λ z. get ((after f s c op a).client z).overlay row) dc ∙ now ∙ sym (ap (λ z. get (s.client z).overlay row) dc ∙ before)
        | inr dn ↦ ap (λ (cl : Client). get cl.overlay row) (other_after f s c op a d dn)
      ])
      (committed_step row before)

  -- a conflict between two others was there before
  conflict_step : Good f s → ((d : ℕ) → Own ((after f s c op a).client d)) → NoClash (after f s c op a).client → (e d : ℕ) → (e ≡ c → ⊥) → (d ≡ c → ⊥) → (asked : Op) → OpHeld (s.client e).held asked → Conflicts f (after f s c op a) e asked d → Conflicts f s e asked d
  conflict_step g own clash e d en dn (Lock table row exclusive wait) has p = (p.0, subst (λ (cl : Client). LocksConflict (get cl.held row.0) exclusive) (other_after f s c op a d dn) p.1)
  conflict_step g own clash e d en dn (Insert table values) has p =
      (p.0, (p.1.0, p.1.1, p.1.2, subst (λ (cl : Client). IsTrue (has_key cl.reserved_keys p.1.0)) (other_after f s c op a d dn) p.1.3))
  conflict_step g own clash e d en dn (Put table row values) has p =
      (p.0, (p.1.0, p.1.1, subst (λ o. IsFalse (has_key (unique_keys f.schema o) p.1.0)) (view_step g own clash e row.0 en has) p.1.2, subst (λ (cl : Client). IsTrue (has_key cl.reserved_keys p.1.0)) (other_after f s c op a d dn) p.1.3))
  conflict_step g own clash e d en dn Enter has p = absurd p
  conflict_step g own clash e d en dn (Leave keep) has p = absurd p
  conflict_step g own clash e d en dn (Back depth) has p = absurd p
  conflict_step g own clash e d en dn (Next table index prefix cursor forward) has p = absurd p
  conflict_step g own clash e d en dn (Get table row) has p = absurd p
  conflict_step g own clash e d en dn (Delete table row) has p = absurd p
  conflict_step g own clash e d en dn (DropLock row) has p = absurd p
  conflict_step g own clash e d en dn (NextValue sequence) has p = absurd p
  conflict_step g own clash e d en dn (CurrentValue sequence) has p = absurd p
  conflict_step g own clash e d en dn End has p = absurd p

blocked_held : (held : Held) (blocked : Option BlockedRequest) (w : BlockedRequest) (asked : Op) → blocked ≡ Some w → w.op ≡ asked → BlockedHeld held blocked → OpHeld held asked
blocked_held held None w asked e q h = cc
blocked_held held (Some v) w asked e q h = let vw : v ≡ w = cc in subst (λ o. OpHeld held o) (ap (λ (x : BlockedRequest). x.op) vw ∙ q) h

-- who waits after the step waited before it, where neither of the two took it
waits_step : (f : Setting) (s : State) (c : ℕ) (op : Op) (a : Answer) → Good f s → ((d : ℕ) → Own ((after f s c op a).client d)) → NoClash (after f s c op a).client → (e d : ℕ) → (e ≡ c → ⊥) → (d ≡ c → ⊥) → WaitsFor f (after f s c op a) e d → WaitsFor f s e d
waits_step f s c op a g own clash e d en dn p =
    let blocked : (s.client e).blocked ≡ Some p.1.0 = sym (ap (λ (cl : Client). cl.blocked) (other_after f s c op a e en)) ∙ p.1.1 in
    (p.0, (p.1.0, blocked, p.1.2), conflict_step f s c op a g own clash e d en dn p.0 (blocked_held _ _ p.1.0 p.0 blocked p.1.2 (g.own e).wanted) p.2)

-- ---- steps that change no lock, key or row

conflict_same : (f : Setting) (new s : State) → ((d : ℕ) → (new.client d).held ≡ (s.client d).held) → ((d : ℕ) → (new.client d).reserved_keys ≡ (s.client d).reserved_keys) → ((row : ℕ) → view f new row ≡ view f s row) → (e d : ℕ) (asked : Op) → Conflicts f new e asked d → Conflicts f s e asked d
conflict_same f new s held reserved_keys seen e d (Lock table row exclusive wait) p = (p.0, subst (λ h. LocksConflict (get h row.0) exclusive) (held d) p.1)
conflict_same f new s held reserved_keys seen e d (Insert table values) p = (p.0, (p.1.0, p.1.1, p.1.2, subst (λ ks. IsTrue (has_key ks p.1.0)) (reserved_keys d) p.1.3))
conflict_same f new s held reserved_keys seen e d (Put table row values) p =
    (p.0, (p.1.0, p.1.1, subst (λ o. IsFalse (has_key (unique_keys f.schema o) p.1.0)) (seen row.0) p.1.2, subst (λ ks. IsTrue (has_key ks p.1.0)) (reserved_keys d) p.1.3))
conflict_same f new s held reserved_keys seen e d Enter p = absurd p
conflict_same f new s held reserved_keys seen e d (Leave keep) p = absurd p
conflict_same f new s held reserved_keys seen e d (Back depth) p = absurd p
conflict_same f new s held reserved_keys seen e d (Next table index prefix cursor forward) p = absurd p
conflict_same f new s held reserved_keys seen e d (Get table row) p = absurd p
conflict_same f new s held reserved_keys seen e d (Delete table row) p = absurd p
conflict_same f new s held reserved_keys seen e d (DropLock row) p = absurd p
conflict_same f new s held reserved_keys seen e d (NextValue sequence) p = absurd p
conflict_same f new s held reserved_keys seen e d (CurrentValue sequence) p = absurd p
conflict_same f new s held reserved_keys seen e d End p = absurd p

pub part_same : {A : Type 0} (f : Setting) (s : State) (c : ℕ) (op : Op) (a : Answer) (part : Client → A) → part (record (client_after f s c op a) { blocked = blocked_after s c op a }) ≡ part (s.client c) → (d : ℕ) → part ((after f s c op a).client d) ≡ part (s.client d)
part_same f s c op a part same d =
    elim (cases_eq d c) [
      | inl e ↦ ap (λ z. part ((after f s c op a).client z)) e ∙ ap part (self_after f s c op a) ∙ same ∙ sym (ap (λ z. part (s.client z)) e)
      | inr ne ↦ ap part (other_after f s c op a d ne)
    ]

some_op : (v w : BlockedRequest) → Some v ≡ Some w → v.op ≡ w.op
some_op v w e = let vw : v ≡ w = cc in ap (λ (x : BlockedRequest). x.op) vw

module _ (f : Setting) (s : State) (c : ℕ) (op : Op) where
  refused_waits : (e d : ℕ) → WaitsFor f (after f s c op Refused) e d → WaitsFor f s e d
  refused_waits e d p =
      let same = part_same f s c op Refused (λ cl. cl) refl in (
        p.0,
        (p.1.0, sym (ap (λ (cl : Client). cl.blocked) (same e)) ∙ p.1.1, p.1.2),
        conflict_same f (after f s c op Refused) s (λ d. ap (λ (cl : Client). cl.held) (same d)) (λ d. ap (λ (cl : Client). cl.reserved_keys) (same d))
            (λ row. laid_same f.clients _ s.client s.committed s.committed row (λ d. ap (λ (cl : Client). get cl.overlay row) (same d)) refl) e d p.0 p.2,
      )

  module _ (holders : List ℕ) where
    blocked_conflict : (e d : ℕ) (asked : Op) → Conflicts f (after f s c op (Blocked holders)) e asked d → Conflicts f s e asked d
    blocked_conflict e d asked p =
        conflict_same f (after f s c op (Blocked holders)) s (part_same f s c op (Blocked holders) (λ cl. cl.held) refl) (part_same f s c op (Blocked holders) (λ cl. cl.reserved_keys) refl)
        (λ row. laid_same f.clients _ s.client s.committed s.committed row (part_same f s c op (Blocked holders) (λ cl. get cl.overlay row) refl) refl) e d asked p

    blocked_waits : (e d : ℕ) → (e ≡ c → ⊥) → WaitsFor f (after f s c op (Blocked holders)) e d → WaitsFor f s e d
    blocked_waits e d ne p =
        (p.0, (p.1.0, sym (ap (λ (cl : Client). cl.blocked) (other_after f s c op (Blocked holders) e ne)) ∙ p.1.1, p.1.2), blocked_conflict e d p.0 p.2)

    would_wait : (e d : ℕ) → WaitsFor f (after f s c op (Blocked holders)) e d → WouldWait f s c op e d
    would_wait e d p =
        elim (cases_eq e c) [
          | inl ec ↦
              let blocked : Some (record { op = op; frees = s.frees }) ≡ Some p.1.0 = sym (ap (λ (cl : Client). cl.blocked) (self_after f s c op (Blocked holders))) ∙ ap (λ z. ((after f s c op (Blocked holders)).client z).blocked) (sym ec) ∙ p.1.1 in
              let asked : p.0 ≡ op = sym p.1.2 ∙ sym (some_op _ _ blocked) in
              inl (ec, subst (λ z. Conflicts f s z op d) ec (subst (λ o. Conflicts f s e o d) asked (blocked_conflict e d p.0 p.2)))
          | inr ne ↦ inr (ne, blocked_waits e d ne p)
        ]

-- ---- the step

abbrev pub NoCycle : Setting → State → Type 0
NoCycle f s = (c : ℕ) (others : List ℕ) → ¬ Chain (WaitsFor f s) c others c

module _ (f : Setting) (s : State) (c : ℕ) (op : Op) where
  idle_step : (a : Answer) → Answers f s c op a → blocked_after s c op a ≡ None → Good f s → NoCycle f (after f s c op a)
  idle_step a ok none g =
      none_idle (WaitsFor f (after f s c op a)) (WaitsFor f s) c
      (λ d p. let w : None ≡ Some p.1.0 = sym none ∙ sym (ap (λ (cl : Client). cl.blocked) (self_after f s c op a)) ∙ p.1.1 in cc)
      (λ e d en dn p. waits_step f s c op a g (own_after_step f s c op a ok g.own) (clash_step f s c op a ok g.clash) e d en dn p)
      g.acyclic

  cycle_step : (a : Answer) → Answers f s c op a → Good f s → NoCycle f (after f s c op a)
  cycle_step Refused ok g x others chain = g.acyclic x others (chain_map _ (WaitsFor f s) (refused_waits f s c op) x others x chain)
  cycle_step (Blocked holders) ok g x others chain =
      none_closed (WaitsFor f (after f s c op (Blocked holders))) (WaitsFor f s) c (blocked_waits f s c op holders)
      (λ xs closed. (waiting_of f s c op holders ok).open_end (xs, chain_map _ (WouldWait f s c op) (would_wait f s c op holders) c xs c closed))
      g.acyclic x others chain
  cycle_step Done ok g x others chain = idle_step Done ok refl g x others chain
  cycle_step (Committed moment) ok g x others chain = idle_step (Committed moment) ok refl g x others chain
  cycle_step (Found row key values) ok g x others chain = idle_step (Found row key values) ok refl g x others chain
  cycle_step (RowAnswer values) ok g x others chain = idle_step (RowAnswer values) ok refl g x others chain
  cycle_step Granted ok g x others chain = idle_step Granted ok refl g x others chain
  cycle_step (Inserted row) ok g x others chain = idle_step (Inserted row) ok refl g x others chain
  cycle_step (ValueAnswer value) ok g x others chain = idle_step (ValueAnswer value) ok refl g x others chain
  cycle_step Closed ok g x others chain = idle_step Closed ok refl g x others chain
  cycle_step TraceFull ok g x others chain = idle_step TraceFull ok refl g x others chain
  cycle_step Gone ok g x others chain = idle_step Gone ok refl g x others chain
  cycle_step (KeyTooLong index) ok g x others chain = idle_step (KeyTooLong index) ok refl g x others chain
  cycle_step (Busy holders) ok g x others chain = idle_step (Busy holders) ok refl g x others chain
  cycle_step (Deadlock cycle) ok g x others chain = idle_step (Deadlock cycle) ok refl g x others chain
  cycle_step (Duplicate index row) ok g x others chain = idle_step (Duplicate index row) ok refl g x others chain
  cycle_step Full ok g x others chain = idle_step Full ok refl g x others chain
  cycle_step TxFull ok g x others chain = idle_step TxFull ok refl g x others chain
  cycle_step SequenceEnd ok g x others chain = idle_step SequenceEnd ok refl g x others chain
  cycle_step AtEnd ok g x others chain = idle_step AtEnd ok refl g x others chain
  cycle_step NoMemory ok g x others chain = idle_step NoMemory ok refl g x others chain

  pub good_step : (a : Answer) → Answers f s c op a → Good f s → Good f (after f s c op a)
  good_step a ok g = record { own = own_after_step f s c op a ok g.own; clash = clash_step f s c op a ok g.clash; acyclic = cycle_step a ok g }

-- ---- over whole traces

pub good_after : (f : Setting) (s : State) (trace : List Event) → Good f s → Follows f s trace → Good f (state_after f s trace)
good_after f s [] g ok = g
good_after f s (e ∷ es) g ok = good_after f (after f s e.client e.op e.answer) es (good_step f s e.client e.op e.answer ok.0 g) ok.1

no_waits : (f : Setting) (contents : Contents) (a : ℕ) (xs : List ℕ) (b : ℕ) → ¬ Chain (WaitsFor f (opened contents)) a xs b
no_waits f contents a [] b p = let w : None ≡ Some p.1.0 = p.1.1 in cc
no_waits f contents a (x ∷ xs) b p = let w : None ≡ Some p.0.1.0 = p.0.1.1 in cc

pub good_opened : (f : Setting) (contents : Contents) → Good f (opened contents)
good_opened f contents =
    record {
      own = λ c. record { covers = λ row change e. absurd (empty_cases row change e); copies = tt; idle = λ e row. get-empty nat_cmp row; wanted = tt };
      clash = λ c d row x ne e stands. absurd (empty_cases row x e);
      acyclic = λ c others chain. no_waits f contents c others c chain;
    }

pub good_legal : (f : Setting) (contents : Contents) (trace : List Event) → IsLegal f contents trace → Good f (left_by f contents trace)
good_legal f contents trace legal = good_after f (opened contents) trace (good_opened f contents) legal.1
