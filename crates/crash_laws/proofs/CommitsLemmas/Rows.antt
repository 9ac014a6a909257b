-- Each row of the machine, committed or not, is of a table of the schema, and none of its keys is too long.
use Rattle.std.proofs.Common.{◌≡◌, ℕ, zero, suc, ◌-◌, ◌≤◌, Bool, true, false, cond, List, [], ◌∷◌, ◌++◌, map, take, length, get_or, Option, Some, None, refl, sym, ap, ◌∙◌, subst, inl, inr, nat_cmp, eqb}
use Rattle.std.specs.FinMap.{get, insert, empty, entries, find, get-entries, get-from_entries}
use Rattle.std.specs.Cmp.{nat_cmp_total}
use Rattle.std.proofs.lemmas.Bool.{cases_eq}
use Rattle.abl_base.specs.declared.limits.TheConstants.{MAX_KEY_BYTES}
use Rattle.abl_base.specs.declared.value.Value.{Value}
use Rattle.database_meaning.specs.declared.state.StoredRow.{StoredRow}
use Rattle.database_meaning.specs.declared.contents.Contents.{Contents}
use Rattle.database_meaning.specs.declared.contents.ContentRow.{ContentRow}
use Rattle.database_meaning.specs.Setting.{HasIndex, HasTable, Setting, key_in}
use Rattle.database_meaning.specs.State.{State, Client, Rows, Overlay, over, depth_of}
use Rattle.database_meaning.specs.Waiting.{row_in}
use Rattle.database_meaning.specs.Answers.{Answers, HasTooLongKey, IsFirstLongKey, IsRefused, entered}
use Rattle.database_meaning.specs.Steps.{own_after, own_after_commit, own_after_leave, own_after_drop, is_outermost, is_success, row_of_answer, after, client_after, blocked_after, committed_after, laid_on}
use Rattle.database_meaning.specs.Traces.{state_after, Follows, opened, identity_of, stored_of, IsSoundRows, IsSoundContents, IsLegal, left_by}
use Rattle.database_protocol.specs.declared.event.Event.{Event}
use Rattle.database_protocol.specs.declared.operation.Op.{Op}
use Rattle.database_protocol.specs.declared.operation.Op.TheVariants.{Enter, Leave, Back, Next, Get, Lock, Insert, Put, Delete, Drop as DropLock, NextValue, CurrentValue, End}
use Rattle.database_protocol.specs.declared.answer.Answer.{Answer}
use Rattle.database_meaning.proofs.Maps.{insert_cases, empty_cases, get_laid_on}
use Rattle.database_meaning.proofs.TableRows.{success_of}
use Rattle.database_meaning.proofs.Own.{sound, stable_lt, by_test}
use Rattle.database_meaning.proofs.Good.{self_after, other_after}
use Rattle.crash_laws.proofs.CommitsLemmas.Entered.{all_short, no_long_key}

-- ---- rows

abbrev pub RowOk : Setting → Option StoredRow → Type 0
RowOk f None = Unit {0}
RowOk f (Some r) = HasTable f.schema r.table × ((index : ℕ) → HasIndex f.schema r.table index → length (key_in f.schema r.table index r.values) ≤ MAX_KEY_BYTES)

-- the row that an operation enters
entered_ok : (f : Setting) (s : State) (c : ℕ) (op : Op) (table : ℕ) (values : List Value) → entered op ≡ row_in table values → HasTable f.schema table → ¬ HasTooLongKey f op → RowOk f (row_in table values)
entered_ok f s c op table values is has short =
    (has, all_short f (record { table = table; values = values }) (λ index first. short (index, subst (λ (row : Option StoredRow). IsFirstLongKey f row index) (sym is) first)))

abbrev pub ChangesOk : Setting → Overlay → Type 0
ChangesOk f o = (row : ℕ) (change : Option StoredRow) → get o row ≡ Some change → RowOk f change

abbrev pub CopiesOk : Setting → List Overlay → Type 0
CopiesOk f [] = Unit {0}
CopiesOk f (o ∷ os) = ChangesOk f o × CopiesOk f os

pub record ClientOk (f : Setting) (cl : Client) : Type 0 where
  pub now : ChangesOk f cl.overlay
  pub copies : CopiesOk f cl.levels

pub record StateOk (f : Setting) (s : State) : Type 0 where
  pub committed : (row : ℕ) → RowOk f (get s.committed row)
  pub own : (c : ℕ) → ClientOk f (s.client c)

over_ok : (f : Setting) (o : Option (Option StoredRow)) (below : Option StoredRow) → ((change : Option StoredRow) → o ≡ Some change → RowOk f change) → RowOk f below → RowOk f (over o below)
over_ok f None below change fits = fits
over_ok f (Some x) below change fits = change x refl

module _ (f : Setting) where
  empty_ok : ChangesOk f empty
  empty_ok row change e = absurd (empty_cases row change e)

  push_ok : (os : List Overlay) (o : Overlay) → CopiesOk f os → ChangesOk f o → CopiesOk f (os ++ o ∷ [])
  push_ok [] o all one = (one, tt)
  push_ok (x ∷ xs) o all one = (all.0, push_ok xs o all.1 one)

  take_ok : (n : ℕ) (os : List Overlay) → CopiesOk f os → CopiesOk f (take n os)
  take_ok zero os all = tt
  take_ok (suc n) [] all = tt
  take_ok (suc n) (x ∷ xs) all = (all.0, take_ok n xs all.1)

  copy_ok : (os : List Overlay) (i : ℕ) → CopiesOk f os → ChangesOk f (get_or os i empty)
  copy_ok [] i all = empty_ok
  copy_ok (x ∷ xs) zero all = all.0
  copy_ok (x ∷ xs) (suc i) all = copy_ok xs i all.1

  insert_ok : (o : Overlay) (k : ℕ) (v : Option StoredRow) → RowOk f v → ChangesOk f o → ChangesOk f (insert o k v)
  insert_ok o k v fits all row change e =
      elim (insert_cases o k v row change e) [ inl p ↦ subst (λ x. RowOk f x) p.1 fits | inr p ↦ all row change p.1 ]

  own_ok : (s : State) (c : ℕ) (op : Op) (fresh : ℕ) → ¬ IsRefused f s c op → ¬ HasTooLongKey f op → ClientOk f (s.client c) → ClientOk f (own_after f s c op fresh)
  own_ok s c Enter fresh r l o = record { now = o.now; copies = push_ok _ _ o.copies o.now }
  own_ok s c (Leave keep) fresh r l o =
      by_test (λ (cl : Client). ClientOk f cl) (is_outermost s c) (own_after_commit s c keep) (own_after_leave s c)
      (λ e. record { now = empty_ok; copies = tt })
      (λ e. record { now = o.now; copies = take_ok (depth_of s c - 1) _ o.copies })
  own_ok s c (Back depth) fresh r l o = record { now = copy_ok (s.client c).levels (depth - 1) o.copies; copies = take_ok depth _ o.copies }
  own_ok s c (Next table index prefix cursor forward) fresh r l o = o
  own_ok s c (Get table row) fresh r l o = o
  own_ok s c (Lock table row exclusive wait) fresh r l o = record { now = o.now; copies = o.copies }
  own_ok s c (Insert table values) fresh r l o =
      let ok = entered_ok f s c (Insert table values) table values refl (stable_lt _ _ (λ k. sound f s c (Insert table values) r (λ p. k p.0))) l in
      record { now = insert_ok _ fresh (row_in table values) ok o.now; copies = o.copies }
  own_ok s c (Put table row values) fresh r l o =
      let ok = entered_ok f s c (Put table row values) table values refl (stable_lt _ _ (λ k. sound f s c (Put table row values) r (λ p. k p.0))) l in
      record { now = insert_ok _ row.0 (row_in table values) ok o.now; copies = o.copies }
  own_ok s c (Delete table row) fresh r l o = record { now = insert_ok _ row.0 None tt o.now; copies = o.copies }
  own_ok s c (DropLock row) fresh r l o =
      by_test (λ (cl : Client). ClientOk f cl) (eqb (depth_of s c) 0) (own_after_drop s c row.0) (s.client c)
      (λ e. record { now = o.now; copies = o.copies })
      (λ e. o)
  own_ok s c (NextValue sequence) fresh r l o = o
  own_ok s c (CurrentValue sequence) fresh r l o = o
  own_ok s c End fresh r l o = record { now = empty_ok; copies = tt }

  laid_over_ok : (s : State) (c : ℕ) → StateOk f s → (row : ℕ) → RowOk f (get (laid_on (entries (s.client c).overlay) s.committed) row)
  laid_over_ok s c g row =
      subst (λ x. RowOk f x) (sym (get_laid_on (entries (s.client c).overlay) s.committed row ∙ ap (λ o. over o (get s.committed row)) (sym (get-entries (s.client c).overlay row))))
      (over_ok f (get (s.client c).overlay row) (get s.committed row) ((g.own c).now row) (g.committed row))

  committed_ok : (s : State) (c : ℕ) (op : Op) → StateOk f s → (row : ℕ) → RowOk f (get (committed_after s c op) row)
  committed_ok s c (Leave keep) g row =
      by_test (λ (rows : Rows). RowOk f (get rows row)) (is_outermost s c) (laid_on (entries (s.client c).overlay) s.committed) s.committed (λ e. laid_over_ok s c g row) (λ e. g.committed row)
  committed_ok s c Enter g row = g.committed row
  committed_ok s c (Back depth) g row = g.committed row
  committed_ok s c (Next table index prefix cursor forward) g row = g.committed row
  committed_ok s c (Get table at) g row = g.committed row
  committed_ok s c (Lock table at exclusive wait) g row = g.committed row
  committed_ok s c (Insert table values) g row = g.committed row
  committed_ok s c (Put table at values) g row = g.committed row
  committed_ok s c (Delete table at) g row = g.committed row
  committed_ok s c (DropLock at) g row = g.committed row
  committed_ok s c (NextValue sequence) g row = g.committed row
  committed_ok s c (CurrentValue sequence) g row = g.committed row
  committed_ok s c End g row = g.committed row

module _ (f : Setting) (s : State) (c : ℕ) (op : Op) (a : Answer) (ok : Answers f s c op a) (g : StateOk f s) where
  self_ok : (b : Bool) → is_success a ≡ b → ClientOk f (cond b (own_after f s c op (row_of_answer a)) (s.client c))
  self_ok true good = own_ok f s c op (row_of_answer a) (success_of f s c op a good ok).sound (no_long_key f s c op a good ok) (g.own c)
  self_ok false fails = g.own c

  rewanted : (cl : Client) → ClientOk f cl → ClientOk f (record cl { blocked = blocked_after s c op a })
  rewanted cl o = record { now = o.now; copies = o.copies }

  step_ok : StateOk f (after f s c op a)
  step_ok =
      record {
        committed = λ row. by_test (λ (rows : Rows). RowOk f (get rows row)) (is_success a) (committed_after s c op) s.committed (λ e. committed_ok f s c op g row) (λ e. g.committed row);
        own = λ d. elim (cases_eq d c) [
          | inl e ↦ subst (λ x. ClientOk f ((after f s c op a).client x)) (sym e)
              (subst (λ (cl : Client). ClientOk f cl) (sym (self_after f s c op a)) (rewanted (client_after f s c op a) (self_ok (is_success a) refl)))
          | inr ne ↦ subst (λ (cl : Client). ClientOk f cl) (sym (other_after f s c op a d ne)) (g.own d)
        ];
      }

-- ---- over whole traces

found_ok : (f : Setting) (b : Bool) (r : StoredRow) (o : Option StoredRow) → RowOk f (Some r) → RowOk f o → RowOk f (cond b (Some r) o)
found_ok f true r o here there = here
found_ok f false r o here there = there

find_ok : (f : Setting) (rows : List ContentRow) (q : ℕ) → IsSoundRows f rows → RowOk f (find nat_cmp q (map {B = ℕ × StoredRow} (λ r. (identity_of r, stored_of r)) rows))
find_ok f [] q ok = tt
find_ok f (r ∷ rows) q ok = found_ok f _ (stored_of r) _ (ok.0.0, ok.0.2) (find_ok f rows q ok.1)

opened_ok : (f : Setting) (contents : Contents) → IsSoundContents f contents → StateOk f (opened contents)
opened_ok f contents ok =
    record {
      committed = λ row. subst (λ o. RowOk f o) (sym (get-from_entries nat_cmp_total _ row)) (find_ok f contents.rows row ok.rows);
      own = λ c. record { now = empty_ok f; copies = tt };
    }

after_ok : (f : Setting) (s : State) (trace : List Event) → StateOk f s → Follows f s trace → StateOk f (state_after f s trace)
after_ok f s [] g ok = g
after_ok f s (e ∷ es) g ok = after_ok f (after f s e.client e.op e.answer) es (step_ok f s e.client e.op e.answer ok.0 g) ok.1

pub state_ok : (f : Setting) (contents : Contents) (trace : List Event) → IsLegal f contents trace → StateOk f (left_by f contents trace)
state_ok f contents trace legal = after_ok f (opened contents) trace (opened_ok f contents legal.0) legal.1
