-- Every row of the machine, committed or not, is a row of its table.
use Rattle.std.proofs.Common.{◌≡◌, ℕ, zero, suc, ◌-◌, ◌≤◌, Bool, true, false, cond, List, [], ◌∷◌, ◌++◌, map, take, get_or, Option, Some, None, refl, sym, ap, ◌∙◌, subst, inl, inr, arith, nat_cmp, eqb}
use Rattle.std.specs.FinMap.{get, insert, empty, entries, find, get-entries, get-from_entries}
use Rattle.std.specs.Cmp.{nat_cmp_total}
use Rattle.std.specs.Prelude.{IsTrue}
use Rattle.std.proofs.lemmas.Bool.{cases_eq, cases_lt}
use Rattle.abl_base.specs.declared.value.Value.{Value}
use Rattle.abl_base.specs.declared.value.Value.TheVariants.{Text, Int, Int64, Dec, Logical, Date, Unknown}
use Rattle.abl_base.specs.declared.value.Kind.{Kind}
use Rattle.abl_base.specs.declared.value.Kind.TheVariants.{Character, Integer, Int64 as Whole64, Decimal, Logical as Truth, Date as Day}
use Rattle.abl_values.specs.Fit.{IsOfKind, IsOfField}
use Rattle.abl_values.specs.Rows.{FitsFields}
use Rattle.database_meaning.specs.declared.state.StoredRow.{StoredRow}
use Rattle.database_meaning.specs.declared.contents.Contents.{Contents}
use Rattle.database_meaning.specs.declared.contents.ContentRow.{ContentRow}
use Rattle.database_meaning.specs.Setting.{Setting, FitsTable, kinds_of}
use Rattle.database_meaning.specs.State.{State, Client, Rows, Overlay, laid, over, depth_of}
use Rattle.database_meaning.specs.Waiting.{row_in}
use Rattle.database_meaning.specs.Answers.{Answers, IsRefused}
use Rattle.database_meaning.specs.Steps.{own_after, own_after_commit, own_after_leave, own_after_drop, is_outermost, is_success, row_of_answer, after, client_after, blocked_after, committed_after, laid_on}
use Rattle.database_meaning.specs.Traces.{state_after, Follows, opened, identity_of, stored_of, IsSoundRows, IsSoundContents, IsLegal, left_by}
use Rattle.database_protocol.specs.declared.event.Event.{Event}
use Rattle.database_protocol.specs.declared.operation.Op.{Op}
use Rattle.database_protocol.specs.declared.operation.Op.TheVariants.{Enter, Leave, Back, Next, Get, Lock, Insert, Put, Delete, Drop as DropLock, NextValue, CurrentValue, End}
use Rattle.database_protocol.specs.declared.answer.Answer.{Answer}
use Rattle.database_meaning.proofs.Maps.{insert_cases, empty_cases, get_laid_on}
use Rattle.database_meaning.proofs.TableRows.{success_of}
use Rattle.database_meaning.proofs.Own.{sound, by_test}
use Rattle.database_meaning.proofs.Good.{self_after, other_after}

-- ---- what is not refused fits

stable_le : (m n : ℕ) → ¬ ¬ (m ≤ n) → m ≤ n
stable_le m n h = elim (cases_lt n m) [ inl lt ↦ absurd (h (λ le. omega arith)) | inr ge ↦ omega arith ]

stable_test : (b : Bool) → ¬ ¬ IsTrue b → IsTrue b
stable_test true h = refl
stable_test false h = absurd (h (λ e. cc))

none : ¬ ¬ ⊥ → ⊥
none h = h (λ x. x)

stable_kind : (kind : Kind) (v : Value) → ¬ ¬ IsOfKind kind v → IsOfKind kind v
stable_kind Character Unknown h = tt
stable_kind Integer Unknown h = tt
stable_kind Whole64 Unknown h = tt
stable_kind Decimal Unknown h = tt
stable_kind Truth Unknown h = tt
stable_kind Day Unknown h = tt
stable_kind Character (Text t) h = stable_le _ _ h
stable_kind Integer (Int n) h = stable_test _ h
stable_kind Whole64 (Int64 n) h = stable_test _ h
stable_kind Decimal (Dec n) h = stable_test _ h
stable_kind Truth (Logical b) h = tt
stable_kind Day (Date d) h = stable_test _ h
stable_kind Character (Int n) h = none h
stable_kind Character (Int64 n) h = none h
stable_kind Character (Dec n) h = none h
stable_kind Character (Logical b) h = none h
stable_kind Character (Date d) h = none h
stable_kind Integer (Text t) h = none h
stable_kind Integer (Int64 n) h = none h
stable_kind Integer (Dec n) h = none h
stable_kind Integer (Logical b) h = none h
stable_kind Integer (Date d) h = none h
stable_kind Whole64 (Text t) h = none h
stable_kind Whole64 (Int n) h = none h
stable_kind Whole64 (Dec n) h = none h
stable_kind Whole64 (Logical b) h = none h
stable_kind Whole64 (Date d) h = none h
stable_kind Decimal (Text t) h = none h
stable_kind Decimal (Int n) h = none h
stable_kind Decimal (Int64 n) h = none h
stable_kind Decimal (Logical b) h = none h
stable_kind Decimal (Date d) h = none h
stable_kind Truth (Text t) h = none h
stable_kind Truth (Int n) h = none h
stable_kind Truth (Int64 n) h = none h
stable_kind Truth (Dec n) h = none h
stable_kind Truth (Date d) h = none h
stable_kind Day (Text t) h = none h
stable_kind Day (Int n) h = none h
stable_kind Day (Int64 n) h = none h
stable_kind Day (Dec n) h = none h
stable_kind Day (Logical b) h = none h

stable_unknown : (v : Value) → ¬ ¬ (v ≡ Unknown) → v ≡ Unknown
stable_unknown Unknown h = refl
stable_unknown (Text t) h = absurd (h (λ e. cc))
stable_unknown (Int n) h = absurd (h (λ e. cc))
stable_unknown (Int64 n) h = absurd (h (λ e. cc))
stable_unknown (Dec n) h = absurd (h (λ e. cc))
stable_unknown (Logical b) h = absurd (h (λ e. cc))
stable_unknown (Date d) h = absurd (h (λ e. cc))

stable_field : (kind : Option Kind) (v : Value) → ¬ ¬ IsOfField kind v → IsOfField kind v
stable_field (Some kind) v h = stable_kind kind v h
stable_field None v h = stable_unknown v h

stable_fields : (kinds : List (Option Kind)) (vs : List Value) → ¬ ¬ FitsFields kinds vs → FitsFields kinds vs
stable_fields [] [] h = tt
stable_fields [] (v ∷ vs) h = none h
stable_fields (kind ∷ kinds) [] h = none h
stable_fields (kind ∷ kinds) (v ∷ vs) h = (stable_field kind v (λ k. h (λ p. k p.0)), stable_fields kinds vs (λ k. h (λ p. k p.1)))

-- ---- rows that fit

abbrev pub RowFits : Setting → Option StoredRow → Type 0
RowFits f None = Unit {0}
RowFits f (Some r) = FitsTable f.schema r.table r.values

abbrev pub ChangesFit : Setting → Overlay → Type 0
ChangesFit f o = (row : ℕ) (change : Option StoredRow) → get o row ≡ Some change → RowFits f change

abbrev pub CopiesFit : Setting → List Overlay → Type 0
CopiesFit f [] = Unit {0}
CopiesFit f (o ∷ os) = ChangesFit f o × CopiesFit f os

pub record ClientFits (f : Setting) (cl : Client) : Type 0 where
  pub now : ChangesFit f cl.overlay
  pub copies : CopiesFit f cl.levels

pub record StateFits (f : Setting) (s : State) : Type 0 where
  pub committed : (row : ℕ) → RowFits f (get s.committed row)
  pub own : (c : ℕ) → ClientFits f (s.client c)

over_fits : (f : Setting) (o : Option (Option StoredRow)) (below : Option StoredRow) → ((change : Option StoredRow) → o ≡ Some change → RowFits f change) → RowFits f below → RowFits f (over o below)
over_fits f None below change fits = fits
over_fits f (Some x) below change fits = change x refl

pub laid_fits : (f : Setting) (n : ℕ) (client : ℕ → Client) (rows : Rows) → ((c : ℕ) → ClientFits f (client c)) → ((row : ℕ) → RowFits f (get rows row)) → (row : ℕ) → RowFits f (laid n client rows row)
laid_fits f zero client rows own committed row = committed row
laid_fits f (suc n) client rows own committed row = over_fits f (get (client n).overlay row) _ ((own n).now row) (laid_fits f n client rows own committed row)

module _ (f : Setting) where
  empty_fits : ChangesFit f empty
  empty_fits row change e = absurd (empty_cases row change e)

  push_fits : (os : List Overlay) (o : Overlay) → CopiesFit f os → ChangesFit f o → CopiesFit f (os ++ o ∷ [])
  push_fits [] o all one = (one, tt)
  push_fits (x ∷ xs) o all one = (all.0, push_fits xs o all.1 one)

  take_fits : (n : ℕ) (os : List Overlay) → CopiesFit f os → CopiesFit f (take n os)
  take_fits zero os all = tt
  take_fits (suc n) [] all = tt
  take_fits (suc n) (x ∷ xs) all = (all.0, take_fits n xs all.1)

  copy_fits : (os : List Overlay) (i : ℕ) → CopiesFit f os → ChangesFit f (get_or os i empty)
  copy_fits [] i all = empty_fits
  copy_fits (x ∷ xs) zero all = all.0
  copy_fits (x ∷ xs) (suc i) all = copy_fits xs i all.1

  insert_fits : (o : Overlay) (k : ℕ) (v : Option StoredRow) → RowFits f v → ChangesFit f o → ChangesFit f (insert o k v)
  insert_fits o k v fits all row change e =
      elim (insert_cases o k v row change e) [ inl p ↦ subst (λ x. RowFits f x) p.1 fits | inr p ↦ all row change p.1 ]

  own_fits : (s : State) (c : ℕ) (op : Op) (fresh : ℕ) → ¬ IsRefused f s c op → ClientFits f (s.client c) → ClientFits f (own_after f s c op fresh)
  own_fits s c Enter fresh r o = record { now = o.now; copies = push_fits _ _ o.copies o.now }
  own_fits s c (Leave keep) fresh r o =
      by_test (λ (cl : Client). ClientFits f cl) (is_outermost s c) (own_after_commit s c keep) (own_after_leave s c)
      (λ e. record { now = empty_fits; copies = tt })
      (λ e. record { now = o.now; copies = take_fits (depth_of s c - 1) _ o.copies })
  own_fits s c (Back depth) fresh r o = record { now = copy_fits (s.client c).levels (depth - 1) o.copies; copies = take_fits depth _ o.copies }
  own_fits s c (Next table index prefix cursor forward) fresh r o = o
  own_fits s c (Get table row) fresh r o = o
  own_fits s c (Lock table row exclusive wait) fresh r o = record { now = o.now; copies = o.copies }
  own_fits s c (Insert table values) fresh r o =
      let fits = stable_fields (kinds_of f.schema table) values (λ k. sound f s c (Insert table values) r (λ p. k p.1.0)) in
      record { now = insert_fits _ fresh (row_in table values) fits o.now; copies = o.copies }
  own_fits s c (Put table row values) fresh r o =
      let fits = stable_fields (kinds_of f.schema table) values (λ k. sound f s c (Put table row values) r (λ p. k p.1.0)) in
      record { now = insert_fits _ row.0 (row_in table values) fits o.now; copies = o.copies }
  own_fits s c (Delete table row) fresh r o = record { now = insert_fits _ row.0 None tt o.now; copies = o.copies }
  own_fits s c (DropLock row) fresh r o =
      by_test (λ (cl : Client). ClientFits f cl) (eqb (depth_of s c) 0) (own_after_drop s c row.0) (s.client c)
      (λ e. record { now = o.now; copies = o.copies })
      (λ e. o)
  own_fits s c (NextValue sequence) fresh r o = o
  own_fits s c (CurrentValue sequence) fresh r o = o
  own_fits s c End fresh r o = record { now = empty_fits; copies = tt }

  laid_over_fits : (s : State) (c : ℕ) → StateFits f s → (row : ℕ) → RowFits f (get (laid_on (entries (s.client c).overlay) s.committed) row)
  laid_over_fits s c g row =
      subst (λ x. RowFits f x) (sym (get_laid_on (entries (s.client c).overlay) s.committed row ∙ ap (λ o. over o (get s.committed row)) (sym (get-entries (s.client c).overlay row))))
      (over_fits f (get (s.client c).overlay row) (get s.committed row) ((g.own c).now row) (g.committed row))

  committed_fits : (s : State) (c : ℕ) (op : Op) → StateFits f s → (row : ℕ) → RowFits f (get (committed_after s c op) row)
  committed_fits s c (Leave keep) g row =
      by_test (λ (rows : Rows). RowFits f (get rows row)) (is_outermost s c) (laid_on (entries (s.client c).overlay) s.committed) s.committed (λ e. laid_over_fits s c g row) (λ e. g.committed row)
  committed_fits s c Enter g row = g.committed row
  committed_fits s c (Back depth) g row = g.committed row
  committed_fits s c (Next table index prefix cursor forward) g row = g.committed row
  committed_fits s c (Get table at) g row = g.committed row
  committed_fits s c (Lock table at exclusive wait) g row = g.committed row
  committed_fits s c (Insert table values) g row = g.committed row
  committed_fits s c (Put table at values) g row = g.committed row
  committed_fits s c (Delete table at) g row = g.committed row
  committed_fits s c (DropLock at) g row = g.committed row
  committed_fits s c (NextValue sequence) g row = g.committed row
  committed_fits s c (CurrentValue sequence) g row = g.committed row
  committed_fits s c End g row = g.committed row

module _ (f : Setting) (s : State) (c : ℕ) (op : Op) (a : Answer) (ok : Answers f s c op a) (g : StateFits f s) where
  self_fits : (b : Bool) → is_success a ≡ b → ClientFits f (cond b (own_after f s c op (row_of_answer a)) (s.client c))
  self_fits true good = own_fits f s c op (row_of_answer a) (success_of f s c op a good ok).sound (g.own c)
  self_fits false fails = g.own c

  rewanted : (cl : Client) → ClientFits f cl → ClientFits f (record cl { blocked = blocked_after s c op a })
  rewanted cl o = record { now = o.now; copies = o.copies }

  fits_step : StateFits f (after f s c op a)
  fits_step =
      record {
        committed = λ row. by_test (λ (rows : Rows). RowFits f (get rows row)) (is_success a) (committed_after s c op) s.committed (λ e. committed_fits f s c op g row) (λ e. g.committed row);
        own = λ d. elim (cases_eq d c) [
          | inl e ↦ subst (λ x. ClientFits f ((after f s c op a).client x)) (sym e)
              (subst (λ (cl : Client). ClientFits f cl) (sym (self_after f s c op a)) (rewanted (client_after f s c op a) (self_fits (is_success a) refl)))
          | inr ne ↦ subst (λ (cl : Client). ClientFits f cl) (sym (other_after f s c op a d ne)) (g.own d)
        ];
      }

-- ---- over whole traces

found_fits : (f : Setting) (b : Bool) (r : StoredRow) (o : Option StoredRow) → RowFits f (Some r) → RowFits f o → RowFits f (cond b (Some r) o)
found_fits f true r o here there = here
found_fits f false r o here there = there

find_fits : (f : Setting) (rows : List ContentRow) (q : ℕ) → IsSoundRows f rows → RowFits f (find nat_cmp q (map {B = ℕ × StoredRow} (λ r. (identity_of r, stored_of r)) rows))
find_fits f [] q ok = tt
find_fits f (r ∷ rows) q ok = found_fits f _ (stored_of r) _ ok.0.1 (find_fits f rows q ok.1)

fits_opened : (f : Setting) (contents : Contents) → IsSoundContents f contents → StateFits f (opened contents)
fits_opened f contents ok =
    record {
      committed = λ row. subst (λ o. RowFits f o) (sym (get-from_entries nat_cmp_total _ row)) (find_fits f contents.rows row ok.rows);
      own = λ c. record { now = empty_fits f; copies = tt };
    }

fits_after : (f : Setting) (s : State) (trace : List Event) → StateFits f s → Follows f s trace → StateFits f (state_after f s trace)
fits_after f s [] g ok = g
fits_after f s (e ∷ es) g ok = fits_after f (after f s e.client e.op e.answer) es (fits_step f s e.client e.op e.answer ok.0 g) ok.1

pub fits_legal : (f : Setting) (contents : Contents) (trace : List Event) → IsLegal f contents trace → StateFits f (left_by f contents trace)
fits_legal f contents trace legal = fits_after f (opened contents) trace (fits_opened f contents legal.0) legal.1
