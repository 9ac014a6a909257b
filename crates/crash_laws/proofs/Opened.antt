-- What a creation or a crash leaves may be opened.
use Rattle.std.proofs.Common.{◌≡◌, inl, inr, ⊎_elim, ℕ, ◌+◌, ◌<◌, ◌≤◌, true, false, List, [], ◌∷◌, ◌++◌, Option, refl, sym, ap, ◌∙◌, subst, arith}
use Rattle.std.specs.Prelude.{IsTrue}
use Rattle.std.proofs.Math.Logic.{∥∥₁_elim, ∥∥₁_map}
use Rattle.std.proofs.lemmas.Bool.{cases_lt}
use Rattle.std.specs.Cmp.{nat_cmp_total}
use Rattle.std.specs.FinMap.{get, get-from_entries}
use Rattle.std.proofs.lemmas.List.{length-map}
use Rattle.abl_values.specs.declared.schema.SequenceDef.{SequenceDef}
use Rattle.abl_values.specs.Schema.{SchemaData}
use Rattle.abl_values.specs.Sound.{IsSound}
use Rattle.schema_text.specs.Written.{IsHeld}
use Rattle.database_protocol.specs.declared.event.Event.{Event}
use Rattle.database_meaning.specs.declared.contents.ContentRow.{ContentRow}
use Rattle.database_meaning.specs.declared.contents.Contents.{Contents}
use Rattle.database_meaning.specs.declared.state.Key.{Key}
use Rattle.database_meaning.specs.declared.state.StoredRow.{StoredRow}
use Rattle.database_meaning.specs.Setting.{Setting, has_key, unique_keys}
use Rattle.database_meaning.specs.Traces.{IsLegal, IsSoundContents, IsSoundRows, acknowledged, after_commits, commits, is_acknowledged, opened, rows_of}
use Rattle.log_meaning.specs.steps.Steps.{Image}
use Rattle.db_core.specs.Crashes.{AreMoments}
use Rattle.log_meaning.specs.Images.{Recovers}
use Rattle.db_core.proofs.CommitCounts.{acknowledged_all, acknowledged_within, all_answered, answered_within}
use Rattle.crash_laws.proofs.CommitsLemmas.Commits.{commits_sound}
use Rattle.disk_database.specs.Answers.{IsRefused}
use Rattle.disk_database.specs.Images.{AreImagesOf, IsImageFrom, IsImageOf, SurvivesCrashes, created}
use Rattle.disk_database.specs.declared.refusals.OpenRefusal.{OpenRefusal}
use Rattle.disk_database.specs.declared.refusals.OpenRefusal.TheVariants.{NotCreated, SchemaDiffers}
use Rattle.disk_database.proofs.Images.{image_prop}
use Rattle.disk_database.proofs.Reopenings.{new_is, not_another, not_missing}
use Rattle.crash_laws.specs.Disks.{ComesNext, DiskView, IsBeingMade, IsMade, MayBeOpened}
use Rattle.crash_laws.specs.History.{AreKept, Crashed, Ended, IsDurable, IsLeftBy, IsNeverClosed, IsOpenedAfter, PastRun, setting_of}
use Rattle.crash_laws.proofs.Acknowledged.{among_first, first_within, still_open}

-- ---- sound contents on a disk

-- whatever the number of clients
sound_rows : (f : Setting) (rows : List ContentRow) → IsSoundRows f rows → IsSoundRows (record { schema = f.schema; clients = 0 }) rows
sound_rows f [] sound = tt
sound_rows f (row ∷ rows) sound = (sound.0, sound_rows f rows sound.1)

module _ (f : Setting) (contents : Contents) (disk : DiskView) (schema : IsSound f.schema) (named : IsHeld f.schema) (seen : IsTrue disk.observable) (sound : IsSoundContents f contents) (is : IsImageOf f.schema contents disk.seen)
    (all : (image : Image) → disk.left disk.time image → IsImageOf f.schema contents image) where
  read : (refusal : OpenRefusal) → IsRefused f.schema disk.observable disk.seen refusal → IsRefused f.schema true disk.seen refusal
  read refusal why = subst (λ b. IsRefused f.schema b disk.seen refusal) seen why

  pub may_be_opened : MayBeOpened f.schema contents disk
  may_be_opened = record {
    sound = record { ascending = sound.ascending; rows = sound_rows f contents.rows sound.rows; unique = sound.unique; sequences = sound.sequences };
    holds = record { seen = seen; ascending = sound.ascending; all = all };
    created = λ why. not_missing f contents disk.seen schema named sound is (read NotCreated why);
    same = λ stored given why. not_another f.schema contents disk.seen stored given is (read (SchemaDiffers stored given) why);
  }

-- ---- a creation

-- contents without rows are sound
no_key : (schema : SchemaData) (r : ℕ) (k : Key) → IsTrue (has_key (unique_keys schema (get (rows_of []) r)) k) → ⊥
unfolding unique_keys
no_key schema r k has =
    let clash : false ≡ true = subst (λ (o : Option StoredRow). IsTrue (has_key (unique_keys schema o) k)) (get-from_entries nat_cmp_total [] r) has in
    cc

none_sound : (schema : SchemaData) → IsSoundContents (record { schema = schema; clients = 0 }) (created schema)
none_sound schema =
    record { ascending = tt; rows = tt; unique = λ r q k here there. absurd (no_key schema r k here); sequences = length-map schema.sequences (λ (q : SequenceDef). q.initial) }

pub creation_opened : (schema : SchemaData) (made disk : DiskView) → IsMade schema made → ComesNext made disk → MayBeOpened schema (created schema) disk
creation_opened schema made disk is next =
    may_be_opened (record { schema = schema; clients = 0 }) (created schema) disk is.sound is.held next.observable (none_sound schema) (new_is schema disk.seen (is.born disk.seen next.there) is.short)
    (λ image there. new_is schema image (is.born image (next.images image there)) is.short)

pub creation_whole : (schema : SchemaData) (was now : DiskView) (m : ℕ) (image : Image) (slots : ℕ → List ℕ) → IsBeingMade schema was now → was.time ≤ m → now.left m image → Recovers image slots
    → IsImageOf schema (created schema) image
creation_whole schema was now m image slots making from there recovers =
    ⊎_elim
    (λ (later : was.time < m). let step = making.creates.here m image later there in
    ⊎_elim (λ old. absurd (making.empty step.0 slots step.1 old)) (λ new. new_is schema image new.1 making.short) (step.2 slots recovers))
    (λ (early : m ≤ was.time). absurd (making.empty image slots (subst (λ (n : ℕ). was.left n image) (omega (arith, from, early)) (making.creates.nothing_else m image early there)) recovers))
    (cases_lt was.time m)

-- ---- a crash

module _ (f : Setting) (schema : IsSound f.schema) (named : IsHeld f.schema) (contents : Contents) (trace : List Event) (from now m : ℕ) (left : ℕ → Image → Type 0) (legal : IsLegal f contents trace) (survives : SurvivesCrashes from now left f contents trace) where
  few : acknowledged m trace ≤ commits f contents trace
  few = let some = acknowledged_within m trace in let all = answered_within f (opened contents) trace in omega (arith, some, all)

  all_within : (done : ℕ) → acknowledged m trace ≤ done → (before later : List Event) (e : Event) → trace ≡ before ++ e ∷ later → IsTrue (is_acknowledged m e.answer) → commits f contents (before ++ e ∷ []) ≤ done
  all_within done least before later e is acknowledges =
      let first = among_first f contents before later e from now m (subst (IsLegal f contents) is legal) (subst (λ (t : List Event). AreMoments from t now) is survives.moments) acknowledges in
      let same : acknowledged m trace ≡ acknowledged m (before ++ e ∷ later) = ap (acknowledged m) is in
      omega (arith, first, same, least)

  kept : (done : ℕ) → acknowledged m trace ≤ done → done ≤ acknowledged m trace + 1 → done ≤ commits f contents trace → AreKept f contents trace m done
  kept done least most there = record { all = all_within done least; least = least; most = most; there = there }

  module _ (disk : DiskView) (observable : IsTrue disk.observable) (past : from ≤ m) (there : left m disk.seen) (again : (image : Image) → disk.left disk.time image → image ≡ disk.seen) where
    opens : (done : ℕ) → IsImageOf f.schema (after_commits f contents trace done) disk.seen → MayBeOpened f.schema (after_commits f contents trace done) disk
    opens done is =
        may_be_opened f (after_commits f contents trace done) disk schema named observable (commits_sound f contents trace done legal) is
        (λ image still. subst (IsImageOf f.schema (after_commits f contents trace done)) (sym (again image still)) is)

    abbrev Opens : Type 0
    Opens = (done : ℕ) × (AreKept f contents trace m done × MayBeOpened f.schema (after_commits f contents trace done) disk)

    which : IsImageFrom f contents trace (acknowledged m trace) disk.seen → Opens
    which (inl is) = (acknowledged m trace, (kept (acknowledged m trace) (omega arith) (omega arith) few, opens (acknowledged m trace) is))
    which (inr more) =
        (acknowledged m trace + 1, (kept (acknowledged m trace + 1) (omega arith) (omega arith) (let lt = more.0 in omega (arith, lt)), opens (acknowledged m trace + 1) more.1))

    pub opens_after : ∥ Opens ∥₁
    opens_after = ∥∥₁_map (survives.each m disk.seen past there) which

  -- ---- an end without an unanswered commit

  all_answered_then : m ≡ now → IsNeverClosed trace → commits f contents trace ≡ acknowledged m trace
  all_answered_then last unclosed =
      all_answered f (opened contents) trace (still_open f (opened contents) trace refl unclosed)
      ∙ sym (acknowledged_all m from trace now survives.moments (omega (arith, last)))

  held : m ≡ now → IsNeverClosed trace → (image : Image) → left m image → IsImageOf f.schema (after_commits f contents trace (acknowledged m trace)) image
  held last unclosed image there =
      ∥∥₁_elim (survives.each m image (let since = first_within from trace now survives.moments in omega (arith, since, last)) there) (image_prop f.schema (after_commits f contents trace (acknowledged m trace)) image)
      (λ (found : IsImageFrom f contents trace (acknowledged m trace) image).
      ⊎_elim (λ is. is) (λ more. let all = all_answered_then last unclosed in let lt = more.0 in absurd (omega (arith, all, lt))) found)

  pub opens_at_end : m ≡ now → IsNeverClosed trace → (disk : DiskView) → IsTrue disk.observable → left m disk.seen → ((image : Image) → disk.left disk.time image → left m image)
      → (done : ℕ) × (AreKept f contents trace m done × MayBeOpened f.schema (after_commits f contents trace done) disk)
  opens_at_end last unclosed disk observable there images = (
    acknowledged m trace,
    (
      kept (acknowledged m trace) (omega arith) (omega arith) few,
      may_be_opened f (after_commits f contents trace (acknowledged m trace)) disk schema named observable (commits_sound f contents trace (acknowledged m trace) legal) (held last unclosed disk.seen there)
          (λ image still. held last unclosed image (images image still)),
    ),
  )

-- ---- what a run leaves

module _ {D : Type 0} (view : D → DiskView) (schema : SchemaData) (sound : IsSound schema) (named : IsHeld schema) (contents : Contents) (run : PastRun D) (disk : D) (durable : IsDurable view schema run)
    (holds : AreImagesOf (view run.was).observable (view run.was).time (view run.was).left schema contents) where
  abbrev f : Setting
  f = setting_of schema run

  abbrev left : ℕ → Image → Type 0
  left = (view run.now).left

  promised : IsLegal f contents run.trace × SurvivesCrashes (view run.was).time (view run.now).time left f contents run.trace
  promised = durable contents holds

  pub run_opened : IsLeftBy view run disk → ∥ IsOpenedAfter view schema contents run disk ∥₁
  run_opened (Crashed since crash) =
      ∥∥₁_map (opens_after f sound named contents run.trace (view run.was).time (view run.now).time run.moment left promised.0 promised.1 (view disk) crash.observable since crash.there crash.again)
      (λ o. record { done = o.0; kept = o.1.0; opened = o.1.1 })
  run_opened (Ended last unclosed next) =
      let o = opens_at_end f sound named contents run.trace (view run.was).time (view run.now).time run.moment left promised.0 promised.1 last unclosed (view disk) next.observable
      (subst (λ (n : ℕ). left n (view disk).seen) (sym last) next.there) (λ image still. subst (λ (n : ℕ). left n image) (sym last) (next.images image still)) in
      ∣ record { done = o.0; kept = o.1.0; opened = o.1.1 } ∣₁
