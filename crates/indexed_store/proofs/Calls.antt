-- A store after a call that only asks, or that was refused.
use Rattle.std.proofs.Common.{◌≡◌, ℕ, List, length, Result, Ok, Err, OnOk, ℤ, refl, sym, ap, ◌∙◌, subst, le_refl}
use Rattle.storage.specs.Slots.{SlotState}
use Rattle.abl_values.specs.Schema.{SchemaData}
use Rattle.row_store.specs.declared.store.RowFault.{RowFault}
use Rattle.row_store.specs.declared.store.RowFault.TheVariants.{Disk, NoMemory}
use Rattle.row_store.specs.Rows.{AfterError, HasCause, RowState}
use Rattle.key_index.specs.Index.{Keys}
use Rattle.row_indexes.specs.declared.moves.Moved.{Moved}
use Rattle.row_indexes.specs.Places.{keepers_of}
use Rattle.row_keys.specs.Reserved.{reserved_at}
use Rattle.slot_rows.specs.declared.open.Open.{Open}
use Rattle.slot_rows.specs.State.{Reserved, state_of}
use Rattle.row_moves.specs.Indexed.{IsIndexed}
use Rattle.row_moves.proofs.Kept.{refused_indexed, same_indexed}
use Rattle.indexed_store.specs.State.{store_state}

pub on_ok : {T P Q : Type 0} (result : Result T RowFault) → (P → Q) → OnOk result P → OnOk result Q
on_ok (Ok x) f p = f p
on_ok (Err e) f p = tt

-- ---- out of memory, where nothing has changed

pub out_of_memory : {T : Type 0} (s : RowState) → AfterError {T = T} s s (Err NoMemory)
out_of_memory s = record { memory = λ e. refl; disk = λ e. absurd (cc e) }

pub no_disk : {T : Type 0} (faults : ℕ) (s : RowState) → HasCause {T = T} faults faults s (Err NoMemory)
no_disk faults s = record { later = le_refl faults; disk = λ e. absurd (cc e) }

pub no_error : {T : Type 0} (old new : RowState) (x : T) → AfterError {T = T} old new (Ok x)
no_error old new x = record { memory = λ e. absurd (cc e); disk = λ e. absurd (cc e) }

-- an error at another type
pub other_error : {T U : Type 0} (old new : RowState) (error : RowFault) → AfterError {T = T} old new (Err error) → AfterError {T = U} old new (Err error)
other_error old new Disk a = record { memory = λ e. absurd (cc e); disk = λ e. a.disk refl }
other_error old new NoMemory a = record { memory = λ e. a.memory refl; disk = λ e. absurd (cc e) }

pub other_cause : {T U : Type 0} (before after : ℕ) (old : RowState) (error : RowFault) → HasCause {T = T} before after old (Err error) → HasCause {T = U} before after old (Err error)
other_cause before after old Disk c = record { later = c.later; disk = λ e. c.disk refl }
other_cause before after old NoMemory c = record { later = c.later; disk = λ e. absurd (cc e) }

-- ---- what the rows say of a call, said of the store

module _ (schema now_schema : SchemaData) (keys : List Keys) (sequences : List ℤ) (s t : SlotState) (opens left : List Open) (same_schema : now_schema ≡ schema) where
  abbrev old : RowState
  old = store_state schema keys sequences s opens

  abbrev middle : RowState
  middle = store_state schema keys sequences t left

  abbrev new : RowState
  new = store_state now_schema keys sequences t left

  new_is : new ≡ middle
  new_is = ap (λ (x : SchemaData). store_state x keys sequences t left) same_schema

  pub asked_err : {T : Type 0} (result : Result T RowFault) → AfterError old middle result → AfterError old new result
  asked_err result err = subst (λ (x : RowState). AfterError old x result) (sym new_is) err

  pub asked_same : {T : Type 0} (result : Result T RowFault) → OnOk result ((reserved : Reserved) (values : List ℤ) → state_of schema reserved values t left ≡ state_of schema reserved values s opens) → OnOk result (new ≡ old)
  asked_same (Ok x) same = new_is ∙ same (reserved_at schema (keepers_of keys)) sequences
  asked_same (Err e) same = tt

  pub asked_indexed : {T : Type 0} (result : Result T RowFault) → OnOk result (new ≡ old) → AfterError old new result → (moved : ℕ → List Moved) → IsIndexed old moved keys → IsIndexed new moved keys
  asked_indexed (Ok x) same err moved h = same_indexed old new moved keys same h
  asked_indexed (Err e) same err moved h = refused_indexed old new moved keys e err h

  pub asked_values : length sequences ≡ length schema.sequences → length sequences ≡ length now_schema.sequences
  asked_values is = is ∙ ap (λ (x : SchemaData). length x.sequences) (sym same_schema)
