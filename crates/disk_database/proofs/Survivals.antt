-- What the images of a closed database hold.
use Rattle.std.proofs.Common.{◌≡◌, ◌⊎◌, ◌≤◌, ◌+◌, ℕ, Bool, List, [], ◌∷◌, refl, sym, subst, arith, inl, inr, ⊎_elim}
use Rattle.std.proofs.Math.Logic.{∥∥₁_elim, ∥∥₁_map, ∥∥₁_prop}
use Rattle.std.proofs.Props.{props}
use Rattle.std.specs.Coded.{×_prop}
use Rattle.abl_values.specs.Schema.{SchemaData}
use Rattle.database_protocol.specs.declared.event.Event.{Event}
use Rattle.database_meaning.specs.declared.contents.Contents.{Contents}
use Rattle.database_meaning.specs.Setting.{Setting}
use Rattle.database_meaning.specs.Traces.{acknowledged, after_commits}
use Rattle.row_store.specs.Rows.{Durable}
use Rattle.row_store.specs.Times.{Times}
use Rattle.db_core.specs.Crashes.{AreMoments, Holds, HoldsFrom, Survives, moment_of}
use Rattle.row_fragments.specs.Chains.{AreChains}
use Rattle.sequence_slots.specs.Values.{HoldValues}
use Rattle.slot_rows.specs.Chained.{StayChains}
use Rattle.slot_rows.specs.Durable.{durable_in, left_in}
use Rattle.log_meaning.specs.steps.Steps.{Image}
use Rattle.log_meaning.specs.Images.{Recovers}
use Rattle.log_meaning.proofs.LogStates.{one_recovery}
use Rattle.slot_txn.specs.logged.Stops.{HasSlots, StayRecoverable, Stops}
use Rattle.disk_database.specs.Images.{AllAreOf, AreSlotsOf, IsImageFrom, IsImageOf, RecoversToChains, SurvivesCrashes}
use Rattle.disk_database.specs.Parts.{HoldParts}

moments_prop : (first : ℕ) (trace : List Event) (now : ℕ) → IsProp (AreMoments first trace now)
moments_prop first [] now = hlevel props
moments_prop first (e ∷ es) now = ×_prop (hlevel props) (moments_prop (moment_of first e.answer) es now)

-- what an image recovers to is one array of slots
pub one_array : (image : Image) (x y : ℕ → List ℕ) → Recovers image x → Recovers image y → x ≡ y
one_array image x y rx ry = λ i s. one_recovery image x y rx ry s i

-- an image that recovers to slots with these contents is one of these contents
pub image_of : (schema : SchemaData) (contents : Contents) (image : Image) (h : HasSlots image) → AreSlotsOf schema contents h.slots → IsImageOf schema contents image
image_of schema contents image h are = record {
  some = ∣ h ∣₁;
  each = λ slots recovers. subst (AreSlotsOf schema contents) (one_array image h.slots slots h.recovers recovers) are;
}

-- slots with these rows and values, which hold the text and the values in their form, and the rows in chains
pub slots_of : (schema : SchemaData) (contents : Contents) (slots : ℕ → List ℕ) → Holds (durable_in schema slots) contents → HoldParts schema slots → ∥ AreChains slots ∥₁ → AreSlotsOf schema contents slots
slots_of schema contents slots holds parts chains =
    record { holds = holds; text = parts.text; values = subst (HoldValues slots) (sym holds.sequences) parts.values; chains = chains; unused = parts.unused }

-- ---- chains

-- what the slots of a disk say of a stop, said of the disk's images
pub chains_of_stops : (observable : Bool) (since now : ℕ) (left left' : ℕ → Image → Type 0) → ((image : Image) → left since image → left' since image)
    → ((m : ℕ) (image : Image) (slots : ℕ → List ℕ) → since ≤ m → left' m image → Recovers image slots → Stops observable since now left m slots) → StayChains (Stops observable since now left) since → RecoversToChains since left'
chains_of_stops observable since now left left' first_as law stay m image slots from there recovers = ∥∥₁_map (stay m slots (law m image slots from there recovers)) (λ (held : Stops observable since now left since slots ⊎ AreChains slots).
    ⊎_elim (λ (first : Stops observable since now left since slots). inl (first.3.0, first_as first.3.0 first.3.1, first.3.2)) (λ (chains : AreChains slots). inr chains) held)

-- where the images of the first moment are of some contents, each later one recovers to chains
pub all_chains : (schema : SchemaData) (contents : Contents) (since : ℕ) (left : ℕ → Image → Type 0) → RecoversToChains since left → AllAreOf schema contents (left since) → (m : ℕ) (image : Image) (slots : ℕ → List ℕ) → since ≤ m → left m image
    → Recovers image slots → ∥ AreChains slots ∥₁
all_chains schema contents since left stay all m image slots from there recovers = ∥∥₁_elim (stay m image slots from there recovers) ∥∥₁_prop (λ (held : ((old : Image) × left since old × Recovers old slots) ⊎ AreChains slots).
    ⊎_elim (λ (first : (old : Image) × left since old × Recovers old slots). ((all first.0 first.1).each slots first.2).chains) (λ (chains : AreChains slots). ∣ chains ∣₁) held)

-- ---- crashes

module _ (schema : SchemaData) (stop : ℕ → (ℕ → List ℕ) → Type 0) (times : Times) (left : ℕ → Image → Type 0) (f : Setting) (contents : Contents) (trace : List Event)
    (law : (m : ℕ) (image : Image) (slots : ℕ → List ℕ) → times.since ≤ m → left m image → Recovers image slots → stop m slots) (recoverable : StayRecoverable left times.since)
    (one : ∥ ((image : Image) × left times.since image) ∥₁) (all : AllAreOf f.schema contents (left times.since)) (same_schema : schema ≡ f.schema)
    (parts : (m : ℕ) (image : Image) (slots : ℕ → List ℕ) → times.since ≤ m → left m image → Recovers image slots → HoldParts f.schema slots) (stay : RecoversToChains times.since left)
    (crashes : (first : Durable) → left_in schema stop times.since first → Survives (left_in schema stop) times f contents trace) where
  stop_of : (m : ℕ) (image : Image) (h : HasSlots image) → times.since ≤ m → left m image → left_in schema stop m (durable_in schema h.slots)
  stop_of m image h from there = (h.slots, law m image h.slots from there h.recovers, refl)

  -- one stop at the first moment is known
  known : ∥ ((first : Durable) × left_in schema stop times.since first) ∥₁
  known = ∥∥₁_elim one ∥∥₁_prop (λ o. ∥∥₁_map (all o.0 o.1).some (λ (h : HasSlots o.0). (durable_in schema h.slots, stop_of times.since o.0 h (omega arith) o.1)))

  image_from : (n : ℕ) (image : Image) (h : HasSlots image) → HoldParts f.schema h.slots → ∥ AreChains h.slots ∥₁ → HoldsFrom f contents trace n (durable_in schema h.slots) → IsImageFrom f contents trace n image
  image_from n image h held chains (inl holds) =
      inl (image_of f.schema (after_commits f contents trace n) image h
      (slots_of f.schema (after_commits f contents trace n) h.slots (subst (λ (x : SchemaData). Holds (durable_in x h.slots) (after_commits f contents trace n)) same_schema holds) held chains))
  image_from n image h held chains (inr more) = inr (
    more.0,
    image_of f.schema (after_commits f contents trace (n + 1)) image h
        (slots_of f.schema (after_commits f contents trace (n + 1)) h.slots (subst (λ (x : SchemaData). Holds (durable_in x h.slots) (after_commits f contents trace (n + 1))) same_schema more.1) held chains),
  )

  pub crashes_survive : SurvivesCrashes times.since times.moment left f contents trace
  crashes_survive = record {
    each = λ m image from there. ∥∥₁_elim known ∥∥₁_prop (λ k. ∥∥₁_elim (recoverable (λ image there. (all image there).some) m image from there) ∥∥₁_prop (λ (h : HasSlots image).
        ∥∥₁_map ((crashes k.0 k.1).each m (durable_in schema h.slots) (stop_of m image h from there)) (image_from (acknowledged m trace) image h (parts m image h.slots from there h.recovers) (all_chains f.schema contents times.since left stay all m image h.slots from there h.recovers))));
    moments = ∥∥₁_elim known (moments_prop times.since trace times.moment) (λ k. (crashes k.0 k.1).moments);
  }
