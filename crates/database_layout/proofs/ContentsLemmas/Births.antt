-- Images that are born, and images that are not.
use Rattle.std.proofs.Common.{◌≡◌, ◌≢◌, ⊎_elim, ℕ, zero, suc, ◌<◌, true, false, List, ◌∷◌, length, get_or, replicate, refl, sym, ◌∙◌, ap, subst, arith}
use Rattle.std.specs.List.{Contains}
use Rattle.abl_values.specs.Schema.{SchemaData}
use Rattle.row_fragments.specs.Fragments.{ends, kind_in, begins, chain_of}
use Rattle.log_meaning.specs.steps.Steps.{Image}
use Rattle.log_meaning.specs.Bytes.{header_bytes}
use Rattle.log_meaning.specs.Images.{IsOpened, Recovers}
use Rattle.log_meaning.proofs.LogStates.{one_recovery}
use Rattle.database_layout.specs.contents.Contents.{Contents, AreRows, IsOfOneRow, contents_in}
use Rattle.database_layout.specs.contents.Born.{IsBorn}

-- the area of the log of a born image has an open header
log_opened : (image : Image) (contents : Contents) → IsBorn image contents → ((generation : ℕ) → IsOpened (image 1) generation → ⊥) → ((generation : ℕ) → IsOpened (image 2) generation → ⊥) → ⊥
log_opened image contents born one two =
    let r = born.recovered in
    ⊎_elim
    (λ (is : r.area ≡ 1). one r.generation (subst (λ (k : ℕ). IsOpened (image k) r.generation) is r.log.opened))
    (λ (is : r.area ≡ 2). two r.generation (subst (λ (k : ℕ). IsOpened (image k) r.generation) is r.log.opened))
    r.newest.log

-- an image without an open gate is not born
pub closed_is_not_born : (image : Image) (contents : Contents) → get_or (image 1) 0 0 ≢ 1 → get_or (image 2) 0 0 ≢ 1 → IsBorn image contents → ⊥
closed_is_not_born image contents one two born =
    log_opened image contents born (λ g o. one (sym (o.head 0 (omega arith)))) (λ g o. two (sym (o.head 0 (omega arith))))

letter : (g : ℕ) → get_or (1 ∷ header_bytes g) 1 0 ≡ 65
unfolding header_bytes
letter g = refl

second : (g : ℕ) → 1 < length (1 ∷ header_bytes g)
unfolding header_bytes
second g = omega arith

-- nor is one whose headers begin with another letter
pub other_text_is_not_born : (image : Image) (contents : Contents) → get_or (image 1) 1 0 ≢ 65 → get_or (image 2) 1 0 ≢ 65 → IsBorn image contents → ⊥
other_text_is_not_born image contents one two born =
    log_opened image contents born (λ g o. one (sym (o.head 1 (second g)) ∙ letter g)) (λ g o. two (sym (o.head 1 (second g)) ∙ letter g))

-- areas of bytes 255
pub areas_of_255 : (n : ℕ) (contents : Contents) → IsBorn (λ area. replicate n 255) contents → ⊥
areas_of_255 n contents born = closed_is_not_born (λ area. replicate n 255) contents (not_one n) (not_one n) born
  where
    not_one : (n : ℕ) → ◌≢◌ {A = ℕ} (get_or (replicate n 255) 0 0) 1
    not_one zero is = omega (arith, is)
    not_one (suc n) is = omega (arith, is)

-- two rows do not share a slot
pub no_slot_of_two_rows : (schema : SchemaData) (slots : ℕ → List ℕ) → AreRows schema slots → (row other slot : ℕ) → begins slots row ≡ true → begins slots other ≡ true
    → Contains (chain_of slots row) slot → Contains (chain_of slots other) slot → ends slot ≡ false → kind_in (slots slot) ≢ 0 → row ≡ other
no_slot_of_two_rows schema slots rows row other slot one two in_one in_two e used = ⊎_elim
    (λ (free : kind_in (slots slot) ≡ 0). absurd (used free))
    (λ (of : IsOfOneRow slots slot). of.only row one in_one ∙ sym (of.only other two in_two))
    (rows.each slot e)

-- an image that recovers to what a born one recovers to is born with the same contents
pub born_again : (image other : Image) (contents : Contents) → ((slots : ℕ → List ℕ) → Recovers image slots → Recovers other slots) → IsBorn image contents → IsBorn other contents
born_again image other contents to born = record { slots = born.slots; recovered = to born.slots born.recovered; schema = born.schema; held = born.held; are = born.are }

-- an image has one contents of a schema
pub one_contents : (image : Image) (one two : Contents) (b : IsBorn image one) (c : IsBorn image two) → b.schema ≡ c.schema → one ≡ two
one_contents image one two b c same =
    b.are
    ∙ ap (λ (schema : SchemaData). contents_in schema b.slots) same
    ∙ ap (contents_in c.schema) (λ i k. one_recovery image b.slots c.slots b.recovered c.recovered k i)
    ∙ sym c.are
