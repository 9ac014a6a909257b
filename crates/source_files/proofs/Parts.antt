-- A source of which some texts were read: what these need and ask for, the source needs and asks for.
use Rattle.std.proofs.Common.{◌≡◌, ◌≤◌, ℕ, List, [], ◌∷◌, ◌++◌, refl, sym, ◌∙◌, subst, length, append-nil, append_assoc}
use Rattle.std.specs.Prelude.{All}
use Rattle.std.proofs.lemmas.List.Elements.{All-cons, All-nil, All-push}
use Rattle.host_io.specs.Files.{FileState}
use Rattle.preprocessor.specs.declared.texts.NamedText.{NamedText}
use Rattle.preprocessor.specs.declared.texts.Outcome.TheVariants.{Needs}
use Rattle.preprocessor.specs.Expansion.{expansion}
use Rattle.source_files.specs.declared.files.TheConstants.{MAX_FILE_BYTES}
use Rattle.source_files.specs.Expansions.{AsksForNone}
use Rattle.source_files.specs.Files.{AsksNeeded, AsksSource, HasText, Needed, asks_later, asks_needed}
use Rattle.source_files.specs.Reading.{AreShort}

-- these are all texts of the source that begins with this one
abbrev pub AreAll : FileState → NamedText → List NamedText → Type 0
AreAll files own texts = (needed : List NamedText) × (texts ≡ own ∷ needed) × Needed files (own ∷ []) needed

-- these are its first ones
pub record ArePart (files : FileState) (own : NamedText) (texts : List NamedText) : Type 0 where
  pub needs : (more : List NamedText) → Needed files texts more → AreAll files own (texts ++ more)
  pub asks : (name : List ℕ) → AsksNeeded files texts name → AsksNeeded files (own ∷ []) name

module _ (files : FileState) (own : NamedText) where
  pub part_first : (texts : List NamedText) → texts ≡ own ∷ [] → ArePart files own texts
  part_first texts is = subst (ArePart files own) (sym is) (record {
    needs = λ more needed. (more, refl, needed);
    asks = λ name asks. asks;
  })

  pub part_more : (texts longer : List NamedText) (t : NamedText) → ArePart files own texts → expansion texts ≡ Needs t.name → HasText files t.name t.bytes → longer ≡ texts ++ t ∷ [] → ArePart files own longer
  part_more texts longer t part is has longer_is = subst (ArePart files own) (sym longer_is) (record {
    needs = λ more needed. subst (AreAll files own) (sym (append_assoc texts (t ∷ []) more)) (part.needs (t ∷ more) (is, has, needed));
    asks = λ name asks. part.asks name (asks_later t is has asks);
  })

  pub part_all : (texts source : List NamedText) → ArePart files own texts → source ≡ texts → AsksForNone (expansion texts) → AreAll files own source
  part_all texts source part same none = subst (AreAll files own) (append-nil texts ∙ sym same) (part.needs [] none)

-- what its own text asks for
pub asks_of_own : (files : FileState) (own : NamedText) (program : List ℕ) → own.name ≡ program → HasText files program own.bytes → (name : List ℕ) → AsksNeeded files (own ∷ []) name → AsksSource files program name
asks_of_own files own program is has name asks = asks_needed has (subst (λ (n : List ℕ). let t : NamedText = record { name = n; bytes = own.bytes } in AsksNeeded files (t ∷ []) name) is asks)

-- ---- lengths

pub short_first : (own : NamedText) (texts : List NamedText) → texts ≡ own ∷ [] → length own.bytes ≤ MAX_FILE_BYTES → AreShort texts
short_first own texts is short = subst AreShort (sym is) (All-cons (λ (t : NamedText). length t.bytes ≤ MAX_FILE_BYTES) own [] short (All-nil (λ (t : NamedText). length t.bytes ≤ MAX_FILE_BYTES)))

pub short_more : (texts longer : List NamedText) (t : NamedText) → AreShort texts → length t.bytes ≤ MAX_FILE_BYTES → longer ≡ texts ++ t ∷ [] → AreShort longer
short_more texts longer t short one is = subst AreShort (sym is) (All-push (λ (x : NamedText). length x.bytes ≤ MAX_FILE_BYTES) texts t short one)
