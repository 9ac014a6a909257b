-- The lines of a schema's canonical text determine its tables and sequences.
use Rattle.std.proofs.Common.{◌≡◌, ◌≢◌, ℕ, zero, suc, ◌<◌, Bool, true, false, ◌||◌, if◌then◌else◌, List, [], ◌∷◌, ◌++◌, length, map, get_or, Option, Some, None, refl, sym, ap, subst, ◌∙◌, arith, append_assoc}
use Rattle.std.specs.Prelude.{codes, nat_lt, slice_index_or}
use Rattle.std.specs.List.{AllByRecursion, flat_map, list_all}
use Rattle.std.proofs.lemmas.Bool.{and_parts, or_parts, or_right, ltb-true, both_ways}
use Rattle.std.proofs.lemmas.List.{get_or-map, length-map}
use Rattle.abl_base.specs.declared.value.Kind.{Kind}
use Rattle.abl_base.specs.declared.value.Kind.TheVariants.{Character, Integer, Int64, Decimal, Logical, Date}
use Rattle.abl_base.specs.declared.value.Value.{Value}
use Rattle.abl_values.specs.declared.schema.FieldDef.{FieldDef}
use Rattle.abl_values.specs.declared.schema.KeyPart.{KeyPart}
use Rattle.abl_values.specs.Fit.{IsOfField}
use Rattle.abl_values.specs.Order.{folded}
use Rattle.abl_values.specs.Schema.{field_line, field_names, kind_text, letter, no_field, part_text, same_name}
use Rattle.abl_values.specs.Texts.{export_text}
use Rattle.schema_lines.specs.Forms.{kind_named}
use Rattle.schema_reader.specs.Laws.{observable_field}
use Rattle.abl_values.specs.Sound.{has_twice, is_among, IsSoundField}
use Rattle.schema_reader.proofs.SizesNames.{same_if}
use Rattle.schema_reader.proofs.ObservableBytes.{IsPlain, cut, heads, tails}
use Rattle.schema_reader.proofs.ObservableNames.{is_name-plain}
use Rattle.schema_reader.proofs.ObservableValues.{value-tells}

-- ---- what follows from the first byte

abbrev pub first : List ℕ → ℕ
first [] = 0
first (x ∷ xs) = x

plain_if : (xs : List ℕ) → list_all (λ b. nat_lt 32 b) xs ≡ true → IsPlain xs
plain_if [] h = tt
plain_if (x ∷ xs) h =
    let parts = and_parts (nat_lt 32 x) (list_all (λ b. nat_lt 32 b) xs) h in
    (ltb-true 32 x parts.0, plain_if xs parts.1)

kind_text-plain : (kind : Option Kind) → IsPlain (kind_text kind)
kind_text-plain None = plain_if (kind_text None) refl
kind_text-plain (Some Character) = plain_if (kind_text (Some Character)) refl
kind_text-plain (Some Integer) = plain_if (kind_text (Some Integer)) refl
kind_text-plain (Some Int64) = plain_if (kind_text (Some Int64)) refl
kind_text-plain (Some Decimal) = plain_if (kind_text (Some Decimal)) refl
kind_text-plain (Some Logical) = plain_if (kind_text (Some Logical)) refl
kind_text-plain (Some Date) = plain_if (kind_text (Some Date)) refl

-- the text of a kind determines the kind
kind_text-named : (kind : Option Kind) → kind_named (kind_text kind) ≡ kind
kind_text-named None = refl
kind_text-named (Some Character) = refl
kind_text-named (Some Integer) = refl
kind_text-named (Some Int64) = refl
kind_text-named (Some Decimal) = refl
kind_text-named (Some Logical) = refl
kind_text-named (Some Date) = refl

kind_text-tells : (k j : Option Kind) → kind_text k ≡ kind_text j → k ≡ j
kind_text-tells k j e = sym (kind_text-named k) ∙ ap kind_named e ∙ kind_text-named j

abbrev pub letter_of : Bool → ℕ → ℕ → ℕ
letter_of b on off = if b then on else off

-- one of two different letters determines the flag
pub letter-tells : (b c : Bool) (on off : ℕ) → (on ≡ off → ⊥) → letter_of b on off ≡ letter_of c on off → b ≡ c
letter-tells true true on off h e = refl
letter-tells true false on off h e = absurd (h e)
letter-tells false true on off h e = absurd (h (sym e))
letter-tells false false on off h e = refl

-- ---- fields

abbrev pub AreSoundFields : List FieldDef → Type 0
AreSoundFields fs = AllByRecursion IsSoundField fs

nest_field : (p n k l e r : List ℕ) → p ++ n ++ 32 ∷ k ++ 32 ∷ l ++ 32 ∷ e ++ 10 ∷ [] ++ r ≡ p ++ (n ++ 32 ∷ (k ++ 32 ∷ (l ++ 32 ∷ (e ++ 10 ∷ r))))
nest_field p n k l e r =
    append_assoc (p ++ n ++ 32 ∷ k ++ 32 ∷ l ++ 32 ∷ e) (10 ∷ []) r ∙ append_assoc (p ++ n ++ 32 ∷ k ++ 32 ∷ l) (32 ∷ e) (10 ∷ r)
    ∙ append_assoc (p ++ n ++ 32 ∷ k) (32 ∷ l) (32 ∷ (e ++ 10 ∷ r)) ∙ append_assoc (p ++ n) (32 ∷ k) (32 ∷ (l ++ 32 ∷ (e ++ 10 ∷ r)))
    ∙ append_assoc p n (32 ∷ (k ++ 32 ∷ (l ++ 32 ∷ (e ++ 10 ∷ r))))

abbrev told_as : List ℕ → Option Kind → Value → Bool → FieldDef
told_as name kind initial mandatory = record { name = name; kind = kind; initial = initial; mandatory = mandatory; mask = [] }

same_field : (f g : FieldDef) → folded f.name ≡ folded g.name → f.kind ≡ g.kind → f.initial ≡ g.initial → f.mandatory ≡ g.mandatory → observable_field f ≡ observable_field g
same_field f g hn hk hi hm =
    ap (λ x. told_as x f.kind f.initial f.mandatory) hn ∙ ap (λ x. told_as (folded g.name) x f.initial f.mandatory) hk
    ∙ ap (λ x. told_as (folded g.name) g.kind x f.mandatory) hi ∙ ap (λ x. told_as (folded g.name) g.kind g.initial x) hm

pub record FieldTold (f g : FieldDef) (r s : List ℕ) : Type 0 where
  pub field : observable_field f ≡ observable_field g
  pub rest : r ≡ s

field-tells : (f g : FieldDef) → IsSoundField f → IsSoundField g → (r s : List ℕ) → field_line f ++ r ≡ field_line g ++ s → FieldTold f g r s
field-tells f g hf hg r s e =
    let from_letter = λ (h : FieldDef) (t : List ℕ). letter h.mandatory 77 79 ++ 32 ∷ (export_text h.initial ++ 10 ∷ t) in
    let from_kind = λ (h : FieldDef) (t : List ℕ). kind_text h.kind ++ 32 ∷ from_letter h t in
    let from_name = λ (h : FieldDef) (t : List ℕ). folded h.name ++ 32 ∷ from_kind h t in
    let nested = λ (h : FieldDef) (t : List ℕ). nest_field (codes "F ") (folded h.name) (kind_text h.kind) (letter h.mandatory 77 79) (export_text h.initial) t in
    let named : from_name f r ≡ from_name g s = tails 32 32 (from_name f r) (from_name g s) (tails 70 70 (32 ∷ from_name f r) (32 ∷ from_name g s) (sym (nested f r) ∙ e ∙ nested g s)) in
    let names = cut (folded f.name) (folded g.name) 32 32 (from_kind f r) (from_kind g s) (is_name-plain f.name hf.name) (is_name-plain g.name hg.name) (omega arith) (omega arith) named in
    let kinds = cut (kind_text f.kind) (kind_text g.kind) 32 32 (from_letter f r) (from_letter g s) (kind_text-plain f.kind) (kind_text-plain g.kind) (omega arith) (omega arith) names.rests in
    let kind = kind_text-tells f.kind g.kind kinds.words in
    let one = λ (h : FieldDef). letter_of h.mandatory 77 79 in
    let two = λ (h : FieldDef) (t : List ℕ). export_text h.initial ++ 10 ∷ t in
    let mandatory = letter-tells f.mandatory g.mandatory 77 79 (λ k. omega (arith, k)) (heads (one f) (one g) (32 ∷ two f r) (32 ∷ two g s) kinds.rests) in
    let value = value-tells f.kind f.initial g.initial hf.initial (subst (λ k. IsOfField k g.initial) (sym kind) hg.initial) r s (tails 32 32 (two f r) (two g s) (tails (one f) (one g) (32 ∷ two f r) (32 ∷ two g s) kinds.rests)) in
    record { field = same_field f g names.words kind value.value mandatory; rest = value.rest }

pub record FieldsTold (fs gs : List FieldDef) (r s : List ℕ) : Type 0 where
  pub fields : map observable_field fs ≡ map observable_field gs
  pub rest : r ≡ s

pub fields-tell : (fs gs : List FieldDef) → AreSoundFields fs → AreSoundFields gs → (r s : List ℕ) → first r ≢ 70 → first s ≢ 70
    → flat_map field_line fs ++ r ≡ flat_map field_line gs ++ s → FieldsTold fs gs r s
fields-tell [] [] hf hg r s hr hs e = record { fields = refl; rest = e }
fields-tell [] (g ∷ gs) hf hg r s hr hs e = absurd (hr (ap first e))
fields-tell (f ∷ fs) [] hf hg r s hr hs e = absurd (hs (ap first (sym e)))
fields-tell (f ∷ fs) (g ∷ gs) hf hg r s hr hs e =
    let one = field-tells f g hf.0 hg.0 (flat_map field_line fs ++ r) (flat_map field_line gs ++ s)
    (sym (append_assoc (field_line f) (flat_map field_line fs) r) ∙ e ∙ append_assoc (field_line g) (flat_map field_line gs) s) in
    let more = fields-tell fs gs hf.1 hg.1 r s hr hs one.rest in
    let field = one.field in
    let fields = more.fields in
    record { fields = ap (λ (h : FieldDef). h ∷ map observable_field fs) field ∙ ap (λ (hs : List FieldDef). observable_field g ∷ hs) fields; rest = more.rest }

-- ---- components

-- a name at a place is among the names
among_at : (names : List (List ℕ)) (name : List ℕ) (q : ℕ) → q < length names → same_name (get_or names q []) name ≡ true → is_among name names ≡ true
among_at [] name q h e = absurd (omega arith)
among_at (n ∷ ns) name zero h e = ap (λ b. b || is_among name ns) e
among_at (n ∷ ns) name (suc q) h e = or_right (same_name n name) (is_among name ns) (among_at ns name q (omega arith) e)

-- where no name occurs twice, a name determines its index
place-tells : (names : List (List ℕ)) → has_twice names ≡ false → (p q : ℕ) → p < length names → q < length names → folded (get_or names p []) ≡ folded (get_or names q []) → p ≡ q
place-tells [] h p q hp hq e = absurd (omega arith)
place-tells (n ∷ ns) h zero zero hp hq e = refl
place-tells (n ∷ ns) h zero (suc q) hp hq e =
    absurd (both_ways (is_among n ns) (or_parts (is_among n ns) (has_twice ns) h).0 (among_at ns n q (omega arith) (same_if (get_or ns q []) n (sym e))))
place-tells (n ∷ ns) h (suc p) zero hp hq e =
    absurd (both_ways (is_among n ns) (or_parts (is_among n ns) (has_twice ns) h).0 (among_at ns n p (omega arith) (same_if (get_or ns p []) n e)))
place-tells (n ∷ ns) h (suc p) (suc q) hp hq e = ap suc (place-tells ns (or_parts (is_among n ns) (has_twice ns) h).1 p q (omega arith) (omega arith) e)

abbrev pub AreWithin : ℕ → List KeyPart → Type 0
AreWithin count ps = AllByRecursion (λ p. p.field < count) ps

nest_part : (n d r : List ℕ) → 32 ∷ n ++ 32 ∷ d ++ r ≡ 32 ∷ (n ++ 32 ∷ (d ++ r))
nest_part n d r = append_assoc (32 ∷ n) (32 ∷ d) r

abbrev name_at : List FieldDef → KeyPart → List ℕ
name_at fields p = folded (slice_index_or fields p.field no_field).name

name_at-plain : (fields : List FieldDef) (n : ℕ) → AreSoundFields fields → n < length fields → IsPlain (folded (get_or fields n no_field).name)
name_at-plain [] n h k = absurd (omega arith)
name_at-plain (f ∷ fs) zero h k = is_name-plain f.name h.0.name
name_at-plain (f ∷ fs) (suc n) h k = name_at-plain fs n h.1 (omega arith)

abbrev part_as : ℕ → Bool → KeyPart
part_as field descending = record { field = field; descending = descending }

pub record PartsTold (ps qs : List KeyPart) (r s : List ℕ) : Type 0 where
  pub parts : ps ≡ qs
  pub rest : r ≡ s

-- two tables with the same fields but for the case of names and masks
module _ (fs gs : List FieldDef) (told : map observable_field fs ≡ map observable_field gs) (hf : AreSoundFields fs) (hg : AreSoundFields gs) (once : has_twice (field_names fs) ≡ false) where
  as_many : length fs ≡ length gs
  as_many = sym (length-map fs observable_field) ∙ ap length told ∙ length-map gs observable_field

  told_at : (n : ℕ) → n < length fs → folded (get_or fs n no_field).name ≡ folded (get_or gs n no_field).name
  told_at n h =
      let low : n < length gs = omega (arith, as_many) in
      ap (λ f. f.name) (sym (get_or-map observable_field fs n no_field (observable_field no_field) h) ∙ ap (λ (hs : List FieldDef). get_or hs n (observable_field no_field)) told ∙ get_or-map observable_field gs n no_field (observable_field no_field) low)

  number-tells : (p q : ℕ) → p < length fs → q < length gs → folded (get_or fs p no_field).name ≡ folded (get_or gs q no_field).name → p ≡ q
  number-tells p q hp hq e =
      let low : q < length fs = omega (arith, as_many) in
      let at = λ (n : ℕ) (h : n < length fs). get_or-map (λ f. f.name) fs n no_field [] h in
      place-tells (field_names fs) once p q (omega (arith, length-map fs (λ f. f.name))) (omega (arith, length-map fs (λ f. f.name)))
      (ap folded (at p hp) ∙ e ∙ sym (told_at q low) ∙ ap folded (sym (at q low)))

  pub parts-tell : (ps qs : List KeyPart) → AreWithin (length fs) ps → AreWithin (length gs) qs → (r s : List ℕ)
      → flat_map (part_text fs) ps ++ 10 ∷ r ≡ flat_map (part_text gs) qs ++ 10 ∷ s → PartsTold ps qs r s
  parts-tell [] [] hp hq r s e = record { parts = refl; rest = tails 10 10 r s e }
  parts-tell [] (q ∷ qs) hp hq r s e = absurd (omega (arith, ap first e))
  parts-tell (p ∷ ps) [] hp hq r s e = absurd (omega (arith, ap first e))
  parts-tell (p ∷ ps) (q ∷ qs) hp hq r s e =
      let more_fs = flat_map (part_text fs) ps ++ 10 ∷ r in
      let more_gs = flat_map (part_text gs) qs ++ 10 ∷ s in
      let one = λ (x : KeyPart). letter_of x.descending 68 65 in
      let left = append_assoc (part_text fs p) (flat_map (part_text fs) ps) (10 ∷ r) ∙ nest_part (name_at fs p) (letter p.descending 68 65) more_fs in
      let right = append_assoc (part_text gs q) (flat_map (part_text gs) qs) (10 ∷ s) ∙ nest_part (name_at gs q) (letter q.descending 68 65) more_gs in
      let named = tails 32 32 (name_at fs p ++ 32 ∷ one p ∷ more_fs) (name_at gs q ++ 32 ∷ one q ∷ more_gs) (sym left ∙ e ∙ right) in
      let names = cut (name_at fs p) (name_at gs q) 32 32 (one p ∷ more_fs) (one q ∷ more_gs) (name_at-plain fs p.field hf hp.0) (name_at-plain gs q.field hg hq.0) (omega arith) (omega arith) named in
      let number = number-tells p.field q.field hp.0 hq.0 names.words in
      let descending = letter-tells p.descending q.descending 68 65 (λ k. omega (arith, k)) (heads (one p) (one q) more_fs more_gs names.rests) in
      let more = parts-tell ps qs hp.1 hq.1 r s (tails (one p) (one q) more_fs more_gs names.rests) in
      let part : p ≡ q = ap (λ n. part_as n p.descending) number ∙ ap (λ b. part_as q.field b) descending in
      record { parts = ap (λ (x : KeyPart). x ∷ ps) part ∙ ap (λ (xs : List KeyPart). q ∷ xs) more.parts; rest = more.rest }
