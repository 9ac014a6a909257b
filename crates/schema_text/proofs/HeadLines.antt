-- What is read at the head of a line of a sound item.
use Rattle.std.proofs.Common.{◌≡◌, ◌≤◌, ◌<◌, ℕ, Bool, true, false, cond, List, [], ◌∷◌, ◌++◌, length, get_or, Option, Some, None, refl, ap, ◌∙◌, arith, append_assoc}
use Rattle.std.specs.Prelude.{codes, option_map}
use Rattle.std.specs.List.{flat_map}
use Rattle.std.proofs.lemmas.Bool.{eq-eqb, lt-ltb}
use Rattle.std.proofs.lemmas.Bool.Decides.{nat_tests}
use Rattle.std.proofs.lemmas.List.{get_or-map, length-map}
use Rattle.abl_base.specs.declared.value.Kind.{Kind}
use Rattle.abl_base.specs.declared.value.Kind.TheVariants.{Character, Integer, Int64, Decimal, Logical, Date}
use Rattle.abl_values.specs.declared.schema.FieldDef.{FieldDef}
use Rattle.abl_values.specs.declared.schema.KeyPart.{KeyPart}
use Rattle.abl_values.specs.declared.schema.IndexDef.{IndexDef}
use Rattle.abl_values.specs.Masks.{after_run}
use Rattle.abl_values.specs.Names.{is_name}
use Rattle.abl_values.specs.Order.{folded}
use Rattle.abl_values.specs.Schema.{field_line, field_names, index_line, kind_text, letter, no_field, number_of_name, part_text}
use Rattle.abl_values.specs.Texts.{export_text}
use Rattle.schema_text.specs.Words.{FieldHead, Flag, IndexHead, Part, Word, field_head, flag_at, if_name, index_head, is_word_byte, kind_said, name_before, part_at, past, run, on_some, word_before}
use Rattle.schema_text.specs.Written.{AreFields}
use Rattle.schema_text.proofs.Names.{IsPlain, found_small, plain_name, small_name}

-- ---- words

no_word_byte : (a : ℕ) → a ≤ 32 → is_word_byte a ≡ false
no_word_byte a h = grind (arith, nat_tests)

run-word : (xs : List ℕ) (a : ℕ) (r : List ℕ) → IsPlain xs → a ≤ 32 → run (xs ++ a ∷ r) ≡ xs
run-word [] a r h low = ap (λ (c : Bool). cond c (a ∷ run r) []) (no_word_byte a low)
run-word (x ∷ xs) a r h low =
    ap (λ (c : Bool). cond c (x ∷ run (xs ++ a ∷ r)) []) (lt-ltb 32 x h.0) ∙ ap (λ (ys : List ℕ). x ∷ ys) (run-word xs a r h.1 low)

after_run-word : (xs : List ℕ) (a : ℕ) (r : List ℕ) → IsPlain xs → a ≤ 32 → after_run is_word_byte (xs ++ a ∷ r) ≡ a ∷ r
after_run-word [] a r h low = ap (λ (c : Bool). cond c (after_run is_word_byte r) (a ∷ r)) (no_word_byte a low)
after_run-word (x ∷ xs) a r h low =
    ap (λ (c : Bool). cond c (after_run is_word_byte (xs ++ a ∷ r)) (x ∷ (xs ++ a ∷ r))) (lt-ltb 32 x h.0) ∙ after_run-word xs a r h.1 low

abbrev pub word_is : List ℕ → List ℕ → Word
word_is xs r = record { word = xs; rest = r }

pub word_before-word : (xs : List ℕ) (a : ℕ) (r : List ℕ) → IsPlain xs → a ≤ 32 → word_before a (xs ++ a ∷ r) ≡ Some (word_is xs r)
word_before-word xs a r h low =
    ap (λ (w : List ℕ). option_map (λ rest. word_is w rest) (past a (after_run is_word_byte (xs ++ a ∷ r)))) (run-word xs a r h low)
    ∙ ap (λ (t : List ℕ). option_map (λ rest. word_is xs rest) (past a t)) (after_run-word xs a r h low)
    ∙ ap (λ (c : Bool). option_map (λ rest. word_is xs rest) (cond c (Some r) None)) (eq-eqb a a refl)

-- ---- names

pub name_before-name : (name : List ℕ) (a : ℕ) (r : List ℕ) → is_name name ≡ true → a ≤ 32 → name_before a (folded name ++ a ∷ r) ≡ Some (word_is (folded name) r)
name_before-name name a r h low =
    ap (λ (o : Option Word). on_some o if_name) (word_before-word (folded name) a r (plain_name (folded name) (small_name name h)) low)
    ∙ ap (λ (c : Bool). cond c (Some (word_is (folded name) r)) None) (small_name name h)

-- ---- kinds and letters

pub word_before-kind : (kind : Option Kind) (r : List ℕ) → word_before 32 (kind_text kind ++ 32 ∷ r) ≡ Some (word_is (kind_text kind) r)
word_before-kind None r = refl
word_before-kind (Some Character) r = refl
word_before-kind (Some Integer) r = refl
word_before-kind (Some Int64) r = refl
word_before-kind (Some Decimal) r = refl
word_before-kind (Some Logical) r = refl
word_before-kind (Some Date) r = refl

pub kind_said-text : (kind : Option Kind) → kind_said (kind_text kind) ≡ Some kind
kind_said-text None = refl
kind_said-text (Some Character) = refl
kind_said-text (Some Integer) = refl
kind_said-text (Some Int64) = refl
kind_said-text (Some Decimal) = refl
kind_said-text (Some Logical) = refl
kind_said-text (Some Date) = refl

abbrev flag_is : Bool → List ℕ → Flag
flag_is b r = record { is_set = b; rest = r }

mandatory-letter : (b : Bool) (r : List ℕ) → flag_at 77 79 (letter b 77 79 ++ r) ≡ Some (flag_is b r)
mandatory-letter true r = refl
mandatory-letter false r = refl

unique-letter : (b : Bool) (r : List ℕ) → flag_at 85 78 (letter b 85 78 ++ r) ≡ Some (flag_is b r)
unique-letter true r = refl
unique-letter false r = refl

primary-letter : (b : Bool) (r : List ℕ) → flag_at 80 78 (letter b 80 78 ++ r) ≡ Some (flag_is b r)
primary-letter true r = refl
primary-letter false r = refl

descending-letter : (b : Bool) (r : List ℕ) → flag_at 68 65 (letter b 68 65 ++ r) ≡ Some (flag_is b r)
descending-letter true r = refl
descending-letter false r = refl

-- ---- a field's line

nest_field : (p n k l e r : List ℕ) → p ++ n ++ 32 ∷ k ++ 32 ∷ l ++ 32 ∷ e ++ 10 ∷ [] ++ r ≡ p ++ (n ++ 32 ∷ (k ++ 32 ∷ (l ++ 32 ∷ (e ++ 10 ∷ r))))
nest_field p n k l e r =
    append_assoc (p ++ n ++ 32 ∷ k ++ 32 ∷ l ++ 32 ∷ e) (10 ∷ []) r ∙ append_assoc (p ++ n ++ 32 ∷ k ++ 32 ∷ l) (32 ∷ e) (10 ∷ r)
    ∙ append_assoc (p ++ n ++ 32 ∷ k) (32 ∷ l) (32 ∷ (e ++ 10 ∷ r)) ∙ append_assoc (p ++ n) (32 ∷ k) (32 ∷ (l ++ 32 ∷ (e ++ 10 ∷ r)))
    ∙ append_assoc p n (32 ∷ (k ++ 32 ∷ (l ++ 32 ∷ (e ++ 10 ∷ r))))

abbrev pub head_of_field : FieldDef → List ℕ → FieldHead
head_of_field f rest = record { name = folded f.name; kind = f.kind; mandatory = f.mandatory; rest = rest }

pub field_head-line : (f : FieldDef) (r : List ℕ) → is_name f.name ≡ true → field_head (field_line f ++ r) ≡ Some (head_of_field f (export_text f.initial ++ 10 ∷ r))
field_head-line f r h =
    let value = export_text f.initial ++ 10 ∷ r in
    let flag = letter f.mandatory 77 79 ++ 32 ∷ value in
    let kind = kind_text f.kind ++ 32 ∷ flag in
    ap field_head (nest_field (codes "F ") (folded f.name) (kind_text f.kind) (letter f.mandatory 77 79) (export_text f.initial) r)
    ∙ ap (λ (o : Option Word). on_some o (λ name. on_some (word_before 32 name.rest) (λ word. on_some (kind_said word.word) (λ k. on_some (flag_at 77 79 word.rest) (λ m. on_some (past 32 m.rest) (λ rest. Some (record { name = name.word; kind = k; mandatory = m.is_set; rest = rest }))))))) (name_before-name f.name 32 kind h (omega arith))
    ∙ ap (λ (o : Option Word). on_some o (λ word. on_some (kind_said word.word) (λ k. on_some (flag_at 77 79 word.rest) (λ m. on_some (past 32 m.rest) (λ rest. Some (record { name = folded f.name; kind = k; mandatory = m.is_set; rest = rest })))))) (word_before-kind f.kind flag)
    ∙ ap (λ (o : Option (Option Kind)). on_some o (λ k. on_some (flag_at 77 79 flag) (λ m. on_some (past 32 m.rest) (λ rest. Some (record { name = folded f.name; kind = k; mandatory = m.is_set; rest = rest }))))) (kind_said-text f.kind)
    ∙ ap (λ (o : Option Flag). on_some o (λ m. on_some (past 32 m.rest) (λ rest. Some (record { name = folded f.name; kind = f.kind; mandatory = m.is_set; rest = rest })))) (mandatory-letter f.mandatory (32 ∷ value))

-- ---- an index's line

nest_index : (p n u l c r : List ℕ) → p ++ n ++ 32 ∷ u ++ 32 ∷ l ++ c ++ 10 ∷ [] ++ r ≡ p ++ (n ++ 32 ∷ (u ++ 32 ∷ (l ++ (c ++ 10 ∷ r))))
nest_index p n u l c r =
    append_assoc (p ++ n ++ 32 ∷ u ++ 32 ∷ l ++ c) (10 ∷ []) r ∙ append_assoc (p ++ n ++ 32 ∷ u ++ 32 ∷ l) c (10 ∷ r)
    ∙ append_assoc (p ++ n ++ 32 ∷ u) (32 ∷ l) (c ++ 10 ∷ r) ∙ append_assoc (p ++ n) (32 ∷ u) (32 ∷ (l ++ (c ++ 10 ∷ r)))
    ∙ append_assoc p n (32 ∷ (u ++ 32 ∷ (l ++ (c ++ 10 ∷ r))))

abbrev parts_text : List FieldDef → List KeyPart → List ℕ
parts_text fs ps = flat_map (part_text fs) ps

abbrev pub head_of_index : IndexDef → Bool → List ℕ → IndexHead
head_of_index i b rest = record { name = folded i.name; unique = i.unique; primary = b; rest = rest }

pub index_head-line : (fs : List FieldDef) (b : Bool) (i : IndexDef) (r : List ℕ) → is_name i.name ≡ true → index_head (index_line fs b i ++ r) ≡ Some (head_of_index i b (parts_text fs i.parts ++ 10 ∷ r))
index_head-line fs b i r h =
    let parts = parts_text fs i.parts ++ 10 ∷ r in
    let primary = letter b 80 78 ++ parts in
    let unique = letter i.unique 85 78 ++ 32 ∷ primary in
    ap index_head (nest_index (codes "I ") (folded i.name) (letter i.unique 85 78) (letter b 80 78) (parts_text fs i.parts) r)
    ∙ ap (λ (o : Option Word). on_some o (λ name. on_some (flag_at 85 78 name.rest) (λ u. on_some (past 32 u.rest) (λ blank. on_some (flag_at 80 78 blank) (λ p. Some (record { name = name.word; unique = u.is_set; primary = p.is_set; rest = p.rest })))))) (name_before-name i.name 32 unique h (omega arith))
    ∙ ap (λ (o : Option Flag). on_some o (λ u. on_some (past 32 u.rest) (λ blank. on_some (flag_at 80 78 blank) (λ p. Some (record { name = folded i.name; unique = u.is_set; primary = p.is_set; rest = p.rest }))))) (unique-letter i.unique (32 ∷ primary))
    ∙ ap (λ (o : Option Flag). on_some o (λ p. Some (record { name = folded i.name; unique = i.unique; primary = p.is_set; rest = p.rest }))) (primary-letter b parts)

-- ---- a component

nest_part : (n d r : List ℕ) → 32 ∷ n ++ 32 ∷ d ++ r ≡ 32 ∷ (n ++ 32 ∷ (d ++ r))
nest_part n d r = append_assoc (32 ∷ n) (32 ∷ d) r

abbrev pub part_is : KeyPart → List ℕ → Part
part_is p r = record { part = p; rest = r }

pub part_at-text : (fs : List FieldDef) (p : KeyPart) (r : List ℕ) → AreFields fs → p.field < length fs → part_at fs (part_text fs p ++ r) ≡ Some (part_is p r)
part_at-text fs p r h low =
    let name = (get_or fs p.field no_field).name in
    let flag = letter p.descending 68 65 ++ r in
    let at : get_or (field_names fs) p.field [] ≡ name = get_or-map (λ (f : FieldDef). f.name) fs p.field no_field [] low in
    let found = found_small (field_names fs) name p.field h.apart (omega (arith, length-map fs (λ (f : FieldDef). f.name))) at in
    ap (part_at fs) (nest_part (folded name) (letter p.descending 68 65) r)
    ∙ ap (λ (o : Option Word). on_some o (λ n. on_some (number_of_name 0 (field_names fs) n.word) (λ k. on_some (flag_at 68 65 n.rest) (λ d. Some (record { part = record { field = k; descending = d.is_set }; rest = d.rest }))))) (name_before-name name 32 flag (h.each p.field no_field low).name (omega arith))
    ∙ ap (λ (o : Option ℕ). on_some o (λ k. on_some (flag_at 68 65 flag) (λ d. Some (record { part = record { field = k; descending = d.is_set }; rest = d.rest })))) found
    ∙ ap (λ (o : Option Flag). on_some o (λ d. Some (record { part = record { field = p.field; descending = d.is_set }; rest = d.rest }))) (descending-letter p.descending r)
