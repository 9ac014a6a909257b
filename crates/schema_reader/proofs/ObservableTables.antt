-- The canonical text determines what is observable of each table and each sequence.
use Rattle.std.proofs.Common.{◌≡◌, ◌≢◌, ◌⊎◌, inl, inr, ℕ, zero, suc, ◌+◌, ◌<◌, Bool, true, false, ◌==◌, cond, List, [], ◌∷◌, ◌++◌, length, map, Option, Some, None, ℤ, refl, sym, ap, ◌∙◌, arith, append_assoc, zero-add, add-zero}
use Rattle.std.specs.Prelude.{IfSome, codes, count_by}
use Rattle.std.specs.List.{AllByRecursion, flat_map}
use Rattle.std.specs.Fmt.{signed_decimal}
use Rattle.std.proofs.lemmas.Bool.{eqb-true, eq-eqb}
use Rattle.std.proofs.lemmas.Bool.Decides.{nat_tests}
use Rattle.std.proofs.lemmas.List.{length-map}
use Rattle.std.proofs.lemmas.List.Elements.{recursion_from_All}
use Rattle.std.proofs.lemmas.List.Sums.{sum_by-cons}
use Rattle.abl_values.specs.declared.schema.FieldDef.{FieldDef}
use Rattle.abl_values.specs.declared.schema.KeyPart.{KeyPart}
use Rattle.abl_values.specs.declared.schema.IndexDef.{IndexDef}
use Rattle.abl_values.specs.declared.schema.TableDef.{TableDef}
use Rattle.abl_values.specs.declared.schema.SequenceDef.{SequenceDef}
use Rattle.abl_values.specs.Arithmetic.{fits_bits}
use Rattle.abl_values.specs.Order.{folded}
use Rattle.abl_values.specs.Schema.{field_line, field_names, index_line, index_lines, is_number, letter, part_text, sequence_line, table_lines}
use Rattle.schema_reader.specs.Laws.{observable_field, observable_index, observable_sequence}
use Rattle.abl_values.specs.Sound.{has_twice, IsSoundField, IsSoundIndex, IsSoundSequence, IsSoundTable}
use Rattle.schema_reader.proofs.ObservableNames.{is_name-plain}
use Rattle.schema_reader.proofs.ObservableBytes.{cut, marks_are_plain, signed_decimal-marks, signed_decimal-tells, heads, tails}
use Rattle.schema_reader.proofs.ObservableLines.{AreSoundFields, fields-tell, first, letter-tells, letter_of, parts-tell}

-- ---- indexes

abbrev pub AreSoundIndexes : ℕ → List IndexDef → Type 0
AreSoundIndexes count is = AllByRecursion (IsSoundIndex count) is

nest_index : (p n u l c r : List ℕ) → p ++ n ++ 32 ∷ u ++ 32 ∷ l ++ c ++ 10 ∷ [] ++ r ≡ p ++ (n ++ 32 ∷ (u ++ 32 ∷ (l ++ (c ++ 10 ∷ r))))
nest_index p n u l c r =
    append_assoc (p ++ n ++ 32 ∷ u ++ 32 ∷ l ++ c) (10 ∷ []) r ∙ append_assoc (p ++ n ++ 32 ∷ u ++ 32 ∷ l) c (10 ∷ r)
    ∙ append_assoc (p ++ n ++ 32 ∷ u) (32 ∷ l) (c ++ 10 ∷ r) ∙ append_assoc (p ++ n) (32 ∷ u) (32 ∷ (l ++ (c ++ 10 ∷ r)))
    ∙ append_assoc p n (32 ∷ (u ++ 32 ∷ (l ++ (c ++ 10 ∷ r))))

abbrev index_as : List ℕ → Bool → List KeyPart → IndexDef
index_as name unique parts = record { name = name; unique = unique; parts = parts }

pub record IndexTold (i j : IndexDef) (b c : Bool) (r s : List ℕ) : Type 0 where
  pub index : observable_index i ≡ observable_index j
  pub primary : b ≡ c
  pub rest : r ≡ s

pub record IndexesTold (primary other : Option ℕ) (n : ℕ) (is js : List IndexDef) (r s : List ℕ) : Type 0 where
  pub indexes : map observable_index is ≡ map observable_index js
  pub flags : (k : ℕ) → k < length is → is_number primary (n + k) ≡ is_number other (n + k)
  pub rest : r ≡ s

module _ (fs gs : List FieldDef) (told : map observable_field fs ≡ map observable_field gs) (hf : AreSoundFields fs) (hg : AreSoundFields gs) (once : has_twice (field_names fs) ≡ false) where
  index-tells : (i j : IndexDef) (b c : Bool) → IsSoundIndex (length fs) i → IsSoundIndex (length gs) j → (r s : List ℕ) → index_line fs b i ++ r ≡ index_line gs c j ++ s → IndexTold i j b c r s
  index-tells i j b c hi hj r s e =
      let one = λ (x : IndexDef). letter_of x.unique 85 78 in
      let parts_f = flat_map (part_text fs) i.parts ++ 10 ∷ r in
      let parts_g = flat_map (part_text gs) j.parts ++ 10 ∷ s in
      let primary_f = letter_of b 80 78 ∷ parts_f in
      let primary_g = letter_of c 80 78 ∷ parts_g in
      let unique_f = one i ∷ 32 ∷ primary_f in
      let unique_g = one j ∷ 32 ∷ primary_g in
      let name_f = folded i.name ++ 32 ∷ unique_f in
      let name_g = folded j.name ++ 32 ∷ unique_g in
      let left = nest_index (codes "I ") (folded i.name) (letter i.unique 85 78) (letter b 80 78) (flat_map (part_text fs) i.parts) r in
      let right = nest_index (codes "I ") (folded j.name) (letter j.unique 85 78) (letter c 80 78) (flat_map (part_text gs) j.parts) s in
      let named = tails 32 32 name_f name_g (tails 73 73 (32 ∷ name_f) (32 ∷ name_g) (sym left ∙ e ∙ right)) in
      let names = cut (folded i.name) (folded j.name) 32 32 unique_f unique_g (is_name-plain i.name hi.name) (is_name-plain j.name hj.name) (omega arith) (omega arith) named in
      let unique = letter-tells i.unique j.unique 85 78 (λ k. omega (arith, k)) (heads (one i) (one j) (32 ∷ primary_f) (32 ∷ primary_g) names.rests) in
      let after = tails 32 32 primary_f primary_g (tails (one i) (one j) (32 ∷ primary_f) (32 ∷ primary_g) names.rests) in
      let primary = letter-tells b c 80 78 (λ k. omega (arith, k)) (heads (letter_of b 80 78) (letter_of c 80 78) parts_f parts_g after) in
      let parts = parts-tell fs gs told hf hg once i.parts j.parts (recursion_from_All (λ p. p.field < length fs) i.parts hi.parts) (recursion_from_All (λ p. p.field < length gs) j.parts hj.parts) r s (tails (letter_of b 80 78) (letter_of c 80 78) parts_f parts_g after) in
      record {
        index = ap (λ x. index_as x i.unique i.parts) names.words ∙ ap (λ x. index_as (folded j.name) x i.parts) unique ∙ ap (λ x. index_as (folded j.name) j.unique x) parts.parts;
        primary = primary;
        rest = parts.rest;
      }

  pub indexes-tell : (primary other : Option ℕ) (n : ℕ) (is js : List IndexDef) → AreSoundIndexes (length fs) is → AreSoundIndexes (length gs) js → (r s : List ℕ) → first r ≢ 73 → first s ≢ 73
      → index_lines fs primary n is ++ r ≡ index_lines gs other n js ++ s → IndexesTold primary other n is js r s
  indexes-tell primary other n [] [] hi hj r s hr hs e = record { indexes = refl; flags = λ k h. absurd (omega arith); rest = e }
  indexes-tell primary other n [] (j ∷ js) hi hj r s hr hs e = absurd (hr (ap first e))
  indexes-tell primary other n (i ∷ is) [] hi hj r s hr hs e = absurd (hs (ap first (sym e)))
  indexes-tell primary other n (i ∷ is) (j ∷ js) hi hj r s hr hs e =
      let more_f = index_lines fs primary (n + 1) is in
      let more_g = index_lines gs other (n + 1) js in
      let one = index-tells i j (is_number primary n) (is_number other n) hi.0 hj.0 (more_f ++ r) (more_g ++ s)
      (sym (append_assoc (index_line fs (is_number primary n) i) more_f r) ∙ e ∙ append_assoc (index_line gs (is_number other n) j) more_g s) in
      let more = indexes-tell primary other (n + 1) is js hi.1 hj.1 r s hr hs one.rest in
      record {
        indexes = ap (λ (x : IndexDef). x ∷ map observable_index is) one.index ∙ ap (λ (xs : List IndexDef). observable_index j ∷ xs) more.indexes;
        flags = λ k h. flag primary other n k (length is) one.primary more.flags h;
        rest = more.rest;
      }
    where
      flag : (p q : Option ℕ) (n k m : ℕ) → is_number p n ≡ is_number q n → ((k : ℕ) → k < m → is_number p (n + 1 + k) ≡ is_number q (n + 1 + k)) → k < suc m → is_number p (n + k) ≡ is_number q (n + k)
      flag p q n zero m one more h = ap (is_number p) (add-zero n) ∙ one ∙ ap (is_number q) (sym (add-zero n))
      flag p q n (suc k) m one more h =
          let same : n + suc k ≡ n + 1 + k = omega arith in
          ap (is_number p) same ∙ more k (omega arith) ∙ ap (is_number q) (sym same)

primary-told : (p q : Option ℕ) (m n : ℕ) → m ≡ n → IfSome p (λ k. k < m) → IfSome q (λ k. k < n) → ((k : ℕ) → k < m → is_number p (0 + k) ≡ is_number q (0 + k)) → p ≡ q
primary-told None None m n same hp hq flags = refl
primary-told None (Some j) m n same hp hq flags = absurd (none_is j (flags j (omega arith)))
  where
    none_is : (j : ℕ) → false ≡ (j == 0 + j) → ⊥
    none_is j e = grind (arith, nat_tests)
primary-told (Some k) None m n same hp hq flags = absurd (none_is k (flags k hp))
  where
    none_is : (k : ℕ) → (k == 0 + k) ≡ false → ⊥
    none_is k e = grind (arith, nat_tests)
primary-told (Some k) (Some j) m n same hp hq flags =
    let here : (k == k) ≡ (j == k) = ap (is_number (Some k)) (sym (zero-add k)) ∙ flags k hp ∙ ap (is_number (Some j)) (zero-add k) in
    ap Some (sym (eqb-true j k (sym here ∙ eq-eqb k k refl)))

-- ---- tables

abbrev pub told_table : TableDef → TableDef
told_table t = record { name = folded t.name; fields = map observable_field t.fields; indexes = map observable_index t.indexes; primary = t.primary }

abbrev pub table_as : List ℕ → List FieldDef → List IndexDef → Option ℕ → TableDef
table_as name fields indexes primary = record { name = name; fields = fields; indexes = indexes; primary = primary }

nest_table : (p n f i r : List ℕ) → p ++ n ++ 10 ∷ f ++ i ++ r ≡ p ++ (n ++ 10 ∷ (f ++ (i ++ r)))
nest_table p n f i r =
    append_assoc (p ++ n ++ 10 ∷ f) i r ∙ append_assoc (p ++ n) (10 ∷ f) (i ++ r) ∙ append_assoc p n (10 ∷ (f ++ (i ++ r)))

pub record TableTold (t u : TableDef) (r s : List ℕ) : Type 0 where
  pub table : told_table t ≡ told_table u
  pub rest : r ≡ s

-- no line of a field or an index begins here
pub record IsPast (r : List ℕ) : Type 0 where
  pub fields : first r ≢ 70
  pub indexes : first r ≢ 73

no_field_line : (fields : List FieldDef) (primary : Option ℕ) (is : List IndexDef) (r : List ℕ) → first r ≢ 70 → first (index_lines fields primary 0 is ++ r) ≢ 70
no_field_line fields primary [] r h = h
no_field_line fields primary (i ∷ is) r h = λ e. omega (arith, e)

pub table-tells : (t u : TableDef) → IsSoundTable t → IsSoundTable u → (r s : List ℕ) → IsPast r → IsPast s → table_lines t ++ r ≡ table_lines u ++ s → TableTold t u r s
table-tells t u ht hu r s hr hs e =
    let indexes_t = index_lines t.fields t.primary 0 t.indexes ++ r in
    let indexes_u = index_lines u.fields u.primary 0 u.indexes ++ s in
    let fields_t = flat_map field_line t.fields ++ indexes_t in
    let fields_u = flat_map field_line u.fields ++ indexes_u in
    let name_t = folded t.name ++ 10 ∷ fields_t in
    let name_u = folded u.name ++ 10 ∷ fields_u in
    let left = nest_table (codes "T ") (folded t.name) (flat_map field_line t.fields) (index_lines t.fields t.primary 0 t.indexes) r in
    let right = nest_table (codes "T ") (folded u.name) (flat_map field_line u.fields) (index_lines u.fields u.primary 0 u.indexes) s in
    let fields_sound = λ (x : TableDef) (h : IsSoundTable x). recursion_from_All IsSoundField x.fields h.fields in
    let indexes_sound = λ (x : TableDef) (h : IsSoundTable x). recursion_from_All (IsSoundIndex (length x.fields)) x.indexes h.indexes in
    let named = tails 32 32 name_t name_u (tails 84 84 (32 ∷ name_t) (32 ∷ name_u) (sym left ∙ e ∙ right)) in
    let names = cut (folded t.name) (folded u.name) 10 10 fields_t fields_u (is_name-plain t.name ht.name) (is_name-plain u.name hu.name) (omega arith) (omega arith) named in
    let fields = fields-tell t.fields u.fields (fields_sound t ht) (fields_sound u hu) indexes_t indexes_u (no_field_line t.fields t.primary t.indexes r hr.fields) (no_field_line u.fields u.primary u.indexes s hs.fields) names.rests in
    let indexes = indexes-tell t.fields u.fields fields.fields (fields_sound t ht) (fields_sound u hu) ht.apart t.primary u.primary 0 t.indexes u.indexes (indexes_sound t ht) (indexes_sound u hu) r s hr.indexes hs.indexes fields.rest in
    let many : length t.indexes ≡ length u.indexes = sym (length-map t.indexes observable_index) ∙ ap length indexes.indexes ∙ length-map u.indexes observable_index in
    let primary = primary-told t.primary u.primary (length t.indexes) (length u.indexes) many ht.primary hu.primary indexes.flags in
    record {
      table =
          ap (λ x. table_as x (map observable_field t.fields) (map observable_index t.indexes) t.primary) names.words
          ∙ ap (λ x. table_as (folded u.name) x (map observable_index t.indexes) t.primary) fields.fields
          ∙ ap (λ x. table_as (folded u.name) (map observable_field u.fields) x t.primary) indexes.indexes
          ∙ ap (λ x. table_as (folded u.name) (map observable_field u.fields) (map observable_index u.indexes) x) primary;
      rest = indexes.rest;
    }

-- ---- sequences

abbrev sequence_as : List ℕ → ℤ → ℤ → SequenceDef
sequence_as name initial increment = record { name = name; initial = initial; increment = increment }

nest_sequence : (p n a b r : List ℕ) → p ++ n ++ 32 ∷ a ++ 32 ∷ b ++ 10 ∷ [] ++ r ≡ p ++ (n ++ 32 ∷ (a ++ 32 ∷ (b ++ 10 ∷ r)))
nest_sequence p n a b r =
    append_assoc (p ++ n ++ 32 ∷ a ++ 32 ∷ b) (10 ∷ []) r ∙ append_assoc (p ++ n ++ 32 ∷ a) (32 ∷ b) (10 ∷ r)
    ∙ append_assoc (p ++ n) (32 ∷ a) (32 ∷ (b ++ 10 ∷ r)) ∙ append_assoc p n (32 ∷ (a ++ 32 ∷ (b ++ 10 ∷ r)))

pub record SequenceTold (p q : SequenceDef) (r s : List ℕ) : Type 0 where
  pub told : observable_sequence p ≡ observable_sequence q
  pub rest : r ≡ s

pub sequence-tells : (p q : SequenceDef) → IsSoundSequence p → IsSoundSequence q → (r s : List ℕ) → sequence_line p ++ r ≡ sequence_line q ++ s → SequenceTold p q r s
sequence-tells p q hp hq r s e =
    let from_increment = λ (x : SequenceDef) (t : List ℕ). signed_decimal x.increment ++ 10 ∷ t in
    let from_initial = λ (x : SequenceDef) (t : List ℕ). signed_decimal x.initial ++ 32 ∷ from_increment x t in
    let from_name = λ (x : SequenceDef) (t : List ℕ). folded x.name ++ 32 ∷ from_initial x t in
    let nested = λ (x : SequenceDef) (t : List ℕ). nest_sequence (codes "S ") (folded x.name) (signed_decimal x.initial) (signed_decimal x.increment) t in
    let plain = λ (z : ℤ) (h : fits_bits 63 z ≡ true). marks_are_plain (signed_decimal z) (signed_decimal-marks z h) in
    let named = tails 32 32 (from_name p r) (from_name q s) (tails 83 83 (32 ∷ from_name p r) (32 ∷ from_name q s) (sym (nested p r) ∙ e ∙ nested q s)) in
    let names = cut (folded p.name) (folded q.name) 32 32 (from_initial p r) (from_initial q s) (is_name-plain p.name hp.name) (is_name-plain q.name hq.name) (omega arith) (omega arith) named in
    let initials = cut (signed_decimal p.initial) (signed_decimal q.initial) 32 32 (from_increment p r) (from_increment q s) (plain p.initial hp.initial) (plain q.initial hq.initial) (omega arith) (omega arith) names.rests in
    let increments = cut (signed_decimal p.increment) (signed_decimal q.increment) 10 10 r s (plain p.increment hp.increment) (plain q.increment hq.increment) (omega arith) (omega arith) initials.rests in
    record {
      told =
          ap (λ x. sequence_as x p.initial p.increment) names.words
          ∙ ap (λ x. sequence_as (folded q.name) x p.increment) (signed_decimal-tells p.initial q.initial hp.initial hq.initial initials.words)
          ∙ ap (λ x. sequence_as (folded q.name) q.initial x) (signed_decimal-tells p.increment q.increment hp.increment hq.increment increments.words);
      rest = increments.rests;
    }

-- ---- all of them, one after the other

-- a table or a sequence
abbrev pub Entry : Type 0
Entry = TableDef ⊎ SequenceDef

abbrev pub entry_text : Entry → List ℕ
entry_text (inl t) = table_lines t
entry_text (inr q) = sequence_line q

abbrev pub entry_tables : Entry → List TableDef
entry_tables (inl t) = t ∷ []
entry_tables (inr q) = []

abbrev pub entry_sequences : Entry → List SequenceDef
entry_sequences (inl t) = []
entry_sequences (inr q) = q ∷ []

-- true for a table and false for a sequence
abbrev pub is_table : Entry → Bool
is_table (inl t) = true
is_table (inr q) = false

abbrev pub IsSoundEntry : Entry → Type 0
IsSoundEntry (inl t) = IsSoundTable t
IsSoundEntry (inr q) = IsSoundSequence q

abbrev pub AreSoundEntries : List Entry → Type 0
AreSoundEntries es = AllByRecursion IsSoundEntry es

is_past : (es : List Entry) → IsPast (flat_map entry_text es)
is_past [] = record { fields = λ e. omega (arith, e); indexes = λ e. omega (arith, e) }
is_past (inl t ∷ es) = record { fields = λ e. omega (arith, e); indexes = λ e. omega (arith, e) }
is_past (inr q ∷ es) = record { fields = λ e. omega (arith, e); indexes = λ e. omega (arith, e) }

pub record EntriesTold (es fs : List Entry) : Type 0 where
  pub tables : map told_table (flat_map entry_tables es) ≡ map told_table (flat_map entry_tables fs)
  pub sequences : map observable_sequence (flat_map entry_sequences es) ≡ map observable_sequence (flat_map entry_sequences fs)
  pub order : map is_table es ≡ map is_table fs

pub entries-tell : (es fs : List Entry) → AreSoundEntries es → AreSoundEntries fs → flat_map entry_text es ≡ flat_map entry_text fs → EntriesTold es fs
entries-tell [] [] he hf e = record { tables = refl; sequences = refl; order = refl }
entries-tell [] (inl t ∷ fs) he hf e = absurd (omega (arith, ap first e))
entries-tell [] (inr q ∷ fs) he hf e = absurd (omega (arith, ap first e))
entries-tell (inl t ∷ es) [] he hf e = absurd (omega (arith, ap first e))
entries-tell (inr q ∷ es) [] he hf e = absurd (omega (arith, ap first e))
entries-tell (inl t ∷ es) (inr q ∷ fs) he hf e = absurd (omega (arith, ap first e))
entries-tell (inr q ∷ es) (inl t ∷ fs) he hf e = absurd (omega (arith, ap first e))
entries-tell (inl t ∷ es) (inl u ∷ fs) he hf e =
    let one = table-tells t u he.0 hf.0 (flat_map entry_text es) (flat_map entry_text fs) (is_past es) (is_past fs) e in
    let more = entries-tell es fs he.1 hf.1 one.rest in
    record {
      tables = ap (λ (x : TableDef). x ∷ map told_table (flat_map entry_tables es)) one.table ∙ ap (λ (xs : List TableDef). told_table u ∷ xs) more.tables;
      sequences = more.sequences;
      order = ap (λ (xs : List Bool). true ∷ xs) more.order;
    }
entries-tell (inr p ∷ es) (inr q ∷ fs) he hf e =
    let one = sequence-tells p q he.0 hf.0 (flat_map entry_text es) (flat_map entry_text fs) e in
    let more = entries-tell es fs he.1 hf.1 one.rest in
    record {
      tables = more.tables;
      sequences = ap (λ (x : SequenceDef). x ∷ map observable_sequence (flat_map entry_sequences es)) one.told ∙ ap (λ (xs : List SequenceDef). observable_sequence q ∷ xs) more.sequences;
      order = ap (λ (xs : List Bool). false ∷ xs) more.order;
    }

-- ---- how many there are

pub one_more : (p : Bool → Bool) (b : Bool) (order : List Bool) → count_by p (b ∷ order) ≡ cond (p b) 1 0 + count_by p order
one_more p b order = sum_by-cons (λ c. cond (p c) 1 0) b order
