-- One more table or sequence of a schema is read.
use Rattle.std.proofs.Common.{◌≡◌, ◌≤◌, ◌<◌, ℕ, ◌+◌, Bool, true, false, not, cond, List, [], ◌∷◌, ◌++◌, length, map, None, refl, sym, ap, ◌∙◌, arith, append_assoc, append-nil, length-append, true≢false}
use Rattle.std.specs.Prelude.{count_by}
use Rattle.std.proofs.lemmas.Bool.{both_ways}
use Rattle.std.proofs.lemmas.List.Sums.{sum_by-cons}
use Rattle.std.proofs.lemmas.List.Elements.{All-nil, All-push}
use Rattle.abl_base.specs.declared.limits.TheConstants.{MAX_FIELDS, MAX_SEQUENCES, MAX_TABLES}
use Rattle.abl_values.specs.declared.schema.TableDef.{TableDef}
use Rattle.abl_values.specs.declared.schema.SequenceDef.{SequenceDef}
use Rattle.abl_values.specs.Schema.{SchemaData, canonical_text, lines_in_order, number_of_name, sequence_line, table_lines}
use Rattle.abl_values.specs.Sound.{IsSound, IsSoundSequence, IsSoundTable}
use Rattle.schema_text.specs.Entries.{IsBegun, data_of}
use Rattle.schema_text.specs.Words.{begins}
use Rattle.schema_text.specs.Written.{IsHeld, IsHeldTable, IsWritten}
use Rattle.schema_text.specs.declared.entries.Entries.{Entries}
use Rattle.schema_text.proofs.Names.{apart_push, next_free}
use Rattle.schema_text.proofs.Told.{schema_as}

-- how many of one more pass
one_more : (p : Bool → Bool) (b : Bool) (order : List Bool) → count_by p (b ∷ order) ≡ cond (p b) 1 0 + count_by p order
one_more p b order = sum_by-cons (λ c. cond (p c) 1 0) b order

-- ---- what comes next

pub record NextTable (s : SchemaData) (e : Entries) (text : List ℕ) : Type 0 where
  pub table : TableDef
  pub tables : List TableDef
  pub sequences : List SequenceDef
  pub order : List Bool
  pub all_tables : s.tables ≡ e.tables ++ table ∷ tables
  pub all_sequences : s.sequences ≡ e.sequences ++ sequences
  pub all_order : s.order ≡ e.order ++ true ∷ order
  pub table_places : count_by (λ b. b) order ≡ length tables
  pub sequence_places : count_by not order ≡ length sequences
  pub others : text ≡ table_lines table ++ lines_in_order order tables sequences

pub record NextSequence (s : SchemaData) (e : Entries) (text : List ℕ) : Type 0 where
  pub sequence : SequenceDef
  pub tables : List TableDef
  pub sequences : List SequenceDef
  pub order : List Bool
  pub all_tables : s.tables ≡ e.tables ++ tables
  pub all_sequences : s.sequences ≡ e.sequences ++ sequence ∷ sequences
  pub all_order : s.order ≡ e.order ++ false ∷ order
  pub table_places : count_by (λ b. b) order ≡ length tables
  pub sequence_places : count_by not order ≡ length sequences
  pub others : text ≡ sequence_line sequence ++ lines_in_order order tables sequences

module _ (s : SchemaData) (e : Entries) (text : List ℕ) where
  table_of : (order : List Bool) (ts : List TableDef) (qs : List SequenceDef) → s.tables ≡ e.tables ++ ts → s.sequences ≡ e.sequences ++ qs → s.order ≡ e.order ++ order → count_by (λ b. b) order ≡ length ts → count_by not order ≡ length qs
      → text ≡ lines_in_order order ts qs → begins 84 text ≡ true → NextTable s e text
  unfolding lines_in_order
  table_of [] ts qs ht hq ho ct cq h b = absurd (both_ways (begins 84 text) (ap (begins 84) h) b)
  table_of (true ∷ order) [] qs ht hq ho ct cq h b = absurd (omega (arith, one_more (λ b. b) true order))
  table_of (true ∷ order) (t ∷ ts) qs ht hq ho ct cq h b =
      record { table = t; tables = ts; sequences = qs; order = order; all_tables = ht; all_sequences = hq; all_order = ho; table_places = omega (arith, one_more (λ b. b) true order); sequence_places = omega (arith, one_more not true order); others = h }
  table_of (false ∷ order) ts [] ht hq ho ct cq h b = absurd (omega (arith, one_more not false order))
  table_of (false ∷ order) ts (q ∷ qs) ht hq ho ct cq h b = absurd (both_ways (begins 84 text) (ap (begins 84) h) b)

  sequence_of : (order : List Bool) (ts : List TableDef) (qs : List SequenceDef) → s.tables ≡ e.tables ++ ts → s.sequences ≡ e.sequences ++ qs → s.order ≡ e.order ++ order → count_by (λ b. b) order ≡ length ts → count_by not order ≡ length qs
      → text ≡ lines_in_order order ts qs → begins 83 text ≡ true → NextSequence s e text
  unfolding lines_in_order
  sequence_of [] ts qs ht hq ho ct cq h b = absurd (both_ways (begins 83 text) (ap (begins 83) h) b)
  sequence_of (true ∷ order) [] qs ht hq ho ct cq h b = absurd (omega (arith, one_more (λ b. b) true order))
  sequence_of (true ∷ order) (t ∷ ts) qs ht hq ho ct cq h b = absurd (both_ways (begins 83 text) (ap (begins 83) h) b)
  sequence_of (false ∷ order) ts [] ht hq ho ct cq h b = absurd (omega (arith, one_more not false order))
  sequence_of (false ∷ order) ts (q ∷ qs) ht hq ho ct cq h b =
      record { sequence = q; tables = ts; sequences = qs; order = order; all_tables = ht; all_sequences = hq; all_order = ho; table_places = omega (arith, one_more (λ b. b) false order); sequence_places = omega (arith, one_more not false order); others = h }

  pub next_table : IsBegun s e text → begins 84 text ≡ true → NextTable s e text
  next_table c b = table_of c.order c.tables c.sequences c.all_tables c.all_sequences c.all_order c.table_places c.sequence_places c.others b

  pub next_sequence : IsBegun s e text → begins 83 text ≡ true → NextSequence s e text
  next_sequence c b = sequence_of c.order c.tables c.sequences c.all_tables c.all_sequences c.all_order c.table_places c.sequence_places c.others b

-- no line of a field or an index begins where the next item does
pub is_past : (byte : ℕ) (order : List Bool) (ts : List TableDef) (qs : List SequenceDef) → begins byte (84 ∷ []) ≡ false → begins byte (83 ∷ []) ≡ false → begins byte (lines_in_order order ts qs) ≡ false
unfolding lines_in_order
is_past byte [] ts qs ht hq = refl
is_past byte (true ∷ order) [] qs ht hq = is_past byte order [] qs ht hq
is_past byte (true ∷ order) (t ∷ ts) qs ht hq = ht
is_past byte (false ∷ order) ts [] ht hq = is_past byte order ts [] ht hq
is_past byte (false ∷ order) ts (q ∷ qs) ht hq = hq

pub after_table : (s : SchemaData) (e f : Entries) (text rest : List ℕ) (n : NextTable s e text) (t : TableDef) → t ≡ n.table → f.tables ≡ e.tables ++ t ∷ [] → f.sequences ≡ e.sequences → f.order ≡ e.order ++ true ∷ [] → rest ≡ lines_in_order n.order n.tables n.sequences → IsBegun s f rest
after_table s e f text rest n t same ht hq ho h = record {
  tables = n.tables;
  sequences = n.sequences;
  order = n.order;
  all_tables = n.all_tables ∙ ap (λ (u : TableDef). e.tables ++ u ∷ n.tables) (sym same) ∙ sym (append_assoc e.tables (t ∷ []) n.tables) ∙ ap (λ (us : List TableDef). us ++ n.tables) (sym ht);
  all_sequences = n.all_sequences ∙ ap (λ (us : List SequenceDef). us ++ n.sequences) (sym hq);
  all_order = n.all_order ∙ sym (append_assoc e.order (true ∷ []) n.order) ∙ ap (λ (us : List Bool). us ++ n.order) (sym ho);
  table_places = n.table_places;
  sequence_places = n.sequence_places;
  others = h;
}

pub after_sequence : (s : SchemaData) (e f : Entries) (text rest : List ℕ) (n : NextSequence s e text) (q : SequenceDef) → q ≡ n.sequence → f.tables ≡ e.tables → f.sequences ≡ e.sequences ++ q ∷ [] → f.order ≡ e.order ++ false ∷ [] → rest ≡ lines_in_order n.order n.tables n.sequences → IsBegun s f rest
after_sequence s e f text rest n q same ht hq ho h = record {
  tables = n.tables;
  sequences = n.sequences;
  order = n.order;
  all_tables = n.all_tables ∙ ap (λ (us : List TableDef). us ++ n.tables) (sym ht);
  all_sequences = n.all_sequences ∙ ap (λ (u : SequenceDef). e.sequences ++ u ∷ n.sequences) (sym same) ∙ sym (append_assoc e.sequences (q ∷ []) n.sequences) ∙ ap (λ (us : List SequenceDef). us ++ n.sequences) (sym hq);
  all_order = n.all_order ∙ sym (append_assoc e.order (false ∷ []) n.order) ∙ ap (λ (us : List Bool). us ++ n.order) (sym ho);
  table_places = n.table_places;
  sequence_places = n.sequence_places;
  others = h;
}

-- ---- the beginning and the end

pub begun_first : (s : SchemaData) (e : Entries) (text : List ℕ) → IsSound s → e.tables ≡ [] → e.sequences ≡ [] → e.order ≡ [] → text ≡ canonical_text s → IsBegun s e text
unfolding canonical_text
begun_first s e text h ht hq ho same = record {
  tables = s.tables;
  sequences = s.sequences;
  order = s.order;
  all_tables = ap (λ (us : List TableDef). us ++ s.tables) (sym ht);
  all_sequences = ap (λ (us : List SequenceDef). us ++ s.sequences) (sym hq);
  all_order = ap (λ (us : List Bool). us ++ s.order) (sym ho);
  table_places = h.table_places;
  sequence_places = h.sequence_places;
  others = same;
}

no_table_left : (ts : List TableDef) → length ts ≡ 0 → ts ≡ []
no_table_left [] h = refl
no_table_left (t ∷ ts) h = absurd (omega arith)

no_sequence_left : (qs : List SequenceDef) → length qs ≡ 0 → qs ≡ []
no_sequence_left [] h = refl
no_sequence_left (q ∷ qs) h = absurd (omega arith)

no_order_left : (order : List Bool) (ts : List TableDef) (qs : List SequenceDef) → count_by (λ b. b) order ≡ length ts → count_by not order ≡ length qs → lines_in_order order ts qs ≡ [] → order ≡ []
unfolding lines_in_order
no_order_left [] ts qs ct cq h = refl
no_order_left (true ∷ order) [] qs ct cq h = absurd (omega (arith, one_more (λ b. b) true order))
no_order_left (true ∷ order) (t ∷ ts) qs ct cq h = absurd (true≢false (ap (begins 84) h))
no_order_left (false ∷ order) ts [] ct cq h = absurd (omega (arith, one_more not false order))
no_order_left (false ∷ order) ts (q ∷ qs) ct cq h = absurd (true≢false (ap (begins 83) h))

pub begun_last : (s : SchemaData) (e : Entries) → IsBegun s e [] → data_of e ≡ s
begun_last s e c =
    let order : c.order ≡ [] = no_order_left c.order c.tables c.sequences c.table_places c.sequence_places (sym c.others) in
    let tables : c.tables ≡ [] = no_table_left c.tables (sym c.table_places ∙ ap (count_by (λ b. b)) order) in
    let sequences : c.sequences ≡ [] = no_sequence_left c.sequences (sym c.sequence_places ∙ ap (count_by not) order) in
    sym
    (ap (λ ts. schema_as ts s.sequences s.order) (c.all_tables ∙ ap (λ (us : List TableDef). e.tables ++ us) tables ∙ append-nil e.tables)
    ∙ ap (λ qs. schema_as e.tables qs s.order) (c.all_sequences ∙ ap (λ (us : List SequenceDef). e.sequences ++ us) sequences ∙ append-nil e.sequences)
    ∙ ap (λ os. schema_as e.tables e.sequences os) (c.all_order ∙ ap (λ (us : List Bool). e.order ++ us) order ∙ append-nil e.order))

-- the first byte of what is left
first_of : (order : List Bool) (ts : List TableDef) (qs : List SequenceDef) (b : ℕ) (bs : List ℕ) → count_by (λ x. x) order ≡ length ts → count_by not order ≡ length qs → b ∷ bs ≡ lines_in_order order ts qs → begins 84 (b ∷ bs) ≡ false → begins 83 (b ∷ bs) ≡ true
unfolding lines_in_order
first_of [] ts qs b bs ct cq e h = cc
first_of (true ∷ order) [] qs b bs ct cq e h = absurd (omega (arith, one_more (λ x. x) true order))
first_of (true ∷ order) (t ∷ ts) qs b bs ct cq e h = absurd (both_ways (begins 84 (b ∷ bs)) h (ap (begins 84) e))
first_of (false ∷ order) ts [] b bs ct cq e h = absurd (omega (arith, one_more not false order))
first_of (false ∷ order) ts (q ∷ qs) b bs ct cq e h = ap (begins 83) e

pub begins_item : (s : SchemaData) (e : Entries) (b : ℕ) (bs : List ℕ) → IsBegun s e (b ∷ bs) → begins 84 (b ∷ bs) ≡ false → begins 83 (b ∷ bs) ≡ true
begins_item s e b bs c h = first_of c.order c.tables c.sequences b bs c.table_places c.sequence_places c.others h

-- ---- what is read stays sound

one_longer : {X : Type 0} (xs : List X) (x : X) → length (xs ++ x ∷ []) ≡ length xs + 1
one_longer xs x = omega (arith, length-append xs (x ∷ []))

counted : (p : Bool → Bool) (order : List Bool) (b : Bool) → count_by p (order ++ b ∷ []) ≡ count_by p order + cond (p b) 1 0
counted p [] b = omega (arith, one_more p b [])
counted p (o ∷ order) b = omega (arith, one_more p o (order ++ b ∷ []), one_more p o order, counted p order b)

abbrev HasFew : TableDef → Type 0
HasFew t = length t.fields ≤ MAX_FIELDS

pub sound_table : (ts : List TableDef) (qs : List SequenceDef) (order : List Bool) (t : TableDef) → IsSound (schema_as ts qs order) → IsSoundTable t → length t.fields ≤ MAX_FIELDS → length ts < MAX_TABLES → IsSound (schema_as (ts ++ t ∷ []) qs (order ++ true ∷ []))
sound_table ts qs order t h sound few low = record {
  limits = (omega (arith, one_longer ts t), All-push HasFew ts t h.limits.1 few);
  tables = All-push IsSoundTable ts t h.tables sound;
  sequences = h.sequences;
  table_places = omega (arith, counted (λ b. b) order true, one_longer ts t, h.table_places);
  sequence_places = omega (arith, counted not order true, h.sequence_places);
}

pub sound_sequence : (ts : List TableDef) (qs : List SequenceDef) (order : List Bool) (q : SequenceDef) → IsSound (schema_as ts qs order) → IsSoundSequence q → IsSound (schema_as ts (qs ++ q ∷ []) (order ++ false ∷ []))
sound_sequence ts qs order q h sound = record {
  limits = h.limits;
  tables = h.tables;
  sequences = All-push IsSoundSequence qs q h.sequences sound;
  table_places = omega (arith, counted (λ b. b) order false, h.table_places);
  sequence_places = omega (arith, counted not order false, one_longer qs q, h.sequence_places);
}

-- the tables and sequences after one more
pub one_table_more : (e f : Entries) (t : TableDef) → f.tables ≡ e.tables ++ t ∷ [] → f.sequences ≡ e.sequences → f.order ≡ e.order ++ true ∷ [] → data_of f ≡ schema_as (e.tables ++ t ∷ []) e.sequences (e.order ++ true ∷ [])
one_table_more e f t ht hq ho =
    ap (λ ts. schema_as ts f.sequences f.order) ht ∙ ap (λ qs. schema_as (e.tables ++ t ∷ []) qs f.order) hq ∙ ap (λ os. schema_as (e.tables ++ t ∷ []) e.sequences os) ho

pub one_sequence_more : (e f : Entries) (q : SequenceDef) → f.tables ≡ e.tables → f.sequences ≡ e.sequences ++ q ∷ [] → f.order ≡ e.order ++ false ∷ [] → data_of f ≡ schema_as e.tables (e.sequences ++ q ∷ []) (e.order ++ false ∷ [])
one_sequence_more e f q ht hq ho =
    ap (λ ts. schema_as ts f.sequences f.order) ht ∙ ap (λ qs. schema_as e.tables qs f.order) hq ∙ ap (λ os. schema_as e.tables (e.sequences ++ q ∷ []) os) ho

pub sound_none : IsSound (schema_as [] [] [])
sound_none = record {
  limits = (omega arith, All-nil HasFew);
  tables = All-nil IsSoundTable;
  sequences = All-nil IsSoundSequence;
  table_places = refl;
  sequence_places = refl;
}

-- ---- and a `Schema` holds it

pub held_table : (ts : List TableDef) (qs : List SequenceDef) (order : List Bool) (t : TableDef) → IsHeld (schema_as ts qs order) → IsHeldTable t → number_of_name 0 (map (λ t. t.name) ts) t.name ≡ None → IsHeld (schema_as (ts ++ t ∷ []) qs (order ++ true ∷ []))
held_table ts qs order t h held free = record {
  tables = apart_push (λ (u : TableDef). u.name) ts t h.tables free;
  sequences = h.sequences;
  few = h.few;
  indexes = All-push IsHeldTable ts t h.indexes held;
}

pub held_sequence : (ts : List TableDef) (qs : List SequenceDef) (order : List Bool) (q : SequenceDef) → IsHeld (schema_as ts qs order) → number_of_name 0 (map (λ q. q.name) qs) q.name ≡ None → length qs < MAX_SEQUENCES → IsHeld (schema_as ts (qs ++ q ∷ []) (order ++ false ∷ []))
held_sequence ts qs order q h free low = record {
  tables = h.tables;
  sequences = apart_push (λ (p : SequenceDef). p.name) qs q h.sequences free;
  few = omega (arith, low, one_longer qs q);
  indexes = h.indexes;
}

pub held_none : IsHeld (schema_as [] [] [])
held_none = record { tables = refl; sequences = refl; few = omega arith; indexes = All-nil IsHeldTable }

-- ---- what is known of the next one

pub tables_few : (s : SchemaData) (e : Entries) (text : List ℕ) → IsWritten s → NextTable s e text → length e.tables < MAX_TABLES
tables_few s e text w n =
    let all : length s.tables ≡ length (e.tables ++ n.table ∷ n.tables) = ap length n.all_tables in
    omega (arith, all, length-append e.tables (n.table ∷ n.tables), w.sound.limits.0)

pub sequences_few : (s : SchemaData) (e : Entries) (text : List ℕ) → IsWritten s → NextSequence s e text → length e.sequences < MAX_SEQUENCES
sequences_few s e text w n =
    let all : length s.sequences ≡ length (e.sequences ++ n.sequence ∷ n.sequences) = ap length n.all_sequences in
    omega (arith, all, length-append e.sequences (n.sequence ∷ n.sequences), w.held.few)

pub table_free : (s : SchemaData) (e : Entries) (text : List ℕ) → IsWritten s → (n : NextTable s e text) → number_of_name 0 (map (λ t. t.name) e.tables) n.table.name ≡ None
table_free s e text w n = next_free (λ t. t.name) s.tables e.tables n.table n.tables w.held.tables n.all_tables

pub sequence_free : (s : SchemaData) (e : Entries) (text : List ℕ) → IsWritten s → (n : NextSequence s e text) → number_of_name 0 (map (λ q. q.name) e.sequences) n.sequence.name ≡ None
sequence_free s e text w n = next_free (λ q. q.name) s.sequences e.sequences n.sequence n.sequences w.held.sequences n.all_sequences
