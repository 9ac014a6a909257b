-- Who keeps a key after moves.
use Rattle.std.proofs.Common.{◌≡◌, ◌≢◌, ◌⊎◌, ℕ, Bool, true, false, cond, ◌&&◌, ◌||◌, List, [], ◌∷◌, Option, Some, None, inl, inr, refl, sym, ap, ◌∙◌, eqb, eqb-true, eq-eqb}
use Rattle.std.specs.Prelude.{IsTrue}
use Rattle.std.proofs.lemmas.Bool.{and_parts, ne_eqb}
use Rattle.abl_values.specs.Masks.{same_bytes}
use Rattle.abl_values.specs.Schema.{SchemaData}
use Rattle.database_meaning.specs.declared.state.StoredRow.{StoredRow}
use Rattle.database_meaning.specs.declared.state.Key.{Key}
use Rattle.database_meaning.specs.Setting.{HasIndex, HasTable}
use Rattle.row_store.specs.Rows.{is_moved}
use Rattle.key_index.specs.Places.{is_client}
use Rattle.row_indexes.specs.declared.moves.Move.{Move}
use Rattle.row_indexes.specs.Places.{Keepers, Places, owner_after, with_place}
use Rattle.row_indexes.specs.Making.{CanMake, kept_after, with_keeper}
use Rattle.row_indexes.proofs.Bytes.{same_bytes_eq, same_bytes_refl}
use Rattle.row_keys.specs.Numbers.{number_of}
use Rattle.row_keys.specs.Moves.{AreMovesOf, HasUniqueMove}
use Rattle.row_keys.specs.Reserved.{is_in_schema, reserved_at}

-- ---- one move

abbrev is_kept : Move → ℕ → List ℕ → Bool
is_kept m j key = m.unique && ((eqb j m.index) && same_bytes key m.key)

record IsKept (m : Move) (j : ℕ) (key : List ℕ) : Type 0 where
  unique : m.unique ≡ true
  index : j ≡ m.index
  key_is : key ≡ m.key

kept_parts : (m : Move) (j : ℕ) (key : List ℕ) → is_kept m j key ≡ true → IsKept m j key
kept_parts m j key e =
    let p = and_parts m.unique ((eqb j m.index) && same_bytes key m.key) e in
    let q = and_parts (eqb j m.index) (same_bytes key m.key) p.1 in
    record { unique = p.0; index = eqb-true j m.index q.0; key_is = same_bytes_eq key m.key q.1 }

both_true : (a b : Bool) → a ≡ true → b ≡ true → (a && b) ≡ true
both_true true b h k = k
both_true false b h k = h

kept_from : (m : Move) (j : ℕ) (key : List ℕ) → IsTrue m.unique → m.index ≡ j → m.key ≡ key → is_kept m j key ≡ true
kept_from m j key u i k =
    both_true m.unique _ u (both_true (eqb j m.index) _ (eq-eqb j m.index (sym i)) (ap (λ (x : List ℕ). same_bytes x m.key) (sym k) ∙ same_bytes_refl m.key))

-- ---- all moves

abbrev Outcome : List Move → ℕ → List ℕ → Option ℕ → Option ℕ → Option ℕ → Type 0
Outcome moves j key own before after = (HasUniqueMove moves j key × (after ≡ own)) ⊎ ((HasUniqueMove moves j key → ⊥) × (after ≡ before))

kept_step : (m : Move) (later : List Move) (keepers : Keepers) (client j : ℕ) (key : List ℕ) (after : Option ℕ) (b : Bool) → is_kept m j key ≡ b
    → Outcome later j key (Some client) (with_keeper keepers m client j key) after → Outcome (m ∷ later) j key (Some client) (keepers j key) after
kept_step m later keepers client j key after b e (inl p) = inl (inr p.0, p.1)
kept_step m later keepers client j key after true e (inr p) =
    let is = kept_parts m j key e in
    inl (inl (is.unique, sym is.index, sym is.key_is), p.1 ∙ ap (λ (t : Bool). cond t (Some client) (keepers j key)) e)
kept_step m later keepers client j key after false e (inr p) =
    inr (
      (λ h. elim h [
        | inl x ↦ let clash : true ≡ false = sym (kept_from m j key x.0 x.1 x.2) ∙ e in cc
        | inr x ↦ p.0 x
      ]),
      p.1 ∙ ap (λ (t : Bool). cond t (Some client) (keepers j key)) e,
    )

kept_at : (client : ℕ) (moves : List Move) (keepers : Keepers) (j : ℕ) (key : List ℕ) → Outcome moves j key (Some client) (keepers j key) (kept_after client moves keepers j key)
kept_at client [] keepers j key = inr ((λ h. h), refl)
kept_at client (m ∷ later) keepers j key =
    kept_step m later keepers client j key (kept_after client later (with_keeper keepers m client) j key) (is_kept m j key) refl
    (kept_at client later (with_keeper keepers m client) j key)

-- ---- the client's own keys

both : (a b : Bool) → (a ≡ true → b ≡ true) → (b ≡ true → a ≡ true) → a ≡ b
both true true f g = refl
both true false f g = let clash : false ≡ true = f refl in cc
both false true f g = g refl
both false false f g = refl

or_true_left : (a b : Bool) → a ≡ true → (a || b) ≡ true
or_true_left true b e = refl
or_true_left false b e = cc

or_false_left : (a b : Bool) → a ≡ false → (a || b) ≡ b
or_false_left true b e = cc
or_false_left false b e = refl

pub not_true : (b : Bool) → (b ≡ true → ⊥) → b ≡ false
not_true true never = absurd (never refl)
not_true false never = refl

own_key : (client : ℕ) (keeper : Option ℕ) → keeper ≡ Some client → is_client client keeper ≡ true
own_key client keeper e = ap (is_client client) e ∙ eq-eqb client client refl

-- in the schema
pub reserves_in : (schema : SchemaData) (old new : Option StoredRow) (moves : List Move) (client : ℕ) (keepers : Keepers) (k : Key) → AreMovesOf schema old new moves
    → HasTable schema k.table → HasIndex schema k.table k.index
    → is_client client (kept_after client moves keepers (number_of schema k.table (Some k.index)) k.bytes) ≡ (is_moved schema old new k || is_client client (keepers (number_of schema k.table (Some k.index)) k.bytes))
reserves_in schema old new moves client keepers k are ht hi =
    let j = number_of schema k.table (Some k.index) in
    let unique = are.unique k ht hi in
    elim (kept_at client moves keepers j k.bytes) [
      | inl p ↦ own_key client (kept_after client moves keepers j k.bytes) p.1 ∙ sym (or_true_left (is_moved schema old new k) (is_client client (keepers j k.bytes)) (unique.0 p.0))
      | inr p ↦
          ap (is_client client) p.1
          ∙ sym (or_false_left (is_moved schema old new k) (is_client client (keepers j k.bytes)) (not_true (is_moved schema old new k) (λ e. p.0 (unique.1 e))))
    ]

-- ---- the keys of others

other_step : (m : Move) (keepers : Keepers) (client d j : ℕ) (key : List ℕ) (b : Bool) → is_kept m j key ≡ b → d ≢ client
    → (IsTrue m.unique → (other : ℕ) → keepers m.index m.key ≡ Some other → other ≡ client)
    → is_client d (with_keeper keepers m client j key) ≡ is_client d (keepers j key)
other_step m keepers client d j key false e ne free = ap (λ (t : Bool). is_client d (cond t (Some client) (keepers j key))) e
other_step m keepers client d j key true e ne free =
    let is = kept_parts m j key e in
    ap (λ (t : Bool). is_client d (cond t (Some client) (keepers j key))) e
    ∙ (ne_eqb client d (λ same. ne (sym same))
    ∙ sym (none_of (keepers j key) (λ other there. free is.unique other (sym (ap (λ (i : ℕ). keepers i key) is.index ∙ ap (keepers m.index) is.key_is) ∙ there))))
  where
    none_of : (keeper : Option ℕ) → ((other : ℕ) → keeper ≡ Some other → other ≡ client) → is_client d keeper ≡ false
    none_of None own = refl
    none_of (Some other) own = ne_eqb other d (λ same. ne (sym same ∙ own other refl))

kept_other : (client row d : ℕ) (moves : List Move) (places : Places) (keepers : Keepers) (j : ℕ) (key : List ℕ) → d ≢ client → CanMake client row moves places keepers
    → is_client d (kept_after client moves keepers j key) ≡ is_client d (keepers j key)
kept_other client row d [] places keepers j key ne can = refl
kept_other client row d (m ∷ later) places keepers j key ne can =
    kept_other client row d later (with_place places m row (owner_after client m)) (with_keeper keepers m client) j key ne can.1
    ∙ other_step m keepers client d j key (is_kept m j key) refl ne can.0.unkept

pub reserves_for_others : (schema : SchemaData) (moves : List Move) (client row d : ℕ) (places : Places) (keepers : Keepers) → d ≢ client → CanMake client row moves places keepers
    → reserved_at schema (kept_after client moves keepers) d ≡ reserved_at schema keepers d
reserves_for_others schema moves client row d places keepers ne can =
    λ i k. (ap (λ (b : Bool). is_in_schema schema k && b) (kept_other client row d moves places keepers (number_of schema k.table (Some k.index)) k.bytes ne can)) i

-- ---- no keeper

and_false : (b : Bool) → (b && false) ≡ false
and_false true = refl
and_false false = refl

keeps_none : (client : ℕ) (keeper : Option ℕ) → keeper ≢ Some client → is_client client keeper ≡ false
keeps_none client None ne = refl
keeps_none client (Some other) ne = ne_eqb other client (λ e. ne (ap (λ (n : ℕ). Some n) e))

pub reserved_none : (schema : SchemaData) (keepers : Keepers) (client : ℕ) → ((j : ℕ) (key : List ℕ) → keepers j key ≢ Some client) → reserved_at schema keepers client ≡ (λ key. false)
reserved_none schema keepers client none =
    λ i k. (ap (λ (b : Bool). is_in_schema schema k && b) (keeps_none client (keepers (number_of schema k.table (Some k.index)) k.bytes) (none (number_of schema k.table (Some k.index)) k.bytes)) ∙ and_false (is_in_schema schema k)) i
