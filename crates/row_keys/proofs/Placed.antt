-- What moves that are made, or undone, leave at a place.
use Rattle.std.proofs.Common.{◌≡◌, ◌≢◌, ◌⊎◌, ◌↔◌, ℕ, Bool, true, false, cond, List, [], ◌∷◌, Option, Some, None, inl, inr, refl, sym, ap, ◌∙◌, subst}
use Rattle.abl_values.specs.Masks.{same_bytes}
use Rattle.abl_values.specs.Schema.{SchemaData}
use Rattle.database_meaning.specs.declared.state.StoredRow.{StoredRow}
use Rattle.row_indexes.specs.declared.moves.Move.{Move}
use Rattle.row_indexes.specs.Places.{Places, is_place, owner_after, owner_before, undone, with_place}
use Rattle.row_indexes.specs.Making.{made}
use Rattle.row_indexes.proofs.Bytes.{same_bytes_eq, same_bytes_refl}
use Rattle.row_indexes.proofs.PlaceMoves.{IsAt, at_place, is_at, not_placed, placed}
use Rattle.row_keys.specs.Numbers.{number_of}
use Rattle.row_keys.specs.Entries.{AreEntriesAt, entry_key}
use Rattle.row_keys.specs.Moves.{AreApart, AreMovesOf, Gains, HasMove, IsMove}

-- ---- a place among moves

-- where a move enters there, where one leaves, and where none is there
abbrev Outcome : List Move → ℕ → List ℕ → Option (Option ℕ) → Option (Option ℕ) → Option (Option ℕ) → Option (Option ℕ) → Type 0
Outcome moves j key enters leaves before after =
    (HasMove moves true j key × (after ≡ enters)) ⊎ ((HasMove moves false j key × (after ≡ leaves)) ⊎ (((e : Bool) → ¬ HasMove moves e j key) × (after ≡ before)))

is_move : (m : Move) (row j : ℕ) (key : List ℕ) → is_place m row j key row ≡ true → IsMove m m.entered j key
is_move m row j key e = let at : IsAt m row j key row = is_at m row j key row e in record { direction = refl; index = sym at.index; key_is = sym at.key_is }

no_move : (m : Move) (row j : ℕ) (key : List ℕ) → is_place m row j key row ≡ false → (entered : Bool) → ¬ IsMove m entered j key
no_move m row j key e entered is = let clash : true ≡ false = sym (at_place m row j key row (sym is.index) refl (sym is.key_is)) ∙ e in cc

-- moves after one at the place are not there
elsewhere : (m : Move) (later : List Move) (b : Bool) (j : ℕ) (key : List ℕ) → IsMove m b j key → ((e : Bool) → ¬ HasMove later e m.index m.key) → (e : Bool) → ¬ HasMove later e j key
elsewhere m later b j key is never e h =
    never e (subst (λ (i : ℕ). HasMove later e i m.key) (sym is.index) (subst (λ (k : List ℕ). HasMove later e j k) (sym is.key_is) h))

owned : (m : Move) (later : List Move) (j : ℕ) (key : List ℕ) (enters leaves before after : Option (Option ℕ)) (b : Bool) → IsMove m b j key → after ≡ cond b enters leaves → Outcome (m ∷ later) j key enters leaves before after
owned m later j key enters leaves before after true is e = inl (inl is, e)
owned m later j key enters leaves before after false is e = inr (inl (inl is, e))

passed : (m : Move) (later : List Move) (j : ℕ) (key : List ℕ) (enters leaves before after : Option (Option ℕ)) → ((e : Bool) → ¬ IsMove m e j key) → Outcome later j key enters leaves before after → Outcome (m ∷ later) j key enters leaves before after
passed m later j key enters leaves before after never (inl p) = inl (inr p.0, p.1)
passed m later j key enters leaves before after never (inr (inl p)) = inr (inl (inr p.0, p.1))
passed m later j key enters leaves before after never (inr (inr p)) = inr (inr ((λ e h. elim h [ inl x ↦ never e x | inr x ↦ p.0 e x ]), p.1))

unmoved_is : (later : List Move) (j : ℕ) (key : List ℕ) (enters leaves before after : Option (Option ℕ)) → ((e : Bool) → ¬ HasMove later e j key) → Outcome later j key enters leaves before after → after ≡ before
unmoved_is later j key enters leaves before after never (inl p) = absurd (never true p.0)
unmoved_is later j key enters leaves before after never (inr (inl p)) = absurd (never false p.0)
unmoved_is later j key enters leaves before after never (inr (inr p)) = p.1

some_cond : (b : Bool) (x y : Option ℕ) → Some (cond b x y) ≡ cond b (Some x) (Some y)
some_cond true x y = refl
some_cond false x y = refl

-- ---- made

made_step : (client row : ℕ) (m : Move) (later : List Move) (places : Places) (j : ℕ) (key : List ℕ) (after : Option (Option ℕ)) (b : Bool) → is_place m row j key row ≡ b → AreApart (m ∷ later)
    → Outcome later j key (Some None) (Some (Some client)) (with_place places m row (owner_after client m) j key row) after
    → Outcome (m ∷ later) j key (Some None) (Some (Some client)) (places j key row) after
made_step client row m later places j key after true e apart rest =
    let is : IsMove m m.entered j key = is_move m row j key e in
    owned m later j key (Some None) (Some (Some client)) (places j key row) after m.entered is
    (unmoved_is later j key (Some None) (Some (Some client)) (with_place places m row (owner_after client m) j key row) after (elsewhere m later m.entered j key is apart.0) rest
    ∙ (placed places m row (owner_after client m) j key row e ∙ some_cond m.entered None (Some client)))
made_step client row m later places j key after false e apart rest =
    passed m later j key (Some None) (Some (Some client)) (places j key row) after (no_move m row j key e)
    (subst (λ (o : Option (Option ℕ)). Outcome later j key (Some None) (Some (Some client)) o after) (not_placed places m row (owner_after client m) j key row e) rest)

made_at : (client row : ℕ) (moves : List Move) (places : Places) (j : ℕ) (key : List ℕ) → AreApart moves → Outcome moves j key (Some None) (Some (Some client)) (places j key row) (made client row moves places j key row)
made_at client row [] places j key apart = inr (inr ((λ e h. h), refl))
made_at client row (m ∷ later) places j key apart =
    made_step client row m later places j key (made client row later (with_place places m row (owner_after client m)) j key row) (is_place m row j key row) refl apart
    (made_at client row later (with_place places m row (owner_after client m)) j key apart.1)

-- ---- undone

undone_step : (client row : ℕ) (m : Move) (later : List Move) (rest : Places) (j : ℕ) (key : List ℕ) (before : Option (Option ℕ)) (b : Bool) → is_place m row j key row ≡ b
    → Outcome later j key (Some (Some client)) (Some None) before (rest j key row)
    → Outcome (m ∷ later) j key (Some (Some client)) (Some None) before (with_place rest m row (owner_before client m) j key row)
undone_step client row m later rest j key before true e out =
    owned m later j key (Some (Some client)) (Some None) before (with_place rest m row (owner_before client m) j key row) m.entered (is_move m row j key e)
    (placed rest m row (owner_before client m) j key row e ∙ some_cond m.entered (Some client) None)
undone_step client row m later rest j key before false e out =
    passed m later j key (Some (Some client)) (Some None) before (with_place rest m row (owner_before client m) j key row) (no_move m row j key e)
    (subst (λ (o : Option (Option ℕ)). Outcome later j key (Some (Some client)) (Some None) before o) (sym (not_placed rest m row (owner_before client m) j key row e)) out)

undone_at : (client row : ℕ) (moves : List Move) (places : Places) (j : ℕ) (key : List ℕ) → Outcome moves j key (Some (Some client)) (Some None) (places j key row) (undone client row moves places j key row)
undone_at client row [] places j key = inr (inr ((λ e h. h), refl))
undone_at client row (m ∷ later) places j key =
    undone_step client row m later (undone client row later places) j key (places j key row) (is_place m row j key row) refl (undone_at client row later places j key)

-- ---- entries

decided_by : (k key : List ℕ) (b : Bool) → same_bytes k key ≡ b → (Some k ≡ Some key) ⊎ (Some k ≢ Some key)
decided_by k key true e = inl (ap (λ (x : List ℕ). Some x) (same_bytes_eq k key e))
decided_by k key false e =
    inr (λ is. let same : k ≡ key = cc in
    let clash : true ≡ false = sym (ap (λ (x : List ℕ). same_bytes k x) (sym same) ∙ same_bytes_refl k) ∙ e in cc)

pub decided : (o : Option (List ℕ)) (key : List ℕ) → (o ≡ Some key) ⊎ (o ≢ Some key)
decided None key = inr (λ e. cc)
decided (Some k) key = decided_by k key (same_bytes k key) refl

placeholder_is_none : (client : ℕ) → Some (Some client) ≢ Some None
placeholder_is_none client e = cc

entered_entry : (schema : SchemaData) (old new : Option StoredRow) (table : ℕ) (o : Option ℕ) (key : List ℕ) (after : Option (Option ℕ))
    → Gains schema old new table o key → after ≡ Some None → (after ≡ Some None) ↔ (entry_key schema table o new ≡ Some key)
entered_entry schema old new table o key after gains e = ((λ _. gains.0), (λ _. e))

left_entry : (schema : SchemaData) (old new : Option StoredRow) (table : ℕ) (o : Option ℕ) (key : List ℕ) (client : ℕ) (after : Option (Option ℕ))
    → Gains schema new old table o key → after ≡ Some (Some client) → (after ≡ Some None) ↔ (entry_key schema table o new ≡ Some key)
left_entry schema old new table o key client after gains e = ((λ x. absurd (placeholder_is_none client (sym e ∙ x))), (λ x. absurd (gains.1 x)))

stays_entry : (schema : SchemaData) (old new : Option StoredRow) (table : ℕ) (o : Option ℕ) (key : List ℕ) (before after : Option (Option ℕ))
    → (Gains schema old new table o key → ⊥) → (Gains schema new old table o key → ⊥) → after ≡ before
    → (before ≡ Some None) ↔ (entry_key schema table o old ≡ Some key) → (after ≡ Some None) ↔ (entry_key schema table o new ≡ Some key)
stays_entry schema old new table o key before after gained lost e was = (
  λ x. elim (decided (entry_key schema table o new) key) [ inl is ↦ is | inr never ↦ absurd (lost (was.0 (sym e ∙ x), never)) ],
  λ x. e ∙ was.1 (elim (decided (entry_key schema table o old) key) [ inl is ↦ is | inr never ↦ absurd (gained (x, never)) ]),
)

-- the moves make the entries those of the new values
pub made_entries : (schema : SchemaData) (old new : Option StoredRow) (moves : List Move) (client row : ℕ) (places : Places)
    → AreMovesOf schema old new moves → AreEntriesAt schema old places row → AreEntriesAt schema new (made client row moves places) row
made_entries schema old new moves client row places are was table o key ht ho =
    let j = number_of schema table o in
    let after = made client row moves places j key row in
    let enters = are.enters table o key ht ho in
    let leaves = are.leaves table o key ht ho in
    elim (made_at client row moves places j key are.apart) [
      | inl p ↦ entered_entry schema old new table o key after (enters.0 p.0) p.1
      | inr (inl p) ↦ left_entry schema old new table o key client after (leaves.0 p.0) p.1
      | inr (inr p) ↦
          stays_entry schema old new table o key (places j key row) after (λ g. p.0 true (enters.1 g)) (λ g. p.0 false (leaves.1 g)) p.1 (was table o key ht ho)
    ]

-- and undone they make them those of the old values
pub undone_entries : (schema : SchemaData) (old new : Option StoredRow) (moves : List Move) (client row : ℕ) (places : Places)
    → AreMovesOf schema old new moves → AreEntriesAt schema new places row → AreEntriesAt schema old (undone client row moves places) row
undone_entries schema old new moves client row places are was table o key ht ho =
    let j = number_of schema table o in
    let after = undone client row moves places j key row in
    let enters = are.enters table o key ht ho in
    let leaves = are.leaves table o key ht ho in
    elim (undone_at client row moves places j key) [
      | inl p ↦ left_entry schema new old table o key client after (enters.0 p.0) p.1
      | inr (inl p) ↦ entered_entry schema new old table o key after (leaves.0 p.0) p.1
      | inr (inr p) ↦
          stays_entry schema new old table o key (places j key row) after (λ g. p.0 false (leaves.1 g)) (λ g. p.0 true (enters.1 g)) p.1 (was table o key ht ho)
    ]

pub none_is_none : {A : Type 0} (x : A) → None ≡ Some x → ⊥
none_is_none x e = cc

-- where there is nothing, there is no entry of no row
pub no_entries : (schema : SchemaData) (places : Places) (row : ℕ) → ((j : ℕ) (key : List ℕ) → places j key row ≡ None) → AreEntriesAt schema None places row
no_entries schema places row none table o key ht ho = (
  λ e. absurd (none_is_none None (sym (none (number_of schema table o) key) ∙ e)),
  λ e. absurd (none_is_none key e),
)
