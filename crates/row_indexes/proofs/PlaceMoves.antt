-- One move in several indexes, in terms of their places.
use Rattle.std.proofs.Common.{◌≡◌, ◌≢◌, ◌⊎◌, ℕ, ◌<◌, Bool, true, false, cond, ◌&&◌, List, length, slice_set, Option, Some, inl, inr, refl, sym, ap, ◌∙◌, eqb, eqb-true, eq-eqb, subst}
use Rattle.std.specs.Prelude.{IsTrue}
use Rattle.std.proofs.lemmas.Bool.{cases_eq, ne_eqb}
use Rattle.std.specs.FinMap as map
use Rattle.std.proofs.lemmas.List.{get_or-set_other}
use Rattle.std.proofs.lemmas.Grind.{get_or-set_at}
use Rattle.std.proofs.lemmas.Bool.{and_parts}
use Rattle.abl_values.specs.Masks.{same_bytes}
use Rattle.key_index.specs.Index.{Keys, Puts, keeper_of, place_at}
use Rattle.row_indexes.specs.declared.moves.Move.{Move}
use Rattle.row_indexes.specs.Places.{Places, index_at, places_of, keepers_of, is_place, with_place}
use Rattle.row_indexes.specs.Making.{with_keeper}
use Rattle.row_indexes.proofs.Bytes.{same_bytes_eq, same_bytes_refl}

and_true : (a b : Bool) → a ≡ true → b ≡ true → (a && b) ≡ true
and_true true b h k = k
and_true false b h k = h

and_left : (a b : Bool) → a ≡ false → (a && b) ≡ false
and_left true b h = cc
and_left false b h = refl

and_right : (a b : Bool) → b ≡ false → (a && b) ≡ false
and_right true b h = h
and_right false b h = refl

pub at_place : (m : Move) (row j : ℕ) (key : List ℕ) (at : ℕ) → j ≡ m.index → at ≡ row → key ≡ m.key → is_place m row j key at ≡ true
at_place m row j key at ej ea ek =
    and_true (eqb j m.index) _ (eq-eqb j m.index ej) (and_true (eqb at row) (same_bytes key m.key) (eq-eqb at row ea) (ap (λ (k : List ℕ). same_bytes k m.key) ek ∙ same_bytes_refl m.key))

pub record IsAt (m : Move) (row j : ℕ) (key : List ℕ) (at : ℕ) : Type 0 where
  pub index : j ≡ m.index
  pub row_is : at ≡ row
  pub key_is : key ≡ m.key

pub is_at : (m : Move) (row j : ℕ) (key : List ℕ) (at : ℕ) → is_place m row j key at ≡ true → IsAt m row j key at
is_at m row j key at e =
    let p = and_parts (eqb j m.index) ((eqb at row) && same_bytes key m.key) e in
    let q = and_parts (eqb at row) (same_bytes key m.key) p.1 in
    record { index = eqb-true j m.index p.0; row_is = eqb-true at row q.0; key_is = same_bytes_eq key m.key q.1 }

pub placed : (places : Places) (m : Move) (row : ℕ) (owner : Option ℕ) (j : ℕ) (key : List ℕ) (at : ℕ) → is_place m row j key at ≡ true → with_place places m row owner j key at ≡ Some owner
placed places m row owner j key at e = ap (λ (b : Bool). cond b (Some owner) (places j key at)) e

pub not_placed : (places : Places) (m : Move) (row : ℕ) (owner : Option ℕ) (j : ℕ) (key : List ℕ) (at : ℕ) → is_place m row j key at ≡ false → with_place places m row owner j key at ≡ places j key at
not_placed places m row owner j key at e = ap (λ (b : Bool). cond b (Some owner) (places j key at)) e

module _ (indexes : List Keys) (m : Move) (row client : ℕ) (owner : Option ℕ) (new : Keys) (within : m.index < length indexes) (puts : Puts (index_at indexes m.index) client m.key row m.unique owner new) where
  abbrev changed : List Keys
  changed = slice_set indexes m.index new

  here : (j : ℕ) → j ≡ m.index → index_at changed j ≡ new
  here j e = get_or-set_at indexes m.index j new map.empty e within

  elsewhere : (j : ℕ) → j ≢ m.index → index_at changed j ≡ index_at indexes j
  elsewhere j ne = get_or-set_other indexes m.index j new map.empty ne

  other_row : (key : List ℕ) (at : ℕ) (b : Bool) → same_bytes key m.key ≡ b → at ≢ row → place_at new key at ≡ place_at (index_at indexes m.index) key at
  other_row key at true e ne = let is : key ≡ m.key = same_bytes_eq key m.key e in subst (λ (k : List ℕ). place_at new k at ≡ place_at (index_at indexes m.index) k at) (sym is) (puts.rows at ne)
  other_row key at false e ne = puts.places key at (λ is. let clash : true ≡ false = sym (ap (λ (k : List ℕ). same_bytes k m.key) is ∙ same_bytes_refl m.key) ∙ e in cc)

  same_index : (j : ℕ) (key : List ℕ) (at : ℕ) (b : Bool) → j ≡ m.index → same_bytes key m.key ≡ b → (at ≡ row) ⊎ (at ≢ row) → places_of changed j key at ≡ with_place (places_of indexes) m row owner j key at
  same_index j key at b ej eb (inr ne) =
      ap (λ (i : Keys). place_at i key at) (here j ej)
      ∙ (other_row key at b eb ne ∙ (ap (λ (i : ℕ). place_at (index_at indexes i) key at) (sym ej)
      ∙ sym (not_placed (places_of indexes) m row owner j key at (and_right (eqb j m.index) _ (and_left (eqb at row) _ (ne_eqb at row ne))))))
  same_index j key at true ej eb (inl is) =
      let k_is : key ≡ m.key = same_bytes_eq key m.key eb in
      ap (λ (i : Keys). place_at i key at) (here j ej)
      ∙ (ap (λ (k : List ℕ). place_at new k at) k_is ∙ (ap (place_at new m.key) is ∙ (puts.place
      ∙ sym (placed (places_of indexes) m row owner j key at (at_place m row j key at ej is k_is)))))
  same_index j key at false ej eb (inl is) =
      ap (λ (i : Keys). place_at i key at) (here j ej)
      ∙ (puts.places key at (λ e. let clash : true ≡ false = sym (ap (λ (k : List ℕ). same_bytes k m.key) e ∙ same_bytes_refl m.key) ∙ eb in cc)
      ∙ (ap (λ (i : ℕ). place_at (index_at indexes i) key at) (sym ej)
      ∙ sym (not_placed (places_of indexes) m row owner j key at (and_right (eqb j m.index) _ (and_right (eqb at row) _ eb)))))

  place_is : (j : ℕ) (key : List ℕ) (at : ℕ) → (j ≡ m.index) ⊎ (j ≢ m.index) → places_of changed j key at ≡ with_place (places_of indexes) m row owner j key at
  place_is j key at (inl e) = same_index j key at (same_bytes key m.key) e refl (cases_eq at row)
  place_is j key at (inr ne) =
      ap (λ (i : Keys). place_at i key at) (elsewhere j ne)
      ∙ sym (not_placed (places_of indexes) m row owner j key at (and_left (eqb j m.index) _ (ne_eqb j m.index ne)))

  pub places_changed : places_of changed ≡ with_place (places_of indexes) m row owner
  places_changed = λ i j key at. place_is j key at (cases_eq j m.index) i

  keeper_here : (b : Bool) → m.unique ≡ b → (IsTrue m.unique → keepers_of indexes m.index m.key ≡ Some client) → keeper_of new m.key ≡ keepers_of indexes m.index m.key
  keeper_here true e kept = puts.keeper ∙ (ap (λ (b : Bool). cond b (Some client) (keepers_of indexes m.index m.key)) e ∙ sym (kept e))
  keeper_here false e kept = puts.keeper ∙ ap (λ (b : Bool). cond b (Some client) (keepers_of indexes m.index m.key)) e

  keeper_at : (IsTrue m.unique → keepers_of indexes m.index m.key ≡ Some client) → (j : ℕ) (key : List ℕ) (b : Bool) → same_bytes key m.key ≡ b → (j ≡ m.index) ⊎ (j ≢ m.index) → keepers_of changed j key ≡ keepers_of indexes j key
  keeper_at kept j key b eb (inr ne) = ap (λ (i : Keys). keeper_of i key) (elsewhere j ne)
  keeper_at kept j key true eb (inl e) =
      let k_is : key ≡ m.key = same_bytes_eq key m.key eb in
      ap (λ (i : Keys). keeper_of i key) (here j e) ∙ (ap (keeper_of new) k_is ∙ (keeper_here m.unique refl kept ∙ (ap (keepers_of indexes m.index) (sym k_is) ∙ ap (λ (i : ℕ). keepers_of indexes i key) (sym e))))
  keeper_at kept j key false eb (inl e) =
      ap (λ (i : Keys). keeper_of i key) (here j e)
      ∙ (puts.keepers key (λ is. let clash : true ≡ false = sym (ap (λ (k : List ℕ). same_bytes k m.key) is ∙ same_bytes_refl m.key) ∙ eb in cc) ∙ ap (λ (i : ℕ). keepers_of indexes i key) (sym e))

  pub keepers_changed : (IsTrue m.unique → keepers_of indexes m.index m.key ≡ Some client) → keepers_of changed ≡ keepers_of indexes
  keepers_changed kept = λ i j key. keeper_at kept j key (same_bytes key m.key) refl (cases_eq j m.index) i

-- ---- the keeper, where a key is kept

module _ (indexes : List Keys) (m : Move) (row client : ℕ) (owner : Option ℕ) (new : Keys) (within : m.index < length indexes) (puts : Puts (index_at indexes m.index) client m.key row m.unique owner new) where
  kept_at : (u s x : Bool) (j : ℕ) (key : List ℕ) → m.unique ≡ u → same_bytes key m.key ≡ s → (j ≡ m.index) ⊎ (j ≢ m.index) → keepers_of (slice_set indexes m.index new) j key ≡ with_keeper (keepers_of indexes) m client j key
  kept_at u s x j key eu es (inr ne) =
      ap (λ (i : Keys). keeper_of i key) (get_or-set_other indexes m.index j new map.empty ne)
      ∙ sym (ap (λ (b : Bool). cond b (Some client) (keepers_of indexes j key)) (and_right m.unique _ (and_left (eqb j m.index) _ (ne_eqb j m.index ne))))
  kept_at u false x j key eu es (inl e) =
      ap (λ (i : Keys). keeper_of i key) (get_or-set_at indexes m.index j new map.empty e within)
      ∙ (puts.keepers key (λ is. let clash : true ≡ false = sym (ap (λ (k : List ℕ). same_bytes k m.key) is ∙ same_bytes_refl m.key) ∙ es in cc) ∙ (ap (λ (i : ℕ). keepers_of indexes i key) (sym e)
      ∙ sym (ap (λ (b : Bool). cond b (Some client) (keepers_of indexes j key)) (and_right m.unique _ (and_right (eqb j m.index) _ es)))))
  kept_at u true x j key eu es (inl e) =
      let k_is : key ≡ m.key = same_bytes_eq key m.key es in
      ap (λ (i : Keys). keeper_of i key) (get_or-set_at indexes m.index j new map.empty e within)
      ∙ (ap (keeper_of new) k_is ∙ (puts.keeper ∙ (ap (λ (o : Option ℕ). cond m.unique (Some client) o) (ap (keepers_of indexes m.index) (sym k_is) ∙ ap (λ (i : ℕ). keepers_of indexes i key) (sym e))
      ∙ sym (ap (λ (b : Bool). cond b (Some client) (keepers_of indexes j key)) (and_known m.unique _ (and_true (eqb j m.index) (same_bytes key m.key) (eq-eqb j m.index e) es))))))
    where
      and_known : (a b : Bool) → b ≡ true → (a && b) ≡ a
      and_known true b h = h
      and_known false b h = refl

  pub keepers_kept : keepers_of (slice_set indexes m.index new) ≡ with_keeper (keepers_of indexes) m client
  keepers_kept = λ i j key. kept_at m.unique (same_bytes key m.key) true j key refl refl (cases_eq j m.index) i
