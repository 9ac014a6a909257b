-- Who keeps a key, where moves are made and a client ends.
use Rattle.std.proofs.Common.{◌≡◌, ◌≢◌, ◌⊎◌, inl, inr, ℕ, Bool, true, false, cond, eqb, eqb-true, eq-eqb, ◌&&◌, List, [], ◌∷◌, Option, Some, None, refl, sym, ap, ◌∙◌, subst}
use Rattle.std.proofs.lemmas.Bool.{and_from, and_parts, cases_eq, ne_eqb}
use Rattle.abl_values.specs.Masks.{same_bytes}
use Rattle.key_index.specs.Places.{without_keeper}
use Rattle.row_indexes.specs.declared.moves.Move.{Move}
use Rattle.row_indexes.specs.Places.{AreKept, Keepers, Places, owner_after, with_place}
use Rattle.row_indexes.specs.Making.{CanMake, kept_after, with_keeper}
use Rattle.row_indexes.proofs.Bytes.{same_bytes_eq, same_bytes_refl}

abbrev is_kept : Move → ℕ → List ℕ → Bool
is_kept m j key = m.unique && ((eqb j m.index) && same_bytes key m.key)

abbrev value_in : Option ℕ → ℕ
value_in None = 0
value_in (Some x) = x

pub same_client : (a b : ℕ) → Some a ≡ Some b → a ≡ b
same_client a b e = ap value_in e

key_is : (m : Move) (j : ℕ) (key : List ℕ) → is_kept m j key ≡ true → (m.unique ≡ true) × (j ≡ m.index) × (key ≡ m.key)
key_is m j key e =
    let a = and_parts m.unique ((eqb j m.index) && same_bytes key m.key) e in
    let b = and_parts (eqb j m.index) (same_bytes key m.key) a.1 in
    (a.0, eqb-true j m.index b.0, same_bytes_eq key m.key b.1)

-- the keeper of one key after a move: the client, where nobody else kept it, or the one from before
keeper_cases : (client : ℕ) (m : Move) (keepers : Keepers) (j : ℕ) (key : List ℕ) (c : ℕ) (b : Bool) → is_kept m j key ≡ b → cond b (Some client) (keepers j key) ≡ Some c → (c ≡ client) ⊎ (keepers j key ≡ Some c)
keeper_cases client m keepers j key c true e is = inl (sym (same_client client c is))
keeper_cases client m keepers j key c false e is = inr is

-- a keeper after moves is the client or one from before
pub keeper_after : (client : ℕ) (moves : List Move) (keepers : Keepers) (j : ℕ) (key : List ℕ) (c : ℕ) → kept_after client moves keepers j key ≡ Some c → (c ≡ client) ⊎ (keepers j key ≡ Some c)
keeper_after client [] keepers j key c e = inr e
keeper_after client (m ∷ later) keepers j key c e = elim (keeper_after client later (with_keeper keepers m client) j key c e) [
  | inl is ↦ inl is
  | inr before ↦ keeper_cases client m keepers j key c (is_kept m j key) refl before
]

other_cases : (client : ℕ) (m : Move) (keepers : Keepers) (j : ℕ) (key : List ℕ) (d : ℕ) → ((m.unique ≡ true) → (other : ℕ) → keepers m.index m.key ≡ Some other → other ≡ client) → d ≢ client → keepers j key ≡ Some d
    → (b : Bool) → is_kept m j key ≡ b → cond b (Some client) (keepers j key) ≡ Some d
other_cases client m keepers j key d alone ne is false e = is
other_cases client m keepers j key d alone ne is true e =
    let at = key_is m j key e in
    absurd (ne (alone at.0 d (ap (λ (i : ℕ). keepers i m.key) (sym at.1) ∙ (ap (λ (k : List ℕ). keepers j k) (sym at.2) ∙ is))))

-- what another client keeps it keeps on
pub keeper_other : (client row : ℕ) (moves : List Move) (p : Places) (keepers : Keepers) (j : ℕ) (key : List ℕ) (d : ℕ) → CanMake client row moves p keepers → d ≢ client → keepers j key ≡ Some d → kept_after client moves keepers j key ≡ Some d
keeper_other client row [] p keepers j key d can ne is = is
keeper_other client row (m ∷ later) p keepers j key d can ne is =
    keeper_other client row later (with_place p m row (owner_after client m)) (with_keeper keepers m client) j key d can.1 ne
    (other_cases client m keepers j key d (λ u other e. can.0.unkept u other e) ne is (is_kept m j key) refl)

own_cases : (b : Bool) (client : ℕ) (keeper : Option ℕ) → keeper ≡ Some client → cond b (Some client) keeper ≡ Some client
own_cases true client keeper e = refl
own_cases false client keeper e = e

keeper_stays : (client : ℕ) (moves : List Move) (keepers : Keepers) (j : ℕ) (key : List ℕ) → keepers j key ≡ Some client → kept_after client moves keepers j key ≡ Some client
keeper_stays client [] keepers j key is = is
keeper_stays client (m ∷ later) keepers j key is = keeper_stays client later (with_keeper keepers m client) j key (own_cases (is_kept m j key) client (keepers j key) is)

-- the client keeps each unique key of the moves that it made
pub made_kept : (client : ℕ) (moves : List Move) (keepers : Keepers) → AreKept client moves (kept_after client moves keepers)
made_kept client [] keepers = tt
made_kept client (m ∷ later) keepers = (
  λ unique. keeper_stays client later (with_keeper keepers m client) m.index m.key
      (ap (λ (b : Bool). cond b (Some client) (keepers m.index m.key))
      (and_from m.unique _ unique (and_from (eqb m.index m.index) (same_bytes m.key m.key) (eq-eqb m.index m.index refl) (same_bytes_refl m.key)))),
  made_kept client later (with_keeper keepers m client),
)

-- ---- the end of a client

pub ended_other : (client d : ℕ) (keeper : Option ℕ) → d ≢ client → keeper ≡ Some d → without_keeper client keeper ≡ Some d
ended_other client d keeper ne is = ap (without_keeper client) is ∙ ap (λ (b : Bool). cond b None (Some d)) (ne_eqb d client ne)

ended_cases : (client d other : ℕ) (b : Bool) → eqb other client ≡ b → cond b None (Some other) ≡ Some d → (d ≢ client) × (Some other ≡ Some d)
ended_cases client d other true e is = absurd (cc is)
ended_cases client d other false e is = (λ same. let clash : true ≡ false = sym (eq-eqb other client (same_client other d is ∙ same)) ∙ e in cc, is)

pub ended_keeper : (client d : ℕ) (keeper : Option ℕ) → without_keeper client keeper ≡ Some d → (d ≢ client) × (keeper ≡ Some d)
ended_keeper client d None e = absurd (cc e)
ended_keeper client d (Some other) e = ended_cases client d other (eqb other client) refl e
