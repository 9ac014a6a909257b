-- The rows seen as a finite map, without the room for the list.
use Rattle.std.proofs.Common.{◌≡◌, ℕ, Bool, true, false, cond, List, [], ◌∷◌, Option, Some, None, IsSome, refl, sym, ap, subst, ◌∙◌, nat_cmp}
use Rattle.std.specs.Option.{is_some, option_map}
use Rattle.std.specs.BTreeMap.{BTreeMap, is_at}
use Rattle.std.specs.FinMap as map
use Rattle.std.specs.Ordering.{is_eq}
use Rattle.std.specs.Cmp.{nat_cmp_total}
use Rattle.std.proofs.lemmas.Cmp.{tied_itself}
use Rattle.std.proofs.lemmas.Map.Lookups.{exact_unsigned}
use Rattle.std.proofs.lemmas.Map.Views.{tells_apart}
use Rattle.key_index.specs.declared.left.Seat.{Seat}
use Rattle.key_index.specs.Left.{AreListed, IsListed, Lists, owner_at, owners_of, seat_at}
use Rattle.key_index.specs.Places.{Rows}
use Rattle.abl_base.proofs.TreeEntries.{at, get_at, one_put}

owner_pick : (seat : Seat) (es : List (ℕ × Option ℕ)) (fs : List (ℕ × Seat)) (q : ℕ) (b : Bool) → at es q ≡ option_map (λ (s : Seat). s.owner) (at fs q)
    → cond b (Some seat.owner) (at es q) ≡ option_map (λ (s : Seat). s.owner) (cond b (Some seat) (at fs q))
owner_pick seat es fs q true rest = refl
owner_pick seat es fs q false rest = rest

pub owner_in : (es : List (ℕ × Seat)) (q : ℕ) → at (owners_of es) q ≡ option_map (λ (s : Seat). s.owner) (at es q)
owner_in [] q = refl
owner_in (e ∷ es) q = owner_pick e.1 (owners_of es) es q (is_at (nat_cmp q) e.0) (owner_in es q)

-- what the rows have, by their seats
pub get_owner : (seats : BTreeMap ℕ Seat) (rows : Rows) → map.from_entries (owners_of seats.entries) ≡ rows → (q : ℕ) → map.get rows q ≡ owner_at seats q
get_owner seats rows is q = ap (λ m. map.get m q) (sym is) ∙ get_at (owners_of seats.entries) q ∙ owner_in seats.entries q

some_some : (a b : Seat) → Some a ≡ Some b → a ≡ b
some_some a b h = cc

none_some : (a : Seat) → None ≡ Some a → ⊥
none_some a h = cc

nothing_stands : is_some {T = Option ℕ} None ≡ true → ⊥
nothing_stands h = cc

-- a row without a seat is not there
pub no_seat : (seats : BTreeMap ℕ Seat) (rows : Rows) (row : ℕ) → map.from_entries (owners_of seats.entries) ≡ rows → None ≡ seat_at seats row → IsSome (map.get rows row) → ⊥
no_seat seats rows row is none some =
    nothing_stands (ap is_some (ap (option_map (λ (s : Seat). s.owner)) none) ∙ sym (ap is_some (get_owner seats rows is row)) ∙ some)

module _ (old new : BTreeMap ℕ Seat) (row : ℕ) (seat : Seat) (puts : (q : ℕ) → seat_at new q ≡ cond (is_at (nat_cmp row) q) (Some seat) (seat_at old q)) where
  -- a seat that is put, seen in the map
  pub put_owner : (rows : Rows) → map.from_entries (owners_of old.entries) ≡ rows → map.from_entries (owners_of new.entries) ≡ map.insert rows row seat.owner
  put_owner rows is =
      one_put (owners_of old.entries) (owners_of new.entries) row seat.owner (λ q.
      owner_in new.entries q ∙ ap (option_map (λ (s : Seat). s.owner)) (puts q)
      ∙ sym (owner_pick seat (owners_of old.entries) old.entries q (is_at (nat_cmp row) q) (owner_in old.entries q)))
      ∙ ap (λ m. map.insert m row seat.owner) is

  -- the list still has what it is to have
  pub put_listed : (left more : List ℕ) → AreListed old left → ((q : ℕ) → Lists left q → Lists more q) → IsListed more row seat → AreListed new more
  put_listed left more listed grows here q s there = pick (is_at (nat_cmp row) q) refl
    where
      pick : (b : Bool) → is_at (nat_cmp row) q ≡ b → IsListed more q s
      pick true is =
          subst (IsListed more q) (some_some seat s (sym (ap (λ b. cond b (Some seat) (seat_at old q)) is) ∙ sym (puts q) ∙ there))
          (subst (λ (r : ℕ). IsListed more r seat) (tells_apart exact_unsigned row q is) here)
      pick false is =
          let was = listed q s (sym (ap (λ b. cond b (Some seat) (seat_at old q)) is) ∙ sym (puts q) ∙ there) in
          record { owned = λ some. grows q (was.owned some); used = λ none. grows q (was.used none) }

no_owner : (owner : Option ℕ) → owner ≡ None → is_some owner ≡ true → ⊥
no_owner None is some = cc
no_owner (Some client) is some = cc

-- an entry has its row in the list only where its room is used
pub entry_listed : (left : List ℕ) (row : ℕ) (seat : Seat) → seat.owner ≡ None → (seat.spare ≡ None → Lists left row) → IsListed left row seat
entry_listed left row seat is used = record { owned = λ some. absurd (no_owner seat.owner is some); used = used }

-- without a row there is no entry
pub no_entry : (es : List (ℕ × Seat)) → ((row : ℕ) → option_map (λ (s : Seat). s.owner) (at es row) ≡ None) → es ≡ []
no_entry [] none = refl
no_entry (e ∷ es) none = absurd (nothing (sym (none e.0) ∙ first))
  where
    nothing : None ≡ Some e.1.owner → ⊥
    nothing h = cc

    first : option_map (λ (s : Seat). s.owner) (at (e ∷ es) e.0) ≡ Some e.1.owner
    first = ap (λ b. option_map (λ (s : Seat). s.owner) (cond b (Some e.1) (at es e.0))) (ap is_eq (tied_itself nat_cmp_total e.0))

pub some_seat : (o : Option Seat) → is_some (option_map (λ (s : Seat). s.owner) o) ≡ true → is_some o ≡ true
some_seat None some = some
some_seat (Some seat) some = refl
