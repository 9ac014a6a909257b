-- The walk over the list of the rows that were left, where a client ends.
use Rattle.std.proofs.Common.{◌≡◌, ◌≢◌, ◌↔◌, ◌⊎◌, inl, inr, ℕ, Bool, true, false, eqb, cond, List, [], ◌∷◌, Option, Some, None, IsSome, refl, sym, ap, subst, ◌∙◌, arith}
use Rattle.std.specs.Option.{option_map}
use Rattle.std.specs.BTreeMap.{BTreeMap}
use Rattle.std.proofs.lemmas.Grind.{common_steps}
use Rattle.std.proofs.lemmas.Bool.{both_ways}
use Rattle.key_index.specs.declared.left.Seat.{Seat}
use Rattle.key_index.specs.Left.{AreListed, IsListed, Lists, owner_at, seat_at}
use Rattle.key_index.specs.Places.{IsLeft, without_left}

pub same_or_other : (a b : ℕ) → (a ≡ b) ⊎ (a ≢ b)
same_or_other a b = grind (arith, common_steps)

eqb_itself : (a : ℕ) → eqb a a ≡ true
eqb_itself a = grind (arith, common_steps)

-- what is left of a place is no placeholder of the client
pub not_left : (client : ℕ) (o : Option (Option ℕ)) → without_left client o ≡ Some (Some client) → ⊥
not_left client None is = cc
not_left client (Some None) is = cc
not_left client (Some (Some other)) is = pick (eqb other client) refl is
  where
    pick : (b : Bool) → eqb other client ≡ b → cond b None (Some (Some other)) ≡ Some (Some client) → ⊥
    pick true same h = cc
    pick false same h = both_ways (eqb other client) same (subst (λ (c : ℕ). eqb other c ≡ true) (other_is h) (eqb_itself other))
      where
        other_is : Some (Some other) ≡ Some (Some client) → other ≡ client
        other_is e = cc

-- what is left stays so
pub left_again : (client : ℕ) (o : Option (Option ℕ)) → without_left client (without_left client o) ≡ without_left client o
left_again client None = refl
left_again client (Some None) = refl
left_again client (Some (Some other)) = pick (eqb other client) refl
  where
    pick : (b : Bool) → eqb other client ≡ b → without_left client (cond b None (Some (Some other))) ≡ cond b None (Some (Some other))
    pick true is = refl
    pick false is = ap (λ b. cond b None (Some (Some other))) is

-- a place that the client did not leave stays as it is
pub others_stay : (client : ℕ) (o : Option (Option ℕ)) → (o ≡ Some (Some client) → ⊥) → without_left client o ≡ o
others_stay client None differs = refl
others_stay client (Some None) differs = refl
others_stay client (Some (Some other)) differs = pick (eqb other client) refl
  where
    is_it : eqb other client ≡ true → other ≡ client
    is_it h = grind (arith, common_steps)

    pick : (b : Bool) → eqb other client ≡ b → cond b None (Some (Some other)) ≡ Some (Some other)
    pick true same = absurd (differs (ap (λ (c : ℕ). Some (Some c)) (is_it same)))
    pick false same = refl

some_owner : (client : ℕ) (owner : Option ℕ) → Some owner ≡ Some (Some client) → IsSome owner
some_owner client None h = cc
some_owner client (Some other) h = refl

-- a place is a placeholder where it has an owner
pub is_left-owner : (owner : Option ℕ) (place : Option (Option ℕ)) → place ≡ Some owner → IsSome owner ↔ IsLeft place
is_left-owner owner place is = (owned owner is, λ was_left. some_owner was_left.0 owner (sym is ∙ was_left.1))
  where
    owned : (o : Option ℕ) → place ≡ Some o → IsSome o → IsLeft place
    owned None is_there some = cc
    owned (Some client) is_there some = (client, is_there)

-- the list has each placeholder
pub left_listed : (seats : BTreeMap ℕ Seat) (left : List ℕ) (row : ℕ) → AreListed seats left → IsLeft (owner_at seats row) → Lists left row
left_listed seats left row listed was_left = pick (seat_at seats row) refl was_left.1
  where
    client : ℕ
    client = was_left.0

    nothing : None ≡ Some (Some client) → ⊥
    nothing h = cc

    pick : (o : Option Seat) → seat_at seats row ≡ o → option_map (λ (s : Seat). s.owner) o ≡ Some (Some client) → Lists left row
    pick None is h = absurd (nothing h)
    pick (Some seat) is h = (listed row seat is).owned (some_owner client seat.owner h)

-- the rows in the rest of the list are still to be looked at
pub record EndsRows (client : ℕ) (old now : BTreeMap ℕ Seat) (left rest : List ℕ) : Type 0 where
  pub owned : (row : ℕ) (seat : Seat) → seat_at now row ≡ Some seat → IsSome seat.owner → Lists left row ⊎ Lists rest row
  pub used : (row : ℕ) (seat : Seat) → seat_at now row ≡ Some seat → seat.spare ≡ None → Lists left row ⊎ Lists rest row
  pub mine : (row : ℕ) → owner_at now row ≡ Some (Some client) → Lists rest row
  pub same : (row : ℕ) → without_left client (owner_at now row) ≡ without_left client (owner_at old row)

pub rows_start : (client : ℕ) (seats : BTreeMap ℕ Seat) (left : List ℕ) → AreListed seats left → EndsRows client seats seats [] left
rows_start client seats left listed = record {
  owned = λ row seat is some. inr ((listed row seat is).owned some);
  used = λ row seat is none. inr ((listed row seat is).used none);
  mine = λ row is. left_listed seats left row listed (client, is);
  same = λ row. refl;
}

pub rows_step : (client : ℕ) (old now next : BTreeMap ℕ Seat) (left more rest left_over : List ℕ) (row : ℕ) → EndsRows client old now left rest → rest ≡ row ∷ left_over
    → ((q : ℕ) → q ≢ row → seat_at next q ≡ seat_at now q) → owner_at next row ≡ without_left client (owner_at now row)
    → ((seat : Seat) → seat_at next row ≡ Some seat → IsListed more row seat) → ((q : ℕ) → Lists left q → Lists more q) → EndsRows client old next more left_over
rows_step client old now next left more rest left_over row walk is others ended listed grows = record {
  owned = λ q seat there some. by_row (Lists more q ⊎ Lists left_over q) q
      (λ same. inl (subst (Lists more) (sym same) ((listed seat (subst (λ (r : ℕ). seat_at next r ≡ Some seat) same there)).owned some)))
      (λ differ. later q differ (walk.owned q seat (sym (others q differ) ∙ there) some));
  used = λ q seat there none. by_row (Lists more q ⊎ Lists left_over q) q
      (λ same. inl (subst (Lists more) (sym same) ((listed seat (subst (λ (r : ℕ). seat_at next r ≡ Some seat) same there)).used none)))
      (λ differ. later q differ (walk.used q seat (sym (others q differ) ∙ there) none));
  mine = λ q there. by_row (Lists left_over q) q
      (λ same. absurd (not_left client (owner_at now row) (sym ended ∙ subst (λ (r : ℕ). owner_at next r ≡ Some (Some client)) same there)))
      (λ differ. past q differ (walk.mine q (sym (owner_stays q differ) ∙ there)));
  same = λ q. by_row (without_left client (owner_at next q) ≡ without_left client (owner_at old q)) q
      (λ same. subst (λ (r : ℕ). without_left client (owner_at next r) ≡ without_left client (owner_at old r)) (sym same)
      (ap (without_left client) ended ∙ left_again client (owner_at now row) ∙ walk.same row))
      (λ differ. ap (without_left client) (owner_stays q differ) ∙ walk.same q);
}
  where
    by_row : (G : Type 0) (q : ℕ) → (q ≡ row → G) → (q ≢ row → G) → G
    by_row G q here there = pick (same_or_other q row)
      where
        pick : (q ≡ row) ⊎ (q ≢ row) → G
        pick (inl h) = here h
        pick (inr h) = there h

    owner_stays : (q : ℕ) → q ≢ row → owner_at next q ≡ owner_at now q
    owner_stays q differ = ap (option_map (λ (s : Seat). s.owner)) (others q differ)

    past : (q : ℕ) → q ≢ row → Lists rest q → Lists left_over q
    past q differ h = pick (subst (λ (xs : List ℕ). Lists xs q) is h)
      where
        pick : (row ≡ q) ⊎ Lists left_over q → Lists left_over q
        pick (inl same) = absurd (differ (sym same))
        pick (inr rest) = rest

    later : (q : ℕ) → q ≢ row → Lists left q ⊎ Lists rest q → Lists more q ⊎ Lists left_over q
    later q differ (inl h) = inl (grows q h)
    later q differ (inr h) = inr (past q differ h)

listed_now : (left rest : List ℕ) (row : ℕ) → rest ≡ [] → Lists left row ⊎ Lists rest row → Lists left row
listed_now left rest row none (inl h) = h
listed_now left rest row none (inr h) = absurd (subst (λ (xs : List ℕ). Lists xs row) none h)

pub rows_listed : (client : ℕ) (old now : BTreeMap ℕ Seat) (left rest : List ℕ) → EndsRows client old now left rest → rest ≡ [] → AreListed now left
rows_listed client old now left rest walk none row seat is = record {
  owned = λ some. listed_now left rest row none (walk.owned row seat is some);
  used = λ free. listed_now left rest row none (walk.used row seat is free);
}

pub rows_ended : (client : ℕ) (old now : BTreeMap ℕ Seat) (left rest : List ℕ) → EndsRows client old now left rest → rest ≡ [] → (row : ℕ) → owner_at now row ≡ without_left client (owner_at old row)
rows_ended client old now left rest walk none row =
    sym (others_stay client (owner_at now row) (λ mine. subst (λ (xs : List ℕ). Lists xs row) none (walk.mine row mine))) ∙ walk.same row
