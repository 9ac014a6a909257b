-- Each step at a seat whose view is known by an equation, as its call asks for it.
use Rattle.std.proofs.Common.{IsSomeAnd, nat_lt, Bool, true, false, MatchBool, ◌≡◌, ℕ, ◌+◌, ◌%◌, ◌^◌, ◌<◌, ◌≤◌, List, [], ◌∷◌, ◌++◌, length, Option, Some, None, refl, sym, ap, ◌∙◌, subst, ⊎_elim, arith, length-append, zero, suc, inl}
use Rattle.std.proofs.lemmas.List.{append-nil}
use Rattle.std.proofs.lemmas.Bool.Decides.{nat_tests}
use mathlib.Core.List.{IsPrefix}
use mathlib.Core.Option.{Option as Maybe, some, none, some-ne-none, some-injective}
use lib.ListN.{get_elem?}
use Rattle.atomic_table.specs.Table.{State, Me, Allows, Splits, Joins, Final, Seen, opening, rest}
use Rattle.atomic_table.specs.declared.shared.Seat.{Seat}
use Rattle.turn_lock.specs.declared.view.Key.{Key}
use Rattle.turn_lock.specs.declared.view.View.{View}
use Rattle.turn_lock.specs.declared.view.Stage.TheVariants.{Idle, Waits, Holds}
use Rattle.turn_lock.specs.Journal.{own_entries, Adds}
use Rattle.turn_lock.specs.Shared.{Lock}
use Rattle.turn_lock.specs.Turn.{ClientTurn}
use Rattle.turn_lock.specs.View.{view, pass_view, kept_part, handed_part, first_view, joined_view, spent_view, with_stage, client_in, list_in, list_out}
use Rattle.turn_lock.specs.Seats.{turn_of, HasPass, HasTurn, PutsBack, HasPutBack}
use Rattle.turn_lock.specs.Steps.{Numbers, Draws, Serves, TakesOut, Looks, Records}
use Rattle.turn_lock.specs.Rule.{Fits, IsKept}
use Rattle.turn_lock.proofs.RuleKept.{numbers, splits, joins, ends, tickets, looks, serves, records}

module _ {T E O : Type 0} (entries : T → List E) (client : E → ℕ) (origin : T → O) where
  abbrev M : Type 0
  M = Me (Option T) (View T E)

  abbrev Rule : Key T → State (Option T) (View T E) → Type 0
  Rule = IsKept entries client origin

  -- a key in a Some is one key
  pub same_key : (k key : Key T) → Some k ≡ Some key → k ≡ key
  same_key k key e = cc

  -- the pass of this lock
  pub pass_at : (p : Seat (Option T) (View T E)) (key : Key T) → HasPass p → p.me.0.key ≡ Some key → (n : ℕ) × (mine : List E) × (p.me ≡ (pass_view key n mine Idle, []))
  pass_at p key h e =
      let is : Some h.0 ≡ Some key = sym (ap (λ (m : M). m.0.key) h.3) ∙ e in
      (h.1, h.2, h.3 ∙ ap (λ (k : Key T). (pass_view k h.1 h.2 Idle, [])) (same_key h.0 key is))

  -- the turn of this lock
  pub turn_at : (p : Seat (Option T) (View T E)) (key : Key T) (count : ℕ) → HasTurn client p count → p.me.0.key ≡ Some key
      → (n : ℕ) × (t : ℕ) × (l : List E) × (p.me ≡ (pass_view key n (own_entries client n l) (Holds t l), (0, None) ∷ [])) × (count ≡ length l)
  turn_at p key count h e =
      let is : Some h.0 ≡ Some key = sym (ap (λ (m : M). m.0.key) h.4) ∙ e in
      (h.1, h.2, h.3, h.4 ∙ ap (λ (k : Key T). (pass_view k h.1 (own_entries client h.1 h.3) (Holds h.2 h.3), (0, None) ∷ [])) (same_key h.0 key is), h.5)

  -- ticket
  pub draws : (key : Key T) (slots id : ℕ) (m : M) (n : ℕ) (mine : List E) → m ≡ (pass_view key n mine Idle, [])
      → Allows (Rule key) slots id m 1 (λ k. (k + 1) % 2 ^ 64) (Draws m)
  draws key slots id m n mine e = subst (λ (z : M). Allows (Rule key) slots id z 1 (λ k. (k + 1) % 2 ^ 64) (Draws z)) (sym e) (tickets entries client origin key slots id 1 ((n, mine) ∷ []) [] (omega arith))

  -- what is known after a look, at the key and the ticket of the seat
  looked_as : (key : Key T) (v : View T E) (t r : ℕ) (m : M) → v.key ≡ Some key → v.stage ≡ Waits t
      → (r ≡ t % 2 ^ 64 → TakesOut entries client origin key v t m) × (¬ (r ≡ t % 2 ^ 64) → m ≡ (v, [])) → Looks entries client origin (v, []) r m
  looked_as key v t r m is at h k i e q =
      let ks : key ≡ k = same_key key k (sym is ∙ e) in
      let w : Waits t ≡ Waits i = sym at ∙ q in
      let ts : t ≡ i = cc in
      subst (λ (y : Key T × ℕ). (r ≡ y.1 % 2 ^ 64 → TakesOut entries client origin y.0 v y.1 m) × (¬ (r ≡ y.1 % 2 ^ 64) → m ≡ (v, []))) (λ j. (ks j, ts j)) h

  -- look
  pub looks_out : (key : Key T) (slots id : ℕ) (m : M) (n t : ℕ) (mine : List E) → m ≡ (pass_view key n mine (Waits t), [])
      → Allows (Rule key) slots id m 2 (λ k. k) (Looks entries client origin m)
  looks_out key slots id m n t mine e = subst (λ (z : M). Allows (Rule key) slots id z 2 (λ k. k) (Looks entries client origin z)) (sym e)
      (λ s r sized at small. let h = looks entries client origin key slots id 1 t ((n, mine) ∷ []) s r sized at small in (h.0, h.1, h.2, h.3, looked_as key (pass_view key n mine (Waits t)) t _ _ refl refl h.4))

  -- what the pass knows after a look
  pub saw : (key : Key T) (m m' : M) (r n t : ℕ) (mine : List E) → m ≡ (pass_view key n mine (Waits t), []) → Looks entries client origin m r m'
      → (r ≡ t % 2 ^ 64 → TakesOut entries client origin key (pass_view key n mine (Waits t)) t m') × (¬ (r ≡ t % 2 ^ 64) → m' ≡ m)
  saw key m m' r n t mine e h =
      let v : View T E = pass_view key n mine (Waits t) in
      let g = subst (λ (z : M). Looks entries client origin z r m') e h key t refl refl in
      (g.0, λ no. g.1 no ∙ sym e)

  -- the seat that waits, as the pass was
  pub waiting : (p : Seat (Option T) (View T E)) (key : Key T) (m m' : M) (r : ℕ) → HasPass p → p.me.0.key ≡ Some key → Draws p.me r m → m' ≡ m
      → (n : ℕ) × (mine : List E) × (t : ℕ) × (r ≡ t % 2 ^ 64) × (m' ≡ (pass_view key n mine (Waits t), [])) × (client_in p.me.0.lists ≡ n) × (list_in p.me.0.lists ≡ mine)
  waiting p key m m' r is at h same =
      let q = pass_at p key is at in
      (q.0, q.1, h.0, h.1, same ∙ (h.2 ∙ ap (λ (z : M). (with_stage z.0 (Waits h.0), z.1)) q.2), ap (λ (z : M). client_in z.0.lists) q.2, ap (λ (z : M). list_in z.0.lists) q.2)

  -- what lies in the one slot that a seat has
  pub only_slot : (c : List (ℕ × Option T)) (a b : Option T) → c ≡ (0, a) ∷ rest c → c ≡ (0, b) ∷ [] → a ≡ b
  only_slot c a b e h = ap (λ (q : ℕ × Option T). q.1) (some-injective (0, a) (0, b) (ap (λ (l : List (ℕ × Option T)). get_elem? l 0) (sym e ∙ h)))

  -- what the exchange then gives: the value, with the client's own entries in it
  pub took : (key : Key T) (n t : ℕ) (mine : List E) (m m' : M) (back : Option T) (value : T) → TakesOut entries client origin key (pass_view key n mine (Waits t)) t m
      → m.1 ≡ (0, back) ∷ rest m.1 → m' ≡ (m.0, (0, None) ∷ rest m.1) → back ≡ Some value
      → (m' ≡ (pass_view key n mine (Holds t (entries value)), (0, None) ∷ [])) × (own_entries client n (entries value) ≡ mine) × (origin value ≡ origin key.start.value) × IsPrefix (entries key.start.value) (entries value)
  took key n t mine m m' back value h was now is =
      let one : m.1 ≡ (0, Some h.0) ∷ [] = ap (λ (z : M). z.1) h.1 in
      let e : Some h.0 ≡ Some value = sym (only_slot m.1 back (Some h.0) was one) ∙ is in
      let x : h.0 ≡ value = cc in (
        now ∙ (ap (λ (z : M). (z.0, (0, None) ∷ rest z.1)) h.1 ∙ ap (λ (y : T). (pass_view key n mine (Holds t (entries y)), (0, None) ∷ [])) x),
        subst (λ (y : T). own_entries client n (entries y) ≡ mine) x (h.4 0 (n, mine) refl),
        subst (λ (y : T). origin y ≡ origin key.start.value) x h.2,
        subst (λ (y : T). IsPrefix (entries key.start.value) (entries y)) x h.3,
      )

  -- the seat that has the turn, with the value to be put back in its slot
  pub giving : (p : Seat (Option T) (View T E)) (key : Key T) (count : ℕ) (turn : ClientTurn T E) (m : M) (value : T) → HasTurn client p count → p.me.0.key ≡ Some key → turn_of p ≡ turn
      → m ≡ (p.me.0, (0, Some value) ∷ rest p.me.1) → Adds client turn.client turn.taken (entries value)
      → (n : ℕ) × (t : ℕ) × (l : List E) × (m ≡ (pass_view key n (own_entries client n l) (Holds t l), (0, Some value) ∷ [])) × (count ≡ length l) × (turn.client ≡ n) × Adds client n l (entries value)
  giving p key count turn m value is at seen now adds =
      let q = turn_at p key count is at in
      let n : turn.client ≡ q.0 = sym (ap (λ (z : ClientTurn T E). z.client) seen) ∙ ap (λ (z : M). client_in z.0.lists) q.3 in
      let l : turn.taken ≡ q.2 = sym (ap (λ (z : ClientTurn T E). z.taken) seen) ∙ ap (λ (z : M). list_out z.0.stage) q.3 in
      (q.0, q.1, q.2, now ∙ ap (λ (z : M). (z.0, (0, Some value) ∷ rest z.1)) q.3, q.4, n, subst (λ (y : ℕ × List E). Adds client y.0 y.1 (entries value)) (λ i. (n i, l i)) adds)

  -- the list to be put back is the one taken, and has an entry more where it is longer
  pub longer_by_one : (n a b : ℕ) (l new : List E) → Adds client n l new → a ≡ length l → b ≡ length new → MatchBool (nat_lt a b) ((e : E) × (client e ≡ n) × (new ≡ l ++ e ∷ [])) (new ≡ l)
  longer_by_one n a b l new h before after = by (nat_lt a b) refl
    where
      by : (longer : Bool) → nat_lt a b ≡ longer → MatchBool longer ((e : E) × (client e ≡ n) × (new ≡ l ++ e ∷ [])) (new ≡ l)
      by true is = let more : a < b = grind (arith, nat_tests) in ⊎_elim (λ e. absurd (omega (arith, ap length e))) (λ g. g) h
      by false is = let less : b ≤ a = grind (arith, nat_tests) in ⊎_elim (λ e. e) (λ g. absurd (omega (arith, ap length g.2, length-append l (g.0 ∷ [])))) h

  -- record
  pub records_one : (p : Seat (Option T) (View T E)) (key : Key T) (slots : ℕ) → PutsBack entries client p true → p.me.0.key ≡ Some key → Allows (Rule key) slots p.id p.me 0 (λ k. (k + 1) % 2 ^ 64) (λ r. Records entries client p.me r)
  records_one p key slots h e =
      let same : h.0 ≡ key = same_key h.0 key (sym (ap (λ (m : M). m.0.key) h.5) ∙ e) in
      let n : ℕ = h.1 in let t : ℕ = h.2 in let l : List E = h.3 in let x : T = h.4 in
      let me : p.me ≡ (pass_view key n (own_entries client n l) (Holds t l), (0, Some x) ∷ []) = h.5 ∙ ap (λ (k : Key T). (pass_view k n (own_entries client n l) (Holds t l), (0, Some x) ∷ [])) same in
      subst (λ (z : M). Allows (Rule key) slots p.id z 0 (λ k. (k + 1) % 2 ^ 64) (λ r. Records entries client z r)) (sym me) (records entries client origin key slots p.id n t (own_entries client n l) l h.6.0 x ((0, Some x) ∷ []) h.6.2 h.6.1 h.7)

  -- serve
  pub serves_one : (p : Seat (Option T) (View T E)) (key : Key T) (lock : Lock T) (slots : ℕ) → slots ≡ 1 → HasPutBack entries client origin lock p → p.me.0.key ≡ Some key → lock.key ≡ Some key
      → Allows (Rule key) slots p.id p.me 2 (λ k. (k + 1) % 2 ^ 64) (λ r. Serves p.me r)
  serves_one p key lock slots one h e is =
      let same : h.0 ≡ key = same_key h.0 key (sym (ap (λ (m : M). m.0.key) h.4) ∙ e) in
      let n : ℕ = h.1 in let t : ℕ = h.2 in let x : T = h.3 in
      let mine : List E = own_entries client n (entries x) in
      let me : p.me ≡ (pass_view key n mine (Holds t (entries x)), (0, Some x) ∷ []) = h.4 ∙ ap (λ (k : Key T). (pass_view k n mine (Holds t (entries x)), (0, Some x) ∷ [])) same in
      let from : origin x ≡ origin key.start.value = subst (λ (k : Option (Key T)). IsSomeAnd k (λ i. origin x ≡ origin i.start.value)) is h.5 in
      subst (λ (z : ℕ). Allows (Rule key) z p.id p.me 2 (λ k. (k + 1) % 2 ^ 64) (λ r. Serves p.me r)) (sym one)
      (subst (λ (z : M). Allows (Rule key) 1 p.id z 2 (λ k. (k + 1) % 2 ^ 64) (λ r. Serves z r)) (sym me) (serves entries client origin key p.id 1 t ((n, mine) ∷ []) x from))

module _ {T E O : Type 0} (entries : T → List E) (client : E → ℕ) (origin : T → O) (key : Key T) where
  abbrev N : Type 0
  N = Me (Option T) (View T E)

  -- number
  pub numbers_one : (slots id p : ℕ) (m : N) → m ≡ (view (Some key) p [] Idle, []) → 0 < p → Allows (IsKept entries client origin key) slots id m 3 (λ k. (k + 1) % 2 ^ 64) (λ r. Numbers m r)
  numbers_one slots id p m e some_part = subst (λ (z : N). Allows (IsKept entries client origin key) slots id z 3 (λ k. (k + 1) % 2 ^ 64) (λ r. Numbers z r)) (sym e)
      (λ s r sized at small. let h = numbers entries client origin key slots id p [] some_part s r sized at small in
      (h.0, h.1, h.2, h.3, (h.4.0, λ k same. let ks : key ≡ k = same_key entries client origin key k same in h.4.1 ∙ ap (λ (z : Key T). z.first + z.seats) ks)))

  -- the number that the first seat has then
  pub numbered_one : (p r : ℕ) (m m' : N) → m ≡ (view (Some key) p [] Idle, []) → Numbers m r m' → (m' ≡ (view (Some key) p ((r, []) ∷ []) Idle, [])) × (r + p ≡ key.first + key.seats)
  numbered_one p r m m' e h = let g = subst (λ (z : N). Numbers z r m') e h in (g.0, g.1 key refl)

  -- split
  pub splits_one : (id p n : ℕ) (v : View T E) → v ≡ view (Some key) p ((n, []) ∷ []) Idle → 0 < p → Splits (IsKept entries client origin key) id v (kept_part v) (handed_part v)
  splits_one id p n v e some_part = subst (λ (z : View T E). Splits (IsKept entries client origin key) id z (kept_part z) (handed_part z)) (sym e) (splits entries client origin key id p ((n, []) ∷ []) refl some_part)

  -- the table as it is made keeps the rule
  pub begins : (count first : ℕ) (value : T) → key.start.value ≡ value → count ≡ length (entries value) → first ≡ key.first → key.first + key.seats ≤ 65535 → ((n : ℕ) → key.first ≤ n → own_entries client n (entries value) ≡ [])
      → IsKept entries client origin key (opening (count ∷ 0 ∷ 0 ∷ first ∷ 0 ∷ 0 ∷ 0 ∷ 0 ∷ 0 ∷ 0 ∷ 0 ∷ 0 ∷ 0 ∷ 0 ∷ 0 ∷ 0 ∷ 0 ∷ 0 ∷ 0 ∷ 0 ∷ []) (Some value ∷ []) (first_view key))
  begins count first value start counted is small fresh = record {
    log = entries value;
    drawn = 0;
    served = 0;
    bearer = λ _. 0;
    owner = λ _. 0;
    maker = 0;
    wide = refl;
    counted = counted;
    tickets = refl;
    serving = refl;
    numbers = omega arith;
    line = omega arith;
    whole = omega arith;
    small = small;
    fresh = λ n above. fresh n (omega arith);
    begins = ([], append-nil (entries key.start.value) ∙ ap entries start);
    slot = inl (value, refl, refl, ap origin (sym start));
    ticketed = λ t a b. absurd (omega arith);
    each = only;
  }
    where
      only : (j : ℕ) (v : View T E) → get_elem? (first_view key ∷ []) j ≡ some v → Fits entries client origin key 0 (some (Some value) ∷ [] ≡ none ∷ []) first 0 0 (λ _. 0) (λ _. 0) (entries value) j v
      only zero v e = subst (Fits entries client origin key 0 (some (Some value) ∷ [] ≡ none ∷ []) first 0 0 (λ _. 0) (λ _. 0) (entries value) 0) (some-injective (first_view key) v e)
          record { same = λ _. refl; counts = (omega arith, omega arith); full = λ other. absurd (other refl); lists = λ i q no. absurd (some-ne-none q (sym no)); stage = tt }
      only (suc j) v e = absurd (some-ne-none v (sym e))

  -- join
  pub joins_one : (id other p : ℕ) (ls : List (ℕ × List E)) (v w : View T E) (n : ℕ) (mine : List E) → v ≡ view (Some key) p ls Idle → w ≡ pass_view key n mine Idle → Joins (IsKept entries client origin key) id v other w (joined_view v w) spent_view
  joins_one id other p ls v w n mine e h = subst (λ (y : View T E × View T E). Joins (IsKept entries client origin key) id y.0 other y.1 (joined_view y.0 y.1) spent_view) (λ i. (sym e i, sym h i)) (joins entries client origin key id p other 1 ls ((n, mine) ∷ []) (omega arith))

  -- at the end, with every part in one seat, the value is in the slot
  pub closes : (words : List ℕ) (slots : List (Option T)) (id p : ℕ) (ls : List (ℕ × List E)) (v : View T E) → v ≡ view (Some key) p ls Idle → p ≡ key.seats → Final (Seen (IsKept entries client origin key) id v) words slots
      → (x : T) × (get_elem? slots 0 ≡ some (Some x)) × (origin x ≡ origin key.start.value) × IsPrefix (entries key.start.value) (entries x) × ((i : ℕ) (q : ℕ × List E) → get_elem? ls i ≡ some q → own_entries client q.0 (entries x) ≡ q.1)
  closes words slots id p ls v e all f =
      let at = f.1.1 ∙ ap some (e ∙ ap (λ (k : ℕ). view (Some key) k ls Idle) all) in
      let h = ends entries client origin key f.0 f.1.0 id ls at in
      (h.0, f.4 0 (Some h.0) (ap (λ (l : List (Maybe (Option T))). get_elem? l 0) h.1), h.2, h.3, h.4)

  -- the same of the value that is then taken from the slot
  pub closes_with : (words : List ℕ) (slots : List (Option T)) (id p : ℕ) (ls : List (ℕ × List E)) (v : View T E) (taken : Option T) (value : T) → v ≡ view (Some key) p ls Idle → p ≡ key.seats
      → Final (Seen (IsKept entries client origin key) id v) words slots → get_elem? slots 0 ≡ some taken → taken ≡ Some value
      → (origin value ≡ origin key.start.value) × IsPrefix (entries key.start.value) (entries value) × ((i : ℕ) (q : ℕ × List E) → get_elem? ls i ≡ some q → own_entries client q.0 (entries value) ≡ q.1)
  closes_with words slots id p ls v taken value e all f at is =
      let h = closes words slots id p ls v e all f in
      let there : Some h.0 ≡ taken = some-injective (Some h.0) taken (sym h.1 ∙ at) in
      let both : Some h.0 ≡ Some value = there ∙ is in
      let same : h.0 ≡ value = cc in (
        subst (λ (y : T). origin y ≡ origin key.start.value) same h.2,
        subst (λ (y : T). IsPrefix (entries key.start.value) (entries y)) same h.3,
        λ i q e'. subst (λ (y : T). own_entries client q.0 (entries y) ≡ q.1) same (h.4 i q e'),
      )
