-- Each step keeps the rule.
use Rattle.std.proofs.Common.{◌≡◌, ◌≢◌, ℕ, zero, suc, ◌+◌, ◌%◌, ◌^◌, ◌<◌, ◌≤◌, List, [], ◌∷◌, ◌++◌, length, set, get_or, Option, Some, refl, sym, ap, ◌∙◌, subst, ⊎_elim, inl, inr, arith, length-set, length-append, append_assoc, get_or-set_same, get_or-set_other}
use mathlib.Core.Option.{Option as Maybe, some, none, some-ne-none, some-injective}
use mathlib.Core.Logic.{dite}
use mathlib.Core.List.{IsPrefix}
use native.Mathlib.Decide.{ℕ_discrete}
use lib.ListN.{get_elem?}
use lib.Seq.{set-get_or}
use Rattle.atomic_table.specs.Table.{State, keeps, takes, gives, Allows, Splits, Joins}
use Rattle.atomic_table.proofs.Lists.{at_set, set_again, set_here, set_else, at_longer, one_turn}
use Rattle.turn_lock.specs.declared.view.Key.{Key}
use Rattle.turn_lock.specs.declared.view.View.{View}
use Rattle.turn_lock.specs.declared.view.Stage.{Stage}
use Rattle.turn_lock.specs.declared.view.Stage.TheVariants.{Idle, Waits, Holds}
use Rattle.turn_lock.specs.Journal.{own_entries}
use Rattle.turn_lock.specs.View.{queued, view, pass_view, kept_part, handed_part, joined_view, spent_view}
use Rattle.turn_lock.specs.Steps.{TakesOut}
use Rattle.turn_lock.specs.Rule.{parts_of, queued_of, clients_of, AllowsStage, Owns, Fits, IsKept}
use Rattle.turn_lock.proofs.Sums.{total-set, total-push, two-le-total, total-le, total-but, own_entries-other, put_at, put_here, put_else, in_range}

module _ {T E O : Type 0} (entries : T → List E) (client : E → ℕ) (origin : T → O) (key : Key T) where
  abbrev V : Type 0
  V = View T E

  abbrev St : Type 0
  St = State (Option T) V

  abbrev Rule : St → Type 0
  Rule = IsKept entries client origin key

  -- a view with a ticket is not one without
  apart : (vs : List V) (i k : ℕ) (v u : V) → get_elem? vs i ≡ some v → get_elem? vs k ≡ some u → queued v.stage ≢ queued u.stage → k ≢ i
  apart vs i k v u e h d same = d (ap (λ (z : V). queued z.stage) (some-injective v u (sym e ∙ (ap (get_elem? vs) (sym same) ∙ h))))

  abbrev FitsOf : (s : St) (r : Rule s) → ℕ → V → Type 0
  FitsOf s r = Fits entries client origin key r.maker (s.homes ≡ none ∷ []) (get_or s.words 3 0) r.served r.drawn r.bearer r.owner r.log

  -- what one view has, another may have after a step of the seat id
  set_each : (P : ℕ → V → Type 0) (vs : List V) (id : ℕ) (w : V) → P id w → ((j : ℕ) (u : V) → j ≢ id → get_elem? vs j ≡ some u → P j u) → (j : ℕ) (u : V) → get_elem? (set vs id w) j ≡ some u → P j u
  set_each P vs id w mine others j u e = ⊎_elim
      (λ (t : (j ≡ id) × (w ≡ u)). subst (λ (y : ℕ × V). P y.0 y.1) (λ i. (sym t.0 i, t.1 i)) mine)
      (λ (t : (j ≢ id) × (get_elem? vs j ≡ some u)). others j u t.0 t.1)
      (at_set vs id j w u e)

  -- how many numbers were given out
  few_numbers : (s : St) (r : Rule s) → get_or s.words 3 0 ≤ key.first + key.seats
  few_numbers s r = let a = total-le clients_of parts_of s.views (λ j u e. (r.each j u e).counts.0) in let b = r.numbers in let c = r.whole in omega arith

  -- how many tickets are out
  few_tickets : (s : St) (r : Rule s) → r.drawn ≤ r.served + key.seats
  few_tickets s r = let a = total-le queued_of parts_of s.views (λ j u e. (r.each j u e).counts.1) in let b = r.line in let c = r.whole in omega arith

  -- the new client has no entry yet
  new_list : (s : St) (r : Rule s) (id i : ℕ) (q : ℕ × List E) → get_elem? ((get_or s.words 3 0, []) ∷ []) i ≡ some q → Owns entries client origin key.first (get_or s.words 3 0 + 1) (put_at (get_or s.words 3 0) id r.owner) r.log id q
  new_list s r id zero q e = subst (Owns entries client origin key.first (get_or s.words 3 0 + 1) (put_at (get_or s.words 3 0) id r.owner) r.log id) (some-injective _ q e)
      (let d = r.numbers in (omega arith, omega arith, put_here (get_or s.words 3 0) id r.owner, r.fresh (get_or s.words 3 0) (omega arith)))
  new_list s r id (suc i) q e = absurd (some-ne-none q (sym e))

  -- only the first seat has parts with no client
  only_maker : (s : St) (r : Rule s) (id p : ℕ) → 0 < p → get_elem? s.views id ≡ some (view (Some key) p [] Idle) → id ≡ r.maker
  only_maker s r id p some_part at = dite (ℕ_discrete id r.maker) (λ e. e) (λ other. let h = (r.each id (view (Some key) p [] Idle) at).full other in absurd (omega arith))

  -- number
  pub numbers : (slots id p : ℕ) (c : List (ℕ × Option T)) → 0 < p → Allows Rule slots id (view (Some key) p [] Idle, c) 3 (λ n. (n + 1) % 2 ^ 64) (λ n m. (m ≡ (view (Some key) p ((n, []) ∷ []) Idle, c)) × (n + p ≡ key.first + key.seats))
  numbers slots id p c some_part s r sized at small =
      let v : V = view (Some key) p [] Idle in
      let n : ℕ = get_or s.words 3 0 in
      let w : V = view (Some key) p ((n, []) ∷ []) Idle in
      let owner : ℕ → ℕ = put_at n id r.owner in
      let wide = r.wide in
      let few = few_numbers s r in
      let mine : id ≡ r.maker = only_maker s r id p some_part at in
      let room = r.small in
      let next : (n + 1) % 2 ^ 64 ≡ n + 1 = omega arith in
      let now : get_or (set s.words 3 ((n + 1) % 2 ^ 64)) 3 0 ≡ n + 1 = get_or-set_same s.words 3 ((n + 1) % 2 ^ 64) 0 (omega arith) ∙ next in
      let word : (k : ℕ) → k ≢ 3 → get_or (set s.words 3 ((n + 1) % 2 ^ 64)) k 0 ≡ get_or s.words k 0 = λ k d. get_or-set_other s.words 3 k ((n + 1) % 2 ^ 64) 0 d in
      let New : ℕ → ℕ → V → Type 0 = λ z. Fits entries client origin key r.maker (s.homes ≡ none ∷ []) z r.served r.drawn r.bearer owner r.log in
      let stays : (k : ℕ) (u : V) → get_elem? s.views k ≡ some u → queued u.stage ≡ 1 → get_elem? (set s.views id w) k ≡ some u =
      λ k u e q. set_else s.views id k w (apart s.views id k v u at e (λ same. omega arith)) ∙ e in (
        w,
        keeps,
        tt,
        record {
          log = r.log;
          drawn = r.drawn;
          served = r.served;
          bearer = r.bearer;
          owner = owner;
          maker = r.maker;
          wide = length-set s.words 3 ((n + 1) % 2 ^ 64) ∙ wide;
          counted = word 0 (λ e. omega arith) ∙ r.counted;
          tickets = word 1 (λ e. omega arith) ∙ r.tickets;
          serving = word 2 (λ e. omega arith) ∙ r.serving;
          numbers = let b = total-set clients_of s.views id v w at in let d = r.numbers in now ∙ (omega arith);
          line = let b = total-set queued_of s.views id v w at in let d = r.line in omega arith;
          whole = let b = total-set parts_of s.views id v w at in let d = r.whole in omega arith;
          small = r.small;
          fresh = λ k above. r.fresh k (omega (arith, now));
          begins = r.begins;
          slot = ⊎_elim (λ h. inl h) (λ h. inr (h.0, h.1, stays (r.bearer r.served) h.0 h.2 (ap queued h.3), h.3)) r.slot;
          ticketed = λ t a b. let h = r.ticketed t a b in (h.0, stays (r.bearer t) h.0 h.1 (⊎_elim (λ q. ap queued q) (λ q. ap queued q.1) h.2), h.2);
          each = subst (λ (z : ℕ). (j : ℕ) (u : V) → get_elem? (set s.views id w) j ≡ some u → New z j u) (sym now) (set_each (New (n + 1)) s.views id w
              record { same = λ _. refl; counts = (omega arith, omega arith); full = λ other. absurd (other mine); lists = λ i q e. new_list s r id i q e; stage = tt }
              (λ j u other e. let h = r.each j u e in record {
                same = h.same;
                counts = h.counts;
                full = h.full;
                lists = λ i q at'. let o = h.lists i q at' in (o.0, omega (arith, o.1), put_else n id r.owner q.0 (λ same. omega (arith, o.1)) ∙ o.2, o.3);
                stage = h.stage;
              }));
        },
        (refl, let h = r.numbers in let k = r.whole in let t = total-but parts_of clients_of s.views id v at (λ j u other e. let f = r.each j u e in let c = f.counts.0 in let g = f.full (λ is. other (is ∙ sym mine)) in omega arith) in omega arith),
      )

  -- one ticket more is drawn, by the seat id, and each other is where it was
  stage_longer : (out : Type 0) (served drawn id : ℕ) (bearer : ℕ → ℕ) (log : List E) (j : ℕ) (st : Stage E) → AllowsStage out served drawn bearer log j st → AllowsStage out served (drawn + 1) (put_at drawn id bearer) log j st
  stage_longer out served drawn id bearer log j Idle h = tt
  stage_longer out served drawn id bearer log j (Waits t) h = let b = h.1 in (h.0, omega arith, put_else drawn id bearer t (λ e. omega arith) ∙ h.2)
  stage_longer out served drawn id bearer log j (Holds t l) h = let b = h.1 in (h.0, omega arith, put_else drawn id bearer t (λ e. omega arith) ∙ h.2, h.3, h.4)

  -- the ticket of the seat that has the turn was drawn
  holder_drawn : (s : St) (r : Rule s) (k : ℕ) (u : V) → get_elem? s.views k ≡ some u → u.stage ≡ Holds r.served r.log → r.served < r.drawn
  holder_drawn s r k u e is = (subst (AllowsStage (s.homes ≡ none ∷ []) r.served r.drawn r.bearer r.log k) is (r.each k u e).stage).1

  -- ticket
  pub tickets : (slots id p : ℕ) (ls : List (ℕ × List E)) (c : List (ℕ × Option T)) → 0 < p
      → Allows Rule slots id (view (Some key) p ls Idle, c) 1 (λ n. (n + 1) % 2 ^ 64) (λ n m. (t : ℕ) × (n ≡ t % 2 ^ 64) × (m ≡ (view (Some key) p ls (Waits t), c)))
  tickets slots id p ls c some_part s r sized at small =
      let v : V = view (Some key) p ls Idle in
      let d : ℕ = r.drawn in
      let w : V = view (Some key) p ls (Waits d) in
      let bearer : ℕ → ℕ = put_at d id r.bearer in
      let wide = r.wide in
      let before = r.tickets in
      let n : ℕ = (get_or s.words 1 0 + 1) % 2 ^ 64 in
      let next : n ≡ (d + 1) % 2 ^ 64 = omega arith in
      let now : get_or (set s.words 1 n) 1 0 ≡ (d + 1) % 2 ^ 64 = get_or-set_same s.words 1 n 0 (omega arith) ∙ next in
      let word : (k : ℕ) → k ≢ 1 → get_or (set s.words 1 n) k 0 ≡ get_or s.words k 0 = λ k e. get_or-set_other s.words 1 k n 0 e in
      let New : ℕ → ℕ → V → Type 0 = λ z. Fits entries client origin key r.maker (s.homes ≡ none ∷ []) z r.served (d + 1) bearer r.owner r.log in
      let mine = r.each id v at in
      let line = r.line in
      let stays : (t : ℕ) (u : V) → t < d → get_elem? s.views (r.bearer t) ≡ some u → queued u.stage ≡ 1 → get_elem? (set s.views id w) (bearer t) ≡ some u =
      λ t u less e q. ap (get_elem? (set s.views id w)) (put_else d id r.bearer t (λ e. omega arith)) ∙ (set_else s.views id (r.bearer t) w (apart s.views id (r.bearer t) v u at e (λ same. omega arith)) ∙ e) in (
        w,
        keeps,
        tt,
        record {
          log = r.log;
          drawn = d + 1;
          served = r.served;
          bearer = bearer;
          owner = r.owner;
          maker = r.maker;
          wide = length-set s.words 1 n ∙ wide;
          counted = word 0 (λ e. omega arith) ∙ r.counted;
          tickets = now;
          serving = word 2 (λ e. omega arith) ∙ r.serving;
          numbers = let a = word 3 (λ e. omega arith) in let b = total-set clients_of s.views id v w at in let h = r.numbers in a ∙ (omega arith);
          line = let b = total-set queued_of s.views id v w at in omega arith;
          whole = let b = total-set parts_of s.views id v w at in let h = r.whole in omega arith;
          small = r.small;
          fresh = λ k above. let a = word 3 (λ e. omega arith) in r.fresh k (omega arith);
          begins = r.begins;
          slot = ⊎_elim (λ h. inl h) (λ h. inr (h.0, h.1, stays r.served h.0 (holder_drawn s r (r.bearer r.served) h.0 h.2 h.3) h.2 (ap queued h.3), h.3)) r.slot;
          ticketed = λ t a b. dite (ℕ_discrete t d)
              (λ same. (w, ap (get_elem? (set s.views id w)) (ap bearer same ∙ put_here d id r.bearer) ∙ set_here s.views id w (in_range s.views id v at), inl (ap Waits (sym same))))
              (λ other. let less : t < d = omega arith in let h = r.ticketed t a less in (h.0, stays t h.0 less h.1 (⊎_elim (λ q. ap queued q) (λ q. ap queued q.1) h.2), h.2));
          each = subst (λ (z : ℕ). (j : ℕ) (u : V) → get_elem? (set s.views id w) j ≡ some u → New z j u) (sym (word 3 (λ e. omega arith))) (set_each (New (get_or s.words 3 0)) s.views id w
              record { same = mine.same; counts = (mine.counts.0, omega arith); full = mine.full; lists = mine.lists; stage = (omega arith, omega arith, put_here d id r.bearer) }
              (λ j u other e. let h = r.each j u e in record { same = h.same; counts = h.counts; full = h.full; lists = h.lists; stage = stage_longer (s.homes ≡ none ∷ []) r.served d id r.bearer r.log j u.stage h.stage }));
        },
        (d, before, refl),
      )

  -- the slot is out now, and each ticket is where it was
  stage_out : (out out' : Type 0) (served drawn : ℕ) (bearer : ℕ → ℕ) (log : List E) (j : ℕ) → out' → (st : Stage E) → AllowsStage out served drawn bearer log j st → AllowsStage out' served drawn bearer log j st
  stage_out out out' served drawn bearer log j is Idle h = tt
  stage_out out out' served drawn bearer log j is (Waits t) h = h
  stage_out out out' served drawn bearer log j is (Holds t l) h = (h.0, h.1, h.2, h.3, is)

  -- a step that changes no word
  unmoved : (s : St) (i : ℕ) (homes : List (Maybe (Option T))) (views : List V) → Rule record { words = s.words; homes = homes; views = views } → Rule record { words = set s.words i (get_or s.words i 0); homes = homes; views = views }
  unmoved s i homes views r = subst (λ (ws : List ℕ). Rule record { words = ws; homes = homes; views = views }) (sym (set-get_or s.words i 0)) r

  -- the seat takes the value out
  takes_turn : (s : St) (r : Rule s) (id p t : ℕ) (ls : List (ℕ × List E)) (x : T) → get_elem? s.views id ≡ some (view (Some key) p ls (Waits t)) → r.served ≡ t → s.homes ≡ some (Some x) ∷ [] → entries x ≡ r.log
      → Rule record { words = s.words; homes = set s.homes 0 none; views = set s.views id (view (Some key) p ls (Holds t (entries x))) }
  takes_turn s r id p t ls x at is full same =
      let v : V = view (Some key) p ls (Waits t) in
      let w : V = view (Some key) p ls (Holds t (entries x)) in
      let mine = r.each id v at in
      let out : set s.homes 0 none ≡ none ∷ [] = ap (λ (l : List (Maybe (Option T))). set l 0 none) full in
      let New : ℕ → V → Type 0 = Fits entries client origin key r.maker (set s.homes 0 none ≡ none ∷ []) (get_or s.words 3 0) r.served r.drawn r.bearer r.owner r.log in
      let at_me : get_elem? (set s.views id w) id ≡ some w = set_here s.views id w (in_range s.views id v at) in
      let here : get_elem? (set s.views id w) (r.bearer r.served) ≡ some w = ap (get_elem? (set s.views id w)) (ap r.bearer is ∙ mine.stage.2) ∙ at_me in
      record {
        log = r.log;
        drawn = r.drawn;
        served = r.served;
        bearer = r.bearer;
        owner = r.owner;
        maker = r.maker;
        wide = r.wide;
        counted = r.counted;
        tickets = r.tickets;
        serving = r.serving;
        numbers = let b = total-set clients_of s.views id v w at in let h = r.numbers in omega arith;
        line = let b = total-set queued_of s.views id v w at in let h = r.line in omega arith;
        whole = let b = total-set parts_of s.views id v w at in let h = r.whole in omega arith;
        small = r.small;
        fresh = r.fresh;
        begins = r.begins;
        slot = inr (w, out, here, λ i. Holds (sym is i) (same i));
        ticketed = λ k a b. dite (ℕ_discrete (r.bearer k) id)
            (λ me. let h = r.ticketed k a b in let e : h.0 ≡ v = some-injective h.0 v (sym h.1 ∙ (ap (get_elem? s.views) me ∙ at)) in (
              w,
              ap (get_elem? (set s.views id w)) me ∙ at_me,
              inr (
                entries x,
                ⊎_elim
                    (λ q. let z : Waits t ≡ Waits k = sym (ap (λ (u : V). u.stage) e) ∙ q in let g : t ≡ k = cc in ap (λ (n : ℕ). Holds n (entries x)) g)
                    (λ q. let z : Waits t ≡ Holds k q.0 = sym (ap (λ (u : V). u.stage) e) ∙ q.1 in absurd (cc)) h.2,
              ),
            ))
            (λ other. let h = r.ticketed k a b in (h.0, set_else s.views id (r.bearer k) w other ∙ h.1, h.2));
        each = set_each New s.views id w
            record { same = mine.same; counts = mine.counts; full = mine.full; lists = mine.lists; stage = (sym is, mine.stage.1, mine.stage.2, same, out) }
            (λ j u other e. let h = r.each j u e in record { same = h.same; counts = h.counts; full = h.full; lists = h.lists; stage = stage_out (s.homes ≡ none ∷ []) (set s.homes 0 none ≡ none ∷ []) r.served r.drawn r.bearer r.log j out u.stage h.stage });
      }

  -- the slot is at home where a seat waits with the ticket that is served
  at_home : (s : St) (r : Rule s) (id p : ℕ) (ls : List (ℕ × List E)) → get_elem? s.views id ≡ some (view (Some key) p ls (Waits r.served)) → r.bearer r.served ≡ id
      → (x : T) × (s.homes ≡ some (Some x) ∷ []) × (entries x ≡ r.log) × (origin x ≡ origin key.start.value)
  at_home s r id p ls at mine = ⊎_elim (λ h. h)
      (λ h. let e : h.0 ≡ view (Some key) p ls (Waits r.served) = some-injective h.0 (view (Some key) p ls (Waits r.served)) (sym h.2 ∙ (ap (get_elem? s.views) mine ∙ at)) in
      let z : Waits r.served ≡ Holds r.served r.log = sym (ap (λ (u : V). u.stage) e) ∙ h.3 in absurd (cc))
      r.slot

  -- look, and with it take out
  pub looks : (slots id p t : ℕ) (ls : List (ℕ × List E))
      → Allows Rule slots id (view (Some key) p ls (Waits t), []) 2 (λ n. n)
      (λ n m. (n ≡ t % 2 ^ 64 → TakesOut entries client origin key (view (Some key) p ls (Waits t)) t m) × (¬ (n ≡ t % 2 ^ 64) → m ≡ (view (Some key) p ls (Waits t), [])))
  looks slots id p t ls s r sized at small =
      let v : V = view (Some key) p ls (Waits t) in
      let mine = r.each id v at in
      let few = few_tickets s r in
      let room = r.small in
      let line = mine.stage in
      dite (ℕ_discrete (get_or s.words 2 0) (t % 2 ^ 64))
      (λ is.
      let same : r.served ≡ t = one_turn r.served t (2 ^ 64) line.0 (omega arith) (sym r.serving ∙ is) in
      let h = at_home s r id p ls (at ∙ ap (λ (k : ℕ). some (view (Some key) p ls (Waits k))) (sym same)) (ap r.bearer same ∙ line.2) in
      let begins : IsPrefix (entries key.start.value) (entries h.0) = subst (IsPrefix (entries key.start.value)) (sym h.2) r.begins in (
        view (Some key) p ls (Holds t (entries h.0)),
        takes 0 (Some h.0),
        ap (λ (l : List (Maybe (Option T))). get_elem? l 0) h.1,
        unmoved s 2 (set s.homes 0 none) (set s.views id (view (Some key) p ls (Holds t (entries h.0)))) (takes_turn s r id p t ls h.0 at same h.1 h.2),
        ((λ _. (h.0, refl, h.3, begins, λ i q e. ap (own_entries client q.0) h.2 ∙ (mine.lists i q e).3)), (λ no. absurd (no is))),
      ))
      (λ no. (v, keeps, tt, unmoved s 2 s.homes (set s.views id v) (subst (λ (l : List V). Rule record { words = s.words; homes = s.homes; views = l }) (sym (set_again s.views id v at)) r), ((λ is. absurd (no is)), (λ _. refl))))

  -- the next ticket is served, and each other than that of the seat id is where it was
  stage_next : (out out' : Type 0) (served drawn id : ℕ) (bearer : ℕ → ℕ) (log : List E) (j : ℕ) → bearer served ≡ id → j ≢ id → (st : Stage E) → AllowsStage out served drawn bearer log j st → AllowsStage out' (served + 1) drawn bearer log j st
  stage_next out out' served drawn id bearer log j is other Idle h = tt
  stage_next out out' served drawn id bearer log j is other (Waits t) h =
      let apart : t ≢ served = λ e. other (sym h.2 ∙ (ap bearer e ∙ is)) in let a = h.0 in (omega arith, h.1, h.2)
  stage_next out out' served drawn id bearer log j is other (Holds t l) h = absurd (other (sym h.2 ∙ (ap bearer h.0 ∙ is)))

  -- serve, and with it put back
  pub serves : (id p t : ℕ) (ls : List (ℕ × List E)) (x : T) → origin x ≡ origin key.start.value
      → Allows Rule 1 id (view (Some key) p ls (Holds t (entries x)), (0, Some x) ∷ []) 2 (λ n. (n + 1) % 2 ^ 64) (λ n m. m ≡ (view (Some key) p ls Idle, []))
  serves id p t ls x from s r sized at small =
      let v : V = view (Some key) p ls (Holds t (entries x)) in
      let w : V = view (Some key) p ls Idle in
      let mine = r.each id v at in
      let wide = r.wide in
      let before = r.serving in
      let n : ℕ = (get_or s.words 2 0 + 1) % 2 ^ 64 in
      let next : n ≡ (r.served + 1) % 2 ^ 64 = omega arith in
      let now : get_or (set s.words 2 n) 2 0 ≡ (r.served + 1) % 2 ^ 64 = get_or-set_same s.words 2 n 0 (omega arith) ∙ next in
      let word : (k : ℕ) → k ≢ 2 → get_or (set s.words 2 n) k 0 ≡ get_or s.words k 0 = λ k e. get_or-set_other s.words 2 k n 0 e in
      let home : set s.homes 0 (some (Some x)) ≡ some (Some x) ∷ [] = ap (λ (l : List (Maybe (Option T))). set l 0 (some (Some x))) mine.stage.4 in
      let bears : r.bearer r.served ≡ id = ap r.bearer (sym mine.stage.0) ∙ mine.stage.2 in
      let New : ℕ → ℕ → V → Type 0 = λ z. Fits entries client origin key r.maker (set s.homes 0 (some (Some x)) ≡ none ∷ []) z (r.served + 1) r.drawn r.bearer r.owner r.log in (
        w,
        gives,
        tt,
        record {
          log = r.log;
          drawn = r.drawn;
          served = r.served + 1;
          bearer = r.bearer;
          owner = r.owner;
          maker = r.maker;
          wide = length-set s.words 2 n ∙ wide;
          counted = word 0 (λ e. omega arith) ∙ r.counted;
          tickets = word 1 (λ e. omega arith) ∙ r.tickets;
          serving = now;
          numbers = let a = word 3 (λ e. omega arith) in let b = total-set clients_of s.views id v w at in let h = r.numbers in a ∙ (omega arith);
          line = let b = total-set queued_of s.views id v w at in let h = r.line in omega arith;
          whole = let b = total-set parts_of s.views id v w at in let h = r.whole in omega arith;
          small = r.small;
          fresh = λ k above. let a = word 3 (λ e. omega arith) in r.fresh k (omega arith);
          begins = r.begins;
          slot = inl (x, home, mine.stage.3, from);
          ticketed = λ k a b. let h = r.ticketed k (omega arith) b in (
            h.0,
            set_else s.views id (r.bearer k) w (λ me.
                let e : h.0 ≡ v = some-injective h.0 v (sym h.1 ∙ (ap (get_elem? s.views) me ∙ at)) in
                let apart : t ≢ k = let z = mine.stage.0 in λ same. omega arith in
                ⊎_elim {C = ⊥}
                (λ q. let z : Holds t (entries x) ≡ Waits k = sym (ap (λ (u : V). u.stage) e) ∙ q in cc)
                (λ q. let z : Holds t (entries x) ≡ Holds k q.0 = sym (ap (λ (u : V). u.stage) e) ∙ q.1 in let g : t ≡ k = cc in apart g) h.2) ∙ h.1,
            h.2,
          );
          each = subst (λ (z : ℕ). (j : ℕ) (u : V) → get_elem? (set s.views id w) j ≡ some u → New z j u) (sym (word 3 (λ e. omega arith))) (set_each (New (get_or s.words 3 0)) s.views id w
              record { same = mine.same; counts = (mine.counts.0, omega arith); full = mine.full; lists = mine.lists; stage = tt }
              (λ j u other e. let h = r.each j u e in record { same = h.same; counts = h.counts; full = h.full; lists = h.lists; stage = stage_next (s.homes ≡ none ∷ []) (set s.homes 0 (some (Some x)) ≡ none ∷ []) r.served r.drawn id r.bearer r.log j bears other u.stage h.stage }));
        },
        refl,
      )

  -- a bell is none of the words that the rule speaks of
  pub rings : (slots id i : ℕ) (m : V × List (ℕ × Option T)) → 4 ≤ i → Allows Rule slots id m i (λ n. (n + 1) % 2 ^ 64) (λ n m'. m' ≡ m)
  rings slots id i m above s r sized at small =
      let n : ℕ = (get_or s.words i 0 + 1) % 2 ^ 64 in
      let word : (k : ℕ) → k < 4 → get_or (set s.words i n) k 0 ≡ get_or s.words k 0 = λ k few. get_or-set_other s.words i k n 0 (λ e. omega arith) in
      let New : ℕ → ℕ → V → Type 0 = λ z. Fits entries client origin key r.maker (s.homes ≡ none ∷ []) z r.served r.drawn r.bearer r.owner r.log in (
        m.0,
        keeps,
        tt,
        subst (λ (l : List V). Rule record { words = set s.words i n; homes = s.homes; views = l }) (sym (set_again s.views id m.0 at)) record {
          log = r.log;
          drawn = r.drawn;
          served = r.served;
          bearer = r.bearer;
          owner = r.owner;
          maker = r.maker;
          wide = length-set s.words i n ∙ r.wide;
          counted = word 0 (omega arith) ∙ r.counted;
          tickets = word 1 (omega arith) ∙ r.tickets;
          serving = word 2 (omega arith) ∙ r.serving;
          numbers = word 3 (omega arith) ∙ r.numbers;
          line = r.line;
          whole = r.whole;
          small = r.small;
          fresh = λ k more. let a = word 3 (omega arith) in r.fresh k (omega arith);
          begins = r.begins;
          slot = r.slot;
          ticketed = r.ticketed;
          each = subst (λ (z : ℕ). (j : ℕ) (u : V) → get_elem? s.views j ≡ some u → New z j u) (sym (word 3 (omega arith))) r.each;
        },
        refl,
      )

  -- one client's list does not change by an entry of another
  apart_lists : (next id j n : ℕ) (owner : ℕ → ℕ) (l : List E) (e : E) (q : ℕ × List E) → client e ≡ n → owner n ≡ id → j ≢ id → Owns entries client origin key.first next owner l j q
      → Owns entries client origin key.first next owner (l ++ e ∷ []) j q
  apart_lists next id j n owner l e q by mine other o =
      (o.0, o.1, o.2, own_entries-other client q.0 l e (λ same. other (sym o.2 ∙ (ap owner (sym same ∙ by) ∙ mine))) ∙ o.3)

  -- another list is to be put back by the seat id, and each other seat has a ticket as before
  stage_log : (out : Type 0) (served drawn id : ℕ) (bearer : ℕ → ℕ) (log log' : List E) (j : ℕ) → bearer served ≡ id → j ≢ id → (st : Stage E) → AllowsStage out served drawn bearer log j st → AllowsStage out served drawn bearer log' j st
  stage_log out served drawn id bearer log log' j is other Idle h = tt
  stage_log out served drawn id bearer log log' j is other (Waits t) h = h
  stage_log out served drawn id bearer log log' j is other (Holds t l) h = absurd (other (sym h.2 ∙ (ap bearer h.0 ∙ is)))

  -- a seat with one client owns that one
  only_list : (next id n : ℕ) (owner : ℕ → ℕ) (log mine : List E) → Owns entries client origin key.first next owner log id (n, mine) → (i : ℕ) (q : ℕ × List E) → get_elem? ((n, mine) ∷ []) i ≡ some q → Owns entries client origin key.first next owner log id q
  only_list next id n owner log mine o zero q e = subst (Owns entries client origin key.first next owner log id) (some-injective (n, mine) q e) o
  only_list next id n owner log mine o (suc i) q e = absurd (some-ne-none q (sym e))

  -- record
  pub records : (slots id n t : ℕ) (mine l : List E) (e : E) (x : T) (c : List (ℕ × Option T)) → entries x ≡ l ++ e ∷ [] → client e ≡ n → length (entries x) < 2 ^ 64
      → Allows Rule slots id (pass_view key n mine (Holds t l), c) 0 (λ k. (k + 1) % 2 ^ 64) (λ k m. m ≡ (pass_view key n (own_entries client n (entries x)) (Holds t (entries x)), c))
  records slots id n t mine l e x c grown by room s r sized at small =
      let v : V = pass_view key n mine (Holds t l) in
      let w : V = pass_view key n (own_entries client n (entries x)) (Holds t (entries x)) in
      let me = r.each id v at in
      let had = me.lists 0 (n, mine) refl in
      let wide = r.wide in
      let before = r.counted in
      let more : length (entries x) ≡ length r.log + 1 = ap length grown ∙ (length-append l (e ∷ []) ∙ ap (λ (k : List E). length k + 1) me.stage.3) in
      let k : ℕ = (get_or s.words 0 0 + 1) % 2 ^ 64 in
      let next : k ≡ length (entries x) = omega arith in
      let now : get_or (set s.words 0 k) 0 0 ≡ length (entries x) = get_or-set_same s.words 0 k 0 (omega arith) ∙ next in
      let word : (i : ℕ) → i ≢ 0 → get_or (set s.words 0 k) i 0 ≡ get_or s.words i 0 = λ i d. get_or-set_other s.words 0 i k 0 d in
      let bears : r.bearer r.served ≡ id = ap r.bearer (sym me.stage.0) ∙ me.stage.2 in
      let log : entries x ≡ r.log ++ e ∷ [] = grown ∙ ap (λ (z : List E). z ++ e ∷ []) me.stage.3 in
      let New : ℕ → ℕ → V → Type 0 = λ z. Fits entries client origin key r.maker (s.homes ≡ none ∷ []) z r.served r.drawn r.bearer r.owner (entries x) in
      let at_me : get_elem? (set s.views id w) id ≡ some w = set_here s.views id w (in_range s.views id v at) in (
        w,
        keeps,
        tt,
        record {
          log = entries x;
          drawn = r.drawn;
          served = r.served;
          bearer = r.bearer;
          owner = r.owner;
          maker = r.maker;
          wide = length-set s.words 0 k ∙ wide;
          counted = now;
          tickets = word 1 (λ e. omega arith) ∙ r.tickets;
          serving = word 2 (λ e. omega arith) ∙ r.serving;
          numbers = let a = word 3 (λ e. omega arith) in let b = total-set clients_of s.views id v w at in let h = r.numbers in a ∙ (omega arith);
          line = let b = total-set queued_of s.views id v w at in let h = r.line in omega arith;
          whole = let b = total-set parts_of s.views id v w at in let h = r.whole in omega arith;
          small = r.small;
          fresh = λ i above. let a = word 3 (λ e. omega arith) in let below = had.1 in ap (own_entries client i) log ∙ (own_entries-other client i r.log e (λ same. omega arith) ∙ r.fresh i (omega arith));
          begins = (r.begins.0 ++ e ∷ [], sym (append_assoc (entries key.start.value) r.begins.0 (e ∷ [])) ∙ (ap (λ (z : List E). z ++ e ∷ []) r.begins.1 ∙ sym log));
          slot = inr (w, me.stage.4, ap (get_elem? (set s.views id w)) bears ∙ at_me, ap (λ (i : ℕ). Holds i (entries x)) me.stage.0);
          ticketed = λ i a b. dite (ℕ_discrete (r.bearer i) id)
              (λ mine'. let h = r.ticketed i a b in let e : h.0 ≡ v = some-injective h.0 v (sym h.1 ∙ (ap (get_elem? s.views) mine' ∙ at)) in (
                w,
                ap (get_elem? (set s.views id w)) mine' ∙ at_me,
                inr (
                  entries x,
                  ⊎_elim
                      (λ q. let z : Holds t l ≡ Waits i = sym (ap (λ (u : V). u.stage) e) ∙ q in absurd (cc))
                      (λ q. let z : Holds t l ≡ Holds i q.0 = sym (ap (λ (u : V). u.stage) e) ∙ q.1 in let g : t ≡ i = cc in ap (λ (b : ℕ). Holds b (entries x)) g) h.2,
                ),
              ))
              (λ other. let h = r.ticketed i a b in (h.0, set_else s.views id (r.bearer i) w other ∙ h.1, h.2));
          each = subst (λ (z : ℕ). (j : ℕ) (u : V) → get_elem? (set s.views id w) j ≡ some u → New z j u) (sym (word 3 (λ e. omega arith))) (set_each (New (get_or s.words 3 0)) s.views id w
              record { same = me.same; counts = me.counts; full = me.full; lists = only_list (get_or s.words 3 0) id n r.owner (entries x) (own_entries client n (entries x)) (had.0, had.1, had.2, refl); stage = (me.stage.0, me.stage.1, me.stage.2, refl, me.stage.4) }
              (λ j u other at'. let h = r.each j u at' in record {
                same = h.same;
                counts = h.counts;
                full = h.full;
                lists = λ i q e'. subst (λ (z : List E). Owns entries client origin key.first (get_or s.words 3 0) r.owner z j q) (sym log) (apart_lists (get_or s.words 3 0) id j n r.owner r.log e q by had.2 other (h.lists i q e'));
                stage = stage_log (s.homes ≡ none ∷ []) r.served r.drawn id r.bearer r.log (entries x) j bears other u.stage h.stage;
              }));
        },
        refl,
      )

  -- the lists of one seat go to another
  moved : ℕ → ℕ → (ℕ → ℕ) → ℕ → ℕ
  moved other id owner n = put_at other id (λ k. k) (owner n)

  moved_there : (other id : ℕ) (owner : ℕ → ℕ) (n : ℕ) → owner n ≡ other → moved other id owner n ≡ id
  unfolding moved
  moved_there other id owner n e = ap (put_at other id (λ k. k)) e ∙ put_here other id (λ k. k)

  moved_else : (other id : ℕ) (owner : ℕ → ℕ) (n j : ℕ) → owner n ≡ j → j ≢ other → moved other id owner n ≡ j
  unfolding moved
  moved_else other id owner n j e d = put_else other id (λ k. k) (owner n) (λ same. d (sym e ∙ same)) ∙ e

  -- what holds at each place of two lists holds at each place of both together
  at_append : {A : Type 0} (P : A → Type 0) (xs ys : List A) → ((i : ℕ) (q : A) → get_elem? xs i ≡ some q → P q) → ((i : ℕ) (q : A) → get_elem? ys i ≡ some q → P q) → (i : ℕ) (q : A) → get_elem? (xs ++ ys) i ≡ some q → P q
  at_append P [] ys f g i q e = g i q e
  at_append P (x ∷ xs) ys f g zero q e = f zero q e
  at_append P (x ∷ xs) ys f g (suc i) q e = at_append P xs ys (λ k. f (suc k)) g i q e

  -- what holds at each place of a list and of one element more holds at each place of both together
  at_end : {A : Type 0} (P : ℕ → A → Type 0) (l : List A) (w : A) (n : ℕ) → length l ≡ n → P n w → ((j : ℕ) (u : A) → get_elem? l j ≡ some u → P j u) → (j : ℕ) (u : A) → get_elem? (l ++ w ∷ []) j ≡ some u → P j u
  at_end {A} P [] w m n mine f zero u e = subst (λ (y : ℕ × A). P y.0 y.1) (λ i. (sym n i, some-injective w u e i)) mine
  at_end {A} P [] w m n mine f (suc j) u e = absurd (some-ne-none u (sym e))
  at_end {A} P (x ∷ l) w m n mine f zero u e = f zero u e
  at_end {A} P (x ∷ l) w m n mine f (suc j) u e = at_end (λ k. P (suc k)) l w (length l) refl (subst (λ (k : ℕ). P k w) (sym n) mine) (λ k. f (suc k)) j u e

  -- join
  pub joins : (id p other q : ℕ) (ls ms : List (ℕ × List E)) → q ≤ length ms → Joins Rule id (view (Some key) p ls Idle) other (view (Some key) q ms Idle) (joined_view (view (Some key) p ls Idle) (view (Some key) q ms Idle)) spent_view
  joins id p other q ls ms whole s r at apart' there =
      let v : V = view (Some key) p ls Idle in
      let u : V = view (Some key) q ms Idle in
      let w : V = joined_view v u in
      let end : V = spent_view in
      let theirs : get_elem? s.views other ≡ some u = sym (set_else s.views id other w apart') ∙ there in
      let mine = r.each id v at in
      let its = r.each other u theirs in
      let owner : ℕ → ℕ = moved other id r.owner in
      let more = length-append ls ms in
      let New : ℕ → V → Type 0 = Fits entries client origin key r.maker (s.homes ≡ none ∷ []) (get_or s.words 3 0) r.served r.drawn r.bearer owner r.log in
      let stays : (k : ℕ) (z : V) → get_elem? s.views k ≡ some z → queued z.stage ≡ 1 → get_elem? (set (set s.views id w) other end) k ≡ some z =
      λ k z e g. set_else (set s.views id w) other k end (apart s.views other k u z theirs e (λ same. omega arith)) ∙ (set_else s.views id k w (apart s.views id k v z at e (λ same. omega arith)) ∙ e) in
      record {
        log = r.log;
        drawn = r.drawn;
        served = r.served;
        bearer = r.bearer;
        owner = owner;
        maker = r.maker;
        wide = r.wide;
        counted = r.counted;
        tickets = r.tickets;
        serving = r.serving;
        numbers = let a = total-set clients_of s.views id v w at in let b = total-set clients_of (set s.views id w) other u end there in let h = r.numbers in omega arith;
        line = let a = total-set queued_of s.views id v w at in let b = total-set queued_of (set s.views id w) other u end there in let h = r.line in omega arith;
        whole = let a = total-set parts_of s.views id v w at in let b = total-set parts_of (set s.views id w) other u end there in let h = r.whole in omega arith;
        small = r.small;
        fresh = r.fresh;
        begins = r.begins;
        slot = ⊎_elim (λ h. inl h) (λ h. inr (h.0, h.1, stays (r.bearer r.served) h.0 h.2 (ap queued h.3), h.3)) r.slot;
        ticketed = λ t a b. let h = r.ticketed t a b in (h.0, stays (r.bearer t) h.0 h.1 (⊎_elim (λ q. ap queued q) (λ q. ap queued q.1) h.2), h.2);
        each = set_each New (set s.views id w) other end
            record { same = λ some. absurd (omega arith); counts = (omega arith, omega arith); full = λ _. omega arith; lists = λ i q no. absurd (some-ne-none q (sym no)); stage = tt }
            (λ j z d e. set_each (λ i y. i ≢ other → New i y) s.views id w
            (λ _. record {
              same = λ _. refl;
              full = λ out. let a = mine.full out in let b = its.counts.0 in omega arith;
              counts = (let a = mine.counts.0 in let b = its.counts.0 in omega arith, omega arith);
              lists = at_append (Owns entries client origin key.first (get_or s.words 3 0) owner r.log id) ls ms
                  (λ i g e'. let o = mine.lists i g e' in (o.0, o.1, moved_else other id r.owner g.0 id o.2 (λ same. apart' (sym same)), o.3))
                  (λ i g e'. let o = its.lists i g e' in (o.0, o.1, moved_there other id r.owner g.0 o.2, o.3));
              stage = tt;
            })
            (λ i y d' e' n. let h = r.each i y e' in record {
              same = h.same;
              counts = h.counts;
              full = h.full;
              lists = λ k g e''. let o = h.lists k g e'' in (o.0, o.1, moved_else other id r.owner g.0 i o.2 n, o.3);
              stage = h.stage;
            }) j z e d);
      }

  -- split
  pub splits : (id p : ℕ) (ls : List (ℕ × List E)) → length ls ≡ 1 → 0 < p → Splits Rule id (view (Some key) p ls Idle) (kept_part (view (Some key) p ls Idle)) (handed_part (view (Some key) p ls Idle))
  splits id p ls one some_part s r at =
      let v : V = view (Some key) p ls Idle in
      let l : V = kept_part v in
      let w : V = handed_part v in
      let mine = r.each id v at in
      let new : ℕ = length s.views in
      let inside = in_range s.views id v at in
      let owner : ℕ → ℕ = moved id new r.owner in
      let New : ℕ → V → Type 0 = Fits entries client origin key r.maker (s.homes ≡ none ∷ []) (get_or s.words 3 0) r.served r.drawn r.bearer owner r.log in
      let stays : (k : ℕ) (u : V) → get_elem? s.views k ≡ some u → queued u.stage ≡ 1 → get_elem? (set s.views id l ++ w ∷ []) k ≡ some u =
      λ k u e q. at_longer (set s.views id l) (w ∷ []) k u (set_else s.views id k l (apart s.views id k v u at e (λ same. omega arith)) ∙ e) in
      record {
        log = r.log;
        drawn = r.drawn;
        served = r.served;
        bearer = r.bearer;
        owner = owner;
        maker = r.maker;
        wide = r.wide;
        counted = r.counted;
        tickets = r.tickets;
        serving = r.serving;
        numbers = let a = total-push clients_of (set s.views id l) w in let b = total-set clients_of s.views id v l at in let c = r.numbers in omega arith;
        line = let a = total-push queued_of (set s.views id l) w in let b = total-set queued_of s.views id v l at in let c = r.line in omega arith;
        whole = let a = total-push parts_of (set s.views id l) w in let b = total-set parts_of s.views id v l at in let c = r.whole in omega arith;
        small = r.small;
        fresh = r.fresh;
        begins = r.begins;
        slot = ⊎_elim (λ h. inl h) (λ h. inr (h.0, h.1, stays (r.bearer r.served) h.0 h.2 (ap queued h.3), h.3)) r.slot;
        ticketed = λ t a b. let h = r.ticketed t a b in (h.0, stays (r.bearer t) h.0 h.1 (⊎_elim (λ q. ap queued q) (λ q. ap queued q.1) h.2), h.2);
        each = at_end New (set s.views id l) w new (length-set s.views id l)
            record { same = λ _. refl; counts = (omega arith, omega arith); full = λ _. omega arith; lists = λ i q e. let o = mine.lists i q e in (o.0, o.1, moved_there id new r.owner q.0 o.2, o.3); stage = tt }
            (set_each New s.views id l
            record { same = λ _. refl; counts = (omega arith, omega arith); full = λ out. let a = mine.full out in omega arith; lists = λ i q no. absurd (some-ne-none q (sym no)); stage = tt }
            (λ j u other e. let h = r.each j u e in record { same = h.same; counts = h.counts; full = h.full; lists = λ i q e'. let o = h.lists i q e' in (o.0, o.1, moved_else id new r.owner q.0 j o.2 other, o.3); stage = h.stage }));
      }

  -- what the seat with every part finds at the end
  pub ends : (s : St) → Rule s → (id : ℕ) (ls : List (ℕ × List E)) → get_elem? s.views id ≡ some (view (Some key) key.seats ls Idle)
      → (x : T) × (s.homes ≡ some (Some x) ∷ []) × (origin x ≡ origin key.start.value) × IsPrefix (entries key.start.value) (entries x) × ((i : ℕ) (q : ℕ × List E) → get_elem? ls i ≡ some q → own_entries client q.0 (entries x) ≡ q.1)
  ends s r id ls at = ⊎_elim
      (λ h. (h.0, h.1, h.3, subst (IsPrefix (entries key.start.value)) (sym h.2) r.begins, λ i q e. ap (own_entries client q.0) h.2 ∙ ((r.each id (view (Some key) key.seats ls Idle) at).lists i q e).3))
      (λ h. let v : V = view (Some key) key.seats ls Idle in
      let n = apart s.views id (r.bearer r.served) v h.0 at h.2 (λ same. let k = ap queued h.3 in omega arith) in
      let two = two-le-total parts_of s.views (r.bearer r.served) id h.0 v n h.2 at in
      let whole = r.whole in let one = (r.each (r.bearer r.served) h.0 h.2).counts.1 in let k = ap queued h.3 in absurd (omega arith))
      r.slot
