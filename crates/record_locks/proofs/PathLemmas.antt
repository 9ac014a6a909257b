-- Paths of a search, and why the end of the search means that no cycle would close.
use Rattle.std.proofs.Common.{◌≡◌, ◌≢◌, ℕ, zero, suc, ◌+◌, ◌<◌, ◌≤◌, List, [], ◌∷◌, ◌++◌, length, get_or, inl, inr, refl, sym, ap, subst, ◌∙◌, arith}
use Rattle.std.specs.List.{Contains}
use Rattle.std.proofs.lemmas.Bool.{cases_lt, cases_eq}
use Rattle.std.proofs.lemmas.List.{get_or_append_left, length_push}
use Rattle.std.proofs.lemmas.List.Elements.{All-push, All-weaker, Contains-push_cases}
use Rattle.std.proofs.lemmas.List.Quantifiers.{Any-push}
use Rattle.database_meaning.specs.Waiting.{Chain, IsDistinct, IsCycleFrom}
use Rattle.record_locks.specs.declared.search.Path.{Path}
use Rattle.record_locks.specs.declared.locks.Client.{Client}
use Rattle.record_locks.specs.declared.locks.KeyWait.{KeyWait}
use Rattle.record_locks.specs.Table.{Waits, WaitsAgainst}
use Rattle.record_locks.specs.Paths.{Leads, IsReached, IsPath, ArePaths, Extends, IsFollowed, AreDone}

-- ---- one more client at the end of a path

leads_push : (W : ℕ → ℕ → Type 0) (a : ℕ) (xs : List ℕ) (b c : ℕ) → Leads W a xs b → W b c → Leads W a (xs ++ c ∷ []) c
leads_push W a [] b c leads waits = (subst (λ x. W x c) (sym leads) waits, refl)
leads_push W a (x ∷ xs) b c leads waits = (leads.0, leads_push W x xs b c leads.1 waits)

-- a path whose end waits for b is a chain to b
pub leads_chain : (W : ℕ → ℕ → Type 0) (a : ℕ) (xs : List ℕ) (end b : ℕ) → Leads W a xs end → W end b → Chain W a xs b
leads_chain W a [] end b leads waits = subst (λ x. W x b) (sym leads) waits
leads_chain W a (x ∷ xs) end b leads waits = (leads.0, leads_chain W x xs end b leads.1 waits)

distinct_push : (xs : List ℕ) (b : ℕ) → IsDistinct xs → ¬ Contains xs b → IsDistinct (xs ++ b ∷ [])
distinct_push [] b distinct new = ((λ has. absurd (omega (arith, has.1))), tt)
distinct_push (x ∷ xs) b distinct new = (
  (λ has. elim (Contains-push_cases xs b x has) [ inl before ↦ distinct.0 before | inr is ↦ new (0, omega arith, sym is) ]),
  distinct_push xs b distinct.1 (λ has. new (suc has.0, omega (arith, has.1), has.2)),
)

-- ---- one more path

pub reached_more : (paths : List Path) (q : Path) (b : ℕ) → IsReached paths b → IsReached (paths ++ q ∷ []) b
reached_more paths q b (k, path, within, is, ends) = (k, path, omega (arith, length_push paths q), get_or_append_left paths (q ∷ []) path k within ∙ is, ends)

path_more : (W : ℕ → ℕ → Type 0) (c : ℕ) (paths : List Path) (q path : Path) → IsPath W c paths path → IsPath W c (paths ++ q ∷ []) path
path_more W c paths q path is = record {
  others = is.others;
  way = is.way;
  leads = is.leads;
  distinct = is.distinct;
  reached = λ m has. reached_more paths q m (is.reached m has);
}

-- a path to a client that no path reached yet and that the end of a path waits for
longer_path : (W : ℕ → ℕ → Type 0) (c : ℕ) (paths : List Path) (path : Path) (b : ℕ) (q : Path) → IsPath W c paths path → ¬ IsReached paths b → W path.end b
    → q.end ≡ b → q.way.items ≡ path.way.items ++ b ∷ [] → IsPath W c (paths ++ q ∷ []) q
longer_path W c paths path b q is new waits ends way = record {
  others = is.others ++ b ∷ [];
  way = way ∙ ap (λ (xs : List ℕ). xs ++ b ∷ []) is.way;
  leads = subst (Leads W c (is.others ++ b ∷ [])) (sym ends) (leads_push W c is.others path.end b is.leads waits);
  distinct = distinct_push (c ∷ is.others) b is.distinct (λ has. new (is.reached b has));
  reached = λ m has. elim (Contains-push_cases (c ∷ is.others) b m has) [
    | inl before ↦ reached_more paths q m (is.reached m before)
    | inr same ↦ Any-push (λ path. path.end ≡ m) paths q (ends ∙ same)
  ];
}

pub paths_push : (W : ℕ → ℕ → Type 0) (c : ℕ) (paths : List Path) (path : Path) (b : ℕ) (q : Path) → ArePaths W c paths → IsPath W c paths path → ¬ IsReached paths b → W path.end b
    → q.end ≡ b → q.way.items ≡ path.way.items ++ b ∷ [] → ArePaths W c (paths ++ q ∷ [])
paths_push W c paths path b q are is new waits ends way =
    All-push (IsPath W c (paths ++ q ∷ [])) paths q (All-weaker (IsPath W c paths) (IsPath W c (paths ++ q ∷ [])) (path_more W c paths q) paths are)
    (longer_path W c paths path b q is new waits ends way)

-- the path of the client alone
pub first_path : (W : ℕ → ℕ → Type 0) (c : ℕ) (path : Path) → path.end ≡ c → path.way.items ≡ c ∷ [] → ArePaths W c (path ∷ [])
first_path W c path ends way zero d within = record {
  others = [];
  way = way;
  leads = sym ends;
  distinct = ((λ has. absurd (omega (arith, has.1))), tt);
  reached = λ m has. (0, path, omega arith, refl, ends ∙ only m has);
}
  where
    only : (m : ℕ) → Contains (c ∷ []) m → c ≡ m
    only m (zero, within, is) = is
    only m (suc k, within, is) = absurd (omega arith)
first_path W c path ends way (suc k) d within = absurd (omega arith)

-- ---- longer lists

pub extends_itself : (paths : List Path) → Extends paths paths
extends_itself paths = record { longer = omega arith; kept = λ j d within. refl }

pub extends_push : (old paths : List Path) (q : Path) → Extends old paths → Extends old (paths ++ q ∷ [])
extends_push old paths q ext = record {
  longer = omega (arith, length_push paths q, ext.longer);
  kept = λ j d within. let inside : j < length paths = omega (arith, ext.longer) in get_or_append_left paths (q ∷ []) d j inside ∙ ext.kept j d within;
}

pub reached_later : (old new : List Path) (b : ℕ) → Extends old new → IsReached old b → IsReached new b
reached_later old new b ext (k, path, within, is, ends) = (k, path, omega (arith, ext.longer), ext.kept k path within ∙ is, ends)

-- the next path is done too
pub done_more : (W : ℕ → ℕ → Type 0) (c bound : ℕ) (old new : List Path) (n : ℕ) → n < length old → Extends old new → AreDone W c bound old n
    → ((d : Path) → (¬ W (get_or old n d).end c) × IsFollowed W bound new (get_or old n d).end) → AreDone W c bound new (n + 1)
done_more W c bound old new n inside ext done here j d below within =
    elim (cases_lt j n) [
      | inl before ↦
          let old_j : j < length old = omega arith in
          let was = done j d before old_j in
          subst (λ (path : Path). (¬ W path.end c) × IsFollowed W bound new path.end) (sym (ext.kept j d old_j)) (was.0, (λ b small waits. reached_later old new b ext (was.1 b small waits)))
      | inr after ↦
          let same : n ≡ j = omega arith in
          subst (λ (k : ℕ). (¬ W (get_or new k d).end c) × IsFollowed W bound new (get_or new k d).end) same
          (subst (λ (path : Path). (¬ W path.end c) × IsFollowed W bound new path.end) (sym (ext.kept n d inside)) (here d))
    ]

-- ---- one path followed

-- the paths begin with the old ones, and reach each client below n that the end waits for
pub record IsFollowing (W : ℕ → ℕ → Type 0) (c : ℕ) (old : List Path) (end n : ℕ) (paths : List Path) : Type 0 where
  pub are : ArePaths W c paths
  pub extends : Extends old paths
  pub followed : IsFollowed W n paths end

pub follows_none : (W : ℕ → ℕ → Type 0) (c : ℕ) (old : List Path) (end : ℕ) → ArePaths W c old → IsFollowing W c old end 0 old
follows_none W c old end are = record { are = are; extends = extends_itself old; followed = λ b below waits. absurd (omega arith) }

-- a client that needs no path, since the end does not wait for it or a path leads to it
pub follows_skip : (W : ℕ → ℕ → Type 0) (c : ℕ) (old : List Path) (end n : ℕ) (paths : List Path) → IsFollowing W c old end n paths → (W end n → IsReached paths n)
    → IsFollowing W c old end (n + 1) paths
follows_skip W c old end n paths is here = record {
  are = is.are;
  extends = is.extends;
  followed = λ b below waits. elim (cases_eq n b) [
    | inl same ↦ subst (IsReached paths) same (here (subst (W end) (sym same) waits))
    | inr apart ↦ is.followed b (omega arith) waits
  ];
}

-- a client to which a path is added
pub follows_push : (W : ℕ → ℕ → Type 0) (c : ℕ) (old : List Path) (end n : ℕ) (paths : List Path) (path q : Path) (at : ℕ) → IsFollowing W c old end n paths
    → at < length old → path ≡ get_or paths at path → ((d : Path) → end ≡ (get_or old at d).end) → ¬ IsReached paths n → W end n → q.end ≡ n → q.way.items ≡ path.way.items ++ n ∷ []
    → IsFollowing W c old end (n + 1) (paths ++ q ∷ [])
follows_push W c old end n paths path q at is inside read ends new waits q_end q_way =
    let within : at < length paths = omega (arith, is.extends.longer) in
    let here : IsPath W c paths path = subst (IsPath W c paths) (sym read) (is.are at path within) in
    let same : end ≡ path.end = ends path ∙ ap (λ (p : Path). p.end) (sym (is.extends.kept at path inside)) ∙ ap (λ (p : Path). p.end) (sym read) in
    record {
      are = paths_push W c paths path n q is.are here new (subst (λ x. W x n) same waits) q_end q_way;
      extends = extends_push old paths q is.extends;
      followed = λ b below waits_b. elim (cases_eq n b) [
        | inl is_n ↦ Any-push (λ p. p.end ≡ b) paths q (q_end ∙ is_n)
        | inr apart ↦ reached_more paths q b (is.followed b (omega arith) waits_b)
      ];
    }

-- ---- the end of the search

-- where all paths are done, no chain leads from a client that was reached back to c
no_chain : (W : ℕ → ℕ → Type 0) (c bound : ℕ) (paths : List Path) → ((a b : ℕ) → a ≢ c → W a b → a < bound) → AreDone W c bound paths (length paths)
    → (a : ℕ) (xs : List ℕ) → IsReached paths a → ¬ Chain W a xs c
no_chain W c bound paths waiting done a [] (k, path, within, is, ends) chain =
    (done k path within within).0 (subst (λ x. W x c) (sym (ap (λ (p : Path). p.end) is ∙ ends)) chain)
no_chain W c bound paths waiting done a (x ∷ xs) (k, path, within, is, ends) chain =
    let here = done k path within within in
    let at_a : (get_or paths k path).end ≡ a = ap (λ (p : Path). p.end) is ∙ ends in
    let waits : W (get_or paths k path).end x = subst (λ y. W y x) (sym at_a) chain.0 in
    elim (cases_eq x c) [
      | inl same ↦ here.0 (subst (W (get_or paths k path).end) same waits)
      | inr apart ↦ no_chain W c bound paths waiting done x xs (here.1 x (starts x xs apart chain.1) waits) chain.1
    ]
  where
    starts : (x : ℕ) (xs : List ℕ) → x ≢ c → Chain W x xs c → x < bound
    starts x [] apart chain = waiting x c apart chain
    starts x (y ∷ ys) apart chain = waiting x y apart chain.0

-- so no cycle would close
pub no_cycle : (W : ℕ → ℕ → Type 0) (c bound : ℕ) (paths : List Path) (n : ℕ) → ((a b : ℕ) → a ≢ c → W a b → a < bound) → ArePaths W c paths → 0 < length paths → length paths ≤ n
    → AreDone W c bound paths n → (others : List ℕ) → ¬ Chain W c others c
no_cycle W c bound [] n waiting are some end done others chain = absurd (omega arith)
no_cycle W c bound (path ∷ paths) n waiting are some end done others chain =
    let first = are zero path some in
    no_chain W c bound (path ∷ paths) waiting (λ j d below within. done j d (omega arith) within) c others (first.reached c (zero, omega arith, refl)) chain

-- a path whose end waits for c is a cycle
pub is_cycle : (W : ℕ → ℕ → Type 0) (c : ℕ) (paths : List Path) (path : Path) (cycle : List ℕ) → IsPath W c paths path → W path.end c → cycle ≡ path.way.items → IsCycleFrom W c cycle
is_cycle W c paths path cycle is waits same =
    subst (IsCycleFrom W c) (sym (same ∙ is.way)) (refl, is.distinct, leads_chain W c is.others path.end c is.leads waits)

-- ---- the search

-- the paths found so far; the first n are done
pub record IsSearching (W : ℕ → ℕ → Type 0) (c bound : ℕ) (paths : List Path) (n : ℕ) : Type 0 where
  pub are : ArePaths W c paths
  pub some : 0 < length paths
  pub done : AreDone W c bound paths n

pub starts_search : (W : ℕ → ℕ → Type 0) (c bound : ℕ) (path : Path) → path.end ≡ c → path.way.items ≡ c ∷ [] → IsSearching W c bound (path ∷ []) 0
starts_search W c bound path ends way = record {
  are = first_path W c path ends way;
  some = omega arith;
  done = λ j d below within. absurd (omega arith);
}

pub goes_on : (W : ℕ → ℕ → Type 0) (c bound : ℕ) (old new : List Path) (n end : ℕ) → n < length old → IsSearching W c bound old n → ArePaths W c new → Extends old new
    → ((d : Path) → end ≡ (get_or old n d).end) → ¬ W end c → ((d : Path) → IsFollowed W bound new (get_or old n d).end) → IsSearching W c bound new (n + 1)
goes_on W c bound old new n end inside is are ext ends back followed = record {
  are = are;
  some = omega (arith, ext.longer, is.some);
  done = done_more W c bound old new n inside ext is.done (λ d. ((λ waits. back (subst (λ x. W x c) (sym (ends d)) waits)), followed d));
}

-- each waiting client except the one that asks is below the bound
pub waits_below : (table : List Client) (key_waits : List KeyWait) (c : ℕ) (against : List ℕ) (bound : ℕ) → ((a b : ℕ) → Waits table key_waits a b → a < bound)
    → (a b : ℕ) → a ≢ c → WaitsAgainst table key_waits c against a b → a < bound
waits_below table key_waits c against bound waiting a b apart waits = elim waits [ inl asks ↦ absurd (apart asks.0) | inr waits ↦ waiting a b waits.1 ]
