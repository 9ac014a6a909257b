-- Ascending lists of the numbers for which a fact holds.
use Rattle.std.proofs.Common.{ℕ, suc, ◌+◌, ◌<◌, Bool, List, [], ◌∷◌, ◌++◌, length, inl, inr, refl, sym, subst, ◌∙◌, arith}
use Rattle.std.specs.List.{Contains}
use Rattle.std.proofs.lemmas.Bool.{cases_lt, cases_eq}
use Rattle.std.proofs.lemmas.List.{get_or_append_left, length_push}
use Rattle.std.proofs.lemmas.List.Elements.{Contains-push, Contains-push_cases}
use Rattle.database_meaning.specs.Waiting.{IsAscending, ListsAll, LocksConflict}
use Rattle.record_locks.specs.declared.locks.Client.{Client}
use Rattle.record_locks.specs.Table.{ConflictsOnLock}
use Rattle.record_locks.proofs.Tables.{lock_past}

-- an element stays when another is appended
pub Contains-more : {X : Type 0} (xs : List X) (y x : X) → Contains xs x → Contains (xs ++ y ∷ []) x
Contains-more xs y x (k, within, is) = (k, omega (arith, length_push xs y), get_or_append_left xs (y ∷ []) x k within ∙ is)

-- the list contains the numbers below n for which the fact holds, in ascending order
pub record ListsBelow (n : ℕ) (P : ℕ → Type 0) (xs : List ℕ) : Type 0 where
  pub ascending : IsAscending xs
  pub below : (d : ℕ) → Contains xs d → d < n
  pub each : (d : ℕ) → Contains xs d → P d
  pub all : (d : ℕ) → d < n → P d → Contains xs d

not_in_none : (d : ℕ) → ¬ Contains [] d
not_in_none d (k, within, is) = absurd (omega arith)

pub none_listed : (P : ℕ → Type 0) → ListsBelow 0 P []
none_listed P = record {
  ascending = tt;
  below = λ d has. absurd (not_in_none d has);
  each = λ d has. absurd (not_in_none d has);
  all = λ d below holds. absurd (omega arith);
}

ascending_push : (xs : List ℕ) (n : ℕ) → IsAscending xs → ((d : ℕ) → Contains xs d → d < n) → IsAscending (xs ++ n ∷ [])
ascending_push [] n up below = tt
ascending_push (x ∷ []) n up below = (below x (0, omega arith, refl), tt)
ascending_push (x ∷ y ∷ xs) n up below = (up.0, ascending_push (y ∷ xs) n up.1 (λ d has. below d (suc has.0, omega (arith, has.1), has.2)))

-- the next number, if the fact holds for it
pub listed_more : (n : ℕ) (P : ℕ → Type 0) (xs : List ℕ) → ListsBelow n P xs → P n → ListsBelow (n + 1) P (xs ++ n ∷ [])
listed_more n P xs lists holds = record {
  ascending = ascending_push xs n lists.ascending lists.below;
  below = λ d has. elim (Contains-push_cases xs n d has) [ inl before ↦ let h : d < n = lists.below d before in omega arith | inr is ↦ omega arith ];
  each = λ d has. elim (Contains-push_cases xs n d has) [ inl before ↦ lists.each d before | inr is ↦ subst P is holds ];
  all = λ d below here. elim (cases_eq n d) [
    | inl is ↦ subst (Contains (xs ++ n ∷ [])) is (Contains-push xs n)
    | inr apart ↦ Contains-more xs n d (lists.all d (omega arith) here)
  ];
}

-- the next number, if the fact does not hold for it
pub skipped_more : (n : ℕ) (P : ℕ → Type 0) (xs : List ℕ) → ListsBelow n P xs → ¬ P n → ListsBelow (n + 1) P xs
skipped_more n P xs lists not = record {
  ascending = lists.ascending;
  below = λ d has. let h : d < n = lists.below d has in omega arith;
  each = lists.each;
  all = λ d below here. elim (cases_eq n d) [ inl is ↦ absurd (not (subst P (sym is) here)) | inr apart ↦ lists.all d (omega arith) here ];
}

-- if the fact holds only below n, the list contains all numbers for which it holds
pub all_listed : (n : ℕ) (P : ℕ → Type 0) (xs : List ℕ) → ((d : ℕ) → P d → d < n) → ListsBelow n P xs → ListsAll xs P
all_listed n P xs within lists = (lists.ascending, (λ d. (lists.each d, (λ here. lists.all d (within d here) here))))

-- a client whose lock conflicts is in the table
pub stands_within : (table : List Client) (c row : ℕ) (exclusive : Bool) (d : ℕ) → ConflictsOnLock table c row exclusive d → d < length table
stands_within table c row exclusive d stands = elim (cases_lt d (length table)) [
  | inl within ↦ within
  | inr past ↦ absurd (subst (λ lock. LocksConflict lock exclusive) (lock_past table d row past) stands.1)
]
