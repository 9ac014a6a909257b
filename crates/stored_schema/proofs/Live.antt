-- Stored fields whose live numbers are these in order.
use Rattle.std.proofs.Common.{◌≡◌, ⊎_elim, ℕ, zero, suc, ◌+◌, ◌<◌, ◌≤◌, Bool, true, false, ◌==◌, ◌||◌, List, [], ◌∷◌, ◌++◌, get_or, Option, Some, None, refl, sym, ap, ◌∙◌, subst, arith}
use Rattle.std.specs.Prelude.{All, IfSome, IsFalse, option_to_list}
use Rattle.std.specs.List.{range_with_len}
use Rattle.std.proofs.lemmas.Bool.{cases_lt, or_right}
use Rattle.std.proofs.lemmas.Bool.Decides.{nat_tests}
use Rattle.std.proofs.lemmas.List.Elements.{All-nil}
use Rattle.stored_fields.specs.declared.field.StoredField.{StoredField}
use Rattle.stored_fields.specs.Rows.{AreApart, has_number, is_live}
use Rattle.stored_schema.specs.Stored.{live_numbers}

-- what the numbers `a`, `a + 1`, .. of so many live fields say
pub record AreNumbered (a c : ℕ) (fs : List StoredField) : Type 0 where
  pub below : (n : ℕ) → n < a → is_live fs n ≡ false
  pub covered : (n : ℕ) → a ≤ n → n < a + c → is_live fs n ≡ true
  pub apart : AreApart fs
  pub within : All (λ (f : StoredField). IfSome f.live (λ n. n < a + c)) fs

abbrev Within : ℕ → StoredField → Type 0
Within limit f = IfSome f.live (λ n. n < limit)

cons : (limit : ℕ) (f : StoredField) (fs : List StoredField) → Within limit f → All (Within limit) fs → All (Within limit) (f ∷ fs)
cons limit f fs one more zero d lt = one
cons limit f fs one more (suc k) d lt = more k d (omega (arith, lt))

none_in : (a : ℕ) (c : ℕ) → [] ≡ range_with_len a c → c ≡ 0
none_in a zero h = refl
none_in a (suc c) h = cc

-- the first of a range
pub record IsFirst (k a c : ℕ) (more : List ℕ) : Type 0 where
  pub rest : ℕ
  pub count : c ≡ suc rest
  pub first : k ≡ a
  pub others : more ≡ range_with_len (a + 1) rest

first_of : (k a c : ℕ) (more : List ℕ) → k ∷ more ≡ range_with_len a c → IsFirst k a c more
first_of k a zero more h = cc
first_of k a (suc c) more h = record { rest = c; count = refl; first = cc; others = cc }

other : (k n : ℕ) → n < k → (k == n) ≡ false
other k n h = grind (arith, nat_tests)

own : (k n : ℕ) → n ≤ k → k ≤ n → (k == n) ≡ true
own k n h i = grind (arith, nat_tests)

covered_at : (k n : ℕ) (b : Bool) → k ≤ n → (k < n → b ≡ true) → ((k == n) || b) ≡ true
covered_at k n b le later = ⊎_elim (λ (less : k < n). or_right (k == n) b (later less)) (λ (ge : n ≤ k). ap (λ (t : Bool). t || b) (own k n ge le)) (cases_lt k n)

weaker : (live : Option ℕ) (m limit : ℕ) → m ≤ limit → IfSome live (λ n. n < m) → IfSome live (λ n. n < limit)
weaker None m limit le h = tt
weaker (Some n) m limit le h = omega (arith, le, h)

pub numbered : (a c : ℕ) (fs : List StoredField) → live_numbers fs ≡ range_with_len a c → AreNumbered a c fs
numbered a c [] h =
    let none = none_in a c h in
    record { below = λ n lt. refl; covered = λ n le lt. absurd (omega (arith, none, le, lt)); apart = tt; within = All-nil (Within (a + c)) }
numbered a c (f ∷ fs) h = by_live (λ a c e. numbered a c fs e) f.live refl h
  where
    by_live : ((a c : ℕ) → live_numbers fs ≡ range_with_len a c → AreNumbered a c fs) → (live : Option ℕ) → f.live ≡ live → option_to_list live ++ live_numbers fs ≡ range_with_len a c → AreNumbered a c (f ∷ fs)
    by_live again None is h =
        let more = again a c h in
        let test : (n : ℕ) → has_number f.live n ≡ false = λ n. ap (λ (l : Option ℕ). has_number l n) is in
        record {
          below = λ n lt. ap (λ (b : Bool). b || is_live fs n) (test n) ∙ more.below n lt;
          covered = λ n le lt. ap (λ (b : Bool). b || is_live fs n) (test n) ∙ more.covered n le lt;
          apart = (subst (λ (l : Option ℕ). IfSome l (λ n. IsFalse (is_live fs n))) (sym is) tt, more.apart);
          within = cons (a + c) f fs (subst (λ (l : Option ℕ). IfSome l (λ n. n < a + c)) (sym is) tt) more.within;
        }
    by_live again (Some k) is h =
        let first = first_of k a c (live_numbers fs) h in
        let more = again (a + 1) first.rest first.others in
        let test : (n : ℕ) → has_number f.live n ≡ (k == n) = λ n. ap (λ (l : Option ℕ). has_number l n) is in
        record {
          below = λ n lt. ap (λ (b : Bool). b || is_live fs n) (test n ∙ other k n (omega (arith, lt, first.first))) ∙ more.below n (omega (arith, lt));
          covered = λ n le lt. ap (λ (b : Bool). b || is_live fs n) (test n) ∙ covered_at k n (is_live fs n) (omega (arith, le, first.first)) (λ less. more.covered n (omega (arith, less, first.first)) (omega (arith, lt, first.count)));
          apart = (subst (λ (l : Option ℕ). IfSome l (λ n. IsFalse (is_live fs n))) (sym is) (more.below k (omega (arith, first.first))), more.apart);
          within = cons (a + c) f fs (subst (λ (l : Option ℕ). IfSome l (λ n. n < a + c)) (sym is) (omega (arith, first.first, first.count))) (λ i d lt. weaker (get_or fs i d).live (a + 1 + first.rest) (a + c) (omega (arith, first.count)) (more.within i d lt));
        }
