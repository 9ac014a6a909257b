-- A transfer leaves the sum of the balances as it was.
use Rattle.std.proofs.Common.{◌≡◌, ◌⊎◌, inl, inr, ◌≤◌, ◌<◌, ◌+◌, ◌-◌, ◌*◌, ◌%◌, ℕ, zero, suc, Bool, true, false, refl, sym, ap, ◌∙◌, subst, arith, add-one}
use Rattle.std.specs.Prelude.{if◌then◌else◌, nat_lt, nat_le, ◌==◌, ℤ, pos, neg_ℤ, ◌+ℤ◌, ◌-ℤ◌}
use Rattle.std.proofs.lemmas.Bool.{cases_Bool, cases_eq, cases_lt, eq-eqb, ne_eqb, le-leb, lt-leb, ltb-true, ltb-false}
use Rattle.std.proofs.lemmas.Int.{ints}
use Rattle.std.proofs.lemmas.Nat.{mod_below}
use Rattle.bank_run.specs.declared.inputs.bank.Bank.{Bank}
use Rattle.bank_run.specs.declared.inputs.transfer.Transfer.{Transfer}
use Rattle.bank_run.specs.inputs.Bank.{advanced, drawn, other_account, state_before, transfer_from, transfer_of}
use Rattle.bank_run.specs.inputs.Total.{balance_after, moved, sum_to, total}

-- ---- the accounts of a transfer

-- both are accounts, and they differ
record IsBetween (accounts : ℕ) (t : Transfer) : Type 0 where
  pub from_some : 1 ≤ t.from
  pub from_few : t.from ≤ accounts
  pub to_some : 1 ≤ t.to
  pub to_few : t.to ≤ accounts
  pub apart : t.from ≡ t.to → ⊥

record IsOther (accounts one n : ℕ) : Type 0 where
  pub some : 1 ≤ n
  pub few : n ≤ accounts
  pub apart : one ≡ n → ⊥

other_is : (accounts one n : ℕ) → 1 ≤ one → one ≤ accounts → 1 ≤ n → n + 1 ≤ accounts → IsOther accounts one (other_account one n)
other_is accounts one n some few more less = by_case (nat_lt n one) refl
  where
    by_case : (b : Bool) → nat_lt n one ≡ b → IsOther accounts one (if b then n else n + 1)
    by_case true e = let below : n < one = ltb-true n one e in record { some = more; few = omega (arith, less); apart = λ same. omega (arith, same, below) }
    by_case false e = let above : one ≤ n = ltb-false n one e in record { some = omega arith; few = less; apart = λ same. omega (arith, same, above) }

between : (accounts x : ℕ) → 2 ≤ accounts → IsBetween accounts (transfer_from accounts x)
between accounts x many =
    let a = mod_below (drawn (advanced x)) accounts (omega (arith, many)) in
    let b = mod_below (drawn (advanced (advanced x))) (accounts - 1) (omega (arith, many)) in
    let other = other_is accounts (drawn (advanced x) % accounts + 1) (drawn (advanced (advanced x)) % (accounts - 1) + 1) (omega arith) (omega (arith, a)) (omega arith) (omega (arith, b, many)) in
    record { from_some = omega arith; from_few = omega (arith, a); to_some = other.some; to_few = other.few; apart = other.apart }

-- ---- the sum over some accounts

-- what account n adds to the sum over the first k
abbrev part : ℕ → ℕ → ℤ → ℤ
part k n d = if nat_le n k then d else pos 0

part_in : (k n : ℕ) (d : ℤ) → n ≤ k → part k n d ≡ d
part_in k n d within = ap (λ b. if b then d else pos 0) (le-leb n k within)

part_out : (k n : ℕ) (d : ℤ) → k < n → part k n d ≡ pos 0
part_out k n d beyond = ap (λ b. if b then d else pos 0) (lt-leb n k beyond)

part_stays : (k n : ℕ) (d : ℤ) → (n ≡ suc k → ⊥) → part (suc k) n d ≡ part k n d
part_stays k n d other = by_case (cases_lt k n)
  where
    by_case : (k < n) ⊎ (n ≤ k) → part (suc k) n d ≡ part k n d
    by_case (inr within) = part_in (suc k) n d (omega (arith, within)) ∙ sym (part_in k n d within)
    by_case (inl beyond) = by_place (cases_lt (suc k) n)
      where
        by_place : (suc k < n) ⊎ (n ≤ suc k) → part (suc k) n d ≡ part k n d
        by_place (inl far) = part_out (suc k) n d far ∙ sym (part_out k n d beyond)
        by_place (inr near) = absurd (other (omega (arith, beyond, near)))

module _ (t : Transfer) where
  moved_from : (n : ℕ) (x : ℤ) → t.from ≡ n → moved t n x ≡ x -ℤ pos t.amount
  moved_from n x is = ap (λ b. if b then x -ℤ pos t.amount else (if t.to == n then x +ℤ pos t.amount else x)) (eq-eqb t.from n is)

  moved_to : (n : ℕ) (x : ℤ) → (t.from ≡ n → ⊥) → t.to ≡ n → moved t n x ≡ x +ℤ pos t.amount
  moved_to n x other is =
      ap (λ b. if b then x -ℤ pos t.amount else (if t.to == n then x +ℤ pos t.amount else x)) (ne_eqb t.from n other)
      ∙ ap (λ b. if b then x +ℤ pos t.amount else x) (eq-eqb t.to n is)

  moved_not : (n : ℕ) (x : ℤ) → (t.from ≡ n → ⊥) → (t.to ≡ n → ⊥) → moved t n x ≡ x
  moved_not n x other another =
      ap (λ b. if b then x -ℤ pos t.amount else (if t.to == n then x +ℤ pos t.amount else x)) (ne_eqb t.from n other)
      ∙ ap (λ b. if b then x +ℤ pos t.amount else x) (ne_eqb t.to n another)

  module _ (some_from : 1 ≤ t.from) (some_to : 1 ≤ t.to) (apart : t.from ≡ t.to → ⊥) (f : ℕ → ℤ) where
    by_to : (k : ℕ) → sum_to (λ n. moved t n (f n)) k ≡ (sum_to f k +ℤ part k t.from (neg_ℤ (pos t.amount))) +ℤ part k t.to (pos t.amount) → (t.from ≡ suc k → ⊥) → (t.to ≡ suc k) ⊎ (t.to ≡ suc k → ⊥) →
        sum_to (λ m. moved t m (f m)) k +ℤ moved t (suc k) (f (suc k)) ≡ ((sum_to f k +ℤ f (suc k)) +ℤ part (suc k) t.from (neg_ℤ (pos t.amount))) +ℤ part (suc k) t.to (pos t.amount)
    by_to k before other (inl is) =
        let gone = part_stays k t.from (neg_ℤ (pos t.amount)) other in
        let none = part_out k t.to (pos t.amount) (omega (arith, is)) in
        let here = part_in (suc k) t.to (pos t.amount) (omega (arith, is)) in
        let it = moved_to (suc k) (f (suc k)) other is in
        omega (arith, ints, before, gone, none, here, it)
    by_to k before other (inr another) =
        let gone = part_stays k t.from (neg_ℤ (pos t.amount)) other in
        let came = part_stays k t.to (pos t.amount) another in
        let it = moved_not (suc k) (f (suc k)) other another in
        omega (arith, ints, before, gone, came, it)

    by_from : (k : ℕ) → sum_to (λ n. moved t n (f n)) k ≡ (sum_to f k +ℤ part k t.from (neg_ℤ (pos t.amount))) +ℤ part k t.to (pos t.amount) → (t.from ≡ suc k) ⊎ (t.from ≡ suc k → ⊥) →
        sum_to (λ m. moved t m (f m)) k +ℤ moved t (suc k) (f (suc k)) ≡ ((sum_to f k +ℤ f (suc k)) +ℤ part (suc k) t.from (neg_ℤ (pos t.amount))) +ℤ part (suc k) t.to (pos t.amount)
    by_from k before (inl is) =
        let none = part_out k t.from (neg_ℤ (pos t.amount)) (omega (arith, is)) in
        let here = part_in (suc k) t.from (neg_ℤ (pos t.amount)) (omega (arith, is)) in
        let came = part_stays k t.to (pos t.amount) (λ same. apart (is ∙ sym same)) in
        let it = moved_from (suc k) (f (suc k)) is in
        omega (arith, ints, before, none, here, came, it)
    by_from k before (inr other) = by_to k before other (cases_eq t.to (suc k))

    -- the sum over the first k accounts after the transfer
    sum_moved : (k : ℕ) → sum_to (λ n. moved t n (f n)) k ≡ (sum_to f k +ℤ part k t.from (neg_ℤ (pos t.amount))) +ℤ part k t.to (pos t.amount)
    sum_moved zero =
        let a = part_out zero t.from (neg_ℤ (pos t.amount)) (omega (arith, some_from)) in
        let b = part_out zero t.to (pos t.amount) (omega (arith, some_to)) in
        omega (arith, ints, a, b)
    sum_moved (suc k) =
        subst (λ n. sum_to (λ m. moved t m (f m)) k +ℤ moved t n (f n) ≡ ((sum_to f k +ℤ f n) +ℤ part (suc k) t.from (neg_ℤ (pos t.amount))) +ℤ part (suc k) t.to (pos t.amount)) (sym (add-one k))
        (by_from k (sum_moved k) (cases_eq t.from (suc k)))

-- ---- all transfers

at_first : (bank : Bank) (k : ℕ) → sum_to (balance_after bank zero) k ≡ pos (1000 * k)
at_first bank zero = refl
at_first bank (suc k) = let before = at_first bank k in omega (arith, ints, before)

stays : (bank : Bank) → 2 ≤ bank.accounts → (t : ℕ) → sum_to (balance_after bank t) bank.accounts ≡ pos (1000 * bank.accounts)
stays bank many zero = at_first bank bank.accounts
stays bank many (suc t) =
    let is = between bank.accounts (state_before bank.start t) many in
    let transfer : Transfer = transfer_of bank t in
    let moves = sum_moved transfer is.from_some is.to_some is.apart (balance_after bank t) bank.accounts in
    let gone = part_in bank.accounts transfer.from (neg_ℤ (pos transfer.amount)) is.from_few in
    let came = part_in bank.accounts transfer.to (pos transfer.amount) is.to_few in
    let before = stays bank many t in
    omega (arith, ints, moves, gone, came, before)

pub total_stays : (bank : Bank) → 2 ≤ bank.accounts → total bank ≡ pos (1000 * bank.accounts)
total_stays bank many = stays bank many bank.transfers
