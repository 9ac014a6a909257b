-- A chain is written, and then zeros into other slots.
use Rattle.std.proofs.Common.{◌≡◌, ◌≢◌, ℕ, zero, suc, ◌+◌, ◌≤◌, List, [], ◌∷◌, ◌++◌, length, sym, ap, ◌∙◌, subst, arith, length-append}
use Rattle.std.specs.List.{Contains}
use Rattle.storage.specs.Slots.{SlotState, Transaction}
use Rattle.row_fragments.specs.Fragments.{AreDistinct, AreRowSlots}
use Rattle.row_fragments.specs.Calls.{CanTouch, Wrote}
use Rattle.row_fragments.proofs.Within.{none_in, left_in, parted, right_in}
use Rattle.row_fragments.proofs.Composes.{wrote_both}

pub rows_left : (xs ys : List ℕ) → AreRowSlots (xs ++ ys) → AreRowSlots xs
rows_left [] ys h = tt
rows_left (x ∷ xs) ys h = (h.0, h.1, rows_left xs ys h.2)

rows_right : (xs ys : List ℕ) → AreRowSlots (xs ++ ys) → AreRowSlots ys
rows_right [] ys h = h
rows_right (x ∷ xs) ys h = rows_right xs ys h.2

distinct_left : (xs ys : List ℕ) → AreDistinct (xs ++ ys) → AreDistinct xs
distinct_left [] ys h = tt
distinct_left (x ∷ xs) ys h = (λ there. h.0 (left_in xs ys x there), distinct_left xs ys h.1)

distinct_right : (xs ys : List ℕ) → AreDistinct (xs ++ ys) → AreDistinct ys
distinct_right [] ys h = h
distinct_right (x ∷ xs) ys h = distinct_right xs ys h.1

apart_parts : (xs ys : List ℕ) → AreDistinct (xs ++ ys) → (k : ℕ) → Contains xs k → ¬ Contains ys k
apart_parts [] ys h k there here = none_in k there
apart_parts (x ∷ xs) ys h k (zero, within, is) here = h.0 (right_in xs ys x (subst (Contains ys) (sym is) here))
apart_parts (x ∷ xs) ys h k (suc i, within, is) here = apart_parts xs ys h.1 k (i, omega arith, is) here

module _ (client : ℕ) (chain freed : List ℕ) (s : SlotState) (can : CanTouch s client (chain ++ freed)) where
  pub chain_can : CanTouch s client chain
  chain_can = record {
    begun = can.begun;
    alone = λ k there. can.alone k (left_in chain freed k there);
    rows = rows_left chain freed can.rows;
    distinct = distinct_left chain freed can.distinct;
    room = let all = can.room in omega (arith, all, length-append chain freed);
    few = let all = can.few in omega (arith, all, length-append chain freed);
  }

  pub freed_can : (t : SlotState) → Wrote s t client chain → (s.transaction client).room ≤ (t.transaction client).room + length chain → ((c : ℕ) → c ≢ client → t.transaction c ≡ s.transaction c) → (t.transaction client).begun ≡ (s.transaction client).begun → CanTouch t client freed
  freed_can t w left others begun = record {
    begun = begun ∙ can.begun;
    alone = λ k there other ne lt is_begun.
        let same = others other ne in
        ap (λ (x : Transaction). x.written k) same ∙ can.alone k (right_in chain freed k there) other ne lt (sym (ap (λ (x : Transaction). x.begun) same) ∙ is_begun);
    rows = rows_right chain freed can.rows;
    distinct = distinct_right chain freed can.distinct;
    room = let all = can.room in omega (arith, all, left, length-append chain freed);
    few = let all = can.few in let more = w.counted in omega (arith, all, more, length-append chain freed);
  }

  module _ (t u : SlotState) (seen : t.observable ≡ s.observable) (f : Wrote s t client chain) (g : Wrote t u client freed) where
    pub all_wrote : Wrote s u client (chain ++ freed)
    all_wrote = wrote_both s t u client chain freed (chain ++ freed) seen (apart_parts chain freed can.distinct)
        (λ k out. (λ there. out (left_in chain freed k there), λ there. out (right_in chain freed k there))) (parted chain freed) (length-append chain freed) f g
