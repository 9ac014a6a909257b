-- The list of the clients' moves.
use Rattle.std.proofs.Common.{◌≡◌, ◌≢◌, ℕ, zero, suc, ◌<◌, inl, inr, List, [], ◌∷◌, ◌++◌, length, slice_index_or, slice_set, vec_capacity, refl, sym, ap, ◌∙◌, subst, arith}
use Rattle.std.proofs.lemmas.Bool.{cases_eq}
use Rattle.row_indexes.specs.declared.moves.Moved.{Moved}
use Rattle.row_moves.specs.declared.client_moves.ClientMoves.{ClientMoves}
use Rattle.row_moves.specs.Moved.{HasRoom, moved_in}

pub moved_at : (xs : List ClientMoves) (c : ℕ) (x : ClientMoves) → c < length xs → x ≡ slice_index_or xs c x → moved_in xs c ≡ x.changes.items
moved_at [] c x lt is = absurd (omega arith)
moved_at (y ∷ xs) zero x lt is = ap (λ (z : ClientMoves). z.changes.items) (sym is)
moved_at (y ∷ xs) (suc c) x lt is = moved_at xs c x (omega arith) is

pub set_same : (xs : List ClientMoves) (c : ℕ) (x : ClientMoves) → c < length xs → moved_in (slice_set xs c x) c ≡ x.changes.items
set_same [] c x lt = absurd (omega arith)
set_same (y ∷ xs) zero x lt = refl
set_same (y ∷ xs) (suc c) x lt = set_same xs c x (omega arith)

pub set_other : (xs : List ClientMoves) (c d : ℕ) (x : ClientMoves) → d ≢ c → moved_in (slice_set xs c x) d ≡ moved_in xs d
set_other [] c d x ne = refl
set_other (y ∷ xs) zero zero x ne = absurd (ne refl)
set_other (y ∷ xs) zero (suc d) x ne = refl
set_other (y ∷ xs) (suc c) zero x ne = refl
set_other (y ∷ xs) (suc c) (suc d) x ne = set_other xs c d x (λ e. ne (ap suc e))

pub room_at : (xs : List ClientMoves) (c : ℕ) (x : ClientMoves) → c < length xs → x ≡ slice_index_or xs c x → HasRoom xs c → length x.changes.items < vec_capacity x.changes
room_at [] c x lt is room = absurd room
room_at (y ∷ xs) zero x lt is room = subst (λ (z : ClientMoves). length z.changes.items < vec_capacity z.changes) (sym is) room
room_at (y ∷ xs) (suc c) x lt is room = room_at xs c x (omega arith) is room

pub room_set : (xs : List ClientMoves) (c : ℕ) (x : ClientMoves) → c < length xs → length x.changes.items < vec_capacity x.changes → HasRoom (slice_set xs c x) c
room_set [] c x lt room = absurd (omega arith)
room_set (y ∷ xs) zero x lt room = room
room_set (y ∷ xs) (suc c) x lt room = room_set xs c x (omega arith) room

pub moved_more : (xs : List ClientMoves) (x : ClientMoves) → x.changes.items ≡ [] → ((c : ℕ) → moved_in xs c ≡ []) → (c : ℕ) → moved_in (xs ++ x ∷ []) c ≡ []
moved_more [] x is all zero = is
moved_more [] x is all (suc c) = refl
moved_more (y ∷ xs) x is all zero = all zero
moved_more (y ∷ xs) x is all (suc c) = moved_more xs x is (λ d. all (suc d)) c

pub set_kept : (xs : List ClientMoves) (c : ℕ) (x y : ClientMoves) → c < length xs → x ≡ slice_index_or xs c x → y.changes.items ≡ x.changes.items → (d : ℕ) → moved_in (slice_set xs c y) d ≡ moved_in xs d
set_kept xs c x y lt is same d = elim (cases_eq d c) [
  | inl e ↦ ap (moved_in (slice_set xs c y)) e ∙ (set_same xs c y lt ∙ (same ∙ (sym (moved_at xs c x lt is) ∙ ap (moved_in xs) (sym e))))
  | inr ne ↦ set_other xs c d y ne
]
