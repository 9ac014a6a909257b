-- Taking moves and changes back.
use Rattle.std.proofs.Common.{◌≡◌, ◌≢◌, ℕ, zero, suc, ◌<◌, ◌≤◌, Bool, true, false, cond, List, [], ◌∷◌, ◌++◌, length, drop, Option, Some, None, inl, inr, refl, sym, ap, ◌∙◌, subst, arith}
use Rattle.std.specs.Prelude.{IsTrue}
use Rattle.row_indexes.specs.declared.moves.Move.{Move}
use Rattle.row_indexes.specs.declared.moves.Moved.{Moved}
use Rattle.row_indexes.specs.Places.{AreKept, AreWithin, CanUndo, Keepers, Places, is_place, owner_before, owner_after, undone, with_place}
use Rattle.row_indexes.specs.Changes.{AreAllKept, AreAllWithin, CanUndoAll, IsOfRow, all_undone}
use Rattle.row_indexes.proofs.PlaceMoves.{IsAt, at_place, is_at, placed, not_placed}

-- ---- a move at the end

module _ (client row : ℕ) where
  pub taken_more : (moves : List Move) (m : Move) (places : Places) → undone client row (moves ++ m ∷ []) places ≡ undone client row moves (with_place places m row (owner_before client m))
  taken_more [] m places = refl
  taken_more (x ∷ moves) m places = ap (λ (p : Places). with_place p x row (owner_before client x)) (taken_more moves m places)

  -- the last one can be taken back, and then the others
  pub can_last : (moves : List Move) (m : Move) (places : Places) → CanUndo client row (moves ++ m ∷ []) places
      → CanUndo client row moves (with_place places m row (owner_before client m)) × (places m.index m.key row ≡ Some (owner_after client m))
  can_last [] m places h = h
  can_last (x ∷ moves) m places h =
      let rest = can_last moves m places h.0 in
      ((rest.0, ap (λ (p : Places). p x.index x.key row) (sym (taken_more moves m places)) ∙ h.1), rest.1)

  pub can_more : (moves : List Move) (m : Move) (places : Places) → CanUndo client row moves (with_place places m row (owner_before client m)) → places m.index m.key row ≡ Some (owner_after client m)
      → CanUndo client row (moves ++ m ∷ []) places
  can_more [] m places h is = (h, is)
  can_more (x ∷ moves) m places h is = (can_more moves m places h.0 is, ap (λ (p : Places). p x.index x.key row) (taken_more moves m places) ∙ h.1)

  -- ---- places where nothing stands

  pub taken_point : (moves : List Move) (places other : Places) (j : ℕ) (key : List ℕ) (at : ℕ) → other j key at ≡ places j key at → undone client row moves other j key at ≡ undone client row moves places j key at
  taken_point [] places other j key at e = e
  taken_point (x ∷ moves) places other j key at e = ap (λ (o : Option (Option ℕ)). cond (is_place x row j key at) (Some (owner_before client x)) o) (taken_point moves places other j key at e)

  pub none_stays : (moves : List Move) (places : Places) (j : ℕ) (key : List ℕ) (at : ℕ) → CanUndo client row moves places → places j key at ≡ None → undone client row moves places j key at ≡ None
  none_stays [] places j key at can e = e
  none_stays (x ∷ moves) places j key at can e = by_place (none_stays moves places j key at can.0 e) (is_place x row j key at) refl
    where
      by_place : undone client row moves places j key at ≡ None → (b : Bool) → is_place x row j key at ≡ b → undone client row (x ∷ moves) places j key at ≡ None
      by_place rest false no_place = not_placed (undone client row moves places) x row (owner_before client x) j key at no_place ∙ rest
      by_place rest true here =
          let is : IsAt x row j key at = is_at x row j key at here in
          let clash : None ≡ Some (owner_after client x) = sym rest ∙ (ap (λ (i : ℕ). undone client row moves places i key at) is.index ∙ (ap (λ (k : List ℕ). undone client row moves places x.index k at) is.key_is ∙ (ap (undone client row moves places x.index x.key) is.row_is ∙ can.1))) in
          cc

  -- what can be taken back is not at a place where nothing stands
  pub can_fresh : (moves : List Move) (places other : Places) → CanUndo client row moves places → ((j : ℕ) (key : List ℕ) (at : ℕ) → places j key at ≢ None → other j key at ≡ places j key at) → CanUndo client row moves other
  can_fresh [] places other can same = tt
  can_fresh (x ∷ moves) places other can same = (
    can_fresh moves places other can.0 same,
    taken_point moves places other x.index x.key row (same x.index x.key row (λ none. let clash : None ≡ Some (owner_after client x) = sym (none_stays moves places x.index x.key row can.0 none) ∙ can.1 in cc)) ∙ can.1,
  )

-- ---- a move more

with_twice : (places : Places) (m : Move) (row : ℕ) (a b : Option ℕ) → with_place (with_place places m row a) m row b ≡ with_place places m row b
with_twice places m row a b = λ i j key at. by_place j key at (is_place m row j key at) refl i
  where
    by_place : (j : ℕ) (key : List ℕ) (at : ℕ) (c : Bool) → is_place m row j key at ≡ c → with_place (with_place places m row a) m row b j key at ≡ with_place places m row b j key at
    by_place j key at true e = placed (with_place places m row a) m row b j key at e ∙ sym (placed places m row b j key at e)
    by_place j key at false e = not_placed (with_place places m row a) m row b j key at e ∙ (not_placed places m row a j key at e ∙ sym (not_placed places m row b j key at e))

with_own : (places : Places) (m : Move) (row : ℕ) (a : Option ℕ) → places m.index m.key row ≡ Some a → with_place places m row a ≡ places
with_own places m row a is = λ i j key at. by_place j key at (is_place m row j key at) refl i
  where
    by_place : (j : ℕ) (key : List ℕ) (at : ℕ) (c : Bool) → is_place m row j key at ≡ c → with_place places m row a j key at ≡ places j key at
    by_place j key at true e =
        let h : IsAt m row j key at = is_at m row j key at e in
        placed places m row a j key at e ∙ sym (ap (λ (i : ℕ). places i key at) h.index ∙ (ap (λ (k : List ℕ). places m.index k at) h.key_is ∙ (ap (places m.index m.key) h.row_is ∙ is)))
    by_place j key at false e = not_placed places m row a j key at e

placed_own : (places : Places) (m : Move) (row : ℕ) (a : Option ℕ) → with_place places m row a m.index m.key row ≡ Some a
placed_own places m row a = placed places m row a m.index m.key row (at_place m row m.index m.key row refl refl refl)

pub one_more_again : (client row : ℕ) (moves : List Move) (m : Move) (places : Places) → CanUndo client row moves places → places m.index m.key row ≡ Some (owner_before client m)
    → CanUndo client row (moves ++ m ∷ []) (with_place places m row (owner_after client m))
one_more_again client row moves m places can is =
    can_more client row moves m (with_place places m row (owner_after client m))
    (subst (CanUndo client row moves) (sym (with_twice places m row (owner_after client m) (owner_before client m) ∙ with_own places m row (owner_before client m) is)) can)
    (placed_own places m row (owner_after client m))

-- a place where nothing stands can be filled
pub filled : (places : Places) (m : Move) (row : ℕ) (a : Option ℕ) → places m.index m.key row ≡ None → (j : ℕ) (key : List ℕ) (at : ℕ) → places j key at ≢ None → with_place places m row a j key at ≡ places j key at
filled places m row a none j key at some = by_place (is_place m row j key at) refl
  where
    by_place : (c : Bool) → is_place m row j key at ≡ c → with_place places m row a j key at ≡ places j key at
    by_place false e = not_placed places m row a j key at e
    by_place true e =
        let h : IsAt m row j key at = is_at m row j key at e in
        absurd (some (ap (λ (i : ℕ). places i key at) h.index ∙ (ap (λ (k : List ℕ). places m.index k at) h.key_is ∙ (ap (places m.index m.key) h.row_is ∙ none))))

pub one_more_fresh : (client row : ℕ) (moves : List Move) (m : Move) (places : Places) → CanUndo client row moves places → places m.index m.key row ≡ None
    → CanUndo client row (moves ++ m ∷ []) (with_place places m row (owner_after client m))
one_more_fresh client row moves m places can none =
    can_more client row moves m (with_place places m row (owner_after client m))
    (subst (CanUndo client row moves) (sym (with_twice places m row (owner_after client m) (owner_before client m)))
    (can_fresh client row moves places (with_place places m row (owner_before client m)) can (filled places m row (owner_before client m) none)))
    (placed_own places m row (owner_after client m))

-- ---- the last move, and the last change

pub kept_last : (client : ℕ) (moves : List Move) (m : Move) (keepers : Keepers) → AreKept client (moves ++ m ∷ []) keepers → AreKept client moves keepers × (IsTrue m.unique → keepers m.index m.key ≡ Some client)
kept_last client [] m keepers h = (tt, h.0)
kept_last client (x ∷ moves) m keepers h = let rest = kept_last client moves m keepers h.1 in ((h.0, rest.0), rest.1)

pub within_last : (count : ℕ) (moves : List Move) (m : Move) → AreWithin count (moves ++ m ∷ []) → AreWithin count moves × (m.index < count)
within_last count [] m h = (tt, h.0)
within_last count (x ∷ moves) m h = let rest = within_last count moves m h.1 in ((h.0, rest.0), rest.1)

pub all_kept_last : (client : ℕ) (changes : List Moved) (c : Moved) (keepers : Keepers) → AreAllKept client (changes ++ c ∷ []) keepers → AreAllKept client changes keepers × AreKept client c.moves.items keepers
all_kept_last client [] c keepers h = (tt, h.0)
all_kept_last client (x ∷ changes) c keepers h = let rest = all_kept_last client changes c keepers h.1 in ((h.0, rest.0), rest.1)

pub all_within_last : (count : ℕ) (changes : List Moved) (c : Moved) → AreAllWithin count (changes ++ c ∷ []) → AreAllWithin count changes × AreWithin count c.moves.items
all_within_last count [] c h = (tt, h.0)
all_within_last count (x ∷ changes) c h = let rest = all_within_last count changes c h.1 in ((h.0, rest.0), rest.1)

pub all_taken_more : (client : ℕ) (changes : List Moved) (c : Moved) (places : Places) → all_undone client (changes ++ c ∷ []) places ≡ all_undone client changes (undone client c.row c.moves.items places)
all_taken_more client [] c places = refl
all_taken_more client (x ∷ changes) c places = ap (undone client x.row x.moves.items) (all_taken_more client changes c places)

pub all_can_last : (client : ℕ) (changes : List Moved) (c : Moved) (places : Places) → CanUndoAll client (changes ++ c ∷ []) places
    → CanUndoAll client changes (undone client c.row c.moves.items places) × CanUndo client c.row c.moves.items places
all_can_last client [] c places h = h
all_can_last client (x ∷ changes) c places h =
    let rest = all_can_last client changes c places h.0 in
    ((rest.0, subst (CanUndo client x.row x.moves.items) (all_taken_more client changes c places) h.1), rest.1)

pub all_can_more : (client : ℕ) (changes : List Moved) (c : Moved) (places : Places) → CanUndoAll client changes (undone client c.row c.moves.items places) → CanUndo client c.row c.moves.items places
    → CanUndoAll client (changes ++ c ∷ []) places
all_can_more client [] c places h last = (tt, last)
all_can_more client (x ∷ changes) c places h last =
    (all_can_more client changes c places h.0 last, subst (CanUndo client x.row x.moves.items) (sym (all_taken_more client changes c places)) h.1)

drop_more : {A : Type 0} (xs ys : List A) (n : ℕ) → n ≤ length xs → drop n (xs ++ ys) ≡ drop n xs ++ ys
drop_more xs ys zero le = refl
drop_more [] ys (suc n) le = absurd (omega arith)
drop_more (x ∷ xs) ys (suc n) le = drop_more xs ys n (omega arith)

-- taking back the last change and then those since the mark is taking back all since the mark
pub back_more : (client : ℕ) (mark : ℕ) (changes rest : List Moved) (c : Moved) (places : Places) → changes ≡ rest ++ c ∷ [] → mark ≤ length rest
    → all_undone client (drop mark rest) (undone client c.row c.moves.items places) ≡ all_undone client (drop mark changes) places
back_more client mark changes rest c places is le =
    sym (ap (λ (cs : List Moved). all_undone client (drop mark cs) places) is
    ∙ (ap (λ (cs : List Moved). all_undone client cs places) (drop_more rest (c ∷ []) mark le) ∙ all_taken_more client (drop mark rest) c places))

-- ---- rows apart

-- moves of a row leave the places of other rows
pub taken_apart : (client row : ℕ) (moves : List Move) (places : Places) (j : ℕ) (key : List ℕ) (at : ℕ) → at ≢ row → undone client row moves places j key at ≡ places j key at
taken_apart client row [] places j key at ne = refl
taken_apart client row (x ∷ moves) places j key at ne = by_place (taken_apart client row moves places j key at ne) (is_place x row j key at) refl
  where
    by_place : undone client row moves places j key at ≡ places j key at → (b : Bool) → is_place x row j key at ≡ b → undone client row (x ∷ moves) places j key at ≡ places j key at
    by_place rest false e = not_placed (undone client row moves places) x row (owner_before client x) j key at e ∙ rest
    by_place rest true e = let h : IsAt x row j key at = is_at x row j key at e in absurd (ne h.row_is)

-- what can be taken back looks at the places of its row alone
pub can_apart : (client row : ℕ) (moves : List Move) (places other : Places) → ((j : ℕ) (key : List ℕ) → other j key row ≡ places j key row) → CanUndo client row moves places → CanUndo client row moves other
can_apart client row [] places other same h = tt
can_apart client row (x ∷ moves) places other same h =
    (can_apart client row moves places other same h.0, taken_point client row moves places other x.index x.key row (same x.index x.key) ∙ h.1)

pub all_taken_point : (client : ℕ) (changes : List Moved) (places other : Places) (j : ℕ) (key : List ℕ) (at : ℕ) → other j key at ≡ places j key at → all_undone client changes other j key at ≡ all_undone client changes places j key at
all_taken_point client [] places other j key at e = e
all_taken_point client (c ∷ changes) places other j key at e =
    taken_point client c.row c.moves.items (all_undone client changes places) (all_undone client changes other) j key at (all_taken_point client changes places other j key at e)

pub all_can_apart : (client : ℕ) (changes : List Moved) (places other : Places) → ((j : ℕ) (key : List ℕ) (at : ℕ) → IsOfRow changes at → other j key at ≡ places j key at)
    → CanUndoAll client changes places → CanUndoAll client changes other
all_can_apart client [] places other same h = tt
all_can_apart client (c ∷ changes) places other same h = (
  all_can_apart client changes places other (λ j key at there. same j key at (inr there)) h.0,
  can_apart client c.row c.moves.items (all_undone client changes places) (all_undone client changes other)
      (λ j key. all_taken_point client changes places other j key c.row (same j key c.row (inl refl))) h.1,
)

-- where nothing stands, nothing is taken back
pub all_none : (client : ℕ) (changes : List Moved) (places : Places) (j : ℕ) (key : List ℕ) (at : ℕ) → CanUndoAll client changes places → places j key at ≡ None → all_undone client changes places j key at ≡ None
all_none client [] places j key at can e = e
all_none client (c ∷ changes) places j key at can e = none_stays client c.row c.moves.items (all_undone client changes places) j key at can.1 (all_none client changes places j key at can.0 e)

pub all_can_fresh : (client : ℕ) (changes : List Moved) (places other : Places) → CanUndoAll client changes places
    → ((j : ℕ) (key : List ℕ) (at : ℕ) → places j key at ≢ None → other j key at ≡ places j key at) → CanUndoAll client changes other
all_can_fresh client [] places other can same = tt
all_can_fresh client (c ∷ changes) places other can same = (
  all_can_fresh client changes places other can.0 same,
  can_fresh client c.row c.moves.items (all_undone client changes places) (all_undone client changes other) can.1
      (λ j key at some. all_taken_point client changes places other j key at (same j key at (λ none. some (all_none client changes places j key at can.0 none)))),
)

-- ---- the change at the end, with a move more

with_same : (places : Places) (m : Move) (row : ℕ) (a : Option ℕ) (j : ℕ) (key : List ℕ) (at : ℕ) → places j key at ≢ None → places m.index m.key row ≡ None → with_place places m row a j key at ≡ places j key at
with_same places m row a j key at some none = filled places m row a none j key at some

-- taking back a move that entered where nothing stood leaves a placeholder, and the rest as it was
pub fresh_left : (client row : ℕ) (moves : List Move) (m : Move) (places : Places) → CanUndo client row moves places → places m.index m.key row ≡ None
    → (j : ℕ) (key : List ℕ) (at : ℕ) → undone client row moves places j key at ≢ None
    → undone client row (moves ++ m ∷ []) (with_place places m row (owner_after client m)) j key at ≡ undone client row moves places j key at
fresh_left client row moves m places can none j key at some =
    ap (λ (p : Places). p j key at) (taken_more client row moves m (with_place places m row (owner_after client m)))
    ∙ (ap (λ (p : Places). undone client row moves p j key at) (with_twice places m row (owner_after client m) (owner_before client m))
    ∙ taken_point client row moves places (with_place places m row (owner_before client m)) j key at
    (filled places m row (owner_before client m) none j key at (λ e. some (none_stays client row moves places j key at can e))))

-- a move more in the change that is under way
pub grown_fresh : (client row : ℕ) (changes : List Moved) (moves : List Move) (m : Move) (places : Places)
    → CanUndoAll client changes (undone client row moves places) → CanUndo client row moves places → places m.index m.key row ≡ None
    → CanUndoAll client changes (undone client row (moves ++ m ∷ []) (with_place places m row (owner_after client m)))
grown_fresh client row changes moves m places all can none =
    all_can_fresh client changes (undone client row moves places) (undone client row (moves ++ m ∷ []) (with_place places m row (owner_after client m))) all (fresh_left client row moves m places can none)

pub grown_again : (client row : ℕ) (changes : List Moved) (moves : List Move) (m : Move) (places : Places)
    → CanUndoAll client changes (undone client row moves places) → places m.index m.key row ≡ Some (owner_before client m)
    → CanUndoAll client changes (undone client row (moves ++ m ∷ []) (with_place places m row (owner_after client m)))
grown_again client row changes moves m places all is =
    subst (CanUndoAll client changes)
    (sym (taken_more client row moves m (with_place places m row (owner_after client m))
    ∙ ap (undone client row moves) (with_twice places m row (owner_after client m) (owner_before client m) ∙ with_own places m row (owner_before client m) is))) all
