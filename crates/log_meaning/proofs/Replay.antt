-- How recovery gets at a slot: it undoes first, in reverse, and then redoes forwards.
use Rattle.std.proofs.Common.{◌≡◌, ◌⊎◌, inl, inr, ⊎_elim, ℕ, ◌==◌, Bool, if◌then◌else◌, List, [], ◌∷◌, refl, sym, ◌∙◌, ap}
use Rattle.std.proofs.lemmas.Bool.{cases_Bool, cond-true, cond-false}
use Rattle.log_meaning.specs.declared.note.Change.{Change}
use Rattle.log_meaning.specs.Recovered.{first_old, last_new, given}

-- the slot with these changes taken back, the last of them first, where their transactions are not committed
abbrev pub undone_changes : (ℕ → Bool) → List ℕ → List Change → List ℕ
undone_changes committed bytes [] = bytes
undone_changes committed bytes (c ∷ changes) = if committed c.tx then undone_changes committed bytes changes else c.old

-- some change is of a committed transaction, and what is redone does not look at what was there; or none is
decides : (p : ℕ → Bool) (cs : List Change) → ((a b : List ℕ) → last_new p a cs ≡ last_new p b cs) ⊎ ((o : List ℕ) → (last_new p o cs ≡ o) × (undone_changes p o cs ≡ first_old o cs))
decides p [] = inr (λ o. (refl, refl))
decides p (c ∷ cs) = ⊎_elim
    (λ (some : (a b : List ℕ) → last_new p a cs ≡ last_new p b cs). inl (λ a b. some (if p c.tx then c.new else a) (if p c.tx then c.new else b)))
    (λ (none : (o : List ℕ) → (last_new p o cs ≡ o) × (undone_changes p o cs ≡ first_old o cs)). elim (cases_Bool (p c.tx)) [
      | inl its ↦ inl (λ a b. ap (λ (o : List ℕ). last_new p o cs) (cond-true (p c.tx) c.new a its ∙ sym (cond-true (p c.tx) c.new b its)))
      | inr not ↦ inr (λ o. ((none (if p c.tx then c.new else o)).0 ∙ cond-false (p c.tx) c.new o not, cond-false (p c.tx) (undone_changes p o cs) c.old not))
    ])
    (decides p cs)

-- undone in reverse and then redone forwards, over whatever area 0 has, it is the recovered slot
pub undo_then_redo : (p : ℕ → Bool) (below : List ℕ) (cs : List Change) → last_new p (undone_changes p below cs) cs ≡ given p below cs
undo_then_redo p below cs = ⊎_elim
    (λ (some : (a b : List ℕ) → last_new p a cs ≡ last_new p b cs). some (undone_changes p below cs) (first_old below cs))
    (λ (none : (o : List ℕ) → (last_new p o cs ≡ o) × (undone_changes p o cs ≡ first_old o cs)). ap (λ (o : List ℕ). last_new p o cs) ((none below).1))
    (decides p cs)

-- The other way round it is not: transaction 2 wrote 20 over 10 and was abandoned, 1 then wrote 30 and is committed, and undoing last results in 10.
abandoned_before : List Change
abandoned_before = record { tx = 2; slot = 5; old = 10 ∷ []; new = 20 ∷ [] } ∷ record { tx = 1; slot = 5; old = 10 ∷ []; new = 30 ∷ [] } ∷ []

redo_then_undo_is_wrong : undone_changes (λ t. t == 1) (last_new (λ t. t == 1) (9 ∷ []) abandoned_before) abandoned_before ≡ 10 ∷ []
unfolding abandoned_before
redo_then_undo_is_wrong = refl

recovered_is_right : given (λ t. t == 1) (9 ∷ []) abandoned_before ≡ 30 ∷ []
unfolding abandoned_before
recovered_is_right = refl
