use Rattle.std.proofs.Common.{◌≡◌, ℕ, List, [], false, get_or, Result, IfOk, IfErr, subst, rules}
use Rattle.std.proofs.lemmas.List.Sorted.{answers_always}
use Rattle.storage.specs.declared.slots.Undo.{Undo}
use Rattle.storage.specs.Slots.{wrote, undone}
use Rattle.bi_recovery.proofs.Filled.{searched}
use Rattle.bi_recovery.proofs.carried_slots.entry_bytes.Goals as goal

abbrev no_slot : Undo
no_slot = record { slot = 0; old = [] }

pub returns-in-Ok-clause-some : goal.returns-in-Ok-clause-some
returns-in-Ok-clause-some c =
    let facts = c.binary_search_by_key.ensures in
    let found = searched c.args.slots.now c.requires.ascending c.args.slot c.binary_search_by_key.result facts.bound (facts.position (λ (u : Undo). u.slot) (answers_always _ _ _ (λ f a r g called. search rules))) in
    λ below. subst (λ (r : Result ℕ ℕ). IfOk r (λ place. (d : Undo) (b : ℕ → List ℕ) → undone c.args.slots.now b c.args.slot ≡ (get_or c.args.slots.now place d).old)) c.in-Ok.is found.some no_slot below

pub returns-in-Err-clause-none : goal.returns-in-Err-clause-none
returns-in-Err-clause-none c =
    let facts = c.binary_search_by_key.ensures in
    let found = searched c.args.slots.now c.requires.ascending c.args.slot c.binary_search_by_key.result facts.bound (facts.position (λ (u : Undo). u.slot) (answers_always _ _ _ (λ f a r g called. search rules))) in
    subst (λ (r : Result ℕ ℕ). IfErr r (λ place. wrote c.args.slots.now c.args.slot ≡ false)) c.in-Err.is found.none
