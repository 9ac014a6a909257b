use Rattle.std.proofs.Common.{◌≡◌, None, Some, nat_eq, is_some, sym, ◌∙◌, ap}
use Rattle.std.specs.HashMap.{get, Updates}
use Rattle.new_database.specs.declared.slots.slot.Slot.{Slot}
use Rattle.new_database.specs.slots.Sparse.{zeros}
use Rattle.new_database.proofs.SlotsLemmas.Places.{is_none, part_none, part_same, with_other}
use Rattle.new_database.proofs.slots.slot.reach.Goals as goal

pub returns-then-not-contains_key-clause-reads : goal.returns-then-not-contains_key-clause-reads
unfolding zeros
returns-then-not-contains_key-clause-reads c =
    let old = c.args.slots.now in
    let new = c.insert-inserted.new.self in
    let x : Slot = record { now = zeros; committed = zeros } in
    let added : Updates nat_eq old new c.args.number (Some x) = rw c.unwrap.ensures at c.insert-inserted.ensures.updates in
    let none : get nat_eq old c.args.number ≡ None = is_none _ (sym c.contains_key.ensures ∙ c.if-not-contains_key.true) in
    part_same (λ (s : Slot). s.now) (get nat_eq old) (get nat_eq new) c.args.number x added.0 (part_none (λ (s : Slot). s.now) _ none)

pub returns-then-not-contains_key-clause-committed : goal.returns-then-not-contains_key-clause-committed
unfolding zeros
returns-then-not-contains_key-clause-committed c =
    let old = c.args.slots.now in
    let new = c.insert-inserted.new.self in
    let x : Slot = record { now = zeros; committed = zeros } in
    let added : Updates nat_eq old new c.args.number (Some x) = rw c.unwrap.ensures at c.insert-inserted.ensures.updates in
    let none : get nat_eq old c.args.number ≡ None = is_none _ (sym c.contains_key.ensures ∙ c.if-not-contains_key.true) in
    part_same (λ (s : Slot). s.committed) (get nat_eq old) (get nat_eq new) c.args.number x added.0 (part_none (λ (s : Slot). s.committed) _ none)

pub returns-then-not-contains_key-clause-others : goal.returns-then-not-contains_key-clause-others
unfolding zeros
returns-then-not-contains_key-clause-others c =
    let old = c.args.slots.now in
    let new = c.insert-inserted.new.self in
    let x : Slot = record { now = zeros; committed = zeros } in
    let added : Updates nat_eq old new c.args.number (Some x) = rw c.unwrap.ensures at c.insert-inserted.ensures.updates in
    λ k other. ap is_some (with_other (get nat_eq old) (get nat_eq new) c.args.number k x other added.0)
