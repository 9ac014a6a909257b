use Rattle.std.proofs.Common.{◌≡◌, ◌<◌, ◌^◌, true, ℕ, rules, List, [], ◌∷◌, ◌++◌, Option, None, is_some, ap, ◌∙◌, sym}
use Rattle.std.proofs.lemmas.Bool.{true≢false}
use Rattle.storage.specs.declared.slots.Undo.{Undo}
use Rattle.storage.specs.Slots.{wrote}
use Rattle.open_transactions.specs.declared.client.Client.{Client}
use Rattle.open_transactions.specs.Written.{has_written}
use Rattle.open_transactions.proofs.Changed.{noted_push, small_push}
use Rattle.open_transactions.proofs.client.Client.add.Goals as goal

-- after the write is in both lists
noted_in_both : (x : Client) (us : List Undo) (ws : List ℕ) (u : Undo) → us ≡ x.undo.items ++ u ∷ [] → ws ≡ x.written.items ++ u.slot ∷ [] → (s : ℕ) → x.begun ≡ true → wrote us s ≡ true → has_written ws s ≡ true
noted_in_both x us ws u more noted s begun w = ap (λ (l : List ℕ). has_written l s) noted ∙ noted_push x.undo.items x.written.items u s (x.noted s begun) (sym (ap (λ (l : List Undo). wrote l s) more) ∙ w)

small_in_both : (x : Client) (us : List Undo) (u : Undo) → us ≡ x.undo.items ++ u ∷ [] → u.slot < 2 ^ 20 → (s : ℕ) → wrote us s ≡ true → s < 2 ^ 20
small_in_both x us u more lt s w = small_push x.undo.items u s (x.small s) lt (sym (ap (λ (l : List Undo). wrote l s) more) ∙ w)

-- a begun transaction has a number
has_one : (x : Client) → x.begun ≡ true → x.number ≡ None → ⊥
has_one x begun none = true≢false (sym (x.has_number begun) ∙ ap (λ (o : Option ℕ). is_some o) none)

pub invariant_of-self-clause-noted : goal.invariant_of-self-clause-noted
invariant_of-self-clause-noted c =
    let more : c.push.new.self.items ≡ c.args.self.now.undo.items ++ record { slot = c.args.slot; old = c.args.old.now } ∷ [] = search rules in
    let noted : c.push-2.new.self.items ≡ c.args.self.now.written.items ++ c.args.slot ∷ [] = search rules in
    noted_in_both c.args.self.now c.push.new.self.items c.push-2.new.self.items (record { slot = c.args.slot; old = c.args.old.now }) more noted

pub invariant_of-self-clause-small : goal.invariant_of-self-clause-small
invariant_of-self-clause-small c =
    let more : c.push.new.self.items ≡ c.args.self.now.undo.items ++ record { slot = c.args.slot; old = c.args.old.now } ∷ [] = search rules in
    small_in_both c.args.self.now c.push.new.self.items (record { slot = c.args.slot; old = c.args.old.now }) more c.requires.slot

pub invariant_of-self-clause-numbered : goal.invariant_of-self-clause-numbered
invariant_of-self-clause-numbered c = λ none. absurd (has_one c.args.self.now c.requires.begun none)

pub invariant_of-self-then-self-gt0-clause-noted : goal.invariant_of-self-then-self-gt0-clause-noted
invariant_of-self-then-self-gt0-clause-noted c =
    let more : c.push.new.self.items ≡ c.args.self.now.undo.items ++ record { slot = c.args.slot; old = c.args.old.now } ∷ [] = search rules in
    let noted : c.push-2.new.self.items ≡ c.args.self.now.written.items ++ c.args.slot ∷ [] = search rules in
    noted_in_both c.args.self.now c.push.new.self.items c.push-2.new.self.items (record { slot = c.args.slot; old = c.args.old.now }) more noted

pub invariant_of-self-then-self-gt0-clause-small : goal.invariant_of-self-then-self-gt0-clause-small
invariant_of-self-then-self-gt0-clause-small c =
    let more : c.push.new.self.items ≡ c.args.self.now.undo.items ++ record { slot = c.args.slot; old = c.args.old.now } ∷ [] = search rules in
    small_in_both c.args.self.now c.push.new.self.items (record { slot = c.args.slot; old = c.args.old.now }) more c.requires.slot

pub invariant_of-self-then-self-gt0-clause-numbered : goal.invariant_of-self-then-self-gt0-clause-numbered
invariant_of-self-then-self-gt0-clause-numbered c = λ none. absurd (has_one c.args.self.now c.requires.begun none)

pub invariant_of-self-else-self-gt0-clause-noted : goal.invariant_of-self-else-self-gt0-clause-noted
invariant_of-self-else-self-gt0-clause-noted c =
    let more : c.push.new.self.items ≡ c.args.self.now.undo.items ++ record { slot = c.args.slot; old = c.args.old.now } ∷ [] = search rules in
    let noted : c.push-2.new.self.items ≡ c.args.self.now.written.items ++ c.args.slot ∷ [] = search rules in
    noted_in_both c.args.self.now c.push.new.self.items c.push-2.new.self.items (record { slot = c.args.slot; old = c.args.old.now }) more noted

pub invariant_of-self-else-self-gt0-clause-small : goal.invariant_of-self-else-self-gt0-clause-small
invariant_of-self-else-self-gt0-clause-small c =
    let more : c.push.new.self.items ≡ c.args.self.now.undo.items ++ record { slot = c.args.slot; old = c.args.old.now } ∷ [] = search rules in
    small_in_both c.args.self.now c.push.new.self.items (record { slot = c.args.slot; old = c.args.old.now }) more c.requires.slot

pub invariant_of-self-else-self-gt0-clause-numbered : goal.invariant_of-self-else-self-gt0-clause-numbered
invariant_of-self-else-self-gt0-clause-numbered c = λ none. absurd (has_one c.args.self.now c.requires.begun none)
