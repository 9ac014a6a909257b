use Rattle.std.proofs.Common.{◌≡◌, ◌<◌, ◌≤◌, ℕ, List, [], ◌∷◌, length, below_more, ⊎_elim, refl, ap, arith, length-append}
use Rattle.std.proofs.lemmas.Bool.{cases_lt}
use Rattle.storage.specs.declared.slots.Undo.{Undo}
use Rattle.open_transactions.specs.declared.client.Client.{Client}
use Rattle.open_transactions.specs.Clients.{transaction_in, list_in, due_in, due_of}
use Rattle.open_transactions.proofs.Parts.{part_past}
use Rattle.open_transactions.proofs.Changed.{parts_of}
use Rattle.open_transactions.proofs.transactions.Transactions.first_due.Goals as goal

no_items : (l : List Undo) → length l ≡ 0 → l ≡ []
no_items [] is = refl
no_items (x ∷ l) is = absurd (omega (arith, is))

-- where the writes that stand are all of them, none is due
none_of : (cs : List Client) (k : ℕ) → length (list_in cs k) ≤ length (transaction_in cs k).undo → due_in cs k ≡ []
none_of cs k le = no_items (due_in cs k) (omega (arith, le, ap (λ (l : List Undo). length l) (parts_of cs k), length-append (transaction_in cs k).undo (due_in cs k)))

pub clients-preserved : goal.clients-preserved
clients-preserved c = below_more _ _ c.clients.invariant (none_of c.args.self.now.clients.items c.clients.client (omega (arith, c.standing.ensures, c.len.ensures, c.if-standing-len.false)))

pub returns-clause-none : goal.returns-clause-none
returns-clause-none c = λ k. ⊎_elim
    (λ (lt : k < 16). c.clients.invariant k (omega (arith, lt, c.clients-test.false)))
    (λ (past : 16 ≤ k). part_past [] due_of c.args.self.now.clients.items k (omega (arith, past, c.args.self.now.sixteen)))
    (cases_lt k 16)
