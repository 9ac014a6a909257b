-- What is noted of the clients, where one of them changes.
use Rattle.std.proofs.Common.{◌≡◌, ◌≢◌, inl, inr, ℕ, zero, suc, ◌+◌, ◌<◌, List, [], ◌∷◌, ◌++◌, length, take, drop, slice_index_or, slice_set, refl, sym, ◌∙◌, ap, arith}
use Rattle.std.proofs.lemmas.Bool.{cases_eq}
use Rattle.std.proofs.Math.Seq.{take-append_seam}
use Rattle.std.proofs.lemmas.List.{length-set}
use Rattle.byte_rows.specs.declared.client.Client.{Client}
use Rattle.byte_rows.specs.Clients.{ClientView, client_in, no_client, view_of}
use Rattle.byte_rows.specs.Noted.{AreSameClients}

pub client_at : (cs : List Client) (k : ℕ) (x : Client) → k < length cs → x ≡ slice_index_or cs k x → client_in cs k ≡ view_of x
client_at [] k x lt is = absurd (omega arith)
client_at (c ∷ cs) zero x lt is = ap view_of (sym is)
client_at (c ∷ cs) (suc k) x lt is = client_at cs k x (omega arith) is

pub client_set_same : (cs : List Client) (k : ℕ) (x : Client) → k < length cs → client_in (slice_set cs k x) k ≡ view_of x
client_set_same [] k x lt = absurd (omega arith)
client_set_same (c ∷ cs) zero x lt = refl
client_set_same (c ∷ cs) (suc k) x lt = client_set_same cs k x (omega arith)

pub client_set_other : (cs : List Client) (k j : ℕ) (x : Client) → j ≢ k → client_in (slice_set cs k x) j ≡ client_in cs j
client_set_other [] k j x ne = refl
client_set_other (c ∷ cs) zero zero x ne = absurd (ne refl)
client_set_other (c ∷ cs) zero (suc j) x ne = refl
client_set_other (c ∷ cs) (suc k) zero x ne = refl
client_set_other (c ∷ cs) (suc k) (suc j) x ne = client_set_other cs k j x (λ e. ne (ap suc e))

-- a client of no number has done nothing
pub client_past : (cs : List Client) (k : ℕ) → length cs < k + 1 → client_in cs k ≡ no_client
client_past [] k le = refl
client_past (c ∷ cs) zero le = absurd (omega (arith, le))
client_past (c ∷ cs) (suc k) le = client_past cs k (omega (arith, le))

pub client_more : (cs : List Client) (x : Client) → view_of x ≡ no_client → ((k : ℕ) → client_in cs k ≡ no_client) → (k : ℕ) → client_in (cs ++ x ∷ []) k ≡ no_client
client_more [] x is all zero = is
client_more [] x is all (suc k) = refl
client_more (c ∷ cs) x is all zero = all zero
client_more (c ∷ cs) x is all (suc k) = client_more cs x is (λ j. all (suc j)) k

pub same_all : (cs : List Client) → AreSameClients cs cs
same_all cs = record { many = refl; begun = λ c. refl; drawn = λ c. refl; written = λ c. refl }

pub same_both : (a b c : List Client) → AreSameClients a b → AreSameClients b c → AreSameClients a c
same_both a b c f s = record {
  many = s.many ∙ f.many;
  begun = λ k. s.begun k ∙ f.begun k;
  drawn = λ k. s.drawn k ∙ f.drawn k;
  written = λ k. s.written k ∙ f.written k;
}

-- a part of what is noted stays where it stays of the client that changes
pub part_set : {X : Type 0} (part : ClientView → X) (cs : List Client) (k : ℕ) (old new : Client) → k < length cs → old ≡ slice_index_or cs k old → part (view_of new) ≡ part (view_of old) → (c : ℕ) → part (client_in (slice_set cs k new) c) ≡ part (client_in cs c)
part_set part cs k old new lt is same c = elim (cases_eq c k) [
  | inl e ↦ ap (λ (n : ℕ). part (client_in (slice_set cs k new) n)) e ∙ (ap part (client_set_same cs k new lt) ∙ (same ∙ (sym (ap part (client_at cs k old lt is)) ∙ ap (λ (n : ℕ). part (client_in cs n)) (sym e))))
  | inr ne ↦ ap part (client_set_other cs k c new ne)
]

-- one client keeps its transaction and its counts
pub same_set : (cs : List Client) (k : ℕ) (old new : Client) → k < length cs → old ≡ slice_index_or cs k old → new.begun ≡ old.begun → new.drawn ≡ old.drawn → new.written ≡ old.written → AreSameClients cs (slice_set cs k new)
same_set cs k old new lt is begun drawn written = record {
  many = length-set cs k new;
  begun = λ c. part_set (λ v. v.begun) cs k old new lt is begun c;
  drawn = λ c. part_set (λ v. v.drawn) cs k old new lt is drawn c;
  written = λ c. part_set (λ v. v.written) cs k old new lt is written c;
}

-- a list that was changed as a slice
pub whole : {X : Type 0} (new items : List X) (n : ℕ) → length new ≡ n → take n (new ++ drop (length new) items) ≡ new
whole new items n e = ap (λ (m : ℕ). take m (new ++ drop (length new) items)) (sym e) ∙ take-append_seam new (drop (length new) items)
