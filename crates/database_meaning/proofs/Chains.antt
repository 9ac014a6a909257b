-- Chains of a relation on clients.
use Rattle.std.proofs.Common.{◌≡◌, ◌⊎◌, ℕ, List, [], ◌∷◌, ◌++◌, subst, inl, inr}
use Rattle.std.proofs.lemmas.Bool.{cases_eq}
use Rattle.database_meaning.specs.Waiting.{Chain}

pub chain_map : (W V : ℕ → ℕ → Type 0) → ((a b : ℕ) → W a b → V a b) → (a : ℕ) (xs : List ℕ) (b : ℕ) → Chain W a xs b → Chain V a xs b
chain_map W V h a [] b p = h a b p
chain_map W V h a (x ∷ xs) b p = (h a x p.0, chain_map W V h x xs b p.1)

pub chain_join : (W : ℕ → ℕ → Type 0) (a : ℕ) (xs : List ℕ) (b : ℕ) (ys : List ℕ) (d : ℕ) → Chain W a xs b → Chain W b ys d → Chain W a (xs ++ b ∷ ys) d
chain_join W a [] b ys d p q = (p, q)
chain_join W a (x ∷ xs) b ys d p q = (p.0, chain_join W x xs b ys d p.1 q)

-- a chain's first client waits
starts : (W : ℕ → ℕ → Type 0) (c : ℕ) → ((d : ℕ) → ¬ W c d) → (a : ℕ) (xs : List ℕ) (b : ℕ) → Chain W a xs b → a ≡ c → ⊥
starts W c idle a [] b p e = idle b (subst (λ x. W x b) e p)
starts W c idle a (x ∷ xs) b p e = idle x (subst (λ y. W y x) e p.0)

module _ (W V : ℕ → ℕ → Type 0) (c : ℕ) where
  -- where c waits for nobody, a chain between others goes over others alone
  chain_without : ((d : ℕ) → ¬ W c d) → ((a b : ℕ) → (a ≡ c → ⊥) → (b ≡ c → ⊥) → W a b → V a b) → (a : ℕ) (xs : List ℕ) (b : ℕ) → Chain W a xs b → (b ≡ c → ⊥) → Chain V a xs b
  chain_without idle reserved_keys a [] b p ne = reserved_keys a b (starts W c idle a [] b p) ne p
  chain_without idle reserved_keys a (x ∷ xs) b p ne = (reserved_keys a x (starts W c idle a (x ∷ xs) b p) (starts W c idle x xs b p.1) p.0, chain_without idle reserved_keys x xs b p.1 ne)

  -- c waits for nobody, and what others wait for was so before: no cycle
  pub none_idle : ((d : ℕ) → ¬ W c d) → ((a b : ℕ) → (a ≡ c → ⊥) → (b ≡ c → ⊥) → W a b → V a b) → ((a : ℕ) (xs : List ℕ) → ¬ Chain V a xs a) → (a : ℕ) (xs : List ℕ) → ¬ Chain W a xs a
  none_idle idle reserved_keys before a xs p = before a xs (chain_without idle reserved_keys a xs a p (starts W c idle a xs a p))

  -- a chain goes over c, or it was a chain before
  split : ((a b : ℕ) → (a ≡ c → ⊥) → W a b → V a b) → (a : ℕ) (xs : List ℕ) (b : ℕ) → Chain W a xs b → Chain V a xs b ⊎ ((zs : List ℕ) × Chain W c zs b × ((a ≡ c) ⊎ ((ys : List ℕ) × Chain W a ys c)))
  split reserved_keys a [] b p =
      elim (cases_eq a c) [
        | inl e ↦ inr ([], subst (λ x. W x b) e p, inl e)
        | inr ne ↦ inl (reserved_keys a b ne p)
      ]
  split reserved_keys a (x ∷ xs) b p =
      elim (cases_eq a c) [
        | inl e ↦ inr (x ∷ xs, (subst (λ y. W y x) e p.0, p.1), inl e)
        | inr ne ↦ elim (split reserved_keys x xs b p.1) [
          | inl q ↦ inl (reserved_keys a x ne p.0, q)
          | inr q ↦ inr (
            q.0,
            q.1,
            inr (elim q.2 [
              | inl e ↦ ([], subst (λ y. W a y) e p.0)
              | inr r ↦ (x ∷ r.0, (p.0, r.1))
            ]),
          )
        ]
      ]

  -- what others wait for was so before, and no cycle closes at c: no cycle
  pub none_closed : ((a b : ℕ) → (a ≡ c → ⊥) → W a b → V a b) → ((xs : List ℕ) → ¬ Chain W c xs c) → ((a : ℕ) (xs : List ℕ) → ¬ Chain V a xs a) → (a : ℕ) (xs : List ℕ) → ¬ Chain W a xs a
  none_closed reserved_keys open_end before a xs p =
      elim (split reserved_keys a xs a p) [
        | inl q ↦ before a xs q
        | inr q ↦ elim q.2 [
          | inl e ↦ open_end q.0 (subst (λ x. Chain W c q.0 x) e q.1)
          | inr r ↦ open_end (q.0 ++ a ∷ r.0) (chain_join W c q.0 a r.0 c q.1 r.1)
        ]
      ]
