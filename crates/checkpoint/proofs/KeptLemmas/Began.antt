-- The log after a transaction has begun: its client's number is a new one.
use Rattle.std.proofs.Common.{◌≡◌, ◌≢◌, ◌⊎◌, inl, inr, ⊎_elim, ℕ, ◌+◌, ◌*◌, ◌%◌, ◌<◌, ◌==◌, if◌then◌else◌, Bool, List, [], ◌++◌, Option, Some, None, refl, sym, ◌∙◌, ap, subst, arith}
use Rattle.std.proofs.lemmas.Bool.{cases_eq, cond-true, cond-false, eq-eqb, ne_eqb}
use Rattle.storage.specs.declared.slots.Undo.{Undo}
use Rattle.storage.specs.Slots.{undone}
use Rattle.log_meaning.specs.steps.Steps.{Image}
use Rattle.log_meaning.specs.declared.note.Note.{Note}
use Rattle.log_meaning.specs.LogState.{notes_in}
use Rattle.log_meaning.specs.Logged.{Logged}
use Rattle.log_meaning.proofs.LoggedStarts.{begins}
use Rattle.log_meaning.proofs.LoggedEnds.{abandons}
use Rattle.bi_log.specs.declared.log.Log.{Log}
use Rattle.checkpoint.specs.kept.Numbers.{is_number, is_live, undo_of}
use Rattle.checkpoint.specs.kept.KeptLog.{KeptLog}
use Rattle.checkpoint.proofs.KeptLemmas.Numbered.{number_live, number_dead, number_none, undo_number, below_fresh, below_open, below_wider, some_one}

-- the numbers of the other clients alone
abbrev without : ℕ → (ℕ → Option ℕ) → ℕ → Option ℕ
without c number d = if d == c then None else number d

without-here : (c : ℕ) (number : ℕ → Option ℕ) → without c number c ≡ None
without-here c number = cond-true (c == c) None (number c) (eq-eqb c c refl)

without-other : (c d : ℕ) (number : ℕ → Option ℕ) → d ≢ c → without c number d ≡ number d
without-other c d number ne = cond-false (d == c) None (number d) (ne_eqb d c ne)

some_or_none : (o : Option ℕ) → (o ≡ None) ⊎ ((n : ℕ) × (o ≡ Some n))
some_or_none None = inl refl
some_or_none (Some n) = inr (n, refl)

-- the writes of a transaction depend on whether it is live
same_undo : (number number' : ℕ → Option ℕ) (list : ℕ → List Undo) (t : ℕ) → is_live number' t ≡ is_live number t → undo_of number' list t ≡ undo_of number list t
same_undo number number' list t is = ap (λ (b : Bool). if b then list (t % 16) else []) is

-- a transaction without writes is no longer live
retired : (notes : List Note) (base committed reads : ℕ → List ℕ) (number : ℕ → Option ℕ) (list : ℕ → List Undo) (c : ℕ) → ((n : ℕ) → number c ≡ Some n → n % 16 ≡ c) → list c ≡ []
    → Logged notes base committed reads (is_live number) (undo_of number list) → Logged notes base committed reads (is_live (without c number)) (undo_of (without c number) list)
retired notes base committed reads number list c modulo empty l = ⊎_elim
    (λ (none : number c ≡ None).
    let same : (t : ℕ) → is_live (without c number) t ≡ is_live number t = λ t. elim (cases_eq (t % 16) c) [
      | inl its ↦ number_none (without c number) c t (without-here c number) its ∙ sym (number_none number c t none its)
      | inr other ↦ ap (λ (o : Option ℕ). is_number o t) (without-other c (t % 16) number other)
    ] in
    subst (λ (f : ℕ → Bool). Logged notes base committed reads f (undo_of (without c number) list)) (λ i t. sym (same t) i)
    (subst (λ (f : ℕ → List Undo). Logged notes base committed reads (is_live number) f) (λ i t. sym (same_undo number (without c number) list t (same t)) i) l))
    (λ (some : (n : ℕ) × (number c ≡ Some n)).
    let same : (t : ℕ) → t ≢ some.0 → is_live (without c number) t ≡ is_live number t = λ t ne. elim (cases_eq (t % 16) c) [
      | inl its ↦ number_none (without c number) c t (without-here c number) its ∙ sym (number_dead number c t (some.0) (some.1) its (λ e. ne (sym e)))
      | inr other ↦ ap (λ (o : Option ℕ). is_number o t) (without-other c (t % 16) number other)
    ] in
    subst (λ (us : List Undo). Logged notes base committed (undone us reads) (is_live (without c number)) (undo_of (without c number) list)) (undo_number number list c (some.0) (some.1) (modulo (some.0) (some.1)) ∙ empty)
    (abandons notes base committed reads (is_live number) (is_live (without c number)) (undo_of number list) (undo_of (without c number) list) (some.0) l
    (number_live number c (some.0) (some.1) (modulo (some.0) (some.1)))
    (number_none (without c number) c (some.0) (without-here c number) (modulo (some.0) (some.1)))
    same (λ t ne. same_undo number (without c number) list t (same t ne))))
    (some_or_none (number c))

module _ (committed reads : ℕ → List ℕ) (left : Image → Type 0) (log : Log) (un : ℕ → Option ℕ) (number number' : ℕ → Option ℕ) (list : ℕ → List Undo) (g e f n c tx : ℕ)
    (k : KeptLog committed reads left log un number list g e f n)
    (is : number' c ≡ Some tx) (others : (d : ℕ) → d ≢ c → number' d ≡ number d) (empty : list c ≡ []) (tx_is : tx ≡ 16 * n + c) (client : c < 16) where
  modulo : tx % 16 ≡ c
  modulo = omega (arith, tx_is, client)

  same_live : (t : ℕ) → t ≢ tx → is_live number' t ≡ is_live (without c number) t
  same_live t ne = elim (cases_eq (t % 16) c) [
    | inl its ↦ number_dead number' c t tx is its (λ e. ne (sym e)) ∙ sym (number_none (without c number) c t (without-here c number) its)
    | inr other ↦ ap (λ (o : Option ℕ). is_number o t) (others (t % 16) other ∙ sym (without-other c (t % 16) number other))
  ]

  pub began_log : KeptLog committed reads left log un number' list g e f (n + 1)
  began_log = record {
    held = k.held;
    buffered = k.buffered;
    base = k.base;
    generation_is = k.generation_is;
    keeps = k.keeps;
    agrees = k.agrees;
    logged = begins (notes_in k.held.batches ++ k.buffered) k.base committed reads (is_live (without c number)) (is_live number') (undo_of (without c number) list) (undo_of number' list) tx
        (retired (notes_in k.held.batches ++ k.buffered) k.base committed reads number list c (λ m its. (k.numbered c m its).0) empty k.logged)
        (number_none (without c number) c tx (without-here c number) modulo)
        (below_fresh (16 * n) tx (notes_in k.held.batches ++ k.buffered) k.below (omega (arith, tx_is)))
        (below_open (16 * n) tx (notes_in k.held.batches ++ k.buffered) k.below (omega (arith, tx_is)))
        (undo_number number' list c tx is modulo ∙ empty)
        same_live (λ t ne. same_undo (without c number) number' list t (same_live t ne));
    settled = k.settled;
    numbered = λ d m its. elim (cases_eq d c) [
      | inl here ↦
          let same : m ≡ tx = some_one m tx (sym its ∙ ap number' here ∙ is) in
          (ap (λ (x : ℕ). x % 16) same ∙ modulo ∙ sym here, omega (arith, same, tx_is, client))
      | inr other ↦ let h = k.numbered d m (sym (others d other) ∙ its) in (h.0, let lt = h.1 in omega (arith, lt))
    ];
    below = below_wider (16 * n) (16 * (n + 1)) (notes_in k.held.batches ++ k.buffered) (omega arith) k.below;
    settled_filled = k.settled_filled;
    filled_to = k.filled_to;
    changes = k.changes;
    noted = k.noted;
  }
