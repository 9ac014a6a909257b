-- Room is made and a slot is written: the slot is written.
use Rattle.std.proofs.Common.{◌≡◌, ◌+◌, ◌==◌, ◌||◌, ℕ, List, Bool, [], ◌∷◌, ◌++◌, if◌then◌else◌, IsTrue, sym, ◌∙◌, ap, subst, arith}
use Rattle.storage.specs.Slots.{SlotState, IsReadable, Grows, Writes, is_low, put}
use Rattle.storage.specs.declared.slots.Undo.{Undo}

pub writes_after_grows : (a b d : SlotState) (client slot more : ℕ) (bytes : List ℕ) → a.failed ≡ b.failed → (a.transaction client).room ≡ 0 → Grows a b client more → Writes b d client slot bytes → Writes a d client slot bytes
writes_after_grows a b d client slot more bytes same none g w =
    let observable : IsTrue a.observable → IsTrue b.observable = λ h. subst (λ (x : Bool). IsTrue x) (sym g.keeps.observable) h in
    let speaks : IsReadable a → IsReadable b = λ s. (observable s.0, sym same ∙ s.1) in
    record {
      keeps = record { observable = w.keeps.observable ∙ g.keeps.observable; committed = λ h. w.keeps.committed (observable h) ∙ g.keeps.committed h; doubt = λ h. w.keeps.doubt (observable h) ∙ g.keeps.doubt h };
      reads = λ s. w.reads (speaks s) ∙ ap (λ (r : ℕ → List ℕ). put r slot bytes) (g.reads s);
      before = w.before;
      before_is = λ s. w.before_is (speaks s) ∙ ap (λ (r : ℕ → List ℕ). r slot) (g.reads s);
      transaction = record {
        others = λ c ne. w.transaction.others c ne ∙ g.transaction.others c ne;
        begun = w.transaction.begun;
        undo = w.transaction.undo ∙ ap (λ (l : List Undo). l ++ record { slot = slot; old = w.before } ∷ []) g.transaction.undo;
        written = λ k. w.transaction.written k ∙ ap (λ (b : Bool). (k == slot) || b) (g.transaction.written k);
        counted = w.transaction.counted ∙ ap (λ (n : ℕ). if is_low slot then n else n + 1) g.transaction.counted;
        low = w.transaction.low ∙ ap (λ (n : ℕ). if is_low slot then n + 1 else n) g.transaction.low;
        room = omega (arith, none);
      };
    }
