-- Sessions of clients that have asked nothing.
use Rattle.std.proofs.Common.{◌≡◌, ℕ, zero, suc, List, [], ◌∷◌, ◌++◌, None, refl}
use Rattle.std.specs.Prelude.{slice_get}
use Rattle.db_core.specs.declared.control.Session.{Session}
use Rattle.db_core.specs.Represents.{blocked_in, marks_in}

pub marks_more : (sessions : List Session) (session : Session) → ((c : ℕ) → marks_in (slice_get sessions c) ≡ []) → session.marks.items ≡ [] → (c : ℕ) → marks_in (slice_get (sessions ++ session ∷ []) c) ≡ []
marks_more [] session h is zero = is
marks_more [] session h is (suc c) = refl
marks_more (x ∷ sessions) session h is zero = h zero
marks_more (x ∷ sessions) session h is (suc c) = marks_more sessions session (λ k. h (suc k)) is c

pub blocked_more : (sessions : List Session) (session : Session) → ((c : ℕ) → blocked_in (slice_get sessions c) ≡ None) → session.blocked ≡ None → (c : ℕ) → blocked_in (slice_get (sessions ++ session ∷ []) c) ≡ None
blocked_more [] session h is zero = is
blocked_more [] session h is (suc c) = refl
blocked_more (x ∷ sessions) session h is zero = h zero
blocked_more (x ∷ sessions) session h is (suc c) = blocked_more sessions session (λ k. h (suc k)) is c
