use Rattle.std.proofs.Common.{◌≡◌, ℕ, zero, suc, ◌+◌, List, [], ◌∷◌, ◌++◌, length, refl, ap, ◌∙◌, length-append}
use Rattle.slot_rows.specs.declared.open.Open.{Open}
use Rattle.slot_rows.specs.Opens.{no_open, open_in, view_of}
use Rattle.slot_rows.proofs.opened.idle_opens.Goals as goal

open_more : (os : List Open) (x : Open) → view_of x ≡ no_open → ((c : ℕ) → open_in os c ≡ no_open) → (c : ℕ) → open_in (os ++ x ∷ []) c ≡ no_open
open_more [] x is all zero = is
open_more [] x is all (suc c) = refl
open_more (o ∷ os) x is all zero = all zero
open_more (o ∷ os) x is all (suc c) = open_more os x is (λ d. all (suc d)) c

pub loop-preserved : goal.loop-preserved
loop-preserved c =
    let pushed = c.in_ok-push.ensures.items in
    record {
      sixteen = ap length pushed ∙ (length-append c.loop.opens.items _ ∙ ap (λ n. n + 1) c.loop.invariant.sixteen);
      idle = λ k. ap (λ (l : List Open). open_in l k) pushed ∙ open_more c.loop.opens.items _ c.idle.ensures c.loop.invariant.idle k;
    }
