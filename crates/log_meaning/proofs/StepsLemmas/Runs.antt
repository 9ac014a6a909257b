-- Runs of disk calls.
use Rattle.std.proofs.Common.{IsTrue, ◌≡◌, ⊎_elim, ℕ, ◌+◌, ◌<◌, ◌≤◌, ◌^◌, Bool, false, sym, ◌∙◌, subst, arith}
use Rattle.std.proofs.lemmas.Bool.{cases_lt}
use Rattle.storage.specs.Disk.{Passes, Stays}
use Rattle.log_meaning.specs.steps.Steps.{Image, Run}

-- no call
pub started : (was : ℕ) (before : ℕ → Image → Type 0) (Step : Image → Image → Type 0) → ((m : ℕ) (image : Image) → before m image → m ≤ was) → Run was was before before Step
started was before Step top = record {
  later = omega arith;
  nothing_else = λ m image le known. known;
  stays = λ m image le known. known;
  here = λ m image later known. let past = top m image known in absurd (omega (arith, past, later));
}

-- one run after another
pub joined : (was mid now : ℕ) (before between after : ℕ → Image → Type 0) (One Two Both : Image → Image → Type 0)
    → Run was mid before between One → Run mid now between after Two
    → ((d image : Image) → before was d → One d image → Both d image) → ((d image : Image) → before was d → between mid d → Two d image → Both d image) → ((d e image : Image) → before was d → One d e → between mid e → Two e image → Both d image)
    → Run was now before after Both
joined was mid now before between after One Two Both one two first second both = record {
  later = omega (arith, one.later, two.later);
  nothing_else = λ m image le known. one.nothing_else m image le (two.nothing_else m image (omega (arith, le, one.later)) known);
  stays = λ m image le known. two.stays m image (omega (arith, le, one.later)) (one.stays m image le known);
  here = λ m image later known. ⊎_elim
      (λ (fresh : mid < m).
      let h = two.here m image fresh known in
      ⊎_elim
      (λ (run : was < mid). let g = one.here mid (h.0) run (h.1) in (g.0, g.1, both (g.0) (h.0) image (g.1) (g.2) (h.1) (h.2)))
      (λ (none : mid ≤ was).
      let same : mid ≡ was = (let l = one.later in omega (arith, none, l)) in
      let known_before : before was (h.0) = subst (λ (x : ℕ). before x (h.0)) same (one.nothing_else mid (h.0) none (h.1)) in
      (h.0, known_before, second (h.0) image known_before (h.1) (h.2)))
      (cases_lt was mid))
      (λ (past : m ≤ mid). let g = one.here m image later (two.nothing_else m image past known) in (g.0, g.1, first (g.0) image (g.1) (g.2)))
      (cases_lt mid m);
}

-- a write or a sync
pub call : (ok : Bool) (was now : ℕ) (before after : ℕ → Image → Type 0) (Step : Image → Image → Type 0) → Passes ok was now before after Step → ((m : ℕ) (image : Image) → after m image → m ≤ now) → Run was now before after Step
call ok was now before after Step pass top = record {
  later = up;
  nothing_else = pass.nothing_else;
  stays = pass.stays;
  here = λ m image later known.
      let past = top m image known in
      ⊎_elim
      (λ (one : now ≡ was + 1). pass.here image (subst (λ (x : ℕ). after x image) (omega (arith, one, later, past)) known))
      (λ (last : (ok ≡ false) × (2 ^ 64 ≤ was + 1) × (now ≡ was)). let same = last.2 in absurd (omega (arith, same, later, past)))
      (pass.one);
}
  where
    up : was ≤ now
    up = ⊎_elim (λ (one : now ≡ was + 1). omega (arith, one)) (λ (last : (ok ≡ false) × (2 ^ 64 ≤ was + 1) × (now ≡ was)). let same = last.2 in omega (arith, same)) (pass.one)

-- a larger step
pub wider : (was now : ℕ) (before after : ℕ → Image → Type 0) (One Two : Image → Image → Type 0) → Run was now before after One → ((d image : Image) → before was d → One d image → Two d image) → Run was now before after Two
wider was now before after One Two w f = record {
  later = w.later;
  nothing_else = w.nothing_else;
  stays = w.stays;
  here = λ m image later known. let h = w.here m image later known in (h.0, h.1, f (h.0) image (h.1) (h.2));
}

-- a property of every image that each step preserves
pub holds : (was now : ℕ) (before after : ℕ → Image → Type 0) (Step : Image → Image → Type 0) (P : Image → Type 0) → Run was now before after Step
    → ((image : Image) → before was image → P image) → ((d image : Image) → before was d → Step d image → P image) → (m : ℕ) (image : Image) → was ≤ m → after m image → P image
holds was now before after Step P w start step m image from known = ⊎_elim
    (λ (fresh : was < m). let h = w.here m image fresh known in step (h.0) image (h.1) (h.2))
    (λ (past : m ≤ was). start image (subst (λ (x : ℕ). before x image) (omega (arith, past, from)) (w.nothing_else m image past known)))
    (cases_lt was m)

-- each image of the moment to which a run has come is one from before it after some step
pub traced : (was now : ℕ) (before after : ℕ → Image → Type 0) (Step : Image → Image → Type 0) → Run was now before after Step → ((d : Image) → Step d d) → (image : Image) → after now image → (d : Image) × before was d × Step d image
traced was now before after Step w none image left = ⊎_elim
    (λ (later : was < now). w.here now image later left)
    (λ (same : now ≤ was). (image, subst (λ (k : ℕ). before k image) (let l = w.later in omega (arith, same, l)) (w.nothing_else now image same left), none image))
    (cases_lt was now)

-- a call that makes no moment
pub stayed : (was_observable known : Bool) (was_seen seen : Image) (was now : ℕ) (before after : ℕ → Image → Type 0) (Step : Image → Image → Type 0) → Stays was_observable known was_seen seen was now before after → ((m : ℕ) (image : Image) → before m image → m ≤ was) → Run was now before after Step
stayed was_observable known was_seen seen was now before after Step s top = record {
  later = (let is = s.moment in omega (arith, is));
  nothing_else = λ m image le left. s.nothing_else m image left;
  stays = λ m image le left. s.stays m image left;
  here = λ m image later left. let past = top m image (s.nothing_else m image left) in absurd (omega (arith, past, later));
}

pub stays_twice : (a b c : Bool) (x y z : Image) (l m n : ℕ) (p q r : ℕ → Image → Type 0) → Stays a b x y l m p q → Stays b c y z m n q r → Stays a c x z l n p r
stays_twice a b c x y z l m n p q r s t = record {
  same_observable = t.same_observable ∙ s.same_observable;
  same = λ known. t.same (subst (λ (k : Bool). IsTrue k) (sym s.same_observable) known) ∙ s.same known;
  moment = t.moment ∙ s.moment;
  nothing_else = λ k image left. s.nothing_else k image (t.nothing_else k image left);
  stays = λ k image left. t.stays k image (s.stays k image left);
}
