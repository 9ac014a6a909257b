-- One call after another.
use Rattle.std.proofs.Common.{◌≡◌, ◌≢◌, ◌⊎◌, inl, inr, ⊎_elim, ℕ, zero, suc, ◌+◌, ◌^◌, ◌<◌, ◌≤◌, ◌==◌, ◌||◌, cond, eqb, Bool, true, false, List, [], ◌∷◌, ◌++◌, length, IsTrue, Result, Ok, Err, IsErrOf, OnOk, refl, sym, ◌∙◌, ap, subst, arith, append_assoc}
use Rattle.std.proofs.Math.Logic.{∥∥₁_map}
use Rattle.std.specs.List.{Contains}
use Rattle.std.proofs.lemmas.Bool.{cases_eq}
use Rattle.std.proofs.lemmas.Bool.Decides.{nat_tests}
use Rattle.storage.specs.faults.Faults.{Rose}
use Rattle.storage.specs.Slots.{SlotState, IsReadable, KeepsCommitted, Rests, Grows, Writes, Goes, HasCause, IsStop, undone, wrote, put, is_low}
use Rattle.storage.specs.declared.slots.Undo.{Undo}
use Rattle.storage.specs.declared.slots.SlotFault.{SlotFault}
use Rattle.storage.specs.declared.slots.SlotFault.TheVariants.{Disk}
use Rattle.row_fragments.specs.Calls.{Covers, Looked, Touched, Wrote}
use Rattle.row_fragments.proofs.Within.{head_in, only}

splits : (a b : ℕ) → (a ≤ b) ⊎ (b < a)
splits zero b = inl (omega arith)
splits (suc a) zero = inr (omega arith)
splits (suc a) (suc b) = ⊎_elim (λ h. inl (omega (arith, h))) (λ h. inr (omega (arith, h))) (splits a b)

pub rose_later : (a b c : ℕ) → a ≤ b → b ≤ c → Rose b c → Rose a c
rose_later a b c le on rose = ⊎_elim
    (λ (lt : b < c). inl (omega (arith, le, lt)))
    (λ (h : 2 ^ 64 ≤ b + 1). ⊎_elim (λ (same : b ≤ a). inr (omega (arith, same, h))) (λ (less : a < b). inl (omega (arith, less, on))) (splits b a))
    rose

pub keeps_both : (a b c : SlotState) → KeepsCommitted a b → KeepsCommitted b c → KeepsCommitted a c
keeps_both a b c f s = record {
  observable = s.observable ∙ f.observable;
  committed = λ h. s.committed (subst (λ (v : Bool). IsTrue v) (sym f.observable) h) ∙ f.committed h;
  doubt = λ h. s.doubt (subst (λ (v : Bool). IsTrue v) (sym f.observable) h) ∙ f.doubt h;
}

-- time over two calls that do not commit
pub goes_both : (a b c : SlotState) (at_a at_b at_c : ℕ → (ℕ → List ℕ) → Type 0) → KeepsCommitted a b → KeepsCommitted b c
    → ((m : ℕ) (slots : ℕ → List ℕ) → at_c m slots → IsStop c m) → Goes a b at_a at_b → Goes b c at_b at_c → Goes a c at_a at_c
goes_both a b c at_a at_b at_c kf ks stop f s = record {
  later = omega (arith, f.later, s.later);
  since = s.since ∙ f.since;
  short = s.short ∙ f.short;
  nothing_else = λ m slots past h. f.nothing_else m slots past (s.nothing_else m slots (omega (arith, past, f.later)) h);
  stays = λ m slots past h. s.stays m slots (omega (arith, past, f.later)) (f.stays m slots past h);
  here = λ m slots now h.
      let seen_c : IsTrue c.observable = (stop m slots h).observable in
      let seen_b : IsTrue b.observable = subst (λ (v : Bool). IsTrue v) ks.observable seen_c in
      let seen_a : IsTrue a.observable = subst (λ (v : Bool). IsTrue v) kf.observable seen_b in
      ⊎_elim
      (λ (past : m ≤ b.moment). ∥∥₁_map (f.here m slots now (s.nothing_else m slots past h)) (λ (which : (slots ≡ a.committed) ⊎ (slots ≡ b.doubt)).
      ⊎_elim (λ e. inl e) (λ (e : slots ≡ b.doubt). inr (e ∙ sym (ks.doubt seen_b))) which))
      (λ (after : b.moment < m). ∥∥₁_map (s.here m slots after h) (λ (which : (slots ≡ b.committed) ⊎ (slots ≡ c.doubt)).
      ⊎_elim (λ (e : slots ≡ b.committed). inl (e ∙ kf.committed seen_a)) (λ e. inr e) which))
      (splits m b.moment);
}

-- Disk has its cause after a call that did not answer Disk
pub cause_both : {T U : Type 0} (a b c : SlotState) (r : Result T SlotFault) (q : Result U SlotFault) → (IsErrOf r Disk → ⊥) → HasCause a b r → HasCause b c q → HasCause a c q
cause_both a b c r q fine f s = record {
  later = omega (arith, f.later, s.later);
  disk = λ e. ⊎_elim (λ rose. inl (rose_later a.faults b.faults c.faults f.later s.later rose)) (λ (was : IsTrue b.failed). inr (subst (λ (v : Bool). IsTrue v) (f.stays fine) was)) (s.disk e);
  failed = s.failed;
  stays = λ no. s.stays no ∙ f.stays fine;
}

-- a result of another type with the same error
pub cause_as : {T U : Type 0} (a b : SlotState) (r : Result T SlotFault) (q : Result U SlotFault) → (IsErrOf r Disk → IsErrOf q Disk) → (IsErrOf q Disk → IsErrOf r Disk) → HasCause a b r → HasCause a b q
cause_as a b r q there back c = record {
  later = c.later;
  disk = λ e. c.disk (back e);
  failed = λ e. c.failed (back e);
  stays = λ no. c.stays (λ e. no (there e));
}

pub readable_on : (a b : SlotState) → b.observable ≡ a.observable → b.failed ≡ a.failed → IsReadable a → IsReadable b
readable_on a b seen failed h = (subst (λ (v : Bool). IsTrue v) (sym seen) h.0, failed ∙ h.1)

pub rests_both : (a b c : SlotState) → b.failed ≡ a.failed → Rests a b → Rests b c → Rests a c
rests_both a b c failed f s = record {
  keeps = keeps_both a b c f.keeps s.keeps;
  reads = λ h. s.reads (readable_on a b f.keeps.observable failed h) ∙ f.reads h;
  transaction = s.transaction ∙ f.transaction;
}

pub looked_both : {T U : Type 0} (a b c : SlotState) (at_a at_b at_c : ℕ → (ℕ → List ℕ) → Type 0) (r : Result T SlotFault) (q : Result U SlotFault) → (IsErrOf r Disk → ⊥)
    → ((m : ℕ) (slots : ℕ → List ℕ) → at_c m slots → IsStop c m) → Looked a b at_a at_b r → Looked b c at_b at_c q → Looked a c at_a at_c q
looked_both a b c at_a at_b at_c r q fine stop f s = record {
  rests = rests_both a b c (f.cause.stays fine) f.rests s.rests;
  time = goes_both a b c at_a at_b at_c f.rests.keeps s.rests.keeps stop f.time s.time;
  cause = cause_both a b c r q fine f.cause s.cause;
}

pub looked_as : {T U : Type 0} (a b : SlotState) (at_a at_b : ℕ → (ℕ → List ℕ) → Type 0) (r : Result T SlotFault) (q : Result U SlotFault)
    → (IsErrOf r Disk → IsErrOf q Disk) → (IsErrOf q Disk → IsErrOf r Disk) → Looked a b at_a at_b r → Looked a b at_a at_b q
looked_as a b at_a at_b r q there back l = record { rests = l.rests; time = l.time; cause = cause_as a b r q there back l.cause }

pub touched_both : {T U : Type 0} (a b c : SlotState) (at_a at_b at_c : ℕ → (ℕ → List ℕ) → Type 0) (client : ℕ) (r : Result T SlotFault) (q : Result U SlotFault) → (IsErrOf r Disk → ⊥)
    → ((m : ℕ) (slots : ℕ → List ℕ) → at_c m slots → IsStop c m) → Touched a b at_a at_b client r → Touched b c at_b at_c client q → Touched a c at_a at_c client q
touched_both a b c at_a at_b at_c client r q fine stop f s = record {
  keeps = keeps_both a b c f.keeps s.keeps;
  others = λ k ne. s.others k ne ∙ f.others k ne;
  begun = s.begun ∙ f.begun;
  time = goes_both a b c at_a at_b at_c f.keeps s.keeps stop f.time s.time;
  cause = cause_both a b c r q fine f.cause s.cause;
}

-- ---- lists of writes

pub undone_append : (xs ys : List Undo) (slots : ℕ → List ℕ) (k : ℕ) → undone (xs ++ ys) slots k ≡ undone xs (undone ys slots) k
undone_append [] ys slots k = refl
undone_append (u ∷ xs) ys slots k = ap (λ (v : List ℕ). put (λ _. v) u.slot u.old k) (undone_append xs ys slots k)

pub undone_at : (us : List Undo) (a b : ℕ → List ℕ) (k : ℕ) → a k ≡ b k → undone us a k ≡ undone us b k
undone_at [] a b k is = is
undone_at (u ∷ us) a b k is = ap (λ (v : List ℕ). put (λ _. v) u.slot u.old k) (undone_at us a b k is)

either_false : (a b : Bool) → a ≡ false → b ≡ false → (a || b) ≡ false
either_false true b e f = cc
either_false false b e f = f

or_assoc : (a b c : Bool) → ((a || b) || c) ≡ (a || (b || c))
or_assoc true b c = refl
or_assoc false b c = refl

pub wrote_append : (xs ys : List Undo) (k : ℕ) → wrote (xs ++ ys) k ≡ (wrote xs k || wrote ys k)
wrote_append [] ys k = refl
wrote_append (u ∷ xs) ys k = ap (λ (b : Bool). (k == u.slot) || b) (wrote_append xs ys k) ∙ sym (or_assoc (k == u.slot) (wrote xs k) (wrote ys k))

pub covers_append : (xs ys : List Undo) (k : ℕ) (bytes : List ℕ) → Covers (xs ++ ys) k bytes → Covers xs k bytes ⊎ Covers ys k bytes
covers_append [] ys k bytes h = inr h
covers_append (u ∷ xs) ys k bytes (inl is) = inl (inl is)
covers_append (u ∷ xs) ys k bytes (inr h) = ⊎_elim (λ l. inl (inr l)) (λ r. inr r) (covers_append xs ys k bytes h)

or_true : (a b : Bool) → b ≡ true → (a || b) ≡ true
or_true true b e = refl
or_true false b e = e

pub covers_wrote : (us : List Undo) (k : ℕ) (bytes : List ℕ) → Covers us k bytes → wrote us k ≡ true
covers_wrote [] k bytes h = absurd h
covers_wrote (u ∷ us) k bytes (inl is) = ap (λ (n : ℕ). (n == u.slot) || wrote us n) (sym is.0) ∙ same u.slot (wrote us u.slot)
  where
    same : (n : ℕ) (b : Bool) → ((n == n) || b) ≡ true
    same n b = grind (arith, nat_tests)
covers_wrote (u ∷ us) k bytes (inr h) = or_true (k == u.slot) (wrote us k) (covers_wrote us k bytes h)

-- ---- one write, and writes after writes

pub one_wrote : (old new : SlotState) (client at : ℕ) (bytes : List ℕ) → 8192 ≤ at → new.failed ≡ old.failed → Writes old new client at bytes → Wrote old new client (at ∷ [])
one_wrote old new client at bytes high failed w =
    let far : is_low at ≡ false = grind (arith, nat_tests, high) in
    record {
      failed = failed;
      rest = λ h k out. ap (λ (f : ℕ → List ℕ). f k) (w.reads h) ∙ apart k at bytes (old.reads k) (λ e. out (subst (λ (n : ℕ). Contains (at ∷ []) n) (sym e) (head_in at [])));
      written = λ k out. w.transaction.written k ∙ other k at ((old.transaction client).written k) (λ e. out (subst (λ (n : ℕ). Contains (at ∷ []) n) (sym e) (head_in at [])));
      marked = λ k there. w.transaction.written k ∙ itself k at ((old.transaction client).written k) (only at k there);
      counted = w.transaction.counted ∙ ap (λ (b : Bool). cond b (old.transaction client).counted ((old.transaction client).counted + 1)) far;
      low = w.transaction.low ∙ ap (λ (b : Bool). cond b ((old.transaction client).low + 1) (old.transaction client).low) far;
      more = record { slot = at; old = w.before } ∷ [];
      undo = w.transaction.undo;
      of = λ k out. other k at false (λ e. out (subst (λ (n : ℕ). Contains (at ∷ []) n) (sym e) (head_in at [])));
      back = λ h k. elim (cases_eq k at) [
        | inl e ↦ subst (λ (n : ℕ). put new.reads at w.before n ≡ old.reads n) (sym e) (here at w.before (new.reads at) ∙ w.before_is h)
        | inr ne ↦ apart k at w.before (new.reads k) ne ∙ (ap (λ (f : ℕ → List ℕ). f k) (w.reads h) ∙ apart k at bytes (old.reads k) ne)
      ];
      covers = λ h k b (c : Covers (record { slot = at; old = w.before } ∷ []) k b). is_old h k b c;
    }
  where
    apart : (k n : ℕ) (x y : List ℕ) → k ≢ n → cond (eqb k n) x y ≡ y
    apart k n x y ne = let no : eqb k n ≡ false = grind (arith, nat_tests, ne) in ap (λ (b : Bool). cond b x y) no

    other : (k n : ℕ) (b : Bool) → k ≢ n → ((k == n) || b) ≡ b
    other k n b ne = grind (arith, nat_tests, ne)

    itself : (k n : ℕ) (b : Bool) → k ≡ n → ((k == n) || b) ≡ true
    itself k n b e = grind (arith, nat_tests, e)

    here : (n : ℕ) (x y : List ℕ) → cond (eqb n n) x y ≡ x
    here n x y = let same : eqb n n ≡ true = grind (arith, nat_tests) in ap (λ (b : Bool). cond b x y) same

    is_old : IsReadable old → (k : ℕ) (b : List ℕ) → Covers (record { slot = at; old = w.before } ∷ []) k b → b ≡ old.reads k
    is_old h k b (inl is) = sym is.1 ∙ (w.before_is h ∙ ap old.reads is.0)
    is_old h k b (inr none) = absurd none

pub wrote_both : (a b c : SlotState) (client : ℕ) (xs ys zs : List ℕ) → b.observable ≡ a.observable → ((k : ℕ) → Contains xs k → ¬ Contains ys k)
    → ((k : ℕ) → ¬ Contains zs k → (¬ Contains xs k) × (¬ Contains ys k)) → ((k : ℕ) → Contains zs k → Contains xs k ⊎ Contains ys k) → length zs ≡ length xs + length ys → Wrote a b client xs → Wrote b c client ys → Wrote a c client zs
wrote_both a b c client xs ys zs seen apart parts whole long f s = record {
  failed = s.failed ∙ f.failed;
  rest = λ h k out. s.rest (then h) k (parts k out).1 ∙ f.rest h k (parts k out).0;
  written = λ k out. s.written k (parts k out).1 ∙ f.written k (parts k out).0;
  marked = λ k there. ⊎_elim (λ (l : Contains xs k). s.written k (apart k l) ∙ f.marked k l) (λ (r : Contains ys k). s.marked k r) (whole k there);
  counted = let x = f.counted in let y = s.counted in omega (arith, x, y, long);
  low = s.low ∙ f.low;
  more = f.more ++ s.more;
  undo = s.undo ∙ (ap (λ (us : List Undo). us ++ s.more) f.undo ∙ append_assoc (a.transaction client).undo f.more s.more);
  of = λ k out. wrote_append f.more s.more k ∙ either_false (wrote f.more k) (wrote s.more k) (f.of k (parts k out).0) (s.of k (parts k out).1);
  back = λ h k. undone_append f.more s.more c.reads k ∙ (undone_at f.more (undone s.more c.reads) b.reads k (s.back (then h) k) ∙ f.back h k);
  covers = λ h k bytes is. ⊎_elim
      (λ (l : Covers f.more k bytes). f.covers h k bytes l)
      (λ (r : Covers s.more k bytes). s.covers (then h) k bytes r ∙ f.rest h k (λ there. clash k bytes r (s.of k (apart k there))))
      (covers_append f.more s.more k bytes is);
}
  where
    then : IsReadable a → IsReadable b
    then h = readable_on a b seen f.failed h

    clash : (k : ℕ) (bytes : List ℕ) → Covers s.more k bytes → wrote s.more k ≡ false → ⊥
    clash k bytes r none = let some = covers_wrote s.more k bytes r in cc (some, none)

-- memory is reserved first, and the writes follow
pub wrote_after_grows : (a b c : SlotState) (client n : ℕ) (slots : List ℕ) → b.failed ≡ a.failed → Grows a b client n → Wrote b c client slots → Wrote a c client slots
wrote_after_grows a b c client n slots same g w = record {
  failed = w.failed ∙ same;
  rest = λ h k out. w.rest (then h) k out ∙ ap (λ (f : ℕ → List ℕ). f k) (g.reads h);
  written = λ k out. w.written k out ∙ g.transaction.written k;
  marked = w.marked;
  counted = w.counted ∙ ap (λ (m : ℕ). m + length slots) g.transaction.counted;
  low = w.low ∙ g.transaction.low;
  more = w.more;
  undo = w.undo ∙ ap (λ (us : List Undo). us ++ w.more) g.transaction.undo;
  of = w.of;
  back = λ h k. w.back (then h) k ∙ ap (λ (f : ℕ → List ℕ). f k) (g.reads h);
  covers = λ h k bytes is. w.covers (then h) k bytes is ∙ ap (λ (f : ℕ → List ℕ). f k) (g.reads h);
}
  where
    then : IsReadable a → IsReadable b
    then h = readable_on a b g.keeps.observable same h

-- the same for a result
pub written_one : {T : Type 0} (r : Result T SlotFault) (old new : SlotState) (client at : ℕ) (bytes : List ℕ) → 8192 ≤ at → HasCause old new r → OnOk r (Writes old new client at bytes) → OnOk r (Wrote old new client (at ∷ []))
written_one (Ok v) old new client at bytes high cause w = one_wrote old new client at bytes high (cause.stays (λ e. cc e)) w
written_one (Err e) old new client at bytes high cause w = tt

pub on_ok : {T E : Type 0} {P Q : Type 0} (r : Result T E) → OnOk r P → (P → Q) → OnOk r Q
on_ok (Ok v) p f = f p
on_ok (Err e) p f = tt

pub both_ok : {T E : Type 0} {P Q R : Type 0} (r : Result T E) → OnOk r P → OnOk r Q → (P → Q → R) → OnOk r R
both_ok (Ok v) p q f = f p q
both_ok (Err e) p q f = tt
