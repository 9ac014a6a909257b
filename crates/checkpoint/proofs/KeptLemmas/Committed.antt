-- The log after a commit, and what the images recover to at each moment of its flush.
use Rattle.std.proofs.Common.{◌≡◌, ◌≢◌, ◌⊎◌, inl, inr, ⊎_elim, ℕ, ◌*◌, ◌%◌, ◌<◌, ◌≤◌, if◌then◌else◌, Bool, List, [], ◌∷◌, ◌++◌, Option, Some, None, refl, sym, ◌∙◌, ap, subst, arith, append_assoc}
use Rattle.std.proofs.lemmas.List.{append-nil}
use Rattle.std.proofs.lemmas.Bool.{cases_eq, cases_lt, true≢false}
use Rattle.storage.specs.declared.slots.Undo.{Undo}
use Rattle.storage.specs.Slots.{wrote, joined}
use Rattle.log_meaning.specs.steps.Steps.{Image, Run}
use Rattle.log_meaning.specs.declared.note.Note.{Note}
use Rattle.log_meaning.specs.declared.note.Note.TheVariants.{Commit}
use Rattle.log_meaning.specs.Recovered.{changes_of, recovered}
use Rattle.log_meaning.specs.Images.{Recovers}
use Rattle.log_meaning.specs.LogState.{notes_in, LogState, IsFilled}
use Rattle.log_meaning.specs.Logged.{Logged}
use Rattle.log_meaning.proofs.LogStates.{committed_now, relog}
use Rattle.log_meaning.proofs.LoggedEnds.{commits}
use Rattle.bi_log.specs.declared.log.Log.{Log}
use Rattle.bi_log.specs.Appending.{Holds, with_batch, RestsAt, Appends}
use Rattle.bi_log.specs.Logs.{Keeps}
use Rattle.checkpoint.specs.kept.Numbers.{is_number, is_live, undo_of, AreBelow}
use Rattle.checkpoint.specs.kept.KeptLog.{KeptLog, IsFilledTo}
use Rattle.checkpoint.proofs.KeptLemmas.Numbered.{number_live, number_dead, number_none, undo_number, undo_dead, below_more}
use Rattle.checkpoint.proofs.KeptLemmas.Noted.{notes-more, filled_all, filled_commit, still_noted}
use Rattle.checkpoint.proofs.KeptLemmas.Flushed.{recovers_to, with_more}

module _ (committed reads : ℕ → List ℕ) (was now : ℕ) (left left' : ℕ → Image → Type 0) (log log' : Log) (un : ℕ → Option ℕ) (number number' : ℕ → Option ℕ) (list list' : ℕ → List Undo) (g e f n c tx : ℕ)
    (k : KeptLog committed reads (left was) log un number list g e f n)
    (is : number c ≡ Some tx) (gone : number' c ≡ None) (others : (d : ℕ) → d ≢ c → number' d ≡ number d) (none : list' c ≡ []) (lists : (d : ℕ) → d ≢ c → list' d ≡ list d)
    (run : Run was now left left' (Appends log.area k.held (k.buffered ++ Commit tx ∷ []))) where
  modulo : tx % 16 ≡ c
  modulo = (k.numbered c tx is).0

  same_live : (t : ℕ) → t ≢ tx → is_live number' t ≡ is_live number t
  same_live t ne = elim (cases_eq (t % 16) c) [
    | inl its ↦ number_none number' c t gone its ∙ sym (number_dead number c t tx is its (λ e. ne (sym e)))
    | inr other ↦ ap (λ (o : Option ℕ). is_number o t) (others (t % 16) other)
  ]

  same_undo : (t : ℕ) → t ≢ tx → undo_of number' list' t ≡ undo_of number list t
  same_undo t ne = elim (cases_eq (t % 16) c) [
    | inl its ↦ undo_dead number' list' t (number_none number' c t gone its) ∙ sym (undo_dead number list t (number_dead number c t tx is its (λ e. ne (sym e))))
    | inr other ↦ ap (λ (b : Bool). if b then list' (t % 16) else []) (same_live t ne) ∙ ap (λ (us : List Undo). if is_live number t then us else []) (lists (t % 16) other)
  ]

  logged : Logged ((notes_in k.held.batches ++ k.buffered) ++ Commit tx ∷ []) k.base (joined (list c) reads committed) reads (is_live number') (undo_of number' list')
  logged = subst (λ (us : List Undo). Logged ((notes_in k.held.batches ++ k.buffered) ++ Commit tx ∷ []) k.base (joined us reads committed) reads (is_live number') (undo_of number' list')) (undo_number number list c tx is modulo)
      (commits (notes_in k.held.batches ++ k.buffered) k.base committed reads (is_live number) (is_live number') (undo_of number list) (undo_of number' list') tx k.logged (number_live number c tx is modulo) (number_none number' c tx gone modulo) same_live same_undo)

  all_in : notes_in (k.held.batches ++ (k.buffered ++ Commit tx ∷ []) ∷ []) ≡ (notes_in k.held.batches ++ k.buffered) ++ Commit tx ∷ []
  all_in = notes-more k.held.batches (k.buffered ++ Commit tx ∷ []) ∙ sym (append_assoc (notes_in k.held.batches) k.buffered (Commit tx ∷ []))

  recovers_all : (s : ℕ) → recovered (notes_in (k.held.batches ++ (k.buffered ++ Commit tx ∷ []) ∷ [])) k.base s ≡ joined (list c) reads committed s
  recovers_all s = ap (λ (l : List Note). recovered l k.base s) all_in ∙ committed_now ((notes_in k.held.batches ++ k.buffered) ++ Commit tx ∷ []) k.base (joined (list c) reads committed) reads (is_live number') (undo_of number' list') logged s

  -- each image recovers to what was committed, or to that with this commit
  pub commit_leaves : (m : ℕ) (image : Image) → was < m → left' m image → Recovers image committed ⊎ Recovers image (joined (list c) reads committed)
  commit_leaves m image later known =
      let h = run.here m image later known in
      ⊎_elim
      (λ (without : Holds (image log.area) k.held). inl (recovers_to log.area k.held.generation e k.held.batches k.base committed image
      (relog log.area k.held.generation e k.held.batches k.held.batches k.base (h.0) image (h.2).others without (λ s none. none) (k.agrees (h.0) (h.1))) k.settled))
      (λ (with_it : Holds (image log.area) (with_batch k.held (k.buffered ++ Commit tx ∷ []))). inr (recovers_to log.area k.held.generation e (k.held.batches ++ (k.buffered ++ Commit tx ∷ []) ∷ []) k.base (joined (list c) reads committed) image
      (with_more log.area k.held.generation e k.held.batches (k.buffered ++ Commit tx ∷ []) k.base (h.0) image (h.2).others with_it (k.agrees (h.0) (h.1))) recovers_all))
      (h.2).log

  pub committed_log : Keeps log' (left' now) (with_batch k.held (k.buffered ++ Commit tx ∷ [])) [] → log'.area ≡ log.area → KeptLog (joined (list c) reads committed) reads (left' now) log' un number' list' g e f n
  committed_log keeps area = record {
    held = with_batch k.held (k.buffered ++ Commit tx ∷ []);
    buffered = [];
    base = k.base;
    generation_is = k.generation_is;
    keeps = keeps;
    agrees = λ image known.
        let h = from_before image known in
        subst (λ (a : ℕ). LogState a k.held.generation e (k.held.batches ++ (k.buffered ++ Commit tx ∷ []) ∷ []) k.base image) (sym area)
        (with_more log.area k.held.generation e k.held.batches (k.buffered ++ Commit tx ∷ []) k.base (h.0) image (h.2) (subst (λ (a : ℕ). RestsAt (image a) (with_batch k.held (k.buffered ++ Commit tx ∷ [])) log'.gate) area (keeps.each image known)).log (k.agrees (h.0) (h.1)));
    logged = subst (λ (l : List Note). Logged l k.base (joined (list c) reads committed) reads (is_live number') (undo_of number' list')) (sym now_all) logged;
    settled = recovers_all;
    numbered = λ d m its. elim (cases_eq d c) [
      | inl here ↦ absurd (no_number m (sym gone ∙ ap number' (sym here) ∙ its))
      | inr other ↦ k.numbered d m (sym (others d other) ∙ its)
    ];
    below = subst (AreBelow (16 * n)) (sym now_all) (below_more (16 * n) (notes_in k.held.batches ++ k.buffered) (Commit tx ∷ []) k.below ((k.numbered c tx is).1, tt));
    settled_filled = subst (IsFilled e) (sym all_in) (filled_all e f ((notes_in k.held.batches ++ k.buffered) ++ Commit tx ∷ []) filled);
    filled_to = subst (IsFilledTo e f) (sym now_all) filled;
    changes = λ slot note its.
        let some = still_noted slot (notes_in k.held.batches ++ k.buffered) (Commit tx ∷ []) ((k.changes slot note its).0) in
        (subst (λ (l : List Note). changes_of slot l ≢ []) (sym now_all) some, λ le. subst (λ (l : List Note). changes_of slot l ≢ []) (sym all_in) some);
    noted = λ d slot w. subst (λ (l : List Note). changes_of slot l ≢ []) (sym now_all) (still_noted slot (notes_in k.held.batches ++ k.buffered) (Commit tx ∷ []) (elim (cases_eq d c) [
      | inl here ↦ absurd (true≢false (sym w ∙ ap (λ (x : ℕ). wrote (list' x) slot) here ∙ ap (λ (us : List Undo). wrote us slot) none))
      | inr other ↦ k.noted d slot (ap (λ (us : List Undo). wrote us slot) (sym (lists d other)) ∙ w)
    ]));
  }
    where
      now_all : notes_in (k.held.batches ++ (k.buffered ++ Commit tx ∷ []) ∷ []) ++ [] ≡ (notes_in k.held.batches ++ k.buffered) ++ Commit tx ∷ []
      now_all = append-nil (notes_in (k.held.batches ++ (k.buffered ++ Commit tx ∷ []) ∷ [])) ∙ all_in

      filled : IsFilledTo e f ((notes_in k.held.batches ++ k.buffered) ++ Commit tx ∷ [])
      filled = filled_commit e f (notes_in k.held.batches ++ k.buffered) tx k.filled_to

      no_number : (m : ℕ) → None ≡ Some m → ⊥
      no_number m e = cc

      from_before : (image : Image) → left' now image → (d : Image) × left was d × ((j : ℕ) → j ≢ log.area → image j ≡ d j)
      from_before image known = ⊎_elim
          (λ (later : was < now). let h = run.here now image later known in (h.0, h.1, (h.2).others))
          (λ (same : now ≤ was). (image, subst (λ (x : ℕ). left x image) (let l = run.later in omega (arith, same, l)) (run.nothing_else now image same known), (λ j other. refl)))
          (cases_lt was now)
