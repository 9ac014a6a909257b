-- How time passes over a recorded call, and over one that is not recorded.
use Rattle.std.proofs.Common.{◌≡◌, ◌≢◌, inl, inr, ℕ, zero, suc, ◌+◌, ◌<◌, ◌≤◌, ◌^◌, ◌==◌, Bool, true, false, if◌then◌else◌, List, [], ◌∷◌, ◌++◌, length, take, slice_set, slice_index_or, Vec, refl, sym, ◌∙◌, ap, subst, arith, length-append}
use Rattle.std.proofs.lemmas.Bool.{cases_eq}
use Rattle.std.proofs.lemmas.Bool.Decides.{nat_tests}
use Rattle.std.proofs.lemmas.List.{take_all}
use Rattle.std.specs.declared.alloc.Global.{Global}
use Rattle.mem_disk.specs.declared.call.Effect.{Effect}
use Rattle.mem_disk.specs.declared.call.Effect.TheVariants.{Written, Cut, Synced, Nothing}
use Rattle.storage.specs.Disk.{Torn, TornIn, Passes, overlaid}
use Rattle.mem_disk.specs.Notes.{Note, Held, done_by, done, held, fresh, Reaches, LeftBy, Left, bytes_in}
use Rattle.mem_disk.specs.Crash.{is_write}
use Rattle.mem_disk.specs.Laws.{torn_none, torn_whole, seen_reaches}
use Rattle.mem_disk.proofs.Record.{after_push, note_on, note_off}

abbrev pub Image : Type 0
Image = ℕ → List ℕ

take_push : {A : Type 0} (m : ℕ) (xs ys : List A) → m ≤ length xs → take m (xs ++ ys) ≡ take m xs
take_push zero xs ys le = refl
take_push (suc m) [] ys le = absurd (omega arith)
take_push (suc m) (x ∷ xs) ys le = ap (λ (l : List _). x ∷ l) (take_push m xs ys (omega arith))

-- a recorded call: what is observable of earlier moments stays
module _ (first : ℕ → List ℕ) (notes new : List Note) (time : ℕ) (counts : time ≡ length notes) (n : Note) (more : new ≡ notes ++ n ∷ []) where
  same_past : (m : ℕ) → m ≤ time → take m new ≡ take m notes
  same_past m le = ap (λ (l : List Note). take m l) more ∙ take_push m notes (n ∷ []) (omega arith)

  pub passes : (ok : Bool) (step : Image → Image → Type 0)
      → ((image : Image) → LeftBy first (notes ++ n ∷ []) image → (d : Image) × LeftBy first notes d × step d image)
      → Passes ok time (time + 1) (Left first notes time) (Left first new (time + 1)) step
  passes ok step each = record {
    one = inl refl;
    nothing_else = λ m image le left. record { past = le; left = subst (λ (l : List Note). LeftBy first l image) (same_past m le) left.left };
    stays = λ m image le left. record { past = omega (arith, le); left = subst (λ (l : List Note). LeftBy first l image) (sym (same_past m le)) left.left };
    here = λ image left.
        let long : length new ≤ time + 1 = omega (arith, counts, ap length more, length-append notes (n ∷ [])) in
        let whole : take (time + 1) new ≡ notes ++ n ∷ [] = take_all (time + 1) new long ∙ more in
        let from = each image (subst (λ (l : List Note). LeftBy first l image) whole left.left) in
        (from.0, record { past = omega arith; left = subst (λ (l : List Note). LeftBy first l from.0) (sym (take_all time notes (omega arith))) from.1 }, from.2);
  }

-- a call for which the record has no room
pub passes_by : (first : ℕ → List ℕ) (notes new : List Note) (time : ℕ) (ok : Bool) (step : Image → Image → Type 0) → length notes ≤ time → new ≡ notes → ((image : Image) → step image image)
    → Passes ok time (time + 1) (Left first notes time) (Left first new (time + 1)) step
passes_by first notes new time ok step le same still = record {
  one = inl refl;
  nothing_else = λ m image below left. record { past = below; left = subst (λ (l : List Note). LeftBy first (take m l) image) same left.left };
  stays = λ m image below left. record { past = omega (arith, below); left = subst (λ (l : List Note). LeftBy first (take m l) image) (sym same) left.left };
  here = λ image left.
      let whole : take (time + 1) new ≡ take time notes = ap (λ (l : List Note). take (time + 1) l) same ∙ take_all (time + 1) notes (omega (arith, le)) ∙ sym (take_all time notes le) in
      (image, record { past = omega arith; left = subst (λ (l : List Note). LeftBy first l image) whole left.left }, still image);
}

-- a call when no moment is left: the time stays
pub passes_not : (before : ℕ → Image → Type 0) (time : ℕ) (step : Image → Image → Type 0) → 2 ^ 64 ≤ time + 1 → ((image : Image) → step image image) → Passes false time time before before step
passes_not before time step last still = record {
  one = inr (refl, last, refl);
  nothing_else = λ m image le left. left;
  stays = λ m image le left. left;
  here = λ image left. (image, left, still image);
}

pub torn_not : (area at n : ℕ) (image : Image) → TornIn area at n image image
torn_not area at n image = record { torn = torn_none at n (image area); others = λ k ne. refl }

abbrev swap : Image → ℕ → List ℕ → Image
swap image area x k = if k == area then x else image k

swap_same : (image : Image) (area : ℕ) (x : List ℕ) → swap image area x area ≡ x
swap_same image area x = grind (arith, nat_tests)

swap_other : (image : Image) (area : ℕ) (x : List ℕ) (k : ℕ) → k ≢ area → swap image area x k ≡ image k
swap_other image area x k ne = grind (arith, nat_tests)

-- what a call does to the areas
module _ (first : ℕ → List ℕ) (notes : List Note) (n : Note) where
  here : held first (notes ++ n ∷ []) n.area ≡ done n (held first notes n.area)
  here = after_push n.area (fresh (first n.area)) notes n ∙ note_on n.area (held first notes n.area) n refl

  elsewhere : (k : ℕ) → k ≢ n.area → held first (notes ++ n ∷ []) k ≡ held first notes k
  elsewhere k ne = after_push k (fresh (first k)) notes n ∙ note_off k (held first notes k) n (λ e. ne (sym e))

  pub seen_elsewhere : (k : ℕ) → k ≢ n.area → (held first (notes ++ n ∷ []) k).seen ≡ (held first notes k).seen
  seen_elsewhere k ne = ap (λ (h : Held). h.seen) (elsewhere k ne)

  pub seen_here : (held first (notes ++ n ∷ []) n.area).seen ≡ (done n (held first notes n.area)).seen
  seen_here = ap (λ (h : Held). h.seen) here

  same_by : (e : Effect) (a : Held) → (e ≡ Written → ⊥) → (done_by e n a).seen ≡ a.seen
  same_by Written a not = absurd (not refl)
  same_by Cut a not = refl
  same_by Synced a not = refl
  same_by Nothing a not = refl

  -- what is read stays, unless the call is a completed write
  pub seen_same : (n.effect ≡ Written → ⊥) → (k : ℕ) → (held first (notes ++ n ∷ []) k).seen ≡ (held first notes k).seen
  seen_same not k = elim (cases_eq k n.area) [
    | inl e ↦ subst (λ (j : ℕ). (held first (notes ++ n ∷ []) j).seen ≡ (held first notes j).seen) (sym e) (seen_here ∙ same_by n.effect (held first notes n.area) not)
    | inr ne ↦ seen_elsewhere k ne
  ]

  write_by : (e : Effect) (a : Held) → is_write e ≡ true → ((done_by e n a).synced ≡ a.synced) × ((done_by e n a).pending ≡ n ∷ a.pending)
  write_by Written a is = (refl, refl)
  write_by Cut a is = (refl, refl)
  write_by Synced a is = absurd (cc)
  write_by Nothing a is = absurd (cc)

  pub write_step : is_write n.effect ≡ true → (image : Image) → LeftBy first (notes ++ n ∷ []) image → (d : Image) × LeftBy first notes d × TornIn n.area n.at (length n.bytes) d image
  write_step is image left = (d, d_left, record { torn = torn; others = λ k ne. sym (d_other k ne) })
    where
      a : Held
      a = held first notes n.area

      from : (x : List ℕ) × Reaches a.synced a.pending x × Torn n.at (length n.bytes) x (image n.area)
      from =
          let does = write_by n.effect a is in
          let now : Reaches (done n a).synced (done n a).pending (image n.area) = subst (λ (h : Held). Reaches h.synced h.pending (image n.area)) here (left n.area) in
          let one = subst (λ (s : List ℕ). Reaches s (done n a).pending (image n.area)) does.0 now in
          subst (λ (p : List Note). Reaches a.synced p (image n.area)) does.1 one

      d : Image
      d k = swap image n.area from.0 k

      d_same : d n.area ≡ from.0
      d_same = swap_same image n.area from.0

      d_other : (k : ℕ) → k ≢ n.area → d k ≡ image k
      d_other k ne = swap_other image n.area from.0 k ne

      d_left : LeftBy first notes d
      d_left k = elim (cases_eq k n.area) [
        | inl e ↦ subst (λ (j : ℕ). Reaches (held first notes j).synced (held first notes j).pending (d j)) (sym e) (subst (λ (x : List ℕ). Reaches a.synced a.pending x) (sym d_same) from.1)
        | inr ne ↦ subst (λ (x : List ℕ). Reaches (held first notes k).synced (held first notes k).pending x) (sym (d_other k ne)) (subst (λ (h : Held). Reaches h.synced h.pending (image k)) (elsewhere k ne) (left k))
      ]

      torn : Torn n.at (length n.bytes) (d n.area) (image n.area)
      torn = subst (λ (x : List ℕ). Torn n.at (length n.bytes) x (image n.area)) (sym d_same) from.2

  still_by : (e : Effect) (c : List ℕ) → is_write e ≡ false → Reaches (done_by e n (held first notes n.area)).synced (done_by e n (held first notes n.area)).pending c → Reaches (held first notes n.area).synced (held first notes n.area).pending c
  still_by Written c is r = absurd (cc)
  still_by Cut c is r = absurd (cc)
  still_by Synced c is r = subst (λ (x : List ℕ). Reaches (held first notes n.area).synced (held first notes n.area).pending x) (sym r) (seen_reaches n.area (fresh (first n.area)) notes refl)
  still_by Nothing c is r = r

  -- after a call that is no write, a crash leaves only images that it might leave before
  pub still_step : is_write n.effect ≡ false → (step : Image → Image → Type 0) → ((image : Image) → step image image) → (image : Image) → LeftBy first (notes ++ n ∷ []) image → (d : Image) × LeftBy first notes d × step d image
  still_step is step still image left = (image, (λ k. each k), still image)
    where
      each : (k : ℕ) → Reaches (held first notes k).synced (held first notes k).pending (image k)
      each k = elim (cases_eq k n.area) [
        | inl e ↦ subst (λ (j : ℕ). Reaches (held first notes j).synced (held first notes j).pending (image j)) (sym e) (still_by n.effect (image n.area) is (subst (λ (h : Held). Reaches h.synced h.pending (image n.area)) here (left n.area)))
        | inr ne ↦ subst (λ (h : Held). Reaches h.synced h.pending (image k)) (elsewhere k ne) (left k)
      ]

  synced_by : (e : Effect) (a : Held) (c : List ℕ) → e ≡ Synced → Reaches (done_by e n a).synced (done_by e n a).pending c → c ≡ (done_by e n a).seen
  synced_by Written a c is r = absurd (cc)
  synced_by Cut a c is r = absurd (cc)
  synced_by Synced a c is r = r
  synced_by Nothing a c is r = absurd (cc)

  -- after a completed sync, a crash leaves what is read
  pub durable : n.effect ≡ Synced → (image : Image) → LeftBy first (notes ++ n ∷ []) image → image n.area ≡ (held first (notes ++ n ∷ []) n.area).seen
  durable is image left =
      synced_by n.effect (held first notes n.area) (image n.area) is (subst (λ (h : Held). Reaches h.synced h.pending (image n.area)) here (left n.area)) ∙ sym seen_here

pub bytes_set_same : (vs : List (Vec ℕ Global)) (k : ℕ) (v : Vec ℕ Global) → k < length vs → bytes_in (slice_set vs k v) k ≡ v.items
bytes_set_same [] k v lt = absurd (omega arith)
bytes_set_same (x ∷ vs) zero v lt = refl
bytes_set_same (x ∷ vs) (suc k) v lt = bytes_set_same vs k v (omega arith)

pub bytes_set_other : (vs : List (Vec ℕ Global)) (k j : ℕ) (v : Vec ℕ Global) → j ≢ k → bytes_in (slice_set vs k v) j ≡ bytes_in vs j
bytes_set_other [] k j v ne = refl
bytes_set_other (x ∷ vs) zero zero v ne = absurd (ne refl)
bytes_set_other (x ∷ vs) zero (suc j) v ne = refl
bytes_set_other (x ∷ vs) (suc k) zero v ne = refl
bytes_set_other (x ∷ vs) (suc k) (suc j) v ne = bytes_set_other vs k j v (λ e. ne (ap suc e))

pub bytes_at : (vs : List (Vec ℕ Global)) (k : ℕ) (v : Vec ℕ Global) → k < length vs → v ≡ slice_index_or vs k v → bytes_in vs k ≡ v.items
bytes_at [] k v lt is = absurd (omega arith)
bytes_at (x ∷ vs) zero v lt is = ap (λ (w : Vec ℕ Global). w.items) (sym is)
bytes_at (x ∷ vs) (suc k) v lt is = bytes_at vs k v (omega arith) is

held_by : (e : Effect) (n : Note) (a : Held) → e ≡ Nothing → done_by e n a ≡ a
held_by Written n a is = absurd (cc)
held_by Cut n a is = absurd (cc)
held_by Synced n a is = absurd (cc)
held_by Nothing n a is = refl

-- a call that changed nothing
pub held_same : (first : ℕ → List ℕ) (notes : List Note) (n : Note) → n.effect ≡ Nothing → (k : ℕ) → held first (notes ++ n ∷ []) k ≡ held first notes k
held_same first notes n is k = elim (cases_eq k n.area) [
  | inl e ↦ subst (λ (j : ℕ). held first (notes ++ n ∷ []) j ≡ held first notes j) (sym e) (here first notes n ∙ held_by n.effect n (held first notes n.area) is)
  | inr ne ↦ elsewhere first notes n k ne
]

-- what is read after a completed write is torn only in the range of the write
pub written_torn : (first : ℕ → List ℕ) (notes : List Note) (n : Note) → n.effect ≡ Written → TornIn n.area n.at (length n.bytes) (λ k. (held first notes k).seen) (λ k. (held first (notes ++ n ∷ []) k).seen)
written_torn first notes n is = record {
  torn = subst (λ (l : List ℕ). Torn n.at (length n.bytes) (held first notes n.area).seen l) (sym (seen_here first notes n ∙ written_by n.effect is)) (torn_whole n.at n.bytes (held first notes n.area).seen);
  others = λ k ne. seen_elsewhere first notes n k ne;
}
  where
    written_by : (e : Effect) → e ≡ Written → (done_by e n (held first notes n.area)).seen ≡ overlaid n.at n.bytes (held first notes n.area).seen
    written_by Written is = refl
    written_by Cut is = absurd (cc)
    written_by Synced is = absurd (cc)
    written_by Nothing is = absurd (cc)
