-- Of the record: the disk as it reads is one of its images, and no image passes 2^40 bytes.
use Rattle.std.specs.Prelude.{◌≡◌, ℕ, zero, suc, ◌+◌, ◌-◌, ◌≤◌, ◌^◌, ◌==◌, max, Bool, true, false, if◌then◌else◌, List, [], ◌∷◌, ◌++◌, length, take, drop, get_or, replicate, refl}
use Rattle.std.proofs.Common.{sym, ◌∙◌, ap, subst, arith, length-append, length-drop}
use Rattle.std.proofs.lemmas.List.{get_or_append_left, get_or-append_right, get_or-take, get_or-drop, length-take, length-replicate, take_all}
use Rattle.mem_disk.specs.declared.call.Call.{Call}
use Rattle.mem_disk.specs.declared.call.Effect.{Effect}
use Rattle.mem_disk.specs.declared.call.Effect.TheVariants.{Written, Cut, Synced, Nothing}
use Rattle.storage.specs.Disk.{Torn, overlaid, IsImage}
use Rattle.mem_disk.specs.Notes.{Note, Held, notes_of, done_by, done, after_note, after_notes, held, fresh, Reaches, Left}
use Rattle.mem_disk.specs.Sound.{AllInside}

pub torn_none : (at n : ℕ) (old : List ℕ) → Torn at n old old
torn_none at n old = record { no_shorter = omega arith; no_longer = omega arith; below = λ i lt less. refl; above = λ i lt le. refl }

module _ (at : ℕ) (bytes old : List ℕ) where
  length-front : length (take at old ++ replicate (at - length old) 0) ≡ at
  length-front = omega (arith, length-append (take at old) (replicate (at - length old) 0), length-take at old, length-replicate {A = ℕ} (at - length old) 0)

  length-both : length ((take at old ++ replicate (at - length old) 0) ++ bytes) ≡ at + length bytes
  length-both = omega (arith, length-append (take at old ++ replicate (at - length old) 0) bytes, length-front)

  pub length-overlaid : length (overlaid at bytes old) ≡ max (length old) (at + length bytes)
  length-overlaid = omega (arith, length-append ((take at old ++ replicate (at - length old) 0) ++ bytes) (drop (at + length bytes) old), length-both, length-drop (at + length bytes) old)

  pub torn_whole : Torn at (length bytes) old (overlaid at bytes old)
  torn_whole = record {
    no_shorter = omega (arith, length-overlaid);
    no_longer = omega (arith, length-overlaid);
    below = λ i lt less.
        get_or_append_left ((take at old ++ replicate (at - length old) 0) ++ bytes) (drop (at + length bytes) old) 0 i (omega (arith, less, length-both))
        ∙ get_or_append_left (take at old ++ replicate (at - length old) 0) bytes 0 i (omega (arith, less, length-front))
        ∙ get_or_append_left (take at old) (replicate (at - length old) 0) 0 i (omega (arith, less, lt, length-take at old))
        ∙ get_or-take at old i 0 less;
    above = λ i lt le.
        get_or-append_right ((take at old ++ replicate (at - length old) 0) ++ bytes) (drop (at + length bytes) old) (at + length bytes) i 0 length-both le
        ∙ get_or-drop (at + length bytes) old (i - (at + length bytes)) 0
        ∙ (let same : (at + length bytes) + (i - (at + length bytes)) ≡ i = omega (arith, le) in ap (λ (j : ℕ). get_or old j 0) same);
  }

by_reaches : (e : Effect) (n : Note) (a : Held) → Reaches a.synced a.pending a.seen → Reaches (done_by e n a).synced (done_by e n a).pending (done_by e n a).seen
by_reaches Written n a r = (a.seen, r, torn_whole n.at n.bytes a.seen)
by_reaches Cut n a r = (a.seen, r, torn_none n.at (length n.bytes) a.seen)
by_reaches Synced n a r = refl
by_reaches Nothing n a r = r

if_held : (P : Held → Type 0) (b : Bool) (x y : Held) → P x → P y → P (if b then x else y)
if_held P true x y px py = px
if_held P false x y px py = py

-- what a read gives is one of the images of an area
pub seen_reaches : (k : ℕ) (a : Held) (notes : List Note) → Reaches a.synced a.pending a.seen → Reaches (after_notes k a notes).synced (after_notes k a notes).pending (after_notes k a notes).seen
seen_reaches k a [] r = r
seen_reaches k a (n ∷ notes) r = seen_reaches k (after_note k a n) notes (if_held (λ h. Reaches h.synced h.pending h.seen) (n.area == k) (done n a) a (by_reaches n.effect n a r) r)

pub reads_left : (first : ℕ → List ℕ) (notes : List Note) (time : ℕ) → length notes ≤ time → Left first notes time time (λ k. (held first notes k).seen)
reads_left first notes time le = record {
  past = omega arith;
  left = λ k. subst (λ (l : List Note). Reaches (held first l k).synced (held first l k).pending (held first notes k).seen) (sym (take_all time notes le)) (seen_reaches k (fresh (first k)) notes refl);
}

pub length-notes_of : (pool : List ℕ) (calls : List Call) → length (notes_of pool calls) ≡ length calls
length-notes_of pool [] = refl
length-notes_of pool (call ∷ calls) = ap suc (length-notes_of pool calls)

-- each of these writes ends at 2^40 at most
abbrev pub AllEnd : List Note → Type 0
AllEnd [] = Unit {0}
AllEnd (n ∷ notes) = (n.at + length n.bytes ≤ 2 ^ 40) × AllEnd notes

pub record IsSmall (a : Held) : Type 0 where
  pub synced : length a.synced ≤ 2 ^ 40
  pub seen : length a.seen ≤ 2 ^ 40
  pub pending : AllEnd a.pending

by_small : (e : Effect) (n : Note) (a : Held) → n.at + length n.bytes ≤ 2 ^ 40 → IsSmall a → IsSmall (done_by e n a)
by_small Written n a le s = let long = length-overlaid n.at n.bytes a.seen in record { synced = s.synced; seen = omega (arith, long, le, s.seen); pending = (le, s.pending) }
by_small Cut n a le s = record { synced = s.synced; seen = s.seen; pending = (le, s.pending) }
by_small Synced n a le s = record { synced = s.seen; seen = s.seen; pending = tt }
by_small Nothing n a le s = s

after_small : (k : ℕ) (a : Held) (notes : List Note) → AllEnd notes → IsSmall a → IsSmall (after_notes k a notes)
after_small k a [] ends s = s
after_small k a (n ∷ notes) ends s = after_small k (after_note k a n) notes ends.1 (if_held IsSmall (n.area == k) (done n a) a (by_small n.effect n a ends.0 s) s)

reaches_small : (synced : List ℕ) (pending : List Note) (c : List ℕ) → length synced ≤ 2 ^ 40 → AllEnd pending → Reaches synced pending c → length c ≤ 2 ^ 40
reaches_small synced [] c small ends is = subst (λ (l : List ℕ). length l ≤ 2 ^ 40) (sym is) small
reaches_small synced (n ∷ earlier) c small ends r = let d = reaches_small synced earlier r.0 small ends.1 r.1 in let t = r.2.no_longer in omega (arith, d, t, ends.0)

pub ends_take : (m : ℕ) (notes : List Note) → AllEnd notes → AllEnd (take m notes)
ends_take zero notes ends = tt
ends_take (suc m) [] ends = tt
ends_take (suc m) (n ∷ notes) ends = (ends.0, ends_take m notes ends.1)

pub ends_inside : (pool : List ℕ) (size : ℕ) (calls : List Call) → AllInside size calls → AllEnd (notes_of pool calls)
ends_inside pool size [] all = tt
ends_inside pool size (call ∷ calls) all =
    let one = all 0 (omega arith) in
    let long = length-take call.length (drop call.from pool) in
    (omega (arith, one.small, long), ends_inside pool size calls (λ i lt. all (suc i) (omega arith)))

pub image_known : (first : ℕ → List ℕ) (pool : List ℕ) (size : ℕ) (calls : List Call) (time m : ℕ) (image : ℕ → List ℕ) → ((k : ℕ) → length (first k) ≤ 2 ^ 40) → AllInside size calls
    → Left first (notes_of pool calls) time m image → IsImage true time m image
image_known first pool size calls time m image small all left =
    let ends = ends_take m (notes_of pool calls) (ends_inside pool size calls all) in
    record {
      same_observable = refl;
      past = left.past;
      small = λ k.
          let s = after_small k (fresh (first k)) (take m (notes_of pool calls)) ends (record { synced = small k; seen = small k; pending = tt }) in
          reaches_small (held first (take m (notes_of pool calls)) k).synced (held first (take m (notes_of pool calls)) k).pending (image k) s.synced s.pending (left.left k);
    }
