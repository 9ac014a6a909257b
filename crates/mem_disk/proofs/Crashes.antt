-- The image that a crash leaves, as what is torn makes it, is one that a crash may leave.
use Rattle.std.proofs.Common.{◌≡◌, ℕ, zero, suc, ◌<◌, ◌≤◌, ◌==◌, Bool, true, false, ◌&&◌, ◌||◌, not, if◌then◌else◌, List, [], ◌∷◌, length, take, drop, replicate, Result, Ok, Err, IfOk, refl, sym, ◌∙◌, ap, subst, arith}
use Rattle.std.proofs.lemmas.Bool.Decides.{nat_tests}
use Rattle.std.proofs.lemmas.List.{length-replicate, length-take, get_or-take}
use Rattle.storage.specs.Disk.{Torn as TornBytes, overlaid}
use Rattle.mem_disk.specs.declared.call.Call.{Call}
use Rattle.mem_disk.specs.declared.call.Effect.{Effect}
use Rattle.mem_disk.specs.declared.call.Effect.TheVariants.{Written, Cut, Synced, Nothing}
use Rattle.mem_disk.specs.declared.images.Torn.{Torn}
use Rattle.mem_disk.specs.declared.images.Torn.TheVariants.{Old, New, Fill}
use Rattle.mem_disk.specs.Notes.{Note, Held, note_of, notes_of, done_by, done, after_note, after_notes, held, fresh, Reaches, Left}
use Rattle.mem_disk.specs.Crash.{is_write, is_synced, synced_in, is_unsynced, first_torn, torn_by, torn_all, crashed}
use Rattle.mem_disk.specs.Laws.{torn_none, torn_whole}
use Rattle.mem_disk.specs.Sound.{IsInside, AllInside, no_call}
use Rattle.mem_disk.proofs.Record.{torn_step, torn_skip}

torn_reaches : (t : Torn) (n : Note) (image : List ℕ) → TornBytes n.at (length n.bytes) image (torn_by t n image)
torn_reaches Old n image = torn_none n.at (length n.bytes) image
torn_reaches New n image = torn_whole n.at n.bytes image
torn_reaches (Fill b) n image = subst (λ (m : ℕ). TornBytes n.at m image (overlaid n.at (replicate (length n.bytes) b) image)) (length-replicate (length n.bytes) b) (torn_whole n.at (replicate (length n.bytes) b) image)

both_false : (a b : Bool) → (a || b) ≡ false → (a ≡ false) × (b ≡ false)
both_false true b h = absurd (cc)
both_false false b h = (refl, h)

synced_by : (e : Effect) (n : Note) (a : Held) (b : Bool) → (b && is_synced e) ≡ false → (if b then done_by e n a else a).synced ≡ a.synced
synced_by e n a false h = refl
synced_by Written n a true h = refl
synced_by Cut n a true h = refl
synced_by Synced n a true h = absurd (cc)
synced_by Nothing n a true h = refl

-- without a sync what was synced stays
synced_stays : (k : ℕ) (a : Held) (notes : List Note) → synced_in k notes ≡ false → (after_notes k a notes).synced ≡ a.synced
synced_stays k a [] h = refl
synced_stays k a (n ∷ notes) h =
    let two = both_false ((n.area == k) && is_synced n.effect) (synced_in k notes) h in
    synced_stays k (after_note k a n) notes two.1 ∙ synced_by n.effect n a (n.area == k) two.0

-- what holds of the image on the way: it is reached, or it is what will be synced last
record OnTheWay (k : ℕ) (notes : List Note) (a : Held) (image : List ℕ) : Type 0 where
  reached : synced_in k notes ≡ false → Reaches a.synced a.pending image
  awaited : synced_in k notes ≡ true → image ≡ (after_notes k a notes).synced

Comes : (k : ℕ) (notes : List Note) (a : Held) → List ℕ → Type 0
Comes k notes a c = Reaches (after_notes k a notes).synced (after_notes k a notes).pending c

-- a call on another area
off_step : (k : ℕ) (n : Note) (notes : List Note) (a : Held) (image : List ℕ) (torn : List Torn) → (n.area == k) ≡ false → ((t : List Torn) → Reaches (after_notes k a notes).synced (after_notes k a notes).pending (torn_all k image notes t))
    → Reaches (after_notes k (after_note k a n) notes).synced (after_notes k (after_note k a n) notes).pending (torn_all k image (n ∷ notes) torn)
off_step k n notes a image torn off rest =
    subst (λ (h : Held). Reaches (after_notes k h notes).synced (after_notes k h notes).pending (torn_all k image (n ∷ notes) torn)) (sym same) (go (is_unsynced n notes) refl)
  where
    same : after_note k a n ≡ a
    same = ap (λ (b : Bool). if b then done n a else a) off

    go : (u : Bool) → is_unsynced n notes ≡ u → Reaches (after_notes k a notes).synced (after_notes k a notes).pending (torn_all k image (n ∷ notes) torn)
    go true u = subst (λ (c : List ℕ). Reaches (after_notes k a notes).synced (after_notes k a notes).pending c)
        (sym (torn_step k image n notes torn u ∙ ap (λ (b : Bool). torn_all k (if b then torn_by (first_torn torn) n image else image) notes (drop 1 torn)) off)) (rest (drop 1 torn))
    go false u = subst (λ (c : List ℕ). Reaches (after_notes k a notes).synced (after_notes k a notes).pending c) (sym (torn_skip k image n notes torn u)) (rest torn)

-- a call on the area itself
module _ (k : ℕ) (n : Note) (notes : List Note) (a : Held) (image : List ℕ) (torn : List Torn) (on : (n.area == k) ≡ true) (it : n.area ≡ k) (h : OnTheWay k (n ∷ notes) a image)
    (rest : (x : Held) (c : List ℕ) (t : List Torn) → OnTheWay k notes x c → Reaches (after_notes k x notes).synced (after_notes k x notes).pending (torn_all k c notes t)) where
  Goal : Held → List ℕ → Type 0
  Goal x c = Reaches (after_notes k x notes).synced (after_notes k x notes).pending c

  now : after_note k a n ≡ done n a
  now = ap (λ (b : Bool). if b then done n a else a) on

  awaits : (e : Effect) → n.effect ≡ e → (is_synced e || synced_in k notes) ≡ true → image ≡ (after_notes k (done n a) notes).synced
  awaits e is s =
      let all : synced_in k (n ∷ notes) ≡ true = (λ j. (on j && is_synced (is j)) || synced_in k notes) ∙ s in
      h.awaited all ∙ ap (λ (x : Held). (after_notes k x notes).synced) now

  reaches : (e : Effect) → n.effect ≡ e → (is_synced e || synced_in k notes) ≡ false → Reaches a.synced a.pending image
  reaches e is s = h.reached ((λ j. (on j && is_synced (is j)) || synced_in k notes) ∙ s)

  skipped : is_unsynced n notes ≡ false → OnTheWay k notes (done n a) image → Reaches (after_notes k (done n a) notes).synced (after_notes k (done n a) notes).pending (torn_all k image (n ∷ notes) torn)
  skipped u w = subst (λ (c : List ℕ). Reaches (after_notes k (done n a) notes).synced (after_notes k (done n a) notes).pending c) (sym (torn_skip k image n notes torn u)) (rest (done n a) image torn w)

  unsynced : (e : Effect) → n.effect ≡ e → (s : Bool) → synced_in k notes ≡ s → is_unsynced n notes ≡ (is_write e && not s)
  unsynced e is s was = λ j. is_write (is j) && not ((ap (λ (x : ℕ). synced_in x notes) it ∙ was) j)

  wrote : (e : Effect) → n.effect ≡ e → is_write e ≡ true → is_synced e ≡ false → ((done n a).synced ≡ a.synced) → ((done n a).pending ≡ n ∷ a.pending)
      → Reaches (after_notes k (done n a) notes).synced (after_notes k (done n a) notes).pending (torn_all k image (n ∷ notes) torn)
  wrote e is w y same more = go (synced_in k notes) refl
    where
      go : (s : Bool) → synced_in k notes ≡ s → Reaches (after_notes k (done n a) notes).synced (after_notes k (done n a) notes).pending (torn_all k image (n ∷ notes) torn)
      go true s = skipped (unsynced e is true s ∙ ap (λ (b : Bool). b && false) w)
          (record { reached = λ f. absurd (cc (f, s)); awaited = λ t. awaits e is ((λ j. y j || t j)) })
      go false s =
          let u : is_unsynced n notes ≡ true = unsynced e is false s ∙ ap (λ (b : Bool). b && true) w in
          let c = torn_by (first_torn torn) n image in
          let to : torn_all k image (n ∷ notes) torn ≡ torn_all k c notes (drop 1 torn) = torn_step k image n notes torn u ∙ ap (λ (b : Bool). torn_all k (if b then c else image) notes (drop 1 torn)) on in
          let was : Reaches a.synced a.pending image = reaches e is ((λ j. y j || s j)) in
          let one : Reaches a.synced (n ∷ a.pending) c = (image, was, torn_reaches (first_torn torn) n image) in
          let here : Reaches (done n a).synced (done n a).pending c = subst (λ (x : List ℕ). Reaches x (done n a).pending c) (sym same) (subst (λ (p : List Note). Reaches a.synced p c) (sym more) one) in
          subst (λ (d : List ℕ). Reaches (after_notes k (done n a) notes).synced (after_notes k (done n a) notes).pending d) (sym to)
          (rest (done n a) c (drop 1 torn) (record { reached = λ _. here; awaited = λ t. absurd (cc (t, s)) }))

  by_effect : (e : Effect) → n.effect ≡ e → Reaches (after_notes k (done n a) notes).synced (after_notes k (done n a) notes).pending (torn_all k image (n ∷ notes) torn)
  by_effect Written is = wrote Written is refl refl (ap (λ (e : Effect). (done_by e n a).synced) is) (ap (λ (e : Effect). (done_by e n a).pending) is)
  by_effect Cut is = wrote Cut is refl refl (ap (λ (e : Effect). (done_by e n a).synced) is) (ap (λ (e : Effect). (done_by e n a).pending) is)
  by_effect Synced is = skipped (ap (λ (e : Effect). is_write e && not (synced_in n.area notes)) is) (record {
    reached = λ s.
        let last : image ≡ (done n a).synced = awaits Synced is refl ∙ synced_stays k (done n a) notes s in
        let seen : image ≡ a.seen = last ∙ ap (λ (e : Effect). (done_by e n a).synced) is in
        subst (λ (x : Held). Reaches x.synced x.pending image) (sym (ap (λ (e : Effect). done_by e n a) is)) seen;
    awaited = λ s. awaits Synced is refl;
  })
  by_effect Nothing is = skipped (ap (λ (e : Effect). is_write e && not (synced_in n.area notes)) is) (record {
    reached = λ s. subst (λ (x : Held). Reaches x.synced x.pending image) (sym (ap (λ (e : Effect). done_by e n a) is)) (reaches Nothing is s);
    awaited = λ s. awaits Nothing is s;
  })

  on_step : Reaches (after_notes k (after_note k a n) notes).synced (after_notes k (after_note k a n) notes).pending (torn_all k image (n ∷ notes) torn)
  on_step = subst (λ (x : Held). Reaches (after_notes k x notes).synced (after_notes k x notes).pending (torn_all k image (n ∷ notes) torn)) (sym now) (by_effect n.effect refl)

eq_from : (m k : ℕ) → (m == k) ≡ true → m ≡ k
eq_from m k h = grind (arith, nat_tests)

all_step : (k : ℕ) (n : Note) (notes : List Note) (a : Held) (image : List ℕ) (torn : List Torn) (b : Bool) → (n.area == k) ≡ b → OnTheWay k (n ∷ notes) a image
    → ((x : Held) (c : List ℕ) (t : List Torn) → OnTheWay k notes x c → Reaches (after_notes k x notes).synced (after_notes k x notes).pending (torn_all k c notes t))
    → Reaches (after_notes k (after_note k a n) notes).synced (after_notes k (after_note k a n) notes).pending (torn_all k image (n ∷ notes) torn)
all_step k n notes a image torn true on h rest = on_step k n notes a image torn on (eq_from n.area k on) h rest
all_step k n notes a image torn false off h rest = off_step k n notes a image torn off (λ t. rest a image t (record {
  reached = λ s. h.reached ((λ j. (off j && is_synced n.effect) || s j));
  awaited = λ s. h.awaited ((λ j. (off j && is_synced n.effect) || s j)) ∙ ap (λ (x : Held). (after_notes k x notes).synced) (ap (λ (b : Bool). if b then done n a else a) off);
}))

all_reaches : (k : ℕ) (notes : List Note) (a : Held) (image : List ℕ) (torn : List Torn) → OnTheWay k notes a image → Reaches (after_notes k a notes).synced (after_notes k a notes).pending (torn_all k image notes torn)
all_reaches k [] a image torn h = h.reached refl
all_reaches k (n ∷ notes) a image torn h = all_step k n notes a image torn (n.area == k) refl h (λ x c t w. all_reaches k notes x c t w)

-- what the definition makes of the areas is an image that a crash may leave
pub crash_reaches : (first : ℕ → List ℕ) (notes : List Note) (torn : List Torn) (k : ℕ) → Reaches (held first notes k).synced (held first notes k).pending (crashed first notes torn k)
crash_reaches first notes torn k = all_reaches k notes (fresh (first k)) (held first notes k).synced torn (record {
  reached = λ s. synced_stays k (fresh (first k)) notes s;
  awaited = λ s. refl;
})

pub take_notes : (pool : List ℕ) (m : ℕ) (calls : List Call) → notes_of pool (take m calls) ≡ take m (notes_of pool calls)
take_notes pool zero calls = refl
take_notes pool (suc m) [] = refl
take_notes pool (suc m) (call ∷ calls) = ap (λ (l : List Note). note_of pool call ∷ l) (take_notes pool m calls)

-- no call is on a fourth area
far_step : (k : ℕ) (n : Note) (notes : List Note) (image : List ℕ) (torn : List Torn) (u : Bool) → is_unsynced n notes ≡ u → (n.area == k) ≡ false → ((t : List Torn) → torn_all k image notes t ≡ image) → torn_all k image (n ∷ notes) torn ≡ image
far_step k n notes image torn true u off rest = torn_step k image n notes torn u ∙ ap (λ (b : Bool). torn_all k (if b then torn_by (first_torn torn) n image else image) notes (drop 1 torn)) off ∙ rest (drop 1 torn)
far_step k n notes image torn false u off rest = torn_skip k image n notes torn u ∙ rest torn

pub far_torn : (pool : List ℕ) (size k : ℕ) (calls : List Call) (image : List ℕ) (torn : List Torn) → AllInside size calls → 3 ≤ k → torn_all k image (notes_of pool calls) torn ≡ image
far_torn pool size k [] image torn all le = refl
far_torn pool size k (call ∷ calls) image torn all le =
    let off : (call.area == k) ≡ false = (let one = all 0 (omega arith) in let a = one.area in grind (arith, nat_tests, a, le)) in
    far_step k (note_of pool call) (notes_of pool calls) image torn (is_unsynced (note_of pool call) (notes_of pool calls)) refl off (λ t. far_torn pool size k calls image t (λ i lt. all (suc i) (omega arith)) le)

pub far_held : (pool : List ℕ) (size k : ℕ) (calls : List Call) (a : Held) → AllInside size calls → 3 ≤ k → after_notes k a (notes_of pool calls) ≡ a
far_held pool size k [] a all le = refl
far_held pool size k (call ∷ calls) a all le =
    let off : (call.area == k) ≡ false = (let one = all 0 (omega arith) in let x = one.area in grind (arith, nat_tests, x, le)) in
    ap (λ (b : Bool). after_notes k (if b then done (note_of pool call) a else a) (notes_of pool calls)) off ∙ far_held pool size k calls a (λ i lt. all (suc i) (omega arith)) le

pub inside_take : (size m : ℕ) (calls : List Call) → AllInside size calls → AllInside size (take m calls)
inside_take size m calls all i il =
    let front : i < m = (let l = length-take m calls in omega (arith, l)) in
    let whole : i < length calls = (let l = length-take m calls in omega (arith, l)) in
    subst (λ (c : Call). IsInside size c) (sym (get_or-take m calls i no_call front)) (all i whole)

pub ok_maps : {T E : Type 0} (r : Result T E) (P Q : T → Type 0) → ((x : T) → P x → Q x) → IfOk r P → IfOk r Q
ok_maps (Ok x) P Q f p = f x p
ok_maps (Err e) P Q f p = p

-- three areas, and those that are not
pub each_area : (P : ℕ → Type 0) → P zero → P (suc zero) → P (suc (suc zero)) → ((j : ℕ) → P (suc (suc (suc j)))) → (k : ℕ) → P k
each_area P a b c far zero = a
each_area P a b c far (suc zero) = b
each_area P a b c far (suc (suc zero)) = c
each_area P a b c far (suc (suc (suc j))) = far j

-- the images of the first calls are those of the calls up to that moment
pub crash_left : (pool : List ℕ) (size time m : ℕ) (first image : ℕ → List ℕ) (calls : List Call) (torn : List Torn) → m ≤ time → ((k : ℕ) → image k ≡ crashed first (take m (notes_of pool calls)) torn k) → Left first (notes_of pool calls) time m image
crash_left pool size time m first image calls torn le is = record {
  past = le;
  left = λ k. subst (λ (c : List ℕ). Reaches (held first (take m (notes_of pool calls)) k).synced (held first (take m (notes_of pool calls)) k).pending c) (sym (is k)) (crash_reaches first (take m (notes_of pool calls)) torn k);
}
