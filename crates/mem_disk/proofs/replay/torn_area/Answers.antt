use Rattle.std.proofs.Common.{◌≡◌, ◌≢◌, ◌+◌, ◌==◌, ◌∷◌, if◌then◌else◌, true, List, ℕ, Vec, length, ◌-◌, length-drop, take, drop, get_or, sym, ◌∙◌, ap, arith}
use Rattle.std.proofs.lemmas.Bool.Decides.{nat_tests}
use Rattle.std.proofs.lemmas.List.{take_all}
use Rattle.std.specs.declared.alloc.Global.{Global}
use Rattle.mem_disk.specs.declared.call.Call.{Call}
use Rattle.mem_disk.specs.declared.images.Torn.{Torn}
use Rattle.mem_disk.specs.Notes.{Note, note_of, notes_of}
use Rattle.mem_disk.specs.Crash.{is_unsynced, first_torn, torn_by, torn_all}
use Rattle.mem_disk.specs.Sound.{no_call}
use Rattle.mem_disk.proofs.Record.{rest_is, torn_step, torn_skip, drop_next}
use Rattle.mem_disk.proofs.replay.torn_area.Goals as goal
use Rattle.mem_disk.proofs.replay.torn_area.Goals.{then-is_pending+then-call-area+in_ok-tear, then-is_pending+else-call-area, else-is_pending}

pick_on : (area k : ℕ) (x y : List ℕ) → area ≡ k → (if area == k then x else y) ≡ x
pick_on area k x y on = grind (arith, nat_tests)

pick_off : (area k : ℕ) (x y : List ℕ) → area ≢ k → (if area == k then x else y) ≡ y
pick_off area k x y off = grind (arith, nat_tests)

pub loop-i-preserved : goal.loop-i-preserved
loop-i-preserved c =
    let k = c.args.area in
    let pool = c.args.pool.now in
    let calls = c.args.calls.now in
    let i = c.loop-i.i in
    let n : Note = note_of pool (get_or calls i no_call) in
    let later = notes_of pool (drop (i + 1) calls) in
    let torn = drop c.loop-i.next c.args.torn.now in
    let image = c.loop-i.image.items in
    let inv = c.loop-i.invariant in
    let rest : torn_all k image (n ∷ later) torn ≡ torn_all k c.args.base.items (notes_of pool calls) c.args.torn.now = sym (ap (λ (l : List Note). torn_all k image l torn) (rest_is pool calls i c.loop-i-test.true)) ∙ inv.rest in
    let all : take (length calls - (i + 1)) (drop (i + 1) calls) ≡ drop (i + 1) calls = take_all (length calls - (i + 1)) (drop (i + 1) calls) (omega (arith, length-drop (i + 1) calls)) in
    let pending : c.is_pending.result ≡ is_unsynced n later = c.is_pending.ensures pool ∙ ap (λ (l : List Call). is_unsynced n (notes_of pool l)) all in
    let next_image : List ℕ = if n.area == k then torn_by (first_torn torn) n image else image in
    let goes_on = λ (is : is_unsynced n later ≡ true) (m : ℕ) (v : List ℕ) (next_is : m ≡ c.loop-i.next + 1) (image_is : v ≡ next_image).
    let to : torn_all k v later (drop m c.args.torn.now) ≡ torn_all k next_image later (drop 1 torn) = (λ j. torn_all k (image_is j) later ((ap (λ (x : ℕ). drop x c.args.torn.now) next_is ∙ sym (drop_next c.loop-i.next c.args.torn.now)) j)) in
    to ∙ sym (torn_step k image n later torn is) ∙ rest in
    elim c.if-is_pending.branch [
      | then-is_pending+then-call-area+in_ok-tear w ↦
          let image_is : c.if-is_pending.image.items ≡ next_image =
          ap (λ (v : Vec ℕ Global). v.items) w.image-is ∙ w.in_ok-tear.ensures ∙ ap (λ (t : Torn). torn_by t n image) w.torn_at-how.ensures ∙ sym (pick_on n.area k (torn_by (first_torn torn) n image) image w.if-call-area.true) in
          record {
            next = omega (arith, w.next-is, inv.next);
            rest = goes_on (sym pending ∙ w.if-is_pending.true) c.if-is_pending.next c.if-is_pending.image.items w.next-is image_is;
          }
      | then-is_pending+else-call-area w ↦
          let image_is : c.if-is_pending.image.items ≡ next_image = ap (λ (v : Vec ℕ Global). v.items) w.image-is ∙ sym (pick_off n.area k (torn_by (first_torn torn) n image) image w.if-call-area.false) in
          record {
            next = omega (arith, w.next-is, inv.next);
            rest = goes_on (sym pending ∙ w.if-is_pending.true) c.if-is_pending.next c.if-is_pending.image.items w.next-is image_is;
          }
      | else-is_pending w ↦ record {
        next = omega (arith, w.next-is, inv.next);
        rest = (λ j. torn_all k (ap (λ (v : Vec ℕ Global). v.items) w.image-is j) later (drop (w.next-is j) c.args.torn.now)) ∙ sym (torn_skip k image n later torn (sym pending ∙ w.if-is_pending.false)) ∙ rest;
      }
    ]
