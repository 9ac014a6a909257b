use Rattle.std.proofs.Common.{rules, ◌≡◌, ℕ, ◌+◌, ◌-◌, ◌<◌, List, [], ◌∷◌, ◌++◌, length, get_or, inl, inr, sym, ap, ◌∙◌, subst, arith, length-append}
use Rattle.std.proofs.lemmas.Bool.{cases_eq}
use Rattle.std.proofs.lemmas.List.{get_or_append_left, get_or-append_right}
use Rattle.storage.specs.Slots.{IsReadable}
use Rattle.row_fragments.proofs.Composes.{readable_on}
use Rattle.byte_rows.specs.Still.{Still}
use Rattle.byte_rows.proofs.Reading.{still_both}
use Rattle.database_layout.proofs.stored_text.first_slots.first_slots.Goals as goal

-- the items of a list and one more, each as it should be
one_more : (xs : List (List ℕ)) (x : List ℕ) (at : ℕ) (f : ℕ → List ℕ) → length xs ≡ at → ((k : ℕ) → k < at → get_or xs k [] ≡ f k) → x ≡ f at → (k : ℕ) → k < at + 1 → get_or (xs ++ x ∷ []) k [] ≡ f k
one_more xs x at f long below here k lt = elim (cases_eq k at) [
  | inl e ↦ get_or-append_right xs (x ∷ []) at k [] long (omega (arith, e)) ∙ ap (λ (n : ℕ). get_or (x ∷ []) n []) (none e) ∙ here ∙ ap f (sym e)
  | inr ne ↦ get_or_append_left xs (x ∷ []) [] k (omega (arith, lt, ne, long)) ∙ below k (omega (arith, lt, ne))
]
  where
    none : k ≡ at → k - at ≡ 0
    none e = omega (arith, e)

pub loop-i-preserved : goal.loop-i-preserved
loop-i-preserved g c =
    let first = g.S.Slots.state c.args.slots.now in
    let s = g.S.Slots.state c.loop-i.slots in
    let t = g.S.Slots.state c.read.new.self in
    let i = c.loop-i.invariant in
    let e = c.in_ok-read.ensures in
    let step : Still s t (g.S.Slots.stop c.loop-i.slots) (g.S.Slots.stop c.read.new.self) = record { rests = e.rest; time = e.time; later = e.cause.later; failed = e.cause.stays (λ q. cc q) } in
    let bytes : IsReadable first → c.read.new.into ≡ first.reads (c.loop-i.i + 1) = λ readable.
    e.bytes (readable_on first s i.still.rests.keeps.observable i.still.failed readable) ∙ ap (λ (f : ℕ → List ℕ). f (c.loop-i.i + 1)) (i.still.rests.reads readable) in
    let items : c.push.new.self.items ≡ c.loop-i.taken.items ++ c.read.new.into ∷ [] = search rules in
    record {
      still = still_both first s t (g.S.Slots.stop c.args.slots.now) (g.S.Slots.stop c.loop-i.slots) (g.S.Slots.stop c.read.new.self) (g.met.S.Slots.stop_known c.read.new.self) i.still step;
      count = (let long = ap (length {A = List ℕ}) items in omega (arith, long, length-append c.loop-i.taken.items (c.read.new.into ∷ []), i.count));
      bytes = λ readable. subst (λ (xs : List (List ℕ)). (k : ℕ) → k < c.loop-i.i + 1 → get_or xs k [] ≡ first.reads (k + 1)) (sym items) (one_more c.loop-i.taken.items c.read.new.into c.loop-i.i (λ k. first.reads (k + 1)) i.count (i.bytes readable) (bytes readable));
    }
