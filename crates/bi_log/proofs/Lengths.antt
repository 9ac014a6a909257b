-- How long the areas of the log get.
use Rattle.std.proofs.Common.{◌≡◌, inl, inr, ⊎_elim, ℕ, ◌+◌, ◌<◌, ◌≤◌, max, length, sym, ap, subst, arith}
use Rattle.std.proofs.lemmas.Bool.{cases_lt, cases_eq}
use Rattle.storage.specs.Disk.{TornIn, Others}
use Rattle.log_meaning.specs.steps.Steps.{Image, Run}
use Rattle.log_meaning.proofs.StepsLemmas.Runs.{joined, wider, started}
use Rattle.bi_log.specs.Lengths.{WithinLog, IsShort, StayShort}

-- ---- steps

within_same : (most : ℕ) (old new : Image) → new ≡ old → WithinLog most old new
within_same most old new is = λ area some. let same = ap (λ (i : Image). length (i area)) is in omega (arith, same)

within_others : (most : ℕ) (old new : Image) → Others 0 old new → WithinLog most old new
within_others most old new same = λ area some. let is = ap (length {A = ℕ}) (same area some) in omega (arith, is)

within_torn : (area at n most : ℕ) (old new : Image) → at + n ≤ most → TornIn area at n old new → WithinLog most old new
within_torn area at n most old new le step = λ other some. elim (cases_eq other area) [
  | inl is ↦ subst (λ (k : ℕ). length (new k) ≤ max (length (old k)) most) (sym is) (let long = step.torn.no_longer in omega (arith, long, le))
  | inr not ↦ (let is = ap (length {A = ℕ}) (step.others other not) in omega (arith, is))
]

within_more : (some most : ℕ) (old new : Image) → some ≤ most → WithinLog some old new → WithinLog most old new
within_more some most old new le step = λ area is. let long = step area is in omega (arith, long, le)

within_twice : (most : ℕ) (a b c : Image) → WithinLog most a b → WithinLog most b c → WithinLog most a c
within_twice most a b c one two = λ area some. let x = one area some in let y = two area some in omega (arith, x, y)

-- ---- runs

module _ (was now : ℕ) (before after : ℕ → Image → Type 0) (most : ℕ) where
  pub run_same : Run was now before after (λ old new. new ≡ old) → Run was now before after (WithinLog most)
  run_same run = wider was now before after (λ old new. new ≡ old) (WithinLog most) run (λ d image there step. within_same most d image step)

  pub run_others : Run was now before after (Others 0) → Run was now before after (WithinLog most)
  run_others run = wider was now before after (Others 0) (WithinLog most) run (λ d image there step. within_others most d image step)

  pub run_torn : (area at n : ℕ) → at + n ≤ most → Run was now before after (TornIn area at n) → Run was now before after (WithinLog most)
  run_torn area at n le run = wider was now before after (TornIn area at n) (WithinLog most) run (λ d image there step. within_torn area at n most d image le step)

  pub run_more : (some : ℕ) → some ≤ most → Run was now before after (WithinLog some) → Run was now before after (WithinLog most)
  run_more some le run = wider was now before after (WithinLog some) (WithinLog most) run (λ d image there step. within_more some most d image le step)

pub run_none : (was : ℕ) (before : ℕ → Image → Type 0) (most : ℕ) → ((m : ℕ) (image : Image) → before m image → m ≤ was) → Run was was before before (WithinLog most)
run_none was before most top = started was before (WithinLog most) top

pub run_twice : (was mid now : ℕ) (before between after : ℕ → Image → Type 0) (most : ℕ) → Run was mid before between (WithinLog most) → Run mid now between after (WithinLog most) → Run was now before after (WithinLog most)
run_twice was mid now before between after most one two = joined was mid now before between after (WithinLog most) (WithinLog most) (WithinLog most) one two (λ d image there s. s) (λ d image there m s. s) (λ d e image there x m y. within_twice most d e image x y)

-- ---- the bound

-- at the moment from which on it is said
pub short_now : (was : ℕ) (before : ℕ → Image → Type 0) → ((m : ℕ) (image : Image) → before m image → m ≤ was) → StayShort before was
short_now was before top = λ start m image from there. start image (subst (λ (k : ℕ). before k image) (let past = top m image there in omega (arith, past, from)) there)

-- after a run that makes no area of the log longer
pub short_run : (since was now : ℕ) (before after : ℕ → Image → Type 0) → Run was now before after (WithinLog 167772160) → since ≤ was → StayShort before since → StayShort after since
short_run since was now before after run past old = λ start m image from there.
    let begun : (i : Image) → before since i → IsShort i = (λ i l. start i (run.stays since i past l)) in
    ⊎_elim
    (λ (later : was < m).
    let h = run.here m image later there in
    let d : IsShort (h.0) = old begun was (h.0) past (h.1) in
    let one = d.0 in
    let two = d.1 in
    let first = (h.2) 1 (λ is. omega (arith, is)) in
    let second = (h.2) 2 (λ is. omega (arith, is)) in
    (omega (arith, one, first), omega (arith, two, second)))
    (λ (le : m ≤ was). old begun m image from (run.nothing_else m image le there))
    (cases_lt was m)
