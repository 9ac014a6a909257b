-- The operations on levels of an UNDO and of the end of an iteration.
use Rattle.std.proofs.Common.{◌≡◌, refl, sym, subst, ℕ, ◌+◌, ◌-◌, ◌≤◌, ◌==◌, nat_lt, List, [], ◌∷◌, length, Bool, true, false, not, ◌&&◌, Option, Some, None, inl, inr, arith}
use Rattle.abl_base.specs.declared.row.RowId.{RowId}
use Rattle.abl_base.specs.declared.value.Value.{Value}
use Rattle.abl_values.specs.Rows.{bytes_of_row}
use Rattle.database_protocol.specs.declared.operation.Op.TheVariants as op
use Rattle.database_protocol.specs.declared.answer.Answer.{Answer}
use Rattle.block_meaning.specs.Program.{Program, table_at}
use Rattle.block_meaning.specs.Lines.{Complaint, IsMandatory, RecordTooLong}
use Rattle.block_meaning.specs.State.{State, Copy, Content, Empty, Record, Pending, Exclusive, Completion, Normal, Faults, Stops, Continuation, completes, if_else, update_then, asks, and_then, if_normal, has_fault}
use Rattle.block_meaning.specs.Frames.{emptied, all_emptied, put_back}
use Rattle.block_meaning.specs.Views.{values_in, row_in, refusal_in}
use Rattle.block_meaning.specs.Buffers.{missing_field, unless_missing, refused_by, refused, Place, buffer_in, holding_in, own, inserted_as, was_inserted, enters_content, enters_in, enters_places, keep_of, is_row_in, was_dropped, drops_if, drops, releases, releases_all, left_if, left, was_left, leaves, got_content, was_got, made_later, updates_content, updates, is_left_out, updates_places}
use Rattle.std.proofs.lemmas.Bool.Decides.{eqb_tells}
use Rattle.abl_base.specs.declared.limits.TheConstants.{MAX_ROW_BYTES}
use Rattle.block_meaning.specs.Blocks.{after_back, goes_back}
use Rattle.block_meaning.specs.Buffers.{all_places}
use Rattle.block_meaning.proofs.Continues.{continues_then, continues_where, continues_goes}
use Rattle.block_meaning.proofs.Pending.{not_both}
use Rattle.block_meaning.proofs.Parts.{enters_in_continues, releases_continues, leaves_continues, updates_continues, updates_places_continues}
use Rattle.block_meaning.proofs.Levels.{FirstAt, IsStop, IsFamily, LevelsIn, Legal, FollowsTo, steady_part, over_at_once, in_ran, in_where, in_at, in_first, in_asks, in_then, legal_from, legal_then}

-- ---- parts that complete normally or stop the client

abbrev pub Plain : ℕ → ℕ → Completion → State → Type 0
Plain k n Normal s = (n ≡ s.level) × (s.level ≡ k)
Plain k n (Stops end) s = Unit {0}
Plain k n completion s = ⊥

plain_stop : (k n : ℕ) (completion : Completion) (s : State) → IsStop completion → Plain k n completion s
plain_stop k n (Stops end) s i = tt
plain_stop k n completion s i = absurd i

pub plain_family : IsFamily Plain
plain_family = record { stops = plain_stop; ran = λ k n s h. h; back = λ k n s h. h }

-- ---- parts that may also fail

abbrev pub Faulty : ℕ → ℕ → Completion → State → Type 0
Faulty k n Normal s = (n ≡ s.level) × (s.level ≡ k)
Faulty k n (Faults c) s = (n ≡ s.level) × (s.level ≡ k)
Faulty k n (Stops end) s = Unit {0}
Faulty k n completion s = ⊥

faulty_stop : (k n : ℕ) (completion : Completion) (s : State) → IsStop completion → Faulty k n completion s
faulty_stop k n (Stops end) s i = tt
faulty_stop k n completion s i = absurd i

pub faulty_family : IsFamily Faulty
faulty_family = record { stops = faulty_stop; ran = λ k n s h. h; back = λ k n s h. h }

has_fault_faulty : (c : Complaint) → LevelsIn Faulty (has_fault c)
has_fault_faulty c s ans = over_at_once (Faulty s.level) s.level (Faults (Some c)) s (refl, refl) ans

-- ---- refreshing buffers

changes_plain : (change : State → State) → ((s : State) → (change s).level ≡ s.level) → LevelsIn Plain (update_then change (completes Normal))
changes_plain change k = in_first Plain change (completes Normal) k (in_ran Plain plain_family)

updates_content_plain : (mark : ℕ) (at : Place) (t : ℕ) (c : Content) → LevelsIn Plain (updates_content mark at t c)
updates_content_plain mark at t Empty = in_ran Plain plain_family
updates_content_plain mark at t (Pending values since made) =
    in_where Plain (nat_lt mark made) (update_then (holding_in at Empty) (completes Normal)) (completes Normal) (changes_plain (holding_in at Empty) (λ s. refl)) (in_ran Plain plain_family)
updates_content_plain mark at t (Record row values held made) =
    in_where Plain (made_later mark made) (update_then (holding_in at Empty) (completes Normal)) (asks (op.Get t row) (was_got at row held made)) (changes_plain (holding_in at Empty) (λ s. refl))
    (in_asks Plain plain_family (op.Get t row) (was_got at row held made) (record { can = λ n. tt; after = λ n. refl }) (λ a. changes_plain (holding_in at (got_content (values_in a) row held made)) (λ s. refl)))

updates_plain : (mark : ℕ) (at : Place) → LevelsIn Plain (updates mark at)
updates_plain mark at s ans = updates_content_plain mark at (buffer_in at s).table (buffer_in at s).content s ans

pub updates_places_plain : (mark : ℕ) (but : List ℕ) (places : List Place) → LevelsIn Plain (updates_places mark but places)
updates_places_plain mark but [] = in_ran Plain plain_family
updates_places_plain mark but (at ∷ more) =
    in_then Plain plain_family (if_else (is_left_out but at) (completes Normal) (updates mark at)) (updates_places mark but more)
    (continues_where (is_left_out but at) (completes Normal) (updates mark at) (continues_goes Normal) (updates_continues mark at))
    (in_where Plain (is_left_out but at) (completes Normal) (updates mark at) (in_ran Plain plain_family) (updates_plain mark at)) (updates_places_plain mark but more)

-- ---- inserting and releasing

unless_missing_faulty : (o : Option ℕ) (t : ℕ) (go : Continuation) → LevelsIn Faulty go → LevelsIn Faulty (unless_missing o t go)
unless_missing_faulty None t go x s ans = x s ans
unless_missing_faulty (Some f) t go x s ans = has_fault_faulty (IsMandatory t f) s ans

refused_faulty : (o : Option Complaint) → LevelsIn Faulty (refused_by o)
refused_faulty (Some c) = has_fault_faulty c
refused_faulty None = in_ran Faulty faulty_family

changes_faulty : (change : State → State) → ((s : State) → (change s).level ≡ s.level) → LevelsIn Faulty (update_then change (completes Normal))
changes_faulty change k = in_first Faulty change (completes Normal) k (in_ran Faulty faulty_family)

inserted_faulty : (o : Option RowId) (at : Place) (vs : List Value) (made : ℕ) (other : Continuation) → LevelsIn Faulty other → LevelsIn Faulty (inserted_as o at vs made other)
inserted_faulty (Some row) at vs made other x = changes_faulty (holding_in at (Record row vs Exclusive (Some made))) (λ s. refl)
inserted_faulty None at vs made other x = x

enters_content_faulty : (p : Program) (at : Place) (t : ℕ) (c : Content) → LevelsIn Faulty (enters_content p at t c)
enters_content_faulty p at t Empty = in_ran Faulty faulty_family
enters_content_faulty p at t (Record row vs held made) = in_ran Faulty faulty_family
enters_content_faulty p at t (Pending vs since made) =
    unless_missing_faulty (missing_field 0 (table_at p t).fields vs) t (if_else (nat_lt MAX_ROW_BYTES (length (bytes_of_row vs))) (has_fault (RecordTooLong t)) (asks (op.Insert t vs) (was_inserted at t vs made)))
    (in_where Faulty (nat_lt MAX_ROW_BYTES (length (bytes_of_row vs))) (has_fault (RecordTooLong t)) (asks (op.Insert t vs) (was_inserted at t vs made)) (has_fault_faulty (RecordTooLong t))
    (in_asks Faulty faulty_family (op.Insert t vs) (was_inserted at t vs made) (record { can = λ n. tt; after = λ n. refl }) (λ a. inserted_faulty (row_in a) at vs made (refused at.number t a) (refused_faulty (refusal_in at.number t a)))))

enters_in_faulty : (p : Program) (at : Place) → LevelsIn Faulty (enters_in p at)
enters_in_faulty p at s ans = enters_content_faulty p at (buffer_in at s).table (buffer_in at s).content s ans

pub enters_places_faulty : (p : Program) (places : List Place) → LevelsIn Faulty (enters_places p places)
enters_places_faulty p [] = in_ran Faulty faulty_family
enters_places_faulty p (at ∷ more) = in_then Faulty faulty_family (enters_in p at) (enters_places p more) (enters_in_continues p at) (enters_in_faulty p at) (enters_places_faulty p more)

drops_if_faulty : (o : Option RowId) (b : ℕ) → LevelsIn Faulty (drops_if o b)
drops_if_faulty None b s ans = changes_faulty (emptied b) (λ s. refl) s ans
drops_if_faulty (Some row) b s ans =
    in_where Faulty ((s.level == 0) && not (is_row_in row (keep_of (b ∷ []) s))) (update_then (emptied b) (asks (op.Drop row) was_dropped)) (update_then (emptied b) (completes Normal))
    (in_first Faulty (emptied b) (asks (op.Drop row) was_dropped) (λ s. refl) (in_asks Faulty faulty_family (op.Drop row) was_dropped (record { can = λ n. tt; after = λ n. refl }) (λ a. in_ran Faulty faulty_family)))
    (changes_faulty (emptied b) (λ s. refl)) s ans

releases_faulty : (p : Program) (b : ℕ) → LevelsIn Faulty (releases p b)
releases_faulty p b = in_then Faulty faulty_family (enters_in p (own b)) (drops b) (enters_in_continues p (own b)) (enters_in_faulty p (own b)) (λ s ans. drops_if_faulty _ b s ans)

pub releases_all_faulty : (p : Program) (bs : List ℕ) → LevelsIn Faulty (releases_all p bs)
releases_all_faulty p [] = in_ran Faulty faulty_family
releases_all_faulty p (b ∷ bs) = in_then Faulty faulty_family (releases p b) (releases_all p bs) (releases_continues p b) (releases_faulty p b) (releases_all_faulty p bs)

-- ---- a level is left

left_if_level : (b : Bool) (s : State) → (s.level == 1) ≡ b → (left_if b s).level ≡ s.level - 1
left_if_level true s e =
    elim (eqb_tells s.level 1) [
      | inl t ↦ (let l = t.1 in omega arith)
      | inr t ↦ absurd (not_both (s.level == 1) e t.0)
    ]
left_if_level false s e = refl

pub left_level : (s : State) → (left s).level ≡ s.level - 1
left_level s = left_if_level (s.level == 1) s refl

pub legal_leaves : (k : ℕ) (but : List ℕ) (s : State) → s.level ≡ k + 1 → (ans : List Answer) → Legal (Plain k) s.level (leaves but s) ans
legal_leaves k but s e ans =
    legal_from (Plain k) (plain_stop k) s.units s.level (op.Leave (keep_of but s)) was_left s (omega arith)
    (λ m a ans.
    over_at_once (Plain k) (s.level - 1) Normal (left (record s { units = m })) (let l = left_level (record s { units = m }) in (sym l, omega arith)) ans) ans

-- ---- going back to a level

all_emptied_level : (bs : List ℕ) (s : State) → (all_emptied bs s).level ≡ s.level
all_emptied_level [] s = refl
all_emptied_level (b ∷ bs) s = all_emptied_level bs (emptied b s)

leaves_follow : (k : ℕ) (but : List ℕ) → FollowsTo (Plain (k + 1)) (Plain k) (λ completion. if_normal completion (leaves but))
leaves_follow k but n Normal s o ans = subst (λ m. Legal (Plain k) m (leaves but s) ans) (sym o.0) (legal_leaves k but s o.1 ans)
leaves_follow k but n (Stops end) s o ans = over_at_once (Plain k) n (Stops end) s tt ans
leaves_follow k but n completion s o ans = absurd o

empties_follow : (k : ℕ) (bs : List ℕ) → FollowsTo (Plain k) (Plain k) (λ completion. if_normal completion (update_then (all_emptied bs) (completes Normal)))
empties_follow k bs n Normal s o ans = in_at Plain k n (update_then (all_emptied bs) (completes Normal)) (changes_plain (all_emptied bs) (all_emptied_level bs)) s o.0 o.1 ans
empties_follow k bs n (Stops end) s o ans = over_at_once (Plain k) n (Stops end) s tt ans
empties_follow k bs n completion s o ans = absurd o

legal_after_back : (k : ℕ) (copy : Copy) (but : List ℕ) (s : State) → copy.depth ≡ k + 1 → (ans : List Answer) → Legal (Plain k) copy.depth (after_back copy but s) ans
legal_after_back k copy but s e ans =
    let places = all_places (put_back copy s) in
    let go : Continuation = updates_places copy.made but places in
    legal_then (Plain k) (Plain k) copy.depth (update_then (all_emptied but) (completes Normal)) (empties_follow k but) (λ ans. and_then (go (put_back copy s) ans) (leaves but))
    (steady_part (λ t ans. and_then (go t ans) (leaves but)) (continues_then go (leaves but) (updates_places_continues copy.made but places) (leaves_continues but)) (put_back copy s)) ans
    (legal_then (Plain (k + 1)) (Plain k) copy.depth (leaves but) (leaves_follow k but) (go (put_back copy s)) (steady_part go (updates_places_continues copy.made but places) (put_back copy s)) ans
    (in_at Plain (k + 1) copy.depth go (updates_places_plain copy.made but places) (put_back copy s) refl e ans))

pub legal_goes_back : (k : ℕ) (first : Option Copy) (but : List ℕ) (s : State) → FirstAt k first s → (ans : List Answer) → Legal (Plain k) s.level (goes_back first but s) ans
legal_goes_back k None but s h ans = over_at_once (Plain k) s.level Normal s (refl, h) ans
legal_goes_back k (Some copy) but s h ans =
    let e : copy.depth ≡ k + 1 = h.0 in
    let l : k + 1 ≤ s.level = h.1 in
    legal_from (Plain k) (plain_stop k) s.units s.level (op.Back copy.depth) (λ a. after_back copy but) s (omega arith, omega arith) (λ m a ans. legal_after_back k copy but (record s { units = m }) e ans) ans
