-- The record and its calls, one after another.
use Rattle.std.proofs.Common.{◌≡◌, ◌≢◌, ℕ, zero, suc, ◌+◌, ◌<◌, ◌≤◌, ◌==◌, Bool, true, false, if◌then◌else◌, List, [], ◌∷◌, ◌++◌, length, take, drop, get_or, refl, sym, ◌∙◌, ap, arith, length-drop, add-one, Vec, slice_set, slice_index_or}
use Rattle.std.proofs.lemmas.List.{take_more, drop_more, take-append-le, drop-append-le, take_all}
use Rattle.std.proofs.Math.Seq.{drop-append_seam}
use Rattle.std.specs.Vec.{vec_capacity}
use Rattle.std.specs.declared.alloc.Global.{Global}
use Rattle.std.proofs.lemmas.Bool.Decides.{nat_tests}
use Rattle.mem_disk.specs.declared.call.Call.{Call}
use Rattle.mem_disk.specs.declared.images.Torn.{Torn}
use Rattle.mem_disk.specs.Sound.{IsInside, AllInside, no_call, capacity_in, HaveRoom}
use Rattle.mem_disk.specs.Notes.{Note, Held, note_of, notes_of, spent_by, done, after_note, after_notes}
use Rattle.mem_disk.specs.Crash.{is_unsynced, first_torn, torn_by, torn_all}

pub notes_push : (pool : List ℕ) (calls : List Call) (call : Call) → notes_of pool (calls ++ call ∷ []) ≡ notes_of pool calls ++ note_of pool call ∷ []
notes_push pool [] call = refl
notes_push pool (c ∷ calls) call = ap (λ (l : List Note). note_of pool c ∷ l) (notes_push pool calls call)

pub spent_push : (notes : List Note) (n : Note) → spent_by (notes ++ n ∷ []) ≡ spent_by notes + length n.bytes
spent_push [] n = omega arith
spent_push (m ∷ notes) n = omega (arith, spent_push notes n)

-- one more call spends its bytes
pub spent_more : (notes new : List Note) (n : Note) → new ≡ notes ++ n ∷ [] → spent_by new ≡ spent_by notes + length n.bytes
spent_more notes new n more = ap (λ (l : List Note). spent_by l) more ∙ spent_push notes n

pub after_push : (k : ℕ) (a : Held) (notes : List Note) (n : Note) → after_notes k a (notes ++ n ∷ []) ≡ after_note k (after_notes k a notes) n
after_push k a [] n = refl
after_push k a (m ∷ notes) n = after_push k (after_note k a m) notes n

-- one more call of the record
pub after_more : (k : ℕ) (a : Held) (pool : List ℕ) (calls : List Call) (i : ℕ) → i < length calls
    → after_notes k a (notes_of pool (take (i + 1) calls)) ≡ after_note k (after_notes k a (notes_of pool (take i calls))) (note_of pool (get_or calls i no_call))
after_more k a pool calls i lt =
    ap (λ (l : List Call). after_notes k a (notes_of pool l)) (take_more calls i no_call lt)
    ∙ ap (λ (l : List Note). after_notes k a l) (notes_push pool (take i calls) (get_or calls i no_call))
    ∙ after_push k a (notes_of pool (take i calls)) (note_of pool (get_or calls i no_call))

pub note_on : (k : ℕ) (a : Held) (n : Note) → n.area ≡ k → after_note k a n ≡ done n a
note_on k a n on = grind (arith, nat_tests)

pub note_off : (k : ℕ) (a : Held) (n : Note) → n.area ≢ k → after_note k a n ≡ a
note_off k a n off = grind (arith, nat_tests)

pub torn_step : (k : ℕ) (image : List ℕ) (n : Note) (later : List Note) (torn : List Torn) → is_unsynced n later ≡ true
    → torn_all k image (n ∷ later) torn ≡ torn_all k (if n.area == k then torn_by (first_torn torn) n image else image) later (drop 1 torn)
torn_step k image n later torn is = ap (λ (b : Bool). if b then torn_all k (if n.area == k then torn_by (first_torn torn) n image else image) later (drop 1 torn) else torn_all k image later torn) is

pub torn_skip : (k : ℕ) (image : List ℕ) (n : Note) (later : List Note) (torn : List Torn) → is_unsynced n later ≡ false
    → torn_all k image (n ∷ later) torn ≡ torn_all k image later torn
torn_skip k image n later torn is = ap (λ (b : Bool). if b then torn_all k (if n.area == k then torn_by (first_torn torn) n image else image) later (drop 1 torn) else torn_all k image later torn) is

drop_suc : (next : ℕ) (torn : List Torn) → drop 1 (drop next torn) ≡ drop (suc next) torn
drop_suc zero torn = refl
drop_suc (suc next) [] = refl
drop_suc (suc next) (t ∷ torn) = drop_suc next torn

pub drop_next : (next : ℕ) (torn : List Torn) → drop 1 (drop next torn) ≡ drop (next + 1) torn
drop_next next torn = drop_suc next torn ∙ ap (λ (m : ℕ). drop m torn) (sym (add-one next))

pub rest_is : (pool : List ℕ) (calls : List Call) (i : ℕ) → i < length calls → notes_of pool (drop i calls) ≡ note_of pool (get_or calls i no_call) ∷ notes_of pool (drop (i + 1) calls)
rest_is pool calls i lt = ap (λ (l : List Call). notes_of pool l) (drop_more calls i no_call lt)

bytes_grow : (pool bytes : List ℕ) (from count : ℕ) → from + count ≤ length pool → take count (drop from (pool ++ bytes)) ≡ take count (drop from pool)
bytes_grow pool bytes from count le =
    let long = length-drop from pool in
    ap (λ (l : List ℕ). take count l) (drop-append-le from pool bytes (omega (arith, le))) ∙ take-append-le count (drop from pool) bytes (omega (arith, le, long))

-- the pool grows, and the calls keep their bytes
pub notes_grow : (pool bytes : List ℕ) (calls : List Call) → AllInside (length pool) calls → notes_of (pool ++ bytes) calls ≡ notes_of pool calls
notes_grow pool bytes [] all = refl
notes_grow pool bytes (call ∷ calls) all =
    let one = all 0 (omega arith) in
    let rest = notes_grow pool bytes calls (λ i lt. all (suc i) (omega arith)) in
    (λ j. record { area = call.area; at = call.at; bytes = bytes_grow pool bytes call.from call.length one.bytes j; effect = call.effect } ∷ rest j)

-- the bytes that were added last
pub last_bytes : (pool bytes : List ℕ) → take (length bytes) (drop (length pool) (pool ++ bytes)) ≡ bytes
last_bytes pool bytes = ap (λ (l : List ℕ). take (length bytes) l) (drop-append_seam pool bytes) ∙ take_all (length bytes) bytes (omega arith)

-- one more call, whose bytes are at the end of the pool
pub notes_more : (pool bytes : List ℕ) (calls : List Call) (call : Call) → AllInside (length pool) calls → call.from ≡ length pool → call.length ≡ length bytes
    → notes_of (pool ++ bytes) (calls ++ call ∷ []) ≡ notes_of pool calls ++ record { area = call.area; at = call.at; bytes = bytes; effect = call.effect } ∷ []
notes_more pool bytes calls call all from long =
    let bytes_are : take call.length (drop call.from (pool ++ bytes)) ≡ bytes = (λ j. take (long j) (drop (from j) (pool ++ bytes))) ∙ last_bytes pool bytes in
    notes_push (pool ++ bytes) calls call ∙ (λ j. notes_grow pool bytes calls all j ++ record { area = call.area; at = call.at; bytes = bytes_are j; effect = call.effect } ∷ [])

pub inside_more : (n m : ℕ) (calls : List Call) (call : Call) → n ≤ m → AllInside n calls → IsInside m call → AllInside m (calls ++ call ∷ [])
inside_more n m [] call le all one zero lt = one
inside_more n m [] call le all one (suc i) lt = absurd (omega arith)
inside_more n m (c ∷ calls) call le all one zero lt = let h = all 0 (omega arith) in record { bytes = omega (arith, h.bytes, le); area = h.area; small = h.small }
inside_more n m (c ∷ calls) call le all one (suc i) lt = inside_more n m calls call le (λ j jl. all (suc j) (omega arith)) one i (omega arith)

capacity_at : (vs : List (Vec ℕ Global)) (k : ℕ) (v : Vec ℕ Global) → k < length vs → v ≡ slice_index_or vs k v → capacity_in vs k ≡ vec_capacity v
capacity_at [] k v lt is = absurd (omega arith)
capacity_at (x ∷ vs) zero v lt is = ap (λ (w : Vec ℕ Global). vec_capacity w) (sym is)
capacity_at (x ∷ vs) (suc k) v lt is = capacity_at vs k v (omega arith) is

-- if each area has capacity for `n` bytes, so has the one at index `k`
pub room_at : (n : ℕ) (vs : List (Vec ℕ Global)) (k : ℕ) (v : Vec ℕ Global) → HaveRoom n vs → k < length vs → v ≡ slice_index_or vs k v → n ≤ vec_capacity v
room_at n vs k v all lt is = let cap = capacity_at vs k v lt is in let had = all k lt in omega (arith, cap, had)

pub room_set : (n : ℕ) (vs : List (Vec ℕ Global)) (k : ℕ) (v : Vec ℕ Global) → HaveRoom n vs → n ≤ vec_capacity v → HaveRoom n (slice_set vs k v)
room_set n [] k v all le j lt = absurd (omega arith)
room_set n (x ∷ vs) zero v all le zero lt = le
room_set n (x ∷ vs) zero v all le (suc j) lt = all (suc j) (omega arith)
room_set n (x ∷ vs) (suc k) v all le zero lt = all 0 (omega arith)
room_set n (x ∷ vs) (suc k) v all le (suc j) lt = room_set n vs k v (λ i il. all (suc i) (omega arith)) le j (omega arith)
