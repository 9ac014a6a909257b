-- A part of a run continues: its units never grow, what is written only grows, each operation costs a unit, and with
-- more answers it does the same and then more.
use Rattle.std.proofs.Common.{◌≡◌, refl, sym, ap, ◌∙◌, subst, ℕ, zero, suc, ◌+◌, ◌≤◌, ◌<◌, List, [], ◌∷◌, ◌++◌, Bool, true, false, append_assoc, append-nil, arith}
use Rattle.database_protocol.specs.declared.operation.Op.{Op}
use Rattle.database_protocol.specs.declared.answer.Answer.{Answer}
use Rattle.database_protocol.specs.declared.answer.Answer.TheVariants as answer
use Rattle.block_meaning.specs.declared.wants.Piece.{Piece}
use Rattle.block_meaning.specs.State.{State, Completion, Normal, Progress, Outcome, Done, Suspended, Continuation, completes, if_else, update_then, costs_unit_of, costs_unit, awaits, asks, if_normal, and_then, Completed, immediately}
use Rattle.block_meaning.specs.GivesUp.{Begins, IsAsked, is_blocked, units_used_if, units_used}

-- ---- pieces

pub begins_itself : (xs : List Piece) → Begins xs xs
begins_itself xs = ([], append-nil xs)

pub begins_further : (xs ys zs : List Piece) → Begins xs ys → Begins ys zs → Begins xs zs
begins_further xs ys zs x y = (x.0 ++ y.0, sym (append_assoc xs x.0 y.0) ∙ ap (λ l. l ++ y.0) x.1 ∙ y.1)

pub begins_same : (xs ys : List Piece) → xs ≡ ys → Begins xs ys
begins_same xs ys e = subst (Begins xs) e (begins_itself xs)

-- ---- answers

units_used_if-add : (b : Bool) (n k m : ℕ) → k ≡ n + m → units_used_if b k ≡ units_used_if b n + m
units_used_if-add true n k m e = e
units_used_if-add false n k m e = omega arith

pub units_used-append : (xs ys : List Answer) → units_used (xs ++ ys) ≡ units_used xs + units_used ys
units_used-append [] ys = omega arith
units_used-append (x ∷ xs) ys = units_used_if-add (is_blocked x) (units_used xs) (units_used (xs ++ ys)) (units_used ys) (units_used-append xs ys)

-- ---- what it is to continue

-- completed, having used some of the answers; and the same with more answers
pub record DoneLater (s : State) (ans : List Answer) (completion : Completion) (s' : State) (left : List Answer) (again : Outcome) (more : List Answer) : Type 0 where
  pub used : List Answer
  pub is : used ++ left ≡ ans
  pub units : units_used used + s'.units ≤ s.units
  pub written : Begins s.written s'.written
  pub same : again ≡ Done completion s' (left ++ more)

-- at least this was written
abbrev pub After : List Piece → Outcome → Type 0
After written (Done completion s ans) = Begins written s.written
After written (Suspended d) = Begins written d.written

-- suspended at an operation, which was paid; and with more answers it continues from there
pub record SuspendedLater (s : State) (ans : List Answer) (d : Progress) (again : Outcome) : Type 0 where
  pub units : units_used ans < s.units
  pub written : Begins s.written d.written
  pub asked : IsAsked d.wants
  pub after : After d.written again

abbrev pub Fits : State → List Answer → Outcome → Outcome → List Answer → Type 0
Fits s ans (Done completion s' left) again more = DoneLater s ans completion s' left again more
Fits s ans (Suspended d) again more = SuspendedLater s ans d again

abbrev pub Continues : Continuation → Type 0
Continues go = (s : State) (ans more : List Answer) → Fits s ans (go s ans) (go s (ans ++ more)) more

-- what was written by then stays written after a part that continues
after_fits : (s : State) (ans : List Answer) (r again : Outcome) (more : List Answer) → Fits s ans r again more → After s.written r
after_fits s ans (Done completion s' left) again more x = x.written
after_fits s ans (Suspended d) again more x = x.written

pub after_part : (go : Continuation) → Continues go → (s : State) (ans : List Answer) → After s.written (go s ans)
after_part go x s ans = after_fits s ans (go s ans) (go s (ans ++ [])) [] (x s ans [])

after_further : (xs ys : List Piece) (r : Outcome) → Begins xs ys → After ys r → After xs r
after_further xs ys (Done completion s ans) b x = begins_further xs ys s.written b x
after_further xs ys (Suspended d) b x = begins_further xs ys d.written b x

-- from an earlier state, with fewer answers used
pub fits_earlier : (s t : State) (used ans : List Answer) (r again : Outcome) (more : List Answer) → units_used used + t.units ≤ s.units → Begins s.written t.written → Fits t ans r again more → Fits s (used ++ ans) r again more
fits_earlier s t used ans (Done completion s' left) again more u w x = record {
  used = used ++ x.used;
  is = append_assoc used x.used left ∙ ap (λ l. used ++ l) x.is;
  units = (let e : units_used (used ++ x.used) ≡ units_used used + units_used x.used = units_used-append used x.used in let h = x.units in omega arith);
  written = begins_further s.written t.written s'.written w x.written;
  same = x.same;
}
fits_earlier s t used ans (Suspended d) again more u w x = record {
  units = (let e : units_used (used ++ ans) ≡ units_used used + units_used ans = units_used-append used ans in let h = x.units in omega arith);
  written = begins_further s.written t.written d.written w x.written;
  asked = x.asked;
  after = x.after;
}

-- ---- parts

pub continues_goes : (completion : Completion) → Continues (completes completion)
continues_goes completion s ans more = record { used = []; is = refl; units = omega arith; written = begins_itself s.written; same = refl }

pub continues_where : (b : Bool) (one other : Continuation) → Continues one → Continues other → Continues (if_else b one other)
continues_where true one other x y s ans more = x s ans more
continues_where false one other x y s ans more = y s ans more

-- a change of the state that uses no unit and writes nothing
pub record Keeps (change : State → State) (s : State) : Type 0 where
  pub units : (change s).units ≡ s.units
  pub written : (change s).written ≡ s.written

pub continues_first : (change : State → State) (go : Continuation) → ((s : State) → Keeps change s) → Continues go → Continues (update_then change go)
continues_first change go k x s ans more =
    fits_earlier s (change s) [] ans (go (change s) ans) (go (change s) (ans ++ more)) more (let e = (k s).units in omega arith) (begins_same s.written (change s).written (sym (k s).written)) (x (change s) ans more)

costs_unit_fits : (n : ℕ) (go : Continuation) → Continues go → (s : State) (ans more : List Answer) → n ≡ s.units → Fits s ans (costs_unit_of n go s ans) (costs_unit_of n go s (ans ++ more)) more
costs_unit_fits zero go x s ans more e = continues_goes _ s ans more
costs_unit_fits (suc n) go x s ans more e =
    fits_earlier s (record s { units = n }) [] ans (go (record s { units = n }) ans) (go (record s { units = n }) (ans ++ more)) more (omega arith) (begins_itself s.written) (x (record s { units = n }) ans more)

pub continues_charged : (go : Continuation) → Continues go → Continues (costs_unit go)
continues_charged go x s ans more = costs_unit_fits s.units go x s ans more refl

-- ---- operations

after_hears : (op : Op) (go : Answer → Continuation) → ((a : Answer) → Continues (go a)) → (s : State) (ans : List Answer) → After s.written (awaits op go s ans)
after_hears op go x s [] = begins_itself s.written
after_hears op go x s (answer.Blocked holders ∷ ans) = after_hears op go x s ans
after_hears op go x s (answer.NoMemory ∷ ans) = begins_itself s.written
after_hears op go x s (answer.Closed ∷ ans) = begins_itself s.written
after_hears op go x s (answer.Deadlock cycle ∷ ans) = begins_itself s.written
after_hears op go x s (answer.TxFull ∷ ans) = begins_itself s.written
after_hears op go x s (answer.TraceFull ∷ ans) = begins_itself s.written
after_hears op go x s (a ∷ ans) = after_part (go a) (x a) s ans

-- an answer that ends the client
ends_fits : (s t : State) (a : Answer) (ans : List Answer) (completion : Completion) (more : List Answer) → is_blocked a ≡ false → suc t.units ≡ s.units → s.written ≡ t.written → Fits s (a ∷ ans) (Done completion t ans) (Done completion t (ans ++ more)) more
ends_fits s t a ans completion more b u w = record {
  used = a ∷ [];
  is = refl;
  units = (let e : units_used (a ∷ []) ≡ units_used_if false 0 = ap (λ c. units_used_if c 0) b in omega arith);
  written = begins_same s.written t.written w;
  same = refl;
}

blocked_fits : (s : State) (holders : List ℕ) (ans : List Answer) (r again : Outcome) (more : List Answer) → Fits s ans r again more → Fits s (answer.Blocked holders ∷ ans) r again more
blocked_fits s holders ans (Done completion s' left) again more x = record {
  used = answer.Blocked holders ∷ x.used;
  is = ap (λ l. answer.Blocked holders ∷ l) x.is;
  units = x.units;
  written = x.written;
  same = x.same;
}
blocked_fits s holders ans (Suspended d) again more x = record { units = x.units; written = x.written; asked = x.asked; after = x.after }

-- an answer that does not end the client
awaits_fits : (s t : State) (a : Answer) (ans : List Answer) (go : Continuation) (more : List Answer) → is_blocked a ≡ false → suc t.units ≡ s.units → s.written ≡ t.written → Continues go → Fits s (a ∷ ans) (go t ans) (go t (ans ++ more)) more
awaits_fits s t a ans go more b u w x =
    fits_earlier s t (a ∷ []) ans (go t ans) (go t (ans ++ more)) more
    (let e : units_used (a ∷ []) ≡ units_used_if false 0 = ap (λ c. units_used_if c 0) b in omega arith)
    (begins_same s.written t.written w) (x t ans more)

asks_fits : (op : Op) (go : Answer → Continuation) → ((a : Answer) → Continues (go a)) → (s t : State) → suc t.units ≡ s.units → s.written ≡ t.written → (ans more : List Answer) → Fits s ans (awaits op go t ans) (awaits op go t (ans ++ more)) more
asks_fits op go x s t u w [] more = record {
  units = omega arith;
  written = begins_same s.written t.written w;
  asked = tt;
  after = after_hears op go x t more;
}
asks_fits op go x s t u w (answer.Blocked holders ∷ ans) more =
    blocked_fits s holders ans (awaits op go t ans) (awaits op go t (ans ++ more)) more (asks_fits op go x s t u w ans more)
asks_fits op go x s t u w (answer.NoMemory ∷ ans) more = ends_fits s t answer.NoMemory ans _ more refl u w
asks_fits op go x s t u w (answer.Closed ∷ ans) more = ends_fits s t answer.Closed ans _ more refl u w
asks_fits op go x s t u w (answer.Deadlock cycle ∷ ans) more = ends_fits s t (answer.Deadlock cycle) ans _ more refl u w
asks_fits op go x s t u w (answer.TxFull ∷ ans) more = ends_fits s t answer.TxFull ans _ more refl u w
asks_fits op go x s t u w (answer.TraceFull ∷ ans) more = ends_fits s t answer.TraceFull ans _ more refl u w
asks_fits op go x s t u w (a ∷ ans) more = awaits_fits s t a ans (go a) more refl u w (x a)

asks_from : (op : Op) (go : Answer → Continuation) → ((a : Answer) → Continues (go a)) → (n : ℕ) (s : State) (ans more : List Answer) → n ≡ s.units → Fits s ans (costs_unit_of n (awaits op go) s ans) (costs_unit_of n (awaits op go) s (ans ++ more)) more
asks_from op go x zero s ans more e = continues_goes _ s ans more
asks_from op go x (suc n) s ans more e = asks_fits op go x s (record s { units = n }) e refl ans more

pub continues_asks : (op : Op) (go : Answer → Continuation) → ((a : Answer) → Continues (go a)) → Continues (asks op go)
continues_asks op go x s ans more = asks_from op go x s.units s ans more refl

-- ---- one part after the other

-- what follows the completion of a part
pub record Handles (h : Outcome → Outcome) (k : Completion → Continuation) : Type 0 where
  pub completes : (completion : Completion) (s : State) (ans : List Answer) → h (Done completion s ans) ≡ k completion s ans
  pub stands : (d : Progress) → h (Suspended d) ≡ Suspended d

after_handled : (h : Outcome → Outcome) (k : Completion → Continuation) → Handles h k → ((completion : Completion) → Continues (k completion)) → (written : List Piece) (r : Outcome) → After written r → After written (h r)
after_handled h k c x written (Done completion s ans) b =
    subst (After written) (sym (c.completes completion s ans)) (after_further written s.written (k completion s ans) b (after_part (k completion) (x completion) s ans))
after_handled h k c x written (Suspended d) b = subst (After written) (sym (c.stands d)) b

handled_fits : (h : Outcome → Outcome) (k : Completion → Continuation) → Handles h k → ((completion : Completion) → Continues (k completion)) → (s : State) (ans : List Answer) (r again : Outcome) (more : List Answer) → Fits s ans r again more → Fits s ans (h r) (h again) more
handled_fits h k c x s ans (Done completion t left) again more g =
    let one : h (Done completion t left) ≡ k completion t left = c.completes completion t left in
    let two : h again ≡ k completion t (left ++ more) = ap h g.same ∙ c.completes completion t (left ++ more) in
    let there : Fits s (g.used ++ left) (k completion t left) (k completion t (left ++ more)) more =
    fits_earlier s t g.used left (k completion t left) (k completion t (left ++ more)) more g.units g.written (x completion t left more) in
    let here : Fits s ans (k completion t left) (k completion t (left ++ more)) more = subst (λ l. Fits s l (k completion t left) (k completion t (left ++ more)) more) g.is there in
    let then : Fits s ans (h (Done completion t left)) (k completion t (left ++ more)) more = subst (λ r. Fits s ans r (k completion t (left ++ more)) more) (sym one) here in
    subst (λ r. Fits s ans (h (Done completion t left)) r more) (sym two) then
handled_fits h k c x s ans (Suspended d) again more g =
    let then : Fits s ans (Suspended d) (h again) more =
    record { units = g.units; written = g.written; asked = g.asked; after = after_handled h k c x d.written again g.after } in
    subst (λ r. Fits s ans r (h again) more) (sym (c.stands d)) then

-- a function of the outcome of a part
pub continues_handled : (go : Continuation) (h : Outcome → Outcome) (k : Completion → Continuation) → Handles h k → Continues go → ((completion : Completion) → Continues (k completion)) → (s : State) (ans more : List Answer) → Fits s ans (h (go s ans)) (h (go s (ans ++ more))) more
continues_handled go h k c x y s ans more = handled_fits h k c y s ans (go s ans) (go s (ans ++ more)) more (x s ans more)

if_normal_continues : (next : Continuation) → Continues next → (completion : Completion) → Continues (if_normal completion next)
if_normal_continues next x Normal s ans more = x s ans more
if_normal_continues next x completion s ans more = continues_goes completion s ans more

pub continues_then : (go next : Continuation) → Continues go → Continues next → (s : State) (ans more : List Answer) → Fits s ans (and_then (go s ans) next) (and_then (go s (ans ++ more)) next) more
continues_then go next x y s ans more =
    continues_handled go (λ r. and_then r next) (λ completion. if_normal completion next) (record { completes = λ completion s ans. refl; stands = λ d. refl }) x (if_normal_continues next y) s ans more

-- ---- parts that ask for no operation

pub record Stays (f : State → Completed) (s : State) : Type 0 where
  pub units : (f s).state.units ≤ s.units
  pub written : Begins s.written (f s).state.written

pub continues_done : (f : State → Completed) → ((s : State) → Stays f s) → Continues (immediately f)
continues_done f k s ans more = record { used = []; is = refl; units = (let h = (k s).units in omega arith); written = (k s).written; same = refl }
