-- The whole run continues.
use Rattle.std.proofs.Common.{◌≡◌, refl, sym, ap, ◌∙◌, subst, ℕ, ◌≤◌, List, [], ◌∷◌, ◌++◌, append_assoc, append-nil, false, arith}
use Rattle.database_protocol.specs.declared.operation.Op.{Op}
use Rattle.database_protocol.specs.declared.answer.Answer.{Answer}
use Rattle.database_protocol.specs.declared.ends.ClientEnd.{ClientEnd}
use Rattle.block_meaning.specs.declared.wants.Piece.{Piece}
use Rattle.database_protocol.specs.declared.next_step.NextStep.TheVariants.{Ask, Ended}
use Rattle.block_meaning.specs.Program.{Program, procedure_at}
use Rattle.block_meaning.specs.State.{State, Completion, Progress, Outcome, Done, Suspended, Continuation}
use Rattle.block_meaning.specs.Blocks.{block}
use Rattle.block_meaning.specs.Meaning.{meaning_all, calls_of, ends_in, end_of, finished, start, run, op_of, asked}
use Rattle.block_meaning.specs.GivesUp.{Begins, IsAsked, units_used}
use Rattle.block_meaning.proofs.Continues.{begins_same, Continues, Fits, After}
use Rattle.block_meaning.proofs.Whole.{block_continues, meaning_all_continues, calls_go_on}

-- the external procedure's block
abbrev pub main_part : Program → Continuation
main_part p =
    block p (procedure_at p 0).header false
    (λ retry. meaning_all (procedure_at p 0).body (record { program = p; calls = calls_of p 32; retry = retry }))

pub main_continues : (p : Program) → Continues (main_part p)
main_continues p =
    block_continues p (procedure_at p 0).header false
    (λ retry. meaning_all (procedure_at p 0).body (record { program = p; calls = calls_of p 32; retry = retry }))
    (λ retry. meaning_all_continues (procedure_at p 0).body (record { program = p; calls = calls_of p 32; retry = retry }) (calls_go_on p 32))

ends_written : (e : ClientEnd) (s : State) (ans : List Answer) → (ends_in e s ans).written ≡ s.written
ends_written e s [] = refl
ends_written e s (a ∷ ans) = refl

-- ---- what is written

after_finished : (written : List Piece) (r : Outcome) → After written r → Begins written (finished r).written
after_finished written (Done completion s left) x = subst (Begins written) (sym (ends_written (end_of completion s) s left)) x
after_finished written (Suspended d) x = x

finished_grows : (s : State) (ans : List Answer) (r again : Outcome) (more : List Answer) → Fits s ans r again more → Begins (finished r).written (finished again).written
finished_grows s ans (Done completion t left) again more x =
    begins_same (finished (Done completion t left)).written (finished again).written
    (ends_written (end_of completion t) t left ∙ sym (ap (λ r. (finished r).written) x.same ∙ ends_written (end_of completion t) t (left ++ more)))
finished_grows s ans (Suspended d) again more x = after_finished d.written again x.after

pub run_grows : (p : Program) (units : ℕ) (ans more : List Answer) → Begins (run p units ans).written (run p units (ans ++ more)).written
run_grows p units ans more = finished_grows (start p units) ans (main_part p (start p units) ans) (main_part p (start p units) (ans ++ more)) more (main_continues p (start p units) ans more)

-- ---- an end is final

pub finished_stays : (s : State) (ans : List Answer) (r again : Outcome) (more : List Answer) (e : ClientEnd) → Fits s ans r again more → (finished r).wants ≡ Ended e → finished again ≡ finished r
finished_stays s ans (Done completion t []) again more e x h = absurd (subst IsAsked h tt)
finished_stays s ans (Done completion t (a ∷ left)) again more e x h = ap finished x.same
finished_stays s ans (Suspended d) again more e x h = absurd (subst IsAsked h x.asked)

pub run_stays : (p : Program) (units : ℕ) (ans more : List Answer) (e : ClientEnd) → (run p units ans).wants ≡ Ended e → run p units (ans ++ more) ≡ run p units ans
run_stays p units ans more e h = finished_stays (start p units) ans (main_part p (start p units) ans) (main_part p (start p units) (ans ++ more)) more e (main_continues p (start p units) ans more) h

-- ---- what was asked

pub asked-append : (m : List Answer → Progress) (ans more : List Answer) → asked m (ans ++ more) ≡ asked m ans ++ asked (λ rest. m (ans ++ rest)) more
asked-append m [] more = refl
asked-append m (a ∷ ans) more =
    ap (λ l. op_of (m []).wants ++ l) (asked-append (λ rest. m (a ∷ rest)) ans more)
    ∙ sym (append_assoc (op_of (m []).wants) (asked (λ rest. m (a ∷ rest)) ans) (asked (λ rest. m (a ∷ (ans ++ rest))) more))

-- ---- units

finished_paid : (s : State) (ans : List Answer) (r again : Outcome) (more : List Answer) (o : Op) → Fits s ans r again more → (finished r).wants ≡ Ask o → units_used ans ≤ s.units
finished_paid s ans (Done completion t []) again more o x h =
    let e : units_used x.used ≡ units_used ans = ap units_used (sym (append-nil x.used) ∙ x.is) in let u = x.units in omega arith
finished_paid s ans (Done completion t (a ∷ left)) again more o x h = absurd (subst IsAsked (sym h) tt)
finished_paid s ans (Suspended d) again more o x h = let u = x.units in omega arith

pub run_paid : (p : Program) (units : ℕ) (ans : List Answer) (o : Op) → (run p units ans).wants ≡ Ask o → units_used ans ≤ units
run_paid p units ans o h = finished_paid (start p units) ans (main_part p (start p units) ans) (main_part p (start p units) (ans ++ [])) [] o (main_continues p (start p units) ans []) h

pub units_fall : (go : Continuation) → Continues go → (s s' : State) (ans left : List Answer) (completion : Completion) → go s ans ≡ Done completion s' left → s'.units ≤ s.units
units_fall go x s s' ans left completion e =
    let y : Fits s ans (Done completion s' left) (go s (ans ++ [])) [] = subst (λ r. Fits s ans r (go s (ans ++ [])) []) e (x s ans []) in
    let u = y.units in omega arith
