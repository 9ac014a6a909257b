-- The run of every source is careful.
use Rattle.std.proofs.Common.{◌≡◌, ◌≢◌, ◌⊎◌, inl, inr, refl, sym, ap, ◌∙◌, subst, ℕ, ◌+◌, ◌-◌, ◌≤◌, min, List, [], ◌∷◌, ◌++◌, Bool, true, false, arith}
use Rattle.std.specs.Prelude.{if◌then◌else◌}
use Rattle.std.proofs.lemmas.List.Elements.{All-head, All-tail}
use Rattle.database_protocol.specs.declared.operation.Op.{Op}
use Rattle.database_protocol.specs.declared.operation.Op.TheVariants as op
use Rattle.database_protocol.specs.declared.answer.Answer.{Answer}
use Rattle.database_protocol.specs.declared.answer.Answer.TheVariants as answer
use Rattle.database_protocol.specs.declared.event.Event.{Event}
use Rattle.database_protocol.specs.declared.ends.ClientEnd.{ClientEnd}
use Rattle.database_protocol.specs.declared.next_step.NextStep.{NextStep}
use Rattle.database_protocol.specs.declared.next_step.NextStep.TheVariants.{Ask, Ended}
use Rattle.abl_values.specs.Schema.{SchemaData}
use Rattle.database_meaning.specs.Setting.{Setting}
use Rattle.database_meaning.specs.Fits.{Fits as HasAnswer}
use Rattle.database_meaning.specs.Steps.{is_success}
use Rattle.block_meaning.specs.Program.{Program}
use Rattle.block_meaning.specs.State.{Progress}
use Rattle.block_meaning.specs.Meaning.{run, op_of, asked}
use Rattle.block_meaning.specs.GivesUp.{is_blocked}
use Rattle.block_meaning.specs.Levels.{CanAsk, CanAskAll, levels_after as levels_asked, unless_blocked, asked_once}
use Rattle.block_meaning.proofs.Runs.{run_stays}
use Rattle.block_meaning.proofs.Level_runs.{run_asks}
use Rattle.client_runner.specs.Meant.{NoneIsRefused, AllFit}
use Rattle.client_runner.specs.Levels.{levels_after, levels_left}
use Rattle.client_threads.specs.session.Along.{IsOnLevels, IsOpen, IsCareful, answers_in, operations_in}
use Rattle.client_threads.specs.runs.Careful.{IsStop}
use Rattle.client_threads.proofs.RunsLemmas.Ends.{EndsAfter, requests_end}

-- ---- runs, from any of their answers on

-- after a stop, and after End, it requests nothing but End; and an end is final
pub record IsRun (m : List Answer → Progress) : Type 0 where
  pub ends : (before : List Answer) (a : Answer) (more : List Answer) → EndsAfter (m before).wants a → (o : Op) → (m (before ++ a ∷ more)).wants ≡ Ask o → o ≡ op.End
  pub stays : (before more : List Answer) (e : ClientEnd) → (m before).wants ≡ Ended e → m (before ++ more) ≡ m before

pub run_is : (p : Program) (units : ℕ) → IsRun (run p units)
run_is p units = record { ends = requests_end p units; stays = run_stays p units }

pub run_after : (m : List Answer → Progress) (a : Answer) → IsRun m → IsRun (λ more. m (a ∷ more))
run_after m a r = record { ends = λ before. r.ends (a ∷ before); stays = λ before. r.stays (a ∷ before) }

-- ---- one event

either_stop : (a : Answer) → IsStop a ⊎ ¬ IsStop a
either_stop answer.NoMemory = inl tt
either_stop answer.Closed = inl tt
either_stop (answer.Deadlock cycle) = inl tt
either_stop answer.TxFull = inl tt
either_stop answer.TraceFull = inl tt
either_stop a = inr (λ x. x)

either_end : (o : Op) → (o ≡ op.End) ⊎ (o ≢ op.End)
either_end op.End = inl refl
either_end o = inr (λ e. cc e)

same_if : (b : Bool) (k : ℕ) → (if b then k else k) ≡ k
same_if true k = refl
same_if false k = refl

-- the answer is one of success, where it is not one of those that stop or block the client
enter_done : (schema : SchemaData) (a : Answer) → HasAnswer schema op.Enter a → a ≢ answer.Refused → ¬ IsStop a → is_success a ≡ true
enter_done schema answer.Done fits unrefused goes = refl
enter_done schema answer.Refused fits unrefused goes = absurd (unrefused refl)
enter_done schema answer.NoMemory fits unrefused goes = absurd (goes tt)
enter_done schema answer.Closed fits unrefused goes = absurd (goes tt)
enter_done schema answer.TraceFull fits unrefused goes = absurd (goes tt)
enter_done schema a fits unrefused goes = absurd fits

leave_done : (schema : SchemaData) (keep : _) (a : Answer) → HasAnswer schema (op.Leave keep) a → a ≢ answer.Refused → ¬ IsStop a → is_success a ≡ true
leave_done schema keep answer.Done fits unrefused goes = refl
leave_done schema keep (answer.Committed moment) fits unrefused goes = refl
leave_done schema keep answer.Refused fits unrefused goes = absurd (unrefused refl)
leave_done schema keep answer.NoMemory fits unrefused goes = absurd (goes tt)
leave_done schema keep answer.Closed fits unrefused goes = absurd (goes tt)
leave_done schema keep answer.TraceFull fits unrefused goes = absurd (goes tt)
leave_done schema keep a fits unrefused goes = absurd fits

back_done : (schema : SchemaData) (depth : ℕ) (a : Answer) → HasAnswer schema (op.Back depth) a → a ≢ answer.Refused → ¬ IsStop a → is_success a ≡ true
back_done schema depth answer.Done fits unrefused goes = refl
back_done schema depth answer.Refused fits unrefused goes = absurd (unrefused refl)
back_done schema depth answer.NoMemory fits unrefused goes = absurd (goes tt)
back_done schema depth answer.Closed fits unrefused goes = absurd (goes tt)
back_done schema depth answer.TraceFull fits unrefused goes = absurd (goes tt)
back_done schema depth a fits unrefused goes = absurd fits

min_is : (d k : ℕ) → d ≤ k → min d k ≡ d
min_is d k le = grind arith

-- the levels counted by what succeeded are those counted by what was asked
levels_same : (schema : SchemaData) (k : ℕ) (o : Op) (a : Answer) → HasAnswer schema o a → (IsOnLevels o → a ≢ answer.Refused) → ¬ IsStop a → o ≢ op.End → CanAsk k o
    → (if is_success a then levels_after k o else k) ≡ levels_asked k o
levels_same schema k op.Enter a fits unrefused goes not_end can = ap (λ b. if b then k + 1 else k) (enter_done schema a fits (unrefused tt) goes)
levels_same schema k (op.Leave keep) a fits unrefused goes not_end can = ap (λ b. if b then k - 1 else k) (leave_done schema keep a fits (unrefused tt) goes)
levels_same schema k (op.Back depth) a fits unrefused goes not_end can = ap (λ b. if b then min depth k else k) (back_done schema depth a fits (unrefused tt) goes) ∙ min_is depth k can.1
levels_same schema k op.End a fits unrefused goes not_end can = absurd (not_end refl)
levels_same schema k o a fits unrefused goes not_end can = same_if (is_success a) k

blocked_fails : (a : Answer) → is_blocked a ≡ true → is_success a ≡ false
blocked_fails (answer.Blocked holders) is = refl
blocked_fails a is = absurd (cc is)

-- ---- all events

open_if : (k : ℕ) (o : Op) → CanAsk k o → IsOpen k o
open_if k (op.Leave keep) can = omega arith
open_if k (op.Back depth) can = (omega (arith, can.0), can.1)
open_if k o can = tt

open_at_end : (k : ℕ) (o : Op) → o ≡ op.End → IsOpen k o
open_at_end k o is = subst (IsOpen k) (sym is) tt

pub head_same : (o o' : Op) (os os' : List Op) → o ∷ os ≡ o' ∷ os' → (o ≡ o') × (os ≡ os')
head_same o o' os os' e = (cc, cc)

-- after this answer, blocked or not
next_levels : (schema : SchemaData) (k : ℕ) (o : Op) (a : Answer) (b : Bool) (rest : List Op) → is_blocked a ≡ b → HasAnswer schema o a → (IsOnLevels o → a ≢ answer.Refused) → ¬ IsStop a → o ≢ op.End
    → CanAskAll k (unless_blocked b (o ∷ []) ++ rest) → CanAskAll (if is_success a then levels_after k o else k) rest
next_levels schema k o a true rest is fits unrefused goes not_end can = subst (λ s. CanAskAll (if s then levels_after k o else k) rest) (sym (blocked_fails a is)) can
next_levels schema k o a false rest is fits unrefused goes not_end can = subst (λ n. CanAskAll n rest) (sym (levels_same schema k o a fits unrefused goes not_end can.0)) can.1

-- after these events, from this number of levels on, what is requested names open levels
abbrev OpenAfter : Setting → (List Answer → Progress) → List Event → Type 0
OpenAfter setting m own =
    (k : ℕ) → CanAskAll k (asked_once m (answers_in own)) → operations_in own ≡ asked m (answers_in own) → AllFit setting own → NoneIsRefused IsOnLevels own
    → (o : Op) → (m (answers_in own)).wants ≡ Ask o → IsOpen (levels_left k own) o

open_asked : (setting : Setting) (m : List Answer → Progress) → IsRun m → (q : Op) → (m []).wants ≡ Ask q → (e : Event) (own : List Event) → OpenAfter setting (λ more. m (e.answer ∷ more)) own
    → IsStop e.answer ⊎ ¬ IsStop e.answer → (q ≡ op.End) ⊎ (q ≢ op.End) → OpenAfter setting m (e ∷ own)
open_asked setting m r q wants e own further (inl stop) end k can same fits unrefused o is = open_at_end _ o (r.ends [] e.answer (answers_in own) (inl stop) o is)
open_asked setting m r q wants e own further (inr goes) (inl end) k can same fits unrefused o is = open_at_end _ o (r.ends [] e.answer (answers_in own) (inr (wants ∙ ap (λ o. Ask o) end)) o is)
open_asked setting m r q wants e own further (inr goes) (inr not_end) k can same fits unrefused o is =
    let rest : List Op = asked (λ more. m (e.answer ∷ more)) (answers_in own) in
    let once : List Op = asked_once (λ more. m (e.answer ∷ more)) (answers_in own) in
    let both = head_same e.op q (operations_in own) rest (same ∙ ap (λ w. op_of w ++ rest) wants) in
    let can' : CanAskAll k (unless_blocked (is_blocked e.answer) (q ∷ []) ++ once) = subst (λ w. CanAskAll k (unless_blocked (is_blocked e.answer) (op_of w) ++ once)) wants can in
    let fit : HasAnswer setting.schema q e.answer = subst (λ o. HasAnswer setting.schema o e.answer) both.0 (All-head (λ (e : Event). HasAnswer setting.schema e.op e.answer) e own fits) in
    let next : CanAskAll (if is_success e.answer then levels_after k q else k) once =
    next_levels setting.schema k q e.answer (is_blocked e.answer) once refl fit (subst (λ o. IsOnLevels o → e.answer ≢ answer.Refused) both.0 (All-head (λ (e : Event). IsOnLevels e.op → e.answer ≢ answer.Refused) e own unrefused)) goes not_end can' in
    further (if is_success e.answer then levels_after k e.op else k)
    (subst (λ o. CanAskAll (if is_success e.answer then levels_after k o else k) once) (sym both.0) next) both.1
    (All-tail (λ (e : Event). HasAnswer setting.schema e.op e.answer) e own fits) (All-tail (λ (e : Event). IsOnLevels e.op → e.answer ≢ answer.Refused) e own unrefused) o is

open_by : (setting : Setting) (m : List Answer → Progress) → IsRun m → (w : NextStep) → (m []).wants ≡ w → (e : Event) (own : List Event) → OpenAfter setting (λ more. m (e.answer ∷ more)) own → OpenAfter setting m (e ∷ own)
open_by setting m r (Ended end) wants e own further = λ k can same fits unrefused o is.
    absurd (let x : Ended end ≡ Ask o = sym wants ∙ (sym (ap (λ (d : Progress). d.wants) (r.stays [] (answers_in (e ∷ own)) end wants)) ∙ is) in cc)
open_by setting m r (Ask q) wants e own further = open_asked setting m r q wants e own further (either_stop e.answer) (either_end q)

open_after : (setting : Setting) (m : List Answer → Progress) → IsRun m → (own : List Event) → OpenAfter setting m own
open_after setting m r [] = λ k can same fits unrefused o is. let x : CanAskAll k (op_of (Ask o)) = subst (λ w. CanAskAll k (op_of w)) is can in open_if k o x.0
open_after setting m r (e ∷ own) = open_by setting m r (m []).wants refl e own (open_after setting (λ more. m (e.answer ∷ more)) (run_after m e.answer r) own)

pub run_is_careful : (names : List (List ℕ)) (p : Program) (units : ℕ) → IsCareful (record { names = names; run = run p units })
run_is_careful names p units setting own o same fits unrefused is =
    open_after setting (run p units) (run_is p units) own 0 (run_asks p units (answers_in own)) same fits unrefused o is
