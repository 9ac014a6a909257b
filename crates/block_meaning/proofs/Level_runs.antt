-- The whole run asks for Leave and Back of open levels only.
use Rattle.std.proofs.Common.{◌≡◌, refl, sym, ap, ◌∙◌, subst, ℕ, List, [], ◌∷◌, ◌++◌, Bool, true, false}
use Rattle.std.proofs.Math.Path.{fun_ext}
use Rattle.database_protocol.specs.declared.answer.Answer.{Answer}
use Rattle.database_protocol.specs.declared.ends.ClientEnd.{ClientEnd}
use Rattle.block_meaning.specs.declared.wants.Piece.{Piece}
use Rattle.database_protocol.specs.declared.next_step.NextStep.{NextStep}
use Rattle.database_protocol.specs.declared.next_step.NextStep.TheVariants.{Ask, Ended}
use Rattle.database_protocol.specs.declared.operation.Op.{Op}
use Rattle.database_protocol.specs.declared.operation.Op.TheVariants as op
use Rattle.block_meaning.specs.Program.{Program}
use Rattle.block_meaning.specs.State.{State, Completion, Outcome, Done, Suspended}
use Rattle.block_meaning.specs.Meaning.{ends_in, end_of, finished, start, run, op_of}
use Rattle.block_meaning.specs.GivesUp.{is_blocked}
use Rattle.block_meaning.specs.Levels.{CanAskAll, unless_blocked, asked_once}
use Rattle.block_meaning.proofs.Levels.{Over, Now, Later, Legal, Steady, WantsAt, after_wants, steady_part, steady_further}
use Rattle.block_meaning.proofs.Level_statements.{block_of_procedure_levels}
use Rattle.block_meaning.proofs.Runs.{main_part, main_continues}

-- a client that has ended asks for nothing
nothing_before : (n : ℕ) (b : Bool) (os : List Op) → CanAskAll n os → CanAskAll n (unless_blocked b [] ++ os)
nothing_before n true os h = h
nothing_before n false os h = h

ended_asks : (n : ℕ) (written : List Piece) (e : ClientEnd) (ans : List Answer) → CanAskAll n (asked_once (λ more. record { written = written; wants = Ended e }) ans)
ended_asks n written e [] = tt
ended_asks n written e (a ∷ ans) = nothing_before n (is_blocked a) (asked_once (λ more. record { written = written; wants = Ended e }) ans) (ended_asks n written e ans)

-- one that ends asks for End
end_before : (n : ℕ) (b : Bool) (os : List Op) → CanAskAll n os → CanAskAll n (unless_blocked b (op.End ∷ []) ++ os)
end_before n true os h = h
end_before n false os h = (tt, h)

ends_asks : (n : ℕ) (e : ClientEnd) (s : State) (ans : List Answer) → CanAskAll n (asked_once (ends_in e s) ans)
ends_asks n e s [] = (tt, tt)
ends_asks n e s (a ∷ ans) = end_before n (is_blocked a) (asked_once (λ more. record { written = s.written; wants = Ended e }) ans) (ended_asks n s.written e ans)

asks_further : (b : Bool) (n : ℕ) (w : NextStep) (os : List Op) → WantsAt n w → CanAskAll (after_wants b n w) os → CanAskAll n (unless_blocked b (op_of w) ++ os)
asks_further true n w os c h = h
asks_further false n (Ask o) os c h = (c, h)
asks_further false n (Ended e) os c h = absurd c

asks_now : (n : ℕ) (w : NextStep) → WantsAt n w → CanAskAll n (op_of w)
asks_now n (Ask o) c = (c, tt)
asks_now n (Ended e) c = absurd c

over_is : (f : List Answer → Outcome) → Steady f → (completion : Completion) (s : State) (left : List Answer) → f [] ≡ Done completion s left → left ≡ [] → (ans : List Answer) → ends_in (end_of completion s) s ans ≡ finished (f ans)
over_is f x completion s left e l ans = sym (ap finished (x [] ans completion s left e ∙ ap (λ m. Done completion s (m ++ ans)) l))

over_asks : (n : ℕ) (f : List Answer → Outcome) → Steady f → (completion : Completion) (s : State) (left : List Answer) → f [] ≡ Done completion s left → left ≡ [] → (ans : List Answer) → CanAskAll n (asked_once (λ ans. finished (f ans)) ans)
over_asks n f x completion s left e l ans = subst (λ m. CanAskAll n (asked_once m ans)) (fun_ext (over_is f x completion s left e l)) (ends_asks n (end_of completion s) s ans)

mutual
  asks_by : (O : ℕ → Completion → State → Type 0) (n : ℕ) (f : List Answer → Outcome) → Steady f → (r : Outcome) → f [] ≡ r → (ans : List Answer) → Legal O n f ans → CanAskAll n (asked_once (λ ans. finished (f ans)) ans)
  asks_by O n f x (Done completion s left) e [] l = let m = subst (Now O n) e l in over_asks n f x completion s left e m.0 []
  asks_by O n f x (Done completion s left) e (a ∷ ans) l = let m = subst (λ r. Later O n r a (λ m. Legal O m (λ more. f (a ∷ more)) ans)) e l in over_asks n f x completion s left e m.0 (a ∷ ans)
  asks_by O n f x (Suspended d) e [] l =
      subst (λ r. CanAskAll n (op_of (finished r).wants)) (sym e) (asks_now n d.wants (subst (Now O n) e l))
  asks_by O n f x (Suspended d) e (a ∷ ans) l =
      let m = subst (λ r. Later O n r a (λ m. Legal O m (λ more. f (a ∷ more)) ans)) e l in
      subst (λ r. CanAskAll n (unless_blocked (is_blocked a) (op_of (finished r).wants) ++ asked_once (λ more. finished (f (a ∷ more))) ans)) (sym e)
      (asks_further (is_blocked a) n d.wants (asked_once (λ more. finished (f (a ∷ more))) ans) m.0
      (asks_by O (after_wants (is_blocked a) n d.wants) (λ more. f (a ∷ more)) (steady_further f a x) (f (a ∷ [])) refl ans m.1))

pub run_asks : (p : Program) (units : ℕ) (ans : List Answer) → CanAskAll 0 (asked_once (run p units) ans)
run_asks p units ans =
    let s : State = start p units in
    asks_by (Over 0) 0 (main_part p s) (steady_part (main_part p) (main_continues p) s) (main_part p s []) refl ans (block_of_procedure_levels p 0 32 s ans)
