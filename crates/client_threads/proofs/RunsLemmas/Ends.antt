-- After an answer that stops the client, and after End, the run requests nothing but End.
use Rattle.std.proofs.Common.{◌≡◌, ◌⊎◌, inl, inr, sym, ap, ◌∙◌, subst, ℕ, List, [], ◌∷◌, ◌++◌, false}
use Rattle.database_protocol.specs.declared.operation.Op.{Op}
use Rattle.database_protocol.specs.declared.operation.Op.TheVariants.{End}
use Rattle.database_protocol.specs.declared.answer.Answer.{Answer}
use Rattle.database_protocol.specs.declared.ends.ClientEnd.{ClientEnd}
use Rattle.database_protocol.specs.declared.next_step.NextStep.{NextStep}
use Rattle.database_protocol.specs.declared.next_step.NextStep.TheVariants.{Ask, Ended}
use Rattle.block_meaning.specs.Program.{Program, procedure_at}
use Rattle.block_meaning.specs.State.{State, Completion, Stops, Outcome, Done, Suspended}
use Rattle.block_meaning.specs.Meaning.{meaning_all, calls_of, ends_in, end_of, finished, start, run}
use Rattle.block_meaning.proofs.Runs.{main_part}
use Rattle.client_threads.specs.runs.Careful.{IsStop}
use Rattle.client_threads.proofs.RunsLemmas.Halting.{Halting, Goes, AsksNoEnd}
use Rattle.client_threads.proofs.RunsLemmas.Halting_whole.{block_halts, meaning_all_halts, calls_halt}

main_halts : (p : Program) → Halting (main_part p)
main_halts p =
    block_halts p (procedure_at p 0).header false
    (λ retry. meaning_all (procedure_at p 0).body (record { program = p; calls = calls_of p 32; retry = retry }))
    (λ retry. meaning_all_halts (procedure_at p 0).body (record { program = p; calls = calls_of p 32; retry = retry }) (calls_halt p 32))

-- the client requests End, or has ended
ends_by_end : (e : ClientEnd) (s : State) (left : List Answer) (op : Op) → (ends_in e s left).wants ≡ Ask op → op ≡ End
ends_by_end e s [] op is = sym (let x : Ask End ≡ Ask op = is in cc)
ends_by_end e s (a ∷ left) op is = absurd (let x : Ended e ≡ Ask op = is in cc)

done_ends_by_end : (r : Outcome) (completion : Completion) (s : State) (left : List Answer) → r ≡ Done completion s left → (op : Op) → (finished r).wants ≡ Ask op → op ≡ End
done_ends_by_end r completion s left e op is = ends_by_end (end_of completion s) s left op (ap (λ r. (finished r).wants) (sym e) ∙ is)

asked_end : (w : NextStep) → AsksNoEnd w → w ≡ Ask End → ⊥
asked_end w asks is = subst AsksNoEnd is asks

-- what asks nothing but End
abbrev pub EndsAfter : NextStep → Answer → Type 0
EndsAfter w a = IsStop a ⊎ (w ≡ Ask End)

by_case : (r again : Outcome) (a : Answer) (more : List Answer) → Goes r again (a ∷ more) → EndsAfter (finished r).wants a → (op : Op) → (finished again).wants ≡ Ask op → op ≡ End
by_case (Done completion s left) again a more g ends op is = done_ends_by_end again completion s (left ++ a ∷ more) g op is
by_case (Suspended d) again a more g (inl stop) op is = let x = g.1 stop in done_ends_by_end again (Stops x.0) x.1 more x.2 op is
by_case (Suspended d) again a more g (inr e) op is = absurd (asked_end d.wants g.0 e)

pub requests_end : (p : Program) (units : ℕ) (before : List Answer) (a : Answer) (more : List Answer) → EndsAfter (run p units before).wants a → (op : Op) → (run p units (before ++ a ∷ more)).wants ≡ Ask op → op ≡ End
requests_end p units before a more ends op is =
    by_case (main_part p (start p units) before) (main_part p (start p units) (before ++ a ∷ more)) a more (main_halts p (start p units) before (a ∷ more)) ends op is
