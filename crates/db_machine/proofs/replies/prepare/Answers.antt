use Rattle.std.proofs.Common.{sym, subst, inl, inr}
use Rattle.database_protocol.specs.declared.answer.Answer.{Answer}
use Rattle.database_meaning.specs.Fits.{IsOwnAnswer}
use Rattle.db_machine.proofs.replies.prepare.Goals as goal

pub returns-in-Ok-clause-own : goal.returns-in-Ok-clause-own
returns-in-Ok-clause-own c =
    let own = c.can_have.ensures c.if-not-can_have.false in (
      own.0,
      elim c.fit-answer.ensures [
        | inl fitted ↦ inr (subst (λ (a : Answer). IsOwnAnswer c.args.schema.now c.args.op.now a) (sym fitted.1) own.1)
        | inr full ↦ inl full.1
      ],
    )
