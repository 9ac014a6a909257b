-- Refused comes only to a client that waits, or to an operation that is ill formed, whatever the store says.
use Rattle.std.proofs.Common.{◌≡◌, ◌⊎◌, inl, inr, ℕ, ◌<◌, length, Option, None, Some, sym, ap, ◌∙◌, subst}
use Rattle.std.proofs.lemmas.Bool.{cases_eq}
use Rattle.abl_values.specs.Schema.{SchemaData}
use Rattle.database_protocol.specs.declared.operation.Op.{Op}
use Rattle.database_protocol.specs.declared.answer.Answer.{Answer}
use Rattle.database_protocol.specs.declared.answer.Answer.TheVariants.{Refused}
use Rattle.database_meaning.specs.declared.state.BlockedRequest.{BlockedRequest}
use Rattle.database_meaning.specs.Setting.{Setting}
use Rattle.database_meaning.specs.Answers.{AsksAgain, IsWellFormed}
use Rattle.database_meaning.specs.Traces.{left_by}
use Rattle.database_interface.specs.Step.{IsIllFormed, IsRefusedRightly}
use Rattle.db_core.specs.Known.{IsAllowed, known, setting_at}
use Rattle.db_core.specs.Represents.{blocked_at}
use Rattle.db_core.proofs.LevelLaws.{levels_back, well_formed_in}
use Rattle.db_machine.specs.Machine.{Machine}
use Rattle.db_machine.specs.Database.{HasSetting, IsBlocked}

frees_of : (w r : BlockedRequest) → Some w ≡ Some r → w.frees ≡ r.frees
frees_of w r e = let q : w ≡ r = cc in ap (λ (b : BlockedRequest). b.frees) q

module _ {R : Type 0} (db : Machine R) (f : Setting) (c : ℕ) (op : Op) (has : HasSetting db f) (one : c < length db.control.sessions.items) (never : ¬ IsAllowed (setting_at db.schema db.control) (known db.control) c op) where
  same_setting : f ≡ setting_at db.schema db.control
  same_setting =
      ap (λ (x : SchemaData). let g : Setting = record { schema = x; clients = f.clients } in g) has.schema
      ∙ ap (λ (n : ℕ). let g : Setting = record { schema = db.schema; clients = n } in g) has.clients

  -- the operation is well formed in no state that the trace may leave, where it is not asked again in vain
  ill_formed : ¬ AsksAgain (known db.control) c op → IsIllFormed f db.trace c op
  ill_formed anew contents well =
      never (one, subst (λ (g : Setting). IsWellFormed g (known db.control) c op) same_setting (well_formed_in f (left_by f contents db.trace) (known db.control) c (levels_back (known db.control) (left_by f contents db.trace) (has.levels contents)) op well), anew)

  pub rightly_refused : IsBlocked db c ⊎ IsIllFormed f db.trace c op
  rightly_refused = by (blocked_at db.control c) (λ i. blocked_at db.control c)
    where
      by : (o : Option BlockedRequest) → blocked_at db.control c ≡ o → IsBlocked db c ⊎ IsIllFormed f db.trace c op
      by None e = inr (ill_formed (λ again. let clash : None ≡ Some (record { op = op; frees = db.control.frees }) = sym e ∙ again in cc))
      by (Some w) e = elim (cases_eq w.frees db.control.frees) [
        | inl same ↦ inl (w, e, same)
        | inr ne ↦ inr (ill_formed (λ again. ne (frees_of w (record { op = op; frees = db.control.frees }) (sym e ∙ again))))
      ]

pub refused_rightly : {R : Type 0} (db : Machine R) (f : Setting) (c : ℕ) (op : Op) (a : Answer) → HasSetting db f → c < length db.control.sessions.items
    → (a ≡ Refused → ¬ IsAllowed (setting_at db.schema db.control) (known db.control) c op) → IsRefusedRightly f db.trace (IsBlocked db c) c op a
refused_rightly db f c op a has one never is = rightly_refused db f c op has one (never is)
