use Rattle.std.proofs.Common.{◌≡◌, ◌≢◌, IfSome, List, [], ◌∷◌, ◌++◌, Option, Some, refl, sym, ap, ◌∙◌, subst}
use Rattle.database_protocol.specs.declared.event.Event.{Event}
use Rattle.database_protocol.specs.declared.ends.ClientEnd.TheVariants.{NoMemory}
use Rattle.database_interface.specs.Step.{event_of}
use Rattle.database_protocol.specs.declared.operation.Op.TheVariants.{End}
use Rattle.database_protocol.specs.declared.answer.Answer.{Answer}
use Rattle.database_protocol.specs.declared.answer.Answer.TheVariants.{Refused}
use Rattle.database_protocol.specs.declared.next_step.NextStep.{NextStep}
use Rattle.database_protocol.specs.declared.next_step.NextStep.TheVariants.{Ask}
use Rattle.database_meaning.specs.Setting.{Setting}
use Rattle.database_meaning.specs.Fits.{Fits}
use Rattle.client_runner.specs.Meant.{IsSureOf}
use Rattle.client_runner.specs.Tasks.{HasSettingAtLock}
use Rattle.client_runner.proofs.Runs.{Along, MayGoOn, along_first, along_next, may_begin, may_go_on, over_by_itself, over_out_of_memory, pass_told}
use Rattle.client_runner.proofs.task.Task.run.Goals as goal

pub loop-init : goal.loop-init
loop-init g c =
    let S = g.C.Session in
    let IsSetting = HasSettingAtLock g.D.Database.has_setting c.args.shared.now in
    let told = pass_told c.in-Some.pass c.args.shared.now c.args.self.now.number [] (sym c.in-Some.is ∙ (c.take.ensures.value ∙ c.requires.ready.0)) in
    let begun = along_first S.begins S.along S.suits S.careful S.certain IsSetting c.args.self.now.client c.resume-wants.new.self c.resume-wants.result _ refl c.resume-wants.ensures.first c.resume-wants.ensures.suits in
    record {
      forever = (tt, tt);
      lock = told.0;
      client = told.1;
      number = refl;
      one = c.requires.ready.1;
      along = subst (λ own. Along S.begins S.along S.suits S.careful S.certain IsSetting c.args.self.now.client c.resume-wants.new.self own c.resume-wants.result) (sym told.2) begun;
      unended = subst (λ own. MayGoOn c.resume-wants.result own) (sym told.2) (may_begin c.resume-wants.result);
      shows = c.resume-wants.ensures.shows;
      requests = c.resume-wants.ensures.requests;
    }

pub returns-in-Ended : goal.returns-in-Ended
returns-in-Ended g c =
    let inv = c.loop.invariant in
    let S = g.C.Session in
    let IsSetting = HasSettingAtLock g.D.Database.has_setting c.args.shared.now in
    let over = over_by_itself S.begins S.along S.suits S.careful S.certain IsSetting c.args.self.now.client c.loop.self.client c.loop.pass.list c.in-Ended.end
    (subst (λ (w : NextStep). Along S.begins S.along S.suits S.careful S.certain IsSetting c.args.self.now.client c.loop.self.client c.loop.pass.list w) c.in-Ended.is inv.along) in
    record {
      run = record {
        number = inv.number;
        own = c.loop.pass.list;
        end = c.in-Ended.end;
        has = λ i. Some record { lock = inv.lock i; client = inv.client i; list = c.loop.pass.list };
        ended = refl;
        came = over.came;
        fits = over.fits;
        refused = over.refused;
        unrefused = over.unrefused;
      };
    }

pub loop-preserved : goal.loop-preserved
loop-preserved g c =
    let inv = c.loop.invariant in
    let S = g.C.Session in
    let IsSetting = HasSettingAtLock g.D.Database.has_setting c.args.shared.now in
    let next = c.resume-wants-in-Some-heard in
    let list = c.answer-heard.result.pass.list in
    let event : list ≡ c.loop.pass.list ++ event_of c.loop.self.number c.in-Ask.op c.in-Some-heard.given ∷ [] =
    subst (λ (o : Option Answer). IfSome o (λ a. list ≡ c.loop.pass.list ++ event_of c.loop.self.number c.in-Ask.op a ∷ [])) c.in-Some-heard.is c.answer-heard.ensures.event in
    let fits : (f : Setting) → IsSetting f → Fits f.schema c.in-Ask.op c.in-Some-heard.given =
    λ f is. subst (λ (o : Option Answer). IfSome o (λ a. Fits f.schema c.in-Ask.op a)) c.in-Some-heard.is (c.answer-heard.ensures.fits f is) in
    let sure : (f : Setting) → IsSetting f → IsSureOf f c.loop.self.number c.loop.pass.list c.in-Ask.op → c.in-Some-heard.given ≢ Refused =
    λ f is so. subst (λ (o : Option Answer). IfSome o (λ a. a ≢ Refused)) c.in-Some-heard.is (c.answer-heard.ensures.sure f is so) in
    record {
      forever = (tt, tt);
      lock = c.answer-heard.ensures.lock;
      client = c.answer-heard.ensures.client;
      number = inv.number;
      one = inv.one;
      along =
          along_next S.begins S.along S.suits S.careful S.certain IsSetting g.met.C.Session.sure c.args.self.now.client c.loop.self.client next.new.self c.loop.self.number c.loop.pass.list list c.in-Ask.op c.in-Some-heard.given next.result
          (subst (λ (w : NextStep). Along S.begins S.along S.suits S.careful S.certain IsSetting c.args.self.now.client c.loop.self.client c.loop.pass.list w) c.in-Ask.is inv.along)
          event fits sure next.ensures.next next.ensures.suits;
      unended =
          may_go_on c.loop.pass.list list c.loop.self.number c.in-Ask.op c.in-Some-heard.given next.result (subst (λ (w : NextStep). MayGoOn w c.loop.pass.list) c.in-Ask.is inv.unended) event
          (λ is. next.ensures.over (subst (λ o. S.shows c.loop.self.client (Ask o)) is (subst (S.shows c.loop.self.client) c.in-Ask.is inv.shows)));
      shows = next.ensures.shows;
      requests = next.ensures.requests;
    }

-- out of memory for the event of the operation: End takes its place
pub returns-in-None-heard : goal.returns-in-None-heard
returns-in-None-heard g c =
    let inv = c.loop.invariant in
    let S = g.C.Session in
    let IsSetting = HasSettingAtLock g.D.Database.has_setting c.args.shared.now in
    let ended = c.request_end-last.ensures.ended in
    let same : c.answer-heard.result.pass.list ≡ c.loop.pass.list = c.answer-heard.ensures.none c.in-None-heard.is in
    let over = over_out_of_memory S.begins S.along S.suits S.careful S.certain IsSetting c.args.self.now.client c.loop.self.client c.loop.pass.list c.request_end-last.result.list c.in-Ask.op c.loop.self.number ended.answer
    (subst (λ (w : NextStep). Along S.begins S.along S.suits S.careful S.certain IsSetting c.args.self.now.client c.loop.self.client c.loop.pass.list w) c.in-Ask.is inv.along)
    (c.answer-heard.ensures.end c.in-None-heard.is) (ended.event ∙ ap (λ (l : List Event). l ++ event_of c.loop.self.number End ended.answer ∷ []) same) ended.fits ended.unrefused in
    record {
      run = record {
        number = inv.number;
        own = c.request_end-last.result.list;
        end = NoMemory;
        has = λ i. Some record { lock = c.request_end-last.ensures.lock i; client = c.request_end-last.ensures.client i; list = c.request_end-last.result.list };
        ended = refl;
        came = over.came;
        fits = over.fits;
        refused = over.refused;
        unrefused = over.unrefused;
      };
    }
