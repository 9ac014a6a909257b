use Rattle.std.proofs.Common.{◌≡◌, ◌⊎◌, ℕ, List, [], ◌∷◌, ◌++◌, sym, ap, subst, ◌∙◌, arith, vec_capacity}
use Rattle.database_protocol.specs.declared.answer.Answer.{Answer}
use Rattle.database_protocol.specs.declared.answer.Answer.TheVariants.{NoMemory, Refused}
use Rattle.database_protocol.specs.declared.event.Event.{Event}
use Rattle.database_interface.specs.Step.{IsIllFormed}
use Rattle.database_meaning.specs.State.{depth_of}
use Rattle.database_meaning.specs.Traces.{left_by}
use Rattle.db_core.specs.Crashes.{IsDurable}
use Rattle.db_core.proofs.RefusalLaws.{known_depth}
use Rattle.db_machine.specs.Database.{HasSetting, IsActive, IsBlocked, IsOpened}
use Rattle.db_machine.specs.Machine.{Machine}
use Rattle.db_machine.specs.Memory.{MayLackMemory}
use Rattle.db_machine.proofs.Refusing.{rightly_refused}
use Rattle.db_machine.proofs.Stepping.{levels_more, opened_more, reserved_more, safe_more}
use Rattle.db_machine.proofs.db.Db.execute.Goals as goal

pub invariant_of-self-2 : goal.invariant_of-self-2
invariant_of-self-2 g c =
    let d = c.self.inside in
    let event : Answer → Event = λ a. record { client = c.args.client; op = c.args.op; answer = a } in
    let is = c.push_reserved.ensures.items ∙ (ap (λ (xs : List Event). xs ++ event c.answer-reply.result.copy ∷ []) c.has_room.ensures.items ∙ ap (λ (a : Answer). d.trace.items ++ event a ∷ []) c.answer-reply.ensures.copy) in (
      safe_more (g.R.RowStore.state d.rows) (g.R.RowStore.state c.answer-reply.new.rows) d.control c.answer-reply.new.control d.schema d.size c.counted-self-inside.result d.closed c.is_closed-self-inside.result c.args.client c.args.op c.answer-reply.result.answer d.trace.items c.push_reserved.new.self.items
          c.answer-reply.ensures.step is c.counted-self-inside.ensures.bound c.counted-self-inside.ensures.counted c.is_closed-self-inside.ensures c.answer-reply.ensures.fine c.self.invariant.0,
      reserved_more (g.R.RowStore.state d.rows) (g.R.RowStore.state c.answer-reply.new.rows) d.control c.answer-reply.new.control d.schema d.size c.counted-self-inside.result d.closed c.is_closed-self-inside.result c.args.client c.args.op c.answer-reply.result.answer d.trace.items c.push_reserved.new.self.items
          c.answer-reply.ensures.step is c.counted-self-inside.ensures.bound c.counted-self-inside.ensures.counted c.is_closed-self-inside.ensures c.answer-reply.ensures.fine d.running c.note.new.self (vec_capacity d.trace) (vec_capacity c.push_reserved.new.self) c.note.ensures
          (let more = c.has_room.ensures.capacity in let same = c.push_reserved.ensures.capacity in omega (arith, more, same))
          (λ other.
          let room = c.has_room.ensures.room c.if-not-has_room.false other in
          let long = c.has_room.ensures.len in
          let same = c.push_reserved.ensures.capacity in
          let count = c.count.ensures in
          let items = d.trace.ok.0 in
          omega (arith, room, long, same, count, items))
          c.self.invariant.1,
    )

pub returns-clause-refused : goal.returns-clause-refused
returns-clause-refused g c = λ f has.
    let d = c.self.inside in
    let m : Machine g.row.R.Denot = record { rows = d.rows; control = d.control; schema = d.schema; size = d.size; closed = d.closed; running = d.running; trace = d.trace.items } in
    let was : HasSetting m f = subst (λ (x : Machine g.row.R.Denot). HasSetting x f) (sym c.self.view_is) has in
    let active : IsActive m c.args.client = subst (λ (x : Machine g.row.R.Denot). IsActive x c.args.client) (sym c.self.view_is) c.requires in
    subst (λ (x : Machine g.row.R.Denot). c.answer-reply.result.answer ≡ Refused → IsBlocked x c.args.client ⊎ IsIllFormed f x.trace c.args.client c.args.op) c.self.view_is
    (λ refused. rightly_refused m f c.args.client c.args.op was active.0 (c.answer-reply.ensures.refused refused))

pub returns-clause-setting : goal.returns-clause-setting
returns-clause-setting g c = λ f has.
    let d = c.self.inside in
    let event : Answer → Event = λ a. record { client = c.args.client; op = c.args.op; answer = a } in
    let is = c.push_reserved.ensures.items ∙ (ap (λ (xs : List Event). xs ++ event c.answer-reply.result.copy ∷ []) c.has_room.ensures.items ∙ ap (λ (a : Answer). d.trace.items ++ event a ∷ []) c.answer-reply.ensures.copy) in
    let m : Machine g.row.R.Denot = record { rows = d.rows; control = d.control; schema = d.schema; size = d.size; closed = d.closed; running = d.running; trace = d.trace.items } in
    let was : HasSetting m f = subst (λ (x : Machine g.row.R.Denot). HasSetting x f) (sym c.self.view_is) has in
    record {
      schema = was.schema;
      clients = was.clients ∙ sym c.answer-reply.ensures.step.counts.clients;
      levels = levels_more (g.R.RowStore.state d.rows) (g.R.RowStore.state c.answer-reply.new.rows) d.control c.answer-reply.new.control d.schema d.size c.counted-self-inside.result d.closed c.is_closed-self-inside.result c.args.client c.args.op c.answer-reply.result.answer d.trace.items c.push_reserved.new.self.items
          c.answer-reply.ensures.step is c.counted-self-inside.ensures.bound c.counted-self-inside.ensures.counted c.is_closed-self-inside.ensures c.answer-reply.ensures.fine f was.levels;
    }

pub returns-clause-opened : goal.returns-clause-opened
returns-clause-opened g c = λ f contents opened.
    let d = c.self.inside in
    let event : Answer → Event = λ a. record { client = c.args.client; op = c.args.op; answer = a } in
    let is = c.push_reserved.ensures.items ∙ (ap (λ (xs : List Event). xs ++ event c.answer-reply.result.copy ∷ []) c.has_room.ensures.items ∙ ap (λ (a : Answer). d.trace.items ++ event a ∷ []) c.answer-reply.ensures.copy) in
    let m : Machine g.row.R.Denot = record { rows = d.rows; control = d.control; schema = d.schema; size = d.size; closed = d.closed; running = d.running; trace = d.trace.items } in
    let was : IsOpened (g.R.RowStore.state d.rows) (g.R.RowStore.left d.rows) (g.R.RowStore.times d.rows) m f contents = subst (λ (x : Machine g.row.R.Denot). IsOpened (g.R.RowStore.state x.rows) (g.R.RowStore.left x.rows) (g.R.RowStore.times x.rows) x f contents) (sym c.self.view_is) opened in
    record {
      setting = record {
        schema = was.setting.schema;
        clients = was.setting.clients ∙ sym c.answer-reply.ensures.step.counts.clients;
        levels = levels_more (g.R.RowStore.state d.rows) (g.R.RowStore.state c.answer-reply.new.rows) d.control c.answer-reply.new.control d.schema d.size c.counted-self-inside.result d.closed c.is_closed-self-inside.result c.args.client c.args.op c.answer-reply.result.answer d.trace.items c.push_reserved.new.self.items
            c.answer-reply.ensures.step is c.counted-self-inside.ensures.bound c.counted-self-inside.ensures.counted c.is_closed-self-inside.ensures c.answer-reply.ensures.fine f was.setting.levels;
      };
      was = opened_more (g.R.RowStore.state d.rows) (g.R.RowStore.state c.answer-reply.new.rows) d.control c.answer-reply.new.control d.schema d.size c.counted-self-inside.result d.closed c.is_closed-self-inside.result c.args.client c.args.op c.answer-reply.result.answer d.trace.items c.push_reserved.new.self.items
          c.answer-reply.ensures.step is c.counted-self-inside.ensures.bound c.counted-self-inside.ensures.counted c.is_closed-self-inside.ensures c.answer-reply.ensures.fine f contents was.was;
      durable = subst (λ (es : List Event). IsDurable (g.R.RowStore.state c.answer-reply.new.rows) (g.R.RowStore.left c.answer-reply.new.rows) (g.R.RowStore.times c.answer-reply.new.rows) f contents es) (sym is)
          (c.answer-reply.ensures.durable f contents d.trace.items was.was.represents was.was.closed_is was.durable);
    }

pub returns-clause-since : goal.returns-clause-since
returns-clause-since g c = c.answer-reply.ensures.since ∙ ap (λ (m : Machine g.row.R.Denot). (g.R.RowStore.times m.rows).since) c.self.view_is

pub returns-clause-memory : goal.returns-clause-memory
returns-clause-memory g c = λ f contents has.
    let d = c.self.inside in
    let m : Machine g.row.R.Denot = record { rows = d.rows; control = d.control; schema = d.schema; size = d.size; closed = d.closed; running = d.running; trace = d.trace.items } in
    let was : HasSetting m f = subst (λ (x : Machine g.row.R.Denot). HasSetting x f) (sym c.self.view_is) has in
    subst (λ (x : Machine g.row.R.Denot). c.answer-reply.result.answer ≡ NoMemory → MayLackMemory (depth_of (left_by f contents x.trace) c.args.client) c.args.op) c.self.view_is
    (λ lacks. subst (λ (n : ℕ). MayLackMemory n c.args.op) (sym (known_depth d.control c.args.client) ∙ (was.levels contents).depth c.args.client) (c.answer-reply.ensures.lacks lacks))
