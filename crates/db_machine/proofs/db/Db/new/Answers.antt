use Rattle.std.proofs.Common.{◌≡◌, ℕ, ◌<◌, ◌≤◌, Bool, true, false, List, [], length, refl, sym, ap, ◌∙◌, subst, arith}
use Rattle.std.proofs.lemmas.List.{length-replicate}
use Rattle.db_core.specs.Known.{known}
use Rattle.db_core.specs.Levels.{SameLevels}
use Rattle.db_machine.specs.Running.{IsRunning, running_in}
use Rattle.database_protocol.specs.declared.event.Event.{Event}
use Rattle.database_meaning.specs.Setting.{Setting}
use Rattle.database_meaning.specs.Traces.{Follows, left_by, opened}
use Rattle.db_core.specs.Crashes.{IsDurable}
use Rattle.db_core.specs.Represents.{Represents}
use Rattle.db_core.proofs.Crashes.{starts}
use Rattle.db_machine.specs.Replies.{IsSize}
use Rattle.db_machine.proofs.Stepping.{levels_first, running_first, runs_first}
use Rattle.db_machine.proofs.db.Db.new.Goals as goal

pub invariant_of-result : goal.invariant_of-result
invariant_of-result g c =
    let rows = g.R.RowStore.state c.args.rows in
    let control = c.in-Ok.start.control in
    let e = c.in-Ok.ensures in
    let law = c.a_new_database_is_represented.ensures in
    let contents = c.requires.opened.0 in
    let is_new = e.new contents c.requires.opened.2 in
    let zero : c.in-Ok.start.control.frees ≡ 0 = e.frees in
    let f : Setting = record { schema = c.args.schema; clients = c.args.clients } in
    let none : length c.in-Ok.start.trace.items ≡ 0 = ap length c.in-Ok.ensures.trace in
    let all = running_first c.args.clients in
    let running : running_in c.in-Ok.start.running ≡ c.args.clients = ap running_in c.in-Ok.ensures.running ∙ all in (
      record {
        sound = law.sound rows control contents c.requires.opened.1 is_new;
        few = subst (λ (n : ℕ). n ≤ 16) (sym e.count) c.requires.few;
        same_schema = c.requires.schema;
        sequences = ap length e.sequences ∙ c.requires.sequences;
        frees = omega (arith, zero);
        bound = omega arith;
        fine = λ unshut. c.requires.fine;
        some = λ observable. (f, opened contents, law.represents f rows control contents (sym c.requires.schema) (sym e.count) c.requires.opened.1 is_new);
      },
      record {
        clients = ap length c.in-Ok.ensures.running ∙ (length-replicate c.args.clients true ∙ sym e.count);
        room = omega (arith, none, running, c.in-Ok.ensures.room);
      },
    )

pub returns-in-Ok-clause-setting : goal.returns-in-Ok-clause-setting
returns-in-Ok-clause-setting g c =
    let e = c.in-Ok.ensures in
    record {
      schema = refl;
      clients = sym e.count;
      levels = λ contents. subst (λ (es : List Event). SameLevels (known c.in-Ok.start.control) (left_by (record { schema = c.args.schema; clients = c.args.clients }) contents es)) (sym c.in-Ok.ensures.trace)
          (levels_first c.in-Ok.start.control c.requires.opened.0 contents (e.new c.requires.opened.0 c.requires.opened.2));
    }

pub returns-in-Ok-clause-opened : goal.returns-in-Ok-clause-opened
returns-in-Ok-clause-opened g c = λ contents is sequences observable sound from.
    let rows = g.R.RowStore.state c.args.rows in
    let control = c.in-Ok.start.control in
    let e = c.in-Ok.ensures in
    let f : Setting = record { schema = c.args.schema; clients = c.args.clients } in
    let none : [] ≡ c.in-Ok.start.trace.items = sym c.in-Ok.ensures.trace in
    record {
      setting = record {
        schema = refl;
        clients = sym e.count;
        levels = λ other. subst (λ (es : List Event). SameLevels (known control) (left_by f other es)) none (levels_first control contents other (e.new contents sequences));
      };
      was = record {
        observable = observable;
        sound_contents = sound;
        follows = subst (λ (es : List Event). Follows f (opened contents) es) none tt;
        represents =
            subst (λ (es : List Event). Represents f rows control (left_by f contents es)) none
            (c.a_new_database_is_represented.ensures.represents f rows control contents (sym c.requires.schema) (sym e.count) is (e.new contents sequences));
        size_is = subst (λ (es : List Event). IsSize 0 (left_by f contents es).size) none refl;
        closed_is = subst (λ (es : List Event). false ≡ (left_by f contents es).closed) none refl;
      };
      durable = subst (λ (es : List Event). IsDurable rows (g.R.RowStore.left c.args.rows) (g.R.RowStore.times c.args.rows) f contents es) none
          (starts rows (g.R.RowStore.left c.args.rows) (g.R.RowStore.times c.args.rows) f contents (g.met.R.RowStore.since_past c.args.rows) (g.met.R.RowStore.left_known c.args.rows) from);
    }

pub returns-in-Ok-clause-active : goal.returns-in-Ok-clause-active
returns-in-Ok-clause-active g c = λ client within.
    (subst (λ (n : ℕ). client < n) (sym c.in-Ok.ensures.count) within, subst (λ (xs : List Bool). IsRunning xs client) (sym c.in-Ok.ensures.running) (runs_first c.args.clients client within))
