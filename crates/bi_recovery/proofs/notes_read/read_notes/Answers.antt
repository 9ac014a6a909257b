use Rattle.std.proofs.Common.{◌≡◌, ◌+◌, ◌-◌, ◌≤◌, ◌^◌, ℕ, List, length, Bool, IsTrue, refl, sym, ◌∙◌, subst, arith}
use Rattle.std.proofs.lemmas.List.{get_or_past}
use Rattle.std.proofs.lemmas.List.Elements.{All-nil, All-push}
use Rattle.std.specs.Prelude.{All, Option, Some, None, IfSome}
use Rattle.log_meaning.specs.steps.Steps.{Image}
use Rattle.log_meaning.proofs.StepsLemmas.Runs.{stays_twice}
use Rattle.log_meaning.specs.declared.note.Note.{Note}
use Rattle.log_meaning.specs.Bytes.{note_bytes, IsNote}
use Rattle.bi_log.specs.declared.reader.AtGate.{AtGate}
use Rattle.bi_log.specs.declared.reader.AtGate.TheVariants.{Open, Closed, Broken}
use Rattle.bi_log.specs.Appending.{Held}
use Rattle.bi_log.specs.Reading.{HasBatches, gate_of, IsInside}
use Rattle.bi_log.specs.Outcomes.{GateAnswer, NoteAnswer, IsFewBytes}
use Rattle.bi_recovery.specs.ReadNotes.{HasReadTo}
use Rattle.bi_recovery.proofs.NotesRead.{read_head, at_gate, closed_log, closed_past, opens_gate, broken_log, in_batch, broken_in, one_more}
use Rattle.bi_recovery.proofs.notes_read.read_notes.Goals as goal

zero≢one : ◌≡◌ {A = ℕ} 0 1 → ⊥
zero≢one e = omega (arith, e)

-- what a gate says of the area as it read at first
gate_says : (was seen : Image) (area at : ℕ) (r s : AtGate) → seen ≡ was → r ≡ s → (log : Held) → HasBatches (was area) log → at ≡ gate_of log
    → ((l : Held) → HasBatches (seen area) l → at ≡ gate_of l → GateAnswer (seen area) l r) → GateAnswer (was area) log s
gate_says was seen area at r s same is log has at_is says = subst (λ (x : AtGate). GateAnswer (was area) log x) is (subst (λ (i : Image). GateAnswer (i area) log r) same (says log (subst (λ (i : Image). HasBatches (i area) log) (sym same) has) at_is))

note_says : (was seen : Image) (area at left : ℕ) (r s : Option Note) → seen ≡ was → r ≡ s → (log : Held) (part : List Note) → HasBatches (was area) log → IsInside (was area) log part at left
    → ((l : Held) (p : List Note) → HasBatches (seen area) l → IsInside (seen area) l p at left → NoteAnswer (seen area) l p at left r) → NoteAnswer (was area) log part at left s
note_says was seen area at left r s same is log part has inside says =
    subst (λ (x : Option Note). NoteAnswer (was area) log part at left x) is
    (subst (λ (i : Image). NoteAnswer (i area) log part at left r) same
    (says log part (subst (λ (i : Image). HasBatches (i area) log) (sym same) has) (subst (λ (i : Image). IsInside (i area) log part at left) (sym same) inside)))

pub notes-init : goal.notes-init
notes-init g c = record {
  rest = record { same_observable = refl; same = λ known. refl; moment = refl; nothing_else = λ m image left. left; stays = λ m image left. left };
  failures = refl;
  same_area = refl;
  sound = subst (All IsNote) (sym c.new-notes.ensures.items) (All-nil IsNote);
  place = omega arith;
  read = λ known generation o. read_head (g.D.Disk.seen c.args.disk.now c.args.area) generation c.new-notes.result.items c.new-notes.ensures.items o;
}

pub returns-then-at-clause-ok : goal.returns-then-at-clause-ok
returns-then-at-clause-ok g c = λ known generation o.
    let seen = g.D.Disk.seen c.args.disk.now c.args.area in
    let small : length seen ≤ 2 ^ 40 = (g.met.D.Disk.image_known c.args.disk.now _ _ (g.met.D.Disk.reads_left c.args.disk.now known)).small c.args.area in
    closed_past seen generation c.notes.at c.notes.notes.items (at_gate seen generation c.notes.at c.notes.left c.notes.notes.items (c.notes.invariant.read known generation o) c.if-left-eq0.true)
    (λ one. zero≢one (sym (get_or_past seen c.notes.at 0 (let far = c.if-at.true in omega (arith, small, far))) ∙ one))

pub returns-in-Closed-clause-ok : goal.returns-in-Closed-clause-ok
returns-in-Closed-clause-ok g c = λ known generation o.
    let seen = g.D.Disk.seen c.args.disk.now c.args.area in
    let a = at_gate seen generation c.notes.at c.notes.left c.notes.notes.items (c.notes.invariant.read known generation o) c.if-left-eq0.true in
    closed_log seen generation c.notes.at c.notes.notes.items a
    (gate_says (g.D.Disk.seen c.args.disk.now) (g.D.Disk.seen c.notes.disk) c.args.area c.notes.at c.in_ok-look_at_gate.field-0 Closed (c.notes.invariant.rest.same known) c.in-Closed.is a.log a.has a.at_is
    (c.in_ok-look_at_gate.ensures.ok (subst (λ (b : Bool). IsTrue b) (sym c.notes.invariant.rest.same_observable) known)))

pub returns-in-Broken-clause-ok : goal.returns-in-Broken-clause-ok
returns-in-Broken-clause-ok g c = λ known generation o.
    let seen = g.D.Disk.seen c.args.disk.now c.args.area in
    let a = at_gate seen generation c.notes.at c.notes.left c.notes.notes.items (c.notes.invariant.read known generation o) c.if-left-eq0.true in
    broken_log seen generation c.notes.at c.notes.notes.items a
    (gate_says (g.D.Disk.seen c.args.disk.now) (g.D.Disk.seen c.notes.disk) c.args.area c.notes.at c.in_ok-look_at_gate.field-0 Broken (c.notes.invariant.rest.same known) c.in-Broken.is a.log a.has a.at_is
    (c.in_ok-look_at_gate.ensures.ok (subst (λ (b : Bool). IsTrue b) (sym c.notes.invariant.rest.same_observable) known)))

few_at : (r : AtGate) (n : ℕ) → r ≡ Open n → IsFewBytes r → n ≤ 2 ^ 20
few_at r n is few = (subst IsFewBytes is few).1

pub notes-preserved-in-Open : goal.notes-preserved-in-Open
notes-preserved-in-Open g c = record {
  rest = stays_twice _ _ _ _ _ _ _ _ _ _ _ _ c.notes.invariant.rest c.look_at_gate.ensures.rest;
  failures = c.in_ok-look_at_gate.ensures.cause.stays refl ∙ c.notes.invariant.failures;
  same_area = refl;
  sound = c.notes.invariant.sound;
  place = (let few = few_at c.in_ok-look_at_gate.field-0 c.in-Open.n c.in-Open.is c.in_ok-look_at_gate.ensures.few in let near = c.if-at.false in omega (arith, few, near));
  read = λ known generation o.
      let seen = g.D.Disk.seen c.args.disk.now c.args.area in
      let a = at_gate seen generation c.notes.at c.notes.left c.notes.notes.items (c.notes.invariant.read known generation o) c.if-left-eq0.true in
      opens_gate seen generation c.notes.at c.in-Open.n c.notes.notes.items a
      (gate_says (g.D.Disk.seen c.args.disk.now) (g.D.Disk.seen c.notes.disk) c.args.area c.notes.at c.in_ok-look_at_gate.field-0 (Open c.in-Open.n) (c.notes.invariant.rest.same known) c.in-Open.is a.log a.has a.at_is
      (c.in_ok-look_at_gate.ensures.ok (subst (λ (b : Bool). IsTrue b) (sym c.notes.invariant.rest.same_observable) known)));
}

pub returns-in-None-clause-ok : goal.returns-in-None-clause-ok
returns-in-None-clause-ok g c = λ known generation o.
    let seen = g.D.Disk.seen c.args.disk.now c.args.area in
    let b = in_batch seen generation c.notes.at c.notes.left c.notes.notes.items (c.notes.invariant.read known generation o) (λ none. c.if-left-eq0.false none) in
    broken_in seen generation c.notes.at c.notes.left c.notes.notes.items b
    (note_says (g.D.Disk.seen c.args.disk.now) (g.D.Disk.seen c.notes.disk) c.args.area c.notes.at c.notes.left c.in_ok-note_at.field-0 None (c.notes.invariant.rest.same known) c.in-None.is b.log b.part b.has b.inside
    (c.in_ok-note_at.ensures.ok (subst (λ (x : Bool). IsTrue x) (sym c.notes.invariant.rest.same_observable) known)))

pub notes-preserved : goal.notes-preserved
notes-preserved g c =
    let sound = subst (λ (r : Option Note). IfSome r (λ n. IsNote n × (length (note_bytes n) ≤ c.notes.left))) c.in-Some.is c.in_ok-note_at.ensures.sound in
    let is = c.note_len-n.ensures.length (sound.0) in
    let fits : c.note_len-n.result ≤ c.notes.left = (let within = sound.1 in omega (arith, is, within)) in
    record {
      rest = stays_twice _ _ _ _ _ _ _ _ _ _ _ _ c.notes.invariant.rest c.note_at.ensures.rest;
      failures = c.in_ok-note_at.ensures.cause.stays refl ∙ c.notes.invariant.failures;
      same_area = refl;
      sound = subst (All IsNote) (sym c.in_ok-push-in-Some.ensures.items) (All-push IsNote c.notes.notes.items c.in-Some.note c.notes.invariant.sound (sound.0));
      place = (let place = c.notes.invariant.place in omega (arith, place, fits));
      read = λ known generation o.
          let seen = g.D.Disk.seen c.args.disk.now c.args.area in
          let b = in_batch seen generation c.notes.at c.notes.left c.notes.notes.items (c.notes.invariant.read known generation o) (λ none. c.if-left-eq0.false none) in
          subst (λ (l : List Note). HasReadTo seen generation (c.notes.at + c.note_len-n.result) (c.notes.left - c.note_len-n.result) l) (sym c.in_ok-push-in-Some.ensures.items)
          (one_more seen generation c.notes.at c.notes.left c.note_len-n.result c.notes.notes.items c.in-Some.note b is fits
          (note_says (g.D.Disk.seen c.args.disk.now) (g.D.Disk.seen c.notes.disk) c.args.area c.notes.at c.notes.left c.in_ok-note_at.field-0 (Some c.in-Some.note) (c.notes.invariant.rest.same known) c.in-Some.is b.log b.part b.has b.inside
          (c.in_ok-note_at.ensures.ok (subst (λ (x : Bool). IsTrue x) (sym c.notes.invariant.rest.same_observable) known))));
    }
