use Rattle.std.proofs.Common.{◌≡◌, ◌≢◌, ◌+◌, ◌++◌, ℕ, suc, List, length, Bool, IsTrue, Result, Ok, Err, refl, sym, ◌∙◌, ap, subst, arith}
use Rattle.std.specs.Prelude.{IfOk, OnOk}
use Rattle.log_meaning.proofs.StepsLemmas.Runs.{started}
use Rattle.log_meaning.specs.Images.{slot_of}
use Rattle.bi_log.specs.Generations.{AfterGate}
use Rattle.bi_log.specs.Carrying.{Carries}
use Rattle.bi_log.proofs.Lengths.{run_none, run_more, run_twice}
use Rattle.bi_recovery.proofs.Carrying.{carries_start, carries_end}
use Rattle.open_transactions.specs.Clients.{list_in, number_in}
use Rattle.checkpoint.specs.next.Carrying.{notes_below, notes_of}
use Rattle.checkpoint.proofs.CarriedLemmas.CarriedMore.{then_after, closed_run}
use Rattle.checkpoint.proofs.carried.carrying.carry_all.Goals as goal

ok_both : {T E : Type 0} (r : Result T E) (P : T → Type 0) (Q : Type 0) (R : T → Type 0) → IfOk r P → OnOk r Q → ((x : T) → P x → Q → R x) → IfOk r R
ok_both (Ok x) P Q R p q f = f x p q
ok_both (Err e) P Q R p q f = tt

pub clients-init : goal.clients-init
clients-init g c = record {
  same_area = refl;
  same_transactions = refl;
  within = omega arith;
  low = omega arith;
  place = (let e = ap (length {A = ℕ}) c.requires.empty in omega (arith, e));
  near = (let e = ap (length {A = ℕ}) c.requires.empty in omega (arith, e));
  longer = run_none _ _ 167772160 (λ m image left. (g.met.D.Disk.image_known c.args.disk.now m image left).past);
  same_observable = refl;
  time = started _ _ (AfterGate c.args.area) (λ m image left. (g.met.D.Disk.image_known c.args.disk.now m image left).past);
  failures = refl;
  closed = c.requires.closed;
  carries = λ known generation prepared. carries_start _ c.args.area c.args.buffer.now generation (slot_of (g.D.Disk.seen c.args.disk.now 0)) c.requires.empty prepared;
  seen = λ known k other. refl;
}

pub carry_one-requires : goal.carry_one-requires
carry_one-requires g c =
    let i = c.clients.invariant in
    let low = i.low in
    let place = i.place in
    let some = c.clients-test.true in
    record { area = c.requires.area; client = some; first = omega (arith, low); few = c.requires.few c.clients.client some; end = omega (arith, place, some); closed = i.closed }

pub carry_buffer-requires : goal.carry_buffer-requires
carry_buffer-requires g c =
    let i = c.clients.invariant in
    let low = i.low in
    let place = i.place in
    let within = i.within in
    record { area = c.requires.area.1; gate = omega (arith, low); end = omega (arith, place, within); closed = i.closed }

pub clients-preserved : goal.clients-preserved
clients-preserved g c =
    let i = c.clients.invariant in
    let low = i.low in
    let place = i.place in
    let some = c.clients-test.true in
    let up = c.in_ok-next.ensures.place.0 in
    let grown = c.in_ok-next.ensures.place.1 in
    let items = c.args.transactions.now.clients.items in
    let reads = slot_of (g.D.Disk.seen c.args.disk.now 0) in
    record {
      same_area = refl;
      same_transactions = refl;
      within = omega (arith, some);
      low = omega (arith, low, up);
      place = omega (arith, place, grown);
      near = (let near = i.near in let moved = c.in_ok-next.ensures.near in omega (arith, near, moved));
      longer = run_twice _ _ _ _ _ _ 167772160 i.longer (c.carry_one.ensures.within 167772160 (let near = i.near in omega (arith, near, some)));
      same_observable = c.carry_one.ensures.same_observable ∙ i.same_observable;
      time = then_after _ _ _ _ _ _ c.args.area i.time c.carry_one.ensures.time;
      failures = c.in_ok-next.ensures.cause.stays refl ∙ i.failures;
      closed = closed_run _ _ _ _ c.args.area c.carry_one.ensures.time i.closed;
      carries = λ known generation prepared.
          let known1 : IsTrue (g.D.Disk.observable c.clients.disk) = subst (λ (b : Bool). IsTrue b) (sym i.same_observable) known in
          let other : 0 ≢ c.args.area = (λ is. let some_area = c.requires.area.0 in omega (arith, is, some_area)) in
          let next : c.clients.client + 1 ≡ suc c.clients.client = omega arith in
          subst (λ (n : ℕ). Carries (g.D.Disk.left c.carry_one.new.disk (g.D.Disk.time c.carry_one.new.disk)) c.args.area c.in_ok-next.next c.carry_one.new.buffer generation (notes_below (number_in items) reads (list_in items) n)) (sym next)
          (subst (λ (l : List ℕ). Carries (g.D.Disk.left c.carry_one.new.disk (g.D.Disk.time c.carry_one.new.disk)) c.args.area c.in_ok-next.next c.carry_one.new.buffer generation (notes_below (number_in items) reads (list_in items) c.clients.client ++ notes_of (number_in items c.clients.client) (slot_of l) (list_in items c.clients.client))) (i.seen known 0 other)
          (c.in_ok-next.ensures.ok known1 generation _ (i.carries known generation prepared)));
      seen = λ known k other.
          let known1 : IsTrue (g.D.Disk.observable c.clients.disk) = subst (λ (b : Bool). IsTrue b) (sym i.same_observable) known in
          c.carry_one.ensures.seen known1 k other ∙ i.seen known k other;
    }

pub returns-in_err-next-clause-time : goal.returns-in_err-next-clause-time
returns-in_err-next-clause-time g c = then_after _ _ _ _ _ _ c.args.area c.clients.invariant.time c.carry_one.ensures.time

pub returns-clause-time : goal.returns-clause-time
returns-clause-time g c = then_after _ _ _ _ _ _ c.args.area c.clients.invariant.time c.carry_buffer.ensures.time

pub returns-clause-seen : goal.returns-clause-seen
returns-clause-seen g c = λ known k other.
    let known1 : IsTrue (g.D.Disk.observable c.clients.disk) = subst (λ (b : Bool). IsTrue b) (sym c.clients.invariant.same_observable) known in
    c.carry_buffer.ensures.seen known1 k other ∙ c.clients.invariant.seen known k other

pub returns-clause-ok : goal.returns-clause-ok
returns-clause-ok g c =
    let i = c.clients.invariant in
    let within = i.within in
    let ended = c.clients-test.false in
    let items = c.args.transactions.now.clients.items in
    let all : c.clients.client ≡ 16 = omega (arith, within, ended) in
    ok_both c.carry_buffer.result _ _ _ c.carry_buffer.ensures.ok c.carry_buffer.ensures.empty (λ gate steps empty known generation prepared.
    carries_end _ c.args.area gate c.carry_buffer.new.buffer generation _ empty
    (subst (λ (n : ℕ). Carries (g.D.Disk.left c.carry_buffer.new.disk (g.D.Disk.time c.carry_buffer.new.disk)) c.args.area gate c.carry_buffer.new.buffer generation (notes_below (number_in items) (slot_of (g.D.Disk.seen c.args.disk.now 0)) (list_in items) n)) all
    (steps generation _ (i.carries known generation prepared))))

pub returns-in_err-next-clause-within : goal.returns-in_err-next-clause-within
returns-in_err-next-clause-within g c = run_twice _ _ _ _ _ _ 167772160 c.clients.invariant.longer (c.carry_one.ensures.within 167772160 (let near = c.clients.invariant.near in let some = c.clients-test.true in omega (arith, near, some)))

pub returns-clause-within : goal.returns-clause-within
returns-clause-within g c = run_twice _ _ _ _ _ _ 167772160 c.clients.invariant.longer (run_more _ _ _ _ 167772160 _ (let near = c.clients.invariant.near in let within = c.clients.invariant.within in omega (arith, near, within)) c.carry_buffer.ensures.within)
