use Rattle.std.specs.Prelude.{IfOk}
use Rattle.std.proofs.Common.{◌∙◌, ℕ, Option, Result, Ok, Err, sym, ap, arith}
use Rattle.log_meaning.proofs.StepsLemmas.Runs.{started}
use Rattle.log_meaning.specs.Images.{slot_of}
use Rattle.bi_log.specs.Generations.{AfterGate}
use Rattle.bi_log.proofs.Lengths.{run_none}
use Rattle.open_transactions.specs.Clients.{list_in}
use Rattle.checkpoint.specs.next.Carrying.{notes_of}
use Rattle.checkpoint.proofs.CarriedLemmas.CarriedMore.{carries_same}
use Rattle.checkpoint.proofs.carried.carrying.carry_one.Goals as goal

pub returns-in-None-clause-time : goal.returns-in-None-clause-time
returns-in-None-clause-time g c = started _ _ (AfterGate c.args.area) (λ m image left. (g.met.D.Disk.image_known c.args.disk.now m image left).past)

pub returns-in-None-clause-ok : goal.returns-in-None-clause-ok
returns-in-None-clause-ok g c = λ known generation notes k.
    let list = list_in c.args.transactions.now.clients.items c.args.client in
    let reads = slot_of (g.D.Disk.seen c.args.disk.now 0) in
    carries_same _ c.args.area c.args.first c.args.buffer.now generation notes _ (ap (λ (o : Option ℕ). notes_of o reads list) (sym c.number.ensures ∙ c.in-None.is)) k

pub returns-in-None-clause-within : goal.returns-in-None-clause-within
returns-in-None-clause-within g c = λ most few. run_none _ _ most (λ m image left. (g.met.D.Disk.image_known c.args.disk.now m image left).past)

ok_map : {T E : Type 0} (r : Result T E) (P Q : T → Type 0) → IfOk r P → ((x : T) → P x → Q x) → IfOk r Q
ok_map (Ok x) P Q p f = f x p
ok_map (Err e) P Q p f = tt

pub returns-in-Some-clause-near : goal.returns-in-Some-clause-near
returns-in-Some-clause-near g c = ok_map c.carry_client.result _ _ c.carry_client.ensures.near (λ next near. let few = c.requires.few in omega (arith, near, few))

pub returns-in-Some-clause-within : goal.returns-in-Some-clause-within
returns-in-Some-clause-within g c = λ most few. c.carry_client.ensures.within most (let short = c.requires.few in omega (arith, short, few))
