use Rattle.std.proofs.Common.{◌≡◌, ◌-◌, ap, arith, length, nat_le, refl, sym, true}
use Rattle.std.proofs.lemmas.Bool.{le-leb}
use Rattle.preprocessor.specs.Texts.{bytes_at}
use Rattle.preprocessor.proofs.Machines.{file_enters, file_state}
use Rattle.preprocessor.proofs.references.included.Goals as goal

pub returns-clause-is : goal.returns-clause-is
returns-clause-is c =
    let a = c.args in
    let texts = c.args.texts.now in
    let bytes = c.bytes_at-bytes.result.now in
    let all = bytes_at texts c.in-Some.text in
    let there = ap length c.bytes_at-bytes.ensures in
    let fit : nat_le (length all) a.state.budget ≡ true = le-leb (length all) a.state.budget (omega (arith, there, c.if-bytes-state.false)) in
    file_enters texts a.here a.stack.items c.push.new.self.items a.layer a.state (record { locals = c.in_ok-joined.field-0; globals = a.state.globals; branches = c.empty.result; budget = a.state.budget - length bytes }) a.file c.as_slice.result.now bytes c.in-Some.text c.len-n.result a.state.branches c.start-2.result c.plain.result c.empty-2.result (omega (arith, c.if-here-eq0.false)) c.as_slice.ensures (sym c.in-Some.ensures) fit c.len-n.ensures refl (file_state a.state a.file c.in_ok-joined.field-0 c.empty.result bytes all c.in_ok-joined.ensures c.empty.ensures c.bytes_at-bytes.ensures) c.start-2.ensures c.plain.ensures c.empty-2.ensures c.bytes_at-bytes.ensures c.in_ok-push.ensures.items
