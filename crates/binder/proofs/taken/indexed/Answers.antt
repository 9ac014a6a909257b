use Rattle.std.proofs.Common.{List, ℕ, Err, sym, ap, subst, map, ◌<◌, length}
use Rattle.std.specs.Prelude.{IsSome}
use Rattle.abl_values.specs.Schema.{number_of_name}
use Rattle.binder.specs.declared.taken.ProcedureName.{ProcedureName}
use Rattle.binder.specs.Taken.{Finds}
use Rattle.binder.proofs.Finding.{finds_added, finds_long, finds_taken}
use Rattle.binder.proofs.taken.indexed.Goals as goal

pub returns-in-Ok : goal.returns-in-Ok
returns-in-Ok c = λ names h. finds_added c.args.found c.push.new.self names _ c.args.name.now c.in-Ok.ensures.ok c.in_ok-copy.ensures h

pub returns-in-Err-Taken : goal.returns-in-Err-Taken
returns-in-Err-Taken c = λ names h.
    let a = c.in-Err-Taken.ensures in
    let there = a.taken.0 (ap Err c.in-Err-Taken.field-0-is) in
    finds_taken c.push.new.self names c.args.name.now
    (subst (λ n. IsSome (number_of_name 0 (map (λ (y : ProcedureName). y.spelling) c.push.new.self) n)) c.in_ok-copy.ensures (subst (λ (l : List ProcedureName). IsSome (number_of_name 0 (map (λ y. y.spelling) l) c.in_ok-copy.field-0)) (sym a.err) there.1))
    (subst (λ l. Finds l names) (sym a.err) h)

pub returns-in-Err-TooLong : goal.returns-in-Err-TooLong
returns-in-Err-TooLong c = λ names h.
    let a = c.in-Err-TooLong.ensures in
    let long = a.too_long.0 (ap Err c.in-Err-TooLong.field-0-is) in
    finds_long c.push.new.self names c.args.name.now (subst (λ (n : List ℕ). 32 < length n) c.in_ok-copy.ensures long) (subst (λ l. Finds l names) (sym a.err) h)
