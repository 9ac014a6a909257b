use Rattle.std.proofs.Common.{◌≡◌, ◌<◌, List, length, slice_index_or, subst}
use Rattle.bind_names.specs.declared.by_table.TableGroup.{TableGroup}
use Rattle.bind_names.specs.ByTable.{no_group}
use Rattle.bind_names.proofs.ByTables.{new_keeps, put_keeps}
use Rattle.bind_names.proofs.by_table.put_somewhere.Goals as goal

pub returns-in_ok-put-in-Some : goal.returns-in_ok-put-in-Some
returns-in_ok-put-in-Some c = λ all left h.
    put_keeps all left c.args.groups.now.items c.put.new.groups.items c.in-Some.number c.args.buffer c.in_ok-put-in-Some.ensures
    (subst (λ (l : List TableGroup). c.in-Some.number < length l) c.as_slice.ensures.value c.in-Some.ensures.within)
    (subst (λ (l : List TableGroup). (slice_index_or l c.in-Some.number no_group).table ≡ c.args.buffer.table) c.as_slice.ensures.value c.in-Some.ensures.table)
    h

pub returns-in_ok-put_new-in-None : goal.returns-in_ok-put_new-in-None
returns-in_ok-put_new-in-None c = λ all left h. new_keeps all left c.args.groups.now.items c.put_new.new.groups.items c.args.buffer c.in_ok-put_new-in-None.ensures h
