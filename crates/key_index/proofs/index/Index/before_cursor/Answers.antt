use Rattle.std.proofs.Common.{ℕ, List, false, sym, ap, subst, ◌∙◌}
use Rattle.std.specs.Option.{option_copied}
use Rattle.key_index.specs.Search.{IsKeyBeyond, IsNextAmong}
use Rattle.key_index.specs.Seeking.{ArePassed, IsLast}
use Rattle.key_index.proofs.Ranged.{none_beyond, last_beyond}
use Rattle.key_index.specs.Touched.{nodes_of}
use Rattle.key_index.proofs.NodesOf.{between_nodes, sorted_nodes}
use Rattle.key_index.proofs.Spans.{span_of}
use Rattle.key_index.proofs.index.Index.before_cursor.Goals as goal

pub returns-in_default-last_entry : goal.returns-in_default-last_entry
returns-in_default-last_entry c =
    let cursor = option_copied c.args.cursor in
    let span = span_of cursor c.as_slice.result.now c.args.prefix.now false c.in_ok-ends.field-0 c.in-Some.ends c.in-Some.is c.as_slice.ensures c.in_ok-ends.ensures in
    none_beyond (nodes_of c.self.inside.nodes.entries) c.args.self.now c.self.view_is c.in-Some.ends.0 c.in-Some.ends.1 cursor c.args.prefix.now false span (nodes_of c.range.result) (ap nodes_of (c.range.ensures.between tt) ∙ between_nodes c.in-Some.ends.0 c.in-Some.ends.1 c.self.inside.nodes.entries)
    (subst (λ (p : List ℕ). ArePassed p (nodes_of c.range.result)) c.as_slice-2.ensures c.in_default-last_entry.ensures)

pub returns : goal.returns
returns c =
    let cursor = option_copied c.args.cursor in
    let row = c.in-Some-last_entry.row in
    let span = span_of cursor c.as_slice.result.now c.args.prefix.now false c.in_ok-ends.field-0 c.in-Some.ends c.in-Some.is c.as_slice.ensures c.in_ok-ends.ensures in
    let found : IsLast c.args.prefix.now (nodes_of c.range.result) c.in-Some-last_entry.key.now row =
    subst (λ (p : List ℕ). IsLast p (nodes_of c.range.result) c.in-Some-last_entry.key.now row) c.as_slice-2.ensures c.in-Some-last_entry.ensures in
    subst (λ (k : List ℕ). IsNextAmong (IsKeyBeyond cursor false) c.args.self.now cursor c.args.prefix.now false k row) (sym (c.in_ok-of.ensures ∙ c.as_slice-3.ensures.value))
    (last_beyond (nodes_of c.self.inside.nodes.entries) c.args.self.now c.self.view_is (sorted_nodes c.self.inside.nodes.entries c.range.ensures.ordered) c.in-Some.ends.0 c.in-Some.ends.1 cursor c.args.prefix.now span (nodes_of c.range.result) (ap nodes_of (c.range.ensures.between tt) ∙ between_nodes c.in-Some.ends.0 c.in-Some.ends.1 c.self.inside.nodes.entries)
    c.in-Some-last_entry.key.now row found)
