use Rattle.std.proofs.Common.{ℕ, List, true, sym, ap, subst, ◌∙◌}
use Rattle.std.specs.Option.{option_copied}
use Rattle.key_index.specs.Search.{IsKeyBeyond, IsNextAmong}
use Rattle.key_index.specs.Seeking.{ArePassed, IsFirst}
use Rattle.key_index.proofs.Ranged.{none_beyond, first_beyond}
use Rattle.key_index.specs.Touched.{nodes_of}
use Rattle.key_index.proofs.NodesOf.{between_nodes, sorted_nodes}
use Rattle.key_index.proofs.Spans.{span_of}
use Rattle.key_index.proofs.index.Index.after_cursor.Goals as goal

pub returns-in_default-first_entry : goal.returns-in_default-first_entry
returns-in_default-first_entry c =
    let cursor = option_copied c.args.cursor in
    let span = span_of cursor c.as_slice.result.now c.args.prefix.now true c.in_ok-ends.field-0 c.in-Some.ends c.in-Some.is c.as_slice.ensures c.in_ok-ends.ensures in
    none_beyond (nodes_of c.self.inside.nodes.entries) c.args.self.now c.self.view_is c.in-Some.ends.0 c.in-Some.ends.1 cursor c.args.prefix.now true span (nodes_of c.range.result) (ap nodes_of (c.range.ensures.between tt) ∙ between_nodes c.in-Some.ends.0 c.in-Some.ends.1 c.self.inside.nodes.entries)
    (subst (λ (p : List ℕ). ArePassed p (nodes_of c.range.result)) c.as_slice-2.ensures c.in_default-first_entry.ensures)

pub returns : goal.returns
returns c =
    let cursor = option_copied c.args.cursor in
    let row = c.in-Some-first_entry.row in
    let span = span_of cursor c.as_slice.result.now c.args.prefix.now true c.in_ok-ends.field-0 c.in-Some.ends c.in-Some.is c.as_slice.ensures c.in_ok-ends.ensures in
    let found : IsFirst c.args.prefix.now (nodes_of c.range.result) c.in-Some-first_entry.key.now row =
    subst (λ (p : List ℕ). IsFirst p (nodes_of c.range.result) c.in-Some-first_entry.key.now row) c.as_slice-2.ensures c.in-Some-first_entry.ensures in
    subst (λ (k : List ℕ). IsNextAmong (IsKeyBeyond cursor true) c.args.self.now cursor c.args.prefix.now true k row) (sym (c.in_ok-of.ensures ∙ c.as_slice-3.ensures.value))
    (first_beyond (nodes_of c.self.inside.nodes.entries) c.args.self.now c.self.view_is (sorted_nodes c.self.inside.nodes.entries c.range.ensures.ordered) c.in-Some.ends.0 c.in-Some.ends.1 cursor c.args.prefix.now span (nodes_of c.range.result) (ap nodes_of (c.range.ensures.between tt) ∙ between_nodes c.in-Some.ends.0 c.in-Some.ends.1 c.self.inside.nodes.entries)
    c.in-Some-first_entry.key.now row found)
