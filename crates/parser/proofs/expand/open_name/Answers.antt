use Rattle.std.proofs.Common.{sym, ◌∙◌, ap, arith}
use Rattle.parse_tree.specs.declared.token.TokenKind.TheVariants.{Colon}
use Rattle.parser.specs.Same.{same_kind}
use Rattle.std.proofs.lemmas.Bool.{both_ways}
use Rattle.parser.proofs.Flags.{kinds_same, kind_itself}
use Rattle.parser.proofs.Steps.{ends_row}
use Rattle.parser.proofs.Completes.{suits_row}
use Rattle.parser.proofs.NameRows.{rows_there, nonterminals_are, form_only, target_only}
use Rattle.parser.proofs.NameSteps.{label_step, assign_step, second_at, third_at}
use Rattle.parser.proofs.expand.open_name.Goals as goal

pub inside-within-requires : goal.inside-within-requires
inside-within-requires c = let h = rows_there in omega arith

pub inside-target-requires : goal.inside-target-requires
inside-target-requires c = let h = rows_there in omega arith

pub open_row-requires-clause-row : goal.open_row-requires-clause-row
open_row-requires-clause-row c = let h = rows_there in omega arith

pub open_row-requires-2-clause-row : goal.open_row-requires-2-clause-row
open_row-requires-2-clause-row c = let h = rows_there in omega arith

pub open_row-requires-3-clause-row : goal.open_row-requires-3-clause-row
open_row-requires-3-clause-row c = let h = rows_there in omega arith

pub open_row-requires-4-clause-row : goal.open_row-requires-4-clause-row
open_row-requires-4-clause-row c = let h = rows_there in omega arith

pub open_row-requires-3-clause-top : goal.open_row-requires-3-clause-top
open_row-requires-3-clause-top c =
    let s1 = c.in_ok-open_row-2.ensures.stack _ c.requires.1 in
    let t2 = second_at c.args.room c.inside-within.result c.open_row-2.new.stack c.requires.0 c.inside-within.ensures s1 in
    (c.requires.0, t2)

pub open_row-requires-4-clause-top : goal.open_row-requires-4-clause-top
open_row-requires-4-clause-top c =
    let s1 = c.in_ok-open_row-2.ensures.stack _ c.requires.1 in
    let t2 = second_at c.args.room c.inside-within.result c.open_row-2.new.stack c.requires.0 c.inside-within.ensures s1 in
    let s2 = c.in_ok-open_row-3.ensures.stack _ t2 in
    let t3 = third_at c.inside-within.result c.inside-target.result c.open_row-3.new.stack c.requires.0 c.inside-target.ensures s2 in
    (_, t3)

pub returns-then-same_kind-clause-named : goal.returns-then-same_kind-clause-named
returns-then-same_kind-clause-named c = λ rest e.
    label_step c.args.at c.args.room rest c.open_row.new.stack c.args.used.now.items c.open_row.new.used.items c.args.next (c.in_ok-open_row.ensures.stack _ e) c.in_ok-open_row.ensures.used (kinds_same _ _ (sym c.same_kind.ensures ∙ c.if-same_kind.true))

pub returns-then-same_kind-clause-ends : goal.returns-then-same_kind-clause-ends
returns-then-same_kind-clause-ends c = ends_row c.args.room _ _ c.args.stack.now c.requires.0 c.open_row.new.stack (let h = rows_there in omega arith) c.requires.1 (c.in_ok-open_row.ensures.stack _ c.requires.1)

pub returns-then-same_kind-clause-suits : goal.returns-then-same_kind-clause-suits
returns-then-same_kind-clause-suits c = suits_row c.args.room _ _ c.args.stack.now c.requires.0 c.open_row.new.stack (let h = rows_there in omega arith) nonterminals_are.0 c.requires.1 (c.in_ok-open_row.ensures.stack _ c.requires.1)

pub returns-clause-named : goal.returns-clause-named
returns-clause-named c = λ rest e.
    let s1 = c.in_ok-open_row-2.ensures.stack _ e in
    let t2 = second_at c.args.room c.inside-within.result c.open_row-2.new.stack rest c.inside-within.ensures s1 in
    let s2 = c.in_ok-open_row-3.ensures.stack _ t2 in
    let t3 = third_at c.inside-within.result c.inside-target.result c.open_row-3.new.stack rest c.inside-target.ensures s2 in
    let s3 = c.in_ok-open_row-4.ensures.stack _ t3 in
    assign_step c.args.at c.args.room c.inside-within.result c.inside-target.result rest c.open_row-4.new.stack c.args.used.now.items c.open_row-2.new.used.items c.open_row-3.new.used.items c.open_row-4.new.used.items c.args.next
    c.inside-within.ensures c.inside-target.ensures s3 c.in_ok-open_row-2.ensures.used c.in_ok-open_row-3.ensures.used c.in_ok-open_row-4.ensures.used
    (λ f. both_ways _ (sym c.same_kind.ensures ∙ c.if-same_kind.false) (ap (λ x. same_kind x Colon) f ∙ kind_itself Colon))

pub returns-clause-ends : goal.returns-clause-ends
returns-clause-ends c = λ p.
    let s1 = c.in_ok-open_row-2.ensures.stack _ c.requires.1 in
    let t2 = second_at c.args.room c.inside-within.result c.open_row-2.new.stack c.requires.0 c.inside-within.ensures s1 in
    let s2 = c.in_ok-open_row-3.ensures.stack _ t2 in
    let t3 = third_at c.inside-within.result c.inside-target.result c.open_row-3.new.stack c.requires.0 c.inside-target.ensures s2 in
    let s3 = c.in_ok-open_row-4.ensures.stack _ t3 in
    ends_row c.inside-target.result _ _ c.open_row-3.new.stack _ c.open_row-4.new.stack (let h = rows_there in omega arith) t3 s3 (
    ends_row c.inside-within.result _ _ c.open_row-2.new.stack c.requires.0 c.open_row-3.new.stack (let h = rows_there in omega arith) t2 s2 (
    ends_row c.args.room _ _ c.args.stack.now c.requires.0 c.open_row-2.new.stack (let h = rows_there in omega arith) c.requires.1 s1 p))

pub returns-clause-suits : goal.returns-clause-suits
returns-clause-suits c = λ p.
    let s1 = c.in_ok-open_row-2.ensures.stack _ c.requires.1 in
    let t2 = second_at c.args.room c.inside-within.result c.open_row-2.new.stack c.requires.0 c.inside-within.ensures s1 in
    let s2 = c.in_ok-open_row-3.ensures.stack _ t2 in
    let t3 = third_at c.inside-within.result c.inside-target.result c.open_row-3.new.stack c.requires.0 c.inside-target.ensures s2 in
    let s3 = c.in_ok-open_row-4.ensures.stack _ t3 in
    suits_row c.inside-target.result _ _ c.open_row-3.new.stack _ c.open_row-4.new.stack (let h = rows_there in omega arith) target_only.nonterminal t3 s3 (
    suits_row c.inside-within.result _ _ c.open_row-2.new.stack c.requires.0 c.open_row-3.new.stack (let h = rows_there in omega arith) form_only.nonterminal t2 s2 (
    suits_row c.args.room _ _ c.args.stack.now c.requires.0 c.open_row-2.new.stack (let h = rows_there in omega arith) nonterminals_are.1 c.requires.1 s1 p))
