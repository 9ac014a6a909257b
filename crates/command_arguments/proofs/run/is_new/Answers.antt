-- An argument is that of the client at its place.
use Rattle.std.proofs.Common.{◌≡◌, ◌≢◌, ◌<◌, ◌∙◌, ap, sym, subst, arith, length, take, get_or, add-one}
use Rattle.std.proofs.lemmas.List.{take_all}
use Rattle.std.specs.Prelude.{All}
use Rattle.std.specs.Cmp.Lexicographic.{same_text, bytes_decides}
use Rattle.command_arguments.specs.CommandLine.{ClientFiles, client_in}
use Rattle.command_arguments.proofs.Clients.{placed, same_client, same_lengths, all_more}
use Rattle.command_arguments.proofs.run.is_new.Goals as goal
use Rattle.command_arguments.proofs.run.is_new.Goals.{in-Some+else-eq, in_default}

pub returns-then-eq-clause-no : goal.returns-then-eq-clause-no
returns-then-eq-clause-no c is cs e good all =
    let p = placed c.args.clients.now cs c.loop-arg.arg-index c.arg-item.result e good c.loop-arg-test.true c.arg-item.is in
    let same = same_client p.client (client_in c.in-Some.other) p.good c.in-Some.ensures.some.0 (sym p.argument_is ∙ sym c.as_slice.ensures ∙ c.in-Some.ensures.some.1) in
    all c.loop-arg.arg-index p.client p.below (ap (λ (x : ClientFiles). x.name) (p.at p.client ∙ same) ∙ same_text c.in-Some.other.name.now c.args.name.now c.if-eq.ensures)

pub loop-arg-preserved : goal.loop-arg-preserved
loop-arg-preserved c cs e good =
    subst (λ n. All (λ (x : ClientFiles). x.name ≢ c.args.name.now) (take n cs)) (sym (add-one c.loop-arg.arg-index))
    (all_more (λ (x : ClientFiles). x.name ≢ c.args.name.now) cs c.loop-arg.arg-index (c.loop-arg.invariant cs e good) here)
  where
    here : (d : ClientFiles) → c.loop-arg.arg-index < length cs → (get_or cs c.loop-arg.arg-index d).name ≢ c.args.name.now
    here d below is =
        let p = placed c.args.clients.now cs c.loop-arg.arg-index c.arg-item.result e good c.loop-arg-test.true c.arg-item.is in
        elim c.match-client_of.branch [
          | in-Some+else-eq w ↦
              let same = same_client p.client (client_in w.in-Some.other) p.good w.in-Some.ensures.some.0 (sym p.argument_is ∙ sym c.as_slice.ensures ∙ w.in-Some.ensures.some.1) in
              let equal : w.in-Some.other.name.now ≡ c.args.name.now = sym (ap (λ (x : ClientFiles). x.name) (p.at d ∙ same)) ∙ is in
              let both = w.if-eq.ensures ∙ (bytes_decides w.in-Some.other.name.now c.args.name.now).1 equal in
              cc both
          | in_default w ↦ w.in_default.ensures.none p.client p.good (c.as_slice.ensures ∙ p.argument_is)
        ]

pub returns-clause-yes : goal.returns-clause-yes
returns-clause-yes c is cs e good =
    let lengths = same_lengths c.args.clients.now cs e in
    subst (All (λ (x : ClientFiles). x.name ≢ c.args.name.now)) (take_all c.loop-arg.arg-index cs (omega (arith, lengths, c.loop-arg-test.false))) (c.loop-arg.invariant cs e good)
