use Rattle.std.proofs.Common.{◌≡◌, ℕ, List, inl, Some, None, IfSome, refl, sym, ap, subst, ◌∙◌}
use Rattle.std.specs.Option.{is_some}
use Rattle.std.proofs.lemmas.Bool.{both_ways}
use Rattle.key_index.specs.declared.touched.Keyed.{Keyed}
use Rattle.key_index.specs.Nodes.{IsTouched}
use Rattle.key_index.specs.Touched.{IsKeyListed, ListsKey, keyed_at}
use Rattle.key_index.proofs.TouchedKeys.{ends_at, none_keyed, some_keyed, updated, written}
use Rattle.key_index.proofs.touched.end_key.Goals as goal

no_spare : {X : Type 0} (x : X) → Some x ≡ None → ⊥
no_spare x h = cc

pub returns-in_default-clause-listed : goal.returns-in_default-clause-listed
returns-in_default-clause-listed c keyed is =
    absurd (none_keyed keyed (c.in_default.ensures.value ∙ ap (λ (k : List ℕ). keyed_at c.args.nodes.now k) c.as_slice.ensures.value
    ∙ sym (ap (λ m. keyed_at m c.args.key.items) c.get_mut.follows.holds-at-none) ∙ is))

pub returns-then-not-end-clause-others : goal.returns-then-not-end-clause-others
returns-then-not-end-clause-others c other differ =
    let w : Keyed = record { node = c.end.new.self; spare = c.in-Some.keyed.now.spare } in
    let after = c.get_mut.follows.lender w in
    (updated after c.remove.new.self c.as_slice-then-not-end.result.now c.args.key.items None c.as_slice-then-not-end.ensures.value c.remove.ensures.updates).1 other differ
    ∙ (written c.args.nodes.now after c.as_slice.result.now c.args.key.items c.in-Some.keyed.now w c.as_slice.ensures.value (c.get_mut.follows.holds w) c.in-Some.ensures.value).1 other differ

pub returns-then-not-end-clause-listed : goal.returns-then-not-end-clause-listed
returns-then-not-end-clause-listed c keyed is =
    let w : Keyed = record { node = c.end.new.self; spare = c.in-Some.keyed.now.spare } in
    let after = c.get_mut.follows.lender w in
    absurd (none_keyed keyed (sym (updated after c.remove.new.self c.as_slice-then-not-end.result.now c.args.key.items None c.as_slice-then-not-end.ensures.value c.remove.ensures.updates).0 ∙ is))

pub returns-then-is_touched-clause-others : goal.returns-then-is_touched-clause-others
returns-then-is_touched-clause-others c other differ =
    let w : Keyed = record { node = c.end.new.self; spare = c.in-Some.keyed.now.spare } in
    (written c.args.nodes.now (c.get_mut.follows.lender w) c.as_slice.result.now c.args.key.items c.in-Some.keyed.now w c.as_slice.ensures.value (c.get_mut.follows.holds w) c.in-Some.ensures.value).1 other differ

pub returns-then-is_touched-clause-ended : goal.returns-then-is_touched-clause-ended
returns-then-is_touched-clause-ended c =
    let w : Keyed = record { node = c.end.new.self; spare = c.in-Some.keyed.now.spare } in
    let after = c.get_mut.follows.lender w in
    ends_at c.args.client c.args.nodes.now after c.as_slice.result.now c.args.key.items c.in-Some.keyed.now w c.as_slice.ensures.value c.in-Some.ensures.value
    (written c.args.nodes.now after c.as_slice.result.now c.args.key.items c.in-Some.keyed.now w c.as_slice.ensures.value (c.get_mut.follows.holds w) c.in-Some.ensures.value).0 c.end.ensures.ended

pub returns-then-is_touched-clause-spare : goal.returns-then-is_touched-clause-spare
returns-then-is_touched-clause-spare c keyed is untouched =
    let w : Keyed = record { node = c.end.new.self; spare = c.in-Some.keyed.now.spare } in
    let puts = written c.args.nodes.now (c.get_mut.follows.lender w) c.as_slice.result.now c.args.key.items c.in-Some.keyed.now w c.as_slice.ensures.value (c.get_mut.follows.holds w) c.in-Some.ensures.value in
    absurd (untouched (subst (λ (k : Keyed). IsTouched k.node) (some_keyed w keyed (sym puts.0 ∙ is)) (c.is_touched.ensures.0 c.if-is_touched.true)))

pub returns-then-is_touched-clause-listed : goal.returns-then-is_touched-clause-listed
returns-then-is_touched-clause-listed c keyed is =
    let w : Keyed = record { node = c.end.new.self; spare = c.in-Some.keyed.now.spare } in
    let puts = written c.args.nodes.now (c.get_mut.follows.lender w) c.as_slice.result.now c.args.key.items c.in-Some.keyed.now w c.as_slice.ensures.value (c.get_mut.follows.holds w) c.in-Some.ensures.value in
    let there : ListsKey c.add.new.self c.args.key.items = subst (λ vs. ListsKey vs c.args.key.items) (sym c.add.ensures) (inl refl) in
    let own : IfSome w.spare (λ spare. spare.key.items ≡ c.args.key.items) =
    c.requires c.in-Some.keyed.now (ap (λ (k : List ℕ). keyed_at c.args.nodes.now k) (sym c.as_slice.ensures.value) ∙ sym c.in-Some.ensures.value) in
    subst (IsKeyListed c.add.new.self c.args.key.items) (some_keyed w keyed (sym puts.0 ∙ is))
    (record { listed = λ is_touched. there; used = λ none. there; own = own })

pub returns-clause-others : goal.returns-clause-others
returns-clause-others c other differ =
    let w : Keyed = record { node = c.end.new.self; spare = Some (record { key = c.args.key; room = c.args.room }) } in
    (written c.args.nodes.now (c.get_mut.follows.lender w) c.as_slice.result.now c.args.key.items c.in-Some.keyed.now w c.as_slice.ensures.value (c.get_mut.follows.holds w) c.in-Some.ensures.value).1 other differ

pub returns-clause-listed : goal.returns-clause-listed
returns-clause-listed c keyed is =
    let w : Keyed = record { node = c.end.new.self; spare = Some (record { key = c.args.key; room = c.args.room }) } in
    let puts = written c.args.nodes.now (c.get_mut.follows.lender w) c.as_slice.result.now c.args.key.items c.in-Some.keyed.now w c.as_slice.ensures.value (c.get_mut.follows.holds w) c.in-Some.ensures.value in
    subst (IsKeyListed c.args.touched.now c.args.key.items) (some_keyed w keyed (sym puts.0 ∙ is)) (record {
      listed = λ is_touched. absurd (both_ways c.is_touched.result c.if-is_touched.false (c.is_touched.ensures.1 is_touched));
      used = λ none. absurd (no_spare (record { key = c.args.key; room = c.args.room }) none);
      own = refl;
    })

pub returns-clause-spare : goal.returns-clause-spare
returns-clause-spare c keyed is untouched =
    let w : Keyed = record { node = c.end.new.self; spare = Some (record { key = c.args.key; room = c.args.room }) } in
    let puts = written c.args.nodes.now (c.get_mut.follows.lender w) c.as_slice.result.now c.args.key.items c.in-Some.keyed.now w c.as_slice.ensures.value (c.get_mut.follows.holds w) c.in-Some.ensures.value in
    ap (λ (k : Keyed). is_some k.spare) (sym (some_keyed w keyed (sym puts.0 ∙ is)))
