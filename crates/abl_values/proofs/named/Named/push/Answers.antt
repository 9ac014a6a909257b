use Rattle.std.proofs.Common.{◌≡◌, false, true≢false, Option, None, Some, is_some, refl, sym, ap, ◌∙◌, ◌++◌, ◌∷◌, []}
use Rattle.abl_values.specs.Names.{key_of}
use Rattle.abl_values.proofs.FoundNames.{found_number, values_after, keys_stay, short_where_key}
use Rattle.abl_values.proofs.named.Named.push.Goals as goal

none_where : {X : Type 0} {o : Option X} → false ≡ is_some o → o ≡ None
none_where {o = None} h = refl
none_where {o = Some x} h = absurd (true≢false (sym h))

pub returns-then-is_some-clause-taken : goal.returns-then-is_some-clause-taken
returns-then-is_some-clause-taken g c =
    let name = g.T.HasName.name_of c.args.item in
    let number = found_number g.T.HasName.name_of name c.self.invariant c.self.view_is (c.in-Some.ensures.key ∙ ap key_of c.name.ensures) c.get_index_of.ensures.index in
    (λ e. (short_where_key c.name.ensures c.in-Some.ensures.long.1, sym (ap is_some number) ∙ sym c.if-is_some.ensures), λ h. refl)

pub invariant_of-self : goal.invariant_of-self
invariant_of-self g c =
    keys_stay g.T.HasName.name_of c.self.inside.items c.insert.new.self c.in-Some.key c.args.item
    (none_where (c.if-is_some.ensures ∙ c.get_index_of.ensures.found)) c.in-Ok.ensures.entries
    c.self.invariant (c.in-Some.ensures.key ∙ ap key_of c.name.ensures) (short_where_key c.name.ensures c.in-Some.ensures.long.1)

pub returns-in-Ok-clause-ok : goal.returns-in-Ok-clause-ok
returns-in-Ok-clause-ok g c =
    values_after g.T.HasName.name_of c.self.inside.items c.insert.new.self c.in-Some.key c.args.item
    (none_where (c.if-is_some.ensures ∙ c.get_index_of.ensures.found)) c.in-Ok.ensures.entries
    ∙ ap (λ xs. xs ++ c.args.item ∷ []) c.self.view_is

pub returns-in-Ok-clause-taken : goal.returns-in-Ok-clause-taken
returns-in-Ok-clause-taken g c =
    let name = g.T.HasName.name_of c.args.item in
    let number = found_number g.T.HasName.name_of name c.self.invariant c.self.view_is (c.in-Some.ensures.key ∙ ap key_of c.name.ensures) c.get_index_of.ensures.index in
    (λ e. cc, λ h. absurd (true≢false (sym h.1 ∙ sym (ap is_some number) ∙ sym c.if-is_some.ensures)))

pub returns-clause-taken : goal.returns-clause-taken
returns-clause-taken g c =
    let name = g.T.HasName.name_of c.args.item in
    let number = found_number g.T.HasName.name_of name c.self.invariant c.self.view_is (c.in-Some.ensures.key ∙ ap key_of c.name.ensures) c.get_index_of.ensures.index in
    (λ e. cc, λ h. absurd (true≢false (sym h.1 ∙ sym (ap is_some number) ∙ sym c.if-is_some.ensures)))
