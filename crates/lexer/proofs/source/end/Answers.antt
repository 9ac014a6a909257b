use Rattle.std.proofs.Common.{ap, length}
use Rattle.abl_base.specs.declared.place.Place.{Place}
use Rattle.parse_tree.specs.declared.token.Token.{Token}
use Rattle.parse_tree.specs.declared.token.TokenKind.TheVariants.{EndOfSource}
use Rattle.parse_tree.specs.declared.token.Meaning.TheVariants.{KindAlone}
use Rattle.lexer.specs.Texts.{end_token}
use Rattle.lexer.proofs.source.end.Goals as goal

pub returns : goal.returns
unfolding end_token
returns c =
    let at_end : Place → Token = λ p. record { kind = EndOfSource; start = length c.args.text.now; end = length c.args.text.now; place = p; meaning = KindAlone } in
    ap at_end c.moved.ensures
