-- What PUT and MESSAGE are bound to.
use Rattle.std.specs.Prelude.{ℕ, Bool, true, false, ◌&&◌, nat_le, if◌then◌else◌, List, Option, Some, None, unwrap_or}
use Rattle.abl_base.specs.declared.rule.Rule.TheVariants.{Y7, Y12}
use Rattle.abl_base.specs.declared.value.Kind.TheVariants.{Character}
use Rattle.bound_tree.specs.Tree as b
use Rattle.syntax_tree.specs.Syntax as s
use Rattle.syntax_tree.specs.declared.name.Word.{Word}
use Rattle.syntax_tree.specs.Syntax.{Expression}
use Rattle.bind_names.specs.declared.sort.Sort.{Sort}
use Rattle.bind_names.specs.Judged.{Judged, unless, fine, made, made_of, breaking}
use Rattle.bind_names.specs.Sorts.{kind_in, mask_fits}
use Rattle.bind_names.specs.Names.{Scene, Meaning, TheVariable, TheField, meaning}
use Rattle.bind_expressions.specs.Expressions.{expression}
use Rattle.bind_expressions.specs.Parts.{Done, does, listed, the_expr}
use Rattle.bind_statements.specs.Definitions.{default_mask}
use Rattle.bind_statements.specs.Streams.{stream}

-- the mask of an item of PUT that has none: that of the variable or field, else that of the kind, and `x(8)` for `?`
abbrev pub mask_of_meaning : Meaning → Option (List ℕ)
mask_of_meaning (TheVariable x mask) = Some mask
mask_of_meaning (TheField buffer field kind mask) = Some mask
mask_of_meaning m = None

abbrev pub mask_of_name : Scene → Expression → Option (List ℕ)
mask_of_name w (s.Name name) = mask_of_meaning (meaning w name).is
mask_of_name w e = None

abbrev pub mask_of : Scene → Expression → Sort → List ℕ
mask_of w e k = unwrap_or (mask_of_name w e) (default_mask (unwrap_or (kind_in k) Character))

-- Y7 at a count outside 1 to 99, which is bound to 1
abbrev pub count : Option s.Count → Judged ℕ
count None = fine 1
count (Some c) =
    let good = nat_le 1 c.number && nat_le c.number 99 in
    breaking (fine (if good then c.number else 1)) (unless good Y7 c.at)

abbrev pub put_mask : Bool → List ℕ → Option (List ℕ)
put_mask true mask = None
put_mask false mask = Some mask

abbrev pub put_item : Scene → Bool → s.PutItem → Judged b.Item
put_item w plain (s.Shows e None) =
    let x = expression w e in
    made (λ x. b.Shows x.expr (put_mask plain (mask_of w e x.sort))) x
put_item w plain (s.Shows e (Some mask)) =
    let x = expression w e in
    breaking (made (λ x. b.Shows x.expr (put_mask plain mask.spelling)) x) (unless (mask_fits mask.spelling x.is.sort) Y12 mask.at)
put_item w plain (s.Skip c) = made b.Skips (count c)
put_item w plain (s.Space c) = made b.Spaces (count c)

-- PUT
abbrev pub put : Scene → Option Word → Bool → List s.PutItem → Judged Done
put w name plain items = made_of (λ n xs. does w (b.PutItems n xs)) (stream w name) (listed (put_item w plain) items)

-- MESSAGE
abbrev pub message : Scene → List Expression → Judged Done
message w es = made (λ xs. does w (b.Message xs)) (listed (λ e. the_expr (expression w e)) es)
