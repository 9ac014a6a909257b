-- An index of one key, and places in order, worked out.
use Rattle.std.specs.Prelude.{◌≡◌, false, [], Some, None, codes, refl}
use Rattle.std.proofs.Common.{inl, ap, ◌∙◌}
use Rattle.std.specs.Cmp.{nat_cmp_total}
use Rattle.std.specs.Cmp.Lexicographic.{nat_list_cmp_total}
use Rattle.std.specs.FinMap as map
use Rattle.std.specs.Option.{option_and_then}
use Rattle.key_index.specs.declared.index.Node.{Node}
use Rattle.key_index.specs.Index.{Keys, keeper_of, place_at}
use Rattle.key_index.specs.Search.{BeginsWith, IsBefore, LiesBeyond}
use Rattle.key_index.specs.Places.{Rows, is_client, without_keeper, without_left}

-- the entry 2, and 7 as the client 1 left it
abbrev pub two_rows : Rows
two_rows = map.insert (map.insert map.empty 2 None) 7 (Some 1)

-- under `ab` these rows; the client 1 keeps the key
abbrev pub one_node : Node
one_node = record { rows = two_rows; keeper = Some 1 }

abbrev pub one_key : Keys
one_key = map.insert map.empty (codes "ab") one_node

node_there : map.get one_key (codes "ab") ≡ Some one_node
node_there = map.get-insert nat_list_cmp_total map.empty (codes "ab") one_node (codes "ab")

pub entry_is_there : place_at one_key (codes "ab") 2 ≡ Some None
entry_is_there =
    ap (option_and_then (λ (n : Node). map.get n.rows 2)) node_there
    ∙ (map.get-insert nat_cmp_total (map.insert map.empty 2 None) 7 (Some 1) 2 ∙ map.get-insert nat_cmp_total map.empty 2 None 2)

pub placeholder_is_there : place_at one_key (codes "ab") 7 ≡ Some (Some 1)
placeholder_is_there = ap (option_and_then (λ (n : Node). map.get n.rows 7)) node_there ∙ map.get-insert nat_cmp_total (map.insert map.empty 2 None) 7 (Some 1) 7

pub kept_by_one : keeper_of one_key (codes "ab") ≡ Some 1
kept_by_one = ap (option_and_then (λ (n : Node). n.keeper)) node_there

-- an end takes the client's own placeholders and keeping, and leaves entries and what is another's
pub own_placeholder_goes : without_left 1 (Some (Some 1)) ≡ None
own_placeholder_goes = refl

pub other_placeholder_stays : without_left 2 (Some (Some 1)) ≡ Some (Some 1)
other_placeholder_stays = refl

pub entry_stays : without_left 1 (Some None) ≡ Some None
entry_stays = refl

pub own_keeping_goes : without_keeper 1 (Some 1) ≡ None
own_keeping_goes = refl

pub entry_is_of_no_client : is_client 1 None ≡ false
entry_is_of_no_client = refl

-- the order of places
pub shorter_key_first : IsBefore (codes "a") 9 (codes "ab") 2
shorter_key_first = inl refl

pub before_where_it_goes_back : LiesBeyond false (codes "ab") 2 (codes "b") 1
before_where_it_goes_back = inl refl

pub begins_with_itself : BeginsWith (codes "ab") (codes "ab")
begins_with_itself = ([], refl)

pub begins_with_nothing : BeginsWith (codes "ab") []
begins_with_nothing = (codes "ab", refl)
