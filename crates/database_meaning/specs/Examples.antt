-- Examples of the definitions that compute.
use Rattle.std.specs.Prelude.{◌≡◌, true, false, List, [], ◌∷◌, Some, None, pos, codes, refl}
use Rattle.std.specs.declared.cmp.Ordering.TheVariants.{Less, Greater}
use Rattle.abl_base.specs.declared.value.Value.{Value}
use Rattle.abl_base.specs.declared.value.Value.TheVariants.{Text, Int, Unknown}
use Rattle.abl_base.specs.declared.value.Kind.TheVariants.{Character, Integer}
use Rattle.abl_values.specs.declared.schema.TableDef.{TableDef}
use Rattle.abl_values.specs.Keys.{key_bytes, unique_key}
use Rattle.abl_values.specs.Rows.{bytes_of_row, number_bytes}
use Rattle.database_meaning.specs.declared.state.Key.{Key}
use Rattle.database_protocol.specs.declared.operation.Op.TheVariants.{Enter, Leave, Insert, Lock, End}
use Rattle.database_protocol.specs.declared.answer.Answer.TheVariants.{Refused, Blocked, Busy, Done, NoMemory, Committed}
use Rattle.database_meaning.specs.Setting.{Setting, unique_keys, fragments}
use Rattle.database_meaning.specs.Waiting.{row_in}
use Rattle.database_meaning.specs.Search.{place_cmp, MatchesPrefix}
use Rattle.database_meaning.specs.Counts.{event_size, is_counted}
use Rattle.database_meaning.specs.Fits.{Fits}
use Rattle.database_meaning.specs.Steps.{reserving, or_exclusive}
use Rattle.abl_base.specs.declared.limits.TheConstants.{MAX_CLIENTS, MAX_ROW_BYTES, MAX_KEY_BYTES, FRAGMENT_BYTES, FIRST_ROW, ROW_LIMIT, MAX_FRAGMENTS, MAX_SLOT_WRITES, MAX_TRACE_BYTES, EVENT_BYTES, NUMBER_BYTES}

-- the table `customer` with the fields `num` and `name`, and the unique index `num`
customer : TableDef
customer =
    record {
      name = codes "customer";
      fields = record { name = codes "num"; kind = Some Integer; initial = Int (pos 0); mandatory = false; mask = [] }
          ∷ record { name = codes "name"; kind = Some Character; initial = Text []; mandatory = false; mask = [] }
          ∷ [];
      indexes = record { name = codes "num"; unique = true; parts = record { field = 0; descending = false } ∷ [] } ∷ [];
      primary = Some 0;
    }

bank : Setting
bank = record { schema = record { tables = customer ∷ []; sequences = []; order = true ∷ [] }; clients = 3 }

ann : List Value
ann = Int (pos 1) ∷ Text (codes "Ann") ∷ []

nobody : List Value
nobody = Unknown ∷ Text (codes "Ann") ∷ []

renamed : List Value
renamed = Int (pos 1) ∷ Text (codes "Anna") ∷ []

key_of_one : Key
key_of_one = record { table = 0; index = 0; bytes = 1 ∷ 128 ∷ 0 ∷ 0 ∷ 0 ∷ 0 ∷ 0 ∷ 0 ∷ 1 ∷ [] }

-- a row has one unique key for each unique index
ann_has_one_key : unique_keys bank.schema (row_in 0 ann) ≡ key_of_one ∷ []
unfolding unique_keys unique_key key_bytes number_bytes bank customer ann key_of_one
ann_has_one_key = refl

-- a key with `?` is no unique key
unknown_is_no_key : unique_keys bank.schema (row_in 0 nobody) ≡ []
unfolding unique_keys unique_key key_bytes number_bytes bank customer nobody
unknown_is_no_key = refl

-- a key that a Put leaves as it was is not reserved, one that a row enters is
renaming_reserves_none : reserving bank (row_in 0 ann) (row_in 0 renamed) [] ≡ []
unfolding unique_keys unique_key key_bytes number_bytes bank customer ann renamed
renaming_reserves_none = refl

inserting_reserves_one : reserving bank None (row_in 0 ann) [] ≡ key_of_one ∷ []
unfolding unique_keys unique_key key_bytes number_bytes bank customer ann key_of_one
inserting_reserves_one = refl

deleting_reserves_one : reserving bank (row_in 0 ann) None [] ≡ key_of_one ∷ []
unfolding unique_keys unique_key key_bytes number_bytes bank customer ann key_of_one
deleting_reserves_one = refl

-- a short row is one fragment, and no row is none
short_row_is_one_fragment : fragments (row_in 0 ann) ≡ 1
unfolding bytes_of_row number_bytes ann
short_row_is_one_fragment = refl

-- 64 bytes, and those of the row: five of the number, six of the text
inserting_ann_counts_75 : event_size (Insert 0 ann) Done ≡ 75
unfolding bytes_of_row number_bytes ann
inserting_ann_counts_75 = refl

-- 4 bytes for each number of keep and holders
two_kept_count_72 : event_size (Leave (record { 0 = 8192 } ∷ record { 0 = 8193 } ∷ [])) (Committed 0) ≡ 72
two_kept_count_72 = refl

blocked_by_one_counts_68 : event_size (Lock 0 (record { 0 = 8192 }) true true) (Blocked (2 ∷ [])) ≡ 68
blocked_by_one_counts_68 = refl

end_is_not_counted : is_counted End Done ≡ false
end_is_not_counted = refl

refused_is_counted : is_counted Enter Refused ≡ true
refused_is_counted = refl

-- an upgraded lock is exclusive, and a share lock asked for later leaves it so
exclusive_stays : or_exclusive (Some true) false ≡ true
exclusive_stays = refl

-- of two rows with one key the greater identity comes later
identity_decides : place_cmp (1 ∷ []) (record { 0 = 9000 }) (1 ∷ []) (record { 0 = 8192 }) ≡ Greater
identity_decides = refl

-- the key decides first
key_decides : place_cmp (1 ∷ []) (record { 0 = 9000 }) (1 ∷ 0 ∷ []) (record { 0 = 8192 }) ≡ Less
key_decides = refl

-- a prefix of more values than the index has components matches no row
long_prefix_matches_none : MatchesPrefix bank.schema 0 (Some 0) ann ann → ⊥
unfolding bank customer ann
long_prefix_matches_none h = h.2

-- a Lock that waits is never Busy, and an End never runs out of memory
waiting_lock_is_not_busy : Fits bank.schema (Lock 0 (record { 0 = 8192 }) true true) (Busy []) → ⊥
waiting_lock_is_not_busy h = cc

end_never_runs_out_of_memory : Fits bank.schema End NoMemory → ⊥
end_never_runs_out_of_memory h = h

-- the limits of a database
pub limits_are : (MAX_CLIENTS ≡ 16) × (MAX_ROW_BYTES ≡ 30000) × (MAX_KEY_BYTES ≡ 200) × (FRAGMENT_BYTES ≡ 240) × (FIRST_ROW ≡ 8192) × (ROW_LIMIT ≡ 1048576) × (MAX_FRAGMENTS ≡ 1040384) × (MAX_SLOT_WRITES ≡ 7989) × (MAX_TRACE_BYTES ≡ 268435456) × (EVENT_BYTES ≡ 64) × (NUMBER_BYTES ≡ 4)
limits_are = (refl, refl, refl, refl, refl, refl, refl, refl, refl, refl, refl)
