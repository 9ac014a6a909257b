-- Worked examples, each computed from the definitions.
use Rattle.std.specs.Prelude.{◌≡◌, [], ◌∷◌, refl}
use Rattle.mem_disk.specs.declared.call.Effect.TheVariants.{Written, Cut, Synced, Nothing}
use Rattle.mem_disk.specs.Notes.{Note, spent_by}

-- a write that was done, and one that was cut, which reads do not show
abbrev three_bytes : Note
three_bytes = record { area = 0; at = 0; bytes = 7 ∷ 8 ∷ 9 ∷ []; effect = Written }

abbrev two_bytes_cut : Note
two_bytes_cut = record { area = 1; at = 4; bytes = 5 ∷ 6 ∷ []; effect = Cut }

-- a sync, and a call that was refused
abbrev sync : Note
sync = record { area = 0; at = 0; bytes = []; effect = Synced }

abbrev refused : Note
refused = record { area = 1; at = 0; bytes = []; effect = Nothing }

writes_done_and_cut_spend_their_bytes : spent_by (three_bytes ∷ two_bytes_cut ∷ []) ≡ 5
writes_done_and_cut_spend_their_bytes = refl

syncs_and_refused_calls_spend_none : spent_by (three_bytes ∷ sync ∷ two_bytes_cut ∷ refused ∷ []) ≡ 5
syncs_and_refused_calls_spend_none = refl

bytes_written_over_are_spent_twice : spent_by (three_bytes ∷ sync ∷ three_bytes ∷ []) ≡ 6
bytes_written_over_are_spent_twice = refl
