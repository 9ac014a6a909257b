-- All definitions of the machine under one name.
pub use Rattle.flat_machine.specs.Config.{Task, StackEntry, OnAnswer, Mode, Config, EntersOne, Enters, Drops, Releases, EntersRest, LeavesIf, LeavesNow, Closing, GoesBack, UpdatesOne, Updates, AfterBack, Acts, IsOnly, Seconds, TakesAs, TakesAgain, Takes, Looks, Searches, FetchesFrom, Fetches, FindsAs, Finds, FindsCurrent, AssignsOne, AssignsEach, LocksOne, LocksAll, SettlesOne, SettlesAll, Assigns, Creates, Deletes, DeletesRow, Begun, Completes, Empties, Closes, Passes, UndoComes, ErrorComes, EndKeyComes, EndsWith, RunsFrom, Begins, EntersLevel, Turns, Iterates, Blocks, Imports, Calls, ThenDo, OrDo, FoundAs, AsBefore, AfterClosing, Quiet, Handles, In, FetchedAs, AndAgain, Called, WasInserted, WasDropped, WasLeft, WasBack, WasGot, WasSecond, WasNext, WasGranted, WasRead, CurrentGranted, WasCurrent, WasCounted, WasUpgraded, WasPut, WasDeleted, WasEntered, Execute, Unwind, Await}
pub use Rattle.flat_machine.specs.Code.{Instr, IsSimple, before, IsIf, DenotesAt, Code, IsCodeOf, Ends, Opens, Tests, Plain}
pub use Rattle.flat_machine.specs.Means.{contents_of, less, first_of, contents_back, contents_back_on_fault, or_contents_back, settles_back, task_means, after_entry, after_stack, answer_means, mode_means, means}
pub use Rattle.flat_machine.specs.Steps.{config, config_if, asked_from, ask, fault, insert_unless, enter_step, drop_step, update_step, judge_step, test_step, take_step, take_again_step, only_step, search_step, fetch_step, find_step, current_step, current_in_step, ends_as, assign_step, upgrade_step, lock_step, put_unless, settle_step, delete_step, error_step, endkey_step, act_step, ended_step, ends_step, costing, given_step, begins_step, while_step, reach_step, set_step, advance_step, loop_step, turn_step, by_step, block_step, given_all_step, wrote_to, export_step, import_step, given_text_step, errs_step, choose_step, stmt_step, instr_step}
pub use Rattle.flat_machine.specs.Machine.{task_step, then_step, or_step, not_found_step, found_step, before_step, closing_step, quiet_step, handled_step, fetched_step, again_step, called_step, pop_step, insert_answered, refused_answered, read_answered, busy_answered, grant_answered, second_answered, next_answered, none_answered, current_answered, current_grant_answered, count_answered, answer_step, over_step, mode_step, step, answered, first_config}
