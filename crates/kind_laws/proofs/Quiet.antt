-- An UNDO that undoes no level comes to a block that can be undone only outside of a transaction, where no record is pending.
use Rattle.std.proofs.Common.{◌≡◌, ℕ, true, false, List, [], ◌∷◌, Option, Some, None, refl, ◌∙◌}
use Rattle.database_protocol.specs.declared.event.Event.{Event}
use Rattle.client_runner.specs.Levels.{levels_left}
use Rattle.block_meaning.specs.Blocks.{first_of_two}
use Rattle.block_meaning.specs.Frames.{content_of}
use Rattle.block_meaning.specs.State.{Content, Copy, Empty, Pending, Record, State}
use Rattle.flat_machine.specs.Config.{Await, Config, Execute, Mode, StackEntry, UndoComes, Unwind}
use Rattle.bound_tree.specs.Tree.{Body, Header}
use Rattle.machine_laws.proofs.LevelsLemmas.Kept.{FirstAt, IsBare, ModeAt}
use Rattle.machine_laws.proofs.LevelsLemmas.Runs.{reached_sound}
use Rattle.machine_laws.proofs.PendingLemmas.Kept.{ModeFits}
use Rattle.machine_laws.proofs.PendingLemmas.Pends.{Claims, IsClear, None_is, content_claims}
use Rattle.machine_laws.proofs.PendingLemmas.Runs.{reached_kept}
use Rattle.kind_laws.specs.Reached.{Ground, IsGround, ReachedOn}
use Rattle.kind_laws.proofs.Undone.{AreClear, is_pending, IsQuiet}

-- ---- buffers

not_pending : (c : Content) → Claims None_is c → is_pending c ≡ false
not_pending Empty h = refl
not_pending (Record row values held made) h = refl
not_pending (Pending values since made) h = absurd h

none_pending : (bs : List ℕ) (s : State) → IsClear s.frames → AreClear bs s
none_pending [] s h = tt
none_pending (b ∷ bs) s h = (not_pending (content_of b s) (content_claims None_is b s h), none_pending bs s h)

-- ---- levels

-- no level is open where none was opened or passed
outside : (b : Header) (copy passed : Option Copy) (i k : ℕ) → first_of_two copy passed ≡ None → IsBare b copy i → FirstAt i passed k → b.flags.undo ≡ true → k ≡ 0
outside b None None i k e bare at undo = at ∙ bare undo
outside b None (Some c) i k e bare at undo = absurd cc
outside b (Some c) passed i k e bare at undo = absurd cc

mode_quiet : (tree : ℕ → Body) (m k : ℕ) (mode : Mode) (ks : List StackEntry) (s : State) → ModeAt tree mode ks k → ModeFits m k mode ks s → IsQuiet mode s
mode_quiet tree m k (Execute (UndoComes b o target act retry passed)) ks s l f = λ none undo. none_pending b.scoped s (f.0.1 (outside b o.copy passed.first l.0 k none l.2.4 l.1 undo))
mode_quiet tree m k (Execute t) ks s l f = tt
mode_quiet tree m k (Unwind completion) ks s l f = tt
mode_quiet tree m k (Await op on) ks s l f = tt

pub reached_quiet : (g : Ground) → IsGround g → (units : ℕ) (own : List Event) (c : Config) → ReachedOn g units own c → IsQuiet c.mode c.state
reached_quiet g ok units own c r =
    let l = reached_sound g.code g.program g.tree ok.denotes ok.flagged g.schema units own c r in
    let f = reached_kept g.code g.program g.tree ok.denotes ok.flagged g.schema units own c r in
    mode_quiet g.tree f.0 (levels_left 0 own) c.mode c.stack c.state l.1 f.1
