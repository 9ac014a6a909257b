-- A prefix of a legal trace is legal; what holds at each moment of a trace.
use Rattle.std.proofs.Common.{◌≡◌, ◌++◌, ℕ, List, subst}
use Rattle.database_meaning.specs.declared.contents.Contents.{Contents}
use Rattle.database_meaning.specs.Setting.{Setting}
use Rattle.database_meaning.specs.State.{State}
use Rattle.database_meaning.specs.Traces.{IsLegal, left_by, opened}
use Rattle.database_meaning.specs.Laws.{IsIsolated, IsIsolatedThroughout}
use Rattle.database_protocol.specs.declared.event.Event.{Event}
use Rattle.database_meaning.proofs.Good.{good_legal, not_held, unnamed}
use Rattle.database_meaning.proofs.ReservedKeys.{keys_legal}
use Rattle.database_meaning.proofs.LockedReads.{follows_split, reads_as_committed}

pub prefix_legal : (f : Setting) (contents : Contents) (before later : List Event) → IsLegal f contents (before ++ later) → IsLegal f contents before
prefix_legal f contents before later legal = (legal.0, (follows_split f (opened contents) before later legal.1).0)

pub isolated : (f : Setting) (contents : Contents) (trace : List Event) → IsLegal f contents trace → IsIsolated f (left_by f contents trace)
isolated f contents trace legal =
    let g = good_legal f contents trace legal in
    let keys = keys_legal f contents trace legal in
    record {
      no_cycle = g.acyclic;
      exclusive = λ x y row ne has. not_held _ (g.clash x y row _ ne has);
      overlays = λ x y row change ne has. unnamed _ g.own g.clash x y row ne ((g.own x).covers row change has);
      reserved_keys = keys.apart;
      committed = keys.one_each;
    }

pub isolated_throughout : (f : Setting) (contents : Contents) (trace : List Event) → IsLegal f contents trace → IsIsolatedThroughout f contents trace
isolated_throughout f contents trace legal = record {
  moments = λ before later e. isolated f contents before (prefix_legal f contents before later (subst (IsLegal f contents) e legal));
  reads = λ before open_still later c table row values e.
      reads_as_committed f contents before open_still c table row values (prefix_legal f contents _ later (subst (IsLegal f contents) e legal));
}
