use Rattle.std.proofs.Common.{◌≡◌, ◌+◌, ◌++◌, ◌∷◌, [], List, length, refl, sym, ◌∙◌, ap, subst, arith, length-append}
use Rattle.mem_disk.specs.declared.call.Call.{Call}
use Rattle.mem_disk.specs.Notes.{notes_of}
use Rattle.mem_disk.specs.Sound.{AllInside}
use Rattle.mem_disk.proofs.Record.{notes_more, inside_more}
use Rattle.mem_disk.proofs.mem_disk.note.Goals as goal

pub returns : goal.returns
returns c =
    let old = c.args.pool.now.items in
    let calls = c.args.calls.now.items in
    let call : Call = record { area = c.args.area; at = c.args.at; from = c.len-from.result; length = length c.args.bytes.now; effect = c.args.effect } in
    let from : c.len-from.result ≡ length old = omega (arith, c.len-from.ensures) in
    let pushed : c.push.new.self.items ≡ calls ++ call ∷ [] = rw c.unwrap-2.ensures at c.push.ensures.items in
    let grown : c.extend_from_slice.new.self.items ≡ old ++ c.args.bytes.now = rw c.unwrap.ensures at c.extend_from_slice.ensures.items in
    let size : length c.extend_from_slice.new.self.items ≡ length old + length c.args.bytes.now = ap length grown ∙ length-append old c.args.bytes.now in
    record {
      notes = (λ j. notes_of (grown j) (pushed j)) ∙ notes_more old c.args.bytes.now calls call c.requires.inside from refl;
      inside = subst (λ (l : List Call). AllInside (length c.extend_from_slice.new.self.items) l) (sym pushed) (inside_more (length old) (length c.extend_from_slice.new.self.items) calls call (omega (arith, size)) c.requires.inside (record { bytes = omega (arith, size, from); area = c.requires.area; small = c.requires.end }));
      calls = ap length pushed ∙ length-append calls (call ∷ []);
      pool = size;
      calls_room = c.push.ensures.capacity;
      pool_room = c.extend_from_slice.ensures.capacity;
    }
