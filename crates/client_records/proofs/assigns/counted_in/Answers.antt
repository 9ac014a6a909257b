use Rattle.std.proofs.Common.{rules, sym}
use Rattle.std.proofs.lemmas.Int.{ints, to_z-of_z}
use Rattle.client_records.proofs.assigns.counted_in.Goals as goal

pub returns-in-Some : goal.returns-in-Some
returns-in-Some c = (c.in-Some.number, sym c.in-Some.ensures, search (rules, ints, to_z-of_z))
