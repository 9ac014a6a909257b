-- Arguments name one command alone: the first one tells which.
use Rattle.std.proofs.Common.{◌≡◌, ◌+◌, ◌*◌, ◌∙◌, ℕ, List, [], ap, sym, arith, length, get_or}
use Rattle.command_arguments.specs.CommandLine.{Bank, Check, Create, Dump, Run, arguments_of, bank_arguments, check_arguments, create_arguments, dump_arguments}

-- the length and the first letter of the first argument
abbrev mark : List (List ℕ) → ℕ
mark arguments = 1000 * length (get_or arguments 0 []) + get_or (get_or arguments 0 []) 0 0

module _ (arguments : List (List ℕ)) where
  pub run_or_check : (run : Run) (check : Check) → arguments ≡ arguments_of run → arguments ≡ check_arguments check → ⊥
  run_or_check run check a b = let e : 3114 ≡ 5099 = ap mark (sym a ∙ b) in omega (arith, e)

  pub run_or_bank : (run : Run) (bank : Bank) → arguments ≡ arguments_of run → arguments ≡ bank_arguments bank → ⊥
  run_or_bank run bank a b = let e : 3114 ≡ 4098 = ap mark (sym a ∙ b) in omega (arith, e)

  pub run_or_create : (run : Run) (create : Create) → arguments ≡ arguments_of run → arguments ≡ create_arguments create → ⊥
  run_or_create run create a b = let e : 3114 ≡ 6099 = ap mark (sym a ∙ b) in omega (arith, e)

  pub run_or_dump : (run : Run) (dump : Dump) → arguments ≡ arguments_of run → arguments ≡ dump_arguments dump → ⊥
  run_or_dump run dump a b = let e : 3114 ≡ 4100 = ap mark (sym a ∙ b) in omega (arith, e)

  pub check_or_bank : (check : Check) (bank : Bank) → arguments ≡ check_arguments check → arguments ≡ bank_arguments bank → ⊥
  check_or_bank check bank a b = let e : 5099 ≡ 4098 = ap mark (sym a ∙ b) in omega (arith, e)

  pub check_or_create : (check : Check) (create : Create) → arguments ≡ check_arguments check → arguments ≡ create_arguments create → ⊥
  check_or_create check create a b = let e : 5099 ≡ 6099 = ap mark (sym a ∙ b) in omega (arith, e)

  pub check_or_dump : (check : Check) (dump : Dump) → arguments ≡ check_arguments check → arguments ≡ dump_arguments dump → ⊥
  check_or_dump check dump a b = let e : 5099 ≡ 4100 = ap mark (sym a ∙ b) in omega (arith, e)

  pub create_or_bank : (create : Create) (bank : Bank) → arguments ≡ create_arguments create → arguments ≡ bank_arguments bank → ⊥
  create_or_bank create bank a b = let e : 6099 ≡ 4098 = ap mark (sym a ∙ b) in omega (arith, e)

  pub create_or_dump : (create : Create) (dump : Dump) → arguments ≡ create_arguments create → arguments ≡ dump_arguments dump → ⊥
  create_or_dump create dump a b = let e : 6099 ≡ 4100 = ap mark (sym a ∙ b) in omega (arith, e)

  pub dump_or_bank : (dump : Dump) (bank : Bank) → arguments ≡ dump_arguments dump → arguments ≡ bank_arguments bank → ⊥
  dump_or_bank dump bank a b = let e : 4100 ≡ 4098 = ap mark (sym a ∙ b) in omega (arith, e)
