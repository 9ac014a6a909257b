-- What is read back from the bytes of a fragment.
use Rattle.std.proofs.Common.{◌≡◌, ℕ, Bool, false, cond, eqb, ◌+◌, ◌-◌, ◌<◌, ◌≤◌, ◌^◌, min, List, [], ◌∷◌, ◌++◌, length, take, drop, replicate, refl, sym, ap, ◌∙◌, append_assoc, arith}
use Rattle.std.proofs.lemmas.Bool.Decides.{nat_tests}
use Rattle.std.proofs.Math.Seq.{drop-append-add, take-append_seam}
use Rattle.abl_values.specs.Rows.{number_bytes, number_at_head}
use Rattle.abl_values.proofs.Numbers.{number_at_head-bytes, length-number_bytes}
use Rattle.row_fragments.specs.Fragments.{kind_in, used_in, next_in, table_in, total_in, content_in, fragment_bytes}

not_free : (kind : ℕ) → 0 < kind → eqb kind 0 ≡ false
not_free kind some = grind (arith, nat_tests, some)

past : (n x m : ℕ) (rest : List ℕ) → drop (n + m) (number_bytes n x ++ rest) ≡ drop m rest
past n x m rest = ap (λ (k : ℕ). drop (k + m) (number_bytes n x ++ rest)) (sym (length-number_bytes n x)) ∙ drop-append-add (number_bytes n x) rest m

module _ (kind next total table : ℕ) (content : List ℕ) where
  abbrev pad : List ℕ
  pad = replicate (240 - length content) 0

  abbrev after_next : List ℕ
  after_next = number_bytes 4 total ++ (number_bytes 2 table ++ (0 ∷ 0 ∷ (content ++ pad)))

  spread : ((number_bytes 2 (length content) ++ number_bytes 4 next) ++ ((number_bytes 4 total ++ number_bytes 2 table) ++ 0 ∷ 0 ∷ [])) ++ (content ++ pad) ≡ number_bytes 2 (length content) ++ (number_bytes 4 next ++ after_next)
  spread = simp append_assoc

  pub kind_read : kind_in (fragment_bytes kind next total table content) ≡ kind
  kind_read = refl

  pub used_read : length content ≤ 240 → used_in (fragment_bytes kind next total table content) ≡ length content
  used_read le = ap (number_at_head 2) spread ∙ number_at_head-bytes 2 (length content) (number_bytes 4 next ++ after_next) (omega arith)

  pub next_read : 0 < kind → next < 2 ^ 32 → next_in (fragment_bytes kind next total table content) ≡ next
  next_read some lt =
      ap (λ (b : Bool). cond b 0 (number_at_head 4 (drop 4 (fragment_bytes kind next total table content)))) (not_free kind some)
      ∙ (ap (λ (xs : List ℕ). number_at_head 4 (drop 2 xs)) spread
      ∙ (ap (number_at_head 4) (past 2 (length content) 0 (number_bytes 4 next ++ after_next)) ∙ number_at_head-bytes 4 next after_next lt))

  pub table_read : table < 2 ^ 16 → table_in (fragment_bytes kind next total table content) ≡ table
  table_read lt =
      ap (λ (xs : List ℕ). number_at_head 2 (drop 10 xs)) spread
      ∙ (ap (number_at_head 2) (past 2 (length content) 8 (number_bytes 4 next ++ after_next) ∙ (past 4 next 4 after_next ∙ past 4 total 0 (number_bytes 2 table ++ (0 ∷ 0 ∷ (content ++ pad)))))
      ∙ number_at_head-bytes 2 table (0 ∷ 0 ∷ (content ++ pad)) lt)

  pub total_read : total < 2 ^ 32 → total_in (fragment_bytes kind next total table content) ≡ total
  total_read lt =
      ap (λ (xs : List ℕ). number_at_head 4 (drop 6 xs)) spread
      ∙ (ap (number_at_head 4) (past 2 (length content) 4 (number_bytes 4 next ++ after_next) ∙ past 4 next 0 after_next)
      ∙ number_at_head-bytes 4 total (number_bytes 2 table ++ (0 ∷ 0 ∷ (content ++ pad))) lt)

  -- what comes after the head
  pub body_read : drop 16 (fragment_bytes kind next total table content) ≡ content ++ pad
  body_read =
      ap (drop 14) spread
      ∙ (past 2 (length content) 12 (number_bytes 4 next ++ after_next) ∙ (past 4 next 8 after_next ∙ (past 4 total 4 (number_bytes 2 table ++ (0 ∷ 0 ∷ (content ++ pad))) ∙ past 2 table 2 (0 ∷ 0 ∷ (content ++ pad)))))

  pub content_read : length content ≤ 240 → content_in (fragment_bytes kind next total table content) ≡ content
  content_read le =
      let used : min (used_in (fragment_bytes kind next total table content)) 240 ≡ length content = ap (λ (n : ℕ). min n 240) (used_read le) ∙ omega arith in
      let rest : drop 16 (fragment_bytes kind next total table content) ≡ content ++ pad =
      ap (drop 14) spread
      ∙ (past 2 (length content) 12 (number_bytes 4 next ++ after_next) ∙ (past 4 next 8 after_next ∙ (past 4 total 4 (number_bytes 2 table ++ (0 ∷ 0 ∷ (content ++ pad))) ∙ past 2 table 2 (0 ∷ 0 ∷ (content ++ pad))))) in
      ap (λ (n : ℕ). take n (drop 16 (fragment_bytes kind next total table content))) used ∙ (ap (take (length content)) rest ∙ take-append_seam content pad)
