-- Keys of rows, component by component.
use Rattle.std.proofs.Common.{◌≡◌, ◌↔◌, if◌then◌else◌, ◌==◌, ℕ, zero, suc, ◌<◌, Bool, true, false, List, [], ◌∷◌, ◌++◌, get_or, Option, None, refl, sym, ap, ◌∙◌, arith}
use Rattle.std.proofs.lemmas.Bool.Decides.{nat_tests}
use Rattle.std.specs.FinSet.{nat_cmp-IsAntisymmetric, slice_cmp-IsAntisymmetric}
use Rattle.std.specs.Cmp.Lexicographic.{slice_cmp}
use Rattle.std.proofs.lemmas.Cmp.{tied_itself, nat_list_cmp_total}
use Rattle.std.specs.Ordering.{nat_cmp, ordering_then}
use Rattle.std.specs.declared.cmp.Ordering.TheVariants.{Equal}
use Rattle.abl_base.specs.declared.value.Value.{Value}
use Rattle.abl_base.specs.declared.value.Value.TheVariants.{Text, Int, Int64, Dec, Logical, Date, Unknown}
use Rattle.abl_base.specs.declared.value.Kind.{Kind}
use Rattle.abl_values.specs.declared.schema.KeyPart.{KeyPart}
use Rattle.abl_values.specs.Order.{value_order, compared_text, folded, folded_byte, kept_before, without_trailing}
use Rattle.abl_values.specs.Fit.{IsOfField}
use Rattle.abl_values.specs.Rows.{FitsFields}
use Rattle.abl_values.specs.Keys.{ascending_bytes, component, component_bytes, component_order, escaped, escaped_byte, key_bytes, key_order, turned_over, AreBytes, HasBytes, HaveBytes}
use Rattle.abl_values.proofs.Numbers.{number_bytes-AreBytes}
use Rattle.abl_values.proofs.OrderLaws.{value_order_total}
use Rattle.abl_values.proofs.Settled.{settles-append, settles-component, turned_order}
use Rattle.abl_values.proofs.KeyLaws.{settles-field}

-- ---- bytes stay bytes

append_are_bytes : (xs ys : List ℕ) → AreBytes xs → AreBytes ys → AreBytes (xs ++ ys)
append_are_bytes [] ys hx hy = hy
append_are_bytes (x ∷ xs) ys hx hy = (hx.0, append_are_bytes xs ys hx.1 hy)

kept_are_bytes : (d b : ℕ) (bs : List ℕ) → b < 256 → AreBytes bs → AreBytes (kept_before d b bs)
kept_are_bytes d b [] h hs = either (b == d)
  where
    either : (t : Bool) → AreBytes (if t then [] else b ∷ [])
    either true = tt
    either false = (h, tt)
kept_are_bytes d b (c ∷ cs) h hs = (h, hs)

trimmed_are_bytes : (d : ℕ) (bs : List ℕ) → AreBytes bs → AreBytes (without_trailing d bs)
trimmed_are_bytes d [] h = tt
trimmed_are_bytes d (b ∷ bs) h = kept_are_bytes d b (without_trailing d bs) h.0 (trimmed_are_bytes d bs h.1)

folded_is_byte : (b : ℕ) → b < 256 → folded_byte b < 256
folded_is_byte b h = grind (arith, nat_tests)

folded_are_bytes : (bs : List ℕ) → AreBytes bs → AreBytes (folded bs)
folded_are_bytes [] h = tt
folded_are_bytes (b ∷ bs) h = (folded_is_byte b h.0, folded_are_bytes bs h.1)

escaped_is_bytes : (b : ℕ) → b < 256 → AreBytes (escaped_byte b)
escaped_is_bytes zero h = (omega arith, (omega arith, tt))
escaped_is_bytes (suc b) h = either (suc b == 0)
  where
    either : (t : Bool) → AreBytes (if t then 0 ∷ 255 ∷ [] else suc b ∷ [])
    either true = (omega arith, (omega arith, tt))
    either false = (h, tt)

escaped_are_bytes : (bs : List ℕ) → AreBytes bs → AreBytes (escaped bs)
escaped_are_bytes [] h = tt
escaped_are_bytes (b ∷ bs) h = append_are_bytes (escaped_byte b) (escaped bs) (escaped_is_bytes b h.0) (escaped_are_bytes bs h.1)

ascending_are_bytes : (v : Value) → HasBytes v → AreBytes (ascending_bytes v)
ascending_are_bytes Unknown h = (omega arith, tt)
ascending_are_bytes (Text t) h = (
  omega arith,
  append_are_bytes (escaped (compared_text t)) (0 ∷ 0 ∷ [])
      (escaped_are_bytes (compared_text t) (folded_are_bytes (without_trailing 32 t) (trimmed_are_bytes 32 t h))) (omega arith, (omega arith, tt)),
)
ascending_are_bytes (Int n) h = (omega arith, number_bytes-AreBytes 8 (turned_over 64 n))
ascending_are_bytes (Int64 n) h = (omega arith, number_bytes-AreBytes 8 (turned_over 64 n))
ascending_are_bytes (Dec n) h = (omega arith, number_bytes-AreBytes 16 (turned_over 128 n))
ascending_are_bytes (Logical false) h = (omega arith, (omega arith, tt))
ascending_are_bytes (Logical true) h = (omega arith, (omega arith, tt))
ascending_are_bytes (Date d) h = (omega arith, number_bytes-AreBytes 4 (turned_over 32 d))

-- ---- a component of a row

fits_at : (kinds : List (Option Kind)) (row : List Value) (i : ℕ) → FitsFields kinds row → IsOfField (get_or kinds i None) (get_or row i Unknown)
fits_at [] [] i fits = refl
fits_at [] (v ∷ row) i fits = absurd fits
fits_at (kind ∷ kinds) [] i fits = absurd fits
fits_at (kind ∷ kinds) (v ∷ row) zero fits = fits.0
fits_at (kind ∷ kinds) (v ∷ row) (suc i) fits = fits_at kinds row i fits.1

bytes_at : (row : List Value) (i : ℕ) → HaveBytes row → HasBytes (get_or row i Unknown)
bytes_at [] i h = tt
bytes_at (v ∷ row) zero h = h.0
bytes_at (v ∷ row) (suc i) h = bytes_at row i h.1

order_turned : (descending : Bool) (a b : Value) → turned_order descending (value_order a b) ≡ component_order descending a b
order_turned false a b = refl
order_turned true a b = sym (value_order_total.antisymm b a)

-- ---- the law

-- key bytes compare as the keys do
pub key_bytes-cmp : (kinds : List (Option Kind)) (parts : List KeyPart) (a b : List Value) → FitsFields kinds a → FitsFields kinds b → HaveBytes a → HaveBytes b → slice_cmp nat_cmp (key_bytes parts a) (key_bytes parts b) ≡ key_order parts a b
unfolding key_bytes key_order
key_bytes-cmp kinds [] a b fa fb ha hb = refl
key_bytes-cmp kinds (part ∷ parts) a b fa fb ha hb =
    let va = component part a in
    let vb = component part b in
    let settled = settles-field (get_or kinds part.field None) va vb (fits_at kinds a part.field fa) (fits_at kinds b part.field fb) in
    let turned = settles-component part.descending (ascending_bytes va) (ascending_bytes vb) (value_order va vb)
    (ascending_are_bytes va (bytes_at a part.field ha)) (ascending_are_bytes vb (bytes_at b part.field hb)) settled in
    settles-append (component_bytes part.descending va) (component_bytes part.descending vb) (key_bytes parts a) (key_bytes parts b) (turned_order part.descending (value_order va vb)) turned
    ∙ ap (ordering_then (turned_order part.descending (value_order va vb))) (key_bytes-cmp kinds parts a b fa fb ha hb)
    ∙ ap (λ o. ordering_then o (key_order parts a b)) (order_turned part.descending va vb)

-- and are the same exactly where the keys are level
pub key_bytes-same : (kinds : List (Option Kind)) (parts : List KeyPart) (a b : List Value) → FitsFields kinds a → FitsFields kinds b → HaveBytes a → HaveBytes b → (key_bytes parts a ≡ key_bytes parts b) ↔ (key_order parts a b ≡ Equal)
key_bytes-same kinds parts a b fa fb ha hb =
    let compared = key_bytes-cmp kinds parts a b fa fb ha hb in (
      λ e. sym compared ∙ ap (λ (xs : List ℕ). slice_cmp nat_cmp xs (key_bytes parts b)) e ∙ tied_itself nat_list_cmp_total (key_bytes parts b),
      λ e. slice_cmp-IsAntisymmetric nat_cmp-IsAntisymmetric (key_bytes parts a) (key_bytes parts b) (compared ∙ e),
    )
