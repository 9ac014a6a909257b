-- No node and no token denotes two things: the node's production and first token, and what a token is. A fact about one of them is a fact about
-- the other, so each lemma takes a family `P`.
use Rattle.std.specs.Prelude.{◌≡◌, ℕ, ℤ, ◌+◌, List, ◌∷◌, Option, Some, Bool, true, false, slice_get}
use Rattle.std.proofs.Common.{ap, sym, ◌∙◌, subst, eqb, arith}
use Rattle.std.proofs.lemmas.Bool.{false≢true}
use Rattle.abl_base.specs.declared.place.Place.{Place}
use Rattle.parse_tree.specs.declared.token.Token.{Token}
use Rattle.parse_tree.specs.declared.tree.Node.{Node}
use Rattle.syntax_tree.specs.declared.name.Named.{Named}
use Rattle.syntax_tree.specs.declared.name.Word.{Word}
use Rattle.syntax_reader.specs.Nodes.{Source, Uses, IsAt, IsName, IsQualified, IsText, IsWhole, IsScaled, IsDay, AreAll, IsWordThere, IsNameThere, IsTextThere}
use Rattle.syntax_reader.specs.Nodes as a

abbrev node_by : ℕ → ℕ → ℕ → Node
node_by production first end = record { production = production; first = first; end = end }

same_node : (nodes : List Node) (n : ℕ) {x y : Node} → slice_get nodes n ≡ Some x → slice_get nodes n ≡ Some y → x ≡ y
same_node nodes n e f = cc

node_is : {c : Source} {n q k r j : ℕ} (u : Uses c n q k) (v : Uses c n r j) → (k ≡ j) × (q ≡ r)
node_is {c} {n} {q} {k} {r} {j} u v =
    let e : node_by q k u.end ≡ node_by r j v.end = same_node c.nodes n u.there v.there in
    (ap (λ (x : Node). x.first) e, ap (λ (x : Node). x.production) e)

pub same_use : {c : Source} {n q k j : ℕ} → Uses c n q k → Uses c n q j → (P : ℕ → Type 0) → P j → P k
same_use u v P q = subst P (sym (node_is u v).0) q

eqb_same : (q r : ℕ) → q ≡ r → eqb q r ≡ true
eqb_same q r e = grind arith

pub differ : {c : Source} {n q k r j : ℕ} → Uses c n q k → Uses c n r j → eqb q r ≡ false → ⊥
differ {c} {n} {q} {k} {r} {j} u v e = false≢true (sym e ∙ eqb_same q r (node_is u v).1)

pub not_here : (test : ℕ → Bool) {c : Source} {n q k r j : ℕ} → Uses c n q k → Uses c n r j → test q ≡ true → test r ≡ false → ⊥
not_here test u v one_is other_is = false≢true (sym other_is ∙ ap test (sym (node_is u v).1) ∙ one_is)

same_token : (tokens : List Token) (k : ℕ) {s t : Token} → slice_get tokens k ≡ Some s → slice_get tokens k ≡ Some t → s ≡ t
same_token tokens k e f = cc

-- a word by its spelling and its place
abbrev word_by : List ℕ → Place → Word
word_by spelling at = record { spelling = spelling; at = at }

same_word : (v w : Word) → v.spelling ≡ w.spelling → v.at ≡ w.at → v ≡ w
same_word v w e f = ap (λ (x : List ℕ). word_by x v.at) e ∙ ap (λ (x : Place). word_by w.spelling x) f

pub same_at : {c : Source} {k : ℕ} {x y : Place} → IsAt c k x → IsAt c k y → (P : Place → Type 0) → P y → P x
same_at {c} {k} h g P q =
    let t : h.token ≡ g.token = same_token c.tokens k h.there g.there in
    subst P (sym (h.placed ∙ ap (λ (x : Token). x.place) t ∙ sym g.placed)) q

pub same_name : {c : Source} {k : ℕ} {x y : Word} → IsName c k x → IsName c k y → (P : Word → Type 0) → P y → P x
same_name {c} {k} {x} {y} h g P q =
    let t : h.token ≡ g.token = same_token c.tokens k h.there g.there in
    let spelled : x.spelling ≡ y.spelling = cc (sym h.spelled ∙ ap (λ (z : Token). z.meaning) t ∙ g.spelled) in
    subst P (sym (same_word x y spelled (h.placed ∙ ap (λ (z : Token). z.place) t ∙ sym g.placed))) q

pub same_text : {c : Source} {k : ℕ} {x y : Word} → IsText c k x → IsText c k y → (P : Word → Type 0) → P y → P x
same_text {c} {k} {x} {y} h g P q =
    let t : h.token ≡ g.token = same_token c.tokens k h.there g.there in
    let spelled : x.spelling ≡ y.spelling = cc (sym h.spelled ∙ ap (λ (z : Token). z.meaning) t ∙ g.spelled) in
    subst P (sym (same_word x y spelled (h.placed ∙ ap (λ (z : Token). z.place) t ∙ sym g.placed))) q

pub same_qualified : {c : Source} {k : ℕ} {x y : Named} → IsQualified c k x → IsQualified c k y → (P : Named → Type 0) → P y → P x
same_qualified {c} {k} {x} {y} h g P q =
    let t : h.token ≡ g.token = same_token c.tokens k h.there g.there in
    let parts = sym h.spelled ∙ ap (λ (z : Token). z.meaning) t ∙ g.spelled in
    let first : h.buffer ≡ g.buffer = cc parts in
    let second : h.field ≡ g.field = cc parts in
    let placed : h.token.place ≡ g.token.place = ap (λ (z : Token). z.place) t in
    let e : x ≡ y = cc in
    subst P (sym e) q

pub same_whole : {c : Source} {k x y : ℕ} → IsWhole c k x → IsWhole c k y → (P : ℕ → Type 0) → P y → P x
same_whole {c} {k} {x} {y} h g P q =
    let t : h.token ≡ g.token = same_token c.tokens k h.there g.there in
    let e : x ≡ y = cc (sym h.spelled ∙ ap (λ (z : Token). z.meaning) t ∙ g.spelled) in
    subst P (sym e) q

pub same_scaled : {c : Source} {k x y : ℕ} → IsScaled c k x → IsScaled c k y → (P : ℕ → Type 0) → P y → P x
same_scaled {c} {k} {x} {y} h g P q =
    let t : h.token ≡ g.token = same_token c.tokens k h.there g.there in
    let e : x ≡ y = cc (sym h.spelled ∙ ap (λ (z : Token). z.meaning) t ∙ g.spelled) in
    subst P (sym e) q

pub same_day : {c : Source} {k : ℕ} {x y : ℤ} → IsDay c k x → IsDay c k y → (P : ℤ → Type 0) → P y → P x
same_day {c} {k} {x} {y} h g P q =
    let t : h.token ≡ g.token = same_token c.tokens k h.there g.there in
    let date : h.date ≡ g.date = cc (sym h.spelled ∙ ap (λ (z : Token). z.meaning) t ∙ g.spelled) in
    let e : x ≡ y = cc in
    subst P (sym e) q

pub same_word_there : {c : Source} {present absent n : ℕ} {x y : Bool} → IsWordThere c present absent n x → IsWordThere c present absent n y → eqb present absent ≡ false → (P : Bool → Type 0) → P y → P x
same_word_there (a.word_there u) (a.word_there v) e P q = q
same_word_there (a.word_there u) (a.no_word v) e P q = absurd (differ u v e)
same_word_there (a.no_word u) (a.word_there v) e P q = absurd (differ v u e)
same_word_there (a.no_word u) (a.no_word v) e P q = q

pub same_name_there : {c : Source} {present absent skipped n : ℕ} {x y : Option Word} → IsNameThere c present absent skipped n x → IsNameThere c present absent skipped n y → eqb present absent ≡ false → (P : Option Word → Type 0) → P y →
    P x
same_name_there {c} {present} {absent} {skipped} (a.name_there u h) (a.name_there {word = w} v g) e P q =
    same_name h (same_use u v (λ (k : ℕ). IsName c (k + skipped) w) g) (λ (word : Word). P (Some word)) q
same_name_there (a.name_there u _) (a.no_name v) e P q = absurd (differ u v e)
same_name_there (a.no_name u) (a.name_there v _) e P q = absurd (differ v u e)
same_name_there (a.no_name u) (a.no_name v) e P q = q

pub same_text_there : {c : Source} {present absent n : ℕ} {x y : Option Word} → IsTextThere c present absent n x → IsTextThere c present absent n y → eqb present absent ≡ false → (P : Option Word → Type 0) → P y → P x
same_text_there {c} (a.text_there u h) (a.text_there {word = w} v g) e P q = same_text h (same_use u v (λ (k : ℕ). IsText c (k + 1) w) g) (λ (word : Word). P (Some word)) q
same_text_there (a.text_there u _) (a.no_text v) e P q = absurd (differ u v e)
same_text_there (a.no_text u) (a.text_there v _) e P q = absurd (differ v u e)
same_text_there (a.no_text u) (a.no_text v) e P q = q

pub same_row : {A : Type 0} {c : Source} {more none : ℕ} {Is : ℕ → ℕ → A → Type 0} {n m l : ℕ} {xs ys : List A} →
    ((n m l : ℕ) (x y : A) → Is n m x → Is n l y → (P : ℕ → A → Type 0) → P l y → P m x) → AreAll c more none Is n m xs → AreAll c more none Is n l ys → eqb more none ≡ false → (P : ℕ → List A → Type 0) → P l ys → P m xs
same_row one (a.all_read u) (a.all_read v) e P q = q
same_row one (a.all_read u) (a.one_more v _ _) e P q = absurd (differ v u e)
same_row one (a.one_more u _ _) (a.all_read v) e P q = absurd (differ u v e)
same_row {A} {c} {more} {none} {Is} one (a.one_more {n = n} {m = m} {l = l} {a = x} {rest = xs} u h r) (a.one_more {m = k} {l = j} {a = y} {rest = ys} v g s) e P q =
    let s2 = one (n + 1) m k x y h g (λ (end : ℕ) (_ : A). AreAll c more none Is end j ys) s in
    let q2 = one (n + 1) m k x y h g (λ (_ : ℕ) (z : A). P j (z ∷ ys)) q in
    same_row one r s2 e (λ (end : ℕ) (zs : List A). P end (x ∷ zs)) q2
