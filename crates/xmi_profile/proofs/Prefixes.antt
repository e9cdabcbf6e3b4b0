-- Bytes and characters that begin with letters.
use Rattle.std.proofs.Common.{◌≡◌, ℕ, Bool, true, false, List, ◌++◌, drop, length, refl, sym, ◌∙◌, ap, true≢false}
use Rattle.std.specs.Str.{chars, IsUtf8}
use Rattle.std.specs.List.{starts_with}
use Rattle.std.proofs.Math.Utf8.{encodes}
use Rattle.std.proofs.lemmas.Bool.Decides.{Decides-eqb}
use lib.Dec.{eqb}
use Rattle.std.proofs.lemmas.Str.{chars-append, encodes-chars, encodes-append}
use Rattle.std.proofs.lemmas.Slice.Eq.{starts_is}
use Rattle.xmi_text.specs.Markup.{begins}
use Rattle.xmi_text.proofs.faults.Probing.{begins_with}
use Rattle.xmi_text.proofs.faults.Told.{begins_split}

pub same_bool : (a b : Bool) → (a ≡ true → b ≡ true) → (b ≡ true → a ≡ true) → a ≡ b
same_bool true b f g = sym (f refl)
same_bool false true f g = absurd (true≢false (sym (g refl)))
same_bool false false f g = refl

-- a text begins with letters where its bytes do
pub prefixed : (p bs : List ℕ) → IsUtf8 p → chars p ≡ p → IsUtf8 bs → starts_with eqb bs p ≡ begins p (chars bs)
prefixed p bs up same ub =
    let s = starts_is Decides-eqb bs p (starts_with eqb bs p) refl in
    same_bool (starts_with eqb bs p) (begins p (chars bs))
    (λ e.
    let rest : List ℕ = drop (length p) bs in
    ap (begins p) (ap chars (s.0 e) ∙ chars-append p rest up ∙ ap (λ (xs : List ℕ). xs ++ chars rest) same) ∙ begins_with p (chars rest))
    (λ e.
    let r = begins_split p (chars bs) e in
    s.1 (encodes r.0)
    (sym (encodes-chars bs ub) ∙ ap encodes r.1 ∙ encodes-append p r.0 ∙ ap (λ (xs : List ℕ). xs ++ encodes r.0) (sym (ap encodes same) ∙ encodes-chars p up)))
