-- What stands behind a character, read character by character.
use Rattle.std.proofs.Common.{◌≡◌, ℕ, Bool, true, false, List, [], ◌∷◌, ◌++◌, refl, sym, ◌∙◌, ap, append_assoc, append-nil, None, Some}
use Rattle.std.specs.Prelude.{◌==◌, ◌&&◌, Option, if◌then◌else◌}
use Rattle.std.specs.List.{fold}
use Rattle.std.specs.Option.{option_map}
use Rattle.std.proofs.lemmas.Bool.{eqb-true, eq-eqb}
use Rattle.xmi_text.specs.Markup.{begins}
use Rattle.model_assembly.specs.declared.fault.Externs.{Externs}
use Rattle.model_assembly.specs.Attributes.{behind}
use Rattle.model_assembly.specs.References.{with_first, divided, parts_target, href_target}
use Rattle.xmi_profile.specs.Scanning.{behind_on, href_by}
use Rattle.xmi_profile.proofs.Prefixes.{same_bool}

behind_more : (mark : ℕ) (text cs : List ℕ) → fold (behind_on mark) (Some text) cs ≡ Some (text ++ cs)
behind_more mark text [] = ap Some (sym (append-nil text))
behind_more mark text (c ∷ cs) = behind_more mark (text ++ c ∷ []) cs ∙ ap Some (append_assoc text (c ∷ []) cs)

pub behind_folded : (mark : ℕ) (cs : List ℕ) → fold (behind_on mark) None cs ≡ behind mark cs
behind_folded mark [] = refl
behind_folded mark (c ∷ cs) = by (c == mark) (behind_folded mark cs)
  where
    by : (b : Bool) → fold (behind_on mark) None cs ≡ behind mark cs
        → fold (behind_on mark) (if b then Some [] else None) cs ≡ (if b then Some cs else behind mark cs)
    by true h = behind_more mark [] cs
    by false h = h

-- ---- href

swap : (a b : ℕ) → (a == b) ≡ (b == a)
swap a b = same_bool (a == b) (b == a) (λ e. eq-eqb b a (sym (eqb-true a b e))) (λ e. eq-eqb a b (sym (eqb-true b a e)))

and_true : (b : Bool) → (b && true) ≡ b
and_true true = refl
and_true false = refl

with_fragment : (c : ℕ) (d : Option (List ℕ × List ℕ)) → option_map (λ parts. parts.1) (option_map (with_first c) d) ≡ option_map (λ parts. parts.1) d
with_fragment c None = refl
with_fragment c (Some parts) = refl

behind_divided : (cs : List ℕ) → behind 35 cs ≡ option_map (λ parts. parts.1) (divided cs)
behind_divided [] = refl
behind_divided (c ∷ cs) = by (c == 35) (behind_divided cs)
  where
    by : (b : Bool) → behind 35 cs ≡ option_map (λ parts. parts.1) (divided cs)
        → (if b then Some cs else behind 35 cs) ≡ option_map (λ (parts : List ℕ × List ℕ). parts.1) (if b then Some ([], cs) else option_map (with_first c) (divided cs))
    by true h = refl
    by false h = h ∙ sym (with_fragment c (divided cs))

elsewhere : (outside : Externs) (text : List ℕ) (c : ℕ) (d : Option (List ℕ × List ℕ))
    → href_by outside text (option_map (λ parts. parts.1) d) false ≡ parts_target outside text (option_map (with_first c) d)
elsewhere outside text c None = refl
elsewhere outside text c (Some parts) = refl

pub href_divided : (outside : Externs) (text : List ℕ) → href_by outside text (behind 35 text) (begins (35 ∷ []) text) ≡ href_target outside text
href_divided outside [] = refl
href_divided outside (c ∷ cs) =
    ap (href_by outside (c ∷ cs) (behind 35 (c ∷ cs))) (and_true (35 == c) ∙ swap 35 c)
    ∙ by (c == 35) (ap (λ (f : Option (List ℕ)). href_by outside (c ∷ cs) f false) (behind_divided cs) ∙ elsewhere outside (c ∷ cs) c (divided cs))
  where
    by : (b : Bool) → href_by outside (c ∷ cs) (behind 35 cs) false ≡ parts_target outside (c ∷ cs) (option_map (with_first c) (divided cs))
        → href_by outside (c ∷ cs) (if b then Some cs else behind 35 cs) b ≡ parts_target outside (c ∷ cs) (if b then Some ([], cs) else option_map (with_first c) (divided cs))
    by true h = refl
    by false h = h
