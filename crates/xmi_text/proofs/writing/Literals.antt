-- The characters of what a writer writes: references, the declaration, escaped texts, ends of lines.
use Rattle.std.proofs.Common.{◌≡◌, ℕ, ◌+◌, ◌*◌, List, [], ◌∷◌, ◌++◌, refl, sym, ◌∙◌, ap, append_assoc, append-nil, arith}
use Rattle.std.proofs.lemmas.List.{replicate-append-replicate}
use Rattle.std.specs.Prelude.{codes, replicate}
use Rattle.std.specs.Str.{chars}
use Rattle.xmi_text.specs.Writing.{escaped, escaped_character, declaration, line_end}

pub amp_characters : chars (codes "&amp;") ≡ codes "&amp;"
unfolding chars
amp_characters = refl

pub lt_characters : chars (codes "&lt;") ≡ codes "&lt;"
unfolding chars
lt_characters = refl

pub gt_characters : chars (codes "&gt;") ≡ codes "&gt;"
unfolding chars
gt_characters = refl

pub quot_characters : chars (codes "&quot;") ≡ codes "&quot;"
unfolding chars
quot_characters = refl

pub apos_characters : chars (codes "&apos;") ≡ codes "&apos;"
unfolding chars
apos_characters = refl

pub tab_characters : chars (codes "&#9;") ≡ codes "&#9;"
unfolding chars
tab_characters = refl

pub feed_characters : chars (codes "&#10;") ≡ codes "&#10;"
unfolding chars
feed_characters = refl

pub carriage_characters : chars (codes "&#13;") ≡ codes "&#13;"
unfolding chars
carriage_characters = refl

pub declaration_characters : chars declaration ≡ declaration
unfolding chars
declaration_characters = refl

-- one more level of a line's indent
pub line_end-more : (text : List ℕ) (depth : ℕ) → ((text ++ line_end depth) ++ 32 ∷ []) ++ 32 ∷ [] ≡ text ++ line_end (depth + 1)
line_end-more text depth =
    let more : 2 * depth + 2 ≡ 2 * (depth + 1) = omega arith in
    append_assoc (text ++ line_end depth) (32 ∷ []) (32 ∷ [])
    ∙ append_assoc text (line_end depth) (32 ∷ 32 ∷ [])
    ∙ ap (λ x. text ++ 10 ∷ x) (replicate-append-replicate (2 * depth) 2 32 ∙ ap (λ n. replicate n 32) more)

-- one more character
pub escaped-push : (cs : List ℕ) (c : ℕ) → escaped (cs ++ c ∷ []) ≡ escaped cs ++ escaped_character c
escaped-push [] c = append-nil (escaped_character c)
escaped-push (x ∷ cs) c = ap (λ r. escaped_character x ++ r) (escaped-push cs c) ∙ sym (append_assoc (escaped_character x) (escaped cs) (escaped_character c))
