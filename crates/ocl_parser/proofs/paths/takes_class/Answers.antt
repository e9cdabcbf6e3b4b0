use Rattle.std.proofs.Common.{◌≡◌, ℕ, Bool, true, false, List, sym, ap, ◌∙◌, rules}
use Rattle.std.specs.Prelude.{codes, encode_utf8_all}
use Rattle.std.specs.Str.{bytes_eq}
use Rattle.ocl_parser.specs.Grammar.{takes_class}
use Rattle.ocl_parser.proofs.paths.takes_class.Goals.{then-eq, else-eq}
use Rattle.ocl_parser.proofs.paths.takes_class.Goals as goal

-- a name that is neither of the first two words is the last or none
last_word : (name bytes : List ℕ) (kind type last : Bool) → bytes ≡ encode_utf8_all name → kind ≡ bytes_eq bytes (codes "oclIsKindOf") → type ≡ bytes_eq bytes (codes "oclIsTypeOf")
    → last ≡ bytes_eq bytes (codes "oclAsType") → kind ≡ false → type ≡ false → last ≡ takes_class name
unfolding takes_class
last_word name bytes kind type last is k t l none neither =
    let one : bytes_eq (encode_utf8_all name) (codes "oclIsKindOf") ≡ false = ap (λ (b : List ℕ). bytes_eq b (codes "oclIsKindOf")) (sym is) ∙ sym k ∙ none in
    let two : bytes_eq (encode_utf8_all name) (codes "oclIsTypeOf") ≡ false = ap (λ (b : List ℕ). bytes_eq b (codes "oclIsTypeOf")) (sym is) ∙ sym t ∙ neither in
    rw (one, two) (l ∙ ap (λ (b : List ℕ). bytes_eq b (codes "oclAsType")) is)

true_false : {X : Type 0} (b : Bool) → b ≡ true → b ≡ false → X
true_false b one two = search rules

pub returns-else-eq-2 : goal.returns-else-eq-2
returns-else-eq-2 c = elim c.if-eq.branch [
  | then-eq w ↦ true_false c.if-eq.value (w.value-is ∙ w.if-eq.true) c.if-eq-2.false
  | else-eq w ↦
      last_word c.args.name.now c.as_str-text.result.now c.eq.result w.eq-else-eq.result c.eq-else-eq-2.result c.as_str-text.ensures.bytes c.eq.ensures
      w.eq-else-eq.ensures c.eq-else-eq-2.ensures w.if-eq.false (sym w.value-is ∙ c.if-eq-2.false)
]
