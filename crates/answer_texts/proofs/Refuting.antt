-- A wrong text of a failing binding, which the definition excludes: of a relation with an existential variable alone.
use Rattle.std.specs.Prelude.{◌≡◌, ℕ, List, [], ◌∷◌, codes, get_or}
use Rattle.std.specs.List.{concat}
use Rattle.std.proofs.Common.{refl, ap, arith}
use Rattle.fault_lines.specs.Lines.{shown}
use Rattle.qv_syntax.specs.declared.program.Rel.{Rel}
use Rattle.qvtr_semantics.specs.SmallModels.{package_to_schema}
use Rattle.answer_texts.specs.Question.{Question}
use Rattle.answer_texts.specs.AnswerTexts.{variable_line, failing_text}

abbrev made_alone : Rel
made_alone = record package_to_schema { name = codes "R"; universal = []; existential = 2 ∷ [] }

-- the lines of the failing binding without a value, with those of these variables
abbrev text_with : Question → List ℕ → List ℕ
text_with q variables = failing_text q (record made_alone { universal = variables }) []

pub no_variable_is_told : (q : Question) → failing_text q made_alone [] ≡ concat (codes "no\n" ∷ codes "relation " ∷ shown made_alone.name ∷ codes "\n" ∷ [])
no_variable_is_told q = refl

-- the existential variables are told: a blank stands behind the line of the relation
pub existential_variables_told : (q : Question) → failing_text q made_alone [] ≡ text_with q made_alone.existential → ⊥
unfolding lib.Utf8.encode
existential_variables_told q e = let apart : ◌≡◌ {A = ℕ} 0 32 = ap (λ text. get_or text 14 0) e in omega (arith, apart)
