use Rattle.std.proofs.Common.{◌≡◌, ℕ, List, [], ◌∷◌, codes, IfOk, sym, subst}
use Rattle.model_assembly.specs.declared.fault.ModelFault.{ModelFault}
use Rattle.fault_lines.specs.Lines as lines
use Rattle.model_files.specs.FaultTexts as texts
use Rattle.model_files.proofs.printing.content_text.Goals as goal

pub returns-in-UnknownClass : goal.returns-in-UnknownClass
returns-in-UnknownClass c =
    subst (λ (f : ModelFault). IfOk c.refused_line.result (λ text. text ≡ lines.line (texts.content_words c.args.meta.now c.args.path.now f))) (sym c.in-UnknownClass.is)
    (subst (λ (d : List ℕ). IfOk c.refused_line.result (λ text. text ≡ lines.line (lines.refused c.args.path.now (codes "UnknownClass") (d ∷ [])))) c.shown.ensures
    c.refused_line.ensures)

pub returns-in-UnknownProperty : goal.returns-in-UnknownProperty
returns-in-UnknownProperty c =
    subst (λ (f : ModelFault). IfOk c.refused_two.result (λ text. text ≡ lines.line (texts.content_words c.args.meta.now c.args.path.now f))) (sym c.in-UnknownProperty.is)
    (subst (λ (d : List ℕ). IfOk c.refused_two.result (λ text. text ≡ lines.line (lines.refused c.args.path.now (codes "UnknownProperty") (d ∷ lines.shown c.in-UnknownProperty.prop ∷ [])))) c.shown-in-UnknownProperty.ensures
    (subst (λ (d : List ℕ). IfOk c.refused_two.result (λ text. text ≡ lines.line (lines.refused c.args.path.now (codes "UnknownProperty") (c.shown-in-UnknownProperty.result.now ∷ d ∷ [])))) c.shown-in-UnknownProperty-2.ensures
    c.refused_two.ensures))

pub returns-in-DuplicateId : goal.returns-in-DuplicateId
returns-in-DuplicateId c =
    subst (λ (f : ModelFault). IfOk c.refused_line-in-DuplicateId.result (λ text. text ≡ lines.line (texts.content_words c.args.meta.now c.args.path.now f))) (sym c.in-DuplicateId.is)
    (subst (λ (d : List ℕ). IfOk c.refused_line-in-DuplicateId.result (λ text. text ≡ lines.line (lines.refused c.args.path.now (codes "DuplicateId") (d ∷ [])))) c.shown-in-DuplicateId.ensures
    c.refused_line-in-DuplicateId.ensures)

pub returns-in-TwoContainers : goal.returns-in-TwoContainers
returns-in-TwoContainers c =
    subst (λ (f : ModelFault). IfOk c.refused_line-in-TwoContainers.result (λ text. text ≡ lines.line (texts.content_words c.args.meta.now c.args.path.now f))) (sym c.in-TwoContainers.is)
    (subst (λ (d : List ℕ). IfOk c.refused_line-in-TwoContainers.result (λ text. text ≡ lines.line (lines.refused c.args.path.now (codes "TwoContainers") (d ∷ [])))) c.shown-in-TwoContainers.ensures
    c.refused_line-in-TwoContainers.ensures)
