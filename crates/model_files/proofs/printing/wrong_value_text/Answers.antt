use Rattle.std.proofs.Common.{◌≡◌, ℕ, List, [], ◌∷◌, codes, IfOk, sym, subst, Option}
use Rattle.fault_lines.specs.Lines as lines
use Rattle.model_files.specs.FaultTexts as texts
use Rattle.model_files.proofs.printing.wrong_value_text.Goals as goal

pub returns-in-Some : goal.returns-in-Some
returns-in-Some c =
    subst (λ (o : Option (List ℕ)). IfOk c.refused_two.result (λ text. text ≡ lines.line (texts.wrong_value_words c.args.path.now c.args.id.now o))) (sym c.in-Some.is)
    (subst (λ (d : List ℕ). IfOk c.refused_two.result (λ text. text ≡ lines.line (lines.refused c.args.path.now (codes "WrongValue") (d ∷ lines.shown c.in-Some.prop ∷ [])))) c.shown.ensures
    (subst (λ (d : List ℕ). IfOk c.refused_two.result (λ text. text ≡ lines.line (lines.refused c.args.path.now (codes "WrongValue") (c.shown.result.now ∷ d ∷ [])))) c.shown-in-Some.ensures
    c.refused_two.ensures))

pub returns-in-None : goal.returns-in-None
returns-in-None c =
    subst (λ (o : Option (List ℕ)). IfOk c.refused_line.result (λ text. text ≡ lines.line (texts.wrong_value_words c.args.path.now c.args.id.now o))) (sym c.in-None.is)
    (subst (λ (d : List ℕ). IfOk c.refused_line.result (λ text. text ≡ lines.line (lines.refused c.args.path.now (codes "WrongValue") (d ∷ [])))) c.shown-in-None.ensures
    c.refused_line.ensures)
