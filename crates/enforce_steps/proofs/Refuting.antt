-- Wrong ends of an enforcement, and a wrong line, that the definitions exclude.
use Rattle.std.specs.Prelude.{◌≡◌, ◌<◌, ◌+◌, ℕ, true, false, List, [], ◌∷◌, codes, length, get_or}
use Rattle.std.specs.Fmt.{decimal}
use Rattle.std.proofs.Common.{refl, sym, ap, ◌∙◌, arith, true≢false}
use Rattle.std.proofs.lemmas.Fmt.{decimal_digit}
use Rattle.fault_lines.specs.Lines.{line}
use Rattle.object_tables.specs.Models.{ModelData}
use Rattle.repair_semantics.specs.declared.report.Report.{Report}
use Rattle.enforce_steps.specs.Endings.{Ended, unchanged, changed, OutputData}
use Rattle.enforce_steps.specs.StepTexts.{report_text, text_in}
use Rattle.enforce_steps.specs.EnforceAnswer.{IsFit, MadeEnds}
use Rattle.enforce_steps.specs.Readied.{IsFitted}

-- ---- what comes of a model that is made

-- its text is too long, and passes
pub long_text_passes : (o : OutputData) (text : List ℕ) (report : Report) (end : Ended) → o.limit < length text → IsFitted o text report end → ⊥
long_text_passes o text report end long fitted = let short = fitted.0 in omega (arith, long, short)

-- the same of the answer as a whole
pub long_model_is_fit : (o : OutputData) (made : ModelData) → o.limit < length (text_in o.form made) → IsFit o made → ⊥
long_model_is_fit o made long fit = let short = fit.short in omega (arith, long, short)

put_only_where : (text : List ℕ) (report : Report) (end : Ended) → end ≡ changed text report → MadeEnds text report end → report.unchanged ≡ false
put_only_where text report _ e (MadeEnds.same is) = absurd (cc)
put_only_where text report _ e (MadeEnds.mended is) = is

-- the text is put although nothing changes
pub put_although_nothing_changes : (text : List ℕ) (report : Report) → report.unchanged ≡ true → MadeEnds text report (changed text report) → ⊥
put_although_nothing_changes text report same put = true≢false (sym same ∙ put_only_where text report (changed text report) refl put)

-- ---- `done created 0 updated 1 deleted 0`

abbrev one_updated : Report
one_updated = record { created = 0; updated = 1; deleted = 0; unchanged = false }

abbrev one_deleted : Report
one_deleted = record { created = 0; updated = 1; deleted = 1; unchanged = false }

-- the line with these counts
abbrev done_line : List ℕ → List ℕ → List ℕ → List ℕ
done_line created updated deleted =
    line (codes "done" ∷ codes "created" ∷ created ∷ codes "updated" ∷ updated ∷ codes "deleted" ∷ deleted ∷ [])

-- of counts of one digit
digits : (r : Report) → r.created < 10 → r.updated < 10 → r.deleted < 10
    → report_text r ≡ done_line ((48 + r.created) ∷ []) ((48 + r.updated) ∷ []) ((48 + r.deleted) ∷ [])
digits r created updated deleted =
    ap (λ ds. done_line ds (decimal r.updated) (decimal r.deleted)) (decimal_digit r.created created)
    ∙ ap (λ ds. done_line ((48 + r.created) ∷ []) ds (decimal r.deleted)) (decimal_digit r.updated updated)
    ∙ ap (λ ds. done_line ((48 + r.created) ∷ []) ((48 + r.updated) ∷ []) ds) (decimal_digit r.deleted deleted)

-- the objects that are changed are told as those that are deleted
pub updated_told_as_deleted : report_text one_updated ≡ report_text one_deleted → ⊥
updated_told_as_deleted e =
    let zeros = digits one_updated (omega arith) (omega arith) (omega arith) in
    let ones = digits one_deleted (omega arith) (omega arith) (omega arith) in
    let apart : ◌≡◌ {A = ℕ} 48 49 = ap (λ text. get_or text 33 0) (sym zeros ∙ e ∙ ones) in
    omega (arith, apart)
