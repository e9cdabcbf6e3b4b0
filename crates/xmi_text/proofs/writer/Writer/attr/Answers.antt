use Rattle.std.proofs.Common.{◌∙◌, ℕ, List, Ok, Err, Result, Option, ap, refl}
use Rattle.std.proofs.lemmas.Result.{IfOk-from_err, MatchResult-from_err}
use Rattle.std.specs.Prelude.{OnErr}
use Rattle.xmi_text.specs.Writing.{Written, names_of}
use Rattle.xmi_text.proofs.writer.Writer.attr.Goals as goal

both_err : {T E : Type 0} (r : Result T E) (P Q R : Type 0) → (P → Q → R) → OnErr r P → OnErr r Q → OnErr r R
both_err (Ok x) P Q R f p q = p
both_err (Err x) P Q R f p q = f p q

pub returns-in_err-push-clause-ok : goal.returns-in_err-push-clause-ok
returns-in_err-push-clause-ok c = IfOk-from_err c.from_residual.result _ c.from_residual.ensures.0

pub returns-in_err-push-clause-err : goal.returns-in_err-push-clause-err
returns-in_err-push-clause-err c = MatchResult-from_err c.from_residual.result _ _ c.from_residual.ensures.0 (λ e. refl)

pub returns-in_err-push_str-clause-ok : goal.returns-in_err-push_str-clause-ok
returns-in_err-push_str-clause-ok c = IfOk-from_err c.from_residual-in_err-push_str.result _ c.from_residual-in_err-push_str.ensures.0

pub returns-in_err-push_str-clause-err : goal.returns-in_err-push_str-clause-err
returns-in_err-push_str-clause-err c = MatchResult-from_err c.from_residual-in_err-push_str.result _ _ c.from_residual-in_err-push_str.ensures.0 (λ e. refl)

pub returns-in_err-push-2-clause-ok : goal.returns-in_err-push-2-clause-ok
returns-in_err-push-2-clause-ok c = IfOk-from_err c.from_residual-in_err-push-2.result _ c.from_residual-in_err-push-2.ensures.0

pub returns-in_err-push-2-clause-err : goal.returns-in_err-push-2-clause-err
returns-in_err-push-2-clause-err c = MatchResult-from_err c.from_residual-in_err-push-2.result _ _ c.from_residual-in_err-push-2.ensures.0 (λ e. refl)

pub returns-in_err-push-3-clause-ok : goal.returns-in_err-push-3-clause-ok
returns-in_err-push-3-clause-ok c = IfOk-from_err c.from_residual-in_err-push-3.result _ c.from_residual-in_err-push-3.ensures.0

pub returns-in_err-push-3-clause-err : goal.returns-in_err-push-3-clause-err
returns-in_err-push-3-clause-err c = MatchResult-from_err c.from_residual-in_err-push-3.result _ _ c.from_residual-in_err-push-3.ensures.0 (λ e. refl)

pub returns-in_err-escape-clause-ok : goal.returns-in_err-escape-clause-ok
returns-in_err-escape-clause-ok c = IfOk-from_err c.from_residual-in_err-escape.result _ c.from_residual-in_err-escape.ensures.0

pub returns-in_err-escape-clause-err : goal.returns-in_err-escape-clause-err
returns-in_err-escape-clause-err c = MatchResult-from_err c.from_residual-in_err-escape.result _ _ c.from_residual-in_err-escape.ensures.0 (λ e. refl)

pub returns-in_err-push-4-clause-ok : goal.returns-in_err-push-4-clause-ok
returns-in_err-push-4-clause-ok c = IfOk-from_err c.from_residual-in_err-push-4.result _ c.from_residual-in_err-push-4.ensures.0

pub returns-in_err-push-4-clause-err : goal.returns-in_err-push-4-clause-err
returns-in_err-push-4-clause-err c = MatchResult-from_err c.from_residual-in_err-push-4.result _ _ c.from_residual-in_err-push-4.ensures.0 (λ e. refl)

pub returns-in_err-name-clause-ok : goal.returns-in_err-name-clause-ok
returns-in_err-name-clause-ok c = IfOk-from_err c.from_residual-in_err-name.result _ c.from_residual-in_err-name.ensures.0

pub returns-in_err-name-clause-err : goal.returns-in_err-name-clause-err
returns-in_err-name-clause-err c = MatchResult-from_err c.from_residual-in_err-name.result _ _ c.from_residual-in_err-name.ensures.0 (λ e. refl)

pub returns-clause-err : goal.returns-clause-err
returns-clause-err c =
    let view : List ℕ → Option (List (List ℕ)) → Written = λ (text : List ℕ) (names : Option (List (List ℕ))). record { text = text; rooted = c.self.inside.rooted; elements = c.self.inside.elements.items; names = names } in
    both_err c.put.result _ _ _ (λ names text.
    ap (λ t. view t (names_of c.self.inside.in_tag c.put.new.names.items)) text
    ∙ (ap (λ n. view c.self.inside.text (names_of c.self.inside.in_tag n)) names ∙ c.self.view_is)) c.put.ensures.same_names c.put.ensures.same_text
