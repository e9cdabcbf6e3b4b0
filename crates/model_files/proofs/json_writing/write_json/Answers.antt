use Rattle.std.proofs.Common.{◌++◌, ◌∙◌, ◌≤◌, ℕ, [], ◌∷◌, Vec, Global, Some, sym, ap, subst, string_bytes}
use Rattle.serde_json.specs.Data.{depth}
use Rattle.serde_json.specs.Read.{max_depth}
use Rattle.serde_json.specs.Written.{has_float, compact_text}
use Rattle.model_files.proofs.DepthLaws.{model_below}
use Rattle.model_files.proofs.JsonLaws.{model_without}
use Rattle.model_files.proofs.json_writing.write_json.Goals as goal

pub returns-clause-text : goal.returns-clause-text
returns-clause-text c =
    c.in_ok-push.ensures.ok
    ∙ ap (λ xs. xs ++ 10 ∷ [])
    (c.from_vec-bytes.ensures ∙ ap (λ (v : Vec ℕ Global). v.items) c.into_bytes.ensures.value
    ∙ c.in_ok-text.ensures.text (ap has_float c.in_ok-model_value.ensures ∙ model_without c.args.model.now)
    ∙ ap compact_text c.in_ok-model_value.ensures)

pub returns-clause-reads : goal.returns-clause-reads
returns-clause-reads c =
    let m = c.args.model.now in (
      string_bytes c.in_ok-text.text,
      c.in_ok-push.ensures.ok ∙ ap (λ xs. xs ++ 10 ∷ []) (c.from_vec-bytes.ensures ∙ ap (λ (v : Vec ℕ Global). v.items) c.into_bytes.ensures.value),
      c.in_ok-text.ensures.reads_back (subst (λ d. depth d ≤ max_depth) (sym c.in_ok-model_value.ensures) (model_below m))
          ∙ ap Some c.in_ok-model_value.ensures,
    )
