use Rattle.std.proofs.Common.{[], ◌∷◌, ◌++◌, ap, ◌∙◌, chars, append_assoc}
use Rattle.example_models.proofs.names.inside.Goals as goal

pub returns : goal.returns
returns c =
    c.in_ok-push_str.ensures.ok ∙ ap (λ xs. xs ++ chars c.as_str.result.now) c.in_ok-push.ensures.ok
    ∙ ap (λ ys. (c.args.outer ++ 46 ∷ []) ++ ys) c.as_str.ensures.characters ∙ append_assoc c.args.outer (46 ∷ []) c.args.name.now
