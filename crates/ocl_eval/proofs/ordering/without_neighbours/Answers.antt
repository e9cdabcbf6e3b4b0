use Rattle.std.proofs.Common.{◌∙◌, ap, rules}
use Rattle.std.specs.List.{dedup}
use Rattle.std.proofs.lemmas.Fn.{dedup_same}
use Rattle.qvtr_semantics.specs.Data.{same_datum}
use Rattle.ocl_eval.proofs.ordering.without_neighbours.Goals as goal

pub returns : goal.returns
returns c = c.from_vec.ensures ∙ dedup_same _ same_datum _ (λ x y b f' x' y' k. search rules) _ _ c.dedup_by.ensures.filtered ∙ ap (dedup same_datum) c.into_vec-data.ensures
