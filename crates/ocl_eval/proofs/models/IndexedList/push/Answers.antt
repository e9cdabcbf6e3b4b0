use Rattle.std.proofs.Common.{◌≡◌, [], ◌∷◌, ◌++◌, true, if◌then◌else◌, None, ap, sym, subst, ◌∙◌, rules}
use Rattle.std.specs.Prelude.{IfSome, is_ok}
use Rattle.key_index.specs.Indexes.{IsIndexOf}
use Rattle.ocl_eval.specs.Indexes.{AreIndexes}
use Rattle.ocl_eval.proofs.IndexLaws.{zip_push}
use Rattle.ocl_eval.proofs.models.IndexedList.push.Goals as goal

pub invariant_of-self-else-is_err : goal.invariant_of-self-else-is_err
invariant_of-self-else-is_err g c =
    let model = g.T.Modelled.model in
    let items = c.self.inside.items.items in
    let indexes = c.self.inside.indexes.items in
    let ok : is_ok c.push-2.result ≡ true = search rules in
    let pushed = c.push-2.ensures.items ∙ ap (λ b. if b then items ++ c.args.item ∷ [] else items) ok in
    subst (λ xs. AreIndexes model xs c.push.new.self.items) (sym pushed)
    (subst (AreIndexes model (items ++ c.args.item ∷ [])) (sym c.in_ok-push.ensures.items)
    (zip_push (λ m index. IfSome index (IsIndexOf (model m))) items indexes c.args.item None c.self.invariant tt))
