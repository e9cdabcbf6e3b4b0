use Rattle.std.proofs.Common.{◌∙◌, ◌<◌, ℕ, length, ap, sym, subst}
use Rattle.object_tables.proofs.ListLemmas.{on_ok}
use Rattle.model_assembly.specs.AssemblyValues.{valued, HasValues, IsSortedValues, MayStand}
use Rattle.model_assembly.proofs.assembling.SortedLaws.{all_may, values_put}
use Rattle.model_assembly.proofs.assembly.values.put_values.Goals as goal

pub set_all-requires : goal.set_all-requires
set_all-requires c =
    let m = c.args.model.now in
    let ys = c.sort.new.values.items in
    let sorted : IsSortedValues c.args.values ys = subst (λ xs. IsSortedValues xs ys) c.into_vec-values.ensures c.in_ok-sort.ensures in
    subst (λ vs. (i : ℕ) → i < length vs → MayStand (valued m vs i) vs i) (sym c.as_slice-all.ensures.value) (all_may m c.args.values ys sorted c.requires c.end.ensures.kept)

pub returns : goal.returns
returns c =
    let m = c.args.model.now in
    let ys = c.sort.new.values.items in
    let sorted : IsSortedValues c.args.values ys = subst (λ xs. IsSortedValues xs ys) c.into_vec-values.ensures c.in_ok-sort.ensures in
    on_ok c.set_all.result
    (λ e. subst (HasValues m c.args.values) (sym (e ∙ ap (λ vs. valued m vs (length vs)) c.as_slice-all.ensures.value)) (values_put m c.args.values ys sorted c.requires c.end.ensures.kept))
    c.set_all.ensures
