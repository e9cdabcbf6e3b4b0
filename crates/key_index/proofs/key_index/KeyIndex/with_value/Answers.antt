use Rattle.std.proofs.Common.{map, sym, subst, ap, ◌∙◌}
use Rattle.std.specs.Prelude.{filter}
use Rattle.key_index.specs.HolderOrder.{is_at}
use Rattle.key_index.specs.Holders.{AreHolders}
use Rattle.key_index.specs.Indexes.{IsIndexOf}
use Rattle.key_index.proofs.HolderLaws.{are_holders}
use Rattle.key_index.proofs.key_index.KeyIndex.with_value.Goals as goal

pub returns : goal.returns
returns c = λ m index.
    let p = c.args.prop.0 in
    let v = c.args.value.now in
    let holders = c.self.inside.holders.items in
    let is = c.holders_at.ensures ∙ ap (filter (is_at p v)) c.as_slice.ensures.value in
    subst (AreHolders m p v) (ap (map (λ h. h.object.0)) (sym is))
    (are_holders p v m holders (subst (IsIndexOf m) (sym c.self.view_is) index).holders c.self.invariant.0)
