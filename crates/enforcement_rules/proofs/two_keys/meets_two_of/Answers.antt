use Rattle.std.proofs.Common.{◌≡◌, ◌∙◌, ℕ, List, None, replicate, length, sym, ap, subst}
use Rattle.std.specs.Prelude.{◌↔◌, IsTrue}
use Rattle.mof_metamodel.specs.declared.desc.MetaDesc.{MetaDesc}
use Rattle.enforcement_rules.specs.TwoKeys.{AreBelow, Marks, IsMarkable, IsMarking, MeetsTwo}
use Rattle.enforcement_rules.proofs.ListLaws.{if_ok}
use Rattle.enforcement_rules.proofs.TwoKeyLaws.{begin_markable, begin_marking}
use Rattle.enforcement_rules.proofs.two_keys.meets_two_of.Goals as goal

pub meets_two-requires : goal.meets_two-requires
meets_two-requires c =
    let graph : AreBelow c.args.meta.now c.as_slice.result.now = subst (AreBelow c.args.meta.now) (sym c.as_slice.ensures.value) c.in_ok-below.ensures in
    let empty : c.as_mut_slice.result.now ≡ replicate (length c.as_slice.result.now) None =
    c.as_mut_slice.ensures.value ∙ c.in_ok-marks.ensures ∙ ap (λ (n : ℕ). let ms : Marks = replicate n None in ms) (c.len.ensures ∙ sym c.as_slice.ensures.len) in
    subst (IsMarkable c.as_slice.result.now c.as_mut_slice.result.now) (sym c.in_ok-pending.ensures)
    (begin_markable c.args.meta.now c.as_slice.result.now c.as_mut_slice.result.now c.args.keyed.now graph empty c.requires)

pub returns : goal.returns
returns c =
    let graph : AreBelow c.args.meta.now c.as_slice.result.now = subst (AreBelow c.args.meta.now) (sym c.as_slice.ensures.value) c.in_ok-below.ensures in
    let empty : c.as_mut_slice.result.now ≡ replicate (length c.as_slice.result.now) None =
    c.as_mut_slice.ensures.value ∙ c.in_ok-marks.ensures ∙ ap (λ (n : ℕ). let ms : Marks = replicate n None in ms) (c.len.ensures ∙ sym c.as_slice.ensures.len) in
    if_ok c.meets_two.result
    (λ b. (desc : MetaDesc) (keyed : List ℕ) → AreBelow desc c.as_slice.result.now → IsMarking desc keyed c.as_mut_slice.result.now c.in_ok-pending.pending → IsTrue b ↔ MeetsTwo desc keyed)
    (λ b. IsTrue b ↔ MeetsTwo c.args.meta.now c.args.keyed.now)
    (λ b h. h c.args.meta.now c.args.keyed.now graph (subst (IsMarking c.args.meta.now c.args.keyed.now c.as_mut_slice.result.now) (sym c.in_ok-pending.ensures)
    (begin_marking c.args.meta.now c.as_slice.result.now c.as_mut_slice.result.now c.args.keyed.now graph empty c.requires)))
    c.meets_two.ensures
