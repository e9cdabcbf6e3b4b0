use Rattle.std.proofs.Common.{ap, ◌∙◌, ◌∷◌, [], sym, subst, length, get_or, false, List, Bool}
use Rattle.std.specs.List.{filter, range_with_len}
use Rattle.std.proofs.lemmas.Result.{IfOk-weaker}
use Rattle.mof_metamodel.specs.Metamodels.{class_count}
use Rattle.mof_metamodel.specs.Tables.{AreReached}
use Rattle.mof_metamodel.proofs.WalkLemmas.{reached_is}
use Rattle.mof_metamodel.proofs.lineages.reached_classes.Goals as goal

pub marked-requires : goal.marked-requires
marked-requires c =
    let n = c.class_count.ensures ∙ ap class_count c.named.ensures in
    ap length c.as_slice.ensures.value ∙ c.in_ok-marks.ensures.long ∙ sym n

pub returns : goal.returns
returns c =
    let n = c.class_count.ensures ∙ ap class_count c.named.ensures in
    IfOk-weaker c.marked.result _ _ (λ classes is.
    is ∙ ap (λ m. filter (λ d. get_or c.as_slice.result.now d false) (range_with_len 0 m)) n
    ∙ reached_is c.args.hierarchy.now c.args.c c.as_slice.result.now c.requires
    (let P : List Bool → Type 0 = λ marks. AreReached c.args.hierarchy.now (c.args.c ∷ []) marks in subst P (sym c.as_slice.ensures.value) c.in_ok-marks.ensures)) c.marked.ensures
