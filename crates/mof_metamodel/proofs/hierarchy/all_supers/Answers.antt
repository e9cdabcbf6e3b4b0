use Rattle.std.proofs.Common.{◌≡◌, ◌<◌, ap, ◌∙◌, arith, sym, subst, List, get_or, map}
use Rattle.std.specs.List.{filter_map}
use Rattle.mof_metamodel.specs.declared.desc.ClassDesc.{ClassDesc}
use Rattle.mof_metamodel.specs.Metamodels.{class_count, class_number, class_at, supers_of}
use Rattle.mof_metamodel.specs.Tables.{class_numbers}
use Rattle.mof_metamodel.proofs.TableLemmas.{class_is, row_more}
use Rattle.mof_metamodel.proofs.hierarchy.all_supers.Goals as goal

pub loop-class-preserved : goal.loop-class-preserved
loop-class-preserved c =
    let all : c.as_slice-class-items.result.now ≡ c.args.named.now.classes = c.as_slice-class-items.ensures ∙ ap (λ d. d.classes) c.desc.ensures in
    let P : List ClassDesc → Type 0 = λ xs. c.class-item.result ≡ get_or xs c.loop-class.class-index c.class-item.result in
    let short : c.loop-class.class-index < class_count c.args.named.now = rw (← all) (omega arith) in
    let is : class_at c.args.named.now c.loop-class.class-index ≡ c.class-item.result = class_is c.args.named.now c.loop-class.class-index c.class-item.result short (subst P all c.class-item.is) in
    let row : class_numbers c.in_ok-ids.ids ≡ supers_of c.args.named.now c.loop-class.class-index =
    c.in_ok-ids.ensures ∙ ap (filter_map (class_number c.args.named.now)) (c.as_slice.ensures ∙ ap (λ x. x.supers) (sym is)) in
    ap (map class_numbers) c.in_ok-push.ensures.items ∙ row_more class_numbers c.loop-class.supers.items (supers_of c.args.named.now) c.loop-class.class-index c.in_ok-ids.ids c.loop-class.invariant row
