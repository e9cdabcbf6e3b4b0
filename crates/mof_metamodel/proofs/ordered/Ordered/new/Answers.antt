use Rattle.std.proofs.Common.{◌≡◌, ap, ◌∙◌, sym, subst, map}
use Rattle.std.specs.Option.{is_some}
use Rattle.std.specs.List.{list_all}
use Rattle.std.proofs.lemmas.Result.{IfOk-at_ok}
use Rattle.mof_metamodel.specs.declared.desc.MetaDesc.{MetaDesc}
use Rattle.mof_metamodel.specs.Metamodels.{class_count, props_of}
use Rattle.mof_metamodel.specs.Tables.{prop_numbers, table, AreHeirs}
use Rattle.mof_metamodel.proofs.OrderLemmas.{grounded_is}
use Rattle.mof_metamodel.proofs.ordered.Ordered.new.Goals as goal

pub invariant_of-result : goal.invariant_of-result
invariant_of-result c =
    let P : MetaDesc → Type 0 = λ d. map prop_numbers c.in-Ok-prop_orders.value.items ≡ table (props_of d) (class_count d) in
    let Q : MetaDesc → Type 0 = λ d. AreHeirs d (class_count d) c.in-Ok-heirs.value.items in
    record {
      grounded_is = λ h. grounded_is c.args.hierarchy c.in-Ok.value.items (IfOk-at_ok _ c.in-Ok.is c.all_lines.ensures)
          (sym (c.all_found-grounded.ensures ∙ ap (λ xs. list_all (λ o. is_some o) xs) c.as_slice.ensures.value) ∙ h);
      props_are = subst P c.named-named.ensures (IfOk-at_ok _ c.in-Ok-prop_orders.is c.prop_orders.ensures);
      heirs_are = subst Q c.named-named.ensures (IfOk-at_ok _ c.in-Ok-heirs.is c.all_heirs-heirs.ensures);
    }
