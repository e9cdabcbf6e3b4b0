use Rattle.std.proofs.Common.{length, sym, subst}
use Rattle.model_assembly.specs.AssemblyLinks.{IsLinkedTo}
use Rattle.model_assembly.specs.AssemblyModels.{IsSameButLinks}
use Rattle.model_assembly.specs.AssemblyObjects.{bare_model}
use Rattle.model_assembly.specs.AssemblyOrders.{StandByNumber}
use Rattle.model_assembly.specs.AssemblyValues.{HasValues}
use Rattle.model_assembly.proofs.assembling.SameLaws.{same_linked_all}
use Rattle.model_assembly.proofs.assembling.StartLaws.{ready}
use Rattle.model_assembly.proofs.assembly.models.linked_model.Goals as goal

pub link_all-requires-clause-within : goal.link_all-requires-clause-within
link_all-requires-clause-within c =
    let f = c.args.filed in
    let m = c.in_ok-model.model in
    let v : HasValues (bare_model c.args.meta.now f.classes f.ids) f.values m =
    subst (λ cs. HasValues (bare_model c.args.meta.now cs f.ids) f.values m) c.as_slice.ensures (subst (λ is. HasValues (bare_model c.args.meta.now c.as_slice.result.now is) f.values m) c.as_slice-2.ensures c.in_ok-model.ensures) in
    (ready c.args.meta.now f c.args.namings.now m c.requires.sound c.requires.answered v c.end.ensures.kept).within

pub link_all-requires-clause-empty : goal.link_all-requires-clause-empty
link_all-requires-clause-empty c =
    let f = c.args.filed in
    let m = c.in_ok-model.model in
    let v : HasValues (bare_model c.args.meta.now f.classes f.ids) f.values m =
    subst (λ cs. HasValues (bare_model c.args.meta.now cs f.ids) f.values m) c.as_slice.ensures (subst (λ is. HasValues (bare_model c.args.meta.now c.as_slice.result.now is) f.values m) c.as_slice-2.ensures c.in_ok-model.ensures) in
    (ready c.args.meta.now f c.args.namings.now m c.requires.sound c.requires.answered v c.end.ensures.kept).empty

pub link_all-requires-clause-may : goal.link_all-requires-clause-may
link_all-requires-clause-may c =
    let f = c.args.filed in
    let m = c.in_ok-model.model in
    let v : HasValues (bare_model c.args.meta.now f.classes f.ids) f.values m =
    subst (λ cs. HasValues (bare_model c.args.meta.now cs f.ids) f.values m) c.as_slice.ensures (subst (λ is. HasValues (bare_model c.args.meta.now c.as_slice.result.now is) f.values m) c.as_slice-2.ensures c.in_ok-model.ensures) in
    (ready c.args.meta.now f c.args.namings.now m c.requires.sound c.requires.answered v c.end.ensures.kept).may

pub returns-2 : goal.returns-2
returns-2 c =
    let f = c.args.filed in
    let m = c.in_ok-model.model in
    let xs = c.args.namings.now in
    let v : HasValues (bare_model c.args.meta.now f.classes f.ids) f.values m =
    subst (λ cs. HasValues (bare_model c.args.meta.now cs f.ids) f.values m) c.as_slice.ensures (subst (λ is. HasValues (bare_model c.args.meta.now c.as_slice.result.now is) f.values m) c.as_slice-2.ensures c.in_ok-model.ensures) in
    let done = ready c.args.meta.now f xs m c.requires.sound c.requires.answered v c.end.ensures.kept in
    record {
      start = m;
      values = v;
      links = subst (IsLinkedTo m xs (length xs)) (sym c.in-Ok-or_drop.ensures) done.linked;
      by_number = subst (StandByNumber xs) (sym c.in-Ok-or_drop.ensures) done.by_number;
      same = subst (IsSameButLinks m) (sym c.in-Ok-or_drop.ensures) (same_linked_all m xs);
    }
