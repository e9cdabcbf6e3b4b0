use Rattle.std.proofs.Common.{subst}
use Rattle.std.proofs.lemmas.Result.{IfOk-at_ok}
use Rattle.mof_metamodel.specs.declared.desc.MetaDesc.{MetaDesc}
use Rattle.mof_metamodel.specs.Metamodels.{declared_props}
use Rattle.mof_metamodel.specs.Tables.{ArePropsOf, Numbers}
use Rattle.mof_metamodel.proofs.LineageLemmas.{grounded_from_acyclic}
use Rattle.mof_metamodel.proofs.WellLemmas.{well_from_searched}
use Rattle.mof_metamodel.proofs.meta.MetaModel.tabled.Goals as goal

pub invariant_of-result : goal.invariant_of-result
invariant_of-result c =
    let P : MetaDesc → Type 0 = λ d. ArePropsOf d c.in-Ok.value in
    let Q : MetaDesc → Type 0 = λ d. Numbers (λ x. x.1.name) (declared_props d) c.in-Ok-all_names.value in
    record {
      well = well_from_searched c.args.ordered c.requires;
      grounded = grounded_from_acyclic c.args.ordered c.requires.acyclic;
      props_are = subst P c.named.ensures (IfOk-at_ok _ c.in-Ok.is c.resolved_props.ensures);
      names_are = subst Q c.named-2.ensures (IfOk-at_ok _ c.in-Ok-all_names.is c.all_names.ensures);
      holders_are = IfOk-at_ok _ c.in-Ok-all_holders.is c.all_holders.ensures;
    }
