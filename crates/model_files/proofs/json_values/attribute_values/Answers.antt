use Rattle.std.proofs.Common.{List, IsTrue, sym, subst}
use Rattle.std.specs.Prelude.{All}
use Rattle.mof_metamodel.specs.declared.desc.MetaDesc.{MetaDesc}
use Rattle.mof_metamodel.specs.Metamodels.{type_of}
use Rattle.object_tables.specs.declared.value.Value.{Value}
use Rattle.object_tables.specs.Models.{values_at}
use Rattle.model_files.specs.Literals.{names_literal}
use Rattle.model_files.proofs.JsonLaws.{all_named}
use Rattle.model_files.proofs.json_values.attribute_values.Goals as goal

pub data_values-requires : goal.data_values-requires
data_values-requires c =
    let m = c.args.model.now in
    let named = all_named m.meta (type_of m.meta c.args.p.0) (values_at m c.args.o.0 c.args.p.0) (c.end.ensures.kept.attributes c.args.o.0 c.args.p.0 c.requires).values.typed in
    subst (λ (meta : MetaDesc). All (λ v. IsTrue (names_literal meta v)) c.attr.result.now) (sym c.meta.ensures)
    (subst (λ (vs : List Value). All (λ v. IsTrue (names_literal m.meta v)) vs) (sym c.attr.ensures) named)
