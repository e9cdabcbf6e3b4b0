use Rattle.std.proofs.Common.{ap, sym, ◌∙◌, subst, Some}
use Rattle.mof_metamodel.specs.declared.desc.PropType.{PropType}
use Rattle.mof_metamodel.specs.Metamodels.{IsTypeOf}
use Rattle.object_tables.specs.Models.{is_value_of}
use Rattle.object_tables.proofs.model.contents.is_of_type.Goals as goal

pub returns-in-Str : goal.returns-in-Str
returns-in-Str c = c.is_storable_text.ensures c.args.meta.now ∙ ap (λ (t : PropType). is_value_of c.args.meta.now (Some t) c.args.value.now) (sym c.in-Str.is)

pub returns-in-Int : goal.returns-in-Int
returns-in-Int c = c.is_integer.ensures c.args.meta.now ∙ ap (λ (t : PropType). is_value_of c.args.meta.now (Some t) c.args.value.now) (sym c.in-Int.is)

pub returns-in-Bool : goal.returns-in-Bool
returns-in-Bool c = c.is_boolean.ensures c.args.meta.now ∙ ap (λ (t : PropType). is_value_of c.args.meta.now (Some t) c.args.value.now) (sym c.in-Bool.is)

pub is_literal_of-requires : goal.is_literal_of-requires
is_literal_of-requires c = subst (λ (t : PropType). IsTypeOf c.args.meta.now t) c.in-Enum.is c.requires
