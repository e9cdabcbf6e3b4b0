-- What navigation to a property gives (OCL 2.4, section 7.5.3).
use Rattle.std.specs.Prelude.{ℕ, Bool, false, nat_le, if◌then◌else◌, Option, None, Some}
use Rattle.mof_metamodel.specs.declared.desc.PropDesc.{PropDesc}
use Rattle.mof_metamodel.specs.declared.desc.PropType.{PropType}
use Rattle.mof_metamodel.specs.declared.desc.PropType.TheVariants as props
use Rattle.qv_syntax.specs.declared.ty.Ty.{Ty}
use Rattle.qv_syntax.specs.declared.ty.Ty.TheVariants as types
use Rattle.qv_syntax.specs.declared.type_tree.Kind.TheVariants as kinds
use Rattle.qv_syntax.specs.declared.typed.Values.{Values}
use Rattle.qv_syntax.specs.declared.typed.Values.TheVariants as values

-- the type of a value, in the metamodel of number m
abbrev pub value_type : ℕ → PropType → Ty
value_type m props.Str = types.Str
value_type m props.Int = types.Int
value_type m props.Bool = types.Bool
value_type m (props.Enum e) = types.Enum m e
value_type m (props.Class c) = types.Class m c

-- a bound of at most one value
abbrev pub is_single : Option ℕ → Bool
is_single None = false
is_single (Some n) = nat_le n 1

-- one value or null, or else a collection
abbrev pub values_of : PropDesc → Values
values_of prop = if is_single prop.upper then values.Single else if prop.ordered then values.OrderedSet else values.Set

-- the type of what navigation gives, of the type of one value
abbrev pub navigated : Values → Ty → Ty
navigated values.Single ty = ty
navigated values.Set ty = types.Coll kinds.Set ty
navigated values.OrderedSet ty = types.Coll kinds.OrderedSet ty
