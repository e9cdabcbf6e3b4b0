-- Values that name a literal.
use Rattle.std.specs.Prelude.{Bool, true, nat_lt, length}
use Rattle.mof_metamodel.specs.declared.desc.MetaDesc.{MetaDesc}
use Rattle.mof_metamodel.specs.Metamodels.{enum_at}
use Rattle.object_tables.specs.declared.value.Value.{Value}
use Rattle.object_tables.specs.declared.value.Value.TheVariants as values

-- a literal is one of its enumeration
abbrev pub names_literal : MetaDesc → Value → Bool
names_literal meta (values.Lit e n) = nat_lt n (length (enum_at meta e.0).literals)
names_literal meta v = true
