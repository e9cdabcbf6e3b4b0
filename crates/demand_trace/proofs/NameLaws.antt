-- What is named of what isn't there.
use Rattle.std.specs.Prelude.{◌≡◌, ◌≤◌, ℕ, List, [], ◌∷◌, ◌++◌, codes, length, slice_index_or}
use Rattle.std.specs.Str.{chars}
use Rattle.std.proofs.Common.{refl, ap}
use Rattle.std.proofs.lemmas.List.{get_or_past}
use Rattle.mof_metamodel.specs.declared.desc.ClassDesc.{ClassDesc}
use Rattle.mof_metamodel.specs.declared.desc.EnumDesc.{EnumDesc}
use Rattle.mof_metamodel.specs.declared.desc.MetaDesc.{MetaDesc}
use Rattle.mof_metamodel.specs.Metamodels.{class_count, class_at, no_class, enum_count, enum_at, literal_at, no_enum}
use Rattle.ocl_environments.specs.Environments.{meta_at, no_meta}
use Rattle.demand_trace.specs.Traces.{literal_name}

pub no_characters : chars [] ≡ []
unfolding chars
no_characters = refl

pub two_colons : chars (codes "::") ≡ codes "::"
unfolding chars
two_colons = refl

-- an enumeration, or a literal of one, that the metamodel doesn't have
pub no_enumeration : (meta : MetaDesc) (e : ℕ) → enum_count meta ≤ e → (enum_at meta e).name ≡ []
no_enumeration meta e le = ap (λ (d : EnumDesc). d.name) (get_or_past meta.enums e no_enum le)

pub no_literal : (meta : MetaDesc) (e n : ℕ) → enum_count meta ≤ e → literal_at meta e n ≡ []
no_literal meta e n le = ap (λ (d : EnumDesc). slice_index_or d.literals n []) (get_or_past meta.enums e no_enum le)

-- a class that it doesn't have
pub no_class_name : (meta : MetaDesc) (c : ℕ) → class_count meta ≤ c → (class_at meta c).name ≡ []
no_class_name meta c le = ap (λ (d : ClassDesc). d.name) (get_or_past meta.classes c no_class le)

-- a literal of a metamodel that isn't there
pub no_metamodel : (metas : List MetaDesc) (m e n : ℕ) → length metas ≤ m → literal_name (meta_at metas m) e n ≡ codes "::"
no_metamodel metas m e n le = ap (λ meta. literal_name meta e n) (get_or_past metas m no_meta le)
