-- A metamodel with two colors, and values with which the definitions are computed.
use Rattle.std.specs.Prelude.{ℕ, pos, List, [], ◌∷◌, codes}
use Rattle.mof_metamodel.specs.declared.desc.MetaDesc.{MetaDesc}
use Rattle.object_tables.specs.declared.value.Value.TheVariants as values
use Rattle.qv_syntax.specs.declared.ty.Ty.{Ty}
use Rattle.qv_syntax.specs.declared.ty.Ty.TheVariants as types
use Rattle.qvtr_semantics.specs.declared.datum.Datum.{Datum}
use Rattle.qvtr_semantics.specs.declared.datum.Datum.TheVariants.{Val}
use Rattle.qvtr_semantics.specs.Objects.{Setting}

abbrev pub colors : List MetaDesc
colors = record { name = codes "Colors"; classes = []; enums = record { name = codes "Color"; literals = codes "red" ∷ codes "green" ∷ [] } ∷ [] } ∷ []

abbrev pub no_models : Setting
no_models = record { slots = []; models = [] }

abbrev pub color : Ty
color = types.Enum 0 (record { 0 = 0 })

abbrev pub color_of : ℕ → Datum
color_of place = Val 0 (values.Lit (record { 0 = 0 }) place)

abbrev pub text_of : List ℕ → Datum
text_of text = Val 0 (values.Str text)

abbrev pub number_of : ℕ → Datum
number_of n = Val 0 (values.Int (pos n))
