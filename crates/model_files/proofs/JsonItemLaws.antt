-- The value that an item is, type by type.
use Rattle.std.proofs.Common.{◌≡◌, refl, Some}
use Rattle.serde_json.specs.Data.{Data, null, boolean, number, string, array, object}
use Rattle.mof_metamodel.specs.declared.desc.EnumId.{EnumId}
use Rattle.mof_metamodel.specs.declared.desc.MetaDesc.{MetaDesc}
use Rattle.mof_metamodel.specs.declared.desc.PropType.TheVariants as types
use Rattle.model_files.specs.JsonContent.{value_of}
use Rattle.model_files.specs.JsonFiled.{text_in, integer_in, boolean_in, literal_in}

pub text_is : (meta : MetaDesc) (d : Data) → value_of meta (Some types.Str) d ≡ text_in d
text_is meta null = refl
text_is meta (boolean b) = refl
text_is meta (number n) = refl
text_is meta (string s) = refl
text_is meta (array ds) = refl
text_is meta (object ms) = refl

pub integer_is : (meta : MetaDesc) (d : Data) → value_of meta (Some types.Int) d ≡ integer_in d
integer_is meta null = refl
integer_is meta (boolean b) = refl
integer_is meta (number n) = refl
integer_is meta (string s) = refl
integer_is meta (array ds) = refl
integer_is meta (object ms) = refl

pub boolean_is : (meta : MetaDesc) (d : Data) → value_of meta (Some types.Bool) d ≡ boolean_in d
boolean_is meta null = refl
boolean_is meta (boolean b) = refl
boolean_is meta (number n) = refl
boolean_is meta (string s) = refl
boolean_is meta (array ds) = refl
boolean_is meta (object ms) = refl

pub literal_is : (meta : MetaDesc) (e : EnumId) (d : Data) → value_of meta (Some (types.Enum e)) d ≡ literal_in meta e d
literal_is meta e null = refl
literal_is meta e (boolean b) = refl
literal_is meta e (number n) = refl
literal_is meta e (string s) = refl
literal_is meta e (array ds) = refl
literal_is meta e (object ms) = refl
