-- The faults of models as JSON that are told by their place, object by object and slot by slot.
use Rattle.std.proofs.Common.{◌≡◌, ℕ, ◌<◌, ◌^◌, Bool, true, false, cond, List, [], ◌∷◌, refl, arith, Option, None, Some}
use Rattle.std.specs.Prelude.{is_some, not, chars, codes, ◌||◌}
use Rattle.std.specs.Fmt.{decimal}
use Rattle.std.specs.List.{list_any}
use Rattle.std.specs.Option.{option_map, option_and_then, option_or}
use Rattle.std.proofs.lemmas.Str.{chars-IsAscii}
use Rattle.std.proofs.lemmas.Str.Ascii.{IsAscii-cons}
use Rattle.std.proofs.lemmas.Fmt.{IsAscii-decimal}
use Rattle.serde_json.specs.Data.{Data, null, boolean, number, string, array, object}
use Rattle.serde_json.specs.Find.{get, as_i64, as_number, as_bool}
use Rattle.mof_metamodel.specs.declared.desc.MetaDesc.{MetaDesc}
use Rattle.mof_metamodel.specs.declared.desc.EnumId.{EnumId}
use Rattle.mof_metamodel.specs.declared.desc.PropType.TheVariants as types
use Rattle.mof_metamodel.specs.Characters.{same_name, is_storable_text}
use Rattle.mof_metamodel.specs.Metamodels.{literal_number}
use Rattle.mof_metamodel.specs.NameTables.{NamesWith, value_of as found_value}
use Rattle.model_assembly.specs.declared.fault.ModelFault.{ModelFault}
use Rattle.model_assembly.specs.declared.fault.ModelFault.TheVariants as faults
use Rattle.model_assembly.specs.Elements.{concrete_class}
use Rattle.model_files.specs.JsonContent.{written_of, text_of, slots_of, value_of, unless, wrong_id, wrong_object}
use Rattle.model_files.specs.JsonSteps.{is_text_with, met_ids, wrong_data}

-- ---- identifiers that are given

pub given_characters : (n : ℕ) → n < 2 ^ 64 → chars (95 ∷ decimal n) ≡ 95 ∷ decimal n
given_characters n h = chars-IsAscii (95 ∷ decimal n) (IsAscii-cons 95 (decimal n) (omega arith) (IsAscii-decimal n h))

-- ---- values

mapped : {X Y : Type 0} (f : X → Y) (o : Option X) → is_some (option_map f o) ≡ is_some o
mapped f None = refl
mapped f (Some x) = refl

kept : {X : Type 0} (b : Bool) (x : X) → is_some (cond b (Some x) None) ≡ b
kept true x = refl
kept false x = refl

pub text_stands : (meta : MetaDesc) (d : Data) → is_some (value_of meta (Some types.Str) d) ≡ is_text_with is_storable_text d
text_stands meta null = refl
text_stands meta (boolean b) = refl
text_stands meta (number n) = refl
text_stands meta (string s) = kept (is_storable_text (chars s)) _
text_stands meta (array ds) = refl
text_stands meta (object ms) = refl

pub integer_stands : (meta : MetaDesc) (d : Data) → is_some (value_of meta (Some types.Int) d) ≡ is_some (option_and_then as_i64 (as_number d))
integer_stands meta null = refl
integer_stands meta (boolean b) = refl
integer_stands meta (number n) = mapped _ (as_i64 n)
integer_stands meta (string s) = refl
integer_stands meta (array ds) = refl
integer_stands meta (object ms) = refl

pub boolean_stands : (meta : MetaDesc) (d : Data) → is_some (value_of meta (Some types.Bool) d) ≡ is_some (as_bool d)
boolean_stands meta null = refl
boolean_stands meta (boolean b) = refl
boolean_stands meta (number n) = refl
boolean_stands meta (string s) = refl
boolean_stands meta (array ds) = refl
boolean_stands meta (object ms) = refl

pub literal_stands : (meta : MetaDesc) (e : EnumId) (d : Data) → is_some (value_of meta (Some (types.Enum e)) d) ≡ is_text_with (λ text. is_some (literal_number meta e.0 text)) d
literal_stands meta e null = refl
literal_stands meta e (boolean b) = refl
literal_stands meta e (number n) = refl
literal_stands meta e (string s) = mapped _ (literal_number meta e.0 (chars s))
literal_stands meta e (array ds) = refl
literal_stands meta e (object ms) = refl

-- ---- members

pub class_is : (d : Data) → (written_of d).class ≡ text_of (get (codes "class") d)
class_is null = refl
class_is (boolean b) = refl
class_is (number n) = refl
class_is (string s) = refl
class_is (array ds) = refl
class_is (object ms) = refl

pub id_is : (d : Data) → (written_of d).id ≡ text_of (get (codes "id") d)
id_is null = refl
id_is (boolean b) = refl
id_is (number n) = refl
id_is (string s) = refl
id_is (array ds) = refl
id_is (object ms) = refl

pub slots_are : (d : Data) → (written_of d).slots ≡ slots_of (get (codes "slots") d)
slots_are null = refl
slots_are (boolean b) = refl
slots_are (number n) = refl
slots_are (string s) = refl
slots_are (array ds) = refl
slots_are (object ms) = refl

-- ---- identifiers that were met

met_or_not : {X : Type 0} (b : Bool) (x : X) (found : Option X) (met : Bool) → is_some found ≡ met → is_some (cond b (Some x) found) ≡ b || met
met_or_not true x found met e = refl
met_or_not false x found met e = e

pub met_by_name : {X : Type 0} (ids : NamesWith X) (id : List ℕ) → is_some (found_value ids id) ≡ list_any (same_name id) (met_ids ids)
met_by_name [] id = refl
met_by_name (entry ∷ ids) id = met_or_not (same_name id entry.0) entry.1 (found_value ids id) (list_any (same_name id) (met_ids ids)) (met_by_name ids id)

-- where nothing is wrong with an object, its identifier is new
no_first : {X : Type 0} (a b : Option X) → option_or a b ≡ None → a ≡ None
no_first None b e = refl
no_first (Some x) b e = e

no_second : {X : Type 0} (a b : Option X) → option_or a b ≡ None → b ≡ None
no_second None b e = e
no_second (Some x) b e = absurd cc

holds_not : (b : Bool) (fault : ModelFault) → unless (not b) fault ≡ None → b ≡ false
holds_not true fault e = absurd cc
holds_not false fault e = refl

new_id : (earlier : List (List ℕ)) (place : ℕ) (id : List ℕ) → wrong_id earlier place id ≡ None → list_any (same_name id) earlier ≡ false
new_id earlier place id e = holds_not (list_any (same_name id) earlier) (faults.DuplicateId id) (no_second _ _ e)

pub new_where_right : (meta : MetaDesc) (earlier : List (List ℕ)) (place : ℕ) (d : Data) → wrong_data meta earlier place d ≡ None
    → list_any (same_name (written_of d).id) earlier ≡ false
new_where_right meta earlier place d = by (concrete_class meta (written_of d).class)
  where
    by : (class : Option ℕ) → wrong_object meta earlier place (written_of d) class ≡ None → list_any (same_name (written_of d).id) earlier ≡ false
    by None e = absurd cc
    by (Some c) e = new_id earlier place (written_of d).id (no_first _ _ e)
