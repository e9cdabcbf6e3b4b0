-- Which fault of a file of JSON stands first, before the links of its objects are looked at.
use Rattle.std.proofs.Common.{◌≡◌, ℕ, suc, ◌≤◌, Bool, true, false, cond, List, [], ◌∷◌, ◌++◌, map, length, refl, ap, subst, Option, None, Some}
use Rattle.std.specs.Prelude.{not, nat_lt, codes}
use Rattle.std.specs.Str.{IsUtf8, is_utf8}
use Rattle.std.proofs.lemmas.Str.{IsUtf8-from_is_utf8}
use Rattle.std.specs.List.{list_any}
use Rattle.std.specs.Option.{option_or}
use Rattle.std.proofs.lemmas.Bool.{ltb-true, ltb-false}
use Rattle.serde_json.specs.declared.value.Value as json
use Rattle.serde_json.specs.Data.{Data, null, boolean, number, string, array, object}
use Rattle.serde_json.specs.Find.{get}
use Rattle.serde_json.specs.View.{view, items_view}
use Rattle.mof_metamodel.specs.declared.desc.MetaDesc.{MetaDesc}
use Rattle.mof_metamodel.specs.declared.desc.PropType.{PropType}
use Rattle.object_tables.specs.declared.limit.TheConstants.{MAX_OBJECTS}
use Rattle.mof_metamodel.specs.Characters.{same_name, is_identifier_text}
use Rattle.mof_metamodel.specs.Metamodels.{prop_number, type_of}
use Rattle.object_tables.specs.declared.limit.LimitKind.TheVariants as limits
use Rattle.model_assembly.specs.declared.fault.ModelFault.{ModelFault}
use Rattle.model_assembly.specs.declared.fault.ModelFault.TheVariants as faults
use Rattle.model_assembly.specs.Elements.{concrete_class}
use Rattle.model_assembly.specs.Source.{proper}
use Rattle.model_files.specs.JsonContent.{Written, written_of, items_list, list_at, objects_of, may_stand, unless, wrong_in, wrong_at, wrong_slots, wrong_id, wrong_object, wrong_from, first_wrong, HasTooMany, IsFirstOfPlaces, IsFirstContentFault}
use Rattle.model_files.specs.JsonFaults.{first_fault, IsUnshaped, IsJsonError}
use Rattle.model_files.specs.declared.fault.FileError.{FileError}
use Rattle.model_files.specs.declared.fault.FileError.TheVariants as errors
use Rattle.model_files.specs.declared.fault.JsonFault.TheVariants as json_faults
use Rattle.model_files.specs.Shape.{first_amiss}
use Rattle.std.proofs.lemmas.Option.{same_Some}

-- ---- texts

pub not_utf8 : (bs : List ℕ) → ¬ IsUtf8 bs → is_utf8 bs ≡ false
not_utf8 bs none = by (is_utf8 bs) refl
  where
    by : (b : Bool) → is_utf8 bs ≡ b → b ≡ false
    by true e = absurd (none (IsUtf8-from_is_utf8 bs e))
    by false e = refl

-- ---- what is told before the objects are looked at

pub unshaped_is_error : (meta : MetaDesc) (bytes : List ℕ) (e : FileError) → IsUnshaped bytes e → IsJsonError meta bytes e
unshaped_is_error meta bytes (errors.Text fault) h = absurd h
unshaped_is_error meta bytes (errors.Json json_faults.Syntax) h = h
unshaped_is_error meta bytes (errors.Json (json_faults.Shape path)) h = h
unshaped_is_error meta bytes (errors.Json (json_faults.Content fault)) h = absurd h
unshaped_is_error meta bytes (errors.Content fault) h = absurd h
unshaped_is_error meta bytes (errors.Meta fault) h = absurd h
unshaped_is_error meta bytes (errors.NoPackage n) h = absurd h
unshaped_is_error meta bytes errors.NoMemory h = tt

-- ---- the objects of a value

pub objects_listed : (d : Data) → objects_of d ≡ map written_of (list_at (get (codes "objects") d))
objects_listed null = refl
objects_listed (boolean b) = refl
objects_listed (number n) = refl
objects_listed (string s) = refl
objects_listed (array ds) = refl
objects_listed (object ms) = refl

pub items_viewed : (vs : List json.Value) → items_list (items_view vs) ≡ map view vs
items_viewed [] = refl
items_viewed (v ∷ vs) = ap (λ ds. view v ∷ ds) (items_viewed vs)

pub written_items : (vs : List json.Value) → map (λ v. written_of (view v)) vs ≡ map written_of (map view vs)
written_items [] = refl
written_items (v ∷ vs) = ap (λ ws. written_of (view v) ∷ ws) (written_items vs)

-- ---- faults that are told by their place are of four kinds

abbrev Told : ModelFault → Type 0
Told (faults.UnknownClass name) = Unit {0}
Told (faults.UnknownProperty id prop) = Unit {0}
Told (faults.WrongValue id prop) = Unit {0}
Told (faults.DuplicateId id) = Unit {0}
Told (faults.Dangling id prop reference) = ⊥
Told (faults.TwoContainers id) = ⊥
Told (faults.Mismatch id prop other other_prop) = ⊥
Told (faults.Invalid breach id) = ⊥
Told (faults.Limit kind) = ⊥

abbrev AllTold : Option ModelFault → Type 0
AllTold None = Unit {0}
AllTold (Some fault) = Told fault

told_or : (a b : Option ModelFault) → AllTold a → AllTold b → AllTold (option_or a b)
told_or None b f g = g
told_or (Some fault) b f g = f

told_unless : (holds : Bool) (fault : ModelFault) → Told fault → AllTold (unless holds fault)
told_unless true fault f = tt
told_unless false fault f = f

told_in : (meta : MetaDesc) (id name : List ℕ) (type : Option PropType) (ds : List Data) → AllTold (wrong_in meta id name type ds)
told_in meta id name type [] = tt
told_in meta id name type (d ∷ ds) = told_or _ _ (told_unless (may_stand meta type d) (faults.WrongValue id (Some name)) tt) (told_in meta id name type ds)

told_at : (meta : MetaDesc) (id name : List ℕ) (p : Option ℕ) (ds : List Data) → AllTold (wrong_at meta id name p ds)
told_at meta id name None ds = tt
told_at meta id name (Some p) ds = told_in meta id name (type_of meta p) ds

told_slots : (meta : MetaDesc) (id : List ℕ) (c : ℕ) (slots : List (List ℕ × List Data)) → AllTold (wrong_slots meta id c slots)
told_slots meta id c [] = tt
told_slots meta id c (slot ∷ slots) = told_or _ _ (told_at meta id slot.0 (prop_number meta c slot.0) slot.1) (told_slots meta id c slots)

told_id : (earlier : List (List ℕ)) (place : ℕ) (id : List ℕ) → AllTold (wrong_id earlier place id)
told_id earlier place id =
    told_or _ _ (told_unless (is_identifier_text id) (faults.WrongValue (proper id place) None) tt)
    (told_unless (not (list_any (same_name id) earlier)) (faults.DuplicateId id) tt)

told_object : (meta : MetaDesc) (earlier : List (List ℕ)) (place : ℕ) (written : Written) (class : Option ℕ) → AllTold (wrong_object meta earlier place written class)
told_object meta earlier place written None = tt
told_object meta earlier place written (Some c) = told_or _ _ (told_id earlier place written.id) (told_slots meta (proper written.id place) c written.slots)

told_from : (meta : MetaDesc) (earlier : List (List ℕ)) (place : ℕ) (objects : List Written) → AllTold (wrong_from meta earlier place objects)
told_from meta earlier place [] = tt
told_from meta earlier place (written ∷ rest) =
    told_or _ _ (told_object meta earlier place written (concrete_class meta written.class)) (told_from meta (earlier ++ written.id ∷ []) (suc place) rest)

-- ---- the first of them

placed : (meta : MetaDesc) (d : Data) (fault : ModelFault) → IsFirstOfPlaces meta d fault → Told fault → IsFirstContentFault meta d fault
placed meta d (faults.UnknownClass name) h t = h
placed meta d (faults.UnknownProperty id prop) h t = h
placed meta d (faults.WrongValue id prop) h t = h
placed meta d (faults.DuplicateId id) h t = h
placed meta d (faults.Dangling id prop reference) h t = absurd t
placed meta d (faults.TwoContainers id) h t = absurd t
placed meta d (faults.Mismatch id prop other other_prop) h t = absurd t
placed meta d (faults.Invalid breach id) h t = absurd t
placed meta d (faults.Limit kind) h t = absurd t

first_placed : (meta : MetaDesc) (d : Data) (fault : ModelFault) → first_amiss d ≡ None → length (objects_of d) ≤ MAX_OBJECTS
    → first_wrong meta (objects_of d) ≡ Some fault → IsFirstContentFault meta d fault
first_placed meta d fault shape fewer first =
    placed meta d fault (record { shape = shape; fewer = fewer; first = first })
    (subst AllTold first (told_from meta [] 0 (objects_of d)))

too_many : (meta : MetaDesc) (d : Data) (fault : ModelFault) → HasTooMany d → faults.Limit limits.Objects ≡ fault → IsFirstContentFault meta d fault
too_many meta d fault h e = subst (IsFirstContentFault meta d) e h

pub content_fault : (meta : MetaDesc) (d : Data) (fault : ModelFault) → first_amiss d ≡ None → first_fault meta (objects_of d) ≡ Some fault
    → IsFirstContentFault meta d fault
content_fault meta d fault shape = by (nat_lt MAX_OBJECTS (length (objects_of d))) refl
  where
    by : (b : Bool) → nat_lt MAX_OBJECTS (length (objects_of d)) ≡ b → cond b (Some (faults.Limit limits.Objects)) (first_wrong meta (objects_of d)) ≡ Some fault
        → IsFirstContentFault meta d fault
    by true e f = too_many meta d fault (record { shape = shape; more = ltb-true MAX_OBJECTS (length (objects_of d)) e }) (same_Some _ _ f)
    by false e f = first_placed meta d fault shape (ltb-false MAX_OBJECTS (length (objects_of d)) e) f

pub no_fault_left : (meta : MetaDesc) (objects : List Written) → first_fault meta objects ≡ None → (length objects ≤ MAX_OBJECTS) × (first_wrong meta objects ≡ None)
no_fault_left meta objects = by (nat_lt MAX_OBJECTS (length objects)) refl
  where
    by : (b : Bool) → nat_lt MAX_OBJECTS (length objects) ≡ b → cond b (Some (faults.Limit limits.Objects)) (first_wrong meta objects) ≡ None
        → (length objects ≤ MAX_OBJECTS) × (first_wrong meta objects ≡ None)
    by true e f = absurd cc
    by false e f = (ltb-false MAX_OBJECTS (length objects) e, f)
