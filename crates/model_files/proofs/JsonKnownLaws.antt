-- What is known of the objects of a value of JSON in which nothing is wrong: classes, properties, values and identifiers.
use Rattle.std.proofs.Common.{◌≡◌, ℕ, zero, suc, ◌<◌, Bool, true, false, List, [], ◌∷◌, ◌++◌, map, refl, sym, ap, ◌∙◌, subst, arith, Option, None, Some}
use Rattle.std.specs.Prelude.{◌||◌, not, is_some, slice_get}
use Rattle.std.specs.List.{list_all, list_any, AllByRecursion}
use Rattle.std.specs.Option.{option_or, unwrap_or}
use Rattle.std.proofs.lemmas.Bool.{and_parts, true≢false, or_parts}
use Rattle.serde_json.specs.Data.{Data}
use Rattle.mof_metamodel.specs.declared.desc.MetaDesc.{MetaDesc}
use Rattle.mof_metamodel.specs.declared.desc.PropType.{PropType}
use Rattle.mof_metamodel.specs.Characters.{same_name, is_identifier_text}
use Rattle.mof_metamodel.specs.Metamodels.{class_number, class_at, no_class, prop_at, prop_number, type_of}
use Rattle.mof_metamodel.specs.Members.{IsPropNamed}
use Rattle.mof_metamodel.specs.WellMeta.{WellMeta, is_name, is_name_character}
use Rattle.mof_metamodel.proofs.MetaLaws.{prop_named}
use Rattle.mof_metamodel.proofs.PropLemmas.{prop_known}
use Rattle.mof_metamodel.proofs.SearchLemmas.{true_same, position_named}
use Rattle.model_assembly.specs.declared.fault.ModelFault.{ModelFault}
use Rattle.model_assembly.specs.declared.fault.ModelFault.TheVariants as faults
use Rattle.model_assembly.specs.Elements.{concrete, concrete_class}
use Rattle.model_assembly.specs.Source.{proper}
use Rattle.model_files.specs.JsonContent.{Written, class_in, may_stand, unless, wrong_in, wrong_at, wrong_slots, wrong_object, wrong_from, first_wrong}
use Rattle.model_files.specs.JsonFiled.{AreClassed, AreNew}
use Rattle.model_files.proofs.JsonTree.{IsPlain, prop_in, IsKnownSlot, IsKnownObject}

-- ---- names of a metamodel

name_plain : (name : List ℕ) → is_name name ≡ true → IsPlain name
name_plain name h = (and_parts _ (list_all is_name_character name) h).1

-- the property of a name has it, and is one of the class
pub named_prop : (meta : MetaDesc) (c : ℕ) (name : List ℕ) (p : ℕ) → prop_number meta c name ≡ Some p → IsPropNamed meta c name (record { 0 = p })
named_prop meta c name p e = prop_named meta c name (Some (record { 0 = p })) (sym e)

-- names of properties have no colon
abbrev pub HasPlainNames : MetaDesc → Type 0
HasPlainNames meta = (c : ℕ) (name : List ℕ) (p : ℕ) → prop_number meta c name ≡ Some p → IsPlain name

pub prop_plain : (meta : MetaDesc) → WellMeta meta → HasPlainNames meta
prop_plain meta well c name p e =
    let named = named_prop meta c name p e in
    subst IsPlain named.named (name_plain (prop_at meta p).name (and_parts (is_name (prop_at meta p).name) _ (well.names.props p (prop_known meta c p named.has))).0)

class_plain : (meta : MetaDesc) → WellMeta meta → (name : List ℕ) (c : ℕ) → class_number meta name ≡ Some c → IsPlain name
class_plain meta well name c e =
    let named = position_named (λ x. x.name) meta.classes name c no_class e in
    subst IsPlain (sym named.1) (name_plain (class_at meta c).name (well.names.classes c named.0))

concrete_plain : (meta : MetaDesc) → WellMeta meta → (name : List ℕ) (c : ℕ) → concrete_class meta name ≡ Some c → IsPlain name
concrete_plain meta well name c e = by (class_number meta name) refl e
  where
    by : (o : Option ℕ) → class_number meta name ≡ o → concrete meta o ≡ Some c → IsPlain name
    by None f g = absurd cc
    by (Some k) f g = class_plain meta well name k f

-- ---- no fault

no_first : {X : Type 0} (a b : Option X) → option_or a b ≡ None → a ≡ None
no_first None b e = refl
no_first (Some x) b e = absurd cc

no_second : {X : Type 0} (a b : Option X) → option_or a b ≡ None → b ≡ None
no_second None b e = e
no_second (Some x) b e = absurd cc

holds : (b : Bool) (fault : ModelFault) → unless b fault ≡ None → b ≡ true
holds true fault e = refl
holds false fault e = absurd cc

fails : (b : Bool) (fault : ModelFault) → unless (not b) fault ≡ None → b ≡ false
fails true fault e = absurd cc
fails false fault e = refl

items_stand : (meta : MetaDesc) (id name : List ℕ) (type : Option PropType) (ds : List Data) → wrong_in meta id name type ds ≡ None
    → AllByRecursion (λ d. may_stand meta type d ≡ true) ds
items_stand meta id name type [] e = tt
items_stand meta id name type (d ∷ ds) e = (holds (may_stand meta type d) (faults.WrongValue id (Some name)) (no_first _ _ e), items_stand meta id name type ds (no_second _ _ e))

slot_known : (meta : MetaDesc) → WellMeta meta → (id : List ℕ) (c : ℕ) (slot : List ℕ × List Data) → wrong_at meta id slot.0 (prop_number meta c slot.0) slot.1 ≡ None
    → IsKnownSlot meta c slot
slot_known meta well id c slot e = by (prop_number meta c slot.0) refl e
  where
    by : (o : Option ℕ) → prop_number meta c slot.0 ≡ o → wrong_at meta id slot.0 o slot.1 ≡ None → IsKnownSlot meta c slot
    by None f g = absurd cc
    by (Some p) f g =
        let same : prop_in meta c slot.0 ≡ p = ap (λ (o : Option ℕ). unwrap_or o 0) f in
        record {
          plain = prop_plain meta well c slot.0 p f;
          property = f ∙ ap (λ (q : ℕ). Some q) (sym same);
          items = subst (λ (q : ℕ). AllByRecursion (λ d. may_stand meta (type_of meta q) d ≡ true) slot.1) (sym same) (items_stand meta id slot.0 (type_of meta p) slot.1 g);
        }

slots_known : (meta : MetaDesc) → WellMeta meta → (id : List ℕ) (c : ℕ) (slots : List (List ℕ × List Data)) → wrong_slots meta id c slots ≡ None
    → AllByRecursion (IsKnownSlot meta c) slots
slots_known meta well id c [] e = tt
slots_known meta well id c (slot ∷ slots) e = (slot_known meta well id c slot (no_first _ _ e), slots_known meta well id c slots (no_second _ _ e))

-- an object in which nothing is wrong, and whose identifier is new
pub record IsRight (meta : MetaDesc) (met : List (List ℕ)) (written : Written) : Type 0 where
  pub known : IsKnownObject meta written
  pub new : list_any (same_name written.id) met ≡ false

object_right : (meta : MetaDesc) → WellMeta meta → (met : List (List ℕ)) (place : ℕ) (written : Written)
    → wrong_object meta met place written (concrete_class meta written.class) ≡ None → IsRight meta met written
object_right meta well met place written e = by (concrete_class meta written.class) refl e
  where
    by : (o : Option ℕ) → concrete_class meta written.class ≡ o → wrong_object meta met place written o ≡ None → IsRight meta met written
    by None f g = absurd cc
    by (Some c) f g =
        let same : class_in meta written ≡ c = ap (λ (o : Option ℕ). unwrap_or o 0) f in
        let id = no_first _ _ g in
        record {
          known = record {
            plain = concrete_plain meta well written.class c f;
            class = f ∙ ap (λ (k : ℕ). Some k) (sym same);
            id = holds (is_identifier_text written.id) (faults.WrongValue (proper written.id place) None) (no_first _ _ id);
            slots = subst (λ (k : ℕ). AllByRecursion (IsKnownSlot meta k) written.slots) (sym same) (slots_known meta well (proper written.id place) c written.slots (no_second _ _ g));
          };
          new = fails (list_any (same_name written.id) met) (faults.DuplicateId written.id) (no_second _ _ id);
        }

-- each object is known, and the identifiers are new
abbrev pub AreRight : MetaDesc → List Written → Type 0
AreRight meta objects = AllByRecursion (IsKnownObject meta) objects × AreNew [] (map (λ w. w.id) objects)

right_from : (meta : MetaDesc) → WellMeta meta → (met : List (List ℕ)) (place : ℕ) (objects : List Written) → wrong_from meta met place objects ≡ None
    → AllByRecursion (IsKnownObject meta) objects × AreNew met (map (λ w. w.id) objects)
right_from meta well met place [] e = (tt, tt)
right_from meta well met place (written ∷ rest) e =
    let here = object_right meta well met place written (no_first _ _ e) in
    let later = right_from meta well (met ++ written.id ∷ []) (suc place) rest (no_second _ _ e) in
    ((here.known, later.0), (here.new, later.1))

-- so it is where nothing is wrong
pub are_right : (meta : MetaDesc) → WellMeta meta → (objects : List Written) → first_wrong meta objects ≡ None → AreRight meta objects
are_right meta well objects e = right_from meta well [] 0 objects e

-- ---- identifiers are distinct

any_before : (p : List ℕ → Bool) (xs ys : List (List ℕ)) → list_any p (xs ++ ys) ≡ (list_any p xs || list_any p ys)
any_before p [] ys = refl
any_before p (x ∷ xs) ys = by (p x) (any_before p xs ys)
  where
    by : (b : Bool) → list_any p (xs ++ ys) ≡ (list_any p xs || list_any p ys) → (b || list_any p (xs ++ ys)) ≡ ((b || list_any p xs) || list_any p ys)
    by true e = refl
    by false e = e

-- no identifier was met
pub unmet_id : (met ids : List (List ℕ)) (i : ℕ) (id : List ℕ) → AreNew met ids → slice_get ids i ≡ Some id → list_any (same_name id) met ≡ false
unmet_id met [] i id new at = absurd cc
unmet_id met (first ∷ ids) zero id new at =
    let same : first ≡ id = ap (λ (o : Option (List ℕ)). unwrap_or o []) at in
    subst (λ (x : List ℕ). list_any (same_name x) met ≡ false) same new.0
unmet_id met (first ∷ ids) (suc i) id new at =
    (or_parts (list_any (same_name id) met) _ (sym (any_before (same_name id) met (first ∷ [])) ∙ unmet_id (met ++ first ∷ []) ids i id new.1 at)).0

one_met : (met : List (List ℕ)) (id : List ℕ) → list_any (same_name id) (met ++ id ∷ []) ≡ false → ⊥
one_met met id e =
    let none = (or_parts (list_any (same_name id) met) _ (sym (any_before (same_name id) met (id ∷ [])) ∙ e)).1 in
    true≢false (sym (true_same id id refl) ∙ (or_parts (same_name id id) false none).0)

pub distinct_ids : (met ids : List (List ℕ)) (i j : ℕ) (id : List ℕ) → AreNew met ids → j < i → slice_get ids i ≡ Some id → slice_get ids j ≡ Some id → ⊥
distinct_ids met [] i j id new l at other = absurd cc
distinct_ids met (first ∷ ids) zero j id new l at other = omega (arith, l)
distinct_ids met (first ∷ ids) (suc i) zero id new l at other =
    let same : first ≡ id = ap (λ (o : Option (List ℕ)). unwrap_or o []) other in
    one_met met id (subst (λ (x : List ℕ). list_any (same_name id) (met ++ x ∷ []) ≡ false) same (unmet_id (met ++ first ∷ []) ids i id new.1 at))
distinct_ids met (first ∷ ids) (suc i) (suc j) id new l at other = distinct_ids (met ++ first ∷ []) ids i j id new.1 (omega (arith, l)) at other

-- each object is of a concrete class
pub known_classed : (meta : MetaDesc) (objects : List Written) → AllByRecursion (IsKnownObject meta) objects → AreClassed meta objects
known_classed meta [] known = tt
known_classed meta (written ∷ rest) known = (ap (λ (o : Option ℕ). is_some o) known.0.class, known_classed meta rest known.1)
