-- The model that is put together is the content of each source that writes the lists.
use Rattle.std.proofs.Common.{◌≡◌, ℕ, zero, suc, ◌<◌, ◌≤◌, ◌⊎◌, List, [], ◌∷◌, length, refl, sym, ◌∙◌, ap, arith, subst, Some, None, inl, inr}
use Rattle.std.specs.Prelude.{Contains, option_map, slice_get}
use Rattle.std.specs.Option.{unwrap_or}
use Rattle.std.proofs.lemmas.Bool.{cases_lt}
use Rattle.std.proofs.lemmas.List.{get_or_past}
use Rattle.mof_metamodel.specs.declared.desc.MetaDesc.{MetaDesc}
use Rattle.mof_metamodel.specs.declared.desc.ClassId.{ClassId}
use Rattle.object_tables.specs.declared.limit.TheConstants.{MAX_OBJECTS}
use Rattle.mof_metamodel.specs.Metamodels.{props_of, type_of}
use Rattle.mof_metamodel.specs.WellMeta.{WellMeta}
use Rattle.object_tables.specs.Kept.{Kept}
use Rattle.object_tables.specs.Models.{ModelData, class_at, id_at, values_at, IsAttributeOf, IsReferenceOf, is_class_type}
use Rattle.object_tables.specs.Objects.{Object}
use Rattle.model_assembly.specs.declared.fault.ModelFault.{ModelFault}
use Rattle.model_assembly.specs.declared.fault.ModelFault.TheVariants as faults
use Rattle.model_assembly.specs.declared.filed.Filed.{Filed}
use Rattle.model_assembly.specs.declared.assembly.entry.Entry.{Entry}
use Rattle.model_assembly.specs.declared.assembly.naming.Naming.{Naming}
use Rattle.model_assembly.specs.Assembled.{IsWhole, IsContent, IsAssembled}
use Rattle.model_assembly.specs.AssemblyChecks.{IsSoundModel, IsFaultOf, by_breach, by_depth}
use Rattle.model_assembly.specs.AssemblyModels.{IsOrderedModel, StandsAsWritten}
use Rattle.model_assembly.specs.AssemblyObjects.{new_objects, bare_model}
use Rattle.model_assembly.specs.AssemblyReferences.{MayBeAssembled, AreAnswered, IsTold}
use Rattle.model_assembly.specs.Content.{Content, written_values}
use Rattle.model_assembly.specs.Faults.{Spot, StandsAt, StandsBy}
use Rattle.model_assembly.specs.Filed.{IsFiled, IsAttributeIn, IsReferenceIn}
use Rattle.model_assembly.specs.FirstFault.{IsFirstFault}
use Rattle.model_assembly.specs.Links.{AreOrdered, HasLinks}
use Rattle.model_assembly.specs.Profile.{props_or_none}
use Rattle.model_assembly.specs.Source.{Source, object_count, class_of, id_of}
use Rattle.std.proofs.lemmas.Option.{none-some}
use Rattle.model_assembly.proofs.assembling.FaultLaws.{none_dangles}
use Rattle.model_assembly.proofs.assembling.MismatchLaws.{none_mismatch}
use Rattle.model_assembly.proofs.assembling.PartLaws.{AreNamings, naming_count, none_twice}
use Rattle.model_assembly.proofs.assembling.SourceLinks.{pairs_linked, linked_pairs}
use Rattle.model_assembly.proofs.assembling.SpotLaws.{class_known}
use Rattle.model_assembly.proofs.assembling.StartLaws.{class_of_bare, values_of_bare}
use Rattle.model_assembly.proofs.assembling.ToldLaws.{classes_known, few_objects, namings_for}
use Rattle.model_assembly.proofs.assembling.WholeLaws.{may_be_assembled}

-- ---- objects without values and links

count_of_bare : (meta : MetaDesc) (cs : List ClassId) (ids : List (List ℕ)) → length cs ≡ length ids → length (new_objects meta cs ids) ≡ length ids
count_of_bare meta [] [] n = refl
count_of_bare meta [] (id ∷ ids) n = n
count_of_bare meta (c ∷ cs) [] n = refl
count_of_bare meta (c ∷ cs) (id ∷ ids) n = ap suc (count_of_bare meta cs ids (omega (arith, n)))

id_of_bare : (meta : MetaDesc) (cs : List ClassId) (ids : List (List ℕ)) (o : ℕ) → length cs ≡ length ids → o < length ids → id_at (bare_model meta cs ids) o ≡ Some (unwrap_or (slice_get ids o) [])
id_of_bare meta cs [] o n l = absurd (omega (arith, l))
id_of_bare meta [] (id ∷ ids) o n l = absurd (omega (arith, n))
id_of_bare meta (c ∷ cs) (id ∷ ids) zero n l = refl
id_of_bare meta (c ∷ cs) (id ∷ ids) (suc o) n l = id_of_bare meta cs ids o (omega (arith, n)) (omega (arith, l))

none_past : (meta : MetaDesc) (cs : List ClassId) (ids : List (List ℕ)) (o : ℕ) → length cs ≡ length ids → length ids ≤ o → class_at (bare_model meta cs ids) o ≡ None
none_past meta cs ids o n le =
    ap (option_map (λ (ob : Object). ob.class)) (get_or_past (new_objects meta cs ids) o None (let e = count_of_bare meta cs ids n in omega (arith, e, le)))

-- ---- the content of a source

module _ (s : Source) (f : Filed) (xs : List Naming) (m : ModelData) (filed : IsFiled s f) (sound : MayBeAssembled s.meta f) (answered : AreAnswered s.meta f xs) (h : IsOrderedModel s.meta f xs m) where
  abbrev entries : List Entry
  entries = answered.named.entries

  same_meta : m.meta ≡ s.meta
  same_meta = h.linked.same.meta ∙ h.linked.values.meta

  well : WellMeta s.meta
  well = subst WellMeta (h.linked.links.meta ∙ h.linked.values.meta) h.linked.links.kept.well

  named : AreNamings s f entries xs
  named = namings_for s f xs filed well sound answered.named

  count : length f.ids ≡ object_count s
  count = ap length filed.ids

  class_bare : (o : ℕ) → class_at m o ≡ class_at (bare_model s.meta f.classes f.ids) o
  class_bare o = h.linked.same.classes o ∙ h.linked.values.classes o

  classes : (o : ℕ) → o < object_count s → class_at m o ≡ class_of s o
  classes o l =
      let n = sound.objects.same in
      let within : o < length f.classes = let c = count in omega (arith, l, n, c) in
      class_bare o ∙ class_of_bare s.meta f.classes f.ids o n within ∙ sym (class_known s f filed o within)

  ids : (o : ℕ) → o < object_count s → id_at m o ≡ Some (id_of s o)
  ids o l =
      h.linked.same.ids o ∙ h.linked.values.ids o ∙ id_of_bare s.meta f.classes f.ids o sound.objects.same (let c = count in omega (arith, l, c))
      ∙ ap (λ is. Some (unwrap_or (slice_get is o) [])) filed.ids

  live : (o c : ℕ) → class_at m o ≡ Some c → o < object_count s
  live o c e = by (cases_lt o (object_count s))
    where
      by : (o < object_count s) ⊎ (object_count s ≤ o) → o < object_count s
      by (inl l) = l
      by (inr le) = absurd (none-some c (sym (class_bare o ∙ none_past s.meta f.classes f.ids o sound.objects.same (let k = count in omega (arith, le, k))) ∙ e))

  has_property : (o p c : ℕ) → class_at m o ≡ Some c → Contains (props_of m.meta c) p → Contains (props_or_none s.meta (class_of s o)) p
  has_property o p c e g =
      subst (λ k. Contains (props_or_none s.meta k) p) (sym e ∙ classes o (live o c e)) (subst (λ d. Contains (props_of d c) p) same_meta g)

  attribute_in : (o p : ℕ) → IsAttributeOf m o p → IsAttributeIn s o p
  attribute_in o p r = record {
    object = live o r.class r.class_is;
    has = has_property o p r.class r.class_is r.has;
    data_type = ap (λ d. is_class_type (type_of d p)) (sym same_meta) ∙ r.attribute;
  }

  reference_in : (o p : ℕ) → IsReferenceOf m o p → IsReferenceIn s o p
  reference_in o p r = record {
    object = live o r.class r.class_is;
    has = has_property o p r.class r.class_is r.has;
    class_type = ap (λ d. is_class_type (type_of d p)) (sym same_meta) ∙ r.reference;
  }

  attributes : (o p : ℕ) → IsAttributeOf m o p → values_at m o p ≡ written_values s o p
  attributes o p r =
      h.linked.same.values o p ∙ h.linked.values.values o p (values_of_bare s.meta f.classes f.ids o p) ∙ filed.values o p (attribute_in o p r)

  links : ((o p : ℕ) → IsReferenceIn s o p → AreOrdered s m o p) → (o p : ℕ) → IsReferenceOf m o p → HasLinks s m o p
  links ordered o p r =
      let i = reference_in o p r in
      record {
        all = pairs_linked s f entries xs named h.linked.start m h.linked.values.meta h.linked.links o p i.class_type;
        only = linked_pairs s f entries xs named h.linked.start m h.linked.values.meta h.linked.links o p i.class_type;
        order = ordered o p i;
      }

  no_fault : (fault : ModelFault) (spot : Spot) → StandsBy s fault spot → ⊥
  no_fault (faults.UnknownClass name) spot d = d
  no_fault (faults.UnknownProperty id prop) spot d = d
  no_fault (faults.WrongValue id prop) spot d = d
  no_fault (faults.DuplicateId id) spot d = d
  no_fault (faults.Dangling id prop reference) spot d = none_dangles s f entries named.entries named.fit spot id prop reference d
  no_fault (faults.TwoContainers id) spot d =
      none_twice s f entries xs named (λ j k. answered.single j (let n = naming_count s f entries xs named in omega (arith, k, n))) spot id d
  no_fault (faults.Mismatch id prop other other_prop) spot d =
      none_mismatch s f entries xs named (classes_known s.meta f sound) (λ j k. answered.answered j (let n = naming_count s f entries xs named in omega (arith, k, n))) spot id prop other other_prop d
  no_fault (faults.Invalid breach id) spot d = d
  no_fault (faults.Limit kind) spot d = d

  content : ((fault : ModelFault) (place : ℕ) → StandsAt s fault place → ⊥) → ((o p : ℕ) → IsReferenceIn s o p → AreOrdered s m o p) → Content s m
  content none ordered = record {
    faultless = record { at = none; by = no_fault };
    meta = same_meta;
    count = h.linked.same.count ∙ h.linked.values.count ∙ count_of_bare s.meta f.classes f.ids sound.objects.same ∙ count;
    classes = classes;
    ids = ids;
    attributes = attributes;
    references = links ordered;
  }

-- ---- of each source

pub content_told : (meta : MetaDesc) (f : Filed) (xs : List Naming) (m : ModelData) → MayBeAssembled meta f → AreAnswered meta f xs → IsOrderedModel meta f xs m → StandsAsWritten meta f m → IsContent meta f m
content_told meta f xs m sound answered h written s of =
    subst (λ d. MayBeAssembled d f → AreAnswered d f xs → IsOrderedModel d f xs m → Content s m) of.meta
    (λ so an or. content s f xs m of.filed so an or of.none_at (written s of)) sound answered h

pub model_told : (meta : MetaDesc) (f : Filed) (m : ModelData) → IsWhole meta f → IsContent meta f m → IsSoundModel m → IsAssembled meta f m
model_told meta f m whole content sound s of = record {
  content = content s of;
  valid = sound.valid;
  objects = few_objects s f meta of.filed (may_be_assembled meta f whole);
  depth = sound.depth;
}

fault_of : (s : Source) (m : ModelData) (fault : ModelFault) → object_count s ≤ MAX_OBJECTS → Content s m → Kept m → IsFaultOf m fault → IsFirstFault s fault
fault_of s m fault few content kept (by_breach breach first (id, e, at)) =
    subst (IsFirstFault s) (sym e) (record { fewer = few; model = m; content = content; kept = kept; broken = first; id_is = at })
fault_of s m fault few content kept (by_depth e valid deep) =
    subst (IsFirstFault s) (sym e) (record {
      fewer = few;
      model = m;
      content = content;
      valid = valid;
      object = deep.object;
      live = deep.live;
      depth = deep.depth;
      depth_is = deep.depth_is;
      deep = deep.deep;
    })

pub fault_told : (meta : MetaDesc) (f : Filed) (m : ModelData) (fault : ModelFault) → IsWhole meta f → IsContent meta f m → Kept m → IsFaultOf m fault → IsTold meta f fault
fault_told meta f m fault whole content kept h s of =
    fault_of s m fault (few_objects s f meta of.filed (may_be_assembled meta f whole)) (content s of) kept h
