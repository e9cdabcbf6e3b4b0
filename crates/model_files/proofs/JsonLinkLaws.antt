-- A value of JSON whose objects are right is the model that its tree is, or has the fault of the tree that is told first.
use Rattle.std.proofs.Common.{◌≡◌, ℕ, ◌≤◌, List, [], map, length, sym, ap, ap₂, ◌∙◌, subst, arith, Some}
use Rattle.std.specs.Prelude.{codes}
use Rattle.std.proofs.lemmas.List.{length-map}
use Rattle.serde_json.specs.Data.{Data}
use Rattle.serde_json.specs.Find.{get}
use Rattle.serde_json.specs.View.{view}
use Rattle.serde_json.specs.declared.value.Value.{Value}
use Rattle.mof_metamodel.specs.declared.desc.MetaDesc.{MetaDesc}
use Rattle.object_tables.specs.declared.limit.TheConstants.{MAX_OBJECTS}
use Rattle.mof_metamodel.specs.NameTables.{NamesWith}
use Rattle.mof_metamodel.specs.WellMeta.{WellMeta}
use Rattle.object_tables.specs.declared.limit.LimitKind.{LimitKind}
use Rattle.object_tables.specs.declared.limit.LimitKind.TheVariants as limits
use Rattle.object_tables.specs.Models.{ModelData}
use Rattle.model_assembly.specs.declared.fault.ModelFault.{ModelFault}
use Rattle.model_assembly.specs.declared.fault.ModelFault.TheVariants as faults
use Rattle.model_assembly.specs.declared.filed.Filed.{Filed}
use Rattle.model_assembly.specs.Elements.{concrete_class}
use Rattle.model_assembly.specs.Faults.{StandsAt}
use Rattle.model_assembly.specs.Filed.{IsFiled}
use Rattle.model_assembly.specs.FirstFault.{IsFirstAt, IsLimit, IsFirstFault, IsModel}
use Rattle.model_assembly.specs.Source.{object_count}
use Rattle.model_files.specs.JsonContent as content
use Rattle.model_files.specs.JsonContent.{Written, written_of, text_of, objects_of, source_of, first_wrong, SpellsModel, IsFirstOfOthers, IsFirstContentFault}
use Rattle.model_files.specs.JsonFaults.{HasObjects}
use Rattle.model_files.specs.JsonFiled.{with_objects, HasApart, AreClassed, AreNew}
use Rattle.model_files.specs.JsonSteps.{met_ids}
use Rattle.model_files.proofs.JsonFiledLaws.{collected_is_filed}
use Rattle.model_files.proofs.JsonKnownLaws.{prop_plain, are_right, known_classed}
use Rattle.model_files.proofs.JsonNumberLaws.{value_fits, objects_fit}
use Rattle.model_files.proofs.JsonStepLaws.{ids_read, ids_mapped, classes_mapped}
use Rattle.model_files.proofs.JsonTreeLaws.{IsSound, objects_counted, nothing_stands}

-- the objects of a value that was read, where nothing is wrong
pub sound_from : (meta : MetaDesc) → WellMeta meta → (bytes : List ℕ) (d : Data) → HasObjects meta bytes d → IsSound meta d
sound_from meta well bytes d h =
    record { plain = prop_plain meta well; right = are_right meta well (objects_of d) h.right; fit = objects_fit d (value_fits bytes d h.value) }

-- ---- what is collected of its objects

abbrev written_in : Value → Written
written_in v = written_of (view v)

abbrev id_in : Value → List ℕ
id_in v = (written_of (view v)).id

pub new_ids : (meta : MetaDesc) (d : Data) (values : List Value) → IsSound meta d → map written_in values ≡ objects_of d → AreNew [] (map id_in values)
new_ids meta d values sound listed = subst (AreNew []) (sym (ids_mapped values ∙ ap (map (λ w. w.id)) listed)) sound.right.1

pub all_classed : (meta : MetaDesc) (d : Data) (values : List Value) → IsSound meta d → map written_in values ≡ objects_of d → AreClassed meta (map written_in values)
all_classed meta d values sound listed = subst (AreClassed meta) (sym listed) (known_classed meta (objects_of d) sound.right.0)

pub few_ids : {X : Type 0} (ids : NamesWith X) (d : Data) (values : List Value) → met_ids ids ≡ map id_in values → map written_in values ≡ objects_of d → length (objects_of d) ≤ MAX_OBJECTS
    → length ids ≤ MAX_OBJECTS
few_ids ids d values are listed fewer =
    let a = length-map ids (λ e. e.0) in
    let b = length-map values id_in in
    let c = length-map values written_in in
    let e = ap (λ (xs : List (List ℕ)). length xs) are in
    let f = ap (λ (ws : List Written). length ws) listed in
    omega (arith, a, b, c, e, f, fewer)

-- the lists are what the tree writes
pub filed_from : {X : Type 0} (meta : MetaDesc) (d : Data) (values : List Value) (ids : NamesWith X) (begin found : Filed) → IsSound meta d → map written_in values ≡ objects_of d → met_ids ids ≡ map id_in values
    → begin.ids ≡ map (λ v. text_of (get (codes "id") (view v))) values → map (λ c. Some c.0) begin.classes ≡ map (λ v. concrete_class meta (written_in v).class) values
    → begin.values ≡ [] → begin.references ≡ [] → begin.mentions ≡ []
    → found ≡ with_objects meta (met_ids ids) 0 (map written_in values) begin → HasApart (map written_in values) → IsFiled (source_of meta d) found
filed_from meta d values ids begin found sound listed are ids_are classes_are no_values no_references no_mentions is apart =
    let names : met_ids ids ≡ map (λ w. w.id) (objects_of d) = are ∙ ids_mapped values ∙ ap (map (λ w. w.id)) listed in
    let same : found ≡ with_objects meta (map (λ w. w.id) (objects_of d)) 0 (objects_of d) begin =
    is ∙ ap₂ (λ (ns : List (List ℕ)) (ws : List Written). with_objects meta ns 0 ws begin) names listed in
    subst (IsFiled (source_of meta d)) (sym same)
    (collected_is_filed meta d sound (subst HasApart listed apart) begin
    (record {
      ids = ids_are ∙ ids_read values ∙ ids_mapped values ∙ ap (map (λ w. w.id)) listed;
      classes = classes_are ∙ classes_mapped meta values ∙ ap (map (λ w. concrete_class meta w.class)) listed;
      values = no_values;
      references = no_references;
      mentions = no_mentions;
    }))

-- ---- the model or the fault of the tree

-- its tree has no more objects than a model may have
pub few_objects : (meta : MetaDesc) → WellMeta meta → (bytes : List ℕ) (d : Data) → HasObjects meta bytes d → object_count (source_of meta d) ≤ MAX_OBJECTS
few_objects meta well bytes d h = let counted = objects_counted meta d (sound_from meta well bytes d h) in let fewer = h.fewer in omega (arith, counted, fewer)

-- and no fault stands at a place in it
pub nothing_told : (meta : MetaDesc) → WellMeta meta → (bytes : List ℕ) (d : Data) → HasObjects meta bytes d → (fault : ModelFault) (place : ℕ) → ¬ StandsAt (source_of meta d) fault place
nothing_told meta well bytes d h fault place = nothing_stands meta d (sound_from meta well bytes d h) fault place

-- the model of the tree is that of the value
pub model_spelled : (meta : MetaDesc) (bytes : List ℕ) (d : Data) → HasObjects meta bytes d → (m : ModelData) → IsModel (source_of meta d) m → SpellsModel meta d m
model_spelled meta bytes d h m model = record { shape = h.shape; right = h.right; model = model }

of_others : (meta : MetaDesc) (bytes : List ℕ) (d : Data) → HasObjects meta bytes d → (fault : ModelFault) → IsFirstFault (source_of meta d) fault → IsFirstOfOthers meta d fault
of_others meta bytes d h fault first = record { shape = h.shape; fewer = h.fewer; right = h.right; first = first }

none_at : (meta : MetaDesc) → WellMeta meta → (bytes : List ℕ) (d : Data) → HasObjects meta bytes d → (fault : ModelFault) → IsFirstAt (source_of meta d) fault → ⊥
none_at meta well bytes d h fault first = nothing_stands meta d (sound_from meta well bytes d h) fault first.place first.stands

of_limit : (meta : MetaDesc) → WellMeta meta → (bytes : List ℕ) (d : Data) → HasObjects meta bytes d → (kind : LimitKind) → IsLimit (source_of meta d) kind → content.IsLimit meta d kind
of_limit meta well bytes d h limits.Objects many = absurd (let few = few_objects meta well bytes d h in omega (arith, few, many))
of_limit meta well bytes d h limits.Depth deep = of_others meta bytes d h (faults.Limit limits.Depth) deep

-- the first fault of the tree is that of the value
pub fault_told : (meta : MetaDesc) → WellMeta meta → (bytes : List ℕ) (d : Data) → HasObjects meta bytes d → (fault : ModelFault) → IsFirstFault (source_of meta d) fault
    → IsFirstContentFault meta d fault
fault_told meta well bytes d h (faults.UnknownClass name) first = absurd (none_at meta well bytes d h (faults.UnknownClass name) first)
fault_told meta well bytes d h (faults.UnknownProperty id prop) first = absurd (none_at meta well bytes d h (faults.UnknownProperty id prop) first)
fault_told meta well bytes d h (faults.WrongValue id prop) first = absurd (none_at meta well bytes d h (faults.WrongValue id prop) first)
fault_told meta well bytes d h (faults.DuplicateId id) first = absurd (none_at meta well bytes d h (faults.DuplicateId id) first)
fault_told meta well bytes d h (faults.Dangling id prop reference) first = of_others meta bytes d h (faults.Dangling id prop reference) first
fault_told meta well bytes d h (faults.TwoContainers id) first = of_others meta bytes d h (faults.TwoContainers id) first
fault_told meta well bytes d h (faults.Mismatch id prop other other_prop) first = of_others meta bytes d h (faults.Mismatch id prop other other_prop) first
fault_told meta well bytes d h (faults.Invalid breach id) first = of_others meta bytes d h (faults.Invalid breach id) first
fault_told meta well bytes d h (faults.Limit kind) first = of_limit meta well bytes d h kind first
