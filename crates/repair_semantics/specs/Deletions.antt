-- Which objects of the target are deleted (QVT 1.3, sections 7.2 and 7.10.2: enforcement deletes what no relation asks for; which objects
-- these are is this engine's own).
use Rattle.std.specs.Prelude.{ℕ, zero, suc, Bool, false, ◌&&◌, ◌||◌, not, List, [], ◌++◌, length, Option, is_some, if◌then◌else◌}
use Rattle.std.specs.List.{list_any, filter, filter_map, flat_map, find, range_with_len}
use Rattle.std.specs.Option.{option_map_or, option_to_list}
use Rattle.mof_metamodel.specs.Metamodels.{prop_at, props_of}
use Rattle.object_tables.specs.Models.{ModelData, object_at, class_at, partners_at}
use Rattle.qv_syntax.specs.declared.program.Program.{Program}
use Rattle.qv_syntax.specs.declared.program.Rel.{Rel}
use Rattle.qvtr_semantics.specs.Objects.{is_number_among, conforms_at}
use Rattle.repair_semantics.specs.declared.term.Term.{Term}
use Rattle.repair_semantics.specs.TargetItems.{target_root, nested_variables, class_of_variable}
use Rattle.repair_semantics.specs.Images.{image}

-- ---- managed classes

-- the variable of the target root of a top relation
abbrev pub root_if_top : Program → Rel → List ℕ
root_if_top program rel = if rel.top then option_to_list (target_root program rel) else []

-- the existential ones of the variables of target templates, of which these are within others; that of the root counts in a top relation alone
abbrev pub managed_variables : Program → Rel → List ℕ → List ℕ
managed_variables program rel nested = filter (λ v. is_number_among v rel.existential) (root_if_top program rel ++ nested)

-- the classes of these variables, of a relation of the direction
abbrev pub classes_in : Program → Rel → List ℕ → List ℕ
classes_in program rel nested = if rel.in_direction then filter_map (class_of_variable rel) (managed_variables program rel nested) else []

-- the classes of which enforcement makes objects: those of target templates of the direction whose variables are existential
abbrev pub managed_classes : Program → List ℕ
managed_classes program = flat_map (λ rel. classes_in program rel (nested_variables program rel)) program.rels

-- ---- objects that are unneeded

-- the images of terms
abbrev pub images_of : Program → ModelData → List Term → List ℕ
images_of program m terms = filter_map (image program m) terms

-- the object conforms to a managed class, and is no image of a demanded term
abbrev pub is_unneeded : ModelData → List ℕ → List ℕ → ℕ → Bool
is_unneeded m classes images o = list_any (λ class. conforms_at m class o) classes && not (is_number_among o images)

-- ---- deleted objects

-- the object a contains the object o by the property
abbrev pub has_part : ModelData → ℕ → ℕ → ℕ → Bool
has_part m o a p = (prop_at m.meta p).composite && is_number_among o (partners_at m a p)

-- the object a contains the object o
abbrev pub is_container : ModelData → ℕ → ℕ → Bool
is_container m o a = option_map_or (λ class. list_any (has_part m o a) (props_of m.meta class)) (class_at m a) false

-- the container of an object
abbrev pub container_of : ModelData → ℕ → Option ℕ
container_of m o = find (is_container m o) (range_with_len 0 (length m.objects))

-- the object is unneeded, or it is no image and its container is deleted, as far as so many containers reach. An object that is no image keeps its container, since no demand speaks of it.
abbrev pub is_deleted_within : ModelData → List ℕ → List ℕ → ℕ → ℕ → Bool
is_deleted_within m classes images zero o = is_unneeded m classes images o
is_deleted_within m classes images (suc n) o =
    is_unneeded m classes images o
    || (not (is_number_among o images) && option_map_or (is_deleted_within m classes images n) (container_of m o) false)

-- The object is deleted, where these are the managed classes and the images of the demanded terms. No path of containers is longer than there
-- are objects but for a circle of them, which stays where none of its objects is unneeded.
abbrev pub is_deleted : ModelData → List ℕ → List ℕ → ℕ → Bool
is_deleted m classes images o = is_deleted_within m classes images (length m.objects) o

-- the object stays: it is live, and isn't deleted
abbrev pub stays : ModelData → List ℕ → List ℕ → ℕ → Bool
stays m classes images o = is_some (object_at m o) && not (is_deleted m classes images o)
