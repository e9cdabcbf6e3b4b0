-- The classes of the marked variables of a relation (QVT 1.3, section 7.2).
use Rattle.std.specs.Prelude.{ℕ, Bool, List, [], if◌then◌else◌}
use Rattle.std.specs.List.{flat_map}
use Rattle.std.specs.Option.{option_to_list}
use Rattle.qv_syntax.specs.declared.program.Rel.{Rel}
use Rattle.repair_semantics.specs.TargetItems.{class_of_variable}
use Rattle.template_match.specs.Marks.{is_marked}

-- the class of an object variable that is marked
abbrev pub class_if : Rel → List Bool → ℕ → List ℕ
class_if rel marks v = if is_marked marks v then option_to_list (class_of_variable rel v) else []

abbrev pub classes_among : Rel → List Bool → List ℕ → List ℕ
classes_among rel marks variables = flat_map (class_if rel marks) variables
