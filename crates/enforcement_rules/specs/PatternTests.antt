-- What the target domain and the where clause of a relation are, as tests.
use Rattle.std.specs.Prelude.{◌≡◌, ◌<◌, ℕ, Bool, true, false, ◌&&◌, not, List, [], ◌∷◌, Option, None, Some, Contains, if◌then◌else◌}
use Rattle.std.specs.List.{flat_map, list_any, list_all}
use Rattle.std.specs.Option.{option_map_or}
use Rattle.mof_metamodel.specs.declared.desc.MetaDesc.{MetaDesc}
use Rattle.mof_metamodel.specs.declared.desc.PropId.{PropId}
use Rattle.mof_metamodel.specs.Metamodels.{class_count, prop_count, class_at, type_of}
use Rattle.ocl_environments.specs.Environments.{meta_at}
use Rattle.ocl_environments.specs.Agreement.{fits}
use Rattle.ocl_environments.specs.Navigation.{value_type}
use Rattle.qv_syntax.specs.declared.ty.Ty.{Ty}
use Rattle.qv_syntax.specs.declared.ty.Ty.TheVariants as types
use Rattle.qv_syntax.specs.declared.typed.Typed.{Typed}
use Rattle.qv_syntax.specs.declared.typed.Node.{out-Node}
use Rattle.qv_syntax.specs.declared.program.Program.{Program}
use Rattle.qv_syntax.specs.declared.program.Rel.{Rel}
use Rattle.qv_syntax.specs.declared.program.Dom.{Dom}
use Rattle.qv_syntax.specs.declared.program.Marker.{Marker}
use Rattle.qv_syntax.specs.declared.program.Marker.TheVariants as markers
use Rattle.qv_syntax.specs.declared.program.Tmpl.{Tmpl, out-Tmpl}
use Rattle.qv_syntax.specs.declared.program.Item.{Item}
use Rattle.qv_syntax.specs.declared.program.ItemValue.{ItemValue, out-ItemValue}
use Rattle.qv_syntax.specs.declared.program.ItemValue.TheOpen as layers
use Rattle.qv_syntax.specs.declared.program.Conj.{Conj}
use Rattle.qv_syntax.specs.declared.program.Conj.TheVariants as conjuncts
use Rattle.qv_syntax.specs.Parts.{HasItem}
use Rattle.enforcement_rules.specs.declared.standing.Place.{Place}
use Rattle.enforcement_rules.specs.ExpressionTests.{variable_alone}
use Rattle.enforcement_rules.specs.KnownTests.{is_over_known}
use Rattle.enforcement_rules.specs.NumberSets.{is_among}
use Rattle.enforcement_rules.specs.Standings.{Shown}
use Rattle.enforcement_rules.specs.TargetTests.{is_of_target, is_target_variable, is_object_variable, has_class}

-- ---- E1

abbrev pub is_unmarked_as : Program → Option ℕ → Marker → Bool
is_unmarked_as program model markers.Enforce = false
is_unmarked_as program model markers.Checkonly = is_of_target program model
is_unmarked_as program model markers.Primitive = is_of_target program model

abbrev pub is_unmarked : Program → Dom → Bool
is_unmarked program dom = is_unmarked_as program dom.model dom.marker

-- ---- E3

abbrev pub is_settled_conjunct : Rel → List Bool → Conj → Bool
is_settled_conjunct rel known (conjuncts.Cond e) = is_over_known rel known e
is_settled_conjunct rel known (conjuncts.Equation v e) = true
is_settled_conjunct rel known (conjuncts.Call number args) = true

abbrev pub fits_property : List MetaDesc → ℕ → PropId → Ty → Bool
fits_property metas meta prop ty = option_map_or (λ of. fits metas ty (value_type meta of)) (type_of (meta_at metas meta) prop.0) false

module _ (metas : List MetaDesc) (program : Program) (rel : Rel) (meta : ℕ) where
  abbrev pub is_variable_settled : PropId → Ty → Option ℕ → Bool
  is_variable_settled prop ty None = false
  is_variable_settled prop ty (Some v) = is_target_variable program rel v && fits_property metas meta prop ty

  abbrev pub is_object_settled : PropId → Typed → Bool
  is_object_settled prop e = is_variable_settled prop e.ty (variable_alone (out-Node e.node))

  abbrev pub is_settled_expression : List Bool → PropId → Typed → Bool
  is_settled_expression known prop e = if has_class e.ty then is_object_settled prop e else is_over_known rel known e

  abbrev pub is_settled_value : List Bool → PropId → layers.ItemValue-F ItemValue Item Tmpl → Bool
  is_settled_value known prop layers.Null = false
  is_settled_value known prop (layers.Expr e) = is_settled_expression known prop e
  is_settled_value known prop (layers.Nested part) = fits_property metas meta prop (types.Class meta (out-Tmpl part).class)

  abbrev pub is_settled_item : List Bool → Item → Bool
  is_settled_item known item = is_settled_value known item.prop (out-ItemValue item.value)

  abbrev pub is_settled_template : List Bool → Shown → Bool
  is_settled_template known s = list_all (is_settled_item known) (out-Tmpl s.0).items

-- the numbers of a template, and of its place, name what is there
pub record IsSound (desc : MetaDesc) (s : Shown) : Type 0 where
  pub class : (out-Tmpl s.0).class.0 < class_count desc
  pub items : (item : Item) → HasItem s.0 item → item.prop.0 < prop_count desc
  pub place : (at : Place) → s.1 ≡ Some at → at.prop.0 < prop_count desc

abbrev pub AreSound : MetaDesc → List Shown → Type 0
AreSound desc templates = (s : Shown) → Contains templates s → IsSound desc s

-- ---- E4

abbrev pub concrete_variable : MetaDesc → Tmpl → List ℕ
concrete_variable desc t = if (class_at desc (out-Tmpl t).class.0).is_abstract then [] else (out-Tmpl t).var ∷ []

abbrev pub concrete_variables : MetaDesc → List Shown → List ℕ
concrete_variables desc templates = flat_map (λ s. concrete_variable desc s.0) templates

abbrev pub target_root : Program → Dom → List ℕ
target_root program dom = if is_of_target program dom.model then dom.root ∷ [] else []

abbrev pub handed_roots : Program → Rel → List ℕ
handed_roots program rel = if rel.top then [] else flat_map (target_root program) rel.domains

abbrev pub is_unmade : Program → Rel → (ℕ → Bool) → (ℕ → Bool) → ℕ → Bool
is_unmade program rel concrete handed v =
    is_object_variable rel v && not (handed v) && not (is_target_variable program rel v && concrete v)

abbrev pub has_unmade : List MetaDesc → Program → Rel → ℕ → List Shown → Bool
has_unmade metas program rel meta templates =
    list_any (is_unmade program rel (is_among (concrete_variables (meta_at metas meta) templates)) (is_among (handed_roots program rel))) rel.existential
