-- Bindings of the variables of a relation: what meets its source, and what meets its target (QVT 1.3, sections 7.2, 7.10.1 and 7.11.1.4).
use Rattle.std.specs.Prelude.{◌≡◌, ◌⊎◌, ℕ, Bool, true, false, ◌&&◌, ◌||◌, not, ◌==◌, List, length, Option, None, Some, slice_get, Contains, IsTrue}
use Rattle.std.specs.List.{list_all}
use Rattle.object_tables.specs.declared.value.Value.{Value}
use Rattle.object_tables.specs.declared.value.Value.TheVariants as values
use Rattle.object_tables.specs.Models.{ModelData}
use Rattle.qv_syntax.specs.declared.program.Program.{Program}
use Rattle.qv_syntax.specs.declared.program.Rel.{Rel}
use Rattle.qv_syntax.specs.declared.program.Var.{Var}
use Rattle.qv_syntax.specs.declared.program.Dom.{Dom}
use Rattle.qv_syntax.specs.declared.program.Tmpl.{Tmpl}
use Rattle.qv_syntax.specs.declared.program.Conj.{Conj}
use Rattle.qv_syntax.specs.declared.program.Conj.TheVariants as conjuncts
use Rattle.qv_syntax.specs.declared.ty.Ty.{Ty}
use Rattle.qv_syntax.specs.declared.ty.Ty.TheVariants as types
use Rattle.qvtr_semantics.specs.declared.datum.Datum.{Datum}
use Rattle.qvtr_semantics.specs.declared.datum.Datum.TheVariants.{Obj, Val}
use Rattle.qvtr_semantics.specs.Outs.{datum_of}
use Rattle.qvtr_semantics.specs.Data.{same_datum}
use Rattle.qvtr_semantics.specs.Objects.{Setting}
use Rattle.qvtr_semantics.specs.Expressions.{setting, value_for, is_true}
use Rattle.qvtr_semantics.specs.Templates.{Values, value_at, is_of_class, meets}

-- ---- the values that a variable may have

abbrev pub is_value_of_type : Ty → Value → Bool
is_value_of_type types.Str (values.Str s) = true
is_value_of_type types.Int (values.Int i) = true
is_value_of_type types.Bool (values.Bool b) = true
is_value_of_type (types.Enum meta e) (values.Lit f n) = e.0 == f.0
is_value_of_type ty v = false

-- a literal goes with the number of its metamodel
abbrev pub meta_of_type : Ty → ℕ
meta_of_type (types.Enum meta e) = meta
meta_of_type ty = 0

abbrev pub is_model : Option ℕ → ℕ → Bool
is_model None m = false
is_model (Some n) m = n == m

abbrev pub is_object_for : Setting → Var → Ty → ℕ → Datum → Bool
is_object_for s var (types.Class meta class) m d = is_model var.model m && is_of_class s class.0 d
is_object_for s var ty m d = false

-- a value of the variable's type, or a live object of its model and class
abbrev pub is_datum_for : Setting → Var → Datum → Bool
is_datum_for s var (Val m v) = (m == meta_of_type var.ty) && is_value_of_type var.ty v
is_datum_for s var (Obj m o) = is_object_for s var var.ty m (Obj m o)

abbrev pub is_value_for : Setting → Option Var → Option Datum → Bool
is_value_for s (Some var) (Some d) = is_datum_for s var d
is_value_for s var d = false

-- each of the variables has a value that it may have
abbrev pub have_values : Program → List ModelData → Rel → List ℕ → Values → Bool
have_values program models rel vars b = list_all (λ v. is_value_for (setting program models) (slice_get rel.vars v) (value_at b v)) vars

-- ---- templates and conjuncts

abbrev pub is_target_domain : Program → Dom → Bool
is_target_domain program dom = is_model dom.model program.target

abbrev pub template_meets : Program → List ModelData → Option Tmpl → Values → Bool
template_meets program models None b = true
template_meets program models (Some t) b = meets program models t b

-- a domain of the target model, or one of another model, matches; of the other kind nothing is asked
abbrev pub target_meets : Program → List ModelData → Values → Dom → Bool
target_meets program models g dom = not (is_target_domain program dom) || template_meets program models dom.template g

abbrev pub source_meets : Program → List ModelData → Values → Dom → Bool
source_meets program models b dom = is_target_domain program dom || template_meets program models dom.template b

abbrev pub are_one : Option Datum → Option Datum → Bool
are_one (Some d) (Some e) = same_datum d e
are_one d e = false

-- a condition is true, an equation gives its variable the value of its expression; what a call asks is told apart
abbrev pub conjunct_holds : Program → List ModelData → Values → Conj → Bool
conjunct_holds program models b (conjuncts.Cond e) = is_true program models e b
conjunct_holds program models b (conjuncts.Equation v e) = are_one (value_at b v) (datum_of (value_for program models e b))
conjunct_holds program models b (conjuncts.Call rel args) = true

-- ---- source and target

-- the binding meets the source patterns and the when clause but for its calls
abbrev pub meets_source : Program → List ModelData → Rel → Values → Bool
meets_source program models rel b =
    have_values program models rel rel.universal b
    && list_all (source_meets program models b) rel.domains
    && list_all (conjunct_holds program models b) rel.whens

-- the binding meets the target pattern and the where clause but for its calls
abbrev pub meets_target : Program → List ModelData → Rel → Values → Bool
meets_target program models rel g =
    have_values program models rel rel.existential g
    && list_all (target_meets program models g) rel.domains
    && list_all (conjunct_holds program models g) rel.wheres

-- the second gives each variable the value that the first gives it, if it gives one
abbrev pub Extends : Values → Values → Type 0
Extends a b = (v : ℕ) (d : Datum) → value_at a v ≡ Some d → value_at b v ≡ Some d

-- b gives values to the universal variables, and to the roots that are fixed, and meets the source
pub record Source (program : Program) (models : List ModelData) (rel : Rel) (roots b : Values) : Type 0 where
  pub places : length b ≡ length rel.vars
  pub extends : Extends roots b
  pub no_others : (v : ℕ) (d : Datum) → value_at b v ≡ Some d → Contains rel.universal v ⊎ (value_at roots v ≡ Some d)
  pub meets : IsTrue (meets_source program models rel b)

-- g gives b's values, and values to the existential variables, and meets the target
pub record Target (program : Program) (models : List ModelData) (rel : Rel) (b g : Values) : Type 0 where
  pub places : length g ≡ length rel.vars
  pub extends : Extends b g
  pub no_others : (v : ℕ) (d : Datum) → value_at g v ≡ Some d → Contains rel.existential v ⊎ (value_at b v ≡ Some d)
  pub meets : IsTrue (meets_target program models rel g)
