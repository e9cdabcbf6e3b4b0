-- Bindings of the source without objects of the target (QVT 1.3, sections 7.10.1 and 7.11.1.4): where the when clause speaks of no object of
-- the target model but in calls, the other universal variables have their values without it.
use Rattle.std.specs.Prelude.{◌≡◌, ◌⊎◌, ℕ, Bool, false, ◌&&◌, not, List, Option, None, Some, length, slice_get, Contains, IsTrue}
use Rattle.std.specs.List.{filter, list_all}
use Rattle.object_tables.specs.Models.{ModelData}
use Rattle.qv_syntax.specs.declared.program.Program.{Program}
use Rattle.qv_syntax.specs.declared.program.Rel.{Rel}
use Rattle.qv_syntax.specs.declared.program.Var.{Var}
use Rattle.qv_syntax.specs.declared.program.Conj.{Conj}
use Rattle.qv_syntax.specs.declared.program.Conj.TheVariants as conjuncts
use Rattle.qv_syntax.specs.declared.typed.Typed.{Typed}
use Rattle.qv_syntax.specs.Parts.{Names}
use Rattle.qvtr_semantics.specs.declared.datum.Datum.{Datum}
use Rattle.qvtr_semantics.specs.Templates.{Values, value_at}
use Rattle.qvtr_semantics.specs.Bindings.{is_model, have_values, source_meets, conjunct_holds, Extends}

-- the variable is one for objects of the target model
abbrev pub is_of_target : Program → Option Var → Bool
is_of_target program None = false
is_of_target program (Some var) = is_model var.model program.target

abbrev pub is_target_variable : Program → Rel → ℕ → Bool
is_target_variable program rel v = is_of_target program (slice_get rel.vars v)

-- the universal variables but for these
abbrev pub source_variables : Program → Rel → List ℕ
source_variables program rel = filter (λ v. not (is_target_variable program rel v)) rel.universal

-- the expression of a condition or of an equation
abbrev pub IsAsked : Conj → Typed → Type 0
IsAsked (conjuncts.Cond c) e = c ≡ e
IsAsked (conjuncts.Equation v value) e = value ≡ e
IsAsked (conjuncts.Call rel args) e = ⊥

-- no condition and no equation of the when clause names a variable for objects of the target model
abbrev pub NamesNoTarget : Program → Rel → Type 0
NamesNoTarget program rel = (c : Conj) (e : Typed) (v : ℕ) → Contains rel.whens c → IsAsked c e → Names e v → is_target_variable program rel v ≡ false

abbrev pub meets_without_target : Program → List ModelData → Rel → Values → Bool
meets_without_target program models rel b =
    have_values program models rel (source_variables program rel) b
    && list_all (source_meets program models b) rel.domains
    && list_all (conjunct_holds program models b) rel.whens

-- b gives values to these variables, and to the roots that are fixed, and meets the source
pub record SourceWithoutTarget (program : Program) (models : List ModelData) (rel : Rel) (roots b : Values) : Type 0 where
  pub places : length b ≡ length rel.vars
  pub extends : Extends roots b
  pub no_others : (v : ℕ) (d : Datum) → value_at b v ≡ Some d → Contains (source_variables program rel) v ⊎ (value_at roots v ≡ Some d)
  pub meets : IsTrue (meets_without_target program models rel b)
