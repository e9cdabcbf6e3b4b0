-- What a scope is like of which types are kept: the variables that an expression names have values of their types (OCL 2.4, annex A.2.2).
use Rattle.std.specs.Prelude.{◌≡◌, ℕ, List, length, Option, Some, slice_get, Contains}
use Rattle.mof_metamodel.specs.declared.desc.MetaDesc.{MetaDesc}
use Rattle.qv_syntax.specs.declared.typed.Typed.{Typed}
use Rattle.qv_syntax.specs.declared.program.Rel.{Rel}
use Rattle.qv_syntax.specs.declared.program.Var.{Var}
use Rattle.qv_syntax.specs.declared.program.Dom.{Dom}
use Rattle.qv_syntax.specs.Parts.{Names}
use Rattle.qv_syntax.specs.Relations.{IsDataVariable}
use Rattle.qv_syntax.specs.TypedTrees.{Typing, Variables}
use Rattle.qv_syntax.specs.ProgramTypes.{typing_of}
use Rattle.qvtr_semantics.specs.declared.datum.Datum.{Datum}
use Rattle.qvtr_semantics.specs.Objects.{Setting}
use Rattle.qvtr_semantics.specs.Expressions.{Scope, variable}
use Rattle.qvtr_semantics.specs.Templates.{Values, value_at}
use Rattle.evaluation_laws.specs.TypedValues.{IsDatumOfTyping, IsValueIn}

-- ---- scopes

-- each variable in reach that the expression names has a value of its type, of whose objects' models this is said
pub record HasValuesIn (metas : List MetaDesc) (s : Setting) (In : Option ℕ → ℕ → Type 0) (e : Typed) (vars : Variables) (scope : Scope) : Type 0 where
  pub places : length scope ≡ length vars
  pub values : (n : ℕ) (v : Typing) → slice_get vars n ≡ Some v → Names e n → IsValueIn metas s (In v.model) v.ty (variable scope n)

-- objects of any model of the script, and objects of the one that the typing has
abbrev pub of_any_model : Option ℕ → ℕ → Type 0
of_any_model model k = Unit {0}

abbrev pub of_its_model : Option ℕ → ℕ → Type 0
of_its_model model k = model ≡ Some k

abbrev pub HasValuesOfTypes : List MetaDesc → Setting → Typed → Variables → Scope → Type 0
HasValuesOfTypes metas s e vars scope = HasValuesIn metas s of_any_model e vars scope

abbrev pub HasValuesOfTypings : List MetaDesc → Setting → Typed → Variables → Scope → Type 0
HasValuesOfTypings metas s e vars scope = HasValuesIn metas s of_its_model e vars scope

-- ---- variables of a relation

-- the variable has a value of its type and model, if it has one
abbrev pub IsValued : List MetaDesc → Setting → Rel → Values → ℕ → Type 0
IsValued metas s rel b v = (var : Var) (d : Datum) → slice_get rel.vars v ≡ Some var → value_at b v ≡ Some d → IsDatumOfTyping metas s (typing_of var) d

-- so has each that the expression names
pub record AreValued (metas : List MetaDesc) (s : Setting) (rel : Rel) (e : Typed) (b : Values) : Type 0 where
  pub places : length b ≡ length rel.vars
  pub values : (v : ℕ) → Names e v → IsValued metas s rel b v

-- ---- roots

-- the variable has a value of its type and model
pub record HasValueOfType (metas : List MetaDesc) (s : Setting) (rel : Rel) (b : Values) (v : ℕ) : Type 0 where
  pub var : Var
  pub found : slice_get rel.vars v ≡ Some var
  pub datum : Datum
  pub at : value_at b v ≡ Some datum
  pub is : IsDatumOfTyping metas s (typing_of var) datum

-- the roots of the relation's domains that are data variables have values of their types
abbrev pub AreRootsGiven : List MetaDesc → Setting → Rel → Values → Type 0
AreRootsGiven metas s rel roots = (dom : Dom) → Contains rel.domains dom → IsDataVariable rel dom.root → HasValueOfType metas s rel roots dom.root
