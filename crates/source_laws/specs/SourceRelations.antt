-- Relations whose source speaks of no object of the target model (QVT 1.3, sections 7.10.2 and 7.11.1.4).
use Rattle.std.specs.Prelude.{◌≡◌, ◌↔◌, ℕ, false, List, Some, length, Contains, AllPairs}
use Rattle.object_tables.specs.Models.{ModelData}
use Rattle.qv_syntax.specs.declared.program.Program.{Program}
use Rattle.qv_syntax.specs.declared.program.Rel.{Rel}
use Rattle.qv_syntax.specs.declared.program.Dom.{Dom}
use Rattle.qv_syntax.specs.declared.program.Tmpl.{Tmpl, out-Tmpl}
use Rattle.qv_syntax.specs.declared.program.Conj.{Conj}
use Rattle.qv_syntax.specs.declared.program.Conj.TheVariants as conjuncts
use Rattle.qv_syntax.specs.declared.ty.Ty.{Ty}
use Rattle.qv_syntax.specs.declared.typed.Typed.{Typed}
use Rattle.qv_syntax.specs.declared.typed.Node.TheVariants as nodes
use Rattle.qv_syntax.specs.Parts.{Names}
use Rattle.qv_syntax.specs.Relations.{IsSourceDomain, IsTemplateOf, IsItemExpression}
use Rattle.qvtr_semantics.specs.declared.datum.Datum.{Datum}
use Rattle.qvtr_semantics.specs.Templates.{Values, value_at}
use Rattle.qvtr_semantics.specs.Satisfaction.{IsLess}
use Rattle.template_match.specs.Sources.{IsAsked, is_target_variable, source_variables, SourceWithoutTarget}
use Rattle.source_laws.specs.SourceValues.{IsOfSources}
use Rattle.source_laws.specs.SourceExpressions.{SpeaksOfSources}

-- the expression is the value of an item of a source domain, or stands in the when clause as a condition or behind the variable of an equation
pub data IsSourceExpression (program : Program) (rel : Rel) (e : Typed) : Type 0 where
  item : (dom : Dom) → IsSourceDomain program rel dom → IsItemExpression dom e → IsSourceExpression program rel e
  asked : (c : Conj) → Contains rel.whens c → IsAsked c e → IsSourceExpression program rel e

-- no variable that the expression names is one for objects of the target
abbrev pub NamesSources : Program → Rel → Typed → Type 0
NamesSources program rel e = (v : ℕ) → Names e v → is_target_variable program rel v ≡ false

-- each of these speaks of sources and names no variable for objects of the target, and neither is the variable of a template of a source domain
pub record KeepsToSources (program : Program) (rel : Rel) : Type 0 where
  pub speaks : (e : Typed) → IsSourceExpression program rel e → SpeaksOfSources program e
  pub names : (e : Typed) → IsSourceExpression program rel e → NamesSources program rel e
  pub templates : (dom : Dom) (t : Tmpl) → IsSourceDomain program rel dom → IsTemplateOf dom t → is_target_variable program rel (out-Tmpl t).var ≡ false

-- two bindings have the same values but at the variables for objects of the target
pub record AgreeOnSources (program : Program) (rel : Rel) (b c : Values) : Type 0 where
  pub places : length b ≡ length c
  pub same : (v : ℕ) → is_target_variable program rel v ≡ false → value_at b v ≡ value_at c v

-- the bindings of the source of a relation without objects of the target, in the order of their values, each once: what `source_bindings` gives
pub record AreSourceBindings (program : Program) (models : List ModelData) (rel : Rel) (roots : Values) (bs : List Values) : Type 0 where
  pub exact : (b : Values) → Contains bs b ↔ SourceWithoutTarget program models rel roots b
  pub sorted : AllPairs (IsLess (source_variables program rel)) bs

-- ---- calls

-- an argument of a call is a variable alone, or it speaks of sources and names no variable for objects of the target
pub data IsPlainArgument (program : Program) (rel : Rel) (e : Typed) : Type 0 where
  alone : (ty : Ty) (v : ℕ) → e ≡ record { ty = ty; node = nodes.Variable v } → IsPlainArgument program rel e
  of_sources : SpeaksOfSources program e → NamesSources program rel e → IsPlainArgument program rel e

abbrev pub HavePlainArguments : Program → Rel → List Conj → Type 0
HavePlainArguments program rel clause = (number : ℕ) (args : List Typed) (e : Typed) → Contains clause (conjuncts.Call number args) → Contains args e → IsPlainArgument program rel e

-- only the variables for objects of the target have such objects
abbrev pub IsApart : Program → Rel → Values → Type 0
IsApart program rel b = (v : ℕ) (d : Datum) → is_target_variable program rel v ≡ false → value_at b v ≡ Some d → IsOfSources program.target d
