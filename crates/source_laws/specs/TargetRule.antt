-- Rule E2 on what the expressions of a relation name and ask for: objects of the target model are only handed on (QVT 1.3, section 7.10.2).
use Rattle.std.specs.Prelude.{◌≡◌, ◌⊎◌, ℕ, true, List, Contains}
use Rattle.qv_syntax.specs.declared.ty.Ty.{Ty}
use Rattle.qv_syntax.specs.declared.typed.Typed.{Typed}
use Rattle.qv_syntax.specs.declared.typed.Node.TheVariants as nodes
use Rattle.qv_syntax.specs.declared.program.Program.{Program}
use Rattle.qv_syntax.specs.declared.program.Rel.{Rel}
use Rattle.qv_syntax.specs.declared.program.Dom.{Dom}
use Rattle.qv_syntax.specs.declared.program.Conj.{Conj}
use Rattle.qv_syntax.specs.declared.program.Conj.TheVariants as conjuncts
use Rattle.qv_syntax.specs.Parts.{Names}
use Rattle.qv_syntax.specs.Relations.{IsItemExpression, InConjunct}
use Rattle.template_match.specs.Sources.{IsAsked, is_target_variable}
use Rattle.source_laws.specs.SourceExpressions.{SpeaksOfSources}
use Rattle.source_laws.specs.SourceRelations.{NamesSources}

-- the conjunct stands in the when clause or in the where clause
abbrev pub HasConjunct : Rel → Conj → Type 0
HasConjunct rel c = Contains rel.whens c ⊎ Contains rel.wheres c

-- the value of an item of a domain, or an argument of a call: where a variable for objects of the target may stand alone
pub data MayBeTarget (rel : Rel) (e : Typed) : Type 0 where
  item : (dom : Dom) → Contains rel.domains dom → IsItemExpression dom e → MayBeTarget rel e
  argument : (number : ℕ) (args : List Typed) → HasConjunct rel (conjuncts.Call number args) → Contains args e → MayBeTarget rel e

-- an expression of the relation: the value of an item of a domain, a condition, the value of an equation, or an argument of a call
pub data IsExpressionOf (rel : Rel) (e : Typed) : Type 0 where
  item : (dom : Dom) → Contains rel.domains dom → IsItemExpression dom e → IsExpressionOf rel e
  conjunct : (c : Conj) → HasConjunct rel c → InConjunct c e → IsExpressionOf rel e

-- the expression is a variable
abbrev pub IsVariableAlone : Typed → Type 0
IsVariableAlone e = (ty : Ty) × (v : ℕ) × (e ≡ record { ty = ty; node = nodes.Variable v })

-- Neither an expression of the relation nor a query that it calls, itself or through others, has an `allInstances` of the target model. A
-- variable for objects of the target stands only alone, as the value of an item or as an argument of a call; no condition and no equation
-- names one. So no expression navigates from such an object, tests or casts one, or hands one to a query.
pub record HandsTargetOn (program : Program) (rel : Rel) : Type 0 where
  pub speaks : (e : Typed) → IsExpressionOf rel e → SpeaksOfSources program e
  pub alone : (e : Typed) (v : ℕ) → MayBeTarget rel e → Names e v → is_target_variable program rel v ≡ true → IsVariableAlone e
  pub named : (c : Conj) (e : Typed) → HasConjunct rel c → IsAsked c e → NamesSources program rel e
