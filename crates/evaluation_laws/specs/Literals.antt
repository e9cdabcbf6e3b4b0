-- String literals hold storable characters, as each that is read does: so what an expression makes of them may stand in a slot.
use Rattle.std.specs.Prelude.{ℕ, List, Contains, IsTrue}
use Rattle.mof_metamodel.specs.Characters.{is_storable_text}
use Rattle.qv_syntax.specs.declared.ty.Ty.{Ty}
use Rattle.qv_syntax.specs.declared.typed.Typed.{Typed}
use Rattle.qv_syntax.specs.declared.typed.Node.TheVariants as nodes
use Rattle.qv_syntax.specs.declared.query.Query.{Query}
use Rattle.qv_syntax.specs.declared.program.Program.{Program}
use Rattle.qv_syntax.specs.declared.program.Rel.{Rel}
use Rattle.qv_syntax.specs.declared.program.Dom.{Dom}
use Rattle.qv_syntax.specs.declared.program.Conj.{Conj}
use Rattle.qv_syntax.specs.Parts.{IsWithin}
use Rattle.qv_syntax.specs.Relations.{InConjunct, IsItemExpression}

-- each string literal within the expression is storable
abbrev pub HasStorableLiterals : Typed → Type 0
HasStorableLiterals e = (ty : Ty) (text : List ℕ) → IsWithin e (record { ty = ty; node = nodes.Str text }) → IsTrue (is_storable_text text)

-- the expressions of a relation: those of its clauses and of its domains' items
pub data IsExpressionOf (rel : Rel) (e : Typed) : Type 0 where
  of_when : (c : Conj) → Contains rel.whens c → InConjunct c e → IsExpressionOf rel e
  of_where : (c : Conj) → Contains rel.wheres c → InConjunct c e → IsExpressionOf rel e
  of_item : (dom : Dom) → Contains rel.domains dom → IsItemExpression dom e → IsExpressionOf rel e

-- so it is in the queries and the relations of a program
pub record HasStorableTexts (program : Program) : Type 0 where
  pub queries : (query : Query) → Contains program.queries query → HasStorableLiterals query.body
  pub relations : (rel : Rel) (e : Typed) → Contains program.rels rel → IsExpressionOf rel e → HasStorableLiterals e
