-- Each node of an expression of a program has the type that the language gives it, and the rules on types hold for conditions,
-- equations, values of items, arguments of calls and results of queries (OCL 2.4, chapter 8; QVT 1.3, section 7.11).
use Rattle.std.specs.Prelude.{◌≡◌, ◌⊎◌, ℕ, List, [], ◌∷◌, map, None, Some, slice_get, Contains}
use Rattle.mof_metamodel.specs.declared.desc.MetaDesc.{MetaDesc}
use Rattle.qv_syntax.specs.declared.ty.Ty.{Ty}
use Rattle.qv_syntax.specs.declared.ty.Ty.TheVariants as types
use Rattle.qv_syntax.specs.declared.typed.Typed.{Typed}
use Rattle.qv_syntax.specs.declared.typed.Values.{Values}
use Rattle.qv_syntax.specs.declared.query.Query.{Query}
use Rattle.qv_syntax.specs.declared.program.Program.{Program}
use Rattle.qv_syntax.specs.declared.program.Rel.{Rel}
use Rattle.qv_syntax.specs.declared.program.Var.{Var}
use Rattle.qv_syntax.specs.declared.program.Dom.{Dom}
use Rattle.qv_syntax.specs.declared.program.Tmpl.{Tmpl, out-Tmpl}
use Rattle.qv_syntax.specs.declared.program.Item.{Item}
use Rattle.qv_syntax.specs.declared.program.ItemValue.TheVariants as items
use Rattle.qv_syntax.specs.declared.program.Conj.{Conj}
use Rattle.qv_syntax.specs.declared.program.Conj.TheVariants as conjuncts
use Rattle.qv_syntax.specs.Types.{IsWrittenType, ConformsTo, AreRelated}
use Rattle.qv_syntax.specs.TypeRules.{AreComparable, HasProperty}
use Rattle.qv_syntax.specs.TypedTrees.{QueryType, Context, Typing, Variables, without_model, IsTyped}
use Rattle.qv_syntax.specs.Parts.{HasItem}
use Rattle.qv_syntax.specs.Relations.{IsModelDomain, IsTemplateOf}

abbrev pub query_type : Query → QueryType
query_type q = record { params = q.params; result = q.result }

-- what the expressions of a program may name
abbrev pub context_of : List MetaDesc → Program → Context
context_of metas program = record { metas = metas; slots = program.models; queries = map query_type program.queries }

abbrev pub typing_of : Var → Typing
typing_of var = record { ty = var.ty; model = var.model }

-- the variables of a relation are those in reach in its expressions
abbrev pub variables_of : Rel → Variables
variables_of rel = map typing_of rel.vars

-- ---- queries

-- the body has the type of the result or a class that conforms to it; the parameters, and the result, have no model
pub record IsQueryTyped (metas : List MetaDesc) (program : Program) (q : Query) : Type 0 where
  pub params : (ty : Ty) → Contains q.params ty → IsWrittenType metas ty
  pub result : IsWrittenType metas q.result
  pub typing : Typing
  pub body : IsTyped (context_of metas program) (map without_model q.params) q.body typing
  pub conforms : ConformsTo metas typing.ty q.result

-- ---- places that ask for a type and a model

-- what is given has the type that is asked for, or a related class, and no other model
pub record Fits (metas : List MetaDesc) (wanted given : Typing) : Type 0 where
  pub related : AreRelated metas given.ty wanted.ty
  pub model : (given.model ≡ None) ⊎ (given.model ≡ wanted.model)

-- the value of the expression stands where a value of this type and model is asked for
pub record IsGiven (metas : List MetaDesc) (program : Program) (rel : Rel) (wanted : Typing) (e : Typed) : Type 0 where
  pub typing : Typing
  pub typed : IsTyped (context_of metas program) (variables_of rel) e typing
  pub fits : Fits metas wanted typing

-- ---- conjuncts

pub record IsConditionTyped (metas : List MetaDesc) (program : Program) (rel : Rel) (e : Typed) : Type 0 where
  pub typing : Typing
  pub typed : IsTyped (context_of metas program) (variables_of rel) e typing
  pub boolean : typing.ty ≡ types.Bool

-- the variable may be compared with the expression
pub record IsEquationTyped (metas : List MetaDesc) (program : Program) (rel : Rel) (v : ℕ) (e : Typed) : Type 0 where
  pub var : Var
  pub found : slice_get rel.vars v ≡ Some var
  pub typing : Typing
  pub typed : IsTyped (context_of metas program) (variables_of rel) e typing
  pub compared : AreComparable metas var.ty typing.ty

-- an argument for each domain of the called relation, each of its root's type and model
abbrev pub AreGiven : List MetaDesc → Program → Rel → Rel → List Dom → List Typed → Type 0
AreGiven metas program rel called [] [] = Unit {0}
AreGiven metas program rel called (dom ∷ doms) (e ∷ es) =
    ((root : Var) × (slice_get called.vars dom.root ≡ Some root) × IsGiven metas program rel (typing_of root) e) × AreGiven metas program rel called doms es
AreGiven metas program rel called doms es = ⊥

pub record IsCallTyped (metas : List MetaDesc) (program : Program) (rel : Rel) (number : ℕ) (args : List Typed) : Type 0 where
  pub called : Rel
  pub found : slice_get program.rels number ≡ Some called
  pub given : AreGiven metas program rel called called.domains args

abbrev pub IsConjunctTyped : List MetaDesc → Program → Rel → Conj → Type 0
IsConjunctTyped metas program rel (conjuncts.Cond e) = IsConditionTyped metas program rel e
IsConjunctTyped metas program rel (conjuncts.Equation v e) = IsEquationTyped metas program rel v e
IsConjunctTyped metas program rel (conjuncts.Call number args) = IsCallTyped metas program rel number args

-- ---- items

-- An item whose property is of this type, in a domain of this model: it asks for an empty slot, for the value of an expression of the type
-- and model, or for an object of a template whose class is related to the type.
pub data IsItemOfType (metas : List MetaDesc) (program : Program) (rel : Rel) (model meta : ℕ) (of : Ty) (item : Item) : Type 0 where
  empty : item.value ≡ items.Null → IsItemOfType metas program rel model meta of item
  expression : (e : Typed) → item.value ≡ items.Expr e → IsGiven metas program rel (record { ty = of; model = Some model }) e
      → IsItemOfType metas program rel model meta of item
  nested : (part : Tmpl) → item.value ≡ items.Nested part → AreRelated metas (types.Class meta (out-Tmpl part).class) of
      → IsItemOfType metas program rel model meta of item

-- an item of a template in a domain of the model, whose metamodel has this number
pub record IsItemTyped (metas : List MetaDesc) (program : Program) (rel : Rel) (model meta : ℕ) (t : Tmpl) (item : Item) : Type 0 where
  pub gives : Values
  pub of : Ty
  pub property : HasProperty metas (types.Class meta (out-Tmpl t).class) item.prop gives of
  pub value : IsItemOfType metas program rel model meta of item

-- ---- the whole

pub record IsRelationTyped (metas : List MetaDesc) (program : Program) (rel : Rel) : Type 0 where
  pub whens : (c : Conj) → Contains rel.whens c → IsConjunctTyped metas program rel c
  pub wheres : (c : Conj) → Contains rel.wheres c → IsConjunctTyped metas program rel c
  pub items : (dom : Dom) (d : IsModelDomain program rel dom) (t : Tmpl) (item : Item) → IsTemplateOf dom t → HasItem t item
      → IsItemTyped metas program rel d.model d.slot.meta t item

pub record HasTypedExpressions (metas : List MetaDesc) (program : Program) : Type 0 where
  pub queries : (q : Query) → Contains program.queries q → IsQueryTyped metas program q
  pub relations : (rel : Rel) → Contains program.rels rel → IsRelationTyped metas program rel
