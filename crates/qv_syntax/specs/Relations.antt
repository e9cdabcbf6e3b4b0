-- What stands in the relations of a program: templates, expressions, variables and calls (QVT 1.3, sections 7.3 and 7.11.1).
use Rattle.std.specs.Prelude.{◌≡◌, ◌≢◌, ℕ, suc, false, List, [], ◌∷◌, None, Some, slice_get, Contains}
use Rattle.mof_metamodel.specs.declared.desc.ClassId.{ClassId}
use Rattle.qv_syntax.specs.declared.ty.Ty.{Ty}
use Rattle.qv_syntax.specs.declared.ty.Ty.TheVariants as types
use Rattle.qv_syntax.specs.declared.typed.Typed.{Typed}
use Rattle.qv_syntax.specs.declared.typed.Node.TheVariants as nodes
use Rattle.qv_syntax.specs.declared.typed.TypedInfix.{TypedInfix}
use Rattle.qv_syntax.specs.declared.operator.Operator.TheVariants as operators
use Rattle.qv_syntax.specs.declared.query.ModelSlot.{ModelSlot}
use Rattle.qv_syntax.specs.declared.program.Program.{Program}
use Rattle.qv_syntax.specs.declared.program.Rel.{Rel}
use Rattle.qv_syntax.specs.declared.program.Var.{Var}
use Rattle.qv_syntax.specs.declared.program.Dom.{Dom}
use Rattle.qv_syntax.specs.declared.program.Tmpl.{Tmpl, out-Tmpl}
use Rattle.qv_syntax.specs.declared.program.Item.{Item}
use Rattle.qv_syntax.specs.declared.program.ItemValue.TheVariants as items
use Rattle.qv_syntax.specs.declared.program.Conj.{Conj}
use Rattle.qv_syntax.specs.declared.program.Conj.TheVariants as conjuncts
use Rattle.qv_syntax.specs.Parts.{Names, IsNested, HasItem}

-- ---- domains and templates

-- a domain of a model, and the number of its metamodel
pub record IsModelDomain (program : Program) (rel : Rel) (dom : Dom) : Type 0 where
  pub is : Contains rel.domains dom
  pub model : ℕ
  pub of_model : dom.model ≡ Some model
  pub slot : ModelSlot
  pub found : slice_get program.models model ≡ Some slot

-- a domain of the target model
pub record IsTargetDomain (program : Program) (rel : Rel) (dom : Dom) : Type 0 where
  pub is : Contains rel.domains dom
  pub target : dom.model ≡ Some program.target

-- a domain of another model, or a primitive one
pub record IsSourceDomain (program : Program) (rel : Rel) (dom : Dom) : Type 0 where
  pub is : Contains rel.domains dom
  pub source : dom.model ≢ Some program.target

-- a template of a domain, at any depth
pub record IsTemplateOf (dom : Dom) (t : Tmpl) : Type 0 where
  pub root : Tmpl
  pub has : dom.template ≡ Some root
  pub nested : IsNested root t

-- an item of a template of a domain
pub record IsItemOf (dom : Dom) (item : Item) : Type 0 where
  pub template : Tmpl
  pub of : IsTemplateOf dom template
  pub has : HasItem template item

-- the value of an item of a domain
pub record IsItemExpression (dom : Dom) (e : Typed) : Type 0 where
  pub item : Item
  pub of : IsItemOf dom item
  pub is : item.value ≡ items.Expr e

-- ---- conjuncts

-- an expression of a conjunct
abbrev pub InConjunct : Conj → Typed → Type 0
InConjunct (conjuncts.Cond c) e = c ≡ e
InConjunct (conjuncts.Equation v value) e = value ≡ e
InConjunct (conjuncts.Call rel args) e = Contains args e

-- the variable of a conjunct that is an equation
abbrev pub IsSubject : Conj → ℕ → Type 0
IsSubject (conjuncts.Cond c) v = ⊥
IsSubject (conjuncts.Equation w value) v = w ≡ v
IsSubject (conjuncts.Call rel args) v = ⊥

-- ---- where a variable occurs

pub data OccursInTemplates (dom : Dom) (v : ℕ) : Type 0 where
  root : dom.root ≡ v → OccursInTemplates dom v
  template : (t : Tmpl) → IsTemplateOf dom t → (out-Tmpl t).var ≡ v → OccursInTemplates dom v
  item : (e : Typed) → IsItemExpression dom e → Names e v → OccursInTemplates dom v

pub data OccursInClause (clause : List Conj) (v : ℕ) : Type 0 where
  subject : (c : Conj) → Contains clause c → IsSubject c v → OccursInClause clause v
  expression : (c : Conj) (e : Typed) → Contains clause c → InConjunct c e → Names e v → OccursInClause clause v

-- in a source domain, a primitive domain or the when clause
pub data IsUniversal (program : Program) (rel : Rel) (v : ℕ) : Type 0 where
  domain : (dom : Dom) → IsSourceDomain program rel dom → OccursInTemplates dom v → IsUniversal program rel v
  when : OccursInClause rel.whens v → IsUniversal program rel v

-- ---- data variables

-- a variable of a data type
pub record IsDataVariable (rel : Rel) (v : ℕ) : Type 0 where
  pub var : Var
  pub found : slice_get rel.vars v ≡ Some var
  pub data_type : (m : ℕ) (class : ClassId) → var.ty ≢ types.Class m class

-- `= e` behind a part
abbrev equals : Typed → Ty → List TypedInfix
equals e link = record { operator = operators.Equal; right = e; ty = link } ∷ []

-- a conjunct `v = e`: the equation of v, or a further one, which is a condition
pub data Says : Conj → ℕ → Typed → Type 0 where
  equation : (v : ℕ) (e : Typed) → Says (conjuncts.Equation v e) v e
  condition : (v : ℕ) (e : Typed) (ty own link : Ty)
      → Says (conjuncts.Cond (record { ty = ty; node = nodes.Chain (record { ty = own; node = nodes.Variable v }) (equals e link) })) v e

-- an item that is the variable alone
pub record IsItemAlone (dom : Dom) (v : ℕ) : Type 0 where
  pub ty : Ty
  pub is : IsItemExpression dom (record { ty = ty; node = nodes.Variable v })

-- The bound data variables: the least set that these rules give.
pub data IsBound (program : Program) (rel : Rel) : ℕ → Type 0 where
  -- a universal one by a source item, by a conjunct of when, or in a relation that isn't top by a primitive domain
  source_item : (v : ℕ) (dom : Dom) → IsUniversal program rel v → IsSourceDomain program rel dom → IsItemAlone dom v → IsBound program rel v
  when : (v : ℕ) (c : Conj) (e : Typed) → IsUniversal program rel v → Contains rel.whens c → Says c v e
      → ((w : ℕ) → Names e w → IsDataVariable rel w → IsBound program rel w) → IsBound program rel v
  primitive : (v : ℕ) (dom : Dom) → rel.top ≡ false → Contains rel.domains dom → dom.model ≡ None → dom.root ≡ v → IsBound program rel v
  -- an existential one by a target item, or by a conjunct of where
  target_item : (v : ℕ) (dom : Dom) → ¬ IsUniversal program rel v → IsTargetDomain program rel dom → IsItemAlone dom v → IsBound program rel v
  where_clause : (v : ℕ) (c : Conj) (e : Typed) → ¬ IsUniversal program rel v → Contains rel.wheres c → Says c v e
      → ((w : ℕ) → Names e w → IsDataVariable rel w → IsBound program rel w) → IsBound program rel v

-- ---- calls

-- the relation calls the one of this number in its when clause, and in its where clause
abbrev pub CallsIn : List Conj → ℕ → Type 0
CallsIn clause number = (args : List Typed) × Contains clause (conjuncts.Call number args)

-- a path of calls between relations, with the number of those that stand in when clauses
pub data IsCallPath (program : Program) : ℕ → ℕ → Type 0 where
  end : (number : ℕ) → IsCallPath program number 0
  by_when : (number : ℕ) (rel : Rel) (called count : ℕ) → slice_get program.rels number ≡ Some rel → CallsIn rel.whens called
      → IsCallPath program called count → IsCallPath program number (suc count)
  by_where : (number : ℕ) (rel : Rel) (called count : ℕ) → slice_get program.rels number ≡ Some rel → CallsIn rel.wheres called
      → IsCallPath program called count → IsCallPath program number count
