-- The numbers in a program name what is there, and each item names a property of its template's class.
use Rattle.std.specs.Prelude.{◌≡◌, ◌<◌, ℕ, List, length, Some, Contains}
use Rattle.mof_metamodel.specs.declared.desc.MetaDesc.{MetaDesc}
use Rattle.mof_metamodel.specs.Metamodels.{props_of}
use Rattle.qv_syntax.specs.declared.query.ModelSlot.{ModelSlot}
use Rattle.qv_syntax.specs.declared.program.Program.{Program}
use Rattle.qv_syntax.specs.declared.program.Key.{Key}
use Rattle.qv_syntax.specs.declared.program.Rel.{Rel}
use Rattle.qv_syntax.specs.declared.program.Var.{Var}
use Rattle.qv_syntax.specs.declared.program.Dom.{Dom}
use Rattle.qv_syntax.specs.declared.program.Tmpl.{Tmpl, out-Tmpl}
use Rattle.qv_syntax.specs.declared.program.Item.{Item}
use Rattle.qv_syntax.specs.Types.{IsClassIn, IsSingleType}
use Rattle.qv_syntax.specs.Parts.{HasItem}
use Rattle.qv_syntax.specs.Relations.{IsModelDomain, IsTemplateOf, CallsIn}

-- each variable has the type of single values, and its model is one of the script
pub record AreVariablesInRange (metas : List MetaDesc) (program : Program) (rel : Rel) : Type 0 where
  pub types : (var : Var) → Contains rel.vars var → IsSingleType metas var.ty
  pub models : (var : Var) (m : ℕ) → Contains rel.vars var → var.model ≡ Some m → m < length program.models
  pub universal : (v : ℕ) → Contains rel.universal v → v < length rel.vars
  pub existential : (v : ℕ) → Contains rel.existential v → v < length rel.vars

-- the template's variable, its class, and the properties of its items
pub record IsTemplateInRange (metas : List MetaDesc) (rel : Rel) (meta : ℕ) (t : Tmpl) : Type 0 where
  pub var : (out-Tmpl t).var < length rel.vars
  pub class : IsClassIn metas meta (out-Tmpl t).class
  pub items : (item : Item) → HasItem t item → Contains (props_of class.meta (out-Tmpl t).class.0) item.prop.0

pub record IsRelationInRange (metas : List MetaDesc) (program : Program) (rel : Rel) : Type 0 where
  pub vars : AreVariablesInRange metas program rel
  pub roots : (dom : Dom) → Contains rel.domains dom → dom.root < length rel.vars
  pub models : (dom : Dom) (m : ℕ) → Contains rel.domains dom → dom.model ≡ Some m → m < length program.models
  pub templates : (dom : Dom) (d : IsModelDomain program rel dom) (t : Tmpl) → IsTemplateOf dom t → IsTemplateInRange metas rel d.slot.meta t
  pub when_calls : (number : ℕ) → CallsIn rel.whens number → number < length program.rels
  pub where_calls : (number : ℕ) → CallsIn rel.wheres number → number < length program.rels

pub record HasNumbersInRange (metas : List MetaDesc) (program : Program) : Type 0 where
  pub slots : (slot : ModelSlot) → Contains program.models slot → slot.meta < length metas
  pub target : program.target < length program.models
  pub keys : (key : Key) → Contains program.keys key → IsClassIn metas key.meta key.class
  pub relations : (rel : Rel) → Contains program.rels rel → IsRelationInRange metas program rel
