-- What a template resolves to (QVT 1.3, sections 7.11.2.2 and 7.11.2.3): each name is replaced by the number of what it names, and each
-- expression by its typed tree. Templates have numbers in the order of the text.
use Rattle.std.specs.Prelude.{◌≡◌, ℕ, ◌+◌, true, false, List, [], ◌∷◌, Option, Some}
use Rattle.mof_metamodel.specs.declared.desc.ClassId.{ClassId}
use Rattle.mof_metamodel.specs.Metamodels.{prop_number}
use Rattle.qv_syntax.specs.declared.name.Name.{Name}
use Rattle.qv_syntax.specs.declared.name.Path.{Path}
use Rattle.qv_syntax.specs.declared.expr.Expr.{Expr}
use Rattle.qv_syntax.specs.declared.typed.Typed.{Typed}
use Rattle.qv_syntax.specs.declared.script.TemplateTree.{TemplateTree, out-TemplateTree}
use Rattle.qv_syntax.specs.declared.script.ItemTree.{ItemTree}
use Rattle.qv_syntax.specs.declared.script.ItemValueTree.TheVariants as values
use Rattle.qv_syntax.specs.declared.program.Tmpl.{Tmpl, out-Tmpl}
use Rattle.qv_syntax.specs.declared.program.Item.{Item}
use Rattle.qv_syntax.specs.declared.program.ItemValue.TheVariants as items
use Rattle.ocl_environments.specs.Environments.{Environment, meta_at}
use Rattle.ocl_types.specs.HasType.{HasTree}
use Rattle.ocl_environments.specs.Naming.{names_of}
use Rattle.script_scopes.specs.Conjuncts.{is_null}
use Rattle.script_scopes.specs.Occurrences.{variable_text}
use Rattle.script_scopes.specs.Environments.{place_of}
use Rattle.script_scopes.specs.Declarations.{template_class}

-- what is in reach in the templates of a domain: what expressions may name, the names of the relation's variables, and the numbers of the
-- domain's model and of its metamodel
pub record DomainReach : Type 0 where
  pub env : Environment
  pub variables : List (List ℕ)
  pub model : ℕ
  pub meta : ℕ

module _ (reach : DomainReach) where
  -- the class that a path names, in the metamodel of the domain alone
  abbrev pub class_named : Path → Option ClassId
  class_named path = template_class reach.env.metas reach.env.names reach.meta (names_of path)

  -- the item names a property of the class
  abbrev pub NamesProperty : ClassId → ItemTree → Item → Type 0
  NamesProperty class tree item = prop_number (meta_at reach.env.metas reach.meta) class.0 tree.prop.text ≡ Some item.prop.0

  mutual
    -- a template of this number, up to the number of the next one
    pub data IsTemplate : ℕ → Option Name → TemplateTree → Tmpl → ℕ → Type 0 where
      template : (k next : ℕ) (variable : Option Name) (tree : TemplateTree) (t : Tmpl)
          → (out-Tmpl t).var ≡ place_of (variable_text k variable) reach.variables
          → class_named (out-TemplateTree tree).class ≡ Some (out-Tmpl t).class
          → AreItems (out-Tmpl t).class (k + 1) (out-TemplateTree tree).items (out-Tmpl t).items next
          → IsTemplate k variable tree t next

    pub data AreItems : ClassId → ℕ → List ItemTree → List Item → ℕ → Type 0 where
      none : (class : ClassId) (k : ℕ) → AreItems class k [] [] k
      one_more : (class : ClassId) (k middle next : ℕ) (tree : ItemTree) (trees : List ItemTree) (item : Item) (rest : List Item)
          → IsItem class k tree item middle → AreItems class middle trees rest next → AreItems class k (tree ∷ trees) (item ∷ rest) next

    pub data IsItem : ClassId → ℕ → ItemTree → Item → ℕ → Type 0 where
      empty : (class : ClassId) (k : ℕ) (tree : ItemTree) (item : Item) (e : Expr) → NamesProperty class tree item
          → tree.value ≡ values.Expr e → is_null e ≡ true → item.value ≡ items.Null → IsItem class k tree item k
      expression : (class : ClassId) (k : ℕ) (tree : ItemTree) (item : Item) (e : Expr) (t : Typed) → NamesProperty class tree item
          → tree.value ≡ values.Expr e → is_null e ≡ false → HasTree reach.env e t → item.value ≡ items.Expr t → IsItem class k tree item k
      nested : (class : ClassId) (k next : ℕ) (tree : ItemTree) (item : Item) (variable : Option Name) (inner : TemplateTree) (t : Tmpl) → NamesProperty class tree item
          → tree.value ≡ values.Nested variable inner → IsTemplate k variable inner t next → item.value ≡ items.Nested t → IsItem class k tree item next
