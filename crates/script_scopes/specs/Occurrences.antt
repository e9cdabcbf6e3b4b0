-- Where the variables of a relation occur, in the order of its text (QVT 1.3, sections 7.11.1 and 7.11.2). A variable is known by its
-- name; that of a template without a name by a text that no script can write.
use Rattle.std.specs.Prelude.{ℕ, cond, zero, suc, ◌+◌, List, [], ◌∷◌, ◌++◌, Option, None, Some, map}
use Rattle.std.specs.List.{flat_map, filter_map}
use Rattle.std.specs.Fmt.{decimal}
use Rattle.qv_syntax.specs.declared.expr.Expr.{Expr}
use Rattle.qv_syntax.specs.declared.name.Name.{Name}
use Rattle.qv_syntax.specs.declared.name.Path.{Path}
use Rattle.qv_syntax.specs.declared.script.Script.{Script}
use Rattle.qv_syntax.specs.declared.script.Declaration.{Declaration}
use Rattle.qv_syntax.specs.declared.script.Declaration.TheVariants as declarations
use Rattle.qv_syntax.specs.declared.script.RelationTree.{RelationTree}
use Rattle.qv_syntax.specs.declared.script.VarsTree.{VarsTree}
use Rattle.qv_syntax.specs.declared.script.DomainTree.{DomainTree}
use Rattle.qv_syntax.specs.declared.script.DomainTree.TheVariants as domains
use Rattle.qv_syntax.specs.declared.script.BlockTree.{BlockTree}
use Rattle.qv_syntax.specs.declared.script.TemplateTree.{TemplateTree, fold-TemplateTree}
use Rattle.qv_syntax.specs.declared.script.ItemTree.{ItemTree, fold-ItemTree}
use Rattle.qv_syntax.specs.declared.script.ItemValueTree.{ItemValueTree, fold-ItemValueTree}
use Rattle.qv_syntax.specs.declared.script.ItemValueTree.TheOpen as of
use Rattle.script_scopes.specs.ScriptNames.{each_once}
use Rattle.script_scopes.specs.Usages.{variables_in}
use Rattle.script_scopes.specs.Conjuncts.{is_null}

-- ---- what a script declares

abbrev pub relation_in : Declaration → Option RelationTree
relation_in (declarations.Key key) = None
relation_in (declarations.Relation relation) = Some relation
relation_in (declarations.Query query) = None

-- the relations, in the order of the text
abbrev pub relations_of : Script → List RelationTree
relations_of script = filter_map relation_in script.declarations

-- ---- the variables of templates without a name

-- the text for template k of a relation, from 1: U+0000, which no script can write, and the number
abbrev pub nameless : ℕ → List ℕ
nameless k = 0 ∷ decimal k

-- how it is printed: `_k`; another variable as it is written
abbrev pub printed_name : List ℕ → List ℕ
printed_name [] = []
printed_name (zero ∷ digits) = 95 ∷ digits
printed_name (suc c ∷ name) = suc c ∷ name

abbrev pub variable_text : ℕ → Option Name → List ℕ
variable_text k (Some name) = name.text
variable_text k None = nameless k

-- ---- templates in the order of the text

-- a property as it is written in a template: its name, and the path of the template's class
pub record WrittenProperty : Type 0 where
  pub class : Path
  pub name : List ℕ

-- a piece of a template
pub data Piece : Type 0 where
  -- a template begins: the property whose value it is (none at a domain), its variable and its class
  begins : Option WrittenProperty → List ℕ → Path → Piece
  -- an item asks for the value of an expression at its property
  asks : Option WrittenProperty → Expr → Piece

-- of the value at a property: how many templates it has, and its pieces, from the number of the first one on
pub record ValuePieces : Type 0 where
  pub count : ℕ
  pub from : ℕ → Option WrittenProperty → List Piece

-- of items of a template with the class of this path
pub record ItemPieces : Type 0 where
  pub count : ℕ
  pub from : ℕ → Path → List Piece

-- of what stands behind the variable of a template: its class and its items
pub record BodyPieces : Type 0 where
  pub class : Path
  pub items : ItemPieces

-- items one behind the other
abbrev pub in_turn : List ItemPieces → ItemPieces
in_turn [] = record { count = 0; from = λ k class. [] }
in_turn (p ∷ ps) = record { count = p.count + (in_turn ps).count; from = λ k class. p.from k class ++ (in_turn ps).from (k + p.count) class }

-- a template as the value at a property, with its variable and from its number on
abbrev pub begun : Option WrittenProperty → List ℕ → BodyPieces → ℕ → List Piece
begun at variable body k = begins at variable body.class ∷ body.items.from (k + 1) body.class

-- a template with its variable: it has the next number
abbrev pub with_variable : Option Name → BodyPieces → ValuePieces
with_variable variable body = record { count = 1 + body.items.count; from = λ k at. begun at (variable_text k variable) body k }

abbrev pub value_step : of.ItemValueTree-F ValuePieces ItemPieces BodyPieces → ValuePieces
value_step (of.Expr value) = record { count = 0; from = λ k at. asks at value ∷ [] }
value_step (of.Nested variable template) = with_variable variable template

abbrev pub item_step : of.ItemTree-F ValuePieces ItemPieces BodyPieces → ItemPieces
item_step item = record { count = item.value.count; from = λ k class. item.value.from k (Some (record { class = class; name = item.prop.text })) }

abbrev pub template_step : of.TemplateTree-F ValuePieces ItemPieces BodyPieces → BodyPieces
template_step template = record { class = template.class; items = in_turn template.items }

abbrev pub template_body : TemplateTree → BodyPieces
template_body = fold-TemplateTree ValuePieces ItemPieces BodyPieces value_step item_step template_step

abbrev pub item_pieces : ItemTree → ItemPieces
item_pieces = fold-ItemTree ValuePieces ItemPieces BodyPieces value_step item_step template_step

abbrev pub value_pieces : ItemValueTree → ValuePieces
value_pieces = fold-ItemValueTree ValuePieces ItemPieces BodyPieces value_step item_step template_step

-- of a domain; a primitive one has no template
abbrev pub domain_template : DomainTree → ValuePieces
domain_template (domains.Pattern mark model root template span) = with_variable (Some root) (template_body template)
domain_template (domains.Primitive root ty span) = record { count = 0; from = λ k at. [] }

-- how many templates it has
abbrev pub template_count : DomainTree → ℕ
template_count domain = (domain_template domain).count

-- its pieces, from the number of its first template on
abbrev pub pieces_of : ℕ → DomainTree → List Piece
pieces_of k domain = (domain_template domain).from k None

-- the property whose value it is
abbrev pub property_of : Piece → Option WrittenProperty
property_of (begins at variable class) = at
property_of (asks at e) = at

abbrev pub piece_template : Piece → List (List ℕ)
piece_template (begins at variable class) = variable ∷ []
piece_template (asks at e) = []

-- the variables of the templates of these domains, one for each template; the first one has this number
abbrev pub templates_from : ℕ → List DomainTree → List (List ℕ)
templates_from k [] = []
templates_from k (domain ∷ more) = flat_map piece_template (pieces_of k domain) ++ templates_from (k + template_count domain) more

abbrev pub template_variables : RelationTree → List (List ℕ)
template_variables r = templates_from 1 r.domains

-- ---- occurrences

-- what an item names that asks for the value of an expression; one that asks for an empty slot names nothing
abbrev pub item_variables : Expr → List (List ℕ)
item_variables e = cond (is_null e) [] (variables_in e)

abbrev pub piece_variables : Piece → List (List ℕ)
piece_variables (begins at variable class) = variable ∷ []
piece_variables (asks at e) = item_variables e

-- the root of a domain
abbrev pub root_of : DomainTree → List ℕ
root_of (domains.Pattern mark model root template span) = root.text
root_of (domains.Primitive root ty span) = root.text

-- the variables that occur in a domain, whose first template has this number
abbrev pub domain_variables : ℕ → DomainTree → List (List ℕ)
domain_variables k domain = root_of domain ∷ flat_map piece_variables (pieces_of k domain)

-- in these domains
abbrev pub domains_variables : ℕ → List DomainTree → List (List ℕ)
domains_variables k [] = []
domains_variables k (domain ∷ more) = domain_variables k domain ++ domains_variables (k + template_count domain) more

-- in a clause
abbrev pub block_exprs : Option BlockTree → List Expr
block_exprs (Some block) = block.exprs
block_exprs None = []

abbrev pub clause_variables : Option BlockTree → List (List ℕ)
clause_variables block = flat_map variables_in (block_exprs block)

abbrev pub declared_names : VarsTree → List (List ℕ)
declared_names vars = map (λ n. n.text) vars.names

-- each occurrence in a relation, in the order of the text
abbrev pub occurrences : RelationTree → List (List ℕ)
occurrences r = flat_map declared_names r.vars ++ domains_variables 1 r.domains ++ clause_variables r.when ++ clause_variables r.wheres

-- the variables of a relation, by their first occurrence in its text
abbrev pub variables_of : RelationTree → List (List ℕ)
variables_of r = each_once (occurrences r)
