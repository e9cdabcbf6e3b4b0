-- Programs as this crate writes them, told as plain data, so that what is said of their templates, variables and calls can be computed.
use Rattle.std.specs.Prelude.{ℕ, Bool, true, false, ◌&&◌, ◌||◌, nat_eq, List, [], ◌∷◌, ◌++◌, map, codes, Option, None, Some, slice_get}
use Rattle.std.specs.List.{flat_map}
use Rattle.qv_syntax.specs.declared.program.Program.{Program}
use Rattle.qv_syntax.specs.declared.program.Rel.{Rel}
use Rattle.qv_syntax.specs.declared.program.Var.{Var}
use Rattle.qv_syntax.specs.declared.program.Dom.{Dom}
use Rattle.qv_syntax.specs.declared.program.Tmpl.{Tmpl}
use Rattle.qv_syntax.specs.declared.program.Item.{Item}
use Rattle.qv_syntax.specs.declared.program.Conj.{Conj}
use Rattle.qv_syntax.specs.declared.program.Conj.TheVariants as conjuncts
use Rattle.qv_syntax.specs.declared.typed.Typed.{Typed}
use Rattle.example_program.specs.Words.{text_variable, object_variable, text, the_text, the_object, prefixed, value_item, object_item, template, source_domain, target_domain, primitive_domain}
use Rattle.example_program.specs.MainProgram.{main_models, main_keys}

-- ---- variables: of texts, or of objects of a class of a model

pub data Kind : Type 0 where
  texts : Kind
  objects : (model class : ℕ) → Kind

abbrev pub var_of : List ℕ × Kind → Var
var_of (name, texts) = text_variable name
var_of (name, objects model class) = object_variable name model class

-- ---- templates: a variable, a class and items, which are a variable of texts, a text, or a template

mutual
  pub data Pattern : Type 0 where
    shape : (variable class : ℕ) → Parts → Pattern

  pub data Parts : Type 0 where
    no_more : Parts
    has_text : (prop variable : ℕ) → Parts → Parts
    has_word : (prop : ℕ) → List ℕ → Parts → Parts
    has_object : (prop : ℕ) → Pattern → Parts → Parts

abbrev mutual
  pub tmpl : Pattern → Tmpl
  tmpl (shape variable class ps) = template variable class (items_of ps)

  pub items_of : Parts → List Item
  items_of no_more = []
  items_of (has_text prop variable ps) = value_item prop (the_text variable) ∷ items_of ps
  items_of (has_word prop word ps) = value_item prop (text word) ∷ items_of ps
  items_of (has_object prop p ps) = object_item prop (tmpl p) ∷ items_of ps

abbrev pub root_of : Pattern → ℕ
root_of (shape variable class ps) = variable

abbrev pub class_of_pattern : Pattern → ℕ
class_of_pattern (shape variable class ps) = class

abbrev pub parts_of_pattern : Pattern → Parts
parts_of_pattern (shape variable class ps) = ps

-- one item
pub data Part : Type 0 where
  a_text : (prop variable : ℕ) → Part
  a_word : (prop : ℕ) → List ℕ → Part
  an_object : (prop : ℕ) → Pattern → Part

abbrev pub item_of : Part → Item
item_of (a_text prop variable) = value_item prop (the_text variable)
item_of (a_word prop word) = value_item prop (text word)
item_of (an_object prop p) = object_item prop (tmpl p)

abbrev pub list_of : Parts → List Part
list_of no_more = []
list_of (has_text prop variable ps) = a_text prop variable ∷ list_of ps
list_of (has_word prop word ps) = a_word prop word ∷ list_of ps
list_of (has_object prop p ps) = an_object prop p ∷ list_of ps

abbrev pub parts_in : Pattern → List Part
parts_in p = list_of (parts_of_pattern p)

-- where a template stands: the variable of the template around it, and the property
abbrev pub Spot : Type 0
Spot = Option (ℕ × ℕ)

-- a template and those within it, each with its place
abbrev mutual
  pub standings : Spot → Pattern → List (Pattern × Spot)
  standings at (shape variable class ps) = (shape variable class ps, at) ∷ standings_in variable ps

  pub standings_in : ℕ → Parts → List (Pattern × Spot)
  standings_in variable no_more = []
  standings_in variable (has_text prop v ps) = standings_in variable ps
  standings_in variable (has_word prop word ps) = standings_in variable ps
  standings_in variable (has_object prop p ps) = standings (Some (variable, prop)) p ++ standings_in variable ps

-- ---- arguments and clauses

pub data Argument : Type 0 where
  object_argument : (variable model class : ℕ) → Argument
  text_argument : (variable : ℕ) → Argument
  word_argument : List ℕ → Argument
  prefixed_argument : (prefix name : ℕ) → Argument

abbrev pub argument_of : Argument → Typed
argument_of (object_argument variable model class) = the_object variable model class
argument_of (text_argument variable) = the_text variable
argument_of (word_argument word) = text word
argument_of (prefixed_argument prefix name) = prefixed prefix name

abbrev pub names_of : Argument → List ℕ
names_of (object_argument variable model class) = variable ∷ []
names_of (text_argument variable) = variable ∷ []
names_of (word_argument word) = []
names_of (prefixed_argument prefix name) = prefix ∷ name ∷ []

pub record Call : Type 0 where
  pub number : ℕ
  pub args : List Argument

abbrev pub call_of : Call → Conj
call_of call = conjuncts.Call call.number (map argument_of call.args)

-- a conjunct: a variable that is a name behind a prefix, or a call
pub data Clause : Type 0 where
  given : (variable prefix name : ℕ) → Clause
  called : Call → Clause

abbrev pub conjunct_of : Clause → Conj
conjunct_of (given variable prefix name) = conjuncts.Equation variable (prefixed prefix name)
conjunct_of (called call) = call_of call

-- ---- relations

pub record Relation : Type 0 where
  pub name : List ℕ
  pub top : Bool
  pub stratum : ℕ
  pub vars : List (List ℕ × Kind)
  pub universal : List ℕ
  pub existential : List ℕ
  pub from : Pattern
  pub to : Pattern
  pub prefix : List ℕ
  pub whens : List Call
  pub wheres : List Clause

abbrev pub domains_of : Relation → List Dom
domains_of r = source_domain (root_of r.from) (tmpl r.from) ∷ target_domain (root_of r.to) (tmpl r.to) ∷ map primitive_domain r.prefix

abbrev pub rel_of : Relation → Rel
rel_of r = record {
  name = r.name;
  top = r.top;
  in_direction = true;
  stratum = r.stratum;
  vars = map var_of r.vars;
  universal = r.universal;
  existential = r.existential;
  domains = domains_of r;
  whens = map call_of r.whens;
  wheres = map conjunct_of r.wheres;
}

abbrev pub program_of : List Relation → Program
program_of rs = record { name = codes "Cls2Rdb"; models = main_models; target = 1; keys = main_keys; rels = map rel_of rs; queries = [] }
