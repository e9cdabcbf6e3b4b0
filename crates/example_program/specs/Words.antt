-- Words for what programs over two models are made of: a source, of the first metamodel, and a target, of the second one (QVT 1.3, section 7.11).
use Rattle.std.specs.Prelude.{ℕ, List, [], ◌∷◌, map, codes, None, Some}
use Rattle.qv_syntax.specs.declared.operator.Operator.TheVariants as operators
use Rattle.qv_syntax.specs.declared.program.Key.{Key}
use Rattle.qv_syntax.specs.declared.program.Var.{Var}
use Rattle.qv_syntax.specs.declared.program.Dom.{Dom}
use Rattle.qv_syntax.specs.declared.program.Marker.TheVariants as markers
use Rattle.qv_syntax.specs.declared.program.Tmpl.{Tmpl, roll-Tmpl}
use Rattle.qv_syntax.specs.declared.program.Item.{Item}
use Rattle.qv_syntax.specs.declared.program.ItemValue.TheVariants as items
use Rattle.qv_syntax.specs.declared.ty.Ty.{Ty}
use Rattle.qv_syntax.specs.declared.ty.Ty.TheVariants as types
use Rattle.qv_syntax.specs.declared.typed.Typed.{Typed}
use Rattle.qv_syntax.specs.declared.typed.TypedInfix.{TypedInfix}
use Rattle.qv_syntax.specs.declared.typed.Node.TheVariants as nodes

-- ---- models: the number of each is that of its metamodel

abbrev pub source : ℕ
source = 0

abbrev pub target : ℕ
target = 1

-- ---- variables

abbrev pub text_variable : List ℕ → Var
text_variable name = record { name = name; ty = types.Str; model = None }

-- the class of this number of the model's metamodel
abbrev pub class_of : ℕ → ℕ → Ty
class_of model class = types.Class model (record { 0 = class })

abbrev pub object_variable : List ℕ → ℕ → ℕ → Var
object_variable name model class = record { name = name; ty = class_of model class; model = Some model }

-- ---- expressions

abbrev pub text : List ℕ → Typed
text characters = record { ty = types.Str; node = nodes.Str characters }

-- a variable of texts, and one of objects
abbrev pub the_text : ℕ → Typed
the_text variable = record { ty = types.Str; node = nodes.Variable variable }

abbrev pub the_object : ℕ → ℕ → ℕ → Typed
the_object variable model class = record { ty = class_of model class; node = nodes.Variable variable }

-- `= right`
abbrev pub equal_to : Typed → TypedInfix
equal_to right = record { operator = operators.Equal; right = right; ty = types.Bool }

-- `+ right`
abbrev pub joined_to : Typed → TypedInfix
joined_to right = record { operator = operators.Plus; right = right; ty = types.Str }

-- `prefix = ''`
abbrev pub is_empty : ℕ → Typed
is_empty prefix = record { ty = types.Bool; node = nodes.Chain (the_text prefix) (equal_to (text []) ∷ []) }

-- `prefix + '_' + name`
abbrev pub joined : ℕ → ℕ → Typed
joined prefix name = record { ty = types.Str; node = nodes.Chain (the_text prefix) (joined_to (text (codes "_")) ∷ joined_to (the_text name) ∷ []) }

-- `if prefix = '' then name else prefix + '_' + name endif`
abbrev pub prefixed : ℕ → ℕ → Typed
prefixed prefix name = record { ty = types.Str; node = nodes.If (is_empty prefix) (the_text name) (joined prefix name) }

-- ---- templates

-- `property = value`
abbrev pub value_item : ℕ → Typed → Item
value_item prop value = record { prop = record { 0 = prop }; value = items.Expr value }

-- `property = template`
abbrev pub object_item : ℕ → Tmpl → Item
object_item prop template = record { prop = record { 0 = prop }; value = items.Nested template }

-- `variable : class {items}`
abbrev pub template : ℕ → ℕ → List Item → Tmpl
template variable class parts = roll-Tmpl (record { var = variable; class = record { 0 = class }; items = parts })

-- ---- domains

-- `checkonly domain` of the source
abbrev pub source_domain : ℕ → Tmpl → Dom
source_domain root pattern = record { model = Some source; marker = markers.Checkonly; root = root; template = Some pattern }

-- `enforce domain` of the target
abbrev pub target_domain : ℕ → Tmpl → Dom
target_domain root pattern = record { model = Some target; marker = markers.Enforce; root = root; template = Some pattern }

-- `primitive domain`
abbrev pub primitive_domain : ℕ → Dom
primitive_domain root = record { model = None; marker = markers.Primitive; root = root; template = None }

-- ---- keys

-- of a class of the target
abbrev pub key_of : ℕ → List ℕ → Key
key_of class props = record { meta = target; class = record { 0 = class }; props = map (λ p. record { 0 = p }) props }
