-- Keys of a script (QVT 1.3, section 7.10.2): what they resolve to, and the faults that stand in them.
use Rattle.std.specs.Prelude.{◌≡◌, ◌≢◌, ◌<◌, ℕ, List, [], None, Some, slice_get, Contains, All}
use Rattle.std.specs.List.{AllZip}
use Rattle.mof_metamodel.specs.declared.desc.ClassId.{ClassId}
use Rattle.qv_syntax.specs.declared.script.KeyTree.{KeyTree}
use Rattle.qv_syntax.specs.declared.program.Key.{Key}
use Rattle.ocl_environments.specs.declared.fault.TypeFault.{TypeFault}
use Rattle.ocl_environments.specs.declared.fault.TypeFault.TheVariants.{UnknownName, KeyShape}
use Rattle.ocl_environments.specs.Environments.{Environment}
use Rattle.ocl_environments.specs.Naming.{path_text, texts_of}
use Rattle.script_scopes.specs.Declarations.{IsRepeated, key_class, key_property}

-- ---- one key

-- its class and its properties by their numbers
pub record IsKey (env : Environment) (tree : KeyTree) (key : Key) : Type 0 where
  pub class : key_class env tree ≡ Some (key.meta, key.class)
  pub props : AllZip (λ name prop. key_property env (key.meta, key.class) name.text ≡ Some prop.0) tree.props key.props

-- it has one property or more, each once
pub record IsShaped (tree : KeyTree) : Type 0 where
  pub some : tree.props ≢ []
  pub once : (name : List ℕ) → ¬ IsRepeated (texts_of tree.props) name

pub data StandsInKey (env : Environment) (key : KeyTree) : TypeFault → Type 0 where
  unknown_class : key_class env key ≡ None → StandsInKey env key (UnknownName (path_text key.class))
  unknown_property : (class : ℕ × ClassId) (name : List ℕ) → key_class env key ≡ Some class → Contains (texts_of key.props) name
      → key_property env class name ≡ None → StandsInKey env key (UnknownName name)
  no_property : key.props ≡ [] → StandsInKey env key (KeyShape (path_text key.class))
  repeated : (name : List ℕ) → IsRepeated (texts_of key.props) name → StandsInKey env key (KeyShape name)

-- ---- all keys

-- a key is a later one of the same class
pub record IsSecondKey (env : Environment) (keys : List KeyTree) (key : KeyTree) : Type 0 where
  pub place : ℕ
  pub earlier : ℕ
  pub order : earlier < place
  pub first : KeyTree
  pub class : ℕ × ClassId
  pub found : slice_get keys place ≡ Some key
  pub found_first : slice_get keys earlier ≡ Some first
  pub same : key_class env key ≡ Some class
  pub same_first : key_class env first ≡ Some class

-- these are the keys, and no fault stands in them
pub record AreKeys (env : Environment) (trees : List KeyTree) (keys : List Key) : Type 0 where
  pub each : AllZip (IsKey env) trees keys
  pub shaped : All IsShaped trees
  pub one : (tree : KeyTree) → ¬ IsSecondKey env trees tree

pub data StandsInKeys (env : Environment) (keys : List KeyTree) : TypeFault → Type 0 where
  key : (key : KeyTree) (f : TypeFault) → Contains keys key → StandsInKey env key f → StandsInKeys env keys f
  -- a class has at most one key
  second : (key : KeyTree) → IsSecondKey env keys key → StandsInKeys env keys (KeyShape (path_text key.class))
