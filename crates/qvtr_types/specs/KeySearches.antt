-- What a search over keys finds: a name that is no property, and a key whose class an earlier one has.
use Rattle.std.specs.Prelude.{◌≡◌, ◌<◌, ℕ, List, None, Some, slice_get, Contains, All}
use Rattle.std.specs.List.{AllZip}
use Rattle.mof_metamodel.specs.declared.desc.ClassId.{ClassId}
use Rattle.qv_syntax.specs.declared.name.Name.{Name}
use Rattle.qv_syntax.specs.declared.script.KeyTree.{KeyTree}
use Rattle.qv_syntax.specs.declared.program.Key.{Key}
use Rattle.ocl_environments.specs.declared.fault.TypeFault.{TypeFault}
use Rattle.ocl_environments.specs.declared.fault.TypeFault.TheVariants.{UnknownName, KeyShape}
use Rattle.ocl_environments.specs.Environments.{Environment}
use Rattle.ocl_environments.specs.Naming.{path_text, texts_of}
use Rattle.script_scopes.specs.Declarations.{key_property}
use Rattle.script_scopes.specs.Keys.{IsKey, IsShaped, StandsInKey}

-- the fault has one of the names, of which the class has no property
pub record IsLacking (env : Environment) (class : ℕ × ClassId) (names : List Name) (fault : TypeFault) : Type 0 where
  pub name : List ℕ
  pub among : Contains (texts_of names) name
  pub lacks : key_property env class name ≡ None
  pub is : fault ≡ UnknownName name

-- these are the keys, each by itself
pub record AreEachKeys (env : Environment) (trees : List KeyTree) (keys : List Key) : Type 0 where
  pub each : AllZip (IsKey env) trees keys
  pub shaped : All IsShaped trees

-- the fault stands in one of them
pub record StandsInOneKey (env : Environment) (trees : List KeyTree) (fault : TypeFault) : Type 0 where
  pub tree : KeyTree
  pub among : Contains trees tree
  pub stands : StandsInKey env tree fault

-- an earlier key has the class of the one at this place
pub record IsSecond (keys : List Key) (place : ℕ) : Type 0 where
  pub earlier : ℕ
  pub order : earlier < place
  pub key : Key
  pub first : Key
  pub found : slice_get keys place ≡ Some key
  pub found_first : slice_get keys earlier ≡ Some first
  pub meta : first.meta ≡ key.meta
  pub class : first.class ≡ key.class

-- the fault has the path of such a one
pub record IsSecondFault (trees : List KeyTree) (keys : List Key) (fault : TypeFault) : Type 0 where
  pub place : ℕ
  pub tree : KeyTree
  pub second : IsSecond keys place
  pub found : slice_get trees place ≡ Some tree
  pub is : fault ≡ KeyShape (path_text tree.class)
