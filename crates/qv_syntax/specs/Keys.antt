-- Keys of a program (QVT 1.3, section 7.10.2): each names one class and one or more of its properties, each once, and a class has at
-- most one key.
use Rattle.std.specs.Prelude.{◌≡◌, ◌≢◌, List, [], Contains, AllPairs}
use Rattle.mof_metamodel.specs.declared.desc.MetaDesc.{MetaDesc}
use Rattle.mof_metamodel.specs.declared.desc.PropId.{PropId}
use Rattle.mof_metamodel.specs.Metamodels.{props_of}
use Rattle.qv_syntax.specs.declared.program.Program.{Program}
use Rattle.qv_syntax.specs.declared.program.Key.{Key}
use Rattle.qv_syntax.specs.Types.{IsClassIn}

pub record IsKey (metas : List MetaDesc) (key : Key) : Type 0 where
  pub class : IsClassIn metas key.meta key.class
  pub some : key.props ≢ []
  pub own : (prop : PropId) → Contains key.props prop → Contains (props_of class.meta key.class.0) prop.0
  pub once : AllPairs (λ p q. p ≢ q) key.props

-- the two keys are not of one class
abbrev pub AreOfTwoClasses : Key → Key → Type 0
AreOfTwoClasses a b = a.meta ≡ b.meta → a.class ≢ b.class

pub record AreKeys (metas : List MetaDesc) (program : Program) : Type 0 where
  pub keys : (key : Key) → Contains program.keys key → IsKey metas key
  pub classes : AllPairs AreOfTwoClasses program.keys
