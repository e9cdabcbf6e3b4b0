-- What the rules on keys say of the models of the target (QVT 1.3, section 7.10.2: a key tells the objects of a class apart; that these rules
-- have to hold is this engine's own).
use Rattle.std.specs.Prelude.{◌≡◌, ℕ, true, List, Some, Contains}
use Rattle.mof_metamodel.specs.declared.desc.PropId.{PropId}
use Rattle.mof_metamodel.specs.Metamodels.{prop_at}
use Rattle.object_tables.specs.Models.{ModelData}
use Rattle.qv_syntax.specs.declared.program.Program.{Program}
use Rattle.qvtr_semantics.specs.Objects.{is_kind_of}
use Rattle.repair_semantics.specs.TargetItems.{key_of}
use Rattle.repair_semantics.specs.Claims.{is_one}
use Rattle.repair_semantics.specs.Deletions.{managed_classes}

pub record TellsByKeys (program : Program) (m : ModelData) : Type 0 where
  -- a class of which enforcement makes objects has a key
  pub keyed : (class : ℕ) → Contains (managed_classes program) class → (props : List PropId) × (key_of program class ≡ Some props)
  -- whose properties are single
  pub single : (class : ℕ) (props : List PropId) (p : PropId) → Contains (managed_classes program) class → key_of program class ≡ Some props → Contains props p
      → is_one (prop_at m.meta p.0).upper ≡ true
  -- no class conforms to one of them and to another class that has a key
  pub apart : (class c d : ℕ) (ps qs : List PropId) → Contains (managed_classes program) c → key_of program c ≡ Some ps → key_of program d ≡ Some qs
      → is_kind_of m.meta class c ≡ true → is_kind_of m.meta class d ≡ true → c ≡ d
