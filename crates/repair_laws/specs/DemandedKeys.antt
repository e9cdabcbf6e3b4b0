-- Terms whose key values are demanded (QVT 1.3, section 7.10.2).
use Rattle.std.specs.Prelude.{◌≡◌, List, [], ◌∷◌, Some, Contains}
use Rattle.mof_metamodel.specs.declared.desc.MetaDesc.{MetaDesc}
use Rattle.mof_metamodel.specs.declared.desc.PropId.{PropId}
use Rattle.mof_metamodel.specs.Metamodels.{opposite_of}
use Rattle.qv_syntax.specs.declared.program.Program.{Program}
use Rattle.repair_semantics.specs.declared.term.Term.{Term, out-Term}
use Rattle.repair_semantics.specs.declared.term.TermValue.{TermValue}
use Rattle.repair_semantics.specs.declared.demand.Demand.{Demand}
use Rattle.repair_semantics.specs.Terms.{term_in}
use Rattle.repair_semantics.specs.TargetItems.{key_of}
use Rattle.repair_semantics.specs.Deletions.{managed_classes}

-- A demand gives the term the value at the property; or the term is the value of a demand at the opposite property, whose owner is the value.
pub data IsDemandedAt (meta : MetaDesc) (demands : List Demand) (t : Term) (p : PropId) (x : TermValue) : Type 0 where
  own : (d : Demand) → Contains demands d → d.owner ≡ t → d.prop.0 ≡ p.0 → d.value ≡ x → IsDemandedAt meta demands t p x
  parent : (d : Demand) → Contains demands d → term_in d.value ≡ Some t → opposite_of meta d.prop.0 ≡ Some p.0 → term_in x ≡ Some d.owner → IsDemandedAt meta demands t p x

-- so it is of each of these values, at the property in its place
abbrev pub AreDemandedAt : MetaDesc → List Demand → Term → List PropId → List TermValue → Type 0
AreDemandedAt meta demands t [] [] = Unit {0}
AreDemandedAt meta demands t (p ∷ ps) (x ∷ xs) = IsDemandedAt meta demands t p x × AreDemandedAt meta demands t ps xs
AreDemandedAt meta demands t ps xs = ⊥

-- the term is of a class of which enforcement makes objects, and its key values are demanded
pub record IsDemandedByKey (program : Program) (meta : MetaDesc) (demands : List Demand) (t : Term) : Type 0 where
  pub managed : Contains (managed_classes program) (out-Term t).class.0
  pub props : List PropId
  pub key : key_of program (out-Term t).class.0 ≡ Some props
  pub values : AreDemandedAt meta demands t props (out-Term t).keys

-- the term owns a demand, or is the value of one
pub data IsInDemands (demands : List Demand) (t : Term) : Type 0 where
  owner : (d : Demand) → Contains demands d → d.owner ≡ t → IsInDemands demands t
  value : (d : Demand) → Contains demands d → term_in d.value ≡ Some t → IsInDemands demands t
