-- Where demands stand, each demanded term has an object.
use Rattle.std.specs.Prelude.{◌≡◌, ℕ, List, Option, None, Some, Contains}
use Rattle.std.specs.Option.{option_map}
use Rattle.std.proofs.Common.{refl, ap, sym, ◌∙◌}
use Rattle.object_tables.specs.Models.{ModelData}
use Rattle.qv_syntax.specs.declared.program.Program.{Program}
use Rattle.repair_semantics.specs.declared.term.Term.{Term}
use Rattle.repair_semantics.specs.declared.term.TermValue.{TermValue, out-TermValue}
use Rattle.repair_semantics.specs.declared.term.TermValue.TheOpen as of
use Rattle.repair_semantics.specs.declared.demand.Demand.{Demand}
use Rattle.repair_semantics.specs.Terms.{term_in, term_part}
use Rattle.repair_semantics.specs.Demands.{demanded_terms}
use Rattle.repair_semantics.specs.Claims.{Held}
use Rattle.repair_semantics.specs.Conflicts.{held_in}
use Rattle.repair_semantics.specs.Candidates.{held_by_number}
use Rattle.reading_laws.specs.Readings.{Numbering, Stands, AllStand, HaveObjects}
use Rattle.repair_laws.specs.DemandedKeys.{IsInDemands}
use Rattle.repair_laws.proofs.DemandedTerms.{demanded_in, in_demanded}

pub owner_demanded : (demands : List Demand) (d : Demand) → Contains demands d → Contains (demanded_terms demands) d.owner
owner_demanded demands d has = in_demanded demands d.owner (IsInDemands.owner d has refl)

pub value_demanded : (demands : List Demand) (d : Demand) (t : Term) → Contains demands d → term_in d.value ≡ Some t → Contains (demanded_terms demands) t
value_demanded demands d t has is = in_demanded demands t (IsInDemands.value d has is)

numbered : (number : Numbering) (x : TermValue) (t : Term) (h : Held ℕ) → term_in x ≡ Some t → held_by_number number (held_in (out-TermValue x)) ≡ Some h → (n : ℕ) × (number t ≡ Some n)
numbered number x t h is held = by (out-TermValue x) is held
  where
    object : (u : Term) → u ≡ t → (o : Option ℕ) → number u ≡ o → option_map (λ n. Held.object n) o ≡ Some h → (n : ℕ) × (number t ≡ Some n)
    object u e None g k = absurd (cc)
    object u e (Some n) g k = (n, ap number (sym e) ∙ g)

    by : (y : of.TermValue-F TermValue Term) → term_part y ≡ Some t → held_by_number number (held_in y) ≡ Some h → (n : ℕ) × (number t ≡ Some n)
    by (of.Val d) e g = absurd (cc)
    by (of.Term u) e g = let one : u ≡ t = cc in object u one (number u) refl g

pub standing_terms : (program : Program) (m : ModelData) (number : Numbering) (demands : List Demand) → AllStand program m number demands → HaveObjects (demanded_terms demands) number
standing_terms program m number demands stand t has = by (demanded_in demands t has)
  where
    owned : (d : Demand) → Stands program m number d → d.owner ≡ t → (n : ℕ) × (number t ≡ Some n)
    owned d s e = (s.owner, ap number (sym e) ∙ s.owner_is)

    valued : (d : Demand) → Stands program m number d → term_in d.value ≡ Some t → (n : ℕ) × (number t ≡ Some n)
    valued d s e = numbered number d.value t s.held e s.held_is

    by : IsInDemands demands t → (n : ℕ) × (number t ≡ Some n)
    by (IsInDemands.owner d there e) = owned d (stand d there) e
    by (IsInDemands.value d there e) = valued d (stand d there) e
