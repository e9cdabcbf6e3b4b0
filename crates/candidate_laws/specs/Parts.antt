-- The parts by which the model is told that enforcement makes (this engine's own): the numbers of terms, what stays, and what is claimed.
use Rattle.std.specs.Prelude.{◌≡◌, ◌<◌, ℕ, Bool, true, false, List, length, Option, Some, Contains}
use Rattle.mof_metamodel.specs.Metamodels.{class_count, props_of, type_of, Conforms}
use Rattle.object_tables.specs.Models.{ModelData, class_at, is_class_type, ConformsTo}
use Rattle.qv_syntax.specs.declared.program.Program.{Program}
use Rattle.repair_semantics.specs.declared.term.Term.{Term, out-Term}
use Rattle.repair_semantics.specs.declared.demand.Demand.{Demand}
use Rattle.repair_semantics.specs.Demands.{demanded_terms}
use Rattle.repair_semantics.specs.Claims.{Held, Spot, Said, Claim, is_against}
use Rattle.repair_semantics.specs.Images.{same_number, held_in}
use Rattle.repair_semantics.specs.Deletions.{managed_classes, images_of, stays}
use Rattle.repair_semantics.specs.CandidateObjects.{fresh_terms, term_number, unused_ids}
use Rattle.repair_semantics.specs.Candidates.{claims_by_number, is_left, fact_at, contents_at, candidate}

-- the number of the object that a demanded term is
abbrev pub demanded_number : Program → ModelData → List Demand → Term → Option ℕ
demanded_number program m demands t = term_number program m (demanded_terms demands) t

-- the object of the target stays
abbrev pub is_staying : Program → ModelData → List Demand → ℕ → Bool
is_staying program m demands o = stays m (managed_classes program) (images_of program m (demanded_terms demands)) o

-- what the demands claim, by numbers
abbrev pub demanded_claims : Program → ModelData → List Demand → List (Claim ℕ)
demanded_claims program m demands = claims_by_number m.meta (demanded_number program m demands) demands

-- the demanded terms that get fresh objects
abbrev pub demanded_fresh : Program → ModelData → List Demand → List Term
demanded_fresh program m demands = fresh_terms program m (demanded_terms demands)

-- the identifiers of their objects
abbrev pub demanded_ids : Program → ModelData → List Demand → List (List ℕ)
demanded_ids program m demands = unused_ids m (length (demanded_fresh program m demands))

-- what the slot of an object at a property holds in the model that is made
abbrev pub made_contents : Program → ModelData → List Demand → ℕ → ℕ → List (Held ℕ)
made_contents program m demands o p = contents_at program m (is_staying program m demands) (demanded_claims program m demands) o p

-- ---- what is said of them

-- something is claimed of the slot of an object at a property
abbrev pub IsClaimedIn : Program → ModelData → List Demand → ℕ → ℕ → Held ℕ → Type 0
IsClaimedIn program m demands o p h = Contains (demanded_claims program m demands) (record { spot = Spot.slot o p; said = Said.element h })

-- what an object of the target holds stays held: it is there, it is left, and no claim displaces it
pub record IsKeptIn (program : Program) (m : ModelData) (demands : List Demand) (o p : ℕ) (h : Held ℕ) : Type 0 where
  pub held : Contains (held_in program m o p) h
  pub left : is_left (is_staying program m demands) h ≡ true
  pub unopposed : is_against m.meta same_number (demanded_claims program m demands) (fact_at o p h) ≡ false

-- the number is that of an object of the model that is made, whose class conforms to the term's
pub record IsObjectOf (program : Program) (m : ModelData) (demands : List Demand) (t : Term) (n : ℕ) : Type 0 where
  pub class : ℕ
  pub class_is : class_at (candidate program m demands) n ≡ Some class
  pub known : class < class_count m.meta
  pub conforms : Conforms m.meta class (out-Term t).class.0

-- the objects of two demanded terms can be linked: by a reference of the one's class, to a class that conforms to its type
pub record IsPair (program : Program) (m : ModelData) (demands : List Demand) (a p b : ℕ) : Type 0 where
  pub near : Term
  pub far : Term
  pub near_there : Contains (demanded_terms demands) near
  pub far_there : Contains (demanded_terms demands) far
  pub near_is : demanded_number program m demands near ≡ Some a
  pub far_is : demanded_number program m demands far ≡ Some b
  pub has : Contains (props_of m.meta (out-Term near).class.0) p
  pub reference : is_class_type (type_of m.meta p) ≡ true
  pub conforms : ConformsTo m.meta (out-Term far).class.0 (type_of m.meta p)
