-- A model without objects is valid, and what is made of one has as many numbers as live objects.
use Rattle.std.proofs.Common.{◌≡◌, ◌≤◌, ◌+◌, ℕ, suc, List, [], ◌∷◌, length, refl, arith, None, Some}
use Rattle.std.specs.Prelude.{Bool, Option, is_some, cond, count_by}
use Rattle.std.proofs.lemmas.Option.{none-some}
use Rattle.std.proofs.lemmas.List.Sums.{sum_by-append}
use Rattle.mof_metamodel.specs.declared.desc.MetaDesc.{MetaDesc}
use Rattle.mof_metamodel.specs.WellMeta.{WellMeta}
use Rattle.mof_metamodel.proofs.Facts.{nothing_in}
use Rattle.object_tables.specs.Objects.{Object}
use Rattle.object_tables.specs.Models.{ModelData, live_count}
use Rattle.object_tables.specs.Kept.{Kept}
use Rattle.object_tables.specs.Validity.{Valid}
use Rattle.qv_syntax.specs.declared.program.Program.{Program}
use Rattle.repair_semantics.specs.declared.term.Term.{Term}
use Rattle.repair_semantics.specs.declared.demand.Demand.{Demand}
use Rattle.repair_semantics.specs.Claims.{Claim}
use Rattle.repair_semantics.specs.Demands.{demanded_terms}
use Rattle.repair_semantics.specs.Deletions.{managed_classes, images_of, stays}
use Rattle.repair_semantics.specs.CandidateObjects.{fresh_terms, term_number, unused_ids}
use Rattle.repair_semantics.specs.Candidates.{claims_by_number, fresh_object, fresh_objects, candidate}
use Rattle.example_models.specs.RdbTable.{rdb_desc}
use Rattle.example_models.proofs.TableLaws.{rdb_is_well}
use Rattle.example_laws.specs.ExampleModels.{empty_target}

-- ---- a model without objects

no_object : (object : Object) → None ≡ Some object → ⊥
no_object object e = cc

no_text : (text : List ℕ) → None ≡ Some text → ⊥
no_text text e = cc

kept_none : (meta : MetaDesc) → WellMeta meta → Kept (record { meta = meta; objects = [] })
kept_none meta well = record {
  well = well;
  objects = λ o object e. absurd (no_object object e);
  identifiers = λ a b id e f. absurd (no_text id e);
  attributes = λ o p a. absurd (none-some a.class a.class_is);
  references = λ o p a. absurd (none-some a.class a.class_is);
  opposites = λ p q a b e. ((λ h. absurd (nothing_in b h)), (λ h. absurd (nothing_in a h)));
  containers = λ o a b p q h g. absurd (nothing_in o h.linked);
}

valid_none : (meta : MetaDesc) → WellMeta meta → Valid (record { meta = meta; objects = [] })
valid_none meta well = record {
  kept = kept_none meta well;
  bounds = λ o p. record {
    lower = λ few. none-some few.property.class few.property.class_is;
    upper = λ many. none-some many.property.class many.property.class_is;
  };
  acyclic = λ o cycle. nothing_in o cycle.2.1.linked;
}

pub empty_is_valid : Valid empty_target
empty_is_valid = valid_none rdb_desc rdb_is_well

-- ---- what is made of it

one_more : (whole rest k : ℕ) → whole ≡ 1 + rest → rest ≡ k → whole ≡ suc k
one_more whole rest k is same = omega (arith, is, same)

module _ (program : Program) (m : ModelData) (live : ℕ → Bool) (claims : List (Claim ℕ)) where
  all_live : (o : ℕ) (ts : List Term) (ids : List (List ℕ)) → count_by is_some (fresh_objects program m live claims o ts ids) ≡ length (fresh_objects program m live claims o ts ids)
  all_live o [] ids = refl
  all_live o (t ∷ ts) [] = refl
  all_live o (t ∷ ts) (id ∷ ids) =
      one_more (count_by is_some (fresh_objects program m live claims o (t ∷ ts) (id ∷ ids))) (count_by is_some (fresh_objects program m live claims (suc o) ts ids))
      (length (fresh_objects program m live claims (suc o) ts ids))
      (sum_by-append (λ (x : Option Object). cond (is_some x) 1 0) (fresh_object program m live claims o t id ∷ []) (fresh_objects program m live claims (suc o) ts ids))
      (all_live (suc o) ts ids)

  no_more : (o : ℕ) (ts : List Term) (ids : List (List ℕ)) → length (fresh_objects program m live claims o ts ids) ≤ length ts
  no_more o [] ids = omega arith
  no_more o (t ∷ ts) [] = omega arith
  no_more o (t ∷ ts) (id ∷ ids) = let rest = no_more (suc o) ts ids in omega (arith, rest)

-- each object of it is live
pub all_made_live : (program : Program) (demands : List Demand) → live_count (candidate program empty_target demands) ≡ length (candidate program empty_target demands).objects
all_made_live program demands =
    all_live program empty_target (stays empty_target (managed_classes program) (images_of program empty_target (demanded_terms demands)))
    (claims_by_number rdb_desc (term_number program empty_target (demanded_terms demands)) demands) 0 (fresh_terms program empty_target (demanded_terms demands))
    (unused_ids empty_target (length (fresh_terms program empty_target (demanded_terms demands))))

-- and there are no more of them than terms that get fresh objects
pub few_made : (program : Program) (demands : List Demand) → length (candidate program empty_target demands).objects ≤ length (fresh_terms program empty_target (demanded_terms demands))
few_made program demands =
    no_more program empty_target (stays empty_target (managed_classes program) (images_of program empty_target (demanded_terms demands)))
    (claims_by_number rdb_desc (term_number program empty_target (demanded_terms demands)) demands) 0 (fresh_terms program empty_target (demanded_terms demands))
    (unused_ids empty_target (length (fresh_terms program empty_target (demanded_terms demands))))
