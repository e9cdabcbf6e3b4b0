-- What a slot of the model that is made holds, by the parts from which the model is made.
use Rattle.std.specs.Prelude.{◌≡◌, ◌+◌, ◌≤◌, ◌^◌, ℕ, Bool, List, length}
use Rattle.std.specs.List.{filter_map}
use Rattle.std.proofs.Common.{ap}
use Rattle.object_tables.specs.Objects.{Slot}
use Rattle.object_tables.specs.Models.{ModelData, values_at, partners_at, IsAttributeOf, IsReferenceOf}
use Rattle.qv_syntax.specs.declared.program.Program.{Program}
use Rattle.repair_semantics.specs.declared.term.Term.{Term}
use Rattle.repair_semantics.specs.Claims.{Claim}
use Rattle.repair_semantics.specs.Candidates.{value_held, partner_held, contents_at}
use Rattle.candidate_laws.proofs.IdentifierLaws.{enough_ids}
use Rattle.candidate_laws.proofs.Made.{slot_is}
use Rattle.slot_claims.specs.Staying.{is_staying}
use Rattle.made_objects.specs.Making.{terms_at, made_of}
use Rattle.std.proofs.lemmas.List.{length-map}
use Rattle.std.proofs.Common.{subst, sym}
use Rattle.term_table.specs.TermTables.{term_at}

module _ (program : Program) (m : ModelData) (staying : List Bool) (claims : List (Claim ℕ)) (terms : List Term) (fresh : List ℕ)
    (few : length fresh + length m.objects ≤ 2 ^ 64) where
  few_terms : length (terms_at terms fresh) + length m.objects ≤ 2 ^ 64
  few_terms = let Few : ℕ → Type 0 = λ n. n + length m.objects ≤ 2 ^ 64 in subst Few (sym (length-map fresh (term_at terms))) few

  -- the values at an attribute
  pub made_values : (o p : ℕ) → IsAttributeOf (made_of program m staying claims terms fresh) o p
      → values_at (made_of program m staying claims terms fresh) o p ≡ filter_map value_held (contents_at program m (is_staying staying) claims o p)
  made_values o p h =
      ap (λ (s : Slot). s.values) (slot_is program m (is_staying staying) claims (terms_at terms fresh)
      (enough_ids m (length (terms_at terms fresh)) few_terms) o p h.class h.class_is h.has)

  -- the partners at a reference
  pub made_partners : (o p : ℕ) → IsReferenceOf (made_of program m staying claims terms fresh) o p
      → partners_at (made_of program m staying claims terms fresh) o p
      ≡ filter_map partner_held (contents_at program m (is_staying staying) claims o p)
  made_partners o p h =
      ap (λ (s : Slot). s.partners) (slot_is program m (is_staying staying) claims (terms_at terms fresh)
      (enough_ids m (length (terms_at terms fresh)) few_terms) o p h.class h.class_is h.has)
