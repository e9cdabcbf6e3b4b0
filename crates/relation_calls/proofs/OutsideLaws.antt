-- Calls that are asked from outside: one that is to hold, one that is to match, and a top relation.
use Rattle.std.specs.Prelude.{◌≡◌, ◌↔◌, ◌-◌, ℕ, not, List, [], ◌∷◌, ◌++◌, length, Some, slice_get, IsTrue}
use Rattle.std.specs.List.{list_any}
use Rattle.std.proofs.Common.{ap, subst, ◌∙◌}
use Rattle.qvtr_semantics.specs.declared.limits.TheConstants.{MAX_CALLS}
use Rattle.object_tables.specs.Models.{ModelData}
use Rattle.qv_syntax.specs.declared.program.Program.{Program}
use Rattle.qv_syntax.specs.declared.program.Rel.{Rel}
use Rattle.qvtr_semantics.specs.Templates.{Values}
use Rattle.qvtr_semantics.specs.Calls.{RelationCall, Holds}
use Rattle.qvtr_semantics.specs.Chains.{MatchChain, HoldsChain}
use Rattle.relation_calls.specs.declared.name.CallName.{CallName}
use Rattle.relation_calls.specs.declared.error.CallError.{CallError}
use Rattle.relation_calls.specs.declared.found.Found.{Found}
use Rattle.relation_calls.specs.Names.{chain_named}
use Rattle.relation_calls.specs.Seen.{Seen, SeenBehind, AreClean}
use Rattle.relation_calls.specs.Faults.{IsFault}
use Rattle.relation_calls.specs.Outcomes.{is_alone}
use Rattle.relation_calls.specs.Founds.{IsFound}
use Rattle.relation_calls.specs.Visits.{IsChain}
use Rattle.relation_calls.proofs.ChainLaws.{match_chains, holds_chains}
use Rattle.relation_calls.proofs.VisitLaws.{fault_in, clean_from}
use Rattle.relation_calls.proofs.AskingLaws.{refused_fault, called_clean, called_fault, called_value, match_clean, match_fault}

abbrev pub call_at : ℕ → Values → RelationCall
call_at number roots = record { rel = number; roots = roots }

module _ (program : Program) (models : List ModelData) where
  -- ---- a call that is to hold

  module _ (d : RelationCall) where
    from_behind : (chain : List RelationCall) → HoldsChain program models d chain → SeenBehind program models [] d chain
    from_behind chain h = (holds_chains program models d chain).0 h

    behind_from : (chain : List RelationCall) → SeenBehind program models [] d chain → HoldsChain program models d chain
    behind_from chain h = (holds_chains program models d chain).1 h

    pub refused_alone : (none : List CallName) → none ≡ [] → (e : CallError) → IsFault (λ chain. chain ≡ chain_named none ++ d ∷ []) e → IsFault (HoldsChain program models d) e
    refused_alone none empty e f =
        fault_in (SeenBehind program models [] d) (HoldsChain program models d) behind_from e
        (refused_fault program models [] d e (subst (λ (ns : List CallName). IsFault (λ chain. chain ≡ chain_named ns ++ d ∷ []) e) empty f))

    module _ (names none : List CallName) (empty : none ≡ []) (is : chain_named names ≡ chain_named none ++ d ∷ []) (whole : IsChain (chain_named names)) where
      alone : chain_named names ≡ [] ++ d ∷ []
      alone = is ∙ ap (λ (ns : List CallName). chain_named ns ++ d ∷ []) empty

      pub held_value : (rel : Rel) (found : Found) → slice_get program.rels d.rel ≡ Some rel → IsFound program models (MAX_CALLS - length (chain_named names)) rel d.roots found
          → IsTrue (not (list_any is_alone found.outcomes)) ↔ Holds program models d
      held_value rel found there of = called_value program models [] d names alone whole rel found there of

      pub held_clean : AreClean (Seen program models (chain_named names) d) → AreClean (HoldsChain program models d)
      held_clean clean = clean_from (SeenBehind program models [] d) (HoldsChain program models d) from_behind (called_clean program models [] d names alone whole clean)

      pub held_fault : (e : CallError) → IsFault (Seen program models (chain_named names) d) e → IsFault (HoldsChain program models d) e
      held_fault e f = fault_in (SeenBehind program models [] d) (HoldsChain program models d) behind_from e (called_fault program models [] d names alone whole e f)

  -- ---- a call that is to match

  module _ (d : RelationCall) (names : List CallName) (none : names ≡ []) where
    pub match_chains_clean : AreClean (Seen program models (chain_named names) d) → AreClean (MatchChain program models d)
    match_chains_clean clean =
        clean_from (Seen program models [] d) (MatchChain program models d) (λ chain h. (match_chains program models d chain).0 h) (match_clean program models d names none clean)

    pub match_chains_fault : (e : CallError) → IsFault (Seen program models (chain_named names) d) e → IsFault (MatchChain program models d) e
    match_chains_fault e f =
        fault_in (Seen program models [] d) (MatchChain program models d) (λ chain h. (match_chains program models d chain).1 h) e (match_fault program models d names e none f)
