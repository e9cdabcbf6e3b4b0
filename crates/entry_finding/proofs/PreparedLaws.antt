-- What is prepared for a relation that is sought.
use Rattle.std.specs.Prelude.{◌≡◌, ◌<◌, ℕ, List, length, Option, None, Some, slice_get}
use Rattle.std.proofs.Common.{sym, ◌∙◌, arith}
use Rattle.std.proofs.lemmas.Bool.{true≢false}
use Rattle.std.proofs.lemmas.Option.{slice_get_within}
use Rattle.mof_metamodel.specs.declared.desc.MetaDesc.{MetaDesc}
use Rattle.object_tables.specs.Models.{ModelData}
use Rattle.qv_syntax.specs.declared.program.Program.{Program}
use Rattle.qv_syntax.specs.declared.program.Rel.{Rel}
use Rattle.repair_semantics.specs.EntryValues.{TermValues}
use Rattle.repair_semantics.specs.TargetItems.{target_metamodel}
use Rattle.source_laws.proofs.BindingLaws.{found_within}
use Rattle.entry_finding.specs.declared.preparation.Preparation.{Preparation}
use Rattle.entry_finding.specs.Prepared.{IsPreparation, IsPrepared, ArePreparations}
use Rattle.entry_finding.specs.Found.{IsSought}

module _ (metas : List MetaDesc) (program : Program) (models : List ModelData) (number : ℕ) (roots : TermValues) (sought : IsSought metas program models number roots)
    (ps : List (Option Preparation)) (prepared : ArePreparations program models ps) where
  -- the number is one of a place
  pub place_there : number < length ps
  place_there = let within : number < length program.rels = slice_get_within program.rels number sought.rel sought.found in omega (arith, within, prepared.places)

  abbrev desc : MetaDesc
  desc = target_metamodel program models

  -- and a preparation stands there
  pub preparation_there : (x : Preparation) × (slice_get ps number ≡ Some (Some x))
  preparation_there = let (o, at) = found_within ps number place_there in by o at (prepared.are number sought.rel o sought.found at)
    where
      by : (o : Option Preparation) → slice_get ps number ≡ Some o → IsPrepared program desc number sought.rel o → (x : Preparation) × (slice_get ps number ≡ Some (Some x))
      by None at outside = absurd (true≢false (sym sought.direction ∙ outside))
      by (Some x) at inside = (x, at)

  pub prepared_for : (x : Preparation) → slice_get ps number ≡ Some (Some x) → (rel : Rel) → slice_get program.rels number ≡ Some rel → IsPreparation program desc number rel x
  prepared_for x at rel found = (prepared.are number rel (Some x) found at).1
