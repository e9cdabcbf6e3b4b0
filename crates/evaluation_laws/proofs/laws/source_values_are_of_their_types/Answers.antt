use Rattle.std.proofs.Common.{inl, inr}
use Rattle.std.specs.Prelude.{IsTrue}
use Rattle.evaluation_laws.proofs.BoundLaws.{data_valued, source_valued, whole_source}
use Rattle.evaluation_laws.proofs.laws.source_values_are_of_their_types.Goals as goal

pub returns-clause-sources : goal.returns-clause-sources
returns-clause-sources c = λ metas program contents over number rel at roots b source given v among var d found has.
    source_valued metas program contents over.kept over.well over.texts number rel at roots b (λ v. Unit {0}) (whole_source program contents rel b roots source) given v
    (((over.well.relations number rel at).variables.universal v var found).0 among) tt var d found has

pub returns-clause-parts : goal.returns-clause-parts
returns-clause-parts c = λ metas program contents over number rel at asked roots b source given v among which var d found has.
    let universal = ((over.well.relations number rel at).variables.universal v var found).0 among in
    elim which [
      | inl is_data ↦ data_valued metas program contents over.kept over.well over.texts number rel at roots b (λ w. IsTrue (asked w)) source given v universal is_data var d found has
      | inr is ↦ source_valued metas program contents over.kept over.well over.texts number rel at roots b (λ w. IsTrue (asked w)) source given v universal is var d found has
    ]
