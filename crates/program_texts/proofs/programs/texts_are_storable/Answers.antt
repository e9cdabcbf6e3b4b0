use Rattle.std.proofs.Common.{◌≡◌, true, List, map, subst}
use Rattle.qv_syntax.specs.declared.query.Query.{Query}
use Rattle.qv_syntax.specs.declared.program.Rel.{Rel}
use Rattle.program_texts.specs.Stored.{all_true, is_query_stored, is_relation_stored}
use Rattle.program_texts.proofs.StoredLaws.{program_stored}
use Rattle.program_texts.proofs.programs.texts_are_storable.Goals as goal

pub returns : goal.returns
returns c = program_stored c.args.program.now
    (subst (λ (qs : List Query). all_true (map is_query_stored qs) ≡ true) c.as_slice.ensures c.stored_queries.ensures)
    (subst (λ (rs : List Rel). all_true (map is_relation_stored rs) ≡ true) c.as_slice-2.ensures c.stored_relations.ensures)
