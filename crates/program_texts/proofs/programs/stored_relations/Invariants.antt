use Rattle.std.proofs.Common.{◌≡◌, map, drop}
use Rattle.program_texts.specs.Stored.{all_true, is_relation_stored}
use Rattle.program_texts.proofs.programs.stored_relations.Given as goal

abbrev pub invariant-loop-rel : goal.invariant-loop-rel
invariant-loop-rel l = all_true (map is_relation_stored (drop l.rel-index l.rels)) ≡ all_true (map is_relation_stored l.rels)
