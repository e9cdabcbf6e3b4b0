use Rattle.std.proofs.Common.{◌++◌, ◌∷◌, [], ap, ◌∙◌, arith, sym, append_assoc}
use Rattle.std.proofs.lemmas.List.FromFn.{map-range_with_len_more}
use Rattle.mof_metamodel.specs.Tables.{place_in}
use Rattle.mof_metamodel.proofs.numbering.add_places.Goals as goal

pub loop-index-preserved : goal.loop-index-preserved
loop-index-preserved c =
    c.in_ok-push.ensures.items ∙ ap (λ xs. xs ++ place_in c.args.class c.loop-index.index ∷ []) c.loop-index.invariant
    ∙ append_assoc c.args.places.now.items _ _
    ∙ ap (λ xs. c.args.places.now.items ++ xs) (sym (map-range_with_len_more (place_in c.args.class) 0 c.loop-index.index c.loop-index.index (omega arith)))
