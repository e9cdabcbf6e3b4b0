use Rattle.std.proofs.Common.{◌≡◌, ◌<◌, ◌++◌, ap, ◌∙◌, arith, subst, sym, get_or, map, length, List, take}
use Rattle.std.proofs.lemmas.List.{map-append}
use Rattle.std.specs.Prelude.{All}
use Rattle.std.specs.List.{range_with_len}
use Rattle.std.proofs.lemmas.List.Elements.{All-append}
use Rattle.std.proofs.lemmas.Grind.{common_steps}
use Rattle.mof_metamodel.specs.declared.named.Place.{Place}
use Rattle.mof_metamodel.specs.Metamodels.{class_count, class_at, declared_from}
use Rattle.mof_metamodel.specs.Tables.{IsPlace, placed, place_in}
use Rattle.mof_metamodel.proofs.TableLemmas.{class_is, declared_more, placed_own, places_own}
use Rattle.mof_metamodel.proofs.numbering.prop_places.Goals as goal

pub loop-c-preserved : goal.loop-c-preserved
loop-c-preserved c =
    let at : c.class-item.result ≡ get_or c.args.desc.now.classes c.loop-c.c c.class-item.result = rw (← c.as_slice-class-items.ensures) c.class-item.is in
    let short : c.loop-c.c < class_count c.args.desc.now = rw (← c.as_slice-class-items.ensures) (omega arith) in
    let is : class_at c.args.desc.now c.loop-c.c ≡ c.class-item.result = class_is c.args.desc.now c.loop-c.c c.class-item.result short at in
    let added : c.add_places.new.places.items ≡ c.loop-c.places.items ++ map (place_in c.loop-c.c) (range_with_len 0 (length c.class-item.result.props)) =
    c.in_ok-add_places.ensures ∙ ap (λ n. c.loop-c.places.items ++ map (place_in c.loop-c.c) (range_with_len 0 n)) c.len.ensures in (
      ap (map (placed c.args.desc.now)) added ∙ map-append (placed c.args.desc.now) c.loop-c.places.items _
          ∙ ap (λ xs. xs ++ map (placed c.args.desc.now) (map (place_in c.loop-c.c) (range_with_len 0 (length c.class-item.result.props)))) c.loop-c.invariant.0
          ∙ ap (λ xs. declared_from 0 (take c.loop-c.c c.args.desc.now.classes) ++ xs) (placed_own c.args.desc.now c.loop-c.c c.class-item.result.props (ap (λ x. x.props) is))
          ∙ sym (declared_more c.args.desc.now c.loop-c.c c.class-item.result short at),
      let P : List Place → Type 0 = λ xs. All (IsPlace c.args.desc.now) xs in
          subst P (sym added) (All-append (IsPlace c.args.desc.now) c.loop-c.places.items _ c.loop-c.invariant.1 (places_own c.args.desc.now c.loop-c.c _ short (ap (λ x. length x.props) is))),
    )

pub overflow_cast-len : goal.overflow_cast-len
overflow_cast-len c = grind (arith, common_steps)

pub returns-clause-placed : goal.returns-clause-placed
returns-clause-placed c = grind (arith, common_steps)
