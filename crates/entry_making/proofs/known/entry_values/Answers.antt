use Rattle.std.proofs.Common.{◌≡◌, All, List, length, map, subst, sym, ap, ◌∙◌, arith}
use Rattle.std.specs.Prelude.{Option}
use Rattle.std.proofs.lemmas.List.FromFn.{length-map-range_with_len}
use Rattle.term_table.specs.declared.numbered.NumberedValue.{NumberedValue}
use Rattle.entry_making.specs.Numbered.{IsValueWithin, number_or_datum}
use Rattle.entry_making.proofs.KnownLaws.{begun_within}
use Rattle.entry_making.proofs.known.entry_values.Goals as goal

pub make_all-requires-clause-within : goal.make_all-requires-clause-within
make_all-requires-clause-within c =
    subst (λ (vs : List (Option NumberedValue)). All (IsValueWithin c.args.table.now) vs) (sym (c.as_mut_slice.ensures.value ∙ c.in_ok-values.ensures))
    (begun_within c.args.table.now c.args.b.now c.args.scope.now c.requires.within)

pub make_all-requires-clause-places : goal.make_all-requires-clause-places
make_all-requires-clause-places c = λ k d below.
    omega (
      arith,
      c.requires.places k d below,
      ap (λ (vs : List (Option NumberedValue)). length vs) (c.as_mut_slice.ensures.value ∙ c.in_ok-values.ensures),
      length-map-range_with_len (number_or_datum c.args.b.now c.args.scope.now) 0 (length c.args.b.now),
    )
