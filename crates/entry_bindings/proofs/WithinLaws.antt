-- The values of bindings are those of roots and of matches, and data: so each term among them is one of the table.
use Rattle.std.specs.Prelude.{◌≡◌, ◌⊎◌, ◌==◌, ℕ, zero, suc, Bool, true, false, List, [], ◌∷◌, map, Option, None, Some, slice_get, slice_set, Contains, if◌then◌else◌}
use Rattle.std.specs.Option.{option_map, option_and_then}
use Rattle.std.proofs.Common.{refl, subst, arith, inl, inr}
use Rattle.std.proofs.lemmas.Option.{same_Some}
use Rattle.mof_metamodel.proofs.Facts.{nothing_in, contains_first}
use Rattle.template_match.proofs.ListLaws.{contains_later}
use Rattle.object_tables.specs.Models.{ModelData}
use Rattle.qv_syntax.specs.declared.program.Program.{Program}
use Rattle.qv_syntax.specs.declared.program.Rel.{Rel}
use Rattle.qv_syntax.specs.declared.program.Conj.{Conj}
use Rattle.qv_syntax.specs.declared.program.Conj.TheVariants as conjuncts
use Rattle.qv_syntax.specs.declared.typed.Typed.{Typed}
use Rattle.qvtr_semantics.specs.declared.datum.Datum.{Datum}
use Rattle.qvtr_semantics.specs.Templates.{Values}
use Rattle.repair_semantics.specs.declared.term.Term.{Term}
use Rattle.term_table.specs.declared.numbered.NumberedValue.{NumberedValue}
use Rattle.term_table.specs.declared.numbered.NumberedValue.TheVariants as numbered
use Rattle.term_table.specs.TermTables.{IsWithin}
use Rattle.entry_bindings.specs.declared.argument.Argument.{Argument}
use Rattle.entry_bindings.specs.declared.argument.Argument.TheVariants as arguments
use Rattle.entry_bindings.specs.declared.matching.Match.{Match}
use Rattle.entry_bindings.specs.Starts.{NumberedValues, number_of, value_beside, data_beside, start_of}
use Rattle.entry_bindings.specs.Arguments.{arguments_of, bound}
use Rattle.entry_bindings.specs.Asked.{AreWithin, AreMatchesWithin}
use Rattle.entry_bindings.specs.Joins.{same_number, is_match, matching, opened, taken, filled, extended, extended_by, call_extended, joined, joined_for, all_joined}
use Rattle.entry_bindings.proofs.ArgumentLaws.{none_some, set_from}
use Rattle.entry_bindings.proofs.ListLaws.{filtered_from, picked_from, joined_from}

module _ (terms : List Term) where
  datum_within : (d : Option Datum) (x : NumberedValue) → option_map numbered.Val d ≡ Some x → IsWithin terms x
  datum_within None x is = absurd (none_some x is)
  datum_within (Some d) x is = subst (IsWithin terms) (same_Some (numbered.Val d) x is) tt

  beside_within : (r : Option NumberedValue) (d : Option Datum) (x : NumberedValue) → ((y : NumberedValue) → r ≡ Some y → IsWithin terms y) → value_beside r d ≡ Some x → IsWithin terms x
  beside_within None d x within is = datum_within d x is
  beside_within (Some (numbered.Val e)) d x within is = datum_within d x is
  beside_within (Some (numbered.Term n)) d x within is = within x is

  data_within : (ds : Values) → AreWithin terms (map (option_map numbered.Val) ds)
  data_within [] v x is = absurd (none_some x is)
  data_within (d ∷ ds) zero x is = datum_within d x is
  data_within (d ∷ ds) (suc v) x is = data_within ds v x is

  start_within : (roots : NumberedValues) (ds : Values) → AreWithin terms roots → AreWithin terms (start_of roots ds)
  start_within [] ds within v x is = data_within ds v x is
  start_within (r ∷ rs) [] within v x is = absurd (none_some x is)
  start_within (r ∷ rs) (d ∷ ds) within zero x is = beside_within r d x (within zero) is
  start_within (r ∷ rs) (d ∷ ds) within (suc v) x is = start_within rs ds (λ w y at. within (suc w) y at) v x is

  put_within : (b : NumberedValues) (v : ℕ) (y : NumberedValue) → AreWithin terms b → IsWithin terms y → AreWithin terms (slice_set b v (Some y))
  put_within b v y within own w x is = elim (set_from b v w y x is) [ inl same ↦ subst (IsWithin terms) same.1 own | inr other ↦ within w x other ]

  taken_within : (b : NumberedValues) (a : Argument) (y : NumberedValue) (c : NumberedValues) → AreWithin terms b → IsWithin terms y → taken b a y ≡ Some c → AreWithin terms c
  taken_within b (arguments.Given z) y c within own is = subst (AreWithin terms) (same_Some b c is) within
  taken_within b (arguments.Open v) y c within own is = by (number_of b v) is
    where
      by_same : (z : NumberedValue) (same : Bool) → (if same then Some b else None) ≡ Some c → AreWithin terms c
      by_same z true h = subst (AreWithin terms) (same_Some b c h) within
      by_same z false h = absurd (none_some c h)

      by : (o : Option NumberedValue) → opened b v y o ≡ Some c → AreWithin terms c
      by None h = subst (AreWithin terms) (same_Some (slice_set b v (Some y)) c h) (put_within b v y within own)
      by (Some z) h = by_same z (same_number z y) h

  filled_within : (b : NumberedValues) (gs : List Argument) (ys : List NumberedValue) (c : NumberedValues) → AreWithin terms b → ((y : NumberedValue) → Contains ys y → IsWithin terms y)
      → filled b gs ys ≡ Some c → AreWithin terms c
  filled_within b [] ys c within own is = subst (AreWithin terms) (same_Some b c is) within
  filled_within b (a ∷ gs) [] c within own is = subst (AreWithin terms) (same_Some b c is) within
  filled_within b (a ∷ gs) (y ∷ ys) c within own is =
      by (taken b a y) refl is (λ e to from. filled_within e gs ys c to (λ z there. own z (contains_later z y ys there)) from)
    where
      by : (o : Option NumberedValues) → taken b a y ≡ o → option_and_then (λ e. filled e gs ys) o ≡ Some c
          → ((e : NumberedValues) → AreWithin terms e → filled e gs ys ≡ Some c → AreWithin terms c) → AreWithin terms c
      by None at h rest = absurd (none_some c h)
      by (Some e) at h rest = rest e (taken_within b a y e within (own y (contains_first y ys)) at) h

  module _ (program : Program) (models : List ModelData) (ms : List Match) (rel : Rel) (ms_within : AreMatchesWithin terms ms) where
    call_within : (d : Values) (number : ℕ) (args : List Typed) (b c : NumberedValues) → AreWithin terms b → Contains (call_extended program models ms rel d number args b) c → AreWithin terms c
    call_within d number args b c within there = by (slice_get program.rels number) (arguments_of program models rel d b args) there
      where
        by : (o : Option Rel) (gs : Option (List Argument)) → Contains (extended_by ms b number o gs) c → AreWithin terms c
        by None gs h = absurd (nothing_in c h)
        by (Some called) None h = absurd (nothing_in c h)
        by (Some called) (Some gs) h =
            let (m, among, is) = picked_from (λ (m : Match). filled b (bound called gs) m.roots) (matching ms number (bound called gs)) c h in
            filled_within b (bound called gs) m.roots c within (λ y at. ms_within m y (filtered_from (is_match number (bound called gs)) ms m among).0 at) is

    joined_within : (d : Values) (cs : List Conj) (bs : List NumberedValues) → ((b : NumberedValues) → Contains bs b → AreWithin terms b)
        → (c : NumberedValues) → Contains (joined program models ms rel d cs bs) c → AreWithin terms c
    joined_within d [] bs within = within
    joined_within d (conjuncts.Cond e ∷ cs) bs within = joined_within d cs bs within
    joined_within d (conjuncts.Equation v e ∷ cs) bs within = joined_within d cs bs within
    joined_within d (conjuncts.Call number args ∷ cs) bs within =
        joined_within d cs _ (λ c there. let (b, among, from) = joined_from (call_extended program models ms rel d number args) bs c there in
        call_within d number args b c (within b among) from)

    only_start : (s c : NumberedValues) → AreWithin terms s → Contains (s ∷ []) c → AreWithin terms c
    only_start s c within (zero, less, is) = subst (AreWithin terms) is within
    only_start s c within (suc k, less, is) = absurd (omega (arith, less))

    -- each binding has numbers of the table
    pub all_within : (roots : NumberedValues) → AreWithin terms roots → (ds : List Values) (b : NumberedValues) → Contains (all_joined program models ms rel roots ds) b → AreWithin terms b
    all_within roots within ds b there =
        let (d, among, from) = joined_from (λ x. joined_for program models ms rel roots (data_beside roots x)) ds b there in
        let start : NumberedValues = start_of roots (data_beside roots d) in
        joined_within (data_beside roots d) rel.whens (start ∷ []) (λ c at. only_start start c (start_within roots (data_beside roots d) within) at) b from
