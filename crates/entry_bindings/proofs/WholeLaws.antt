-- The bindings that are joined are exactly those of entries.
use Rattle.std.specs.Prelude.{◌≡◌, ◌≢◌, ◌↔◌, ◌⊎◌, ℕ, zero, suc, List, [], ◌∷◌, map, length, Some, Contains, AllPairs}
use Rattle.std.proofs.Common.{sym, ap, subst, ◌∙◌, inl, inr, arith}
use Rattle.object_tables.specs.Models.{ModelData}
use Rattle.qv_syntax.specs.declared.program.Program.{Program}
use Rattle.qv_syntax.specs.declared.program.Rel.{Rel}
use Rattle.qvtr_semantics.specs.declared.datum.Datum.{Datum}
use Rattle.qvtr_semantics.specs.Templates.{Values, value_at}
use Rattle.qvtr_semantics.specs.Satisfaction.{IsLess}
use Rattle.template_match.specs.Sources.{source_variables, SourceWithoutTarget}
use Rattle.source_laws.proofs.AnswerLaws.{same_lists as same_in_order}
use Rattle.mof_metamodel.proofs.Facts.{nothing_in, contains_first, contains_map, only_one}
use Rattle.repair_semantics.specs.declared.term.Term.{Term}
use Rattle.repair_semantics.specs.EntryValues.{TermValues, value_of, data_in}
use Rattle.repair_semantics.specs.Entries.{TermSource}
use Rattle.term_table.specs.declared.numbered.NumberedValue.{NumberedValue}
use Rattle.term_table.specs.declared.numbered.NumberedValue.TheVariants as numbered
use Rattle.term_table.specs.TermTables.{value_in, values_in, IsWithin, AreDistinct}
use Rattle.entry_bindings.specs.declared.matching.Match.{Match}
use Rattle.entry_bindings.specs.Matches.{names_in}
use Rattle.entry_bindings.specs.Starts.{NumberedValues, number_of, fixed_values, data_beside, start_of}
use Rattle.entry_bindings.specs.Joins.{joined_for, all_joined}
use Rattle.entry_bindings.specs.Asked.{IsEnforced, AreRoots, AreWithin, AreMatchesWithin, AreFound, IsEntryBinding}
use Rattle.entry_bindings.proofs.ListLaws.{mapped_from, joined_from, joined_in}
use Rattle.entry_bindings.proofs.ValueLaws.{datum_from, value_there}
use Rattle.entry_bindings.proofs.Partials.{IsPartial, AreOpenTargets, reached}
use Rattle.entry_bindings.proofs.Sounds.{argument_universal, is_entry_binding}
use Rattle.entry_bindings.proofs.Completes.{IsUnder, found}
use Rattle.entry_bindings.proofs.PairLaws.{AllLater, later_from_pairs, pairs_from_later, later_more, later_flat, later_mapped}
use Rattle.entry_bindings.proofs.DistinctLaws.{joined_differ}
use Rattle.entry_bindings.proofs.StartLaws.{moved, beside_same, back, back_source, back_is, start_from, start_partial}

module _ (program : Program) (models : List ModelData) (rel : Rel) (terms : List Term) (ms : List Match) (roots : NumberedValues)
    (enforced : IsEnforced program rel) (are_roots : AreRoots program rel (values_in terms roots)) where
  -- of one begin
  module _ (d : Values) (partial : IsPartial program models rel terms ms roots d (start_of roots d)) where
    pub only_start : (c : NumberedValues) → Contains (start_of roots d ∷ []) c → IsPartial program models rel terms ms roots d c
    only_start c there = subst (IsPartial program models rel terms ms roots d) (only_one (start_of roots d) c there) partial

    pub open_targets : AreOpenTargets program models rel terms ms roots d rel.whens
    open_targets number args e v call there = argument_universal program models rel terms ms roots enforced are_roots number args e v call there

  pub sound : (ds : List Values) → AreFound program models rel roots ds → (b : TermValues) → Contains (map (values_in terms) (all_joined program models ms rel roots ds)) b
      → IsEntryBinding program models rel (names_in terms ms) (values_in terms roots) b
  sound ds found b there =
      let (e, among, is) = mapped_from (values_in terms) (all_joined program models ms rel roots ds) b there in
      let (x, in_ds, within) = joined_from (λ y. joined_for program models ms rel roots (data_beside roots y)) ds e among in
      let source = moved program models rel terms ms roots enforced are_roots x ((found x).0 in_ds) in
      let d = data_beside roots x in
      let partial = start_partial program models rel terms ms roots enforced are_roots d source in
      let r = reached program models rel terms ms roots d rel.whens (start_of roots d ∷ []) e (open_targets d partial) (only_start d partial) within in
      subst (IsEntryBinding program models rel (names_in terms ms) (values_in terms roots)) is
      (is_entry_binding program models rel terms ms roots enforced are_roots d source e r.partial r.calls)

  module _ (apart : AreDistinct terms) (roots_within : AreWithin terms roots) (ms_within : AreMatchesWithin terms ms) where
    start_under : (b : TermValues) (source : TermSource program models rel (values_in terms roots) b)
        → IsUnder program models rel terms ms roots enforced are_roots apart ms_within b source (start_of roots (data_in b))
    start_under b source = record { under = under; within = within }
      where
        from : (v : ℕ) (x : NumberedValue) → number_of (start_of roots (data_in b)) v ≡ Some x → (number_of roots v ≡ Some x) ⊎ ((y : Datum) × (value_at (data_in b) v ≡ Some y) × (x ≡ numbered.Val y))
        from v x at = start_from program models rel terms ms roots enforced are_roots (data_in b) source.source v x at

        under_by : (v : ℕ) (x : NumberedValue) → (number_of roots v ≡ Some x) ⊎ ((y : Datum) × (value_at (data_in b) v ≡ Some y) × (x ≡ numbered.Val y)) → value_of b v ≡ Some (value_in terms x)
        under_by v x (inl at) = source.extends v (value_in terms x) (value_there terms roots v x at)
        under_by v x (inr (y, at, is)) = datum_from b v y at ∙ ap (λ z. Some (value_in terms z)) (sym is)

        under : (v : ℕ) (x : NumberedValue) → number_of (start_of roots (data_in b)) v ≡ Some x → value_of b v ≡ Some (value_in terms x)
        under v x at = under_by v x (from v x at)

        within_by : (v : ℕ) (x : NumberedValue) → (number_of roots v ≡ Some x) ⊎ ((y : Datum) × (value_at (data_in b) v ≡ Some y) × (x ≡ numbered.Val y)) → IsWithin terms x
        within_by v x (inl at) = roots_within v x at
        within_by v x (inr (y, at, is)) = subst (IsWithin terms) (sym is) tt

        within : (v : ℕ) (x : NumberedValue) → number_of (start_of roots (data_in b)) v ≡ Some x → IsWithin terms x
        within v x at = within_by v x (from v x at)

    abbrev joined_of : Values → List NumberedValues
    joined_of x = joined_for program models ms rel roots (data_beside roots x)

    -- what is joined with the data of what is found
    joined_partial : (x : Values) → SourceWithoutTarget program models rel (fixed_values program.target roots) x → (e : NumberedValues) → Contains (joined_of x) e
        → IsPartial program models rel terms ms roots (data_beside roots x) e
    joined_partial x found e within =
        let source = moved program models rel terms ms roots enforced are_roots x found in
        let d = data_beside roots x in
        let partial = start_partial program models rel terms ms roots enforced are_roots d source in
        (reached program models rel terms ms roots d rel.whens (start_of roots d ∷ []) e (open_targets d partial) (only_start d partial) within).partial

    pub each_once : (ds : List Values) → AreFound program models rel roots ds → AllPairs (IsLess (source_variables program rel)) ds → AllLater (λ m n. m ≢ n) ms
        → AllPairs (λ a b. a ≢ b) (map (values_in terms) (all_joined program models ms rel roots ds))
    each_once ds found_all sorted ms_apart =
        pairs_from_later (λ a b. a ≢ b) (map (values_in terms) (all_joined program models ms rel roots ds))
        (later_mapped (λ u w. values_in terms u ≢ values_in terms w) (λ a b. a ≢ b) (values_in terms) (all_joined program models ms rel roots ds)
        (later_flat (λ x y. x ≢ y) (λ u w. values_in terms u ≢ values_in terms w) joined_of ds
        (later_more (IsLess (source_variables program rel)) (λ x y. x ≢ y) ds differ (later_from_pairs (IsLess (source_variables program rel)) ds sorted))
        (λ x there. let d = data_beside roots x in
        let partial = start_partial program models rel terms ms roots enforced are_roots d (moved program models rel terms ms roots enforced are_roots x ((found_all x).0 there)) in
        joined_differ program models rel terms ms roots apart ms_within ms_apart d rel.whens (start_of roots d) (open_targets d partial) partial)
        (λ x y u w in_x in_y apart_xy in_u in_w is. apart_xy
        (beside_same program models rel terms ms roots enforced are_roots x y ((found_all x).0 in_x) ((found_all y).0 in_y)
        (sym (joined_partial x ((found_all x).0 in_x) u in_u).data_values ∙ ap data_in is ∙ (joined_partial y ((found_all y).0 in_y) w in_w).data_values))))
        (λ u w one other h. h))
      where
        -- a list in order has no element twice
        differ : (x y : Values) → IsLess (source_variables program rel) x y → x ≢ y
        differ x y less is = too_long (same_in_order (source_variables program rel) (x ∷ y ∷ []) (x ∷ []) pairs one (λ b there. both b there) (λ b there. first b there))
          where
            pairs : AllPairs (IsLess (source_variables program rel)) (x ∷ y ∷ [])
            pairs = pairs_from_later (IsLess (source_variables program rel)) (x ∷ y ∷ []) ((λ z there. subst (IsLess (source_variables program rel) x) (only_one y z there) less), ((λ z there. absurd (nothing_in z there)), tt))

            one : AllPairs (IsLess (source_variables program rel)) (x ∷ [])
            one = pairs_from_later (IsLess (source_variables program rel)) (x ∷ []) ((λ z there. absurd (nothing_in z there)), tt)

            both : (b : Values) → Contains (x ∷ y ∷ []) b → Contains (x ∷ []) b
            both b (zero, within, same) = (zero, omega arith, same)
            both b (suc zero, within, same) = (zero, omega arith, is ∙ same)
            both b (suc (suc k), within, same) = absurd (omega (arith, within))

            first : (b : Values) → Contains (x ∷ []) b → Contains (x ∷ y ∷ []) b
            first b (zero, within, same) = (zero, omega arith, same)
            first b (suc k, within, same) = absurd (omega (arith, within))

            too_long : ◌≡◌ {A = List Values} (x ∷ y ∷ []) (x ∷ []) → ⊥
            too_long h = let lengths = ap length h in omega (arith, lengths)

    pub complete : (ds : List Values) → AreFound program models rel roots ds → (b : TermValues) → IsEntryBinding program models rel (names_in terms ms) (values_in terms roots) b
        → Contains (map (values_in terms) (all_joined program models ms rel roots ds)) b
    complete ds found_all b entry =
        let d = data_in b in
        let source = entry.source.source in
        let x = back program models rel terms ms roots enforced are_roots d source in
        let in_ds = (found_all x).1 (back_source program models rel terms ms roots enforced are_roots d source) in
        let is = back_is program models rel terms ms roots enforced are_roots d source in
        let partial = start_partial program models rel terms ms roots enforced are_roots d source in
        let f = found program models rel terms ms roots enforced are_roots apart ms_within b entry.source (start_of roots d ∷ []) (start_of roots d) (contains_first (start_of roots d) [])
        (only_start d partial) (start_under b entry.source) entry.whens in
        subst (Contains (map (values_in terms) (all_joined program models ms rel roots ds))) f.is
        (contains_map (values_in terms) (all_joined program models ms rel roots ds) f.e
        (joined_in (λ y. joined_for program models ms rel roots (data_beside roots y)) ds x f.e in_ds
        (subst (λ y. Contains (joined_for program models ms rel roots y) f.e) (sym is) f.there)))

    pub exact : (ds : List Values) → AreFound program models rel roots ds → (b : TermValues)
        → Contains (map (values_in terms) (all_joined program models ms rel roots ds)) b ↔ IsEntryBinding program models rel (names_in terms ms) (values_in terms roots) b
    exact ds found_all b = (sound ds found_all b, complete ds found_all b)
