-- Where bindings begin: what the search in the sources gives, without what stands there for terms, is what meets the source without the target.
use Rattle.std.specs.Prelude.{◌≡◌, ◌⊎◌, ℕ, zero, suc, Bool, true, false, List, [], ◌∷◌, length, Option, None, Some, Contains, if◌then◌else◌}
use Rattle.std.specs.Option.{option_map, option_and_then}
use Rattle.std.proofs.Common.{refl, sym, ap, ◌∙◌, inl, inr, arith}
use Rattle.std.proofs.lemmas.Bool.{true≢false}
use Rattle.std.proofs.lemmas.Option.{same_Some}
use Rattle.object_tables.specs.Models.{ModelData}
use Rattle.qv_syntax.specs.declared.program.Program.{Program}
use Rattle.qv_syntax.specs.declared.program.Rel.{Rel}
use Rattle.qvtr_semantics.specs.declared.datum.Datum.{Datum}
use Rattle.qvtr_semantics.specs.Objects.{object_datum}
use Rattle.qvtr_semantics.specs.Templates.{Values, value_at}
use Rattle.template_match.specs.Sources.{is_target_variable, source_variables, NamesNoTarget, SourceWithoutTarget}
use Rattle.template_match.specs.Posed.{HasPrimitives}
use Rattle.source_laws.specs.SourceRelations.{IsSourceExpression, KeepsToSources}
use Rattle.source_laws.proofs.BindingLaws.{source_variable, source_moved}
use Rattle.source_laws.proofs.RuleLaws.{rule_keeps}
use Rattle.enforceable_sources.proofs.EnforceableLaws.{enforceable_hands_on}
use Rattle.repair_semantics.specs.declared.term.Term.{Term}
use Rattle.repair_semantics.specs.declared.term.TermValue.{TermValue}
use Rattle.repair_semantics.specs.declared.term.TermValue.TheVariants as values
use Rattle.repair_semantics.specs.Terms.{datum_in}
use Rattle.repair_semantics.specs.EntryValues.{value_of, data_in}
use Rattle.term_table.specs.declared.numbered.NumberedValue.{NumberedValue}
use Rattle.term_table.specs.declared.numbered.NumberedValue.TheVariants as numbered
use Rattle.term_table.specs.TermTables.{term_at, value_in, values_in}
use Rattle.entry_bindings.specs.declared.matching.Match.{Match}
use Rattle.entry_bindings.specs.Starts.{NumberedValues, number_of, is_term, has_term, fixed_value, fixed_values, datum_beside, data_beside, value_beside, start_of}
use Rattle.entry_bindings.specs.Asked.{IsEnforced, AreRoots, HasPrimitiveRoots}
use Rattle.entry_bindings.proofs.ArgumentLaws.{none_some, at_map}
use Rattle.entry_bindings.proofs.ListLaws.{same_lists}
use Rattle.entry_bindings.proofs.ValueLaws.{val_or_term, datum_from, datum_of_val, datum_of_term, data_at, data_long, mapped_long, value_there, number_there, number_term, decoded_long}
use Rattle.entry_bindings.proofs.Partials.{IsPartial}
use Rattle.entry_bindings.proofs.Sounds.{target_none}

-- ---- place by place

start_at : (roots : NumberedValues) (ds : Values) → length roots ≡ length ds → (v : ℕ) → number_of (start_of roots ds) v ≡ value_beside (number_of roots v) (value_at ds v)
start_at [] [] long v = refl
start_at [] (d ∷ ds) long v = absurd (omega (arith, long))
start_at (r ∷ rs) [] long v = absurd (omega (arith, long))
start_at (r ∷ rs) (d ∷ ds) long zero = refl
start_at (r ∷ rs) (d ∷ ds) long (suc v) = start_at rs ds (omega (arith, long)) v

start_long : (roots : NumberedValues) (ds : Values) → length roots ≡ length ds → length (start_of roots ds) ≡ length roots
start_long [] [] long = refl
start_long [] (d ∷ ds) long = absurd (omega (arith, long))
start_long (r ∷ rs) [] long = absurd (omega (arith, long))
start_long (r ∷ rs) (d ∷ ds) long = ap suc (start_long rs ds (omega (arith, long)))

beside_at : (roots : NumberedValues) (ds : Values) → length roots ≡ length ds → (v : ℕ) → value_at (data_beside roots ds) v ≡ datum_beside (number_of roots v) (value_at ds v)
beside_at [] ds long v = refl
beside_at (r ∷ rs) [] long v = absurd (omega (arith, long))
beside_at (r ∷ rs) (d ∷ ds) long zero = refl
beside_at (r ∷ rs) (d ∷ ds) long (suc v) = beside_at rs ds (omega (arith, long)) v

beside_long : (roots : NumberedValues) (ds : Values) → length roots ≡ length ds → length (data_beside roots ds) ≡ length ds
beside_long [] ds long = refl
beside_long (r ∷ rs) [] long = absurd (omega (arith, long))
beside_long (r ∷ rs) (d ∷ ds) long = ap suc (beside_long rs ds (omega (arith, long)))

-- data with objects of the target for the terms of roots
abbrev refilled_by : ℕ → Option NumberedValue → Option Datum → Option Datum
refilled_by target root d = if has_term root then Some (object_datum target 0) else d

abbrev refilled : ℕ → NumberedValues → Values → Values
refilled target [] ds = ds
refilled target (r ∷ rs) [] = []
refilled target (r ∷ rs) (d ∷ ds) = refilled_by target r d ∷ refilled target rs ds

refilled_at : (target : ℕ) (roots : NumberedValues) (ds : Values) → length roots ≡ length ds → (v : ℕ) → value_at (refilled target roots ds) v ≡ refilled_by target (number_of roots v) (value_at ds v)
refilled_at target [] ds long v = refl
refilled_at target (r ∷ rs) [] long v = absurd (omega (arith, long))
refilled_at target (r ∷ rs) (d ∷ ds) long zero = refl
refilled_at target (r ∷ rs) (d ∷ ds) long (suc v) = refilled_at target rs ds (omega (arith, long)) v

refilled_long : (target : ℕ) (roots : NumberedValues) (ds : Values) → length roots ≡ length ds → length (refilled target roots ds) ≡ length ds
refilled_long target [] ds long = refl
refilled_long target (r ∷ rs) [] long = absurd (omega (arith, long))
refilled_long target (r ∷ rs) (d ∷ ds) long = ap suc (refilled_long target rs ds (omega (arith, long)))

-- ---- terms among roots

term_there : (o : Option NumberedValue) → has_term o ≡ true → (n : ℕ) × (o ≡ Some (numbered.Term n))
term_there None h = absurd (true≢false (sym h))
term_there (Some (numbered.Val d)) h = absurd (true≢false (sym h))
term_there (Some (numbered.Term n)) h = (n, refl)

number_data : (terms : List Term) (b : NumberedValues) (v : ℕ) → value_at (data_in (values_in terms b)) v ≡ option_and_then datum_in (option_map (value_in terms) (number_of b v))
number_data terms b v = data_at (values_in terms b) v ∙ ap (option_and_then datum_in) (at_map (value_in terms) b v)

module _ (program : Program) (models : List ModelData) (rel : Rel) (terms : List Term) (ms : List Match) (roots : NumberedValues)
    (enforced : IsEnforced program rel) (are_roots : AreRoots program rel (values_in terms roots)) where
  abbrev given : Values
  given = data_in (values_in terms roots)

  abbrev fixed : Values
  fixed = fixed_values program.target roots

  roots_long : length roots ≡ length rel.vars
  roots_long = sym (decoded_long terms roots) ∙ are_roots.places

  keeps : KeepsToSources program rel
  keeps = rule_keeps enforced.metas program enforced.formed enforced.number rel enforced.found
      (enforceable_hands_on enforced.metas program enforced.formed enforced.number rel enforced.enforceable enforced.found enforced.direction)

  term_target : (v : ℕ) → has_term (number_of roots v) ≡ true → is_target_variable program rel v ≡ true
  term_target v h = let (n, at) = term_there (number_of roots v) h in are_roots.terms v (term_at terms n) (value_there terms roots v (numbered.Term n) at)

  no_root : (v : ℕ) → is_target_variable program rel v ≡ true → has_term (number_of roots v) ≡ false → number_of roots v ≡ None
  no_root v target h = by (number_of roots v) refl h
    where
      by : (o : Option NumberedValue) → number_of roots v ≡ o → has_term o ≡ false → o ≡ None
      by None at not_so = refl
      by (Some (numbered.Val d)) at not_so = absurd (true≢false (sym target ∙ are_roots.data_values v d (value_there terms roots v (numbered.Val d) at)))
      by (Some (numbered.Term n)) at not_so = absurd (true≢false not_so)

  outside_no : (v : ℕ) → is_target_variable program rel v ≡ false → has_term (number_of roots v) ≡ false
  outside_no v outside = by (has_term (number_of roots v)) refl
    where
      by : (x : Bool) → has_term (number_of roots v) ≡ x → x ≡ false
      by true h = absurd (true≢false (sym (term_target v h) ∙ outside))
      by false h = refl

  fixed_at : (v : ℕ) → value_at fixed v ≡ option_map (fixed_value program.target) (number_of roots v)
  fixed_at v = at_map (fixed_value program.target) roots v

  root_data : (v : ℕ) → has_term (number_of roots v) ≡ false → value_at fixed v ≡ value_at given v
  root_data v h = fixed_at v ∙ by (number_of roots v) h ∙ sym (number_data terms roots v)
    where
      by : (o : Option NumberedValue) → has_term o ≡ false → option_map (fixed_value program.target) o ≡ option_and_then datum_in (option_map (value_in terms) o)
      by None not_so = refl
      by (Some (numbered.Val d)) not_so = sym (datum_of_val d)
      by (Some (numbered.Term n)) not_so = absurd (true≢false not_so)

  none_given : (v : ℕ) → is_target_variable program rel v ≡ true → value_at given v ≡ None
  none_given v target = number_data terms roots v ∙ by (number_of roots v) refl
    where
      by : (o : Option NumberedValue) → number_of roots v ≡ o → option_and_then datum_in (option_map (value_in terms) o) ≡ None
      by None at = refl
      by (Some (numbered.Val d)) at = absurd (true≢false (sym target ∙ are_roots.data_values v d (value_there terms roots v (numbered.Val d) at)))
      by (Some (numbered.Term n)) at = datum_of_term (term_at terms n)

  fixed_long : length fixed ≡ length given
  fixed_long = mapped_long (option_map (fixed_value program.target)) roots ∙ sym (data_long (values_in terms roots) ∙ decoded_long terms roots)

  -- ---- what the search asks

  pub fixed_places : length fixed ≡ length rel.vars
  fixed_places = mapped_long (option_map (fixed_value program.target)) roots ∙ roots_long

  pub fixed_primitives : HasPrimitiveRoots rel (values_in terms roots) → HasPrimitives rel fixed
  fixed_primitives given_roots dom not_top there none =
      let (x, at) = given_roots dom not_top there none in
      let (y, number, is) = number_there terms roots dom.root x at in
      (fixed_value program.target y, fixed_at dom.root ∙ ap (option_map (fixed_value program.target)) number)

  pub names_no_target : NamesNoTarget program rel
  names_no_target c e v within asked names = keeps.names e (IsSourceExpression.asked c within asked) v names

  -- ---- what is found, and what meets the source

  pub moved : (x : Values) → SourceWithoutTarget program models rel fixed x → SourceWithoutTarget program models rel given (data_beside roots x)
  moved x source =
      source_moved program models models (λ m other. refl) enforced.number rel enforced.formed.relations enforced.found keeps fixed given x (data_beside roots x)
      (record { places = fixed_long; same = λ v outside. root_data v (outside_no v outside) })
      (record { places = sym (beside_long roots x long); same = λ v outside. sym (beside_at roots x long v ∙ ap (λ y. if y then None else value_at x v) (outside_no v outside)) })
      (λ v target. beside_at roots x long v ∙ by v target (has_term (number_of roots v)) refl ∙ sym (none_given v target)) source
    where
      long : length roots ≡ length x
      long = roots_long ∙ sym source.places

      not_so : (v : ℕ) → is_target_variable program rel v ≡ true → number_of roots v ≡ None → (d : Datum) → Contains (source_variables program rel) v ⊎ (value_at fixed v ≡ Some d) → ⊥
      not_so v target none d (inl c) = true≢false (sym target ∙ source_variable program rel v c)
      not_so v target none d (inr at) = none_some d (sym (fixed_at v ∙ ap (option_map (fixed_value program.target)) none) ∙ at)

      none_by : (v : ℕ) → is_target_variable program rel v ≡ true → number_of roots v ≡ None → (o : Option Datum) → value_at x v ≡ o → o ≡ None
      none_by v target none None at = refl
      none_by v target none (Some d) at = absurd (not_so v target none d (source.no_others v d at))

      by : (v : ℕ) → is_target_variable program rel v ≡ true → (y : Bool) → has_term (number_of roots v) ≡ y → (if y then None else value_at x v) ≡ None
      by v target true h = refl
      by v target false h = none_by v target (no_root v target h) (value_at x v) refl

  -- what is found is told by its data but for what stands there for terms
  pub beside_same : (x y : Values) → SourceWithoutTarget program models rel fixed x → SourceWithoutTarget program models rel fixed y → data_beside roots x ≡ data_beside roots y → x ≡ y
  beside_same x y one other is = same_lists x y (one.places ∙ sym other.places) (λ v. by v (has_term (number_of roots v)) refl)
    where
      plain : (z : Values) → SourceWithoutTarget program models rel fixed z → (v : ℕ) → has_term (number_of roots v) ≡ false → value_at (data_beside roots z) v ≡ value_at z v
      plain z source v h = beside_at roots z (roots_long ∙ sym source.places) v ∙ ap (λ b. if b then None else value_at z v) h

      term_object : (v : ℕ) → has_term (number_of roots v) ≡ true → value_at fixed v ≡ Some (object_datum program.target 0)
      term_object v h = let (n, at) = term_there (number_of roots v) h in fixed_at v ∙ ap (option_map (fixed_value program.target)) at

      by : (v : ℕ) (b : Bool) → has_term (number_of roots v) ≡ b → value_at x v ≡ value_at y v
      by v true h =
          one.extends v (object_datum program.target 0) (term_object v h) ∙ sym (other.extends v (object_datum program.target 0) (term_object v h))
      by v false h = sym (plain x one v h) ∙ ap (λ z. value_at z v) is ∙ plain y other v h

  module _ (d : Values) (source : SourceWithoutTarget program models rel given d) where
    long : length roots ≡ length d
    long = roots_long ∙ sym source.places

    abbrev pub back : Values
    back = refilled program.target roots d

    pub back_source : SourceWithoutTarget program models rel fixed back
    back_source =
        source_moved program models models (λ m other. refl) enforced.number rel enforced.formed.relations enforced.found keeps given fixed d back
        (record { places = sym fixed_long; same = λ v outside. sym (root_data v (outside_no v outside)) })
        (record { places = sym (refilled_long program.target roots d long); same = λ v outside. sym (refilled_at program.target roots d long v ∙ ap (λ y. if y then Some (object_datum program.target 0) else value_at d v) (outside_no v outside)) })
        (λ v target. refilled_at program.target roots d long v ∙ by v target (has_term (number_of roots v)) refl ∙ sym (fixed_at v)) source
      where
        by : (v : ℕ) → is_target_variable program rel v ≡ true → (y : Bool) → has_term (number_of roots v) ≡ y
            → (if y then Some (object_datum program.target 0) else value_at d v) ≡ option_map (fixed_value program.target) (number_of roots v)
        by v target true h = let (n, at) = term_there (number_of roots v) h in sym (ap (option_map (fixed_value program.target)) at)
        by v target false h =
            target_none program models rel terms ms roots enforced are_roots d source v target ∙ sym (ap (option_map (fixed_value program.target)) (no_root v target h))

    pub back_is : data_beside roots back ≡ d
    back_is = same_lists (data_beside roots back) d (beside_long roots back back_long ∙ refilled_long program.target roots d long)
        (λ v. beside_at roots back back_long v ∙ by v (has_term (number_of roots v)) refl)
      where
        back_long : length roots ≡ length back
        back_long = long ∙ sym (refilled_long program.target roots d long)

        by : (v : ℕ) (y : Bool) → has_term (number_of roots v) ≡ y → (if y then None else value_at back v) ≡ value_at d v
        by v true h = sym (target_none program models rel terms ms roots enforced are_roots d source v (term_target v h))
        by v false h = refilled_at program.target roots d long v ∙ ap (λ z. if z then Some (object_datum program.target 0) else value_at d v) h

    -- ---- the begin

    abbrev pub start : NumberedValues
    start = start_of roots d

    start_is : (v : ℕ) → number_of start v ≡ value_beside (number_of roots v) (value_at d v)
    start_is v = start_at roots d long v

    -- a value there is a term of a root, or a datum
    pub start_from : (v : ℕ) (x : NumberedValue) → number_of start v ≡ Some x → (number_of roots v ≡ Some x) ⊎ ((y : Datum) × (value_at d v ≡ Some y) × (x ≡ numbered.Val y))
    start_from v x at = by (has_term (number_of roots v)) (sym (start_is v) ∙ at)
      where
        datum_by : (o : Option Datum) → option_map numbered.Val o ≡ Some x → (y : Datum) × (o ≡ Some y) × (x ≡ numbered.Val y)
        datum_by None h = absurd (none_some x h)
        datum_by (Some y) h = (y, refl, sym (same_Some (numbered.Val y) x h))

        by : (y : Bool) → (if y then number_of roots v else option_map numbered.Val (value_at d v)) ≡ Some x
            → (number_of roots v ≡ Some x) ⊎ ((y : Datum) × (value_at d v ≡ Some y) × (x ≡ numbered.Val y))
        by true h = inl h
        by false h = inr (datum_by (value_at d v) h)

    start_term : (v n : ℕ) → number_of start v ≡ Some (numbered.Term n) → number_of roots v ≡ Some (numbered.Term n)
    start_term v n at = by (start_from v (numbered.Term n) at)
      where
        by : (number_of roots v ≡ Some (numbered.Term n)) ⊎ ((y : Datum) × (value_at d v ≡ Some y) × (numbered.Term n ≡ numbered.Val y)) → number_of roots v ≡ Some (numbered.Term n)
        by (inl is) = is
        by (inr (y, is, not_so)) = absurd (true≢false (ap is_term not_so))

    start_data : (v : ℕ) → value_at (data_in (values_in terms start)) v ≡ value_at d v
    start_data v = number_data terms start v ∙ ap (λ o. option_and_then datum_in (option_map (value_in terms) o)) (start_is v) ∙ by (has_term (number_of roots v)) refl
      where
        datum_by : (o : Option Datum) → option_and_then datum_in (option_map (value_in terms) (option_map numbered.Val o)) ≡ o
        datum_by None = refl
        datum_by (Some y) = datum_of_val y

        by : (y : Bool) → has_term (number_of roots v) ≡ y
            → option_and_then datum_in (option_map (value_in terms) (if y then number_of roots v else option_map numbered.Val (value_at d v))) ≡ value_at d v
        by true h =
            let (n, at) = term_there (number_of roots v) h in
            ap (λ o. option_and_then datum_in (option_map (value_in terms) o)) at ∙ datum_of_term (term_at terms n)
            ∙ sym (target_none program models rel terms ms roots enforced are_roots d source v (term_target v h))
        by false h = datum_by (value_at d v)

    start_extends : (v : ℕ) (x : TermValue) → value_of (values_in terms roots) v ≡ Some x → value_of (values_in terms start) v ≡ Some x
    start_extends v x at = by (number_there terms roots v x at) (val_or_term x)
      where
        by : (y : NumberedValue) × (number_of roots v ≡ Some y) × (value_in terms y ≡ x) → ((d : Datum) × (x ≡ values.Val d)) ⊎ ((t : Term) × (x ≡ values.Term t))
            → value_of (values_in terms start) v ≡ Some x
        by (y, there, is) (inl (z, val)) =
            let own : value_at given v ≡ Some z
            = number_data terms roots v ∙ ap (λ o. option_and_then datum_in (option_map (value_in terms) o)) there ∙ ap datum_in (is ∙ val) ∙ datum_of_val z in
            datum_from (values_in terms start) v z (start_data v ∙ source.extends v z own) ∙ ap (λ w. Some w) (sym val)
        by (y, there, is) (inr (t, term)) =
            let (n, y_is, same) = number_term terms y t (is ∙ term) in
            let root : number_of roots v ≡ Some (numbered.Term n) = there ∙ ap (λ w. Some w) y_is in
            value_there terms start v (numbered.Term n) (start_is v ∙ ap (λ o. value_beside o (value_at d v)) root) ∙ ap (λ w. Some (values.Term w)) same ∙ ap (λ w. Some w) (sym term)

    pub start_partial : IsPartial program models rel terms ms roots d start
    start_partial = record {
      places = start_long roots d long ∙ roots_long;
      data_values = same_lists (data_in (values_in terms start)) d (data_long (values_in terms start) ∙ decoded_long terms start ∙ start_long roots d long ∙ long) start_data;
      extends = start_extends;
      terms_target = λ v n at. are_roots.terms v (term_at terms n) (value_there terms roots v (numbered.Term n) (start_term v n at));
      no_others = λ v n at. inr (start_term v n at);
    }
