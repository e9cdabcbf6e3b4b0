-- No binding is joined twice: what it gives the arguments of a call tells the match.
use Rattle.std.specs.Prelude.{◌≡◌, ◌≢◌, ℕ, true, ◌==◌, List, [], ◌∷◌, Option, None, Some, slice_get, Contains}
use Rattle.std.specs.List.{flat_map}
use Rattle.std.proofs.Common.{refl, sym, ap, subst, ◌∙◌}
use Rattle.std.proofs.lemmas.Bool.{and_parts, eqb-true}
use Rattle.std.proofs.lemmas.Option.{same_Some}
use Rattle.object_tables.specs.Models.{ModelData}
use Rattle.qv_syntax.specs.declared.program.Program.{Program}
use Rattle.qv_syntax.specs.declared.program.Rel.{Rel}
use Rattle.qv_syntax.specs.declared.program.Conj.{Conj}
use Rattle.qv_syntax.specs.declared.program.Conj.TheVariants as conjuncts
use Rattle.qv_syntax.specs.declared.typed.Typed.{Typed}
use Rattle.qvtr_semantics.specs.Templates.{Values}
use Rattle.mof_metamodel.proofs.Facts.{nothing_in, contains_first, only_one}
use Rattle.template_match.proofs.ListLaws.{contains_later}
use Rattle.repair_semantics.specs.declared.term.Term.{Term}
use Rattle.template_match.specs.Sources.{is_target_variable}
use Rattle.repair_semantics.specs.EntryValues.{TermValues, value_of, variable_alone}
use Rattle.repair_semantics.specs.Entries.{IsUniversalTarget}
use Rattle.term_table.specs.declared.numbered.NumberedValue.{NumberedValue}
use Rattle.term_table.specs.TermTables.{value_in, values_in, IsWithin, AreDistinct}
use Rattle.entry_bindings.specs.declared.argument.Argument.{Argument}
use Rattle.entry_bindings.specs.declared.argument.Argument.TheVariants as arguments
use Rattle.entry_bindings.specs.declared.matching.Match.{Match}
use Rattle.entry_bindings.specs.Starts.{NumberedValues, number_of}
use Rattle.entry_bindings.specs.Arguments.{arguments_of, argument_of, bound}
use Rattle.entry_bindings.specs.Joins.{is_match, agree, matching, filled, extended_by, call_extended, joined}
use Rattle.entry_bindings.specs.Asked.{AreMatchesWithin}
use Rattle.entry_bindings.proofs.ArgumentLaws.{bound_all}
use Rattle.entry_bindings.proofs.ListLaws.{filtered_from, joined_from}
use Rattle.entry_bindings.proofs.PairLaws.{AllLater, later_more, later_flat, later_picked, later_filtered}
use Rattle.entry_bindings.proofs.ValueLaws.{same_numbers, value_there, Grows}
use Rattle.entry_bindings.proofs.Partials.{Fits, AllFit, IsPartial, IsOpenTarget, given_each, open_arguments, AreOpenTargets, filled_partial, extended_comes}

-- ---- bindings

module _ (program : Program) (models : List ModelData) (rel : Rel) (terms : List Term) (ms : List Match) (roots : NumberedValues) (apart : AreDistinct terms)
    (ms_within : AreMatchesWithin terms ms) (ms_apart : AllLater (λ m n. m ≢ n) ms) where
  -- the values of the one are among those of the other, as terms
  abbrev GrowsTo : NumberedValues → TermValues → Type 0
  GrowsTo b t = (v : ℕ) (x : NumberedValue) → number_of b v ≡ Some x → value_of t v ≡ Some (value_in terms x)

  -- no binding comes of both
  abbrev pub AreApart : NumberedValues → NumberedValues → Type 0
  AreApart b c = (t : TermValues) → GrowsTo b t → GrowsTo c t → ⊥

  through : (b c : NumberedValues) (t : TermValues) → Grows b c → GrowsTo c t → GrowsTo b t
  through b c t grows to v x at = to v x (grows v x at)

  one_fits : (b c : NumberedValues) (t : TermValues) → GrowsTo b t → GrowsTo c t → (a : Argument) (x y : NumberedValue) → Fits b a x → Fits c a y → IsWithin terms x → IsWithin terms y → x ≡ y
  one_fits b c t to_b to_c (arguments.Given z) x y one other within_x within_y = sym one ∙ other
  one_fits b c t to_b to_c (arguments.Open v) x y one other within_x within_y =
      same_numbers terms apart x y within_x within_y (same_Some (value_in terms x) (value_in terms y) (sym (to_b v x one) ∙ to_c v y other))

  all_fit : (b c : NumberedValues) (t : TermValues) → GrowsTo b t → GrowsTo c t → (gs : List Argument) (xs ys : List NumberedValue) → AllFit b gs xs → AllFit c gs ys
      → ((x : NumberedValue) → Contains xs x → IsWithin terms x) → ((y : NumberedValue) → Contains ys y → IsWithin terms y) → xs ≡ ys
  all_fit b c t to_b to_c [] [] [] one other within_x within_y = refl
  all_fit b c t to_b to_c [] [] (y ∷ ys) one other within_x within_y = absurd other
  all_fit b c t to_b to_c [] (x ∷ xs) ys one other within_x within_y = absurd one
  all_fit b c t to_b to_c (a ∷ gs) [] ys one other within_x within_y = absurd one
  all_fit b c t to_b to_c (a ∷ gs) (x ∷ xs) [] one other within_x within_y = absurd other
  all_fit b c t to_b to_c (a ∷ gs) (x ∷ xs) (y ∷ ys) one other within_x within_y =
      ap (λ z. z ∷ xs) (one_fits b c t to_b to_c a x y one.0 other.0 (within_x x (contains_first x xs)) (within_y y (contains_first y ys)))
      ∙ ap (λ zs. y ∷ zs) (all_fit b c t to_b to_c gs xs ys one.1 other.1 (λ z there. within_x z (contains_later z x xs there)) (λ z there. within_y z (contains_later z y ys there)))

  same_match : (m n : Match) → m.rel ≡ n.rel → m.roots ≡ n.roots → m ≡ n
  same_match m n rel_is roots_are =
      let make : ℕ → List NumberedValue → Match = λ k rs. record { rel = k; roots = rs } in ap (λ k. make k m.roots) rel_is ∙ ap (make n.rel) roots_are

  module _ (d : Values) where
    -- what comes of one binding by two matches
    one_apart : (b : NumberedValues) (number : ℕ) (args : List Typed) → IsPartial program models rel terms ms roots d b
        → ((e : Typed) (v : ℕ) → Contains args e → variable_alone e ≡ Some v → is_target_variable program rel v ≡ true → IsUniversalTarget program rel v)
        → AllLater AreApart (call_extended program models ms rel d number args b)
    one_apart b number args partial opens = by (slice_get program.rels number) (arguments_of program models rel d b args) refl
      where
        both : (called : Rel) (gs : List Argument) → arguments_of program models rel d b args ≡ Some gs → (m n : Match) (u w : NumberedValues)
            → Contains (matching ms number (bound called gs)) m → Contains (matching ms number (bound called gs)) n → m ≢ n
            → filled b (bound called gs) m.roots ≡ Some u → filled b (bound called gs) n.roots ≡ Some w → AreApart u w
        both called gs given m n u w in_m in_n differ at_m at_n t to_u to_w =
            let one = filtered_from (is_match number (bound called gs)) ms m in_m in
            let other = filtered_from (is_match number (bound called gs)) ms n in_n in
            let parts_m = and_parts (m.rel == number) (agree (bound called gs) m.roots) one.1 in
            let parts_n = and_parts (n.rel == number) (agree (bound called gs) n.roots) other.1 in
            let all = bound_all (IsOpenTarget program models rel terms ms roots) called gs
            (open_arguments program models rel terms ms roots d b args gs (given_each (argument_of program models rel d b) args gs given) opens) in
            let goes_m = filled_partial program models rel terms ms roots d b (bound called gs) m.roots u partial all parts_m.1 at_m in
            let goes_n = filled_partial program models rel terms ms roots d b (bound called gs) n.roots w partial all parts_n.1 at_n in
            differ (same_match m n (eqb-true m.rel number parts_m.0 ∙ sym (eqb-true n.rel number parts_n.0))
            (all_fit u w t to_u to_w (bound called gs) m.roots n.roots goes_m.fits goes_n.fits (λ x there. ms_within m x one.0 there) (λ x there. ms_within n x other.0 there)))

        by : (o : Option Rel) (p : Option (List Argument)) → arguments_of program models rel d b args ≡ p → AllLater AreApart (extended_by ms b number o p)
        by None p given = tt
        by (Some called) None given = tt
        by (Some called) (Some gs) given =
            later_picked (λ m n. m ≢ n) AreApart (λ (m : Match). filled b (bound called gs) m.roots) (matching ms number (bound called gs))
            (later_filtered (λ m n. m ≢ n) (is_match number (bound called gs)) ms ms_apart) (both called gs given)

    -- what is joined of bindings of which no two come to one
    all_apart : (cs : List Conj) (bs : List NumberedValues) → AreOpenTargets program models rel terms ms roots d cs
        → ((b : NumberedValues) → Contains bs b → IsPartial program models rel terms ms roots d b) → AllLater AreApart bs → AllLater AreApart (joined program models ms rel d cs bs)
    all_apart [] bs opens partial h = h
    all_apart (conjuncts.Call number args ∷ cs) bs opens partial h =
        let arguments_open : (e : Typed) (v : ℕ) → Contains args e → variable_alone e ≡ Some v → is_target_variable program rel v ≡ true → IsUniversalTarget program rel v
        = λ e v. opens number args e v (contains_first (conjuncts.Call number args) cs) in
        let f = call_extended program models ms rel d number args in
        all_apart cs (flat_map f bs) (λ n xs e v there. opens n xs e v (contains_later (conjuncts.Call n xs) (conjuncts.Call number args) cs there))
        (λ c there. let (b, within, from) = joined_from f bs c there in (extended_comes program models rel terms ms roots d b c number args (partial b within) arguments_open from).partial)
        (later_flat AreApart AreApart f bs h (λ b there. one_apart b number args (partial b there) arguments_open)
        (λ b c u w in_b in_c apart_bc in_u in_w t to_u to_w. apart_bc t
        (through b u t (extended_comes program models rel terms ms roots d b u number args (partial b in_b) arguments_open in_u).grows to_u)
        (through c w t (extended_comes program models rel terms ms roots d c w number args (partial c in_c) arguments_open in_w).grows to_w)))
    all_apart (conjuncts.Cond x ∷ cs) bs opens partial h =
        all_apart cs bs (λ n xs e v there. opens n xs e v (contains_later (conjuncts.Call n xs) (conjuncts.Cond x) cs there)) partial h
    all_apart (conjuncts.Equation y x ∷ cs) bs opens partial h =
        all_apart cs bs (λ n xs e v there. opens n xs e v (contains_later (conjuncts.Call n xs) (conjuncts.Equation y x) cs there)) partial h

    -- so no two of them are one as terms
    pub joined_differ : (cs : List Conj) (b : NumberedValues) → AreOpenTargets program models rel terms ms roots d cs → IsPartial program models rel terms ms roots d b
        → AllLater (λ u w. values_in terms u ≢ values_in terms w) (joined program models ms rel d cs (b ∷ []))
    joined_differ cs b opens partial =
        later_more AreApart (λ u w. values_in terms u ≢ values_in terms w) (joined program models ms rel d cs (b ∷ []))
        (λ u w apart_uw is. apart_uw (values_in terms u) (λ v x at. value_there terms u v x at) (λ v x at. ap (λ t. value_of t v) is ∙ value_there terms w v x at))
        (all_apart cs (b ∷ []) opens (λ c there. subst (IsPartial program models rel terms ms roots d) (only_one b c there) partial) (λ y there. absurd (nothing_in y there), tt))
