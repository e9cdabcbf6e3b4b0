-- Entries are the same over models that agree but for the target, whose metamodel is the same, and so are their demands.
use Rattle.std.specs.Prelude.{◌≡◌, ℕ, suc, Bool, true, false, length, List, [], ◌∷◌, ◌++◌, map, Option, None, Some, is_some, slice_get, Contains, if◌then◌else◌}
use Rattle.std.specs.List.{filter_map, cons_option}
use Rattle.std.specs.Option.{option_and_then, option_map_or}
use Rattle.std.proofs.Common.{refl, ap, sym, ◌∙◌, subst, inl, inr}
use Rattle.mof_metamodel.specs.declared.desc.MetaDesc.{MetaDesc}
use Rattle.object_tables.specs.Models.{ModelData}
use Rattle.object_tables.proofs.ListLemmas.{map-same_all}
use Rattle.qv_syntax.specs.declared.program.Program.{Program}
use Rattle.qv_syntax.specs.declared.program.Rel.{Rel}
use Rattle.qv_syntax.specs.declared.program.Conj.{Conj}
use Rattle.qv_syntax.specs.declared.program.Conj.TheVariants as conjuncts
use Rattle.qv_syntax.specs.WellFormed.{IsWellFormed}
use Rattle.qvtr_semantics.specs.Outs.{all_given}
use Rattle.qvtr_semantics.specs.Expressions.{variable, scope_of}
use Rattle.template_match.proofs.ListLaws.{contains_later}
use Rattle.mof_metamodel.proofs.Facts.{contains_first}
use Rattle.evaluation_laws.specs.Evaluable.{IsEvaluable}
use Rattle.enforcement_rules.specs.Rules.{IsEnforceable}
use Rattle.enforceable_sources.proofs.EnforceableLaws.{enforceable_hands_on}
use Rattle.source_laws.specs.Agreement.{AgreeBut}
use Rattle.source_laws.specs.SourceValues.{HasNoTarget}
use Rattle.source_laws.specs.TargetRule.{HasConjunct, IsExpressionOf, HandsTargetOn}
use Rattle.source_laws.proofs.BindingLaws.{opposite, source_kept}
use Rattle.source_laws.proofs.RuleLaws.{rule_keeps}
use Rattle.entry_sources.proofs.ItemPlaces.{item_expression}
use Rattle.entry_sources.proofs.MakingLaws.{scope_same, given_same, entry_known_same, made_same, unmet_at_same, unmet_same}
use Rattle.repair_semantics.specs.declared.entry.Entry.{Entry}
use Rattle.repair_semantics.specs.declared.entry.EntryName.{EntryName}
use Rattle.repair_semantics.specs.EntryValues.{TermValues, data_in, no_values, root_values, Known, known, term_of, given_value}
use Rattle.repair_semantics.specs.TargetItems.{Content, TargetItem, target_items, target_metamodel}
use Rattle.repair_semantics.specs.Making.{entry_scope, entry_known, content_value}
use Rattle.repair_semantics.specs.Unmet.{unmet_at, is_unmet}
use Rattle.repair_semantics.specs.Demands.{demand_by, item_demand, item_demands, demands_where, entry_demands, demands_from, demands_of}
use Rattle.repair_semantics.specs.Entries.{TermSource, AreMatches, call_to, calls_in, calls_where, entry_calls, IsEntryWith, IsEntry}
use Rattle.reading_laws.specs.Roots.{HasRootsOf}
use Rattle.reading_laws.proofs.EntryRoots.{no_roots, call_found, call_rooted, entry_rooted}
use Rattle.reading_laws.proofs.MeetingTypes.{scope_apart}

module _ (metas : List MetaDesc) (program : Program) (ms ns : List ModelData) (evaluable : IsEvaluable metas program ms) (enforceable : IsEnforceable metas program)
    (agree : AgreeBut program.target ms ns) (meta : target_metamodel program ms ≡ target_metamodel program ns)
  where
    abbrev well : IsWellFormed metas program
    well = evaluable.well

    -- ---- calls of clauses

    calls_same : (rel : Rel) → HandsTargetOn program rel → (k : Known) → ((v : ℕ) → HasNoTarget program.target (variable k.scope v)) → (cs : List Conj)
        → ((x : Conj) → Contains cs x → HasConjunct rel x) → calls_in program ms k cs ≡ calls_in program ns k cs
    calls_same rel hands k fine [] within = refl
    calls_same rel hands k fine (conjuncts.Call n args ∷ cs) within =
        let same : map (given_value program ms k) args ≡ map (given_value program ns k) args =
        map-same_all (given_value program ms k) (given_value program ns k) args (λ e has.
        given_same program ms ns agree rel hands k e (IsExpressionOf.conjunct (conjuncts.Call n args) (within (conjuncts.Call n args) (contains_first (conjuncts.Call n args) cs)) has) fine) in
        ap (λ xs. option_and_then (call_to n (slice_get program.rels n)) (all_given xs) ∷ calls_in program ms k cs) same
        ∙ ap (λ os. option_and_then (call_to n (slice_get program.rels n)) (all_given (map (given_value program ns k) args)) ∷ os)
        (calls_same rel hands k fine cs (λ x has. within x (contains_later x (conjuncts.Call n args) cs has)))
    calls_same rel hands k fine (conjuncts.Cond e ∷ cs) within = calls_same rel hands k fine cs (λ x has. within x (contains_later x (conjuncts.Cond e) cs has))
    calls_same rel hands k fine (conjuncts.Equation v e ∷ cs) within = calls_same rel hands k fine cs (λ x has. within x (contains_later x (conjuncts.Equation v e) cs has))

    -- ---- entries

    record IsPlain (e : Entry) (rel : Rel) : Type 0 where
      hands : HandsTargetOn program rel
      fine : (v : ℕ) → HasNoTarget program.target (variable (scope_of (data_in e.values)) v)

    plain : (e : Entry) (rel : Rel) → IsEntry program ms e → slice_get program.rels e.rel ≡ Some rel → IsPlain e rel
    plain e rel is found =
        let r = entry_rooted metas program ms evaluable enforceable e is rel found in
        let hands : HandsTargetOn program rel = enforceable_hands_on metas program well e.rel rel enforceable found r.direction in
        record { hands = hands; fine = scope_apart metas program ms evaluable e.rel rel found (rule_keeps metas program well e.rel rel found hands) r.roots e.values r.source r.has }

    fine_scope : (e : Entry) (rel : Rel) → IsPlain e rel → (v : ℕ) → HasNoTarget program.target (variable (entry_scope program ms rel e.values) v)
    fine_scope e rel p = (scope_same program ms ms (λ k other. refl) rel p.hands (scope_of (data_in e.values)) p.fine (length rel.wheres)).1

    with_moved : (e : Entry) (place : ℕ) (rel : Rel) (called : Bool) (roots : TermValues) (matches : List Entry) → IsPlain e rel → slice_get program.rels place ≡ Some rel
        → IsEntryWith program ms place rel called roots matches e → IsEntryWith program ns place rel called roots matches e
    with_moved e place rel called roots matches p found with = record {
      source = record {
        places = with.source.places;
        extends = with.source.extends;
        source = source_kept program ms ns agree place rel well.relations found (rule_keeps metas program well place rel found p.hands) (data_in roots) (data_in e.values) with.source.source;
        terms = with.source.terms;
        no_others = with.source.no_others;
      };
      whens = subst (λ cs. AreMatches program cs matches) (calls_same rel p.hands (known e.values) p.fine rel.whens (λ x has. inl has)) with.whens;
      is = with.is ∙ ap (λ (made : TermValues). let x : Entry = record { rel = place; called = called; values = e.values; made = made } in x) (made_same program ms ns agree rel p.hands meta e.values p.fine);
    }

    where_same : (from : Entry) (rel : Rel) → IsPlain from rel
        → calls_where program ms rel (entry_known program ms rel from.values) ≡ calls_where program ns rel (entry_known program ns rel from.values)
    where_same from rel p =
        let k : Known = entry_known program ms rel from.values in
        let fine : (v : ℕ) → HasNoTarget program.target (variable k.scope v) = fine_scope from rel p in
        ap (λ b. if b then [] else filter_map (λ c. c) (calls_in program ms k rel.wheres)) (unmet_same program ms ns agree rel p.hands k fine)
        ∙ ap (λ cs. if is_unmet program ns rel k then [] else filter_map (λ c. c) cs) (calls_same rel p.hands k fine rel.wheres (λ x has. inr has))
        ∙ ap (calls_where program ns rel) (entry_known_same program ms ns agree rel p.hands meta from.values p.fine)

    pub entry_calls_same : (from : Entry) → IsEntry program ms from → entry_calls program ms from ≡ entry_calls program ns from
    entry_calls_same from is = by (slice_get program.rels from.rel) refl
      where
        by : (o : Option Rel) → slice_get program.rels from.rel ≡ o
            → option_map_or (λ rel. calls_where program ms rel (entry_known program ms rel from.values)) o []
            ≡ option_map_or (λ rel. calls_where program ns rel (entry_known program ns rel from.values)) o []
        by None found = refl
        by (Some rel) found = where_same from rel (plain from rel is found)

    calls_moved : (from : Entry) (call : EntryName) → IsEntry program ms from → Contains (entry_calls program ms from) call → Contains (entry_calls program ns from) call
    calls_moved from call is has = subst (λ cs. Contains cs call) (entry_calls_same from is) has

    at_place : (e : Entry) (place : ℕ) (rel : Rel) (called : Bool) (roots : TermValues) (matches : List Entry) → IsEntryWith program ms place rel called roots matches e
        → slice_get program.rels place ≡ Some rel → slice_get program.rels e.rel ≡ Some rel
    at_place e place rel called roots matches with found = ap (slice_get program.rels) (ap (λ (x : Entry). x.rel) with.is) ∙ found

    pub entry_moved : (e : Entry) → IsEntry program ms e → IsEntry program ns e
    entry_moved e (IsEntry.of_top _ place rel matches top with are) =
        IsEntry.of_top e place rel matches top
        (with_moved e place rel false (no_values rel) matches
        (plain e rel (IsEntry.of_top e place rel matches top with are) (at_place e place rel false (no_values rel) matches with top.is)) top.is with)
        (λ f c. entry_moved f (are f c))
    entry_moved e (IsEntry.of_call _ from call rel matches caller has found with are) =
        IsEntry.of_call e from call rel matches (entry_moved from caller) (calls_moved from call caller has) found
        (with_moved e call.rel rel true (root_values rel call.roots) matches
        (plain e rel (IsEntry.of_call e from call rel matches caller has found with are) (at_place e call.rel rel true (root_values rel call.roots) matches with found)) found with)
        (λ f c. entry_moved f (are f c))

    -- ---- and back

    source_back : (place : ℕ) (rel : Rel) → slice_get program.rels place ≡ Some rel → HandsTargetOn program rel → (roots b : TermValues) → TermSource program ns rel roots b → TermSource program ms rel roots b
    source_back place rel found hands roots b s = record {
      places = s.places;
      extends = s.extends;
      source = source_kept program ns ms (opposite program.target ms ns agree) place rel well.relations found (rule_keeps metas program well place rel found hands) (data_in roots) (data_in b) s.source;
      terms = s.terms;
      no_others = s.no_others;
    }

    with_back : (e : Entry) (place : ℕ) (rel : Rel) (called : Bool) (roots : TermValues) (matches : List Entry) → slice_get program.rels place ≡ Some rel → rel.in_direction ≡ true
        → HasRootsOf metas program ms rel roots → IsEntryWith program ns place rel called roots matches e → IsEntryWith program ms place rel called roots matches e
    with_back e place rel called roots matches found direction has with =
        let hands : HandsTargetOn program rel = enforceable_hands_on metas program well place rel enforceable found direction in
        let source : TermSource program ms rel roots e.values = source_back place rel found hands roots e.values with.source in
        let fine : (v : ℕ) → HasNoTarget program.target (variable (scope_of (data_in e.values)) v) =
        scope_apart metas program ms evaluable place rel found (rule_keeps metas program well place rel found hands) roots e.values source has in
        record {
          source = source;
          whens = subst (λ cs. AreMatches program cs matches) (sym (calls_same rel hands (known e.values) fine rel.whens (λ x there. inl there))) with.whens;
          is = with.is ∙ ap (λ (made : TermValues). let x : Entry = record { rel = place; called = called; values = e.values; made = made } in x) (sym (made_same program ms ns agree rel hands meta e.values fine));
        }

    pub entry_back : (e : Entry) → IsEntry program ns e → IsEntry program ms e
    entry_back e (IsEntry.of_top _ place rel matches top with are) =
        IsEntry.of_top e place rel matches top
        (with_back e place rel false (no_values rel) matches top.is top.in_direction (no_roots metas program ms evaluable enforceable rel top.top) with)
        (λ f c. entry_back f (are f c))
    entry_back e (IsEntry.of_call _ from call rel matches caller has found with are) =
        let before : IsEntry program ms from = entry_back from caller in
        let calls : Contains (entry_calls program ms from) call = subst (λ cs. Contains cs call) (sym (entry_calls_same from before)) has in
        let (frel, from_found) = call_found metas program ms evaluable enforceable from call calls in
        let (direction, roots) = call_rooted metas program ms evaluable enforceable from call frel rel from_found (entry_rooted metas program ms evaluable enforceable from before frel from_found) calls found in
        IsEntry.of_call e from call rel matches before calls found (with_back e call.rel rel true (root_values rel call.roots) matches found direction roots with) (λ f c. entry_back f (are f c))

    -- the first place at which an entry is unmet, and whether it is
    pub unmet_at_as : (e : Entry) (rel : Rel) → IsEntry program ms e → slice_get program.rels e.rel ≡ Some rel
        → unmet_at program ms rel (entry_known program ms rel e.values) ≡ unmet_at program ns rel (entry_known program ns rel e.values)
    unmet_at_as e rel is found =
        let p : IsPlain e rel = plain e rel is found in
        unmet_at_same program ms ns agree rel p.hands (entry_known program ms rel e.values) (fine_scope e rel p) ∙ ap (unmet_at program ns rel) (entry_known_same program ms ns agree rel p.hands meta e.values p.fine)

    pub unmet_as : (e : Entry) (rel : Rel) → IsEntry program ms e → slice_get program.rels e.rel ≡ Some rel
        → is_unmet program ms rel (entry_known program ms rel e.values) ≡ is_unmet program ns rel (entry_known program ns rel e.values)
    unmet_as e rel is found = ap is_some (unmet_at_as e rel is found)

    -- ---- demands

    item_same : (rel : Rel) → HandsTargetOn program rel → (k : Known) → ((v : ℕ) → HasNoTarget program.target (variable k.scope v)) → (n : ℕ) (item : TargetItem)
        → Contains (target_items program rel) item → item_demand program ms k n item ≡ item_demand program ns k n item
    item_same rel hands k fine n item among = ap (demand_by n item (term_of k.values item.owner)) (by item.content refl)
      where
        by : (c : Content) → item.content ≡ c → content_value program ms k c ≡ content_value program ns k c
        by Content.empty is = refl
        by (Content.expression e) is = given_same program ms ns agree rel hands k e (item_expression program rel item e among is) fine
        by (Content.template v) is = refl

    items_same : (rel : Rel) → HandsTargetOn program rel → (k : Known) → ((v : ℕ) → HasNoTarget program.target (variable k.scope v)) → (n : ℕ) (items : List TargetItem)
        → ((i : TargetItem) → Contains items i → Contains (target_items program rel) i) → item_demands program ms k n items ≡ item_demands program ns k n items
    items_same rel hands k fine n [] within = refl
    items_same rel hands k fine n (i ∷ is) within =
        ap (λ o. cons_option o (item_demands program ms k n is)) (item_same rel hands k fine n i (within i (contains_first i is)))
        ∙ ap (cons_option (item_demand program ns k n i)) (items_same rel hands k fine n is (λ j c. within j (contains_later j i is c)))

    demands_where_same : (e : Entry) (rel : Rel) (n : ℕ) → IsPlain e rel
        → demands_where program ms n rel (entry_known program ms rel e.values) ≡ demands_where program ns n rel (entry_known program ns rel e.values)
    demands_where_same e rel n p =
        let k : Known = entry_known program ms rel e.values in
        let fine : (v : ℕ) → HasNoTarget program.target (variable k.scope v) = fine_scope e rel p in
        ap (λ b. if b then [] else item_demands program ms k n (target_items program rel)) (unmet_same program ms ns agree rel p.hands k fine)
        ∙ ap (λ ds. if is_unmet program ns rel k then [] else ds) (items_same rel p.hands k fine n (target_items program rel) (λ i c. c))
        ∙ ap (demands_where program ns n rel) (entry_known_same program ms ns agree rel p.hands meta e.values p.fine)

    entry_demands_same : (e : Entry) (n : ℕ) → IsEntry program ms e → entry_demands program ms n e ≡ entry_demands program ns n e
    entry_demands_same e n is = by (slice_get program.rels e.rel) refl
      where
        by : (o : Option Rel) → slice_get program.rels e.rel ≡ o
            → option_map_or (λ rel. demands_where program ms n rel (entry_known program ms rel e.values)) o []
            ≡ option_map_or (λ rel. demands_where program ns n rel (entry_known program ns rel e.values)) o []
        by None found = refl
        by (Some rel) found = demands_where_same e rel n (plain e rel is found)

    demands_from_same : (es : List Entry) (n : ℕ) → ((e : Entry) → Contains es e → IsEntry program ms e) → demands_from program ms n es ≡ demands_from program ns n es
    demands_from_same [] n are = refl
    demands_from_same (e ∷ es) n are =
        ap (λ ds. ds ++ demands_from program ms (suc n) es) (entry_demands_same e n (are e (contains_first e es)))
        ∙ ap (λ ds. entry_demands program ns n e ++ ds) (demands_from_same es (suc n) (λ f c. are f (contains_later f e es c)))

    -- the demands of a list of entries
    pub demands_same : (es : List Entry) → ((e : Entry) → Contains es e → IsEntry program ms e) → demands_of program ms es ≡ demands_of program ns es
    demands_same es are = demands_from_same es 0 are
