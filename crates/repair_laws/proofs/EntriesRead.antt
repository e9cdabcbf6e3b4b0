-- Over a reading on which laws on entries stand, the entries are read: what a satisfied target is asked for.
use Rattle.std.specs.Prelude.{◌≡◌, ◌⊎◌, ℕ, zero, suc, true, false, List, [], length, replicate, Option, None, Some, slice_get, Contains}
use Rattle.std.specs.Option.{option_and_then}
use Rattle.std.proofs.Common.{refl, ap, sym, ◌∙◌, subst, true≢false}
use Rattle.mof_metamodel.specs.declared.desc.MetaDesc.{MetaDesc}
use Rattle.object_tables.specs.Models.{ModelData}
use Rattle.qv_syntax.specs.declared.program.Program.{Program}
use Rattle.qv_syntax.specs.declared.program.Rel.{Rel}
use Rattle.qv_syntax.specs.declared.program.Conj.TheVariants as conjuncts
use Rattle.qv_syntax.specs.declared.typed.Typed.{Typed}
use Rattle.qv_syntax.specs.WellFormed.{IsWellFormed}
use Rattle.qvtr_semantics.specs.declared.datum.Datum.{Datum}
use Rattle.qvtr_semantics.specs.Outs.{datum_of}
use Rattle.qvtr_semantics.specs.Expressions.{variable, value, value_for, scope_of}
use Rattle.qvtr_semantics.specs.Templates.{Values, value_at}
use Rattle.qvtr_semantics.specs.Bindings.{Source, Target}
use Rattle.qvtr_semantics.specs.Calls.{RelationCall, free}
use Rattle.source_laws.specs.SourceValues.{IsOfSources, HasNoTarget}
use Rattle.source_laws.specs.SourceRelations.{IsPlainArgument}
use Rattle.source_laws.specs.TargetRule.{MayBeTarget, IsExpressionOf, HandsTargetOn}
use Rattle.source_laws.proofs.TypingLaws.{is_in}
use Rattle.source_laws.proofs.RootLaws.{same_called}
use Rattle.source_laws.proofs.RuleLaws.{plain_by}
use Rattle.source_laws.proofs.OperationLaws.{datum_apart}
use Rattle.source_laws.proofs.QueryLaws.{scope_alike}
use Rattle.source_laws.proofs.RelationLaws.{datum_by}
use Rattle.entry_sources.proofs.ItemPlaces.{item_expression}
use Rattle.repair_semantics.specs.declared.term.Term.{Term}
use Rattle.repair_semantics.specs.declared.term.TermValue.{TermValue}
use Rattle.repair_semantics.specs.declared.term.TermValue.TheVariants as values
use Rattle.repair_semantics.specs.declared.entry.Entry.{Entry}
use Rattle.repair_semantics.specs.declared.entry.EntryName.{EntryName}
use Rattle.repair_semantics.specs.Terms.{term_in}
use Rattle.repair_semantics.specs.EntryValues.{TermValues, value_of, term_of, data_in, no_values, root_values, known, Known, given_value, given_by, given_out, variable_alone}
use Rattle.repair_semantics.specs.TargetItems.{Content, TargetItem, target_items}
use Rattle.repair_semantics.specs.Making.{entry_known, entry_scope, content_value}
use Rattle.repair_semantics.specs.Entries.{IsUniversalTarget, TermSource, AreMatches, calls_in, entry_calls, IsEntry}
use Rattle.reading_laws.specs.Readings.{Numbering, HasTermsAmong, read_value, Reads, ReadsCall}
use Rattle.reading_laws.specs.Roots.{HasRootsOf}
use Rattle.reading_laws.proofs.CallValues.{none_some, data_long, ReadsOne, one_at, some_read, same_val}
use Rattle.reading_laws.proofs.CallRoots.{none_long}
use Rattle.reading_laws.proofs.CallFits.{none_at, not_alone, given_val}
use Rattle.reading_laws.proofs.CallReads.{argument_read}
use Rattle.reading_laws.proofs.EntryKnown.{known_extends, scope_fit}
use Rattle.reading_laws.proofs.EntryFacts.{EntryFacts, facts, facts_known, rule_of}
use Rattle.reading_laws.proofs.EntryGround.{Ground}
use Rattle.reading_laws.proofs.EntrySources.{scope_long}
use Rattle.reading_laws.proofs.EntryCalls.{scope_places, when_reads, where_reads}
use Rattle.reading_laws.proofs.SourceWay.{source_met}
use Rattle.reading_laws.proofs.CallArguments.{where_made}
use Rattle.reading_laws.proofs.EntryRoots.{call_roots, entry_rooted}
use Rattle.repair_laws.proofs.MatchedRoots.{matched_root}
use Rattle.repair_laws.specs.EntryReadings.{IsEntryOf, IsReadAs, IsAmongMatches, AreEntriesRead}

module _ (metas : List MetaDesc) (program : Program) (models : List ModelData) (m : ModelData) (terms : List Term) (number : Numbering)
    (ground : Ground metas program models models m terms number)
  where
    abbrev formed : IsWellFormed metas program
    formed = ground.over.evaluable.well

    abbrev Facts : Entry → Type 0
    Facts e = EntryFacts metas program formed ground.over.enforceable models m terms ground.among e

    facts_of : (e : Entry) → IsEntry program models e → Facts e
    facts_of e is = facts metas program formed ground.over.enforceable models m terms ground.among e is

    rule : (place : ℕ) (rel : Rel) → slice_get program.rels place ≡ Some rel → rel.in_direction ≡ true → HandsTargetOn program rel
    rule = rule_of metas program formed ground.over.enforceable models m terms ground.among

    one_rel : (e : Entry) (rel : Rel) → slice_get program.rels e.rel ≡ Some rel → (f : Facts e) → f.rel ≡ rel
    one_rel e rel found f = same_called f.rel rel (sym f.found ∙ found)

    direction : (e : Entry) (rel : Rel) → IsEntryOf program models e rel → rel.in_direction ≡ true
    direction e rel of = let f = facts_of e of.is in ap (λ (r : Rel). r.in_direction) (sym (one_rel e rel of.found f)) ∙ f.is_towards

    -- ---- matches

    universal : (e : Entry) (rel : Rel) (matches : List Entry) (v : ℕ) (t : Term) → IsEntryOf program models e rel
        → AreMatches program (calls_in program models (known e.values) rel.whens) matches → ((f : Entry) → Contains matches f → IsEntry program models f)
        → IsUniversalTarget program rel v → value_of e.values v ≡ Some (values.Term t) → IsAmongMatches program models matches t
    universal e rel matches v t of match are u at =
        let h = matched_root metas program formed ground.over.enforceable models e.rel rel of.found (direction e rel of) e.values matches match are v t u at in
        record { f = h.match; among = h.among; rel = h.callee; found = h.found_callee; v = h.dom.root; at = h.root }

    -- ---- sources

    -- the roots that a call hands on
    handed : (from : Entry) (call : EntryName) (rel : Rel) → IsEntry program models from → Contains (entry_calls program models from) call → slice_get program.rels call.rel ≡ Some rel
        → HasRootsOf metas program models rel (root_values rel call.roots)
    handed from call rel is has found =
        let f = facts_of from is in
        let r = entry_rooted metas program models ground.over.over_sources ground.over.enforceable from is f.rel f.found in
        let made = where_made program models from f.rel call f.found has in
        let same : made.called ≡ rel = same_called made.called rel (sym made.found ∙ found) in
        subst (λ x. HasRootsOf metas program models x (root_values x call.roots)) same
        (call_roots metas program models ground.over.over_sources ground.over.enforceable from.rel f.rel f.found r.direction r.roots from.values r.source r.has call made)

    -- the terms of a binding are among those that are known
    term_known : (e : Entry) (rel : Rel) → length e.values ≡ length rel.vars → (v : ℕ) (t : Term) → term_of e.values v ≡ Some t → term_of (entry_known program models rel e.values).values v ≡ Some t
    term_known e rel long v t at = by (value_of e.values v) refl at
      where
        by : (o : Option TermValue) → value_of e.values v ≡ o → option_and_then term_in o ≡ Some t → term_of (entry_known program models rel e.values).values v ≡ Some t
        by None is h = absurd (none_some t h)
        by (Some x) is h = ap (option_and_then term_in) (known_extends program models rel e.values long v x is) ∙ h

    terms_among : (e : Entry) (rel : Rel) → IsEntryOf program models e rel → length e.values ≡ length rel.vars → HasTermsAmong program m terms rel e.values
    terms_among e rel of long =
        let all = ground.among e rel of.is of.found in
        record { among = λ v t at. all.among v t (term_known e rel long v t at); typed = λ v t class at is. all.typed v t class (term_known e rel long v t at) is }

    source_by : (e : Entry) (rel : Rel) (roots : TermValues) (croots c : Values) → IsEntryOf program models e rel → TermSource program models rel roots e.values
        → HasRootsOf metas program models rel roots → Reads program number roots croots → Reads program number e.values c → Source program models rel croots c
    source_by e rel roots croots c of source has given reads =
        source_met metas program models models m terms number ground.over ground.reading e.rel rel of.found (direction e rel of) roots e.values source has (terms_among e rel of source.places) croots c given reads

    no_value : (rel : Rel) (v : ℕ) (x : TermValue) → value_of (no_values rel) v ≡ Some x → ⊥
    no_value rel v x at = none_some x (sym (none_at (length rel.vars) v) ∙ at)

    no_roots : (rel : Rel) → rel.top ≡ true → HasRootsOf metas program models rel (no_values rel)
    no_roots rel top = record {
      of_domains = λ v x at. absurd (no_value rel v x at);
      data_values = λ v d at. absurd (no_value rel v (values.Val d) at);
      terms = λ v t at. absurd (no_value rel v (values.Term t) at);
      given = λ called. absurd (true≢false (sym top ∙ called));
      handed = λ called. absurd (true≢false (sym top ∙ called));
    }

    record IsOfTop (e : Entry) (rel : Rel) : Type 0 where
      source : TermSource program models rel (no_values rel) e.values
      top : rel.top ≡ true

    of_top : (e : Entry) (rel : Rel) → IsEntry program models e → slice_get program.rels e.rel ≡ Some rel → e.called ≡ false → IsOfTop e rel
    of_top e rel (IsEntry.of_top _ place other matches top with are) found uncalled =
        let same : other ≡ rel = same_called other rel (sym top.is ∙ ap (slice_get program.rels) (sym (ap (λ (x : Entry). x.rel) with.is)) ∙ found) in
        subst (IsOfTop e) same (record { source = with.source; top = top.top })
    of_top e rel (IsEntry.of_call _ from call other matches caller has at with are) found uncalled = absurd (true≢false (sym (ap (λ (x : Entry). x.called) with.is) ∙ uncalled))

    free_read : (rel : Rel) → Reads program number (no_values rel) (free rel)
    free_read rel = record {
      places = none_long (length rel.vars) None ∙ sym (none_long (length rel.vars) None);
      given = λ v x at. absurd (no_value rel v x at);
      none = λ v at. nothing (length rel.vars) v;
    }
      where
        nothing : (n v : ℕ) → value_at (replicate n None) v ≡ None
        nothing zero v = refl
        nothing (suc n) zero = refl
        nothing (suc n) (suc v) = nothing n v

    top_source : (e : Entry) (rel : Rel) (c : Values) → IsEntryOf program models e rel → e.called ≡ false → Reads program number e.values c → Source program models rel (free rel) c
    top_source e rel c of uncalled reads =
        let top = of_top e rel of.is of.found uncalled in
        source_by e rel (no_values rel) (free rel) c of top.source (no_roots rel top.top) (free_read rel) reads

    called_source : (from e : Entry) (call : EntryName) (rel : Rel) (to : RelationCall) (c : Values) → IsEntry program models from → Contains (entry_calls program models from) call
        → IsEntryOf program models e rel → slice_get program.rels call.rel ≡ Some rel → TermSource program models rel (root_values rel call.roots) e.values → ReadsCall program number call to
        → Reads program number e.values c → Source program models rel to.roots c
    called_source from e call rel to c is has of found source reads own = source_by e rel (root_values rel call.roots) to.roots c of source (handed from call rel is has found) (reads.roots rel found) own

    -- ---- expressions of items

    plain : (rel : Rel) (e : Typed) → HandsTargetOn program rel → IsExpressionOf rel e → IsPlainArgument program rel e
    plain rel e hands (IsExpressionOf.item dom among is) =
        plain_by program rel e (is_in e.node) refl hands (MayBeTarget.item dom among is) (hands.speaks e (IsExpressionOf.item dom among is))
    plain rel e hands (IsExpressionOf.conjunct (conjuncts.Cond x) has within) =
        IsPlainArgument.of_sources (hands.speaks e (IsExpressionOf.conjunct (conjuncts.Cond x) has within)) (hands.named (conjuncts.Cond x) e has within)
    plain rel e hands (IsExpressionOf.conjunct (conjuncts.Equation v x) has within) =
        IsPlainArgument.of_sources (hands.speaks e (IsExpressionOf.conjunct (conjuncts.Equation v x) has within)) (hands.named (conjuncts.Equation v x) e has within)
    plain rel e hands (IsExpressionOf.conjunct (conjuncts.Call n args) has within) =
        plain_by program rel e (is_in e.node) refl hands (MayBeTarget.argument n args has within) (hands.speaks e (IsExpressionOf.conjunct (conjuncts.Call n args) has within))

    -- ---- the scope of an entry

    long_scope : (e : Entry) (f : Facts e) (c g : Values) → Target program models f.rel c g → length (entry_scope program models f.rel e.values) ≡ length (scope_of g)
    long_scope e f c g target =
        scope_places program models f.rel (scope_of (data_in e.values)) (scope_long (data_in e.values) ∙ data_long e.values ∙ f.source.places) (length f.rel.wheres)
        ∙ sym (scope_long g ∙ target.places)

    no_target : (e : Entry) (f : Facts e) → IsEntry program models e → (v : ℕ) → HasNoTarget program.target (variable (entry_scope program models f.rel e.values) v)
    no_target e f is v =
        scope_fit metas program formed ground.over.enforceable models e.rel f.rel f.found f.is_towards f.roots e.values f.source m terms (ground.among e f.rel is f.found) f.roots_fit
        (rule e.rel f.rel f.found f.is_towards) v

    abbrev GivenOf : Entry → Rel → Type 0
    GivenOf e rel = (c g : Values) (item : TargetItem) (ex : Typed) (x : TermValue) → IsReadAs program models number e rel c g
        → Contains (target_items program rel) item → item.content ≡ Content.expression ex → given_value program models (entry_known program models rel e.values) ex ≡ Some x
        → (d : Datum) × (read_value program number x ≡ Some d) × (datum_of (value_for program models ex g) ≡ Some d)

    given_of : (e : Entry) (f : Facts e) → IsEntry program models e → GivenOf e f.rel
    given_of e f is c g item ex x read among content given =
        let k : Known = entry_known program models f.rel e.values in
        let hands : HandsTargetOn program f.rel = rule e.rel f.rel f.found f.is_towards in
        let told =
        argument_read metas program formed models models ground.over.others number e.rel f.rel f.found hands k g (λ v. Unit {0}) (λ v any. one_at program number k.values g read.all v)
        (long_scope e f c g read.target) (λ v outside. (ground.scopes e f.rel is f.found c g read.own read.target v outside, no_target e f is v)) ex
        (plain f.rel ex hands (item_expression program f.rel item ex among content)) (λ v alone. tt) in
        let (d, datum, own) = some_read program number x (datum_of (value_for program models ex g)) (subst (λ o. ReadsOne program number o (datum_of (value_for program models ex g))) given told) in
        (d, own, datum)

    given_is : (e : Entry) (rel : Rel) (c g : Values) (item : TargetItem) (ex : Typed) (x : TermValue) → IsEntryOf program models e rel → IsReadAs program models number e rel c g
        → Contains (target_items program rel) item → item.content ≡ Content.expression ex → given_value program models (entry_known program models rel e.values) ex ≡ Some x
        → (d : Datum) × (read_value program number x ≡ Some d) × (datum_of (value_for program models ex g) ≡ Some d)
    given_is e rel c g item ex x of = let f = facts_of e of.is in subst (GivenOf e) (one_rel e rel of.found f) (given_of e f of.is) c g item ex x

    abbrev OwnOf : Entry → Rel → Type 0
    OwnOf e rel = (item : TargetItem) (d : Datum) → Contains (target_items program rel) item
        → content_value program models (entry_known program models rel e.values) item.content ≡ Some (values.Val d) → IsOfSources program.target d

    own_of : (e : Entry) (f : Facts e) → IsEntry program models e → OwnOf e f.rel
    own_of e f is item d among at = by item.content refl at
      where
        of_variable : (v : ℕ) → value_of (entry_known program models f.rel e.values).values v ≡ Some (values.Val d) → IsOfSources program.target d
        of_variable v h = (facts_known metas program formed ground.over.enforceable models m terms ground.among e f is v (values.Val d) h).told.data_value d refl

        of_expression : (ex : Typed) → IsPlainArgument program f.rel ex → variable_alone ex ≡ None → given_out (value program models ex (entry_scope program models f.rel e.values)) ≡ Some (values.Val d)
            → IsOfSources program.target d
        of_expression ex (IsPlainArgument.alone ty v alone) none h = absurd (not_alone ex ty v alone none)
        of_expression ex (IsPlainArgument.of_sources speaks names) none h =
            let out = value program models ex (entry_scope program models f.rel e.values) in
            let apart : HasNoTarget program.target out =
            (scope_alike program models models ex (entry_scope program models f.rel e.values) (entry_scope program models f.rel e.values) ground.over.others speaks refl (λ v named. (refl, no_target e f is v))).1 in
            let own = given_val (datum_of out) (values.Val d) h in
            subst (IsOfSources program.target) (same_val own.0 d (sym own.2)) (datum_by program.target (datum_of out) own.0 (datum_apart program.target out apart) own.1)

        expression : (ex : Typed) → item.content ≡ Content.expression ex → (o : Option ℕ) → variable_alone ex ≡ o
            → given_by program models (entry_known program models f.rel e.values) ex o ≡ Some (values.Val d) → IsOfSources program.target d
        expression ex content (Some v) alone h = of_variable v h
        expression ex content None alone h = of_expression ex (plain f.rel ex (rule e.rel f.rel f.found f.is_towards) (item_expression program f.rel item ex among content)) alone h

        by : (c : Content) → item.content ≡ c → content_value program models (entry_known program models f.rel e.values) c ≡ Some (values.Val d) → IsOfSources program.target d
        by Content.empty content h = absurd (none_some (values.Val d) h)
        by (Content.expression ex) content h = expression ex content (variable_alone ex) refl h
        by (Content.template v) content h = of_variable v h

    own_is : (e : Entry) (rel : Rel) (item : TargetItem) (d : Datum) → IsEntryOf program models e rel → Contains (target_items program rel) item
        → content_value program models (entry_known program models rel e.values) item.content ≡ Some (values.Val d) → IsOfSources program.target d
    own_is e rel item d of = let f = facts_of e of.is in subst (OwnOf e) (one_rel e rel of.found f) (own_of e f of.is) item d

    -- ---- entries are read

    pub entries_read : AreEntriesRead program models number
    entries_read = record {
      met = λ e rel of. ground.met e rel of.is of.found;
      partners = λ e rel c g of own target. record { own = own; all = ground.partners e rel of.is of.found c g own target; target = target };
      top_source = top_source;
      called_source = called_source;
      universal = universal;
      whens = λ e rel c of own. when_reads metas program models models m terms number ground e rel of.is of.found c own;
      wheres = λ e rel c g of read. where_reads metas program models models m terms number ground e rel of.is of.found c g read.own read.target read.all;
      given = given_is;
      own = own_is;
    }
