-- The calls of an entry are read as those of a binding over the models and its partner; and each call in its where clause is made.
use Rattle.std.specs.Prelude.{◌≡◌, ◌<◌, ℕ, zero, suc, Bool, true, false, ◌&&◌, not, List, [], ◌∷◌, ◌++◌, map, length, Option, None, Some, is_some, is_none, slice_get, slice_index_or, Contains, if◌then◌else◌}
use Rattle.std.specs.List.{list_any}
use Rattle.std.specs.Option.{option_and_then, option_map}
use Rattle.std.proofs.Common.{refl, sym, ap, subst, ◌∙◌, inl, inr, arith}
use Rattle.std.proofs.lemmas.Bool.{true≢false}
use Rattle.std.proofs.lemmas.Option.{slice_get_within}
use Rattle.std.proofs.lemmas.List.FromFn.{length-map-range_with_len}
use Rattle.mof_metamodel.specs.declared.desc.MetaDesc.{MetaDesc}
use Rattle.object_tables.specs.Models.{ModelData}
use Rattle.qv_syntax.specs.declared.typed.Typed.{Typed}
use Rattle.qv_syntax.specs.declared.program.Program.{Program}
use Rattle.qv_syntax.specs.declared.program.Rel.{Rel}
use Rattle.qv_syntax.specs.declared.program.Dom.{Dom}
use Rattle.qv_syntax.specs.declared.program.Conj.{Conj}
use Rattle.qv_syntax.specs.ProgramTypes.{IsCallTyped}
use Rattle.qv_syntax.specs.WellFormed.{IsWellFormed}
use Rattle.qvtr_semantics.specs.Outs.{all_given}
use Rattle.qvtr_semantics.specs.Expressions.{Scope, variable, scope_of}
use Rattle.qvtr_semantics.specs.Templates.{Values}
use Rattle.qvtr_semantics.specs.Bindings.{Target}
use Rattle.qvtr_semantics.specs.Calls.{RelationCall, Asked, AllAsked, calls_of}
use Rattle.template_match.specs.Sources.{is_target_variable}
use Rattle.template_match.proofs.ListLaws.{contains_later, any_at}
use Rattle.mof_metamodel.proofs.Facts.{contains_first}
use Rattle.source_laws.specs.SourceValues.{HasNoTarget}
use Rattle.mof_metamodel.proofs.Facts.{contains_at}
use Rattle.source_laws.proofs.RootLaws.{typed_call, same_called}
use Rattle.repair_semantics.specs.declared.term.Term.{Term}
use Rattle.repair_semantics.specs.declared.term.TermValue.{TermValue}
use Rattle.repair_semantics.specs.declared.entry.Entry.{Entry}
use Rattle.repair_semantics.specs.declared.entry.EntryName.{EntryName}
use Rattle.repair_semantics.specs.declared.entry.Place.{Place}
use Rattle.repair_semantics.specs.EntryValues.{Known, data_in, known, variable_alone, given_by, given_value, is_target_one}
use Rattle.repair_semantics.specs.TargetItems.{target_items}
use Rattle.repair_semantics.specs.Making.{scope_within, by_equation, equation_of, entry_scope, entry_known}
use Rattle.repair_semantics.specs.Unmet.{is_lacking, item_places, is_conjunct_unmet, conjunct_places, first_place, is_unmet}
use Rattle.repair_semantics.specs.Entries.{bound_roots, call_to, named_call, calls_in, IsEntry}
use Rattle.reading_laws.specs.Readings.{Numbering, Reads, ReadsCall}
use Rattle.reading_laws.specs.ReadCalls.{AreReadCalls}
use Rattle.reading_laws.proofs.CallValues.{none_some, data_long, one_at, AreFit}
use Rattle.std.proofs.lemmas.Option.{same_Some}
use Rattle.reading_laws.proofs.CallReads.{clause_read, clause_reads, scope_at}
use Rattle.reading_laws.proofs.EntryKnown.{scope_fit, binding_fit}
use Rattle.reading_laws.proofs.EntryFacts.{EntryFacts, rule_of}
use Rattle.reading_laws.proofs.EntryGround.{Ground}
use Rattle.reading_laws.proofs.EntryMatches.{facts_of}
use Rattle.reading_laws.proofs.EntrySources.{scope_long, argument_variable}
use Rattle.qv_syntax.specs.declared.program.Conj.TheVariants as conjuncts
use Rattle.repair_semantics.specs.declared.entry.Place.TheVariants as places

pub scope_places : (program : Program) (sources : List ModelData) (rel : Rel) (before : Scope) → length before ≡ length rel.vars → (n : ℕ) → length (scope_within program sources rel before n) ≡ length rel.vars
scope_places program sources rel before long zero = long
scope_places program sources rel before long (suc n) =
    length-map-range_with_len (λ v. by_equation program sources (scope_within program sources rel before n) (variable before v) (equation_of rel.wheres v)) 0 (length rel.vars)

-- ---- where an entry isn't unmet

no_first : (ps : List Place) → is_some (first_place ps) ≡ false → ps ≡ []
no_first [] h = refl
no_first (p ∷ ps) h = absurd (true≢false h)

nothing_behind : (ps qs : List Place) → ps ++ qs ≡ [] → qs ≡ []
nothing_behind [] qs h = h
nothing_behind (p ∷ ps) qs h = absurd (cc)

each_met : (program : Program) (sources : List ModelData) (rel : Rel) (k : Known) (before : ℕ) (cs : List Conj) → conjunct_places program sources rel k before cs ≡ []
    → (c : Conj) → Contains cs c → is_conjunct_unmet program sources rel k c ≡ false
each_met program sources rel k before [] none c (i, less, is) = absurd (omega (arith, less))
each_met program sources rel k before (x ∷ cs) none c within =
    by (is_conjunct_unmet program sources rel k x) refl none within (λ rest i less is. each_met program sources rel k (suc before) cs rest c (i, less, is))
  where
    by : (b : Bool) → is_conjunct_unmet program sources rel k x ≡ b
        → (if b then places.Where (suc before) ∷ conjunct_places program sources rel k (suc before) cs else conjunct_places program sources rel k (suc before) cs) ≡ [] → Contains (x ∷ cs) c
        → (conjunct_places program sources rel k (suc before) cs ≡ [] → (i : ℕ) → i < length cs → slice_index_or cs i c ≡ c → is_conjunct_unmet program sources rel k c ≡ false)
        → is_conjunct_unmet program sources rel k c ≡ false
    by true unmet h there rest = absurd (cc)
    by false met h (zero, less, is) rest = ap (is_conjunct_unmet program sources rel k) (sym is) ∙ met
    by false met h (suc i, less, is) rest = rest h i (omega (arith, less)) is

pub wheres_met : (program : Program) (sources : List ModelData) (rel : Rel) (k : Known) → is_unmet program sources rel k ≡ false → (c : Conj) → Contains rel.wheres c
    → is_conjunct_unmet program sources rel k c ≡ false
wheres_met program sources rel k met c within =
    each_met program sources rel k 0 rel.wheres
    (nothing_behind (item_places program sources rel k (target_items program rel)) (conjunct_places program sources rel k 0 rel.wheres)
    (no_first (item_places program sources rel k (target_items program rel) ++ conjunct_places program sources rel k 0 rel.wheres) met)) c within

any_false : {X : Type 0} (p : X → Bool) (xs : List X) → list_any p xs ≡ false → (x : X) → Contains xs x → p x ≡ false
any_false p xs none x there = by (p x) refl
  where
    by : (b : Bool) → p x ≡ b → b ≡ false
    by true is = absurd (true≢false (sym (any_at p xs x is there) ∙ none))
    by false is = refl

-- ---- calls that are made

all_some : (f : Typed → Option TermValue) (args : List Typed) → ((e : Typed) → Contains args e → (x : TermValue) × (f e ≡ Some x)) → (xs : List TermValue) × (all_given (map f args) ≡ Some xs)
all_some f [] each = ([], refl)
all_some f (e ∷ es) each =
    let x = each e (contains_first e es) in
    let rest = all_some f es (λ y c. each y (contains_later y e es c)) in
    (x.0 ∷ rest.0, ap (λ o. all_given (o ∷ map f es)) x.1 ∙ ap (option_map (λ ys. x.0 ∷ ys)) rest.1)

module _ (metas : List MetaDesc) (program : Program) (sources models : List ModelData) (m : ModelData) (terms : List Term) (number : Numbering)
    (ground : Ground metas program sources models m terms number) where
  abbrev formed : IsWellFormed metas program
  formed = ground.over.evaluable.well

  abbrev Facts : Entry → Type 0
  Facts e = EntryFacts metas program formed ground.over.enforceable sources m terms ground.among e

  abbrev range : (n : ℕ) (called : Rel) → slice_get program.rels n ≡ Some called → (dom : Dom) → Contains called.domains dom → dom.root < length called.vars
  range n called is = (formed.numbers.relations called (contains_at program.rels n called is)).roots

  values_fit : (e : Entry) (f : Facts e) → IsEntry program sources e → AreFit program terms f.rel e.values
  values_fit e f is = binding_fit metas program formed ground.over.enforceable sources e.rel f.rel f.found f.is_towards f.roots e.values f.source m terms (ground.among e f.rel is f.found) f.roots_fit

  when_reads_of : (e : Entry) (f : Facts e) → IsEntry program sources e → (c : Values) → Reads program number e.values c
      → AreReadCalls program number (calls_in program sources (known e.values) f.rel.whens) (calls_of program models c f.rel.whens)
  when_reads_of e f is c reads =
      let rule = rule_of metas program formed ground.over.enforceable sources m terms ground.among e.rel f.rel f.found f.is_towards in
      clause_reads metas program formed sources models ground.over.others number e.rel f.rel f.found rule (known e.values) c (λ v. Unit {0}) (λ v any. one_at program number e.values c reads v)
      (scope_long (data_in e.values) ∙ data_long e.values ∙ sym reads.places ∙ sym (scope_long c)) (scope_at program number terms f.rel e.values c (values_fit e f is) reads) f.rel.whens
      (clause_read metas program formed sources models ground.over.others number e.rel f.rel f.found rule (known e.values) c (λ v. Unit {0}) (λ v any. one_at program number e.values c reads v)
      (scope_long (data_in e.values) ∙ data_long e.values ∙ sym reads.places ∙ sym (scope_long c)) (scope_at program number terms f.rel e.values c (values_fit e f is) reads) f.rel.whens
      (λ x there. inl there) range (λ n args x v there among_args alone. tt))

  where_reads_of : (e : Entry) (f : Facts e) → IsEntry program sources e → (c g : Values) → Reads program number e.values c → Target program models f.rel c g
      → Reads program number (entry_known program sources f.rel e.values).values g
      → AreReadCalls program number (calls_in program sources (entry_known program sources f.rel e.values) f.rel.wheres) (calls_of program models g f.rel.wheres)
  where_reads_of e f is c g reads target known_reads =
      let rule = rule_of metas program formed ground.over.enforceable sources m terms ground.among e.rel f.rel f.found f.is_towards in
      let k : Known = entry_known program sources f.rel e.values in
      let long : length (entry_scope program sources f.rel e.values) ≡ length (scope_of g) =
      scope_places program sources f.rel (scope_of (data_in e.values)) (scope_long (data_in e.values) ∙ data_long e.values ∙ f.source.places) (length f.rel.wheres)
      ∙ sym (scope_long g ∙ target.places) in
      let scope : (v : ℕ) → is_target_variable program f.rel v ≡ false
      → (variable (entry_scope program sources f.rel e.values) v ≡ variable (scope_of g) v) × HasNoTarget program.target (variable (entry_scope program sources f.rel e.values) v) =
      λ v outside. (
        ground.scopes e f.rel is f.found c g reads target v outside,
        scope_fit metas program formed ground.over.enforceable sources e.rel f.rel f.found f.is_towards f.roots e.values f.source m terms (ground.among e f.rel is f.found) f.roots_fit rule v,
      ) in
      clause_reads metas program formed sources models ground.over.others number e.rel f.rel f.found rule (entry_known program sources f.rel e.values) g (λ v. Unit {0})
      (λ v any. one_at program number (entry_known program sources f.rel e.values).values g known_reads v) long scope f.rel.wheres
      (clause_read metas program formed sources models ground.over.others number e.rel f.rel f.found rule (entry_known program sources f.rel e.values) g (λ v. Unit {0})
      (λ v any. one_at program number (entry_known program sources f.rel e.values).values g known_reads v) long scope f.rel.wheres
      (λ x there. inr there) range (λ n args x v there among_args alone. tt))

  -- the calls of an entry in its when clause, and those in its where clause with what it makes, are read as those of the bindings
  pub when_reads : (e : Entry) (rel : Rel) → IsEntry program sources e → slice_get program.rels e.rel ≡ Some rel → (c : Values) → Reads program number e.values c
      → AreReadCalls program number (calls_in program sources (known e.values) rel.whens) (calls_of program models c rel.whens)
  when_reads e rel is found c reads =
      let f = facts_of metas program sources models m terms number ground e is in
      subst (λ r. AreReadCalls program number (calls_in program sources (known e.values) r.whens) (calls_of program models c r.whens)) (same_called f.rel rel (sym f.found ∙ found))
      (when_reads_of e f is c reads)

  pub where_reads : (e : Entry) (rel : Rel) → IsEntry program sources e → slice_get program.rels e.rel ≡ Some rel → (c g : Values) → Reads program number e.values c → Target program models rel c g
      → Reads program number (entry_known program sources rel e.values).values g
      → AreReadCalls program number (calls_in program sources (entry_known program sources rel e.values) rel.wheres) (calls_of program models g rel.wheres)
  where_reads e rel is found c g reads target known_reads =
      let f = facts_of metas program sources models m terms number ground e is in
      let same : rel ≡ f.rel = sym (same_called f.rel rel (sym f.found ∙ found)) in
      subst (λ r. AreReadCalls program number (calls_in program sources (entry_known program sources r e.values) r.wheres) (calls_of program models g r.wheres)) (sym same)
      (where_reads_of e f is c g reads (subst (λ r. Target program models r c g) same target) (subst (λ r. Reads program number (entry_known program sources r e.values).values g) same known_reads))

  -- ---- each call of the where clause is made

  module _ (e : Entry) (rel : Rel) (is : IsEntry program sources e) (found : slice_get program.rels e.rel ≡ Some rel) where
    argument_given : (n : ℕ) (args : List Typed) → Contains rel.wheres (conjuncts.Call n args) → (x : Typed) → Contains args x
        → (y : TermValue) × (given_value program sources (entry_known program sources rel e.values) x ≡ Some y)
    argument_given n args within x there = by (variable_alone x) refl lacking
      where
        lacking : is_lacking program sources rel (entry_known program sources rel e.values) x ≡ false
        lacking =
            any_false (is_lacking program sources rel (entry_known program sources rel e.values)) args
            (wheres_met program sources rel (entry_known program sources rel e.values) (ground.met e rel is found) (conjuncts.Call n args) within) x there

        some_by : (o : Option TermValue) → is_none o ≡ false → (y : TermValue) × (o ≡ Some y)
        some_by None h = absurd (true≢false h)
        some_by (Some y) h = (y, refl)

        by : (o : Option ℕ) → variable_alone x ≡ o → (not (is_target_one program rel (variable_alone x)) && is_none (given_value program sources (entry_known program sources rel e.values) x)) ≡ false
            → (y : TermValue) × (given_value program sources (entry_known program sources rel e.values) x ≡ Some y)
        by (Some v) alone h =
            let var = argument_variable metas program sources models m terms number ground e.rel rel found n args x v (inr within) there alone in
            let y = ground.total e rel is found v (slice_get_within rel.vars v var.0 var.1) in
            (y.0, ap (given_by program sources (entry_known program sources rel e.values) x) alone ∙ y.1)
        by None alone h =
            some_by (given_value program sources (entry_known program sources rel e.values) x)
            (sym (ap (λ o. not (is_target_one program rel o) && is_none (given_value program sources (entry_known program sources rel e.values) x)) alone) ∙ h)

    call_made : (n : ℕ) (args : List Typed) → Contains rel.wheres (conjuncts.Call n args) → IsCallTyped metas program rel n args
        → (from : EntryName) × (named_call program sources (entry_known program sources rel e.values) n args ≡ Some from)
    call_made n args within typed =
        let xs = all_some (given_value program sources (entry_known program sources rel e.values)) args (argument_given n args within) in
        let from = made_by typed.called xs.0 in
        (from.0, ap (option_and_then (call_to n (slice_get program.rels n))) xs.1 ∙ ap (λ o. call_to n o xs.0) typed.found ∙ from.1)
      where
        made_by : (called : Rel) (xs : List TermValue) → (from : EntryName) × (call_to n (Some called) xs ≡ Some from)
        made_by called xs = (record { rel = n; roots = bound_roots called xs }, refl)

    none_left : (cs : List Conj) → ((c : Conj) → Contains cs c → Contains rel.wheres c) → Contains (calls_in program sources (entry_known program sources rel e.values) cs) None → ⊥
    none_left [] within (i, less, at) = omega (arith, less)
    none_left (conjuncts.Call n args ∷ cs) within (zero, less, at) =
        let there = within (conjuncts.Call n args) (contains_first (conjuncts.Call n args) cs) in
        let from = call_made n args there (typed_call metas program formed e.rel rel found n args (inr there)) in
        none_some from.0 (sym at ∙ from.1)
    none_left (conjuncts.Call n args ∷ cs) within (suc i, less, at) = none_left cs (λ c w. within c (contains_later c (conjuncts.Call n args) cs w)) (i, omega (arith, less), at)
    none_left (conjuncts.Cond x ∷ cs) within w = none_left cs (λ c there. within c (contains_later c (conjuncts.Cond x) cs there)) w
    none_left (conjuncts.Equation v x ∷ cs) within w = none_left cs (λ c there. within c (contains_later c (conjuncts.Equation v x) cs there)) w

    pub wheres_made : Contains (calls_in program sources (entry_known program sources rel e.values) rel.wheres) None → ⊥
    wheres_made w = none_left rel.wheres (λ c there. there) w

-- what is asked of each call that is read is asked of all, where each is made
pub all_asked : (asked : Asked) (program : Program) (number : Numbering) (os : List (Option EntryName)) (ps : List (Option RelationCall)) → AreReadCalls program number os ps
    → (Contains os None → ⊥) → ((from : EntryName) → Contains os (Some from) → (to : RelationCall) → ReadsCall program number from to → asked to) → AllAsked asked ps
all_asked asked program number [] [] reads made each = tt
all_asked asked program number [] (p ∷ ps) reads made each = absurd reads
all_asked asked program number (o ∷ os) [] reads made each = absurd reads
all_asked asked program number (None ∷ os) (p ∷ ps) reads made each = absurd (made (contains_first None os))
all_asked asked program number (Some from ∷ os) (None ∷ ps) reads made each = absurd reads.0
all_asked asked program number (Some from ∷ os) (Some to ∷ ps) reads made each = (
  each from (contains_first (Some from) os) to reads.0,
  all_asked asked program number os ps reads.1 (λ w. made (contains_later None (Some from) os w)) (λ d w. each d (contains_later (Some d) (Some from) os w)),
)

-- a call over the models is read from one of the entry's
pub read_call : (program : Program) (number : Numbering) (os : List (Option EntryName)) (ps : List (Option RelationCall)) → AreReadCalls program number os ps → (to : RelationCall)
    → Contains ps (Some to) → (from : EntryName) × Contains os (Some from) × ReadsCall program number from to
read_call program number os [] reads to (i, less, is) = absurd (omega (arith, less))
read_call program number [] (p ∷ ps) reads to within = absurd reads
read_call program number (None ∷ os) (None ∷ ps) reads to (zero, less, is) = absurd (none_some to is)
read_call program number (None ∷ os) (Some p ∷ ps) reads to (zero, less, is) = absurd reads.0
read_call program number (Some from ∷ os) (None ∷ ps) reads to (zero, less, is) = absurd reads.0
read_call program number (Some from ∷ os) (Some p ∷ ps) reads to (zero, less, is) =
    (from, contains_first (Some from) os, subst (ReadsCall program number from) (same_Some p to is) reads.0)
read_call program number (o ∷ os) (p ∷ ps) reads to (suc i, less, is) =
    let more = read_call program number os ps reads.1 to (i, omega (arith, less), is) in
    (more.0, contains_later (Some more.0) o os more.1, more.2)
