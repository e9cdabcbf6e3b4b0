-- Over a target where the relations are satisfied each entry is read: its values are read as those of a binding that meets the source and whose
-- calls match, and all its values as those of a partner. A partner that isn't there is refuted only, so all is said under two negations.
use Rattle.std.specs.Prelude.{◌≡◌, ◌⊎◌, ◌<◌, ℕ, zero, suc, true, false, List, [], ◌∷◌, map, length, replicate, Option, None, Some, slice_get, Contains, if◌then◌else◌}
use Rattle.std.specs.List.{AllZip, filter_map}
use Rattle.std.specs.Option.{option_map, option_map_or, option_and_then}
use Rattle.std.proofs.Common.{refl, ap, sym, ◌∙◌, subst, arith, inl, inr, true≢false}
use Rattle.mof_metamodel.specs.declared.desc.MetaDesc.{MetaDesc}
use Rattle.object_tables.specs.Models.{ModelData}
use Rattle.qv_syntax.specs.declared.program.Program.{Program}
use Rattle.qv_syntax.specs.declared.program.Rel.{Rel}
use Rattle.qv_syntax.specs.WellFormed.{IsWellFormed}
use Rattle.enforcement_rules.specs.Rules.{IsEnforceable}
use Rattle.qvtr_semantics.specs.declared.limits.TheConstants.{MAX_CALLS}
use Rattle.qvtr_semantics.specs.declared.datum.Datum.{Datum}
use Rattle.qvtr_semantics.specs.Objects.{object_datum}
use Rattle.qvtr_semantics.specs.Templates.{Values, value_at}
use Rattle.qvtr_semantics.specs.Calls.{RelationCall, SourceMatches, TargetHolds, AllAsked, Of, Match, HoldsFor, calls_of, free}
use Rattle.qvtr_semantics.specs.Satisfaction.{IsTop, Satisfied}
use Rattle.template_match.proofs.ListLaws.{contains_later}
use Rattle.mof_metamodel.proofs.Facts.{contains_first}
use Rattle.repair_semantics.specs.declared.term.Term.{Term}
use Rattle.repair_semantics.specs.declared.term.TermValue.{TermValue, out-TermValue, roll-TermValue, roll-out-TermValue, out-roll-TermValue}
use Rattle.repair_semantics.specs.declared.term.TermValue.TheVariants as values
use Rattle.repair_semantics.specs.declared.term.TermValue.TheOpen as of
use Rattle.repair_semantics.specs.declared.entry.Entry.{Entry}
use Rattle.repair_semantics.specs.declared.entry.EntryName.{EntryName}
use Rattle.repair_semantics.specs.Terms.{term_in, term_part}
use Rattle.repair_semantics.specs.EntryValues.{TermValues, value_of, term_of, no_values, root_values, Known, known}
use Rattle.repair_semantics.specs.Making.{entry_known}
use Rattle.repair_semantics.specs.Entries.{IsUniversalTarget, TermSource, AreMatches, IsMatchFor, calls_in, calls_where, entry_calls, IsEntryWith, IsEntry}
use Rattle.reading_laws.specs.Readings.{Numbering, read_part, read_value, Reads, ReadsCall}
use Rattle.reading_laws.specs.ReadCalls.{IsReadCall}
use Rattle.repair_laws.proofs.MatchLaws.{matched}
use Rattle.repair_laws.specs.EntryReadings.{IsReadAs, AreEntriesRead}

-- ---- what can't be refuted

abbrev pub NotNot : Type 0 → Type 0
NotNot X = (X → ⊥) → ⊥

pub then_so : {X Y : Type 0} → NotNot X → (X → NotNot Y) → NotNot Y
then_so x f k = x (λ a. f a k)

-- ---- values as they are read

put_term : (x : TermValue) (t : Term) → term_in x ≡ Some t → x ≡ values.Term t
put_term x t is = by (out-TermValue x) refl is
  where
    by : (l : of.TermValue-F TermValue Term) → out-TermValue x ≡ l → term_part l ≡ Some t → x ≡ values.Term t
    by (of.Val d) e h = absurd (cc)
    by (of.Term u) e h = let one : u ≡ t = cc in sym (roll-out-TermValue x) ∙ ap roll-TermValue e ∙ values.rolls-Term u ∙ ap (λ z. values.Term z) one

pub term_value : (b : TermValues) (v : ℕ) (t : Term) → term_of b v ≡ Some t → value_of b v ≡ Some (values.Term t)
term_value b v t is = by (value_of b v) is
  where
    by : (o : Option TermValue) → option_and_then term_in o ≡ Some t → o ≡ Some (values.Term t)
    by None h = absurd (cc)
    by (Some x) h = ap (λ z. Some z) (put_term x t h)

module _ (program : Program) (number : Numbering) where
  read_at : (b : TermValues) (v : ℕ) → value_at (map (option_and_then (read_value program number)) b) v ≡ option_and_then (read_value program number) (value_of b v)
  read_at [] v = refl
  read_at (o ∷ b) zero = refl
  read_at (o ∷ b) (suc v) = read_at b v

  long_as : (b : TermValues) → length (map (option_and_then (read_value program number)) b) ≡ length b
  long_as [] = refl
  long_as (o ∷ b) = ap suc (long_as b)

  is_read : (x : TermValue) → ((t : Term) → term_in x ≡ Some t → (n : ℕ) × (number t ≡ Some n)) → (d : Datum) × (read_value program number x ≡ Some d)
  is_read x have = by (out-TermValue x) have
    where
      by : (l : of.TermValue-F TermValue Term) → ((t : Term) → term_part l ≡ Some t → (n : ℕ) × (number t ≡ Some n)) → (d : Datum) × (read_part program number l ≡ Some d)
      by (of.Val d) h = (d, refl)
      by (of.Term t) h = let n = h t refl in (object_datum program.target n.0, ap (option_map (λ k. object_datum program.target k)) n.1)

  -- values whose terms have objects can be read
  pub reading_of : (b : TermValues) → ((v : ℕ) (t : Term) → term_of b v ≡ Some t → (n : ℕ) × (number t ≡ Some n)) → (c : Values) × Reads program number b c
  reading_of b have = (
    map (option_and_then (read_value program number)) b,
    record {
      places = long_as b;
      given = λ v x is.
          let d = is_read x (λ t e. have v t (ap (option_and_then term_in) is ∙ e)) in
          (d.0, read_at b v ∙ ap (option_and_then (read_value program number)) is ∙ d.1, d.1);
      none = λ v is. read_at b v ∙ ap (option_and_then (read_value program number)) is;
    },
  )

  -- a term that is read has an object
  pub read_term : (b : TermValues) (c : Values) (v : ℕ) (t : Term) → Reads program number b c → value_of b v ≡ Some (values.Term t) → (n : ℕ) × (number t ≡ Some n)
  read_term b c v t reads is =
      let given = reads.given v (values.Term t) is in
      let out : out-TermValue (values.Term t) ≡ of.Term t = ap out-TermValue (sym (values.rolls-Term t)) ∙ out-roll-TermValue (of.Term t) in
      by (number t) refl (sym (ap (read_part program number) out) ∙ given.2)
    where
      by : {d : Datum} (o : Option ℕ) → number t ≡ o → option_map (λ n. object_datum program.target n) o ≡ Some d → (n : ℕ) × (number t ≡ Some n)
      by None e h = absurd (cc)
      by (Some n) e h = (n, e)

  nothing_at : (n v : ℕ) → value_of (replicate n None) v ≡ None
  nothing_at zero v = refl
  nothing_at (suc n) zero = refl
  nothing_at (suc n) (suc v) = nothing_at n v

  no_term : (rel : Rel) (v : ℕ) (t : Term) → value_of (no_values rel) v ≡ Some (values.Term t) → ⊥
  no_term rel v t is = let none = nothing_at (length rel.vars) v in cc

module _ (metas : List MetaDesc) (program : Program) (models : List ModelData) (number : Numbering) (well : IsWellFormed metas program) (enforceable : IsEnforceable metas program)
    (satisfied : Satisfied program models) (laws : AreEntriesRead program models number)
  where
    -- ---- an entry that is read

    pub record IsRead (e : Entry) (rel : Rel) : Type 0 where
      pub c : Values
      pub g : Values
      pub calls : ℕ
      pub reads : IsReadAs program models number e rel c g
      pub holds : TargetHolds (HoldsFor program models calls) program models rel c g
      pub source : e.called ≡ false → SourceMatches (Match program models) program models rel (free rel) c
      pub top : e.called ≡ false → calls ≡ MAX_CALLS

    pub record Found (e : Entry) : Type 0 where
      pub rel : Rel
      pub is : slice_get program.rels e.rel ≡ Some rel
      pub read : IsRead e rel

    abbrev AllFound : List Entry → Type 0
    AllFound [] = Unit {0}
    AllFound (e ∷ es) = Found e × AllFound es

    all_found : (es : List Entry) → ((f : Entry) → Contains es f → NotNot (Found f)) → NotNot (AllFound es)
    all_found [] each = λ k. k tt
    all_found (e ∷ es) each =
        let rest : NotNot (AllFound es) = all_found es (λ f c. each f (contains_later f e es c)) in
        then_so (each e (contains_first e es)) (λ here. then_so rest (λ more k. k (here, more)))

    found_at : (es : List Entry) → AllFound es → (f : Entry) → Contains es f → Found f
    found_at [] all f (k, within, is) = absurd (omega (arith, within))
    found_at (e ∷ es) all f (zero, within, is) = subst Found is all.0
    found_at (e ∷ es) all f (suc k, within, is) = found_at es all.1 f (k, omega (arith, within), is)

    -- ---- matches

    one_rel : (a b : Rel) (o : Option Rel) → o ≡ Some a → o ≡ Some b → a ≡ b
    one_rel a b o x y = cc

    match_found : (f : Entry) (call : EntryName) (to : RelationCall) → IsEntry program models f → Found f → IsMatchFor program call f → ReadsCall program number call to → Match program models to
    match_found f call to is found match reads =
        let r = found.read in
        matched metas program models number well f found.rel call to r.c r.g (record { is = is; found = found.is }) match reads r.reads enforceable (r.source match.top)
        (subst (λ n. TargetHolds (HoldsFor program models n) program models found.rel r.c r.g) (r.top match.top) r.holds)

    all_match : (cs : List (Option EntryName)) (es : List Entry) (ds : List (Option RelationCall)) → AreMatches program cs es → AllFound es
        → ((f : Entry) → Contains es f → IsEntry program models f) → AllZip (IsReadCall program number) cs ds → AllAsked (Match program models) ds
    all_match [] es [] match found are zip = tt
    all_match [] es (d ∷ ds) match found are zip = absurd zip
    all_match (c ∷ cs) es [] match found are zip = absurd zip
    all_match (None ∷ cs) es (d ∷ ds) match found are zip = absurd match
    all_match (Some c ∷ cs) [] (d ∷ ds) match found are zip = absurd match
    all_match (Some c ∷ cs) (e ∷ es) (None ∷ ds) match found are zip = absurd zip.0
    all_match (Some c ∷ cs) (e ∷ es) (Some d ∷ ds) match found are zip =
        (match_found e c d (are e (contains_first e es)) found.0 match.0 zip.0, all_match cs es ds match.1 found.1 (λ f k. are f (contains_later f e es k)) zip.1)

    -- each term of an entry's values has an object, where the roots that are handed on are read
    terms_read : (e : Entry) (rel : Rel) (roots : TermValues) (matches : List Entry) → IsEntry program models e → slice_get program.rels e.rel ≡ Some rel
        → TermSource program models rel roots e.values → AreMatches program (calls_in program models (known e.values) rel.whens) matches
        → ((f : Entry) → Contains matches f → IsEntry program models f) → AllFound matches
        → ((v : ℕ) (t : Term) → value_of roots v ≡ Some (values.Term t) → (n : ℕ) × (number t ≡ Some n))
        → (v : ℕ) (t : Term) → term_of e.values v ≡ Some t → (n : ℕ) × (number t ≡ Some n)
    terms_read e rel roots matches is found source match are all handed v t has = by (source.no_others v t (term_value e.values v t has))
      where
        at_match : (f : Entry) (other : Rel) (w : ℕ) → Found f → slice_get program.rels f.rel ≡ Some other → value_of (entry_known program models other f.values).values w ≡ Some (values.Term t)
            → (n : ℕ) × (number t ≡ Some n)
        at_match f other w own same at =
            let one : own.rel ≡ other = one_rel own.rel other (slice_get program.rels f.rel) own.is same in
            read_term program number (entry_known program models own.rel f.values).values own.read.g w t own.read.reads.all
            (ap (λ r. value_of (entry_known program models r f.values).values w) one ∙ at)

        by : IsUniversalTarget program rel v ⊎ (value_of roots v ≡ Some (values.Term t)) → (n : ℕ) × (number t ≡ Some n)
        by (inr at) = handed v t at
        by (inl universal) =
            let own = laws.universal e rel matches v t (record { is = is; found = found }) match are universal (term_value e.values v t has) in
            at_match own.f own.rel own.v (found_at matches all own.f own.among) own.found own.at

    -- ---- top entries

    abbrev IsKnownRead : Entry → Rel → Type 0
    IsKnownRead e rel = (c : Values) × Reads program number e.values c × AllAsked (Match program models) (calls_of program models c rel.whens)

    -- the values of an entry are read, and its calls in the when clause match
    whens_match : (e : Entry) (rel : Rel) (roots : TermValues) (matches : List Entry) → IsEntry program models e → slice_get program.rels e.rel ≡ Some rel
        → TermSource program models rel roots e.values → AreMatches program (calls_in program models (known e.values) rel.whens) matches
        → ((f : Entry) → Contains matches f → IsEntry program models f) → AllFound matches
        → ((v : ℕ) (t : Term) → value_of roots v ≡ Some (values.Term t) → (n : ℕ) × (number t ≡ Some n)) → IsKnownRead e rel
    whens_match e rel roots matches is found source match are all handed =
        let read = reading_of program number e.values (terms_read e rel roots matches is found source match are all handed) in (
          read.0,
          read.1,
          all_match (calls_in program models (known e.values) rel.whens) matches (calls_of program models read.0 rel.whens) match all are (laws.whens e rel read.0 (record { is = is; found = found }) read.1),
        )

    top_found : (e : Entry) (place : ℕ) (rel : Rel) (matches : List Entry) → IsEntry program models e → IsTop program place rel
        → IsEntryWith program models place rel false (no_values rel) matches e → ((f : Entry) → Contains matches f → IsEntry program models f) → AllFound matches → NotNot (Found e)
    top_found e place rel matches entry top is are all =
        let same : e.rel ≡ place = ap (λ (x : Entry). x.rel) is.is in
        let uncalled : e.called ≡ false = ap (λ (x : Entry). x.called) is.is in
        let found : slice_get program.rels e.rel ≡ Some rel = ap (slice_get program.rels) same ∙ top.is in
        let read : IsKnownRead e rel = whens_match e rel (no_values rel) matches entry found is.source is.whens are all (λ v t at. absurd (no_term program number rel v t at)) in
        let source : SourceMatches (Match program models) program models rel (free rel) read.0 =
        record { source = laws.top_source e rel read.0 (record { is = entry; found = found }) uncalled read.1; whens = read.2 } in
        λ k. satisfied place read.0 (record {
          rel = rel;
          top = top;
          source = source;
          alone = λ g holds. k (record {
            rel = rel;
            is = found;
            read = record {
              c = read.0;
              g = g;
              calls = MAX_CALLS;
              reads = laws.partners e rel read.0 g (record { is = entry; found = found }) read.1 holds.target;
              holds = holds;
              source = λ _. source;
              top = λ _. refl;
            };
          });
        })

    -- ---- entries that are called

    some_in : (cs : List (Option EntryName)) (c : EntryName) → Contains (filter_map (λ x. x) cs) c → Contains cs (Some c)
    some_in [] c (k, within, is) = absurd (omega (arith, within))
    some_in (None ∷ cs) c has = contains_later (Some c) None cs (some_in cs c has)
    some_in (Some d ∷ cs) c (zero, within, is) = subst (λ x. Contains (Some x ∷ cs) (Some c)) (sym is) (contains_first (Some c) cs)
    some_in (Some d ∷ cs) c (suc k, within, is) = contains_later (Some c) (Some d) cs (some_in cs c (k, omega (arith, within), is))

    call_at : (from : Entry) (rel : Rel) (call : EntryName) → IsEntry program models from → slice_get program.rels from.rel ≡ Some rel → Contains (entry_calls program models from) call
        → Contains (calls_in program models (entry_known program models rel from.values) rel.wheres) (Some call)
    call_at from rel call is found has =
        let k : Known = entry_known program models rel from.values in
        let here : Contains (calls_where program models rel k) call =
        subst (λ o. Contains (option_map_or (λ r. calls_where program models r (entry_known program models r from.values)) o []) call) found has in
        some_in (calls_in program models k rel.wheres) call
        (subst (λ b. Contains (if b then [] else filter_map (λ c. c) (calls_in program models k rel.wheres)) call) (laws.met from rel (record { is = is; found = found })) here)

    abbrev IsAskedAs : (RelationCall → Type 0) → EntryName → Type 0
    IsAskedAs asked call = (to : RelationCall) × ReadsCall program number call to × asked to

    asked_at : (asked : RelationCall → Type 0) (cs : List (Option EntryName)) (ds : List (Option RelationCall)) (call : EntryName) → AllZip (IsReadCall program number) cs ds → AllAsked asked ds
        → Contains cs (Some call) → IsAskedAs asked call
    asked_at asked [] ds call zip all (k, within, is) = absurd (omega (arith, within))
    asked_at asked (c ∷ cs) [] call zip all has = absurd zip
    asked_at asked (c ∷ cs) (None ∷ ds) call zip all has = absurd all
    asked_at asked (c ∷ cs) (Some to ∷ ds) call zip all (zero, within, is) = (to, subst (λ x. IsReadCall program number x (Some to)) is zip.0, all.0)
    asked_at asked (c ∷ cs) (Some to ∷ ds) call zip all (suc k, within, is) = asked_at asked cs ds call zip.1 all.1 (k, omega (arith, within), is)

    partner_for : (n : ℕ) (call : EntryName) (rel : Rel) (to : RelationCall) (c : Values) → slice_get program.rels call.rel ≡ Some rel → to.rel ≡ call.rel → HoldsFor program models n to
        → SourceMatches (Match program models) program models rel to.roots c → (k : ℕ) × (g : Values) × TargetHolds (HoldsFor program models k) program models rel c g
    partner_for zero call rel to c found same holds source = absurd holds
    partner_for (suc n) call rel to c found same holds source =
        let here : (b : Values) → SourceMatches (Match program models) program models rel to.roots b → (g : Values) × TargetHolds (HoldsFor program models n) program models rel b g =
        subst (λ o. Of o (λ r. (b : Values) → SourceMatches (Match program models) program models r to.roots b → (g : Values) × TargetHolds (HoldsFor program models n) program models r b g))
        (ap (slice_get program.rels) same ∙ found) holds in
        let partner = here c source in
        (n, partner.0, partner.1)

    called_found : (e from : Entry) (call : EntryName) (rel : Rel) (matches : List Entry) → IsEntry program models e → IsEntry program models from
        → Contains (entry_calls program models from) call → slice_get program.rels call.rel ≡ Some rel → IsEntryWith program models call.rel rel true (root_values rel call.roots) matches e
        → ((f : Entry) → Contains matches f → IsEntry program models f) → AllFound matches → Found from → Found e
    called_found e from call rel matches entry caller has found is are all own =
        let r = own.read in
        let same : e.rel ≡ call.rel = ap (λ (x : Entry). x.rel) is.is in
        let called : e.called ≡ true = ap (λ (x : Entry). x.called) is.is in
        let here : slice_get program.rels e.rel ≡ Some rel = ap (slice_get program.rels) same ∙ found in
        let (to, reads, holds) = asked_at (HoldsFor program models r.calls) (calls_in program models (entry_known program models own.rel from.values) own.rel.wheres)
        (calls_of program models r.g own.rel.wheres) call (laws.wheres from own.rel r.c r.g (record { is = caller; found = own.is }) r.reads) r.holds.wheres (call_at from own.rel call caller own.is has) in
        let handed = reads.roots rel (ap (slice_get program.rels) refl ∙ found) in
        let read : IsKnownRead e rel =
        whens_match e rel (root_values rel call.roots) matches entry here is.source is.whens are all (λ v t at. read_term program number (root_values rel call.roots) to.roots v t handed at) in
        let source : SourceMatches (Match program models) program models rel to.roots read.0 =
        record { source = laws.called_source from e call rel to read.0 caller has (record { is = entry; found = here }) found is.source reads read.1; whens = read.2 } in
        let (k, g, target) = partner_for r.calls call rel to read.0 found reads.rel holds source in record {
          rel = rel;
          is = here;
          read = record {
            c = read.0;
            g = g;
            calls = k;
            reads = laws.partners e rel read.0 g (record { is = entry; found = here }) read.1 target.target;
            holds = target;
            source = λ top. absurd (true≢false (sym called ∙ top));
            top = λ top. absurd (true≢false (sym called ∙ top));
          };
        }

    -- each entry is read
    pub entry_found : (e : Entry) → IsEntry program models e → NotNot (Found e)
    entry_found _ (IsEntry.of_top e place rel matches top is are) =
        then_so (all_found matches (λ f c. entry_found f (are f c))) (top_found e place rel matches (IsEntry.of_top e place rel matches top is are) top is are)
    entry_found _ (IsEntry.of_call e from call rel matches caller has found is are) =
        then_so (entry_found from caller) (λ own. then_so (all_found matches (λ f c. entry_found f (are f c))) (λ all k.
        k (called_found e from call rel matches (IsEntry.of_call e from call rel matches caller has found is are) caller has found is are all own)))
