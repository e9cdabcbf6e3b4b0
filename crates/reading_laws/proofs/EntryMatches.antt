-- The entries as which the calls in a when clause match, and the matches of a binding of terms.
use Rattle.std.specs.Prelude.{◌≡◌, ◌⊎◌, ◌<◌, ℕ, zero, suc, true, false, List, [], ◌∷◌, length, Option, None, Some, slice_get, Contains}
use Rattle.std.proofs.Common.{refl, sym, ap, subst, ◌∙◌, inl, inr, arith}
use Rattle.mof_metamodel.specs.declared.desc.MetaDesc.{MetaDesc}
use Rattle.object_tables.specs.Models.{ModelData}
use Rattle.qv_syntax.specs.declared.typed.Typed.{Typed}
use Rattle.qv_syntax.specs.declared.program.Program.{Program}
use Rattle.qv_syntax.specs.declared.program.Rel.{Rel}
use Rattle.qv_syntax.specs.declared.program.Dom.{Dom}
use Rattle.qv_syntax.specs.declared.program.Conj.{Conj}
use Rattle.qv_syntax.specs.WellFormed.{IsWellFormed}
use Rattle.qvtr_semantics.specs.declared.datum.Datum.{Datum}
use Rattle.qvtr_semantics.specs.Templates.{Values, value_at}
use Rattle.qvtr_semantics.specs.Bindings.{Extends, have_values}
use Rattle.qvtr_semantics.specs.Calls.{RelationCall, call_of}
use Rattle.template_match.proofs.ListLaws.{contains_later}
use Rattle.mof_metamodel.proofs.Facts.{contains_first}
use Rattle.enforcement_rules.specs.Calls.{IsTaken}
use Rattle.source_laws.specs.SourceValues.{IsOfSources}
use Rattle.source_laws.proofs.RootLaws.{alone_datum, same_called}
use Rattle.mof_metamodel.proofs.Facts.{contains_at}
use Rattle.repair_semantics.specs.declared.term.Term.{Term}
use Rattle.repair_semantics.specs.declared.term.TermValue.{TermValue}
use Rattle.repair_semantics.specs.declared.entry.Entry.{Entry}
use Rattle.repair_semantics.specs.declared.entry.EntryName.{EntryName}
use Rattle.repair_semantics.specs.EntryValues.{TermValues, value_of, root_values, known}
use Rattle.repair_semantics.specs.Making.{entry_known, made_values}
use Rattle.repair_semantics.specs.Entries.{IsUniversalTarget, named_call, calls_in, entry_values, roots_in, IsMatchFor, AreMatches, IsEntry}
use Rattle.reading_laws.specs.Readings.{Numbering, read_value, Reads, ReadsCall}
use Rattle.reading_laws.specs.ReadCalls.{IsReadCall}
use Rattle.reading_laws.proofs.CallValues.{val_or_term, val_read, ReadsOne, one_at, read_some, one_value, IsFit, AreFit}
use Rattle.std.proofs.lemmas.Option.{same_Some}
use Rattle.reading_laws.proofs.CallFits.{RootsFit}
use Rattle.reading_laws.proofs.CallData.{root_datum}
use Rattle.reading_laws.proofs.EntryFacts.{map_same_in, values_known, EntryFacts, facts, facts_known, roots_given}
use Rattle.reading_laws.proofs.EntryTargets.{target_value}
use Rattle.reading_laws.proofs.EntryGround.{Ground}
use Rattle.qv_syntax.specs.declared.program.Conj.TheVariants as conjuncts
use Rattle.repair_semantics.specs.declared.term.TermValue.TheVariants as values
use Rattle.reading_laws.proofs.CallMade.{to_rel, named_within}

module _ (metas : List MetaDesc) (program : Program) (sources models : List ModelData) (m : ModelData) (terms : List Term) (number : Numbering)
    (ground : Ground metas program sources models m terms number) where
  abbrev formed : IsWellFormed metas program
  formed = ground.over.evaluable.well

  abbrev Facts : Entry → Type 0
  Facts e = EntryFacts metas program formed ground.over.enforceable sources m terms ground.among e

  pub facts_of : (e : Entry) → IsEntry program sources e → Facts e
  facts_of e is = facts metas program formed ground.over.enforceable sources m terms ground.among e is

  pub fit_of : (e : Entry) (f : Facts e) → IsEntry program sources e → AreFit program terms f.rel (entry_known program sources f.rel e.values).values
  fit_of e f is = facts_known metas program formed ground.over.enforceable sources m terms ground.among e f is

  -- the entry as which a call in the when clause matches, with its partner
  pub record Matched (c : Values) (n : ℕ) (args : List Typed) : Type 0 where
    pub to : RelationCall
    pub made : call_of program models c n args ≡ Some to
    pub e : Entry
    pub is : IsEntry program sources e
    pub top : e.called ≡ false
    pub number_is : e.rel ≡ n
    pub rel : Rel
    pub found : slice_get program.rels e.rel ≡ Some rel
    pub g : Values
    pub reads : Reads program number (entry_known program sources rel e.values).values g
    pub extends : Extends to.roots g

  matched_facts : (c : Values) (n : ℕ) (args : List Typed) (x : Matched c n args) → AreFit program terms x.rel (entry_known program sources x.rel (x.e).values).values
  matched_facts c n args x =
      let f = facts_of x.e x.is in
      subst (λ r. AreFit program terms r (entry_known program sources r (x.e).values).values) (same_called f.rel x.rel (sym f.found ∙ x.found)) (fit_of x.e f x.is)

  module _ (place : ℕ) (rel : Rel) (found : slice_get program.rels place ≡ Some rel) (towards : rel.in_direction ≡ true) (c : Values)
      (have : have_values program models rel rel.universal c ≡ true)
      (each : (n : ℕ) (args : List Typed) → Contains rel.whens (conjuncts.Call n args) → Matched c n args) where
    -- ---- E9

    taken : (v : ℕ) → IsUniversalTarget program rel v → IsTaken program rel.whens v
    taken v u = ground.taken place rel found towards v u

    -- a universal variable for objects of the target has a term of a match
    pub matched_term : (v : ℕ) → IsUniversalTarget program rel v → (t : Term) × Contains terms t × ((d : Datum) → value_at c v ≡ Some d → read_value program number (values.Term t) ≡ Some d)
    matched_term v u = by (val_or_term y.0)
      where
        k : IsTaken program rel.whens v
        k = taken v u

        x : Matched c k.argument.number k.argument.args
        x = each k.argument.number k.argument.args k.argument.call

        d : (d : Datum) × (value_at c v ≡ Some d) × (IsOfSources program.target d → ⊥)
        d = target_value metas program formed models place rel found c v have u.universal u.target

        root : value_at (x.to).roots k.dom.root ≡ Some d.0
        root =
            root_datum program models c k.argument.number k.argument.args x.to k.called x.made k.argument.found k.argument.place k.dom k.e k.argument.of k.argument.argument
            (λ j z more after at has is. k.argument.last j z more after at has is)
            ((formed.numbers.relations k.called (contains_at program.rels k.argument.number k.called k.argument.found)).roots k.dom (contains_at k.called.domains k.argument.place k.dom k.argument.of))
            ∙ alone_datum program models c k.e k.alone.0 v k.alone.1 ∙ d.1

        y : (y : TermValue) × (value_of (entry_known program sources x.rel (x.e).values).values k.dom.root ≡ Some y) × (read_value program number y ≡ Some d.0)
        y = read_some program number (value_of (entry_known program sources x.rel (x.e).values).values k.dom.root) d.0
            (subst (ReadsOne program number (value_of (entry_known program sources x.rel (x.e).values).values k.dom.root)) (x.extends k.dom.root d.0 root)
            (one_at program number (entry_known program sources x.rel (x.e).values).values x.g x.reads k.dom.root))

        fit : IsFit program terms x.rel k.dom.root y.0
        fit = matched_facts c k.argument.number k.argument.args x k.dom.root y.0 y.1

        by : ((a : Datum) × (y.0 ≡ values.Val a)) ⊎ ((t : Term) × (y.0 ≡ values.Term t))
            → (t : Term) × Contains terms t × ((d : Datum) → value_at c v ≡ Some d → read_value program number (values.Term t) ≡ Some d)
        by (inl (a, same)) =
            let one : a ≡ d.0 = same_Some a d.0 (sym (val_read program number a) ∙ sym (ap (read_value program number) same) ∙ y.2) in
            absurd (d.2 (subst (IsOfSources program.target) one (fit.told.data_value a same)))
        by (inr (t, same)) = (t, fit.told.term t same, λ z at. sym (ap (read_value program number) same) ∙ y.2 ∙ ap (λ w. Some w) (same_Some d.0 z (sym d.1 ∙ at)))

    -- ---- the matches of a binding of terms

    module _ (b : TermValues) (b_fit : AreFit program terms rel b) (roots_of : (n : ℕ) (args : List Typed) → Contains rel.whens (conjuncts.Call n args)
        → IsReadCall program number (named_call program sources (known b) n args) (call_of program models c n args))
        (named_fit : (from : EntryName) → Contains (calls_in program sources (known b) rel.whens) (Some from) → (called : Rel) → slice_get program.rels from.rel ≡ Some called → RootsFit program terms called from) where
      one_root : (n : ℕ) (args : List Typed) (x : Matched c n args) (from : EntryName) (reads : ReadsCall program number from x.to) → RootsFit program terms x.rel from → slice_get program.rels from.rel ≡ Some x.rel
          → length (x.e).values ≡ length x.rel.vars → (x.e).made ≡ made_values program sources x.rel (x.e).values → (dom : Dom) → Contains x.rel.domains dom
          → value_of (entry_values x.e x.rel) dom.root ≡ value_of (root_values x.rel from.roots) dom.root
      one_root n args x from reads fits at long made dom there =
          values_known program sources x.e x.rel made long dom.root less ∙ y.1 ∙ ap (λ w. Some w) (sym same) ∙ sym z.1
        where
          less : dom.root < length x.rel.vars
          less = (formed.numbers.relations x.rel (contains_at program.rels (x.e).rel x.rel x.found)).roots dom there

          z : (z : TermValue) × (value_of (root_values x.rel from.roots) dom.root ≡ Some z)
          z = roots_given metas program formed ground.over.enforceable sources m terms ground.among x.rel from fits dom there

          d : (d : Datum) × (value_at (x.to).roots dom.root ≡ Some d) × (read_value program number z.0 ≡ Some d)
          d = (reads.roots x.rel at).given dom.root z.0 z.1

          y : (y : TermValue) × (value_of (entry_known program sources x.rel (x.e).values).values dom.root ≡ Some y) × (read_value program number y ≡ Some d.0)
          y = read_some program number (value_of (entry_known program sources x.rel (x.e).values).values dom.root) d.0
              (subst (ReadsOne program number (value_of (entry_known program sources x.rel (x.e).values).values dom.root)) (x.extends dom.root d.0 d.1)
              (one_at program number (entry_known program sources x.rel (x.e).values).values x.g x.reads dom.root))

          same : z.0 ≡ y.0
          same = one_value program number m terms ground.reading z.0 y.0 d.0 (fits.fit dom.root z.0 z.1).told (matched_facts c n args x dom.root y.0 y.1).told d.2 y.2

      match_for : (n : ℕ) (args : List Typed) (x : Matched c n args) (from : EntryName) → Contains rel.whens (conjuncts.Call n args) → named_call program sources (known b) n args ≡ Some from
          → ReadsCall program number from x.to → IsMatchFor program from x.e
      match_for n args x from within made reads =
          let number_is : (x.e).rel ≡ from.rel = x.number_is ∙ sym (to_rel program models c n args x.to x.made) ∙ reads.rel in
          let at : slice_get program.rels from.rel ≡ Some x.rel = ap (slice_get program.rels) (sym number_is) ∙ x.found in
          let fits = named_fit from (named_within program sources (known b) rel.whens n args from within made) x.rel at in
          let f = facts_of x.e x.is in
          let same : f.rel ≡ x.rel = same_called f.rel x.rel (sym f.found ∙ x.found) in
          let made_is : (x.e).made ≡ made_values program sources x.rel (x.e).values =
          ap (λ (e : Entry). e.made) f.is ∙ ap (λ r. made_values program sources r (x.e).values) same in
          let long : length (x.e).values ≡ length x.rel.vars = f.source.places ∙ ap (λ (r : Rel). length r.vars) same in
          record {
            top = x.top;
            has = record {
              rel = number_is;
              roots = ap (roots_in x.e) x.found
                  ∙ map_same_in (λ dom. value_of (entry_values x.e x.rel) dom.root) (λ dom. value_of (root_values x.rel from.roots) dom.root) x.rel.domains
                  (λ dom there. one_root n args x from reads fits at long made_is dom there)
                  ∙ fits.rooted;
            };
          }

      pub record AllMatched (cs : List Conj) : Type 0 where
        pub matches : List Entry
        pub are : AreMatches program (calls_in program sources (known b) cs) matches
        pub entries : (e : Entry) → Contains matches e → IsEntry program sources e

      all_matched : (cs : List Conj) → ((n : ℕ) (args : List Typed) → Contains cs (conjuncts.Call n args) → Contains rel.whens (conjuncts.Call n args)) → AllMatched cs
      all_matched [] within = record { matches = []; are = tt; entries = λ e c. absurd (nothing e c) }
        where
          nothing : (e : Entry) → Contains [] e → ⊥
          nothing e (k, less, is) = omega (arith, less)
      all_matched (conjuncts.Call n args ∷ cs) within =
          by (named_call program sources (known b) n args) refl
          (subst (IsReadCall program number (named_call program sources (known b) n args)) x.made (roots_of n args (within n args (contains_first (conjuncts.Call n args) cs))))
          (all_matched cs (λ k more there. within k more (contains_later (conjuncts.Call k more) (conjuncts.Call n args) cs there)))
        where
          x : Matched c n args
          x = each n args (within n args (contains_first (conjuncts.Call n args) cs))

          among_both : (es : List Entry) → ((e : Entry) → Contains es e → IsEntry program sources e) → (e : Entry) → Contains (x.e ∷ es) e → IsEntry program sources e
          among_both es rest e (zero, less, is) = subst (IsEntry program sources) is x.is
          among_both es rest e (suc k, less, is) = rest e (k, omega (arith, less), is)

          by : (o : Option EntryName) → named_call program sources (known b) n args ≡ o → IsReadCall program number o (Some x.to) → AllMatched cs → AllMatched (conjuncts.Call n args ∷ cs)
          by None made reads rest = absurd reads
          by (Some from) made reads rest = record {
            matches = x.e ∷ rest.matches;
            are = subst (λ o. AreMatches program (o ∷ calls_in program sources (known b) cs) (x.e ∷ rest.matches)) (sym made)
                (match_for n args x from (within n args (contains_first (conjuncts.Call n args) cs)) made reads, rest.are);
            entries = among_both rest.matches rest.entries;
          }
      all_matched (conjuncts.Cond e ∷ cs) within =
          let rest = all_matched cs (λ k more there. within k more (contains_later (conjuncts.Call k more) (conjuncts.Cond e) cs there)) in
          record { matches = rest.matches; are = rest.are; entries = rest.entries }
      all_matched (conjuncts.Equation v e ∷ cs) within =
          let rest = all_matched cs (λ k more there. within k more (contains_later (conjuncts.Call k more) (conjuncts.Equation v e) cs there)) in
          record { matches = rest.matches; are = rest.are; entries = rest.entries }

      pub when_matches : AllMatched rel.whens
      when_matches = all_matched rel.whens (λ n args there. there)
