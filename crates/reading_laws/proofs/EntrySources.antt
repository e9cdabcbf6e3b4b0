-- A binding over the models that meets the source of a relation, and whose calls in the when clause match, is read from a binding of terms,
-- whose calls there have their entries.
use Rattle.std.specs.Prelude.{◌≡◌, ℕ, zero, suc, true, false, ◌&&◌, List, [], ◌∷◌, length, Option, None, Some, slice_get, Contains, IsTrue}
use Rattle.std.proofs.Common.{refl, sym, ap, subst, ◌∙◌, inl, arith}
use Rattle.std.proofs.lemmas.Bool.{and_parts}
use Rattle.mof_metamodel.specs.declared.desc.MetaDesc.{MetaDesc}
use Rattle.object_tables.specs.Models.{ModelData}
use Rattle.qv_syntax.specs.declared.typed.Typed.{Typed}
use Rattle.qv_syntax.specs.declared.program.Program.{Program}
use Rattle.qv_syntax.specs.declared.program.Rel.{Rel}
use Rattle.qv_syntax.specs.declared.program.Dom.{Dom}
use Rattle.qv_syntax.specs.declared.program.Var.{Var}
use Rattle.qv_syntax.specs.declared.program.Conj.{Conj}
use Rattle.qv_syntax.specs.Relations.{IsUniversal, OccursInClause}
use Rattle.qv_syntax.specs.Parts.{IsWithin}
use Rattle.qv_syntax.specs.ProgramTypes.{context_of, variables_of, typing_of, AreGiven}
use Rattle.qv_syntax.specs.WellFormed.{IsWellFormed}
use Rattle.qvtr_semantics.specs.declared.datum.Datum.{Datum}
use Rattle.qvtr_semantics.specs.Expressions.{variable, scope_of}
use Rattle.qvtr_semantics.specs.Templates.{Values, value_at}
use Rattle.qvtr_semantics.specs.Bindings.{meets_source, have_values, source_meets, conjunct_holds}
use Rattle.qvtr_semantics.specs.Calls.{call_of}
use Rattle.template_match.specs.Sources.{is_target_variable}
use Rattle.source_laws.specs.SourceValues.{HasNoTarget}
use Rattle.source_laws.proofs.RuleLaws.{mapped}
use Rattle.source_laws.proofs.RootLaws.{same_called, typed_call}
use Rattle.mof_metamodel.proofs.Facts.{contains_at}
use Rattle.repair_semantics.specs.declared.term.Term.{Term}
use Rattle.repair_semantics.specs.declared.term.TermValue.{TermValue}
use Rattle.repair_semantics.specs.declared.entry.Entry.{Entry}
use Rattle.repair_semantics.specs.declared.entry.EntryName.{EntryName}
use Rattle.repair_semantics.specs.EntryValues.{TermValues, value_of, known, variable_alone, data_in}
use Rattle.repair_semantics.specs.Making.{variables}
use Rattle.repair_semantics.specs.Entries.{IsUniversalTarget, TermSource, named_call, calls_in, AreMatches, IsEntry}
use Rattle.reading_laws.specs.Readings.{Numbering, read_value}
use Rattle.reading_laws.specs.ReadCalls.{IsReadCall}
use Rattle.reading_laws.proofs.CallValues.{ReadsOne, AreFit, data_long}
use Rattle.reading_laws.proofs.CallFits.{RootsFit, alone_is, clause_fits}
use Rattle.reading_laws.proofs.CallReads.{clause_read, scope_one}
use Rattle.reading_laws.proofs.EntryPicks.{IsAsked, binding, binding_fits, binding_reads, binding_asked, binding_source}
use Rattle.reading_laws.proofs.EntryGround.{Ground}
use Rattle.reading_laws.proofs.EntryMatches.{Matched, matched_term, when_matches}
use Rattle.std.specs.List.{list_all}
use Rattle.source_laws.specs.TargetRule.{HasConjunct, HandsTargetOn}
use Rattle.enforceable_sources.proofs.EnforceableLaws.{enforceable_hands_on}
use Rattle.source_laws.proofs.TypingLaws.{variable_typing}
use Rattle.qv_syntax.specs.TypedTrees.{Typing, IsTyped}
use Rattle.qv_syntax.specs.declared.program.Conj.TheVariants as conjuncts
use Rattle.repair_semantics.specs.declared.term.TermValue.TheVariants as values

pub scope_long : (c : Values) → length (scope_of c) ≡ length c
scope_long [] = refl
scope_long (o ∷ c) = ap suc (scope_long c)

module _ (metas : List MetaDesc) (program : Program) (sources models : List ModelData) (m : ModelData) (terms : List Term) (number : Numbering)
    (ground : Ground metas program sources models m terms number) where
  abbrev formed : IsWellFormed metas program
  formed = ground.over.evaluable.well

  rule_at : (place : ℕ) (rel : Rel) → slice_get program.rels place ≡ Some rel → rel.in_direction ≡ true → HandsTargetOn program rel
  rule_at place rel found towards = enforceable_hands_on metas program formed place rel ground.over.enforceable found towards

  -- a binding of terms of which this one is read
  pub record ReadSource (rel : Rel) (roots : TermValues) (c : Values) : Type 0 where
    pub b : TermValues
    pub fit : AreFit program terms rel b
    pub reads : (v : ℕ) → IsAsked program number terms rel roots c v → ReadsOne program number (value_of b v) (value_at c v)
    pub asked : (v : ℕ) (x : TermValue) → value_of b v ≡ Some x → IsAsked program number terms rel roots c v
    pub source : TermSource program sources rel roots b
    pub matches : List Entry
    pub are : AreMatches program (calls_in program sources (known b) rel.whens) matches
    pub entries : (e : Entry) → Contains matches e → IsEntry program sources e

  -- what is asked of a binding over the models, but for its calls
  pub record Given (place : ℕ) (rel : Rel) (roots : TermValues) (c : Values) : Type 0 where
    pub found : slice_get program.rels place ≡ Some rel
    pub towards : rel.in_direction ≡ true
    pub roots_fit : AreFit program terms rel roots
    pub roots_long : length roots ≡ length rel.vars
    pub long : length c ≡ length rel.vars
    pub roots_read : (v : ℕ) (x : TermValue) → value_of roots v ≡ Some x → ReadsOne program number (Some x) (value_at c v)
    pub others : (v : ℕ) (d : Datum) → value_at c v ≡ Some d → is_target_variable program rel v ≡ false → IsAsked program number terms rel roots c v
    pub meets : IsTrue (meets_source program models rel c)

  have_of : (rel : Rel) (c : Values) → IsTrue (meets_source program models rel c) → have_values program models rel rel.universal c ≡ true
  have_of rel c meets =
      let outer = and_parts (have_values program models rel rel.universal c && list_all (source_meets program models c) rel.domains) (list_all (conjunct_holds program models c) rel.whens) meets in
      (and_parts (have_values program models rel rel.universal c) (list_all (source_meets program models c) rel.domains) outer.0).0

  argument_typed : (rel called : Rel) (doms : List Dom) (es : List Typed) → AreGiven metas program rel called doms es → (x : Typed) → Contains es x
      → (t : Typing) × IsTyped (context_of metas program) (variables_of rel) x t
  argument_typed rel called [] [] given x (k, less, is) = absurd (omega (arith, less))
  argument_typed rel called [] (y ∷ es) given x c = absurd given
  argument_typed rel called (dom ∷ doms) [] given x c = absurd given
  argument_typed rel called (dom ∷ doms) (y ∷ es) given x (zero, less, is) =
      (given.0.2.typing, subst (λ z. IsTyped (context_of metas program) (variables_of rel) z given.0.2.typing) is given.0.2.typed)
  argument_typed rel called (dom ∷ doms) (y ∷ es) given x (suc k, less, is) = argument_typed rel called doms es given.1 x (k, omega (arith, less), is)

  pub argument_variable : (place : ℕ) (rel : Rel) → slice_get program.rels place ≡ Some rel → (n : ℕ) (args : List Typed) (e : Typed) (v : ℕ) → HasConjunct rel (conjuncts.Call n args) → Contains args e
      → variable_alone e ≡ Some v → (var : Var) × (slice_get rel.vars v ≡ Some var)
  argument_variable place rel found n args e v within there alone =
      let typed = typed_call metas program formed place rel found n args within in
      let one = argument_typed rel typed.called typed.called.domains args typed.given e there in
      let at = variable_typing (context_of metas program) (variables_of rel) e.ty v one.0 (subst (λ x. IsTyped (context_of metas program) (variables_of rel) x one.0) (alone_is e v alone) one.1) in
      let var = mapped typing_of rel.vars v one.0 at in
      (var.0, var.1)

  -- the variable of an argument alone in the when clause is universal
  asked_alone : (place : ℕ) (rel : Rel) → slice_get program.rels place ≡ Some rel → (n : ℕ) (args : List Typed) (e : Typed) (v : ℕ) → Contains rel.whens (conjuncts.Call n args) → Contains args e
      → variable_alone e ≡ Some v → Contains rel.universal v
  asked_alone place rel found n args e v within there alone =
      let at = argument_variable place rel found n args e v (inl within) there alone in
      ((formed.relations place rel found).variables.universal v at.0 at.1).1
      (IsUniversal.when (OccursInClause.expression (conjuncts.Call n args) e within there (e.ty, subst (λ x. IsWithin e x) (alone_is e v alone) (IsWithin.whole e))))

  module _ (place : ℕ) (rel : Rel) (roots : TermValues) (c : Values) (given : Given place rel roots c)
      (each : (n : ℕ) (args : List Typed) → Contains rel.whens (conjuncts.Call n args) → Matched metas program sources models m terms number ground c n args) where
    rule : HandsTargetOn program rel
    rule = rule_at place rel given.found given.towards

    term : (v : ℕ) → IsUniversalTarget program rel v → (t : Term) × Contains terms t × ((d : Datum) → value_at c v ≡ Some d → read_value program number (values.Term t) ≡ Some d)
    term = matched_term metas program sources models m terms number ground place rel given.found given.towards c (have_of rel c given.meets) each

    abbrev b : TermValues
    b = binding metas program formed sources models ground.over.others number terms place rel given.found rule roots given.roots_fit given.roots_long c given.long given.roots_read given.others given.meets term

    b_fit : AreFit program terms rel b
    b_fit = binding_fits metas program formed sources models ground.over.others number terms place rel given.found rule roots given.roots_fit given.roots_long c given.long given.roots_read given.others given.meets term

    b_reads : (v : ℕ) → IsAsked program number terms rel roots c v → ReadsOne program number (value_of b v) (value_at c v)
    b_reads = binding_reads metas program formed sources models ground.over.others number terms place rel given.found rule roots given.roots_fit given.roots_long c given.long given.roots_read given.others given.meets term

    b_asked : (v : ℕ) (x : TermValue) → value_of b v ≡ Some x → IsAsked program number terms rel roots c v
    b_asked = binding_asked metas program formed sources models ground.over.others number terms place rel given.found rule roots given.roots_fit given.roots_long c given.long given.roots_read given.others given.meets term

    b_source : TermSource program sources rel roots b
    b_source = binding_source metas program formed sources models ground.over.others number terms place rel given.found rule roots given.roots_fit given.roots_long c given.long given.roots_read given.others given.meets term

    -- in the scope of the binding the source variables are as they are read
    scope : (v : ℕ) → is_target_variable program rel v ≡ false → (variable (scope_of (data_in b)) v ≡ variable (scope_of c) v) × HasNoTarget program.target (variable (scope_of (data_in b)) v)
    scope v outside = scope_by (value_at c v) refl
      where
        scope_by : (o : Option Datum) → value_at c v ≡ o → (variable (scope_of (data_in b)) v ≡ variable (scope_of c) v) × HasNoTarget program.target (variable (scope_of (data_in b)) v)
        scope_by o at = scope_one program number terms rel b c b_fit v outside
            (pointwise (value_of b v) o refl at)
          where
            pointwise : (p : Option TermValue) (q : Option Datum) → value_of b v ≡ p → value_at c v ≡ q → ReadsOne program number (value_of b v) (value_at c v)
            pointwise (Some x) q is there = b_reads v (b_asked v x is)
            pointwise None (Some d) is there = b_reads v (given.others v d there outside)
            pointwise None None is there = subst (λ z. ReadsOne program number z (value_at c v)) (sym is) (subst (ReadsOne program number None) (sym there) tt)

    conjunct : (x : Conj) → Contains rel.whens x → HasConjunct rel x
    conjunct x there = inl there

    calls_read : (n : ℕ) (args : List Typed) → Contains rel.whens (conjuncts.Call n args) → IsReadCall program number (named_call program sources (known b) n args) (call_of program models c n args)
    calls_read =
        clause_read metas program formed sources models ground.over.others number place rel given.found rule (known b) c (λ v. Contains rel.universal v) (λ v there. b_reads v (inl there))
        (scope_long (data_in b) ∙ data_long b ∙ b_source.places ∙ sym (scope_long c ∙ given.long)) scope rel.whens conjunct
        (λ n called is. (formed.numbers.relations called (contains_at program.rels n called is)).roots) (asked_alone place rel given.found)

    calls_fit : (from : EntryName) → Contains (calls_in program sources (known b) rel.whens) (Some from) → (called : Rel) → slice_get program.rels from.rel ≡ Some called → RootsFit program terms called from
    calls_fit from there called at =
        let fits = clause_fits metas program formed sources terms place rel given.found rule (known b) b_fit (λ v outside. (scope v outside).1) rel.whens conjunct from there in
        subst (λ r. RootsFit program terms r from) (same_called fits.called called (sym fits.at ∙ at)) fits.roots_fit

    pub read_from : ReadSource rel roots c
    read_from =
        let all = when_matches metas program sources models m terms number ground place rel given.found given.towards c (have_of rel c given.meets) each b b_fit calls_read calls_fit in record {
          b = b;
          fit = b_fit;
          reads = b_reads;
          asked = b_asked;
          source = b_source;
          matches = all.matches;
          are = all.are;
          entries = all.entries;
        }
