-- The root of a match that a universal variable for objects of the target is: each stands alone as an argument of a call in the when clause.
use Rattle.std.specs.Prelude.{◌≡◌, ◌≢◌, ◌<◌, ℕ, Bool, true, false, List, map, length, Some, slice_get, Contains}
use Rattle.std.proofs.Common.{refl, ap, sym, ◌∙◌, subst, arith, true≢false}
use Rattle.std.proofs.lemmas.Option.{same_Some, slice_get_within}
use Rattle.mof_metamodel.specs.declared.desc.MetaDesc.{MetaDesc}
use Rattle.object_tables.specs.Models.{ModelData}
use Rattle.qv_syntax.specs.declared.typed.Typed.{Typed}
use Rattle.qv_syntax.specs.declared.program.Program.{Program}
use Rattle.qv_syntax.specs.declared.program.Rel.{Rel}
use Rattle.qv_syntax.specs.declared.program.Dom.{Dom}
use Rattle.qv_syntax.specs.declared.program.Conj.TheVariants as conjuncts
use Rattle.qv_syntax.specs.ProgramNumbers.{IsRelationInRange}
use Rattle.qv_syntax.specs.WellFormed.{IsWellFormed}
use Rattle.evaluation_laws.proofs.NavigationLaws.{among}
use Rattle.source_laws.proofs.BindingLaws as binding
use Rattle.enforcement_rules.specs.NumberSets.{is_among}
use Rattle.enforcement_rules.specs.CallTests.{taken_by_clause}
use Rattle.enforcement_rules.specs.Calls.{IsTargetArgument, IsVariable, IsTaken, HasUnmatchedCall}
use Rattle.enforcement_rules.specs.Rules.{Breaks, IsEnforceable}
use Rattle.enforcement_rules.proofs.CallLaws.{taken_there, there_taken}
use Rattle.enforcement_rules.proofs.ExpressionLaws.{is_alone}
use Rattle.enforcement_rules.proofs.KnownLaws.{listed_universal}
use Rattle.enforcement_rules.proofs.RuleLaws.{kept_by_each}
use Rattle.enforcement_rules.proofs.UnmadeLaws.{among_told, told_among}
use Rattle.repair_semantics.specs.declared.term.Term.{Term}
use Rattle.repair_semantics.specs.declared.term.TermValue.TheVariants as values
use Rattle.repair_semantics.specs.declared.entry.Entry.{Entry}
use Rattle.repair_semantics.specs.EntryValues.{TermValues, value_of, root_values, known, variable_alone, given_by}
use Rattle.repair_semantics.specs.Making.{entry_known}
use Rattle.repair_semantics.specs.Entries.{IsUniversalTarget, entry_values, roots_in, bound_roots, IsEntry, calls_in, AreMatches}
use Rattle.repair_laws.proofs.RootTerms.{IsLast, root_at, bound_mapped}
use Rattle.repair_laws.proofs.CallTerms.{alone_agrees, values_given, matched}
use Rattle.repair_laws.proofs.EntryTerms.{given_many, get_mapped, value_known}
use Rattle.repair_laws.proofs.TargetVariables.{target_variable}
use Rattle.mof_metamodel.proofs.Facts.{contains_at}

module _ (metas : List MetaDesc) (program : Program) (formed : IsWellFormed metas program) (enforceable : IsEnforceable metas program) (sources : List ModelData)
    (number : ℕ) (rel : Rel) (found : slice_get program.rels number ≡ Some rel) (direction : rel.in_direction ≡ true) (b : TermValues) (matches : List Entry)
    (whens : AreMatches program (calls_in program sources (known b) rel.whens) matches) (entries : (x : Entry) → Contains matches x → IsEntry program sources x) where
  -- the match, and the argument that is the variable alone
  pub record IsMatched (v : ℕ) (t : Term) : Type 0 where
    pub match : Entry
    pub among : Contains matches match
    pub callee : Rel
    pub found_callee : slice_get program.rels match.rel ≡ Some callee
    pub dom : Dom
    pub e : Typed
    pub argument : IsTargetArgument program rel.whens callee dom e
    pub alone : IsVariable e v
    pub root : value_of (entry_known program sources callee match.values).values dom.root ≡ Some (values.Term t)

  range_of : (place : ℕ) (r : Rel) → slice_get program.rels place ≡ Some r → IsRelationInRange metas program r
  range_of place r there = formed.numbers.relations r (contains_at program.rels place r there)

  taken : (v : ℕ) → IsUniversalTarget program rel v → IsTaken program rel.whens v
  taken v u = by (is_among (taken_by_clause program rel.whens) v) refl
    where
      by : (b : Bool) → is_among (taken_by_clause program rel.whens) v ≡ b → IsTaken program rel.whens v
      by true is = taken_there program rel.whens v (among_told (taken_by_clause program rel.whens) v is)
      by false is = absurd (kept_by_each metas program number 9 rel enforceable found direction (Breaks.e9 refl (HasUnmatchedCall.variable v
          (listed_universal metas program number rel (formed.relations number rel found) (range_of number rel found).vars v u.universal)
          (target_variable program rel v u.target)
          (λ t. true≢false (sym (told_among (taken_by_clause program rel.whens) v (there_taken program rel.whens v t)) ∙ is)))))

  by_call : (v : ℕ) (t : Term) (w : IsTaken program rel.whens v) → value_of b v ≡ Some (values.Term t) → IsMatched v t
  by_call v t w at =
      let a = w.argument in
      let (c, x, there, parts, match) = matched program sources (known b) rel.whens matches a.number a.args whens a.call in
      let one : parts.called ≡ w.called = same_Some parts.called w.called (sym parts.found ∙ a.found) in
      let lists = values_given program sources (known b) a.number a.args c parts in
      let (y, at_place, y_is) = lists.1 a.place w.e a.argument in
      let alone : variable_alone w.e ≡ Some v = alone_agrees w.e ∙ is_alone w.e w.alone.0 v w.alone.1 in
      let same : y ≡ values.Term t = same_Some y (values.Term t) (sym y_is ∙ ap (given_by program sources (known b) w.e) alone ∙ at) in
      let typed = (formed.typed.relations rel (contains_at program.rels number rel found)).whens (conjuncts.Call a.number a.args) a.call in
      let typed_one : typed.called ≡ w.called = same_Some typed.called w.called (sym typed.found ∙ a.found) in
      let many : length parts.xs ≡ length w.called.domains =
      lists.0 ∙ subst (λ (r : Rel). length a.args ≡ length r.domains) typed_one (given_many metas program rel typed.called typed.called.domains a.args typed.given) in
      let place : x.rel ≡ a.number = match.has.rel ∙ parts.rel in
      let callee_there : slice_get program.rels x.rel ≡ Some w.called = ap (slice_get program.rels) place ∙ a.found in
      let bound : c.roots ≡ bound_roots w.called parts.xs = parts.roots ∙ ap (λ r. bound_roots r parts.xs) one in
      let inside = (range_of a.number w.called a.found).roots in
      let listed : (i : ℕ) (d : Dom) → slice_get w.called.domains i ≡ Some d → Contains w.called.domains d = λ i d is. contains_at w.called.domains i d is in
      let has : map (λ (d : Dom). value_of (entry_values x w.called) d.root) w.called.domains ≡ map (λ (d : Dom). value_of (root_values w.called parts.xs) d.root) w.called.domains =
      sym (ap (roots_in x) callee_there) ∙ match.has.roots ∙ ap (map (λ z. Some z)) bound ∙ bound_mapped w.called inside listed parts.xs many in
      let last : IsLast w.called.domains parts.xs w.dom.root a.place = λ j other more less is at.
      let short : j < length a.args = (let l = slice_get_within parts.xs j more at in let same_length = lists.0 in omega (arith, l, same_length)) in
      let arg = binding.found_within a.args j short in
      a.last j other arg.0 less is arg.1 in
      let held : value_of (entry_values x w.called) w.dom.root ≡ Some y =
      same_Some (value_of (entry_values x w.called) w.dom.root) (value_of (root_values w.called parts.xs) w.dom.root)
      (sym (get_mapped (λ (d : Dom). value_of (entry_values x w.called) d.root) w.called.domains a.place w.dom a.of) ∙ ap (λ l. slice_get l a.place) has
      ∙ get_mapped (λ (d : Dom). value_of (root_values w.called parts.xs) d.root) w.called.domains a.place w.dom a.of)
      ∙ root_at w.called inside listed parts.xs a.place w.dom y a.of at_place last in
      record {
        match = x;
        among = there;
        callee = w.called;
        found_callee = callee_there;
        dom = w.dom;
        e = w.e;
        argument = a;
        alone = w.alone;
        root = value_known program sources x (entries x there) w.called callee_there w.dom.root (values.Term t) (held ∙ ap (λ z. Some z) same);
      }

  pub matched_root : (v : ℕ) (t : Term) → IsUniversalTarget program rel v → value_of b v ≡ Some (values.Term t) → IsMatched v t
  matched_root v t u at = by_call v t (taken v u) at
