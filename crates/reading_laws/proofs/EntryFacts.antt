-- What each entry is: a binding of a relation of the direction, whose values and roots fit.
use Rattle.std.specs.Prelude.{◌≡◌, ◌<◌, ℕ, zero, suc, Bool, true, false, List, [], ◌∷◌, map, length, Option, None, Some, is_some, slice_get, Contains, if◌then◌else◌}
use Rattle.std.specs.List.{filter_map}
use Rattle.std.specs.Option.{option_and_then, option_or, option_map_or}
use Rattle.std.proofs.Common.{refl, sym, ap, subst, ◌∙◌, inr, arith}
use Rattle.mof_metamodel.specs.declared.desc.MetaDesc.{MetaDesc}
use Rattle.object_tables.specs.Models.{ModelData}
use Rattle.qv_syntax.specs.declared.typed.Typed.{Typed}
use Rattle.qv_syntax.specs.declared.program.Program.{Program}
use Rattle.qv_syntax.specs.declared.program.Rel.{Rel}
use Rattle.qv_syntax.specs.declared.program.Dom.{Dom}
use Rattle.qv_syntax.specs.declared.program.Conj.{Conj}
use Rattle.qv_syntax.specs.Relations.{CallsIn}
use Rattle.qv_syntax.specs.WellFormed.{IsWellFormed}
use Rattle.qvtr_semantics.specs.Outs.{all_given}
use Rattle.template_match.proofs.ListLaws.{contains_later}
use Rattle.mof_metamodel.proofs.Facts.{contains_first}
use Rattle.enforcement_rules.specs.Rules.{IsEnforceable}
use Rattle.source_laws.specs.TargetRule.{HandsTargetOn}
use Rattle.source_laws.proofs.RootLaws.{same_called}
use Rattle.enforceable_sources.proofs.EnforceableLaws.{enforceable_hands_on}
use Rattle.repair_semantics.specs.declared.term.Term.{Term}
use Rattle.repair_semantics.specs.declared.term.TermValue.{TermValue}
use Rattle.repair_semantics.specs.declared.entry.Entry.{Entry}
use Rattle.repair_semantics.specs.declared.entry.EntryName.{EntryName}
use Rattle.repair_semantics.specs.EntryValues.{TermValues, Known, value_of, no_values, root_values, given_value}
use Rattle.repair_semantics.specs.Making.{entry_known, made_values}
use Rattle.repair_semantics.specs.Unmet.{is_unmet}
use Rattle.repair_semantics.specs.Entries.{TermSource, call_to, named_call, calls_in, entry_of, entry_values, calls_where, entry_calls, IsEntry}
use Rattle.reading_laws.specs.Readings.{HasTermsAmong}
use Rattle.reading_laws.proofs.CallValues.{none_some, AreFit}
use Rattle.std.proofs.lemmas.Option.{same_Some}
use Rattle.reading_laws.proofs.CallFits.{none_fit, RootsFit, rooted_at, clause_fits}
use Rattle.reading_laws.proofs.EntryKnown.{variables_at, known_extends, known_fit, scope_fit}
use Rattle.qv_syntax.specs.declared.program.Conj.TheVariants as conjuncts

-- ---- calls of clauses

pub map_same_in : {X Y : Type 0} (f g : X → Y) (xs : List X) → ((x : X) → Contains xs x → f x ≡ g x) → map f xs ≡ map g xs
map_same_in f g [] h = refl
map_same_in f g (x ∷ xs) h = ap (λ y. y ∷ map f xs) (h x (contains_first x xs)) ∙ ap (λ ys. g x ∷ ys) (map_same_in f g xs (λ y c. h y (contains_later y x xs c)))

named_rel : (program : Program) (sources : List ModelData) (k : Known) (n : ℕ) (args : List Typed) (from : EntryName) → named_call program sources k n args ≡ Some from → from.rel ≡ n
named_rel program sources k n args from is = by (slice_get program.rels n) (all_given (map (given_value program sources k) args)) is
  where
    by : (q : Option Rel) (o : Option (List TermValue)) → option_and_then (call_to n q) o ≡ Some from → from.rel ≡ n
    by q None h = absurd (none_some from h)
    by None (Some xs) h = absurd (none_some from h)
    by (Some called) (Some xs) h = sym (ap (λ (c : EntryName). c.rel) (some_name h))
      where
        some_name : {a : EntryName} → Some a ≡ Some from → a ≡ from
        some_name {a} k = same_Some a from k

pub clause_calls : (program : Program) (sources : List ModelData) (k : Known) (clause : List Conj) (from : EntryName) → Contains (calls_in program sources k clause) (Some from) → CallsIn clause from.rel
clause_calls program sources k [] from (i, less, is) = absurd (omega (arith, less))
clause_calls program sources k (conjuncts.Call n args ∷ cs) from (zero, less, is) =
    (args, subst (λ r. Contains (conjuncts.Call n args ∷ cs) (conjuncts.Call r args)) (sym (named_rel program sources k n args from is)) (contains_first (conjuncts.Call n args) cs))
clause_calls program sources k (conjuncts.Call n args ∷ cs) from (suc i, less, is) =
    let more = clause_calls program sources k cs from (i, omega (arith, less), is) in
    (more.0, contains_later (conjuncts.Call from.rel more.0) (conjuncts.Call n args) cs more.1)
clause_calls program sources k (conjuncts.Cond e ∷ cs) from within =
    let more = clause_calls program sources k cs from within in (more.0, contains_later (conjuncts.Call from.rel more.0) (conjuncts.Cond e) cs more.1)
clause_calls program sources k (conjuncts.Equation v e ∷ cs) from within =
    let more = clause_calls program sources k cs from within in (more.0, contains_later (conjuncts.Call from.rel more.0) (conjuncts.Equation v e) cs more.1)

-- the calls that are made are among those of the clause
made_in : (os : List (Option EntryName)) (c : EntryName) → Contains (filter_map (λ o. o) os) c → Contains os (Some c)
made_in [] c (i, less, is) = absurd (omega (arith, less))
made_in (None ∷ os) c within = contains_later (Some c) None os (made_in os c within)
made_in (Some d ∷ os) c (zero, less, is) = subst (λ z. Contains (Some d ∷ os) (Some z)) is (contains_first (Some d) os)
made_in (Some d ∷ os) c (suc i, less, is) = contains_later (Some c) (Some d) os (made_in os c (i, omega (arith, less), is))

pub in_made : (os : List (Option EntryName)) (c : EntryName) → Contains os (Some c) → Contains (filter_map (λ o. o) os) c
in_made [] c (i, less, is) = absurd (omega (arith, less))
in_made (None ∷ os) c (zero, less, is) = absurd (none_some c is)
in_made (None ∷ os) c (suc i, less, is) = in_made os c (i, omega (arith, less), is)
in_made (Some d ∷ os) c (zero, less, is) = subst (λ z. Contains (d ∷ filter_map (λ o. o) os) z) (same_Some d c is) (contains_first d (filter_map (λ o. o) os))
in_made (Some d ∷ os) c (suc i, less, is) = contains_later c d (filter_map (λ o. o) os) (in_made os c (i, omega (arith, less), is))

module _ (program : Program) (sources : List ModelData) where
  -- a call in the where clause of an entry, which isn't unmet
  pub where_call : (e : Entry) (rel : Rel) → slice_get program.rels e.rel ≡ Some rel → (c : EntryName) → Contains (entry_calls program sources e) c
      → (is_unmet program sources rel (entry_known program sources rel e.values) ≡ false) × Contains (calls_in program sources (entry_known program sources rel e.values) rel.wheres) (Some c)
  where_call e rel found c within = by (is_unmet program sources rel (entry_known program sources rel e.values)) refl here
    where
      here : Contains (calls_where program sources rel (entry_known program sources rel e.values)) c
      here = subst (λ o. Contains (option_map_or (λ r. calls_where program sources r (entry_known program sources r e.values)) o []) c) found within

      by : (b : Bool) → is_unmet program sources rel (entry_known program sources rel e.values) ≡ b
          → Contains (if b then [] else filter_map (λ o. o) (calls_in program sources (entry_known program sources rel e.values) rel.wheres)) c
          → (is_unmet program sources rel (entry_known program sources rel e.values) ≡ false) × Contains (calls_in program sources (entry_known program sources rel e.values) rel.wheres) (Some c)
      by true is (i, less, at) = absurd (omega (arith, less))
      by false is there = (is, made_in (calls_in program sources (entry_known program sources rel e.values) rel.wheres) c there)

  pub call_where : (e : Entry) (rel : Rel) → slice_get program.rels e.rel ≡ Some rel → (c : EntryName) → is_unmet program sources rel (entry_known program sources rel e.values) ≡ false
      → Contains (calls_in program sources (entry_known program sources rel e.values) rel.wheres) (Some c) → Contains (entry_calls program sources e) c
  call_where e rel found c met within =
      subst (λ o. Contains (option_map_or (λ r. calls_where program sources r (entry_known program sources r e.values)) o []) c) (sym found)
      (subst (λ b. Contains (if b then [] else filter_map (λ o. o) (calls_in program sources (entry_known program sources rel e.values) rel.wheres)) c) (sym met)
      (in_made (calls_in program sources (entry_known program sources rel e.values) rel.wheres) c within))

  -- ---- all values of an entry

  pub values_known : (e : Entry) (rel : Rel) → e.made ≡ made_values program sources rel e.values → length e.values ≡ length rel.vars → (v : ℕ) → v < length rel.vars
      → value_of (entry_values e rel) v ≡ value_of (entry_known program sources rel e.values).values v
  values_known e rel is long v less = variables_at (λ w. option_or (value_of e.values w) (value_of e.made w)) rel v less ∙ by (value_of e.values v) refl
    where
      by : (o : Option TermValue) → value_of e.values v ≡ o → option_or o (value_of e.made v) ≡ value_of (entry_known program sources rel e.values).values v
      by None at =
          ap (λ made. value_of made v) is ∙ variables_at (λ w. if is_some (value_of e.values w) then None else value_of (entry_known program sources rel e.values).values w) rel v less
          ∙ ap (λ (o : Option TermValue). if is_some o then None else value_of (entry_known program sources rel e.values).values v) at
      by (Some x) at = sym (known_extends program sources rel e.values long v x at)

-- ---- entries

module _ (metas : List MetaDesc) (program : Program) (formed : IsWellFormed metas program) (enforceable : IsEnforceable metas program) (sources : List ModelData) (m : ModelData) (terms : List Term)
    (among_all : (e : Entry) (rel : Rel) → IsEntry program sources e → slice_get program.rels e.rel ≡ Some rel
    → HasTermsAmong program m terms rel (entry_known program sources rel e.values).values) where
  pub record EntryFacts (e : Entry) : Type 0 where
    pub rel : Rel
    pub found : slice_get program.rels e.rel ≡ Some rel
    pub is_towards : rel.in_direction ≡ true
    pub roots : TermValues
    pub source : TermSource program sources rel roots e.values
    pub roots_fit : AreFit program terms rel roots
    pub is : e ≡ entry_of program sources e.rel rel e.called e.values

  pub rule_of : (number : ℕ) (rel : Rel) → slice_get program.rels number ≡ Some rel → rel.in_direction ≡ true → HandsTargetOn program rel
  rule_of number rel found towards = enforceable_hands_on metas program formed number rel enforceable found towards

  entry_is : (e : Entry) (number : ℕ) (rel : Rel) (called : Bool) → e ≡ entry_of program sources number rel called e.values → e ≡ entry_of program sources e.rel rel e.called e.values
  entry_is e number rel called is =
      is ∙ ap (λ n. entry_of program sources n rel called e.values) (sym (ap (λ (x : Entry). x.rel) is))
      ∙ ap (λ b. entry_of program sources e.rel rel b e.values) (sym (ap (λ (x : Entry). x.called) is))

  pub facts_known : (e : Entry) (f : EntryFacts e) → IsEntry program sources e → AreFit program terms f.rel (entry_known program sources f.rel e.values).values
  facts_known e f is =
      known_fit metas program formed enforceable sources e.rel f.rel f.found f.is_towards f.roots e.values f.source m terms (among_all e f.rel is f.found) f.roots_fit
      (rule_of e.rel f.rel f.found f.is_towards)

  -- the roots of a call in the where clause of an entry fit the relation that is called, which is of the direction
  pub called_fit : (e : Entry) (f : EntryFacts e) → IsEntry program sources e → (c : EntryName) → Contains (entry_calls program sources e) c → (called : Rel) → slice_get program.rels c.rel ≡ Some called
      → (called.in_direction ≡ true) × RootsFit program terms called c
  called_fit e f is c within called at =
      let there = where_call program sources e f.rel f.found c within in
      let rule = rule_of e.rel f.rel f.found f.is_towards in
      let fits = clause_fits metas program formed sources terms e.rel f.rel f.found rule (entry_known program sources f.rel e.values) (facts_known e f is)
      (λ v outside. scope_fit metas program formed enforceable sources e.rel f.rel f.found f.is_towards f.roots e.values f.source m terms (among_all e f.rel is f.found) f.roots_fit rule v)
      f.rel.wheres (λ x w. inr w) c there.1 in (
        ((formed.relations e.rel f.rel f.found).calls f.is_towards).wheres c.rel called (clause_calls program sources (entry_known program sources f.rel e.values) f.rel.wheres c there.1) at,
        subst (λ r. RootsFit program terms r c) (same_called fits.called called (sym fits.at ∙ at)) fits.roots_fit,
      )

  pub roots_given : (called : Rel) (c : EntryName) → RootsFit program terms called c → (dom : Dom) → Contains called.domains dom → (x : TermValue) × (value_of (root_values called c.roots) dom.root ≡ Some x)
  roots_given called c fits dom there = rooted_at (λ v. value_of (root_values called c.roots) v) called.domains c.roots fits.rooted dom there

  pub facts : (e : Entry) → IsEntry program sources e → EntryFacts e
  facts e (IsEntry.of_top _ number rel matches top own more) =
      let number_is : e.rel ≡ number = ap (λ (x : Entry). x.rel) own.is in record {
        rel = rel;
        found = ap (slice_get program.rels) number_is ∙ top.is;
        is_towards = top.in_direction;
        roots = no_values rel;
        source = own.source;
        roots_fit = none_fit program terms rel;
        is = entry_is e number rel false own.is;
      }
  facts e (IsEntry.of_call _ from c rel matches is_from within at own more) =
      let number_is : e.rel ≡ c.rel = ap (λ (x : Entry). x.rel) own.is in
      let fits = called_fit from (facts from is_from) is_from c within rel at in record {
        rel = rel;
        found = ap (slice_get program.rels) number_is ∙ at;
        is_towards = fits.0;
        roots = root_values rel c.roots;
        source = own.source;
        roots_fit = fits.1.fit;
        is = entry_is e c.rel rel true own.is;
      }
