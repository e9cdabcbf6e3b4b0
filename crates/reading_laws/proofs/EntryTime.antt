-- Where no chain of calls between entries is cyclic or too long, each entry that is called has the roots of the last call of a chain that isn't
-- too long.
use Rattle.std.specs.Prelude.{◌≡◌, ◌≢◌, ◌⊎◌, ◌<◌, ◌≤◌, ℕ, zero, suc, Bool, true, false, List, [], ◌∷◌, ◌++◌, map, length, Option, None, Some, slice_get, Contains, AllPairs}
use Rattle.std.specs.Option.{option_and_then, option_map, option_or}
use Rattle.std.proofs.Common.{refl, sym, ap, subst, ◌∙◌, inl, inr, arith, get_or, length-append}
use Rattle.std.proofs.lemmas.Bool.{true≢false, cases_lt}
use Rattle.std.proofs.lemmas.List.Quantifiers.{all_pairs_push}
use Rattle.mof_metamodel.specs.declared.desc.MetaDesc.{MetaDesc}
use Rattle.object_tables.specs.Models.{ModelData}
use Rattle.qv_syntax.specs.declared.typed.Typed.{Typed}
use Rattle.qv_syntax.specs.declared.program.Program.{Program}
use Rattle.qv_syntax.specs.declared.program.Rel.{Rel}
use Rattle.qv_syntax.specs.declared.program.Dom.{Dom}
use Rattle.qv_syntax.specs.declared.program.Conj.{Conj}
use Rattle.qv_syntax.specs.ProgramTypes.{AreGiven, IsCallTyped}
use Rattle.qv_syntax.specs.WellFormed.{IsWellFormed}
use Rattle.qvtr_semantics.specs.declared.limits.TheConstants.{MAX_CALLS}
use Rattle.qvtr_semantics.specs.Outs.{all_given}
use Rattle.template_match.proofs.ListLaws.{contains_later}
use Rattle.mof_metamodel.proofs.Facts.{contains_first}
use Rattle.source_laws.proofs.RootLaws.{typed_call, same_called}
use Rattle.mof_metamodel.proofs.Facts.{contains_at}
use Rattle.repair_semantics.specs.declared.term.TermValue.{TermValue}
use Rattle.repair_semantics.specs.declared.entry.Entry.{Entry}
use Rattle.repair_semantics.specs.declared.entry.EntryName.{EntryName}
use Rattle.repair_semantics.specs.EntryValues.{TermsExtend, Known, value_of, root_values, given_value}
use Rattle.repair_semantics.specs.Making.{entry_known}
use Rattle.repair_semantics.specs.Unmet.{is_unmet}
use Rattle.repair_semantics.specs.Entries.{bound_roots, call_to, named_call, calls_in, entry_values, roots_in, HasRoots, entry_calls, IsEntry}
use Rattle.repair_semantics.specs.EntryChains.{BeginsEntries, CallsNext, GoesOnEntries, EntryChain, CyclicEntries, DeepEntries, IsCalledInTime, IsUnmet}
use Rattle.reading_laws.proofs.CallValues.{none_some}
use Rattle.std.proofs.lemmas.Option.{same_Some}
use Rattle.reading_laws.proofs.CallRoots.{bound_same, bound_back}
use Rattle.reading_laws.proofs.CallFits.{map_same, rooted_at}
use Rattle.reading_laws.proofs.EntryKnown.{variables_at, within_long}
use Rattle.reading_laws.proofs.EntryFacts.{map_same_in, where_call}
use Rattle.qv_syntax.specs.declared.program.Conj.TheVariants as conjuncts

-- ---- chains

place_in : {X : Type 0} (xs : List X) (k : ℕ) (d : X) → k < length xs → Contains xs (get_or xs k d)
place_in [] k d less = absurd (omega (arith, less))
place_in (x ∷ xs) zero d less = contains_first x xs
place_in (x ∷ xs) (suc k) d less = contains_later (get_or xs k d) x xs (place_in xs k d (omega (arith, less)))

goes_more : (program : Program) (sources : List ModelData) (from : EntryName) (xs : List EntryName) (last next : EntryName) → GoesOnEntries program sources from (xs ++ last ∷ [])
    → CallsNext program sources last next → GoesOnEntries program sources from ((xs ++ last ∷ []) ++ next ∷ [])
goes_more program sources from [] last next goes calls = (goes.0, (calls, tt))
goes_more program sources from (x ∷ xs) last next goes calls = (goes.0, goes_more program sources x xs last next goes.1 calls)

chain_more : (program : Program) (sources : List ModelData) (before : List EntryName) (last next : EntryName) → EntryChain program sources (before ++ last ∷ []) → CallsNext program sources last next
    → EntryChain program sources ((before ++ last ∷ []) ++ next ∷ [])
chain_more program sources [] last next chain calls = (chain.0, (calls, tt))
chain_more program sources (x ∷ xs) last next chain calls = (chain.0, goes_more program sources x xs last next chain.1 calls)

-- a chain that ends with this call, which an entry makes; it has no repeat, and isn't too long
pub record ChainTo (program : Program) (sources : List ModelData) (last : EntryName) : Type 0 where
  pub before : List EntryName
  pub chain : EntryChain program sources (before ++ last ∷ [])
  pub distinct : AllPairs (λ c d. c ≢ d) (before ++ last ∷ [])
  pub short : length (before ++ last ∷ []) ≤ MAX_CALLS
  pub by : Entry
  pub entry : IsEntry program sources by
  pub calls : Contains (entry_calls program sources by) last

module _ (program : Program) (sources : List ModelData) (no_cycle : (chain : List EntryName) → CyclicEntries program sources chain → ⊥)
    (no_deep : (chain : List EntryName) → DeepEntries program sources chain → ⊥) where
  pub chain_first : (to : EntryName) → BeginsEntries program sources to → ChainTo program sources to
  chain_first to begins = record {
    before = [];
    chain = (begins, tt);
    distinct = λ i j d less within. absurd (omega (arith, less, within));
    short = omega arith;
    by = begins.from;
    entry = begins.entry;
    calls = begins.calls;
  }

  pub chain_next : (last next : EntryName) → ChainTo program sources last → CallsNext program sources last next → ChainTo program sources next
  chain_next last next to calls = record {
    before = to.before ++ last ∷ [];
    chain = longer;
    distinct = distinct;
    short = by (cases_lt (length (to.before ++ last ∷ [])) MAX_CALLS);
    by = calls.by;
    entry = calls.entry;
    calls = calls.calls;
  }
    where
      longer : EntryChain program sources ((to.before ++ last ∷ []) ++ next ∷ [])
      longer = chain_more program sources to.before last next to.chain calls

      distinct : AllPairs (λ c d. c ≢ d) ((to.before ++ last ∷ []) ++ next ∷ [])
      distinct =
          all_pairs_push (λ (c d : EntryName). c ≢ d) (to.before ++ last ∷ []) next to.distinct
          (λ k d less same. no_cycle ((to.before ++ last ∷ []) ++ next ∷ []) (record {
            reached = longer;
            cyclic = record {
              before = to.before ++ last ∷ [];
              last = next;
              is = refl;
              distinct = to.distinct;
              repeat = subst (Contains (to.before ++ last ∷ [])) same (place_in (to.before ++ last ∷ []) k d less);
            };
          }))

      by : (length (to.before ++ last ∷ []) < MAX_CALLS) ⊎ (MAX_CALLS ≤ length (to.before ++ last ∷ [])) → length ((to.before ++ last ∷ []) ++ next ∷ []) ≤ MAX_CALLS
      by (inl less) = let long = length-append (to.before ++ last ∷ []) (next ∷ []) in omega (arith, less, long)
      by (inr more) =
          let long = length-append (to.before ++ last ∷ []) (next ∷ []) in
          absurd (no_deep ((to.before ++ last ∷ []) ++ next ∷ []) (record {
            reached = longer;
            deep = record { calls = omega (arith, to.short, more, long); distinct = distinct };
          }))

  pub first_before : (to : EntryName) (begins : BeginsEntries program sources to) → (chain_first to begins).before ≡ []
  unfolding chain_first
  first_before to begins = refl

  pub next_before : (last next : EntryName) (to : ChainTo program sources last) (calls : CallsNext program sources last next) → (chain_next last next to calls).before ≡ to.before ++ last ∷ []
  unfolding chain_next
  next_before last next to calls = refl

-- ---- entries, without what their values are

module _ (metas : List MetaDesc) (program : Program) (formed : IsWellFormed metas program) (sources : List ModelData) where
  -- the roots that a call gives are its own
  abbrev pub IsRooted : Rel → EntryName → Type 0
  IsRooted called from = map (λ dom. value_of (root_values called from.roots) dom.root) called.domains ≡ map (λ x. Some x) from.roots

  given_long : (rel called : Rel) (doms : List Dom) (args : List Typed) → AreGiven metas program rel called doms args → length args ≡ length doms
  given_long rel called [] [] given = refl
  given_long rel called [] (e ∷ es) given = absurd given
  given_long rel called (dom ∷ doms) [] given = absurd given
  given_long rel called (dom ∷ doms) (e ∷ es) given = ap suc (given_long rel called doms es given.1)

  all_long : (f : Typed → Option TermValue) (args : List Typed) (xs : List TermValue) → all_given (map f args) ≡ Some xs → length xs ≡ length args
  all_long f [] xs all = ap length (sym (same_Some [] xs all))
  all_long f (e ∷ es) xs all = by (f e) (all_given (map f es)) refl all (λ ys others. all_long f es ys others)
    where
      by : (o : Option TermValue) (p : Option (List TermValue)) → all_given (map f es) ≡ p → all_given (o ∷ map f es) ≡ Some xs
          → ((ys : List TermValue) → all_given (map f es) ≡ Some ys → length ys ≡ length es) → length xs ≡ suc (length es)
      by None p others h rest = absurd (none_some xs h)
      by (Some x) None others h rest = absurd (none_some xs (sym (ap (option_map (λ ys. x ∷ ys)) others) ∙ h))
      by (Some x) (Some ys) others h rest = ap length (sym (same_Some (x ∷ ys) xs (sym (ap (option_map (λ zs. x ∷ zs)) others) ∙ h))) ∙ ap suc (rest ys others)

  pub record CallRooted (from : EntryName) : Type 0 where
    pub called : Rel
    pub at : slice_get program.rels from.rel ≡ Some called
    pub rooted : IsRooted called from

  module _ (place : ℕ) (rel : Rel) (found : slice_get program.rels place ≡ Some rel) (k : Known) where
    call_rooted : (n : ℕ) (args : List Typed) → IsCallTyped metas program rel n args → (from : EntryName) → named_call program sources k n args ≡ Some from → CallRooted from
    call_rooted n args typed from is =
        by (all_given (map (given_value program sources k) args)) refl (sym (ap (λ o. option_and_then (call_to n o) (all_given (map (given_value program sources k) args))) typed.found) ∙ is)
      where
        by : (o : Option (List TermValue)) → all_given (map (given_value program sources k) args) ≡ o → option_and_then (call_to n (Some typed.called)) o ≡ Some from → CallRooted from
        by None all h = absurd (none_some from h)
        by (Some xs) all h =
            let made : EntryName = record { rel = n; roots = bound_roots typed.called xs } in
            let long : length xs ≡ length typed.called.domains = all_long (given_value program sources k) args xs all ∙ given_long rel typed.called typed.called.domains args typed.given in
            let range = (formed.numbers.relations typed.called (contains_at program.rels n typed.called typed.found)).roots in
            subst CallRooted (same_Some made from h) (record {
              called = typed.called;
              at = typed.found;
              rooted = map_same (λ dom. value_of (root_values typed.called (bound_roots typed.called xs)) dom.root) (λ dom. value_of (root_values typed.called xs) dom.root) typed.called.domains
                  (λ dom. bound_same typed.called range xs long dom.root) ∙ bound_back typed.called range xs long;
            })

    clause_rooted : (cs : List Conj) → ((n : ℕ) (args : List Typed) → Contains cs (conjuncts.Call n args) → IsCallTyped metas program rel n args) → (from : EntryName)
        → Contains (calls_in program sources k cs) (Some from) → CallRooted from
    clause_rooted [] typed from (i, less, is) = absurd (omega (arith, less))
    clause_rooted (conjuncts.Call n args ∷ cs) typed from (zero, less, is) = call_rooted n args (typed n args (contains_first (conjuncts.Call n args) cs)) from is
    clause_rooted (conjuncts.Call n args ∷ cs) typed from (suc i, less, is) =
        clause_rooted cs (λ m more w. typed m more (contains_later (conjuncts.Call m more) (conjuncts.Call n args) cs w)) from (i, omega (arith, less), is)
    clause_rooted (conjuncts.Cond e ∷ cs) typed from w = clause_rooted cs (λ m more c. typed m more (contains_later (conjuncts.Call m more) (conjuncts.Cond e) cs c)) from w
    clause_rooted (conjuncts.Equation v e ∷ cs) typed from w = clause_rooted cs (λ m more c. typed m more (contains_later (conjuncts.Call m more) (conjuncts.Equation v e) cs c)) from w

  -- the relation of an entry
  pub entry_rel : (e : Entry) → IsEntry program sources e → (rel : Rel) × (slice_get program.rels e.rel ≡ Some rel)
  entry_rel e (IsEntry.of_top _ number rel matches top own more) = (rel, ap (slice_get program.rels) (ap (λ (x : Entry). x.rel) own.is) ∙ top.is)
  entry_rel e (IsEntry.of_call _ from c rel matches is_from within at own more) = (rel, ap (slice_get program.rels) (ap (λ (x : Entry). x.rel) own.is) ∙ at)

  -- the relation that an entry calls
  pub called_rooted : (e : Entry) → IsEntry program sources e → (c : EntryName) → Contains (entry_calls program sources e) c → CallRooted c
  called_rooted e is c within =
      let r = entry_rel e is in
      let there = where_call program sources e r.0 r.1 c within in
      clause_rooted e.rel r.0 r.1 (entry_known program sources r.0 e.values) r.0.wheres (λ n args w. typed_call metas program formed e.rel r.0 r.1 n args (inr w)) c there.1

  rooted_given : (rel : Rel) (c : EntryName) → IsRooted rel c → (dom : Dom) → Contains rel.domains dom → (x : TermValue) × (value_of (root_values rel c.roots) dom.root ≡ Some x)
  rooted_given rel c rooted dom there = rooted_at (λ v. value_of (root_values rel c.roots) v) rel.domains c.roots rooted dom there

  -- an entry whose values extend the roots of a call has them
  pub rooted_has : (e : Entry) (rel : Rel) → slice_get program.rels e.rel ≡ Some rel → (c : EntryName) → e.rel ≡ c.rel → IsRooted rel c → TermsExtend (root_values rel c.roots) e.values
      → length e.values ≡ length rel.vars → HasRoots program c e
  rooted_has e rel found c number_is rooted extends long = record {
    rel = number_is;
    roots = ap (roots_in e) found
        ∙ map_same_in (λ dom. value_of (entry_values e rel) dom.root) (λ dom. value_of (root_values rel c.roots) dom.root) rel.domains each
        ∙ rooted;
  }
    where
      each : (dom : Dom) → Contains rel.domains dom → value_of (entry_values e rel) dom.root ≡ value_of (root_values rel c.roots) dom.root
      each dom there =
          let x = rooted_given rel c rooted dom there in
          let at : value_of e.values dom.root ≡ Some x.0 = extends dom.root x.0 x.1 in
          variables_at (λ w. option_or (value_of e.values w) (value_of e.made w)) rel dom.root (subst (λ n. dom.root < n) long (within_long e.values dom.root x.0 at))
          ∙ ap (λ o. option_or o (value_of e.made dom.root)) at ∙ sym x.1

  module _ (no_cycle : (chain : List EntryName) → CyclicEntries program sources chain → ⊥) (no_deep : (chain : List EntryName) → DeepEntries program sources chain → ⊥) where
    pub record InTime (e : Entry) : Type 0 where
      pub last : EntryName
      pub to : ChainTo program sources last
      pub roots : HasRoots program last e

    timely_by : (from : Entry) → IsEntry program sources from → (c : EntryName) → Contains (entry_calls program sources from) c → (b : Bool) → from.called ≡ b → (from.called ≡ true → InTime from)
        → ChainTo program sources c
    timely_by from is c within true called before =
        let t = before called in
        chain_next program sources no_cycle no_deep t.last c t.to (record { by = from; entry = is; called = called; roots = t.roots; calls = within })
    timely_by from is c within false top before = chain_first program sources no_cycle no_deep c (record { from = from; entry = is; top = top; calls = within })

    -- each entry that is called is called in time
    pub timely : (e : Entry) → IsEntry program sources e → e.called ≡ true → InTime e
    timely e (IsEntry.of_top _ number rel matches top own more) called = absurd (true≢false (sym called ∙ ap (λ (x : Entry). x.called) own.is))
    timely e (IsEntry.of_call _ from c rel matches is_from within at own more) called =
        let r = called_rooted from is_from c within in
        let number_is : e.rel ≡ c.rel = ap (λ (x : Entry). x.rel) own.is in record {
          last = c;
          to = timely_by from is_from c within from.called refl (timely from is_from);
          roots = rooted_has e rel (ap (slice_get program.rels) number_is ∙ at) c number_is (subst (λ x. IsRooted x c) (same_called r.called rel (sym r.at ∙ at)) r.rooted) own.source.extends own.source.places;
        }

    -- so where none is unmet, none is that counts or not
    pub all_met : ((e : Entry) → IsUnmet program sources e → ⊥) → (e : Entry) (rel : Rel) → IsEntry program sources e → slice_get program.rels e.rel ≡ Some rel
        → is_unmet program sources rel (entry_known program sources rel e.values) ≡ false
    all_met none e rel is found = by (is_unmet program sources rel (entry_known program sources rel e.values)) refl
      where
        in_time : e.called ≡ true → IsCalledInTime program sources e
        in_time called = let t = timely e is called in record { before = (t.to).before; last = t.last; reached = (t.to).chain; short = (t.to).short; roots = t.roots }

        by : (b : Bool) → is_unmet program sources rel (entry_known program sources rel e.values) ≡ b → b ≡ false
        by true unmet = absurd (none e (record { is = is; in_time = in_time; rel = rel; found = found; unmet = unmet }))
        by false met = refl
