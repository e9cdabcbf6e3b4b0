-- A call that has an entry for its match, which is read with a partner, matches over the models.
use Rattle.std.specs.Prelude.{◌≡◌, ◌≢◌, ◌⊎◌, ◌<◌, ◌≤◌, ℕ, zero, suc, Bool, true, false, List, [], ◌∷◌, map, length, replicate, Option, None, Some, is_some, slice_get, slice_set, Contains, if◌then◌else◌}
use Rattle.std.specs.Option.{option_or}
use Rattle.std.proofs.Common.{refl, ap, sym, ◌∙◌, subst, arith, inl, inr, eqb, true≢false}
use Rattle.std.proofs.lemmas.Bool.Decides.{eqb_tells}
use Rattle.std.proofs.lemmas.List.{get_or-set_same, get_or-set_other, length-set, length-replicate}
use Rattle.std.proofs.lemmas.List.FromFn.{get_or-map-range_with_len, length-map-range_with_len}
use Rattle.mof_metamodel.specs.declared.desc.MetaDesc.{MetaDesc}
use Rattle.object_tables.specs.Models.{ModelData}
use Rattle.qv_syntax.specs.declared.program.Program.{Program}
use Rattle.qv_syntax.specs.declared.program.Rel.{Rel}
use Rattle.qv_syntax.specs.declared.program.Dom.{Dom}
use Rattle.qv_syntax.specs.WellFormed.{IsWellFormed}
use Rattle.qvtr_semantics.specs.declared.datum.Datum.{Datum}
use Rattle.qvtr_semantics.specs.Templates.{Values, value_at}
use Rattle.qvtr_semantics.specs.Calls.{RelationCall, SourceMatches, TargetHolds, AllAsked, Match, Holds, free}
use Rattle.template_match.proofs.ListLaws.{contains_later}
use Rattle.mof_metamodel.proofs.Facts.{contains_first}
use Rattle.source_laws.specs.SourceRelations.{KeepsToSources}
use Rattle.source_laws.specs.TargetRule.{HandsTargetOn}
use Rattle.source_laws.proofs.RuleLaws.{rule_keeps}
use Rattle.enforcement_rules.specs.Rules.{IsEnforceable}
use Rattle.enforceable_sources.proofs.EnforceableLaws.{enforceable_hands_on}
use Rattle.repair_semantics.specs.declared.term.TermValue.{TermValue}
use Rattle.repair_semantics.specs.declared.entry.Entry.{Entry}
use Rattle.repair_semantics.specs.declared.entry.EntryName.{EntryName}
use Rattle.repair_semantics.specs.EntryValues.{TermValues, value_of, no_values, with_roots, root_values}
use Rattle.repair_semantics.specs.Making.{variables, entry_known, made_values}
use Rattle.repair_semantics.specs.Entries.{entry_of, entry_values, roots_in, IsMatchFor, IsEntry}
use Rattle.reading_laws.specs.Readings.{Numbering, read_value, Reads, ReadsCall}
use Rattle.relation_calls.proofs.CallLaws.{match_is}
use Rattle.repair_laws.specs.EntryReadings.{IsEntryOf, IsReadAs}
use Rattle.repair_laws.proofs.RaisedLaws.{over, raised_source, raised_target, raised_calls}
use Rattle.std.proofs.lemmas.Option.{same_Some}

none_some : {X : Type 0} (x : X) → ◌≡◌ {A = Option X} None (Some x) → ⊥
none_some x h = cc

-- ---- values at variables

within_values : (b : TermValues) (v : ℕ) (x : TermValue) → value_of b v ≡ Some x → v < length b
within_values [] v x is = absurd (none_some x is)
within_values (o ∷ b) zero x is = omega arith
within_values (o ∷ b) (suc v) x is = let more = within_values b v x is in omega (arith, more)

-- where a value stands in a list by the variables
by_variables : (rel : Rel) (f : ℕ → Option TermValue) (v : ℕ) (x : TermValue) → value_of (map f (variables rel)) v ≡ Some x → f v ≡ Some x
by_variables rel f v x is =
    let count : length (map f (variables rel)) ≡ length rel.vars = length-map-range_with_len f 0 (length rel.vars) in
    let within : v < length rel.vars = subst (λ n. v < n) count (within_values (map f (variables rel)) v x is) in
    sym (get_or-map-range_with_len f 0 (length rel.vars) v v None within (omega arith)) ∙ is

-- a value of an entry is one of its binding, or one that it makes
value_cases : (program : Program) (models : List ModelData) (rel : Rel) (e : Entry) (v : ℕ) (x : TermValue) → e.made ≡ made_values program models rel e.values
    → value_of (entry_values e rel) v ≡ Some x → (value_of e.values v ≡ Some x) ⊎ (value_of (entry_known program models rel e.values).values v ≡ Some x)
value_cases program models rel e v x made is =
    by (value_of e.values v) refl (by_variables rel (λ w. option_or (value_of e.values w) (value_of e.made w)) v x is)
  where
    others : TermValues
    others = (entry_known program models rel e.values).values

    made_at : value_of e.values v ≡ None → value_of e.made v ≡ Some x → value_of (entry_known program models rel e.values).values v ≡ Some x
    made_at none at =
        let here : (if is_some (value_of e.values v) then None else value_of (entry_known program models rel e.values).values v) ≡ Some x =
        by_variables rel (λ w. if is_some (value_of e.values w) then None else value_of (entry_known program models rel e.values).values w) v x (ap (λ b. value_of b v) (sym made) ∙ at) in
        sym (ap (λ (o : Option TermValue). if is_some o then None else value_of (entry_known program models rel e.values).values v) none) ∙ here

    by : (o : Option TermValue) → value_of e.values v ≡ o → option_or o (value_of e.made v) ≡ Some x
        → (value_of e.values v ≡ Some x) ⊎ (value_of (entry_known program models rel e.values).values v ≡ Some x)
    by None at h = inr (made_at at h)
    by (Some y) at h = inl (at ∙ h)

-- ---- roots of a call

put_cases : (b : TermValues) (r v : ℕ) (x y : TermValue) → value_of (slice_set b r (Some y)) v ≡ Some x → (value_of b v ≡ Some x) ⊎ ((r ≡ v) × (y ≡ x))
put_cases b r v x y is = by (eqb_tells v r)
  where
    same : v ≡ r → (value_of b v ≡ Some x) ⊎ ((r ≡ v) × (y ≡ x))
    same one = inr (
      sym one,
      same_Some y x (sym (get_or-set_same b r (Some y) None (subst (λ k. k < length b) one (subst (λ n. v < n) (length-set b r (Some y)) (within_values (slice_set b r (Some y)) v x is))))
          ∙ ap (λ k. value_of (slice_set b r (Some y)) k) (sym one) ∙ is),
    )

    by : ((eqb v r ≡ true) × (v ≡ r)) ⊎ ((eqb v r ≡ false) × (v ≢ r)) → (value_of b v ≡ Some x) ⊎ ((r ≡ v) × (y ≡ x))
    by (inl one) = same one.1
    by (inr other) = inl (sym (get_or-set_other b r v (Some y) None other.1) ∙ is)

-- a root that is given is that of a domain, and has the value of the entry there
record IsRootOf (doms : List Dom) (all : TermValues) (v : ℕ) (x : TermValue) : Type 0 where
  dom : Dom
  among : Contains doms dom
  root : dom.root ≡ v
  at : value_of all v ≡ Some x

roots_cases : (all b : TermValues) (doms : List Dom) (xs : List TermValue) (v : ℕ) (x : TermValue) → map (λ dom. value_of all dom.root) doms ≡ map (λ y. Some y) xs
    → value_of (with_roots b doms xs) v ≡ Some x → (value_of b v ≡ Some x) ⊎ IsRootOf doms all v x
roots_cases all b [] xs v x same is = inl is
roots_cases all b (dom ∷ doms) [] v x same is = inl is
roots_cases all b (dom ∷ doms) (y ∷ xs) v x same is =
    by (roots_cases all (slice_set b dom.root (Some y)) doms xs v x (cc) is)
  where
    here : value_of all dom.root ≡ Some y
    here = cc

    first : (value_of b v ≡ Some x) ⊎ ((dom.root ≡ v) × (y ≡ x)) → (value_of b v ≡ Some x) ⊎ IsRootOf (dom ∷ doms) all v x
    first (inl at) = inl at
    first (inr (root, one)) = inr (record { dom = dom; among = contains_first dom doms; root = root; at = ap (value_of all) (sym root) ∙ here ∙ ap (λ z. Some z) one })

    by : (value_of (slice_set b dom.root (Some y)) v ≡ Some x) ⊎ IsRootOf doms all v x → (value_of b v ≡ Some x) ⊎ IsRootOf (dom ∷ doms) all v x
    by (inl at) = first (put_cases b dom.root v x y at)
    by (inr root) = inr (record { dom = root.dom; among = contains_later root.dom dom doms root.among; root = root.root; at = root.at })

roots_long : (b : TermValues) (doms : List Dom) (xs : List TermValue) → length (with_roots b doms xs) ≡ length b
roots_long b [] xs = refl
roots_long b (dom ∷ doms) [] = refl
roots_long b (dom ∷ doms) (x ∷ xs) = roots_long (slice_set b dom.root (Some x)) doms xs ∙ length-set b dom.root (Some x)

nothing_at : (n v : ℕ) (x : TermValue) → value_of (replicate n None) v ≡ Some x → ⊥
nothing_at zero v x is = none_some x is
nothing_at (suc n) zero x is = none_some x is
nothing_at (suc n) (suc v) x is = nothing_at n v x is

module _ (metas : List MetaDesc) (program : Program) (models : List ModelData) (number : Numbering) (well : IsWellFormed metas program) where
  one_rel : (a b : Rel) (o : Option Rel) → o ≡ Some a → o ≡ Some b → a ≡ b
  one_rel a b o x y = cc

  -- what an entry makes
  made_with : (e : Entry) (place : ℕ) (rel other : Rel) (called : Bool) → e ≡ entry_of program models place other called e.values → slice_get program.rels e.rel ≡ Some rel
      → slice_get program.rels place ≡ Some other → e.made ≡ made_values program models rel e.values
  made_with e place rel other called is found at =
      let one : other ≡ rel = one_rel other rel (slice_get program.rels place) at (ap (slice_get program.rels) (sym (ap (λ (x : Entry). x.rel) is)) ∙ found) in
      ap (λ (x : Entry). x.made) is ∙ ap (λ r. made_values program models r e.values) one

  made_is : (e : Entry) (rel : Rel) → IsEntry program models e → slice_get program.rels e.rel ≡ Some rel → e.made ≡ made_values program models rel e.values
  made_is e rel (IsEntry.of_top _ place other matches top is are) found = made_with e place rel other false is.is found top.is
  made_is e rel (IsEntry.of_call _ from call other matches caller has at is are) found = made_with e call.rel rel other true is.is found at

  -- an entry that isn't called is of a relation of the direction
  in_direction : (e : Entry) (rel : Rel) → IsEntry program models e → slice_get program.rels e.rel ≡ Some rel → e.called ≡ false → rel.in_direction ≡ true
  in_direction e rel (IsEntry.of_top _ place other matches top is are) found uncalled =
      let one : other ≡ rel = one_rel other rel (slice_get program.rels place) top.is (ap (slice_get program.rels) (sym (ap (λ (x : Entry). x.rel) is.is)) ∙ found) in
      ap (λ (r : Rel). r.in_direction) (sym one) ∙ top.in_direction
  in_direction e rel (IsEntry.of_call _ from call other matches caller has at is are) found uncalled = absurd (true≢false (sym (ap (λ (x : Entry). x.called) is.is) ∙ uncalled))

  module _ (f : Entry) (rel : Rel) (call : EntryName) (to : RelationCall) (c g : Values) (of : IsEntryOf program models f rel) (match : IsMatchFor program call f)
      (reads : ReadsCall program number call to) (read : IsReadAs program models number f rel c g)
    where
      same_call : call.rel ≡ f.rel
      same_call = sym match.has.rel

      found_call : slice_get program.rels call.rel ≡ Some rel
      found_call = ap (slice_get program.rels) same_call ∙ of.found

      roots_read : Reads program number (root_values rel call.roots) to.roots
      roots_read = reads.roots rel found_call

      -- the entry has the roots of the call
      roots_same : map (λ dom. value_of (entry_values f rel) dom.root) rel.domains ≡ map (λ x. Some x) call.roots
      roots_same = sym (ap (roots_in f) of.found) ∙ match.has.roots

      given_root : (v : ℕ) (d : Datum) → value_at to.roots v ≡ Some d → (x : TermValue) × (value_of (root_values rel call.roots) v ≡ Some x) × (read_value program number x ≡ Some d)
      given_root v d at = by (value_of (root_values rel call.roots) v) refl
        where
          by : (o : Option TermValue) → value_of (root_values rel call.roots) v ≡ o
              → (x : TermValue) × (value_of (root_values rel call.roots) v ≡ Some x) × (read_value program number x ≡ Some d)
          by None is = absurd (none_some d (sym (roots_read.none v is) ∙ at))
          by (Some x) is = let (e, there, own) = roots_read.given v x is in (x, is, own ∙ sym there ∙ at)

      root_at : (v : ℕ) (x : TermValue) → value_of (root_values rel call.roots) v ≡ Some x → IsRootOf rel.domains (entry_values f rel) v x
      root_at v x is = by (roots_cases (entry_values f rel) (no_values rel) rel.domains call.roots v x roots_same is)
        where
          by : (value_of (no_values rel) v ≡ Some x) ⊎ IsRootOf rel.domains (entry_values f rel) v x → IsRootOf rel.domains (entry_values f rel) v x
          by (inl none) = absurd (nothing_at (length rel.vars) v x none)
          by (inr root) = root

      of_domain : (v : ℕ) (d : Datum) → value_at to.roots v ≡ Some d → (dom : Dom) × Contains rel.domains dom × (dom.root ≡ v)
      of_domain v d at =
          let (x, is, own) = given_root v d at in
          let root = root_at v x is in
          (root.dom, root.among, root.root)

      agree : (v : ℕ) (d : Datum) → value_at to.roots v ≡ Some d → value_at g v ≡ Some d
      agree v d at =
          let (x, is, own) = given_root v d at in
          by x own (value_cases program models rel f v x (made_is f rel of.is of.found) (root_at v x is).at)
        where
          by : (x : TermValue) → read_value program number x ≡ Some d → (value_of f.values v ≡ Some x) ⊎ (value_of (entry_known program models rel f.values).values v ≡ Some x)
              → value_at g v ≡ Some d
          by x own (inl there) = let (e, here, same) = read.own.given v x there in read.target.extends v d (here ∙ sym same ∙ own)
          by x own (inr there) = let (e, here, same) = read.all.given v x there in here ∙ sym same ∙ own

      roots_length : length to.roots ≡ length rel.vars
      roots_length = roots_read.places ∙ roots_long (no_values rel) rel.domains call.roots ∙ length-replicate (length rel.vars) None

      -- so the call matches
      call_matches : KeepsToSources program rel → SourceMatches (Match program models) program models rel (free rel) c → TargetHolds (Holds program models) program models rel c g
          → Match program models to
      call_matches keeps source holds =
          let long : length to.roots ≡ length c = roots_length ∙ sym source.source.places in
          let there : slice_get program.rels to.rel ≡ Some rel = ap (slice_get program.rels) reads.rel ∙ found_call in
          (match_is program (metas, well) models to rel there).1 (
            over c to.roots,
            g,
            record {
              source = raised_source metas program models well f.rel rel of.found keeps to.roots c g source.source holds.target long of_domain agree;
              whens = subst (AllAsked (Match program models))
                  (sym (raised_calls metas program models well f.rel rel of.found keeps to.roots c g source.source holds.target long of_domain agree)) source.whens;
            },
            record {
              target = raised_target metas program models well f.rel rel of.found keeps to.roots c g source.source holds.target long of_domain agree;
              wheres = holds.wheres;
            },
          )

      pub matched : IsEnforceable metas program → SourceMatches (Match program models) program models rel (free rel) c → TargetHolds (Holds program models) program models rel c g → Match program models to
      matched enforceable source holds =
          let hands : HandsTargetOn program rel = enforceable_hands_on metas program well f.rel rel enforceable of.found (in_direction f rel of.is of.found match.top) in
          call_matches (rule_keeps metas program well f.rel rel of.found hands) source holds
