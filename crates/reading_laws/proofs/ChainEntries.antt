-- Chains of calls over the models are read from chains of calls between entries; so where none of these is cyclic or too long, none of those is.
use Rattle.std.specs.Prelude.{◌≡◌, ◌⊎◌, ◌<◌, ℕ, zero, suc, true, false, List, [], ◌∷◌, ◌++◌, map, length, Option, Some, slice_get, Contains}
use Rattle.std.specs.List.{AllZip}
use Rattle.std.proofs.Common.{refl, sym, ap, subst, ◌∙◌, inl, inr, arith, get_or, append_assoc, length-append}
use Rattle.mof_metamodel.specs.declared.desc.MetaDesc.{MetaDesc}
use Rattle.object_tables.specs.Models.{ModelData}
use Rattle.qv_syntax.specs.declared.program.Program.{Program}
use Rattle.qv_syntax.specs.declared.program.Rel.{Rel}
use Rattle.qv_syntax.specs.declared.program.Dom.{Dom}
use Rattle.qv_syntax.specs.WellFormed.{IsWellFormed}
use Rattle.qvtr_semantics.specs.declared.datum.Datum.{Datum}
use Rattle.qvtr_semantics.specs.Templates.{Values, value_at}
use Rattle.qvtr_semantics.specs.Bindings.{Target}
use Rattle.qvtr_semantics.specs.Calls.{RelationCall, calls_of}
use Rattle.qvtr_semantics.specs.Satisfaction.{IsTop}
use Rattle.qvtr_semantics.specs.Chains.{CallsWhere, Role, ReachedFrom, IsTopCall, Reached, BeginsFrom, GoesOn, Chain, IsCyclic, IsDeep}
use Rattle.source_laws.proofs.RootLaws.{none_free, same_called, typed_call}
use Rattle.repair_semantics.specs.declared.term.Term.{Term}
use Rattle.repair_semantics.specs.declared.term.TermValue.{TermValue}
use Rattle.repair_semantics.specs.declared.entry.Entry.{Entry}
use Rattle.repair_semantics.specs.declared.entry.EntryName.{EntryName}
use Rattle.repair_semantics.specs.EntryValues.{value_of, root_values}
use Rattle.repair_semantics.specs.Making.{entry_known}
use Rattle.repair_semantics.specs.Entries.{calls_in, entry_of, entry_calls, IsEntry}
use Rattle.repair_semantics.specs.EntryChains.{BeginsEntries, CallsNext, CyclicEntries, DeepEntries}
use Rattle.reading_laws.specs.Readings.{Numbering, Reads, ReadsCall}
use Rattle.reading_laws.proofs.CallValues.{none_some, one_value}
use Rattle.std.proofs.lemmas.Option.{same_Some}
use Rattle.reading_laws.proofs.CallFits.{RootsFit}
use Rattle.reading_laws.proofs.EntryFacts.{map_same_in, call_where, called_fit, roots_given}
use Rattle.reading_laws.proofs.EntryGround.{Ground}
use Rattle.reading_laws.proofs.CallMade.{to_rel, to_root}
use Rattle.reading_laws.proofs.EntryMatches.{facts_of}
use Rattle.reading_laws.proofs.EntryReads.{top_called, match_entry, read_source, called_entry}
use Rattle.reading_laws.proofs.EntryCalls.{where_reads, read_call}
use Rattle.reading_laws.proofs.EntryTime.{ChainTo, chain_first, chain_next, first_before, next_before, CallRooted, called_rooted, rooted_has}
use Rattle.source_laws.proofs.RootLaws as roots

-- ---- lists

zip_push : {X Y : Type 0} (R : X → Y → Type 0) (xs : List X) (ys : List Y) (x : X) (y : Y) → AllZip R xs ys → R x y → AllZip R (xs ++ x ∷ []) (ys ++ y ∷ [])
zip_push R [] [] x y all here = (here, tt)
zip_push R [] (b ∷ ys) x y all here = absurd all
zip_push R (a ∷ xs) [] x y all here = absurd all
zip_push R (a ∷ xs) (b ∷ ys) x y all here = (all.0, zip_push R xs ys x y all.1 here)

zip_long : {X Y : Type 0} (R : X → Y → Type 0) (xs : List X) (ys : List Y) → AllZip R xs ys → length xs ≡ length ys
zip_long R [] [] all = refl
zip_long R [] (b ∷ ys) all = absurd all
zip_long R (a ∷ xs) [] all = absurd all
zip_long R (a ∷ xs) (b ∷ ys) all = ap suc (zip_long R xs ys all.1)

zip_at : {X Y : Type 0} (R : X → Y → Type 0) (xs : List X) (ys : List Y) (k : ℕ) (d : X) (e : Y) → AllZip R xs ys → k < length ys → R (get_or xs k d) (get_or ys k e)
zip_at R [] [] k d e all less = absurd (omega (arith, less))
zip_at R [] (b ∷ ys) k d e all less = absurd all
zip_at R (a ∷ xs) [] k d e all less = absurd all
zip_at R (a ∷ xs) (b ∷ ys) zero d e all less = all.0
zip_at R (a ∷ xs) (b ∷ ys) (suc k) d e all less = zip_at R xs ys k d e all.1 (omega (arith, less))

at_front : {X : Type 0} (xs : List X) (x d : X) (k : ℕ) → k < length xs → get_or (xs ++ x ∷ []) k d ≡ get_or xs k d
at_front [] x d k less = absurd (omega (arith, less))
at_front (y ∷ xs) x d zero less = refl
at_front (y ∷ xs) x d (suc k) less = at_front xs x d k (omega (arith, less))

at_end : {X : Type 0} (xs : List X) (x d : X) → get_or (xs ++ x ∷ []) (length xs) d ≡ x
at_end [] x d = refl
at_end (y ∷ xs) x d = at_end xs x d

end_nil : {X : Type 0} (xs : List X) → xs ++ [] ≡ xs
end_nil [] = refl
end_nil (x ∷ xs) = ap (λ ys. x ∷ ys) (end_nil xs)

all_inner : (xs ys : List TermValue) → map (λ x. Some x) xs ≡ map (λ x. Some x) ys → xs ≡ ys
all_inner [] [] h = refl
all_inner [] (y ∷ ys) h = absurd (none_left (map (λ x. Some x) ys) (Some y) h)
  where
    none_left : (os : List (Option TermValue)) (o : Option TermValue) → ◌≡◌ {A = List (Option TermValue)} [] (o ∷ os) → ⊥
    none_left os o k = cc
all_inner (x ∷ xs) [] h = absurd (none_left (map (λ x. Some x) xs) (Some x) h)
  where
    none_left : (os : List (Option TermValue)) (o : Option TermValue) → ◌≡◌ {A = List (Option TermValue)} (o ∷ os) [] → ⊥
    none_left os o k = cc
all_inner (x ∷ xs) (y ∷ ys) h =
    let both = parts (Some x) (Some y) (map (λ z. Some z) xs) (map (λ z. Some z) ys) h in
    ap (λ z. z ∷ xs) (same_Some x y both.0) ∙ ap (λ zs. y ∷ zs) (all_inner xs ys both.1)
  where
    parts : (a b : Option TermValue) (os ps : List (Option TermValue)) → a ∷ os ≡ b ∷ ps → (a ≡ b) × (os ≡ ps)
    parts a b os ps k = (cc, cc)

-- ---- where a check comes to

-- a relation that is checked with free roots, or asked for a match
abbrev IsOpen : Role → Type 0
IsOpen Role.as_top = Unit {0}
IsOpen Role.as_match = Unit {0}
IsOpen Role.as_called = ⊥

module _ (metas : List MetaDesc) (program : Program) (sources models : List ModelData) (m : ModelData) (terms : List Term) (number : Numbering)
    (ground : Ground metas program sources models m terms number) (no_cycle : (chain : List EntryName) → CyclicEntries program sources chain → ⊥)
    (no_deep : (chain : List EntryName) → DeepEntries program sources chain → ⊥) where
  abbrev formed : IsWellFormed metas program
  formed = ground.over.evaluable.well

  record Came (role : Role) (c : RelationCall) : Type 0 where
    rel : Rel
    found : slice_get program.rels c.rel ≡ Some rel
    towards : rel.in_direction ≡ true
    top : IsOpen role → IsTop program c.rel rel
    root_at : IsOpen role → (v : ℕ) (d : Datum) → value_at c.roots v ≡ Some d → (dom : Dom) × Contains rel.domains dom × (dom.root ≡ v)

  came : (role : Role) (c : RelationCall) → Reached program models role c → Came role c
  came role c (ReachedFrom.start _ _ (IsTopCall.top n rel top)) = record {
    rel = rel;
    found = top.is;
    towards = top.in_direction;
    top = λ open_role. top;
    root_at = λ open_role v d at. absurd (none_some d (sym (none_free (length rel.vars) v) ∙ at));
  }
  came role c (ReachedFrom.by_when before from _ reached asks) =
      let from_came = came before from reached in
      let same : from_came.rel ≡ asks.rel = same_called from_came.rel asks.rel (sym from_came.found ∙ asks.is) in
      let towards : asks.rel.in_direction ≡ true = subst (λ (r : Rel). r.in_direction ≡ true) same from_came.towards in
      let (n, args, within, made) = roots.calls_in program models asks.binding asks.rel.whens c asks.asks in
      let typed = typed_call metas program formed from.rel asks.rel asks.is n args (inl within) in
      let top = top_called metas program sources models m terms number ground from.rel asks.rel asks.is towards n typed.called (args, within) typed.found in
      let number_is : c.rel ≡ n = to_rel program models asks.binding n args c made in
      record {
        rel = typed.called;
        found = ap (slice_get program.rels) number_is ∙ typed.found;
        towards = top.in_direction;
        top = λ open_role. subst (λ k. IsTop program k typed.called) (sym number_is) top;
        root_at = λ open_role. to_root program models asks.binding n args c typed.called made typed.found;
      }
  came role c (ReachedFrom.by_where before from _ reached calls) =
      let from_came = came before from reached in
      let same : from_came.rel ≡ calls.rel = same_called from_came.rel calls.rel (sym from_came.found ∙ calls.is) in
      let towards : calls.rel.in_direction ≡ true = subst (λ (r : Rel). r.in_direction ≡ true) same from_came.towards in
      let (n, args, within, made) = roots.calls_in program models calls.partner calls.rel.wheres c calls.calls in
      let typed = typed_call metas program formed from.rel calls.rel calls.is n args (inr within) in
      let number_is : c.rel ≡ n = to_rel program models calls.partner n args c made in
      record {
        rel = typed.called;
        found = ap (slice_get program.rels) number_is ∙ typed.found;
        towards = ((formed.relations from.rel calls.rel calls.is).calls towards).wheres n typed.called (args, within) typed.found;
        top = λ open_role. absurd open_role;
        root_at = λ open_role. absurd open_role;
      }

  -- ---- calls as they are read

  -- a call that an entry makes, and the one as which it is read
  record Made (from : EntryName) (to : RelationCall) : Type 0 where
    reads : ReadsCall program number from to
    by : Entry
    entry : IsEntry program sources by
    calls : Contains (entry_calls program sources by) from

  -- one call is read from one alone
  one_name : (a b : EntryName) (x : RelationCall) → Made a x → Made b x → a ≡ b
  one_name a b x one other = name a b rel_is (all_inner a.roots b.roots (sym a_rooted ∙ same ∙ b_fit.rooted))
    where
      name : (a b : EntryName) → a.rel ≡ b.rel → a.roots ≡ b.roots → a ≡ b
      name a b p q = ap (λ n. let z : EntryName = record { rel = n; roots = a.roots } in z) p ∙ ap (λ r. let z : EntryName = record { rel = b.rel; roots = r } in z) q

      rel_is : a.rel ≡ b.rel
      rel_is = sym one.reads.rel ∙ other.reads.rel

      r : CallRooted metas program formed sources a
      r = called_rooted metas program formed sources one.by one.entry a one.calls

      b_at : slice_get program.rels b.rel ≡ Some r.called
      b_at = ap (slice_get program.rels) (sym rel_is) ∙ r.at

      a_fit : RootsFit program terms r.called a
      a_fit = (called_fit metas program formed ground.over.enforceable sources m terms ground.among one.by (facts_of metas program sources models m terms number ground one.by one.entry) one.entry a one.calls r.called r.at).1

      b_fit : RootsFit program terms r.called b
      b_fit = (called_fit metas program formed ground.over.enforceable sources m terms ground.among other.by (facts_of metas program sources models m terms number ground other.by other.entry) other.entry b other.calls r.called b_at).1

      a_rooted : map (λ dom. value_of (root_values r.called a.roots) dom.root) r.called.domains ≡ map (λ z. Some z) a.roots
      a_rooted = a_fit.rooted

      each : (dom : Dom) → Contains r.called.domains dom → value_of (root_values r.called a.roots) dom.root ≡ value_of (root_values r.called b.roots) dom.root
      each dom there =
          let y = roots_given metas program formed ground.over.enforceable sources m terms ground.among r.called a a_fit dom there in
          let z = roots_given metas program formed ground.over.enforceable sources m terms ground.among r.called b b_fit dom there in
          let d = (one.reads.roots r.called r.at).given dom.root y.0 y.1 in
          let e = (other.reads.roots r.called b_at).given dom.root z.0 z.1 in
          y.1 ∙ ap (λ w. Some w)
          (one_value program number m terms ground.reading y.0 z.0 d.0 (a_fit.fit dom.root y.0 y.1).told (b_fit.fit dom.root z.0 z.1).told d.2
          (e.2 ∙ ap (λ w. Some w) (same_Some e.0 d.0 (sym e.1 ∙ d.1)))) ∙ sym z.1

      same : map (λ dom. value_of (root_values r.called a.roots) dom.root) r.called.domains ≡ map (λ dom. value_of (root_values r.called b.roots) dom.root) r.called.domains
      same = map_same_in (λ dom. value_of (root_values r.called a.roots) dom.root) (λ dom. value_of (root_values r.called b.roots) dom.root) r.called.domains each

  -- the call that an entry makes as which a partner's call is read
  record CallFrom (e : Entry) (to : RelationCall) : Type 0 where
    from : EntryName
    calls : Contains (entry_calls program sources e) from
    reads : ReadsCall program number from to

  call_from : (e : Entry) (rel : Rel) → IsEntry program sources e → slice_get program.rels e.rel ≡ Some rel → (c g : Values) → Reads program number e.values c → Target program models rel c g
      → (to : RelationCall) → Contains (calls_of program models g rel.wheres) (Some to) → CallFrom e to
  call_from e rel is found c g reads target to within =
      let known = ground.partners e rel is found c g reads target in
      let x = read_call program number (calls_in program sources (entry_known program sources rel e.values) rel.wheres) (calls_of program models g rel.wheres)
      (where_reads metas program sources models m terms number ground e rel is found c g reads target known) to within in
      record { from = x.0; calls = call_where program sources e rel found x.0 (ground.met e rel is found) x.1; reads = x.2 }

  -- ---- chains

  -- a chain between entries of which one over the models is read, as far as it has come
  record ChainRead (done : List RelationCall) (current : RelationCall) : Type 0 where
    last : EntryName
    to : ChainTo program sources last
    reads : ReadsCall program number last current
    all : AllZip Made (to.before ++ last ∷ []) (done ++ current ∷ [])

  read_first : (first : RelationCall) → BeginsFrom program models (IsTopCall program) first → ChainRead [] first
  read_first first begins = by begins.begins
    where
      from_role : (role : Role) → IsOpen role → Reached program models role begins.from → ChainRead [] first
      from_role role open_role reached =
          let x = came role begins.from reached in
          let calls = begins.calls in
          let same : x.rel ≡ calls.rel = same_called x.rel calls.rel (sym x.found ∙ calls.is) in
          let top : IsTop program begins.from.rel calls.rel = subst (λ r. IsTop program begins.from.rel r) same (x.top open_role) in
          let root_at = subst (λ (r : Rel). (v : ℕ) (d : Datum) → value_at begins.from.roots v ≡ Some d → (dom : Dom) × Contains r.domains dom × (dom.root ≡ v)) same (x.root_at open_role) in
          let s = length program.rels in
          let z = match_entry metas program sources models m terms number ground s (read_source metas program sources models m terms number ground s) begins.from.rel calls.rel top begins.from.roots
          calls.binding calls.partner root_at calls.source calls.target in
          let e : Entry = entry_of program sources begins.from.rel calls.rel false z.b in
          let call = call_from e calls.rel z.entry calls.is z.c calls.partner z.reads z.target first calls.calls in
          let start : BeginsEntries program sources call.from = record { from = e; entry = z.entry; top = refl; calls = call.calls } in
          record {
            last = call.from;
            to = chain_first program sources no_cycle no_deep call.from start;
            reads = call.reads;
            all = subst (λ xs. AllZip Made (xs ++ call.from ∷ []) (first ∷ [])) (sym (first_before program sources no_cycle no_deep call.from start))
                (record { reads = call.reads; by = e; entry = z.entry; calls = call.calls }, tt);
          }

      by : ReachedFrom program models (IsTopCall program) Role.as_top begins.from ⊎ ReachedFrom program models (IsTopCall program) Role.as_match begins.from → ChainRead [] first
      by (inl reached) = from_role Role.as_top tt reached
      by (inr reached) = from_role Role.as_match tt reached

  read_next : (done : List RelationCall) (current next : RelationCall) → ChainRead done current → CallsWhere program models current next → ChainRead (done ++ current ∷ []) next
  read_next done current next x calls =
      let r = called_rooted metas program formed sources x.to.by x.to.entry x.last x.to.calls in
      let at : slice_get program.rels x.last.rel ≡ Some calls.rel = ap (slice_get program.rels) (sym x.reads.rel) ∙ calls.is in
      let rooted = subst (λ q. map (λ dom. value_of (root_values q x.last.roots) dom.root) q.domains ≡ map (λ z. Some z) x.last.roots) (same_called r.called calls.rel (sym r.at ∙ at)) r.rooted in
      let z = called_entry metas program sources models m terms number ground (length program.rels) x.to.by x.to.entry x.last x.to.calls calls.rel at current.roots (x.reads.roots calls.rel at)
      calls.binding calls.source in
      let e : Entry = entry_of program sources x.last.rel calls.rel true z.b in
      let has = rooted_has metas program formed sources e calls.rel at x.last refl rooted z.source.extends z.source.places in
      let call = call_from e calls.rel z.entry at calls.binding calls.partner z.reads calls.target next calls.calls in
      let on : CallsNext program sources x.last call.from = record { by = e; entry = z.entry; called = refl; roots = has; calls = call.calls } in
      record {
        last = call.from;
        to = chain_next program sources no_cycle no_deep x.last call.from x.to on;
        reads = call.reads;
        all = subst (λ xs. AllZip Made (xs ++ call.from ∷ []) ((done ++ current ∷ []) ++ next ∷ [])) (sym (next_before program sources no_cycle no_deep x.last call.from x.to on))
            (zip_push Made (x.to.before ++ x.last ∷ []) (done ++ current ∷ []) call.from next x.all (record { reads = call.reads; by = e; entry = z.entry; calls = call.calls }));
      }

  record AllRead (chain : List RelationCall) : Type 0 where
    last : EntryName
    to : ChainTo program sources last
    all : AllZip Made (to.before ++ last ∷ []) chain

  read_on : (more : List RelationCall) (done : List RelationCall) (current : RelationCall) → ChainRead done current → GoesOn program models current more → AllRead ((done ++ current ∷ []) ++ more)
  read_on [] done current x goes = subst AllRead (sym (end_nil (done ++ current ∷ []))) (record { last = x.last; to = x.to; all = x.all })
  read_on (next ∷ more) done current x goes =
      subst AllRead (append_assoc (done ++ current ∷ []) (next ∷ []) more) (read_on more (done ++ current ∷ []) next (read_next done current next x goes.0) goes.1)

  read_chain : (chain : List RelationCall) → Chain program models chain → AllRead chain
  read_chain [] reached = absurd reached
  read_chain (first ∷ more) reached = read_on more [] first (read_first first reached.0) reached.1

  pub no_cyclic : (chain : List RelationCall) → Chain program models chain → IsCyclic chain → ⊥
  no_cyclic chain reached cyclic =
      let x = read_chain chain reached in
      repeated x.last x.to (subst (λ c. AllZip Made (x.to.before ++ x.last ∷ []) c) cyclic.is x.all) cyclic.repeat
    where
      repeated : (last : EntryName) (to : ChainTo program sources last) → AllZip Made (to.before ++ last ∷ []) (cyclic.before ++ cyclic.last ∷ []) → Contains cyclic.before cyclic.last → ⊥
      repeated last to all (k, less, is) =
          let j = length cyclic.before in
          let long = length-append cyclic.before (cyclic.last ∷ []) in
          let same_long = zip_long Made (to.before ++ last ∷ []) (cyclic.before ++ cyclic.last ∷ []) all in
          let first : Made (get_or (to.before ++ last ∷ []) k last) cyclic.last =
          subst (Made (get_or (to.before ++ last ∷ []) k last)) (at_front cyclic.before cyclic.last cyclic.last k less ∙ is)
          (zip_at Made (to.before ++ last ∷ []) (cyclic.before ++ cyclic.last ∷ []) k last cyclic.last all (omega (arith, less, long))) in
          let second : Made (get_or (to.before ++ last ∷ []) j last) cyclic.last =
          subst (Made (get_or (to.before ++ last ∷ []) j last)) (at_end cyclic.before cyclic.last cyclic.last)
          (zip_at Made (to.before ++ last ∷ []) (cyclic.before ++ cyclic.last ∷ []) j last cyclic.last all (omega (arith, long))) in
          to.distinct k j last less (omega (arith, long, same_long)) (one_name (get_or (to.before ++ last ∷ []) k last) (get_or (to.before ++ last ∷ []) j last) cyclic.last first second)

  pub none_deep : (chain : List RelationCall) → Chain program models chain → IsDeep chain → ⊥
  none_deep chain reached deep =
      let x = read_chain chain reached in
      let long = zip_long Made (x.to.before ++ x.last ∷ []) chain x.all in
      let short = x.to.short in
      let calls = deep.calls in
      omega (arith, long, short, calls)
