-- Chains of calls between entries, and unmet entries, over models that have the same entries with the same calls.
use Rattle.std.specs.Prelude.{◌≡◌, List, [], ◌∷◌, ◌++◌, Some, slice_get, Contains}
use Rattle.std.proofs.Common.{sym, ◌∙◌, subst}
use Rattle.mof_metamodel.specs.declared.desc.MetaDesc.{MetaDesc}
use Rattle.object_tables.specs.Models.{ModelData}
use Rattle.qv_syntax.specs.declared.program.Program.{Program}
use Rattle.qv_syntax.specs.declared.program.Rel.{Rel}
use Rattle.evaluation_laws.specs.Evaluable.{IsEvaluable}
use Rattle.enforcement_rules.specs.Rules.{IsEnforceable}
use Rattle.source_laws.specs.Agreement.{AgreeBut}
use Rattle.repair_semantics.specs.declared.entry.Entry.{Entry}
use Rattle.repair_semantics.specs.declared.entry.EntryName.{EntryName}
use Rattle.repair_semantics.specs.TargetItems.{target_metamodel}
use Rattle.repair_semantics.specs.Making.{entry_known}
use Rattle.repair_semantics.specs.Unmet.{is_unmet}
use Rattle.repair_semantics.specs.Entries.{IsEntry, entry_calls}
use Rattle.repair_semantics.specs.EntryChains.{BeginsEntries, CallsNext, GoesOnEntries, EntryChain, CyclicEntries, DeepEntries, IsCalledInTime, IsUnmet}
use Rattle.repair_semantics.specs.EntryOrder.{AreEntries}
use Rattle.demand_sources.proofs.EntriesMoved.{entry_moved, entry_back, entry_calls_same, unmet_as}

module _ (program : Program) (ms ns : List ModelData) (entries : (e : Entry) → IsEntry program ms e → IsEntry program ns e)
    (calls : (e : Entry) → IsEntry program ms e → entry_calls program ms e ≡ entry_calls program ns e) where
  begins : (to : EntryName) → BeginsEntries program ms to → BeginsEntries program ns to
  begins to b = record { from = b.from; entry = entries b.from b.entry; top = b.top; calls = subst (λ cs. Contains cs to) (calls b.from b.entry) b.calls }

  next : (from to : EntryName) → CallsNext program ms from to → CallsNext program ns from to
  next from to n = record { by = n.by; entry = entries n.by n.entry; called = n.called; roots = n.roots; calls = subst (λ cs. Contains cs to) (calls n.by n.entry) n.calls }

  goes_on : (from : EntryName) (more : List EntryName) → GoesOnEntries program ms from more → GoesOnEntries program ns from more
  goes_on from [] g = tt
  goes_on from (to ∷ more) g = (next from to g.0, goes_on to more g.1)

  pub chain_moved : (chain : List EntryName) → EntryChain program ms chain → EntryChain program ns chain
  chain_moved [] c = c
  chain_moved (first ∷ more) c = (begins first c.0, goes_on first more c.1)

  cyclic_moved : (chain : List EntryName) → CyclicEntries program ms chain → CyclicEntries program ns chain
  cyclic_moved chain c = record { reached = chain_moved chain c.reached; cyclic = c.cyclic }

  deep_moved : (chain : List EntryName) → DeepEntries program ms chain → DeepEntries program ns chain
  deep_moved chain c = record { reached = chain_moved chain c.reached; deep = c.deep }

  unmet_moved : ((e : Entry) (rel : Rel) → IsEntry program ms e → slice_get program.rels e.rel ≡ Some rel
      → is_unmet program ms rel (entry_known program ms rel e.values) ≡ is_unmet program ns rel (entry_known program ns rel e.values))
      → (e : Entry) → IsUnmet program ms e → IsUnmet program ns e
  unmet_moved same e u = record {
    is = entries e u.is;
    in_time = λ called.
        let t : IsCalledInTime program ms e = u.in_time called in
        record { before = t.before; last = t.last; reached = chain_moved (t.before ++ t.last ∷ []) t.reached; short = t.short; roots = t.roots };
    rel = u.rel;
    found = u.found;
    unmet = sym (same e u.rel u.is u.found) ∙ u.unmet;
  }

module _ (metas : List MetaDesc) (program : Program) (ms ns : List ModelData) (evaluable : IsEvaluable metas program ms) (enforceable : IsEnforceable metas program)
    (agree : AgreeBut program.target ms ns) (meta : target_metamodel program ms ≡ target_metamodel program ns) where
  to : (e : Entry) → IsEntry program ms e → IsEntry program ns e
  to = entry_moved metas program ms ns evaluable enforceable agree meta

  back : (e : Entry) → IsEntry program ns e → IsEntry program ms e
  back = entry_back metas program ms ns evaluable enforceable agree meta

  calls_to : (e : Entry) → IsEntry program ms e → entry_calls program ms e ≡ entry_calls program ns e
  calls_to = entry_calls_same metas program ms ns evaluable enforceable agree meta

  calls_back : (e : Entry) → IsEntry program ns e → entry_calls program ns e ≡ entry_calls program ms e
  calls_back e is = sym (calls_to e (back e is))

  pub cyclic_to : (chain : List EntryName) → CyclicEntries program ms chain → CyclicEntries program ns chain
  cyclic_to = cyclic_moved program ms ns to calls_to

  pub cyclic_back : (chain : List EntryName) → CyclicEntries program ns chain → CyclicEntries program ms chain
  cyclic_back = cyclic_moved program ns ms back calls_back

  pub deep_to : (chain : List EntryName) → DeepEntries program ms chain → DeepEntries program ns chain
  deep_to = deep_moved program ms ns to calls_to

  pub deep_back : (chain : List EntryName) → DeepEntries program ns chain → DeepEntries program ms chain
  deep_back = deep_moved program ns ms back calls_back

  pub unmet_to : (e : Entry) → IsUnmet program ms e → IsUnmet program ns e
  unmet_to = unmet_moved program ms ns to calls_to (unmet_as metas program ms ns evaluable enforceable agree meta)

  pub unmet_back : (e : Entry) → IsUnmet program ns e → IsUnmet program ms e
  unmet_back = unmet_moved program ns ms back calls_back (λ e rel is found. sym (unmet_as metas program ms ns evaluable enforceable agree meta e rel (back e is) found))

  pub are_to : (entries : List Entry) → AreEntries program ms entries → AreEntries program ns entries
  are_to entries a = record { sorted = a.sorted; only = λ e c. to e (a.only e c); all = λ e is. a.all e (back e is) }

  pub are_back : (entries : List Entry) → AreEntries program ns entries → AreEntries program ms entries
  are_back entries a = record { sorted = a.sorted; only = λ e c. back e (a.only e c); all = λ e is. a.all e (to e is) }
