-- Wrong ends of a walk, which the definitions exclude.
use Rattle.std.specs.Prelude.{◌≡◌, ◌≤◌, false, List, [], ◌∷◌, ◌++◌, length, Contains}
use Rattle.std.specs.Option.{option_map_or}
use Rattle.std.proofs.Common.{refl, sym, ap, ◌∙◌, arith}
use Rattle.std.proofs.lemmas.Bool.{true≢false}
use Rattle.std.proofs.lemmas.List.{length-map}
use Rattle.mof_metamodel.proofs.Facts.{nothing_in}
use Rattle.object_tables.specs.Models.{ModelData}
use Rattle.qv_syntax.specs.declared.program.Program.{Program}
use Rattle.qv_syntax.specs.declared.program.Rel.{Rel}
use Rattle.qvtr_semantics.specs.declared.limits.TheConstants.{MAX_CALLS}
use Rattle.repair_semantics.specs.declared.term.Term.{Term}
use Rattle.repair_semantics.specs.declared.entry.Entry.{Entry}
use Rattle.repair_semantics.specs.declared.entry.EntryName.{EntryName}
use Rattle.repair_semantics.specs.Making.{entry_known}
use Rattle.repair_semantics.specs.Unmet.{is_unmet}
use Rattle.repair_semantics.specs.Entries.{IsEntry}
use Rattle.repair_semantics.specs.EntryChains.{CyclicEntries}
use Rattle.entry_making.specs.declared.numbered_call.NumberedCall.{NumberedCall}
use Rattle.entry_making.specs.CallNumbers.{call_of}
use Rattle.entry_finding.specs.declared.numbered_entry.NumberedEntry.{NumberedEntry}
use Rattle.entry_finding.specs.declared.found.UnmetEntry.{UnmetEntry}
use Rattle.entry_finding.specs.Found.{entry_in, entries_in, is_entry_unmet}
use Rattle.entry_walk.specs.declared.ends.WalkEnd.TheVariants as ends
use Rattle.entry_walk.specs.Ends.{IsWalkEnd}

module _ (program : Program) (models : List ModelData) (terms : List Term) where
  -- an entry is left out
  left_out : (es : List NumberedEntry) (e : Entry) → IsEntry program models e → ¬ Contains (entries_in terms es) e → IsWalkEnd program models terms (ends.Whole es) → ⊥
  left_out es e is out end = out ((end.exact e).0 is)

  -- an entry stands there twice
  told_twice : (e : NumberedEntry) → IsWalkEnd program models terms (ends.Whole (e ∷ e ∷ [])) → ⊥
  told_twice e end = end.distinct 0 1 (entry_in terms e) (omega arith) (omega arith) refl

  -- entries are told where a chain of calls comes back to one of them
  cycle_passed : (es : List NumberedEntry) (chain : List EntryName) → CyclicEntries program models chain → IsWalkEnd program models terms (ends.Whole es) → ⊥
  cycle_passed es chain cyclic end = end.acyclic chain cyclic

  -- one call is told as a cycle
  one_call : (c : NumberedCall) → IsWalkEnd program models terms (ends.Cycle (c ∷ [])) → ⊥
  one_call c end = by end.0.cyclic.before end.0.cyclic.last end.0.cyclic.is end.0.cyclic.repeat
    where
      by : (before : List EntryName) (last : EntryName) → call_of terms c ∷ [] ≡ before ++ last ∷ [] → Contains before last → ⊥
      by [] last is repeat = nothing_in last repeat
      by (d ∷ []) last is repeat = let rest : [] ≡ last ∷ [] = cc in absurd (cc)
      by (d ∷ e ∷ before) last is repeat = let rest : [] ≡ e ∷ (before ++ last ∷ []) = cc in absurd (cc)

  -- a chain is told as too long that a program may have
  short_chain : (chain : List NumberedCall) → length chain ≤ MAX_CALLS → IsWalkEnd program models terms (ends.Deep chain) → ⊥
  short_chain chain short end = let long = end.0.deep.calls in let same = length-map chain (call_of terms) in absurd (omega (arith, short, long, same))

  -- an entry is told as unmet that is met
  met_told : (u : UnmetEntry) → is_entry_unmet program models (entry_in terms u.entry) ≡ false → IsWalkEnd program models terms (ends.Unmet u) → ⊥
  met_told u met end =
      let e = entry_in terms u.entry in
      let f = ap (λ o. option_map_or (λ (rel : Rel). is_unmet program models rel (entry_known program models rel e.values)) o false) end.0.found in
      true≢false (sym end.0.unmet ∙ sym f ∙ met)
