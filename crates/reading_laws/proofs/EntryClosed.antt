-- The entries of a program over a reading: what is taken of them follows, and so do the laws on them.
use Rattle.std.specs.Prelude.{◌≡◌, ℕ, List, [], Option, None, Some, slice_get, Contains}
use Rattle.std.specs.Option.{option_and_then, option_map_or}
use Rattle.std.proofs.Common.{refl, ap, subst, ◌∙◌}
use Rattle.mof_metamodel.specs.declared.desc.MetaDesc.{MetaDesc}
use Rattle.object_tables.specs.Models.{ModelData}
use Rattle.qv_syntax.specs.declared.program.Program.{Program}
use Rattle.qv_syntax.specs.declared.program.Rel.{Rel}
use Rattle.qvtr_semantics.specs.Templates.{Values}
use Rattle.qvtr_semantics.specs.Bindings.{Target}
use Rattle.repair_semantics.specs.declared.term.Term.{Term}
use Rattle.repair_semantics.specs.declared.term.TermValue.{TermValue}
use Rattle.repair_semantics.specs.declared.term.TermValue.TheVariants as values
use Rattle.repair_semantics.specs.declared.entry.Entry.{Entry}
use Rattle.repair_semantics.specs.Terms.{term_in}
use Rattle.repair_semantics.specs.EntryValues.{value_of, term_of}
use Rattle.repair_semantics.specs.Making.{entry_known}
use Rattle.repair_semantics.specs.Entries.{IsEntry}
use Rattle.repair_semantics.specs.Demands.{demands_where}
use Rattle.reading_laws.specs.Readings.{Numbering, IsReading, AreOver, AllStand, Reads}
use Rattle.reading_laws.specs.Partners.{HasPartner}
use Rattle.reading_laws.specs.EntryPremises.{EntriesHaveTerms, EntriesAreMet, EntriesStand}
use Rattle.reading_laws.proofs.CallValues.{none_some, term_from, term_at}
use Rattle.reading_laws.proofs.PartnerClosed.{read_closed, scopes_closed}
use Rattle.reading_laws.proofs.MeetingEquations.{equations_hold}
use Rattle.reading_laws.proofs.MeetingTotal.{all_known}
use Rattle.reading_laws.proofs.MeetingTargets.{target_met}
use Rattle.reading_laws.proofs.EntryRoots.{IsRooted, entry_rooted}
use Rattle.reading_laws.proofs.EntryKnown.{known_extends}
use Rattle.reading_laws.proofs.EntryTaken.{universal_taken}
use Rattle.reading_laws.proofs.EntryGround.{Ground}

module _ (metas : List MetaDesc) (program : Program) (sources models : List ModelData) (m : ModelData) (terms : List Term) (number : Numbering)
    (over : AreOver metas program sources models m) (reading : IsReading program m terms number) (among : EntriesHaveTerms program sources m terms)
    (met : EntriesAreMet program sources) where
  rooted : (e : Entry) (rel : Rel) → IsEntry program sources e → slice_get program.rels e.rel ≡ Some rel → IsRooted metas program sources over.over_sources over.enforceable e rel
  rooted e rel is found = entry_rooted metas program sources over.over_sources over.enforceable e is rel found

  -- the terms of the binding of an entry are among those of the reading
  own_among : (e : Entry) (rel : Rel) → IsEntry program sources e → slice_get program.rels e.rel ≡ Some rel → (v : ℕ) (t : Term) → term_of e.values v ≡ Some t → Contains terms t
  own_among e rel is found v t at = by (value_of e.values v) refl at
    where
      by : (o : Option TermValue) → value_of e.values v ≡ o → option_and_then term_in o ≡ Some t → Contains terms t
      by None there h = absurd (none_some t h)
      by (Some x) there h =
          (among e rel is found).among v t
          (term_at (entry_known program sources rel e.values).values v t
          (known_extends program sources rel e.values (rooted e rel is found).source.places v (values.Term t) (there ∙ ap (λ z. Some z) (term_from x t h))))

  partner : (e : Entry) (rel : Rel) (is : IsEntry program sources e) (found : slice_get program.rels e.rel ≡ Some rel) (c g : Values) → Reads program number e.values c → Target program models rel c g
      → HasPartner metas program sources models m terms number rel (rooted e rel is found).roots e.values c g
  partner e rel is found c g reads target =
      let r = rooted e rel is found in record {
        over = over;
        reading = reading;
        place = e.rel;
        found = found;
        direction = r.direction;
        source = r.source;
        rooted = r.has;
        among = own_among e rel is found;
        reads = reads;
        target = target;
      }

  pub ground : Ground metas program sources models m terms number
  ground = record {
    over = over;
    reading = reading;
    taken = λ place rel found towards v u. universal_taken metas program over.evaluable.well over.enforceable place rel found towards v u;
    among = among;
    met = met;
    total = λ e rel is found v less.
        let r = rooted e rel is found in
        all_known metas program sources models m over e.rel rel found r.direction r.roots e.values r.source r.has (met e rel is found) v less;
    partners = λ e rel is found c g reads target.
        read_closed metas program sources models m terms number rel (rooted e rel is found).roots e.values c g (partner e rel is found c g reads target) (met e rel is found);
    scopes = λ e rel is found c g reads target v outside.
        scopes_closed metas program sources models m terms number rel (rooted e rel is found).roots e.values c g (partner e rel is found c g reads target) v outside;
  }

  -- where the demands of entries stand they meet their targets
  pub meets : EntriesStand program sources m number → (e : Entry) (rel : Rel) → IsEntry program sources e → slice_get program.rels e.rel ≡ Some rel → (c g : Values) → Reads program number e.values c
      → Reads program number (entry_known program sources rel e.values).values g → Target program models rel c g
  meets stand e rel is found c g reads made =
      let r = rooted e rel is found in
      let s = stand e is in
      target_met metas program sources models m terms number rel r.roots e.values c g (record {
        over = over;
        reading = reading;
        place = e.rel;
        found = found;
        direction = r.direction;
        source = r.source;
        own = r.has;
        among = among e rel is found;
        met = met e rel is found;
        reads = reads;
        made = made;
        equations = equations_hold metas program sources over.over_sources over.enforceable e.rel rel found r.direction r.roots e.values r.source r.has;
        total = all_known metas program sources models m over e.rel rel found r.direction r.roots e.values r.source r.has (met e rel is found);
      }) s.0 (subst (λ o. AllStand program m number (option_map_or (λ q. demands_where program sources s.0 q (entry_known program sources q e.values)) o [])) found s.1)
