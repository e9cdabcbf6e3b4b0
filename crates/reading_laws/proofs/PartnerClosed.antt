-- The laws of partners, where rounds are enough: equations hold in an entry's scope, and each variable of one that isn't unmet has a value.
use Rattle.std.specs.Prelude.{◌≡◌, ℕ, false, List, Some, Contains}
use Rattle.mof_metamodel.specs.declared.desc.MetaDesc.{MetaDesc}
use Rattle.object_tables.specs.Models.{ModelData}
use Rattle.qv_syntax.specs.declared.typed.Typed.{Typed}
use Rattle.qv_syntax.specs.declared.program.Program.{Program}
use Rattle.qv_syntax.specs.declared.program.Rel.{Rel}
use Rattle.qv_syntax.specs.declared.program.Conj.TheVariants as conjuncts
use Rattle.qvtr_semantics.specs.Expressions.{variable, scope_of, value}
use Rattle.qvtr_semantics.specs.Templates.{Values}
use Rattle.template_match.specs.Sources.{is_target_variable}
use Rattle.source_laws.specs.SourceRelations.{KeepsToSources}
use Rattle.source_laws.proofs.RuleLaws.{rule_keeps}
use Rattle.enforceable_sources.proofs.EnforceableLaws.{enforceable_hands_on}
use Rattle.repair_semantics.specs.declared.term.Term.{Term}
use Rattle.repair_semantics.specs.declared.term.TermValue.TheVariants as values
use Rattle.repair_semantics.specs.EntryValues.{TermValues, term_of}
use Rattle.repair_semantics.specs.Making.{entry_scope, entry_known}
use Rattle.repair_semantics.specs.Unmet.{is_unmet}
use Rattle.reading_laws.specs.Readings.{Numbering, Reads}
use Rattle.reading_laws.specs.Partners.{HasPartner}
use Rattle.reading_laws.proofs.PartnerValues.{IsPartnered}
use Rattle.reading_laws.proofs.PartnerEquations.{scope_is_read}
use Rattle.reading_laws.proofs.PartnerLaws.{made_among, partner_read}
use Rattle.reading_laws.proofs.MeetingTypes.{datum_apart}
use Rattle.reading_laws.proofs.MeetingEquations.{equations_hold}
use Rattle.reading_laws.proofs.MeetingTotal.{all_known}

module _ (metas : List MetaDesc) (program : Program) (sources models : List ModelData) (m : ModelData) (terms : List Term) (number : Numbering) (rel : Rel) (roots b : TermValues) (c g : Values)
    (h : HasPartner metas program sources models m terms number rel roots b c g) where
  keeps : KeepsToSources program rel
  keeps = rule_keeps metas program h.over.evaluable.well h.place rel h.found (enforceable_hands_on metas program h.over.evaluable.well h.place rel h.over.enforceable h.found h.direction)

  partnered : IsPartnered metas program sources models m terms number rel roots b c g
  partnered = record {
    over = h.over;
    reading = h.reading;
    place = h.place;
    found = h.found;
    direction = h.direction;
    source = h.source;
    reads = h.reads;
    target = h.target;
    own = datum_apart metas program sources h.over.over_sources h.place rel h.found keeps roots b h.source h.rooted;
    handed = λ not_top dom of. let (t, at) = h.rooted.handed not_top dom of in (values.Term t, h.source.extends dom.root (values.Term t) at);
    among = h.among;
  }

  hold : (v : ℕ) (e : Typed) → Contains rel.wheres (conjuncts.Equation v e) → variable (entry_scope program sources rel b) v ≡ value program sources e (entry_scope program sources rel b)
  hold = equations_hold metas program sources h.over.over_sources h.over.enforceable h.place rel h.found h.direction roots b h.source h.rooted

  pub read_closed : is_unmet program sources rel (entry_known program sources rel b) ≡ false → Reads program number (entry_known program sources rel b).values g
  read_closed met = partner_read metas program sources models m terms number rel roots b c g partnered hold
      (all_known metas program sources models m h.over h.place rel h.found h.direction roots b h.source h.rooted met)

  pub among_closed : (v : ℕ) (t : Term) → term_of (entry_known program sources rel b).values v ≡ Some t → Contains terms t
  among_closed = made_among metas program sources models m terms number rel roots b c g partnered hold

  pub scopes_closed : (v : ℕ) → is_target_variable program rel v ≡ false → variable (entry_known program sources rel b).scope v ≡ variable (scope_of g) v
  scopes_closed = scope_is_read metas program sources models m terms number rel roots b c g partnered hold
