-- Of a binding that meets the source of a relation there is a twin that meets it over the other models.
use Rattle.std.specs.Prelude.{◌≡◌, ◌⊎◌, ◌&&◌, ℕ, true, not, List, Some, slice_get, Contains}
use Rattle.std.specs.List.{list_all}
use Rattle.std.proofs.Common.{sym, ap, ◌∙◌, inl, inr}
use Rattle.std.proofs.lemmas.Bool.{and_parts, and_from}
use Rattle.object_tables.specs.Models.{ModelData}
use Rattle.object_tables.proofs.ListLemmas.{Contains-filter}
use Rattle.qv_syntax.specs.declared.program.Program.{Program}
use Rattle.qv_syntax.specs.declared.program.Rel.{Rel}
use Rattle.qv_syntax.specs.Directions.{AreMeant}
use Rattle.qvtr_semantics.specs.declared.datum.Datum.{Datum}
use Rattle.qvtr_semantics.specs.Expressions.{setting}
use Rattle.qvtr_semantics.specs.Templates.{Values, value_at}
use Rattle.qvtr_semantics.specs.Bindings.{is_value_for, have_values, source_meets, conjunct_holds, Source}
use Rattle.template_match.specs.Sources.{is_target_variable, source_variables}
use Rattle.template_match.proofs.ListLaws.{list_all_at}
use Rattle.source_laws.specs.SourceValues.{IsOfSources}
use Rattle.source_laws.specs.SourceRelations.{KeepsToSources, IsApart}
use Rattle.source_laws.proofs.BindingLaws.{domains_same, whens_same}
use Rattle.reading_laws.proofs.ItemLaws.{all_from}
use Rattle.same_targets.proofs.Twins.{Pairing, IsTwinning, twin_once}
use Rattle.same_targets.proofs.TwinBindings.{AreTwins, twin_there, twin_back, twin_binding, twins_agree}
use Rattle.same_targets.proofs.TwinVariables.{have_alike, had_twin, had_apart}

-- a twin of a binding that meets the source
pub record SourceTwin (program : Program) (ns : List ModelData) (R : Pairing) (rel : Rel) (others b : Values) : Type 0 where
  pub binding : Values
  pub twins : AreTwins R b binding
  pub source : Source program ns rel others binding

module _ (program : Program) (ms ns : List ModelData) (R : Pairing) (i : IsTwinning program ms ns R) (number : ℕ) (rel : Rel) (meant : AreMeant program)
    (found : slice_get program.rels number ≡ Some rel) (keeps : KeepsToSources program rel) (roots b : Values) (apart : IsApart program rel roots)
    (source : Source program ms rel roots b)
  where
    have_domains : (have_values program ms rel rel.universal b && list_all (source_meets program ms b) rel.domains) ≡ true
    have_domains =
        (and_parts (have_values program ms rel rel.universal b && list_all (source_meets program ms b) rel.domains) (list_all (conjunct_holds program ms b) rel.whens) source.meets).0

    have : have_values program ms rel rel.universal b ≡ true
    have = (and_parts (have_values program ms rel rel.universal b) (list_all (source_meets program ms b) rel.domains) have_domains).0

    domains : list_all (source_meets program ms b) rel.domains ≡ true
    domains = (and_parts (have_values program ms rel rel.universal b) (list_all (source_meets program ms b) rel.domains) have_domains).1

    whens : list_all (conjunct_holds program ms b) rel.whens ≡ true
    whens =
        (and_parts (have_values program ms rel rel.universal b && list_all (source_meets program ms b) rel.domains) (list_all (conjunct_holds program ms b) rel.whens) source.meets).1

    have_sources : have_values program ms rel (source_variables program rel) b ≡ true
    have_sources =
        all_from (λ v. is_value_for (setting program ms) (slice_get rel.vars v) (value_at b v)) (source_variables program rel)
        (λ v has. list_all_at (λ w. is_value_for (setting program ms) (slice_get rel.vars w) (value_at b w)) rel.universal v have
        (Contains-filter (λ w. not (is_target_variable program rel w)) rel.universal v has))

    -- only the variables for objects of the target have such objects in it
    pub binding_apart : IsApart program rel b
    binding_apart v d outside at = by (source.no_others v d at)
      where
        by : Contains rel.universal v ⊎ (value_at roots v ≡ Some d) → IsOfSources program.target d
        by (inl has) = had_apart program ms ns R i rel rel.universal b have v d has at outside
        by (inr is) = apart v d outside is

    module _ (others : Values) (roots_twins : AreTwins R roots others) where
      twin_value : (v : ℕ) (d : Datum) → value_at b v ≡ Some d → (e : Datum) × R d e
      twin_value v d at = by (source.no_others v d at)
        where
          by : Contains rel.universal v ⊎ (value_at roots v ≡ Some d) → (e : Datum) × R d e
          by (inl has) = had_twin program ms ns R i rel rel.universal b have v d has at
          by (inr is) = let e = twin_there R roots others roots_twins v d is in (e.0, e.2)

      pub source_there : SourceTwin program ns R rel others b
      source_there = record { binding = c.0; twins = c.1; source = there }
        where
          c : (x : Values) × AreTwins R b x
          c = twin_binding R b twin_value

          extends : (v : ℕ) (d : Datum) → value_at others v ≡ Some d → value_at c.0 v ≡ Some d
          extends v d at =
              let root = twin_back R roots others roots_twins v d at in
              let value = twin_there R b c.0 c.1 v root.0 (source.extends v root.0 root.1) in
              value.1 ∙ ap (λ (x : Datum). Some x) (twin_once program ms ns R i root.0 value.0 d value.2 root.2)

          others_by : (v : ℕ) (d e : Datum) → R d e → Contains rel.universal v ⊎ (value_at roots v ≡ Some d) → Contains rel.universal v ⊎ (value_at others v ≡ Some e)
          others_by v d e r (inl has) = inl has
          others_by v d e r (inr is) =
              let root = twin_there R roots others roots_twins v d is in
              inr (root.1 ∙ ap (λ (x : Datum). Some x) (twin_once program ms ns R i d root.0 e root.2 r))

          no_others : (v : ℕ) (e : Datum) → value_at c.0 v ≡ Some e → Contains rel.universal v ⊎ (value_at others v ≡ Some e)
          no_others v e at = let value = twin_back R b c.0 c.1 v e at in others_by v value.0 e value.2 (source.no_others v value.0 value.1)

          have_there : have_values program ns rel rel.universal c.0 ≡ true
          have_there = sym (have_alike program ms ns R i rel rel.universal b c.0 c.1) ∙ have

          domains_there : list_all (source_meets program ns c.0) rel.domains ≡ true
          domains_there =
              sym (domains_same program ms ns i.agree number rel meant found keeps b c.0 (twins_agree program ms ns R i rel b c.0 binding_apart c.1) source.places have_sources) ∙ domains

          whens_there : list_all (conjunct_holds program ns c.0) rel.whens ≡ true
          whens_there =
              sym (whens_same program ms ns i.agree number rel meant found keeps b c.0 (twins_agree program ms ns R i rel b c.0 binding_apart c.1) source.places have_sources) ∙ whens

          there : Source program ns rel others c.0
          there = record {
            places = sym c.1.places ∙ source.places;
            extends = extends;
            no_others = no_others;
            meets = and_from (have_values program ns rel rel.universal c.0 && list_all (source_meets program ns c.0) rel.domains) (list_all (conjunct_holds program ns c.0) rel.whens)
                (and_from (have_values program ns rel rel.universal c.0) (list_all (source_meets program ns c.0) rel.domains) have_there domains_there) whens_there;
          }
