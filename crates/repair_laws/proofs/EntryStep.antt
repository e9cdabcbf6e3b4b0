-- One entry: each term that it has is demanded, with its key values, and is of a class that is a kind of its variable's, where this is so of its
-- matches and of the roots that are handed on to it.
use Rattle.std.specs.Prelude.{◌≡◌, ◌≢◌, ◌<◌, ◌⊎◌, ℕ, Bool, true, false, not, List, [], ◌++◌, length, None, Some, slice_get, Contains, if◌then◌else◌}
use Rattle.std.specs.List.{filter_map}
use Rattle.std.specs.Option.{option_and_then, option_to_list}
use Rattle.std.proofs.Common.{refl, ap, sym, ◌∙◌, subst, inl, inr, true≢false}
use Rattle.std.proofs.lemmas.Option.{none-some, same_Some, slice_get_within}
use Rattle.mof_metamodel.specs.declared.desc.MetaDesc.{MetaDesc}
use Rattle.mof_metamodel.specs.Metamodels.{class_count}
use Rattle.mof_metamodel.proofs.PropLemmas.{to_flat_map}
use Rattle.object_tables.specs.Models.{ModelData}
use Rattle.object_tables.proofs.SlotLemmas.{Contains-to_filter}
use Rattle.qv_syntax.specs.declared.typed.Typed.{Typed}
use Rattle.qv_syntax.specs.declared.program.Program.{Program}
use Rattle.qv_syntax.specs.declared.program.Rel.{Rel}
use Rattle.qv_syntax.specs.declared.program.Var.{Var}
use Rattle.qv_syntax.specs.declared.program.Conj.TheVariants as conjuncts
use Rattle.qv_syntax.specs.WellFormed.{IsWellFormed}
use Rattle.qvtr_semantics.specs.declared.datum.Datum.{Datum}
use Rattle.qvtr_semantics.specs.Outs.{datum_of}
use Rattle.qvtr_semantics.specs.Objects.{is_number_among, is_kind_of}
use Rattle.qvtr_semantics.specs.Expressions.{variable}
use Rattle.qvtr_semantics.specs.Templates.{value_at}
use Rattle.template_match.specs.Sources.{is_target_variable, source_variables}
use Rattle.template_match.proofs.ListLaws.{contains_left, contains_right}
use Rattle.mof_metamodel.proofs.Facts.{contains_first, contains_at}
use Rattle.enforcement_rules.specs.TargetParts.{target_desc}
use Rattle.enforcement_rules.specs.Calls.{IsPassedInWhen, HasWrongArgument}
use Rattle.enforcement_rules.specs.Rules.{Breaks, IsEnforceable}
use Rattle.enforcement_rules.proofs.ExpressionLaws.{is_alone}
use Rattle.enforcement_rules.proofs.RuleLaws.{kept_by_each}
use Rattle.repair_semantics.specs.declared.term.Term.{Term, roll-Term, out-Term, out-roll-Term}
use Rattle.repair_semantics.specs.declared.term.TermValue.{TermValue}
use Rattle.repair_semantics.specs.declared.term.TermValue.TheOpen as of
use Rattle.repair_semantics.specs.declared.term.TermValue.TheVariants as values
use Rattle.repair_semantics.specs.declared.entry.Entry.{Entry}
use Rattle.repair_semantics.specs.declared.demand.Demand.{Demand}
use Rattle.repair_semantics.specs.Terms.{datum_in, term_in}
use Rattle.repair_semantics.specs.EntryValues.{TermValues, value_of, data_in, Known, given_out}
use Rattle.repair_semantics.specs.TargetItems.{Content, TargetItem, variable_of, target_root, target_items, nested_variables, class_in, class_of_variable, target_metamodel, key_of}
use Rattle.repair_semantics.specs.Making.{entry_scope, entry_known}
use Rattle.repair_semantics.specs.Entries.{IsUniversalTarget, IsEntryWith, IsEntry}
use Rattle.repair_semantics.specs.Deletions.{root_if_top, managed_variables, classes_in, managed_classes}
use Rattle.repair_laws.specs.DemandedKeys.{AreDemandedAt, IsInDemands, IsDemandedByKey}
use Rattle.repair_laws.proofs.DemandLaws.{in_filter_map}
use Rattle.repair_laws.proofs.ManagedLaws.{from_filter}
use Rattle.repair_laws.proofs.MadeTerms.{IsMadeBy, IsKnownBy, known_cases}
use Rattle.repair_laws.proofs.EntryDemands.{IsGivenBy, Demanded, first_given, all_demanded, in_demands}
use Rattle.repair_laws.proofs.MatchedRoots.{IsMatched, matched_root}
use Rattle.repair_laws.proofs.EntryTerms.{given_datum, term_itself, term_is, one_of_two, either_one, data_at, datum_from, equation_there, equation_place}
use Rattle.repair_laws.proofs.TargetVariables.{number_among, target_variable, variable_target, keyed_within, keyed_some, kind_itself, HasTemplate, template_given, meant, universal_among, existential_among}

-- ---- what is said of terms

-- the term is demanded, and so are its key values
pub record IsTold (program : Program) (meta : MetaDesc) (demands : List Demand) (t : Term) : Type 0 where
  pub in_demands : IsInDemands demands t
  pub key : IsDemandedByKey program meta demands t

-- it is of a class that is a kind of the variable's
abbrev pub IsTypedFor : MetaDesc → Rel → ℕ → Term → Type 0
IsTypedFor meta rel v t = (class : ℕ) → class_of_variable rel v ≡ Some class → is_kind_of meta (out-Term t).class.0 class ≡ true

pub record IsGoodTerm (program : Program) (meta : MetaDesc) (demands : List Demand) (rel : Rel) (v : ℕ) (t : Term) : Type 0 where
  pub told : IsTold program meta demands t
  pub target : is_target_variable program rel v ≡ true
  pub typed : IsTypedFor meta rel v t

-- so it is of the terms of an entry, and no variable for objects of the target has a datum
pub record AreGoodValues (program : Program) (meta : MetaDesc) (demands : List Demand) (rel : Rel) (b : TermValues) : Type 0 where
  pub terms : (v : ℕ) (x : TermValue) (t : Term) → value_of b v ≡ Some x → term_in x ≡ Some t → IsGoodTerm program meta demands rel v t
  pub outside : (v : ℕ) (x : TermValue) (d : Datum) → value_of b v ≡ Some x → datum_in x ≡ Some d → is_target_variable program rel v ≡ false

-- so it is of roots that are handed on
pub record AreGoodRoots (program : Program) (meta : MetaDesc) (demands : List Demand) (rel : Rel) (roots : TermValues) : Type 0 where
  pub told : (v : ℕ) (x : TermValue) (t : Term) → value_of roots v ≡ Some x → term_in x ≡ Some t → IsTold program meta demands t
  pub target : (v : ℕ) (x : TermValue) (t : Term) → value_of roots v ≡ Some x → term_in x ≡ Some t → is_target_variable program rel v ≡ true
  pub typed : (v : ℕ) (x : TermValue) (t : Term) → value_of roots v ≡ Some x → term_in x ≡ Some t → IsTypedFor meta rel v t
  pub outside : (v : ℕ) (x : TermValue) (d : Datum) → value_of roots v ≡ Some x → datum_in x ≡ Some d → is_target_variable program rel v ≡ false
  pub universal : (v : ℕ) (x : TermValue) (d : Datum) → value_of roots v ≡ Some x → datum_in x ≡ Some d → Contains rel.universal v
  pub handed : rel.top ≡ false → (v : ℕ) → target_root program rel ≡ Some v → (x : TermValue) × (value_of roots v ≡ Some x)

module _ (metas : List MetaDesc) (program : Program) (formed : IsWellFormed metas program) (enforceable : IsEnforceable metas program)
    (sources : List ModelData) (m : ModelData) (meta_is : target_metamodel program sources ≡ m.meta) (desc : target_desc metas program ≡ m.meta) (demands : List Demand)
    (asked : (e : Entry) (rel : Rel) → IsEntry program sources e → slice_get program.rels e.rel ≡ Some rel → (number : ℕ) × Demanded program sources rel (entry_known program sources rel e.values) demands number) where
  abbrev Good : Rel → ℕ → Term → Type 0
  Good rel v t = IsGoodTerm program m.meta demands rel v t

  abbrev GoodEntry : Entry → Rel → Type 0
  GoodEntry e rel = AreGoodValues program m.meta demands rel (entry_known program sources rel e.values).values

  module _ (e : Entry) (number : ℕ) (rel : Rel) (called : Bool) (roots : TermValues) (matches : List Entry) (found : slice_get program.rels number ≡ Some rel) (direction : rel.in_direction ≡ true)
      (with : IsEntryWith program sources number rel called roots matches e) (is_entry : IsEntry program sources e)
      (entries : (x : Entry) → Contains matches x → IsEntry program sources x) (each : (x : Entry) → Contains matches x → (r : Rel) → slice_get program.rels x.rel ≡ Some r → GoodEntry x r)
      (given : AreGoodRoots program m.meta demands rel roots) where
    abbrev k : Known
    k = entry_known program sources rel e.values

    kept : (rule : ℕ) → Breaks metas program rel rule → ⊥
    kept rule = kept_by_each metas program number rule rel enforceable found direction

    -- ---- universal variables: by a match

    abbrev HasMatch : ℕ → Term → Type 0
    HasMatch v t = IsMatched metas program formed enforceable sources number rel found direction e.values matches with.whens entries v t

    matched_good : (v : ℕ) (t : Term) (h : HasMatch v t) → Good h.callee h.dom.root t
    matched_good v t h = (each h.match h.among h.callee h.found_callee).terms h.dom.root (values.Term t) t h.root (term_itself t)

    -- E10: the class is the same
    typed_by_match : (v : ℕ) (t : Term) → HasMatch v t → IsTypedFor m.meta rel v t
    typed_by_match v t h class class_is = by (is_kind_of m.meta (out-Term t).class.0 class) refl
      where
        passed : IsPassedInWhen program rel h.callee h.dom h.e → is_kind_of m.meta (out-Term t).class.0 class ≡ true
        passed p =
            let y = p.types in
            let same : y.v ≡ v = same_Some y.v v (sym (is_alone h.e y.alone.0 y.v y.alone.1) ∙ is_alone h.e h.alone.0 v h.alone.1) in
            (matched_good v t h).typed class (
            ap (option_and_then (λ (var : Var). class_in var.ty)) y.root_found ∙ ap class_in (y.root_typed ∙ sym y.typed)
            ∙ sym (ap (option_and_then (λ (var : Var). class_in var.ty)) y.found) ∙ ap (class_of_variable rel) same ∙ class_is)

        by : (b : Bool) → is_kind_of m.meta (out-Term t).class.0 class ≡ b → is_kind_of m.meta (out-Term t).class.0 class ≡ true
        by true is = is
        by false is = absurd (kept 10 (Breaks.e10 refl (HasWrongArgument.of_when h.callee h.dom h.e h.argument (λ p. true≢false (sym (passed p) ∙ is)))))

    universal_term : (v : ℕ) (t : Term) → IsUniversalTarget program rel v → value_of e.values v ≡ Some (values.Term t) → Good rel v t
    universal_term v t u at =
        let h = matched_root metas program formed enforceable sources number rel found direction e.values matches with.whens entries v t u at in
        record { told = (matched_good v t h).told; target = u.target; typed = typed_by_match v t h }

    -- ---- values of the binding

    own_term : (v : ℕ) (x : TermValue) (t : Term) → value_of e.values v ≡ Some x → term_in x ≡ Some t → Good rel v t
    own_term v x t at is = by (with.source.no_others v t here)
      where
        here : value_of e.values v ≡ Some (values.Term t)
        here = at ∙ ap (λ y. Some y) (term_is x t is)

        by : IsUniversalTarget program rel v ⊎ (value_of roots v ≡ Some (values.Term t)) → Good rel v t
        by (inl u) = universal_term v t u here
        by (inr r) = record {
          told = given.told v (values.Term t) t r (term_itself t);
          target = given.target v (values.Term t) t r (term_itself t);
          typed = given.typed v (values.Term t) t r (term_itself t);
        }

    own_datum : (v : ℕ) (x : TermValue) (d : Datum) → value_of e.values v ≡ Some x → datum_in x ≡ Some d → is_target_variable program rel v ≡ false
    own_datum v x d at is = by (is_target_variable program rel v) refl
      where
        there : value_at (data_in e.values) v ≡ Some d
        there = data_at e.values v ∙ ap (option_and_then datum_in) at ∙ is

        source : is_target_variable program rel v ≡ true → Contains (source_variables program rel) v ⊎ (value_at (data_in roots) v ≡ Some d) → ⊥
        source target (inl c) =
            true≢false (sym (from_filter (λ w. not (is_target_variable program rel w)) rel.universal v c).1 ∙ ap not target)
        source target (inr r) =
            let (y, root, y_is) = datum_from (value_of roots v) d (sym (data_at roots v) ∙ r) in
            true≢false (sym target ∙ given.outside v y d root y_is)

        by : (b : Bool) → is_target_variable program rel v ≡ b → is_target_variable program rel v ≡ false
        by false none = none
        by true target = absurd (source target (with.source.source.no_others v d there))

    -- data are those of universal variables
    pub data_universal : (v : ℕ) (d : Datum) → value_at (data_in e.values) v ≡ Some d → Contains rel.universal v
    data_universal v d at = by (with.source.source.no_others v d at)
      where
        by : Contains (source_variables program rel) v ⊎ (value_at (data_in roots) v ≡ Some d) → Contains rel.universal v
        by (inl c) = (from_filter (λ w. not (is_target_variable program rel w)) rel.universal v c).0
        by (inr r) = let (y, root, y_is) = datum_from (value_of roots v) d (sym (data_at roots v) ∙ r) in given.universal v y d root y_is

    -- ---- all data

    no_equation : (v : ℕ) (f : Typed) (place : ℕ) → slice_get rel.wheres place ≡ Some (conjuncts.Equation v f) → is_target_variable program rel v ≡ true → ⊥
    no_equation v f place there target =
        let t = target_variable program rel v target in
        let d = ((meant metas program formed m desc number rel found).wheres.are place v f there).0 in
        let same : d.var ≡ t.var = same_Some d.var t.var (sym d.found ∙ t.found) in
        let in_model = ((meant metas program formed m desc number rel found).variables.models d.var (contains_at rel.vars v d.var d.found)).data_value d.data_type in
        none-some program.target (sym in_model ∙ ap (λ (y : Var). y.model) same ∙ t.target)

    known_datum : (v : ℕ) (x : TermValue) (d : Datum) → value_of k.values v ≡ Some x → datum_in x ≡ Some d → is_target_variable program rel v ≡ false
    known_datum v x d at is = by (known_cases program sources rel e.values v x at)
      where
        equation : value_of e.values v ≡ None → given_out (variable (entry_scope program sources rel e.values) v) ≡ Some x → (b : Bool) → is_target_variable program rel v ≡ b → is_target_variable program rel v ≡ false
        equation none g false outside = outside
        equation none g true target =
            let (f, there) = equation_there program sources rel e.values v none x g in
            let (place, f2, at_place) = equation_place rel.wheres v f there in
            absurd (no_equation v f2 place at_place target)

        by : IsKnownBy program sources rel e.values v x → is_target_variable program rel v ≡ false
        by (IsKnownBy.own h) = own_datum v x d h is
        by (IsKnownBy.equation none g) = equation none g (is_target_variable program rel v) refl
        by (IsKnownBy.made none w) =
            absurd (one_of_two x (roll-Term (record { class = record { 0 = w.class }; keys = w.keys })) d
            (ap term_in (sym w.is) ∙ term_itself (roll-Term (record { class = record { 0 = w.class }; keys = w.keys }))) is)

    -- ---- terms that are made

    owners_are_terms : (item : TargetItem) (x : TermValue) → Contains (target_items program rel) item → value_of k.values item.owner ≡ Some x → (u : Term) × (term_in x ≡ Some u)
    owners_are_terms item x there at = by (either_one x)
      where
        by : ((t : Term) × (term_in x ≡ Some t)) ⊎ ((d : Datum) × (datum_in x ≡ Some d)) → (u : Term) × (term_in x ≡ Some u)
        by (inl is) = is
        by (inr (d, is)) =
            let h = template_given metas program formed m desc number rel found item.owner (IsGivenBy.own item there refl) in
            absurd (true≢false (sym (variable_target program rel item.owner h.target) ∙ known_datum item.owner x d at is))

    module _ (v : ℕ) (x : TermValue) (t : Term) (none : value_of e.values v ≡ None) (made : IsMadeBy program sources rel (target_items program rel) k v x)
        (at : value_of k.values v ≡ Some x) (is : term_in x ≡ Some t) where
      whole : out-Term t ≡ record { class = record { 0 = made.class }; keys = made.keys }
      whole =
          ap out-Term (same_Some t (roll-Term (record { class = record { 0 = made.class }; keys = made.keys }))
          (sym is ∙ ap term_in (sym made.is) ∙ term_itself (roll-Term (record { class = record { 0 = made.class }; keys = made.keys }))))
          ∙ out-roll-Term (record { class = record { 0 = made.class }; keys = made.keys })

      template : HasTemplate metas program formed m desc number rel found v
      template = template_given metas program formed m desc number rel found v
          (first_given program sources rel k v made.props made.keys made.given (keyed_some metas program formed m desc made.class made.props made.key))

      within : v < length rel.vars
      within = slice_get_within rel.vars v template.target.var template.target.found

      existential : Contains rel.existential v
      existential = existential_among metas program formed m desc number rel found v within (λ universal.
          let u = with.source.terms v (record {
            universal = universal_among metas program formed m desc number rel found v within universal;
            target = variable_target program rel v template.target;
          }) in
          none-some (values.Term u.0) (sym none ∙ u.1))

      placed : Contains (root_if_top program rel ++ nested_variables program rel) v
      placed = by template.stands
        where
          root : target_root program rel ≡ Some v → (b : Bool) → rel.top ≡ b → Contains (root_if_top program rel) v
          root is_root true top =
              subst (λ b. Contains (if b then option_to_list (target_root program rel) else []) v) (sym top)
              (subst (λ o. Contains (option_to_list o) v) (sym is_root) (contains_first v []))
          root is_root false top =
              let (y, root_at_v) = given.handed top v is_root in
              absurd (none-some y (sym none ∙ with.source.extends v y root_at_v))

          by : (target_root program rel ≡ Some v) ⊎ ((j : TargetItem) × Contains (target_items program rel) j × (j.content ≡ Content.template v))
              → Contains (root_if_top program rel ++ nested_variables program rel) v
          by (inl is_root) = contains_left v (root_if_top program rel) (nested_variables program rel) (root is_root rel.top refl)
          by (inr (j, there, content)) =
              contains_right v (root_if_top program rel) (nested_variables program rel)
              (in_filter_map (λ (i : TargetItem). variable_of i.content) (target_items program rel) j v there (ap variable_of content))

      managed : Contains (managed_classes program) made.class
      managed =
          to_flat_map (λ r. classes_in program r (nested_variables program r)) program.rels rel made.class (contains_at program.rels number rel found)
          (subst (λ b. Contains (if b then filter_map (class_of_variable rel) (managed_variables program rel (nested_variables program rel)) else []) made.class) (sym direction)
          (in_filter_map (class_of_variable rel) (managed_variables program rel (nested_variables program rel)) v made.class
          (Contains-to_filter (λ w. is_number_among w rel.existential) (root_if_top program rel ++ nested_variables program rel) v (number_among rel.existential v existential) placed) made.class_is))

      made_good : Good rel v t
      made_good =
          let place : e.rel ≡ number = ap (λ (y : Entry). y.rel) with.is in
          let ask = asked e rel is_entry (ap (slice_get program.rels) place ∙ found) in
          let are = all_demanded program sources rel k v m.meta meta_is demands ask.0 ask.1 owners_are_terms t x at is made.props made.keys made.given in
          let class : (out-Term t).class.0 ≡ made.class = ap (λ (y : of.Term-F TermValue Term). y.class.0) whole in
          record {
            told = record {
              in_demands = in_demands m.meta demands t made.props made.keys (keyed_some metas program formed m desc made.class made.props made.key) are;
              key = record {
                managed = subst (Contains (managed_classes program)) (sym class) managed;
                props = made.props;
                key = ap (key_of program) class ∙ made.key;
                values = subst (λ (y : of.Term-F TermValue Term). AreDemandedAt m.meta demands t made.props y.keys) (sym whole) are;
              };
            };
            target = variable_target program rel v template.target;
            typed = λ c c_is.
                let same : made.class ≡ c = same_Some made.class c (sym made.class_is ∙ c_is) in
                ap (λ n. is_kind_of m.meta n c) (class ∙ same)
                ∙ kind_itself metas program formed m desc c (subst (λ n. n < class_count m.meta) same (keyed_within metas program formed m desc made.class made.props made.key));
          }

    -- ---- all of it

    known_term : (v : ℕ) (x : TermValue) (t : Term) → value_of k.values v ≡ Some x → term_in x ≡ Some t → Good rel v t
    known_term v x t at is = by (known_cases program sources rel e.values v x at)
      where
        by : IsKnownBy program sources rel e.values v x → Good rel v t
        by (IsKnownBy.own h) = own_term v x t h is
        by (IsKnownBy.equation none g) = absurd (given_datum (datum_of (variable (entry_scope program sources rel e.values) v)) x t g is)
        by (IsKnownBy.made none w) = made_good v x t none w at is

    pub step_good : GoodEntry e rel
    step_good = record { terms = known_term; outside = known_datum }
