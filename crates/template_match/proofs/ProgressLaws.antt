-- In each binding that is looked for a variable has one of the values that a link, a conjunct, an item or its class gives it; and where none of
-- these gives an open variable values, no binding is looked for.
use Rattle.std.specs.Prelude.{◌≡◌, ◌⊎◌, ◌<◌, ℕ, zero, suc, Bool, true, false, ◌==◌, not, List, [], ◌∷◌, length, Option, None, Some, is_some, slice_get, Contains}
use Rattle.std.specs.List.{flat_map}
use Rattle.std.proofs.Common.{refl, sym, ap, subst, ◌∙◌, arith, inl, inr}
use Rattle.std.proofs.lemmas.Bool.{and_parts, and_from, true≢false, eqb-true, eq-eqb, not-false}
use Rattle.object_tables.specs.declared.value.ObjId.{ObjId}
use Rattle.qv_syntax.specs.declared.program.Program.{Program}
use Rattle.qv_syntax.specs.declared.program.Rel.{Rel}
use Rattle.qv_syntax.specs.declared.program.Var.{Var}
use Rattle.qv_syntax.specs.declared.program.Dom.{Dom}
use Rattle.qv_syntax.specs.declared.program.Conj.{Conj}
use Rattle.qv_syntax.specs.declared.typed.Typed.{Typed}
use Rattle.qv_syntax.specs.Parts.{Names}
use Rattle.qv_syntax.specs.Relations.{IsSourceDomain, IsTargetDomain, OccursInTemplates, OccursInClause, IsUniversal, IsDataVariable, Says, IsItemAlone, IsBound}
use Rattle.qvtr_semantics.specs.declared.datum.Datum.{Datum}
use Rattle.qvtr_semantics.specs.declared.datum.Datum.TheVariants.{Obj, Val}
use Rattle.qvtr_semantics.specs.Outs.{datum_of}
use Rattle.qvtr_semantics.specs.Objects.{held_at, is_number_among}
use Rattle.qvtr_semantics.specs.Expressions.{setting, value_for}
use Rattle.qvtr_semantics.specs.Templates.{Values, value_at, has}
use Rattle.qvtr_semantics.specs.Bindings.{is_model, is_datum_for, conjunct_holds, Extends}
use Rattle.ocl_eval.proofs.ClassLaws.{among_from, among_to}
use Rattle.template_match.specs.declared.side.Side.{Side}
use Rattle.template_match.specs.declared.side.Side.TheVariants.{Source, Target}
use Rattle.template_match.specs.declared.link.Link.{Link}
use Rattle.template_match.specs.declared.candidates.Candidates.{Candidates}
use Rattle.template_match.specs.Sides.{clause_of, is_of_side}
use Rattle.template_match.specs.Ready.{is_ready}
use Rattle.template_match.specs.Links.{side_links}
use Rattle.template_match.specs.Problems.{Problem}
use Rattle.template_match.specs.Asked.{Asker, AskedValue, domain_asked, conjunct_asked, side_asked}
use Rattle.template_match.specs.Branches.{TellsHolders, IsStuck}
use Rattle.template_match.specs.Search.{sought, conjuncts_in, setting_in, is_vacant, is_open, is_any_open, usable_saying, usable_conjunct, saying, extent_for, some_data, objects_of, data_in}
use Rattle.template_match.specs.Rows.{one_datum}
use Rattle.template_match.specs.Settled.{asked_datum, is_settled, IsTold}
use Rattle.template_match.specs.Posed.{HasValue, HasRoots, SeeksSource, Seeks, IsPosed, IsSought}
use Rattle.template_match.proofs.ListLaws.{all_append, all_at, list_all_at, any_from}
use Rattle.template_match.proofs.AskedLaws.{is_asked_for, Stands, domains_ask}
use Rattle.template_match.proofs.ComparedLaws.{clause_asks}
use Rattle.template_match.proofs.LinkLaws.{Holds, domains_hold}
use Rattle.template_match.proofs.NestedLaws.{alone_linked}
use Rattle.template_match.proofs.ValueLaws.{some_datum, within_values, vacant_parts, vacant_from, ready_value, known_if}
use Rattle.template_match.proofs.ReadyLaws.{ready_from_known}
use Rattle.template_match.proofs.SideLaws.{Meets, meets_parts, Valued, valued, extended, data_type, no_extent}
use Rattle.template_match.proofs.TellingLaws.{has_contains, no_slot, said, says_saying, says_names}

-- what is not false is true
true_of : (x : Bool) → (x ≡ false → ⊥) → x ≡ true
true_of true h = refl
true_of false h = absurd (h refl)

some_of : (o : Option Datum) (d : Datum) → o ≡ Some d → is_some o ≡ true
some_of o d h = ap is_some h

pub value_of : (o : Option Datum) → is_some o ≡ true → (d : Datum) × (o ≡ Some d)
value_of None h = absurd (true≢false (sym h))
value_of (Some d) h = (d, refl)

variable_there : (vars : List Var) (w : ℕ) → w < length vars → (var : Var) × (slice_get vars w ≡ Some var)
variable_there [] w within = absurd (omega (arith, within))
variable_there (x ∷ vars) zero within = (x, refl)
variable_there (x ∷ vars) (suc w) within = variable_there vars w (omega (arith, within))

no_model : (m : ℕ) → ◌≡◌ {A = Option ℕ} None (Some m) → ⊥
no_model m h = cc

-- ---- the domains of a side, and what stands in a clause

source_side : (program : Program) (rel : Rel) (dom : Dom) → IsSourceDomain program rel dom → is_of_side Source program dom ≡ true
source_side program rel dom src = by dom.model refl
  where
    by : (o : Option ℕ) → dom.model ≡ o → not (is_model o program.target) ≡ true
    by None e = refl
    by (Some n) e = true_of (not (n == program.target)) (λ same. src.source (e ∙ ap (λ x. Some x) (eqb-true n program.target (not-false (n == program.target) same))))

target_side : (program : Program) (rel : Rel) (dom : Dom) → IsTargetDomain program rel dom → is_of_side Target program dom ≡ true
target_side program rel dom target = ap (λ o. is_model o program.target) target.target ∙ eq-eqb program.target program.target refl

-- a variable that the expression of a conjunct of the when clause names is universal
pub named_universal : (program : Program) (rel : Rel) (c : Conj) (v : ℕ) (e : Typed) (w : ℕ) → Contains rel.whens c → Says c v e → Names e w → IsUniversal program rel w
named_universal program rel c v e w within says names =
    let at = says_names c v e w says names in
    IsUniversal.when (OccursInClause.expression c at.0 within at.1 at.2)

module _ (p : Problem) (roots b a : Values) (posed : IsPosed p roots) (whole : IsSought p roots b) (long : length a ≡ length b) (from : Extends roots a) (more : Extends a b) where
  abbrev parts : Meets p.side (sought p) p.program p.models p.rel b
  parts = meets_parts p.side (sought p) p.program p.models p.rel b whole.meets

  -- ---- what has a value

  -- a variable that has a value in b and none that is sought has it in a
  others : (v : ℕ) (d : Datum) → value_at b v ≡ Some d → (Contains (sought p) v → is_some (value_at a v) ≡ true) → is_some (value_at a v) ≡ true
  others v d at h = by (whole.partial.no_others v d at)
    where
      by : Contains (sought p) v ⊎ (value_at roots v ≡ Some d) → is_some (value_at a v) ≡ true
      by (inl c) = h c
      by (inr r) = some_of (value_at a v) d (from v d r)

  same_value : (v : ℕ) (d : Datum) → value_at b v ≡ Some d → is_some (value_at a v) ≡ true → value_at a v ≡ Some d
  same_value v d at h =
      let found = value_of (value_at a v) h in
      found.1 ∙ ap (λ x. Some x) (some_datum found.0 d (sym (more v found.0 found.1) ∙ at))

  value_in : (v : ℕ) → Contains (sought p) v → Valued p.program p.models p.rel b v
  value_in v c = valued p.program p.models p.rel (sought p) b v parts.have c

  opened : (v : ℕ) → Contains (sought p) v → is_some (value_at a v) ≡ false → is_open p a v ≡ true
  opened v c h =
      let val = value_in v c in
      let within : v < length a = subst (λ n. v < n) (sym long) (within_values b v val.value val.at) in
      and_from (is_number_among v (sought p)) (is_vacant (slice_get a v)) (among_from v (sought p) c) (vacant_from a v within h)

  pub held : (l : Link) → Contains p.links l → Holds p.program p.models b l
  held l c =
      all_at (Holds p.program p.models b) (side_links p.side p.program p.rel) l (domains_hold p.program p.models b p.side p.rel.domains parts.domains)
      (subst (λ ls. Contains ls l) posed.links c)

  pub conjunct_held : (c : Conj) → Contains (conjuncts_in p) c → conjunct_holds p.program p.models b c ≡ true
  conjunct_held c within = list_all_at (conjunct_holds p.program p.models b) (conjuncts_in p) c parts.clause within

  -- ---- what names the value of a variable

  pub asked_held : (t : AskedValue) → Contains (side_asked p.side p.program p.rel) t → Stands p.program p.models b t
  asked_held t c =
      let stand = Stands p.program p.models b in
      let items = flat_map (domain_asked p.side p.program) p.rel.domains in
      let clause = flat_map conjunct_asked (conjuncts_in p) in
      all_at stand (side_asked p.side p.program p.rel) t
      (all_append stand items clause (domains_ask p.program p.models b p.side p.rel.domains parts.domains) (clause_asks p.program p.models b (conjuncts_in p) parts.clause)) c

  -- what is asked for and settled is the same in b
  settled_same : (by : Asker) → is_settled p.program p.models a by ≡ true
      → (is_asked_for p.program p.models b by ≡ true) × (asked_datum p.program p.models a by ≡ asked_datum p.program p.models b by)
  settled_same (Asker.item e) h = (refl, ap datum_of (ready_value p.program p.models e a b long more h))
  settled_same (Asker.condition e) h =
      let both = and_parts (is_ready a e) (is_some (datum_of (value_for p.program p.models e a))) h in
      let same = ap datum_of (ready_value p.program p.models e a b long more both.0) in
      (sym (ap is_some same) ∙ both.1, same)
  settled_same (Asker.equation v) h = let found = value_of (value_at a v) h in (refl, found.1 ∙ sym (more v found.0 found.1))

  -- the slot of the object of a link
  pub link_named : (l : Link) → Contains p.links l → (o : Datum) → value_at a l.holder ≡ Some o → (d : Datum) → value_at b l.variable ≡ Some d
      → Contains (some_data (held_at (setting p.program p.models) o l.prop.0)) d
  link_named l c o at d value =
      let holds = held l c in
      let same : o ≡ holds.0 = some_datum o holds.0 (sym (more l.holder o at) ∙ holds.1) in
      let slot = held_at (setting p.program p.models) holds.0 l.prop.0 in
      subst (λ x. Contains (some_data (held_at (setting p.program p.models) x l.prop.0)) d) (sym same) (has_contains slot d (sym (ap (has slot) value) ∙ holds.2))

  holder_fits : (v : ℕ) (prop : ℕ) (o : Option Datum) (c : Candidates) → Contains (sought p) v → TellsHolders p v prop o c → (h : Datum) → value_at b v ≡ Some h
      → has (held_at (setting p.program p.models) h prop) o ≡ true → (d : Datum) → value_at b v ≡ Some d → Contains (data_in (setting_in p) c) d
  holder_fits v prop o c own tells h at has_it d value =
      let val = value_in v own in
      let same : val.value ≡ d = some_datum val.value d (sym val.at ∙ value) in
      let other : h ≡ d = some_datum h d (sym at ∙ value) in
      tells val.var d val.found (subst (λ x. is_datum_for (setting p.program p.models) val.var x ≡ true) same val.fits)
      (subst (λ x. has (held_at (setting p.program p.models) x prop) o ≡ true) other has_it)

  -- the objects at whose property the value of the variable of a link stands
  pub partner_named : (l : Link) → Contains p.links l → Contains (sought p) l.holder → (o : Datum) → value_at a l.variable ≡ Some o
      → (c : Candidates) → TellsHolders p l.holder l.prop.0 (Some o) c → (d : Datum) → value_at b l.holder ≡ Some d → Contains (data_in (setting_in p) c) d
  partner_named l within own o at c tells d value =
      let holds = held l within in
      holder_fits l.holder l.prop.0 (Some o) c own tells holds.0 holds.1
      (sym (ap (has (held_at (setting p.program p.models) holds.0 l.prop.0)) (more l.variable o at)) ∙ holds.2) d value

  -- those in whose slot stands what is asked for
  pub asked_named : (t : AskedValue) → Contains (side_asked p.side p.program p.rel) t → Contains (sought p) t.holder → (c : Candidates) → IsTold p a t c
      → (d : Datum) → value_at b t.holder ≡ Some d → Contains (data_in (setting_in p) c) d
  asked_named t within own c told d value =
      let same = settled_same t.by told.settled in
      let stands = asked_held t within same.0 in
      holder_fits t.holder t.prop.0 (asked_datum p.program p.models a t.by) c own told.tells stands.0 stands.1
      (ap (has (held_at (setting p.program p.models) stands.0 t.prop.0)) same.1 ∙ stands.2) d value

  -- the value of the expression of a conjunct
  pub saying_named : (c : Conj) (v : ℕ) (e : Typed) → Contains (conjuncts_in p) c → saying c ≡ Some (v, e) → is_ready a e ≡ true → (d : Datum) → value_at b v ≡ Some d
      → Contains (one_datum (datum_of (value_for p.program p.models e a))) d
  saying_named c v e within says ready d at =
      subst (λ o. Contains (one_datum (datum_of o)) d) (sym (ready_value p.program p.models e a b long more ready))
      (said p.program p.models b c v e says (conjunct_held c within) d at)

  object_by : (v : ℕ) → is_some (extent_for (slice_get p.rel.vars v)) ≡ true
      → (val : Valued p.program p.models p.rel b v) → (d : Datum) → val.value ≡ d → Contains (objects_of p.models (extent_for (slice_get p.rel.vars v))) d
  object_by v is val (Obj m o) e =
      let x = extended p.program p.models val.var m o (subst (λ d. is_datum_for (setting p.program p.models) val.var d ≡ true) e val.fits) in
      subst (λ q. Contains (objects_of p.models q) (Obj m o)) (sym (ap extent_for val.found ∙ x.is)) x.within
  object_by v is val (Val m w) e =
      absurd (no_extent p.program p.models val.var m w (subst (λ d. is_datum_for (setting p.program p.models) val.var d ≡ true) e val.fits) (sym (ap (λ q. is_some (extent_for q)) val.found) ∙ is))

  -- the objects of its class
  pub object_named : (v : ℕ) → Contains (sought p) v → is_some (extent_for (slice_get p.rel.vars v)) ≡ true → (d : Datum) → value_at b v ≡ Some d
      → Contains (objects_of p.models (extent_for (slice_get p.rel.vars v))) d
  object_named v c is d at = let val = value_in v c in object_by v is val d (some_datum val.value d (sym val.at ∙ at))

  -- ---- where nothing can be used, all have values

  module _ (stuck : IsStuck p a) where
    -- of what is sought, the objects
    object_known : (v m : ℕ) (o : ObjId) → Contains (sought p) v → value_at b v ≡ Some (Obj m o) → is_some (value_at a v) ≡ true
    object_known v m o c at = true_of (is_some (value_at a v)) (λ none.
        let val = value_in v c in
        let same : val.value ≡ Obj m o = some_datum val.value (Obj m o) (sym val.at ∙ at) in
        let x = extended p.program p.models val.var m o (subst (λ d. is_datum_for (setting p.program p.models) val.var d ≡ true) same val.fits) in
        let some : is_some (extent_for (slice_get p.rel.vars v)) ≡ true = ap is_some (ap extent_for val.found ∙ x.is) in
        true≢false (sym (and_from (is_open p a v) (is_some (extent_for (slice_get p.rel.vars v))) (opened v c none) some) ∙ stuck.variables v c))

    holder_known_by : (l : Link) (d : Datum) → value_at b l.holder ≡ Some d → has (held_at (setting p.program p.models) d l.prop.0) (value_at b l.variable) ≡ true
        → is_some (value_at a l.holder) ≡ true
    holder_known_by l (Obj m o) at h = others l.holder (Obj m o) at (λ c. object_known l.holder m o c at)
    holder_known_by l (Val m w) at h = absurd (no_slot p.program p.models m w l.prop.0 (value_at b l.variable) h)

    -- the variable of a link
    linked_known : (l : Link) → Contains p.links l → Contains (sought p) l.variable → is_some (value_at a l.variable) ≡ true
    linked_known l c within = true_of (is_some (value_at a l.variable)) (λ none.
        let holds = held l c in
        true≢false (sym (and_from (is_open p a l.variable) (is_some (value_at a l.holder)) (opened l.variable within none) (holder_known_by l holds.0 holds.1 holds.2)) ∙ stuck.links l c))

    -- the variable of a conjunct `v = e`, where all that e names have values
    said_known : (c : Conj) (v : ℕ) (e : Typed) → Contains (conjuncts_in p) c → Says c v e → Contains (sought p) v
        → ((w : ℕ) → Names e w → w < length a → is_some (value_at a w) ≡ true) → is_some (value_at a v) ≡ true
    said_known c v e within says is known = true_of (is_some (value_at a v)) (λ none.
        let ready = ready_from_known a e (λ w names. known_if a w (known w names)) in
        let usable : usable_conjunct p a c ≡ true = ap (usable_saying p a) (says_saying c v e says) ∙ and_from (is_open p a v) (is_ready a e) (opened v is none) ready in
        true≢false (sym usable ∙ stuck.conjuncts c within))

    -- a variable that is sought, if those of data types have values
    sought_known : (w : ℕ) → Contains (sought p) w → (IsDataVariable p.rel w → is_some (value_at a w) ≡ true) → is_some (value_at a w) ≡ true
    sought_known w c if_data = let val = value_in w c in by val val.value refl
      where
        by : (val : Valued p.program p.models p.rel b w) (d : Datum) → val.value ≡ d → is_some (value_at a w) ≡ true
        by val (Obj m o) e = object_known w m o c (val.at ∙ ap (λ x. Some x) e)
        by val (Val m x) e =
            if_data (record {
              var = val.var;
              found = val.found;
              data_type = λ n class. data_type p.program p.models val.var m x (subst (λ d. is_datum_for (setting p.program p.models) val.var d ≡ true) e val.fits) n class;
            })

    root_known : (v : ℕ) → HasValue roots v → is_some (value_at a v) ≡ true
    root_known v h = some_of (value_at a v) h.0 (from v h.0 h.1)

    item_known : (dom : Dom) (v : ℕ) → Contains p.rel.domains dom → is_of_side p.side p.program dom ≡ true → IsItemAlone dom v → Contains (sought p) v → is_some (value_at a v) ≡ true
    item_known dom v within is alone c =
        let found = alone_linked p.side p.program p.rel dom v within is alone in
        subst (λ x. is_some (value_at a x) ≡ true) found.2
        (linked_known found.0 (subst (λ ls. Contains ls found.0) (sym posed.links) found.1) (subst (Contains (sought p)) (sym found.2) c))

    in_range : (w : ℕ) → w < length a → (var : Var) × (slice_get p.rel.vars w ≡ Some var)
    in_range w within =
        let size : length b ≡ length p.rel.vars = whole.partial.places in
        variable_there p.rel.vars w (omega (arith, within, long, size))

    module _ (is : p.side ≡ Source) where
      seeks_source : SeeksSource p
      seeks_source = subst (λ s. Seeks s p) is posed.seeks

      sought_universal : (v : ℕ) → Contains (sought p) v → IsUniversal p.program p.rel v
      sought_universal v c = let val = value_in v c in (posed.variables.universal v val.var val.found).0 (seeks_source.universal v c)

      when_known : (c : Conj) (v : ℕ) (e : Typed) → Contains p.rel.whens c → Says c v e → Contains (sought p) v
          → ((w : ℕ) → Names e w → IsDataVariable p.rel w → Contains (sought p) w → is_some (value_at a w) ≡ true) → is_some (value_at a v) ≡ true
      when_known c v e within says sought_v if_data =
          said_known c v e (subst (λ s. Contains (clause_of s p.rel) c) (sym is) within) says sought_v (λ w names small.
          let there = in_range w small in
          let own = seeks_source.named c v e w there.0 within says names there.1 in
          sought_known w own (λ of_data. if_data w names of_data own))

      source_known : (v : ℕ) → IsBound p.program p.rel v → Contains (sought p) v → is_some (value_at a v) ≡ true
      source_known v (IsBound.source_item w dom u src alone) c =
          item_known dom v src.is (subst (λ s. is_of_side s p.program dom ≡ true) (sym is) (source_side p.program p.rel dom src)) alone c
      source_known v (IsBound.when w k e u within says known) c =
          when_known k v e within says c (λ x names of_data own. source_known x (known x names of_data) own)
      source_known v (IsBound.primitive w dom top within none root) c =
          subst (λ x. is_some (value_at a x) ≡ true) root (root_known dom.root (subst (λ s. HasRoots s p.rel roots) is posed.roots dom top within none))
      source_known v (IsBound.target_item w dom not_u target alone) c = absurd (not_u (sought_universal v c))
      source_known v (IsBound.where_clause w k e not_u within says known) c = absurd (not_u (sought_universal v c))

    module _ (is : p.side ≡ Target) where
      seeks_target : sought p ≡ p.rel.existential
      seeks_target = subst (λ s. Seeks s p) is posed.seeks

      sought_other : (v : ℕ) → Contains (sought p) v → IsUniversal p.program p.rel v → ⊥
      sought_other v c = let val = value_in v c in (posed.variables.existential v val.var val.found).0 (subst (λ vs. Contains vs v) seeks_target c)

      -- a variable of the relation is universal, and has a value from the beginning, or it is sought
      any_known : (w : ℕ) (var : Var) → slice_get p.rel.vars w ≡ Some var → (Contains (sought p) w → is_some (value_at a w) ≡ true) → is_some (value_at a w) ≡ true
      any_known w var found h = by (is_number_among w p.rel.universal) refl
        where
          by : (x : Bool) → is_number_among w p.rel.universal ≡ x → is_some (value_at a w) ≡ true
          by true e = root_known w (subst (λ s. HasRoots s p.rel roots) is posed.roots w (among_to w p.rel.universal e))
          by false e =
              h (subst (λ vs. Contains vs w) (sym seeks_target)
              ((posed.variables.existential w var found).1 (λ u. true≢false (sym (among_from w p.rel.universal ((posed.variables.universal w var found).1 u)) ∙ e))))

      where_known : (c : Conj) (v : ℕ) (e : Typed) → Contains p.rel.wheres c → Says c v e → Contains (sought p) v
          → ((w : ℕ) → Names e w → IsDataVariable p.rel w → Contains (sought p) w → is_some (value_at a w) ≡ true) → is_some (value_at a v) ≡ true
      where_known c v e within says sought_v if_data =
          said_known c v e (subst (λ s. Contains (clause_of s p.rel) c) (sym is) within) says sought_v (λ w names small.
          let there = in_range w small in
          any_known w there.0 there.1 (λ own. sought_known w own (λ of_data. if_data w names of_data own)))

      target_known : (v : ℕ) → IsBound p.program p.rel v → Contains (sought p) v → is_some (value_at a v) ≡ true
      target_known v (IsBound.source_item w dom u src alone) c = absurd (sought_other v c u)
      target_known v (IsBound.when w k e u within says known) c = absurd (sought_other v c u)
      target_known v (IsBound.primitive w dom top within none root) c =
          absurd (sought_other v c (IsUniversal.domain dom (record { is = within; source = λ of. no_model p.program.target (sym none ∙ of) }) (OccursInTemplates.root root)))
      target_known v (IsBound.target_item w dom not_u target alone) c =
          item_known dom v target.is (subst (λ s. is_of_side s p.program dom ≡ true) (sym is) (target_side p.program p.rel dom target)) alone c
      target_known v (IsBound.where_clause w k e not_u within says known) c =
          where_known k v e within says c (λ x names of_data own. target_known x (known x names of_data) own)

    bound_known : (s : Side) → p.side ≡ s → (v : ℕ) → IsBound p.program p.rel v → Contains (sought p) v → is_some (value_at a v) ≡ true
    bound_known Source is v bound c = source_known is v bound c
    bound_known Target is v bound c = target_known is v bound c

    pub none_stuck : is_any_open p a ≡ true → ⊥
    none_stuck any =
        let found = any_from (is_open p a) (sought p) any in
        let known = sought_known found.0 found.1 (λ if_data. bound_known p.side refl found.0 (posed.variables.bound found.0 if_data) found.1) in
        let vacant = (and_parts (is_number_among found.0 (sought p)) (is_vacant (slice_get a found.0)) found.2).1 in
        true≢false (sym known ∙ ap is_some (vacant_parts a found.0 vacant).1)
