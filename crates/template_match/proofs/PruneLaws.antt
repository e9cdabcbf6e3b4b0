-- What is asked of a binding that has some of the values of one that is looked for is not against it.
use Rattle.std.specs.Prelude.{◌≡◌, ℕ, Bool, true, false, ◌||◌, not, length, Option, None, Some, Contains}
use Rattle.std.proofs.Common.{refl, sym, ap, ◌∙◌}
use Rattle.std.proofs.lemmas.Bool.{true≢false}
use Rattle.qv_syntax.specs.declared.program.Conj.{Conj}
use Rattle.qv_syntax.specs.declared.program.Conj.TheVariants as conjuncts
use Rattle.qvtr_semantics.specs.declared.datum.Datum.{Datum}
use Rattle.qvtr_semantics.specs.Outs.{datum_of, boolean_of}
use Rattle.qvtr_semantics.specs.Equality.{is_known_true}
use Rattle.qvtr_semantics.specs.Objects.{held_at}
use Rattle.qvtr_semantics.specs.Expressions.{setting, value_for}
use Rattle.qvtr_semantics.specs.Templates.{Values, value_at, has}
use Rattle.qvtr_semantics.specs.Bindings.{Extends, conjunct_holds, are_one}
use Rattle.template_match.specs.declared.join.Join.{Join}
use Rattle.template_match.specs.declared.link.Link.{Link}
use Rattle.template_match.specs.declared.shape.Shape.{Shape}
use Rattle.template_match.specs.Asked.{Asker, AskedValue, side_asked}
use Rattle.template_match.specs.Branches.{IsBarren}
use Rattle.template_match.specs.Joins.{may_join}
use Rattle.template_match.specs.Posed.{IsPosed, IsSought}
use Rattle.template_match.specs.Problems.{Problem}
use Rattle.template_match.specs.Pruning.{may_have_feature, may_shape, may_have, may_hold, may_link, may_hold_item, may_asked, may_be_one, may_conjunct}
use Rattle.template_match.specs.Ready.{is_ready}
use Rattle.template_match.specs.Search.{sought, conjuncts_in}
use Rattle.template_match.specs.Settled.{asked_datum}
use Rattle.template_match.specs.Shapes.{has_feature, side_shapes}
use Rattle.template_match.proofs.AskedLaws.{is_asked_for}
use Rattle.template_match.proofs.JoinLaws.{one_may_join}
use Rattle.template_match.proofs.ListLaws.{all_at}
use Rattle.template_match.proofs.ProgressLaws.{held, asked_held, conjunct_held}
use Rattle.template_match.proofs.ShapeLaws.{Has, domains_have}
use Rattle.template_match.proofs.SideLaws.{meets_parts}
use Rattle.template_match.proofs.ValueLaws.{ready_value, some_datum}

-- what is asked only of what is ready
if_ready : (r x : Bool) → (r ≡ true → x ≡ true) → not r || x ≡ true
if_ready true x h = h refl
if_ready false x h = refl

module _ (p : Problem) (a : Values) (posed : IsPosed p a) (places : length a ≡ length p.rel.vars) where
  module _ (b : Values) (whole : IsSought p a b) where
    long : length a ≡ length b
    long = places ∙ sym whole.partial.places

    more : Extends a b
    more = whole.partial.extends

    -- ---- templates

    shape_held : (s : Shape) → Contains (side_shapes p.side p.program p.rel) s → Has p.program p.models b s
    shape_held s c =
        all_at (Has p.program p.models b) (side_shapes p.side p.program p.rel) s
        (domains_have p.program p.models b p.side p.rel.domains (meets_parts p.side (sought p) p.program p.models p.rel b whole.meets).domains) c

    shape_may : (s : Shape) → Contains (side_shapes p.side p.program p.rel) s → may_shape p a s ≡ true
    shape_may s c = by (value_at a s.holder) refl
      where
        by : (o : Option Datum) → value_at a s.holder ≡ o → may_have_feature p o s.feature ≡ true
        by None at = refl
        by (Some d) at =
            let has_it = shape_held s c in
            let same : has_it.0 ≡ d = some_datum has_it.0 d (sym has_it.1 ∙ more s.holder d at) in
            ap (λ x. has_feature (setting p.program p.models) x s.feature) (sym same) ∙ has_it.2

    link_may : (l : Link) → Contains p.links l → may_link p a l ≡ true
    link_may l c = by (value_at a l.holder) refl
      where
        stands : (d : Datum) → value_at a l.holder ≡ Some d → has (held_at (setting p.program p.models) d l.prop.0) (value_at b l.variable) ≡ true
        stands d at =
            let holds = held p a b a posed whole long (λ v e h. h) more l c in
            let same : holds.0 ≡ d = some_datum holds.0 d (sym holds.1 ∙ more l.holder d at) in
            ap (λ x. has (held_at (setting p.program p.models) x l.prop.0) (value_at b l.variable)) (sym same) ∙ holds.2

        value : (d : Datum) → value_at a l.holder ≡ Some d → (o : Option Datum) → value_at a l.variable ≡ o → may_have (held_at (setting p.program p.models) d l.prop.0) o ≡ true
        value d at None is = refl
        value d at (Some e) is = ap (has (held_at (setting p.program p.models) d l.prop.0)) (sym (more l.variable e is)) ∙ stands d at

        by : (o : Option Datum) → value_at a l.holder ≡ o → may_hold p o l.prop.0 (value_at a l.variable) ≡ true
        by None at = refl
        by (Some d) at = value d at (value_at a l.variable) refl

    asked_may : (t : AskedValue) → Contains (side_asked p.side p.program p.rel) t → may_asked p a t ≡ true
    asked_may t c = by (value_at a t.holder) t.by refl refl
      where
        by : (o : Option Datum) (k : Asker) → value_at a t.holder ≡ o → t.by ≡ k → may_hold_item p a o t.prop.0 k ≡ true
        by None k at is = refl
        by (Some d) (Asker.condition e) at is = refl
        by (Some d) (Asker.equation v) at is = refl
        by (Some d) (Asker.item e) at is =
            let slot = held_at (setting p.program p.models) d t.prop.0 in
            let stands = asked_held p a b a posed whole long (λ v x h. h) more t c (ap (is_asked_for p.program p.models b) is) in
            let same : stands.0 ≡ d = some_datum stands.0 d (sym stands.1 ∙ more t.holder d at) in
            let asked : has slot (datum_of (value_for p.program p.models e b)) ≡ true =
            sym (ap (λ k. has slot (asked_datum p.program p.models b k)) is) ∙ ap (λ x. has (held_at (setting p.program p.models) x t.prop.0) (asked_datum p.program p.models b t.by)) (sym same) ∙ stands.2 in
            if_ready (is_ready a e) (has slot (datum_of (value_for p.program p.models e a)))
            (λ ready. ap (λ o. has slot (datum_of o)) (ready_value p.program p.models e a b long more ready) ∙ asked)

    -- ---- conjuncts

    one_may : (v : ℕ) (o q : Option Datum) → value_at a v ≡ o → are_one (value_at b v) q ≡ true → may_be_one o q ≡ true
    one_may v None q at h = refl
    one_may v (Some d) q at h = ap (λ x. are_one x q) (sym (more v d at)) ∙ h

    conjunct_by : (c : Conj) → conjunct_holds p.program p.models b c ≡ true → may_conjunct p a c ≡ true
    conjunct_by (conjuncts.Cond e) h =
        if_ready (is_ready a e) (is_known_true (boolean_of (value_for p.program p.models e a)))
        (λ ready. ap (λ o. is_known_true (boolean_of o)) (ready_value p.program p.models e a b long more ready) ∙ h)
    conjunct_by (conjuncts.Equation v e) h =
        if_ready (is_ready a e) (may_be_one (value_at a v) (datum_of (value_for p.program p.models e a)))
        (λ ready. one_may v (value_at a v) (datum_of (value_for p.program p.models e a)) refl
        (ap (λ o. are_one (value_at b v) (datum_of o)) (ready_value p.program p.models e a b long more ready) ∙ h))
    conjunct_by (conjuncts.Call number args) h = refl

    conjunct_may : (c : Conj) → Contains (conjuncts_in p) c → may_conjunct p a c ≡ true
    conjunct_may c within = conjunct_by c (conjunct_held p a b a posed whole long (λ v x h. h) more c within)

    join_may : (j : Join) → Contains p.joins j → may_join j a ≡ true
    join_may j c = one_may_join j a b more (whole.joined j c)

  -- ---- so what is against the binding is against all that is looked for from it on

  barren : (m x : Bool) → m ≡ x → ((b : Values) → IsSought p a b → x ≡ true) → m ≡ false → IsBarren p a
  barren m x is may against b whole = true≢false (sym (may b whole) ∙ sym is ∙ against)

  pub shape_barren : (s : Shape) (m : Bool) → Contains (side_shapes p.side p.program p.rel) s → m ≡ may_shape p a s → m ≡ false → IsBarren p a
  shape_barren s m c is = barren m (may_shape p a s) is (λ b whole. shape_may b whole s c)

  pub link_barren : (l : Link) (m : Bool) → Contains p.links l → m ≡ may_link p a l → m ≡ false → IsBarren p a
  link_barren l m c is = barren m (may_link p a l) is (λ b whole. link_may b whole l c)

  pub asked_barren : (t : AskedValue) (m : Bool) → Contains (side_asked p.side p.program p.rel) t → m ≡ may_asked p a t → m ≡ false → IsBarren p a
  asked_barren t m c is = barren m (may_asked p a t) is (λ b whole. asked_may b whole t c)

  pub conjunct_barren : (k : Conj) (m : Bool) → Contains (conjuncts_in p) k → m ≡ may_conjunct p a k → m ≡ false → IsBarren p a
  conjunct_barren k m c is = barren m (may_conjunct p a k) is (λ b whole. conjunct_may b whole k c)

  pub join_barren : (j : Join) (m : Bool) → Contains p.joins j → m ≡ may_join j a → m ≡ false → IsBarren p a
  join_barren j m c is = barren m (may_join j a) is (λ b whole. join_may b whole j c)
