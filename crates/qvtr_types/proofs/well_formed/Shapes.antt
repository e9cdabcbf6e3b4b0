-- Domains and templates of what a relation resolves to: each is shaped as a domain is, has a model of its own, and its templates declare
-- their variables, each its own.
use Rattle.std.proofs.Common.{◌≡◌, ◌≢◌, ◌<◌, ℕ, zero, suc, ◌+◌, List, [], ◌∷◌, ◌++◌, map, take, length, get_or, refl, sym, ◌∙◌, ap, subst, arith, inl, inr}
use Rattle.std.specs.Prelude.{Option, Some, None, Contains, slice_get, AllPairs}
use Rattle.std.specs.List.{flat_map, filter_map, cons_option, sum_by}
use Rattle.std.specs.Option.{option_map_or}
use Rattle.std.proofs.lemmas.Option.{same_Some, none-some, slice_get_within, slice_get-get_or, get_or_from_slice_get}
use Rattle.std.proofs.lemmas.List.{map-append, get_or-map, length-map}
use Rattle.std.proofs.lemmas.List.Elements.{Contains-append_left, Contains-append_right, Contains-append_cases}
use Rattle.mof_metamodel.proofs.PropLemmas.{to_flat_map, from_flat_map}
use Rattle.qv_syntax.specs.declared.name.Name.{Name}
use Rattle.qv_syntax.specs.declared.ty.Ty.{Ty}
use Rattle.qv_syntax.specs.declared.ty.Ty.TheVariants as types
use Rattle.qv_syntax.specs.declared.query.ModelSlot.{ModelSlot}
use Rattle.qv_syntax.specs.declared.script.RelationTree.{RelationTree}
use Rattle.qv_syntax.specs.declared.script.DomainMark.{DomainMark}
use Rattle.qv_syntax.specs.declared.script.DomainMark.TheVariants as marks
use Rattle.qv_syntax.specs.declared.script.DomainTree.{DomainTree}
use Rattle.qv_syntax.specs.declared.script.DomainTree.TheVariants as domains
use Rattle.qv_syntax.specs.declared.script.TemplateTree.{TemplateTree}
use Rattle.qv_syntax.specs.declared.program.Program.{Program}
use Rattle.qv_syntax.specs.declared.program.Rel.{Rel}
use Rattle.qv_syntax.specs.declared.program.Var.{Var}
use Rattle.qv_syntax.specs.declared.program.Dom.{Dom}
use Rattle.qv_syntax.specs.declared.program.Marker.TheVariants as markers
use Rattle.qv_syntax.specs.declared.program.Tmpl.{Tmpl, out-Tmpl}
use Rattle.qv_syntax.specs.Parts as parts
use Rattle.qv_syntax.specs.Relations.{IsModelDomain, IsTemplateOf}
use Rattle.qv_syntax.specs.Directions as meant
use Rattle.qv_syntax.specs.Directions.{IsDomainShaped, AreOfTwoModels, IsDeclared, HasDomains}
use Rattle.script_scopes.specs.ScriptNames.{model_names}
use Rattle.script_scopes.specs.Occurrences.{Piece, variables_of, variable_text, pieces_of, template_count, piece_template, templates_from, template_variables, piece_variables, root_of, domain_variables, domains_variables, clause_variables, declared_names, occurrences}
use Rattle.script_scopes.specs.Occurrences.Piece.{begins, asks}
use Rattle.script_scopes.specs.Divisions.{model_of, first_template, HasPiece}
use Rattle.script_scopes.specs.ObjectModels.{HasModel}
use Rattle.script_scopes.specs.Environments.{Setting, in_script, place_of, slots_of}
use Rattle.script_scopes.specs.Declarations.{IsRepeated, meta_of, HasVariableType}
use Rattle.script_scopes.specs.ResolvedTemplates.{DomainReach, IsTemplate}
use Rattle.script_scopes.specs.Resolutions.{IsVariable, model_number, domain_reach, marker_of, IsDomain, IsRelation}
use Rattle.script_scopes.specs.Faults.{domain_models}
use Rattle.script_variables.specs.SettledRelations.{HasOneType, HaveOneType}
use Rattle.script_scopes.proofs.MemberLemmas.{once_has}
use Rattle.script_scopes.proofs.CallRowLaws.{within_some}
use Rattle.mof_metamodel.proofs.Facts.{contains_at}
use Rattle.script_variables.proofs.PlaceLaws.{at_place}
use Rattle.qvtr_types.proofs.ZipLemmas.{zip_right}
use Rattle.script_scopes.proofs.DivisionLaws.{first, past}
use Rattle.mof_metamodel.proofs.Facts.{nothing_in}
use Rattle.qvtr_types.proofs.OccurrenceLaws.{domain_variable}
use Rattle.qvtr_types.proofs.well_formed.Numbers.{AreApart, one_name}
use Rattle.qvtr_types.proofs.well_formed.Templates.{template_listed}
use Rattle.qvtr_types.proofs.well_formed.Domains.{IsFrom, comes_from, IsToldIn, told_in, piece_in}

-- ---- lists

-- two items of which a partial function gives the same stand at two places of what it gives
filtered_at : {X : Type 0} (h : X → Option (List ℕ)) (xs : List X) (j : ℕ) (x : X) (y : List ℕ) → slice_get xs j ≡ Some x → h x ≡ Some y
    → (b : ℕ) × (slice_get (filter_map h xs) b ≡ Some y)
filtered_at h [] j x y found is = absurd (none-some x found)
filtered_at h (z ∷ xs) zero x y found is =
    let here : h z ≡ Some y = ap h (same_Some z x found) ∙ is in
    (0, ap (λ (o : Option (List ℕ)). slice_get (cons_option o (filter_map h xs)) 0) here)
filtered_at h (z ∷ xs) (suc j) x y found is = by (h z) (filtered_at h xs j x y found is)
  where
    by : (o : Option (List ℕ)) → (b : ℕ) × (slice_get (filter_map h xs) b ≡ Some y) → (b : ℕ) × (slice_get (cons_option o (filter_map h xs)) b ≡ Some y)
    by None rest = rest
    by (Some w) rest = (suc rest.0, rest.1)

pub repeated_filtered : {X : Type 0} (h : X → Option (List ℕ)) (xs : List X) (i j : ℕ) (a b : X) (y : List ℕ) → i < j → slice_get xs i ≡ Some a → slice_get xs j ≡ Some b → h a ≡ Some y → h b ≡ Some y
    → IsRepeated (filter_map h xs) y
repeated_filtered h [] i j a b y less one other is_a is_b = absurd (none-some a one)
repeated_filtered h (z ∷ xs) zero zero a b y less one other is_a is_b = absurd (omega (arith, less))
repeated_filtered h (z ∷ xs) (suc i) zero a b y less one other is_a is_b = absurd (omega (arith, less))
repeated_filtered h (z ∷ xs) zero (suc j) a b y less one other is_a is_b =
    let here : h z ≡ Some y = ap h (same_Some z a one) ∙ is_a in
    let later = filtered_at h xs j b y other is_b in
    subst (λ (o : Option (List ℕ)). IsRepeated (cons_option o (filter_map h xs)) y) (sym here) (record { first = 0; second = suc later.0; order = omega arith; one = refl; other = later.1 })
repeated_filtered h (z ∷ xs) (suc i) (suc j) a b y less one other is_a is_b = by (h z) (repeated_filtered h xs i j a b y (omega (arith, less)) one other is_a is_b)
  where
    by : (o : Option (List ℕ)) → IsRepeated (filter_map h xs) y → IsRepeated (cons_option o (filter_map h xs)) y
    by None rest = rest
    by (Some w) rest = record { first = suc rest.first; second = suc rest.second; order = let l = rest.order in omega (arith, l); one = rest.one; other = rest.other }

-- items of which none stands twice are apart, and so are their numbers where these tell them apart
pub numbers_apart : (names xs : List (List ℕ)) → AreApart xs → ((v : List ℕ) → Contains xs v → Contains names v) → AllPairs (λ v w. v ≢ w) (map (λ v. place_of v names) xs)
numbers_apart names xs apart known i j d less within same =
    let below : j < length xs = omega (arith, within, length-map xs (λ (v : List ℕ). place_of v names)) in
    let a = within_some xs i (omega (arith, less, below)) in
    let b = within_some xs j below in
    let at_a : get_or (map (λ (v : List ℕ). place_of v names) xs) i d ≡ place_of a.0 names = mapped i a.0 a.1 in
    let at_b : get_or (map (λ (v : List ℕ). place_of v names) xs) j d ≡ place_of b.0 names = mapped j b.0 b.1 in
    let is : a.0 ≡ b.0 = one_name names a.0 b.0 (known a.0 (contains_at xs i a.0 a.1)) (known b.0 (contains_at xs j b.0 b.1)) (sym at_a ∙ same ∙ at_b) in
    apart a.0 (record { first = i; second = j; order = less; one = a.1; other = b.1 ∙ ap Some (sym is) })
  where
    mapped : (k : ℕ) (x : List ℕ) → slice_get xs k ≡ Some x → get_or (map (λ (v : List ℕ). place_of v names) xs) k d ≡ place_of x names
    mapped k x found = get_or-map (λ (v : List ℕ). place_of v names) xs k x d (slice_get_within xs k x found) ∙ ap (λ (v : List ℕ). place_of v names) (get_or_from_slice_get xs k x x found)

-- ---- the shape of a domain

no_primitive : (mark : Option DomainMark) → marker_of mark ≡ markers.Primitive → ⊥
no_primitive (Some marks.Checkonly) is = cc
no_primitive (Some marks.Enforce) is = cc
no_primitive None is = cc

template_variable : (reach : DomainReach) (k next : ℕ) (variable : Option Name) (tree : TemplateTree) (t : Tmpl) → IsTemplate reach k variable tree t next
    → (out-Tmpl t).var ≡ place_of (variable_text k variable) reach.variables
template_variable reach _ _ _ _ _ (IsTemplate.template k next variable tree t var class are) = var

shaped_as : (s : Setting) (r : RelationTree) (vars : List Var) (k : ℕ) (domain : DomainTree) (dom : Dom) → IsDomain s r vars k domain dom → IsDomainShaped dom
shaped_as s r vars k (domains.Pattern mark model root tree span) dom is = record {
  primitive = (λ e. absurd (no_primitive mark (sym is.2 ∙ e)), λ e. absurd (none-some _ (sym e ∙ is.1)));
  bare = λ e. absurd (none-some _ (sym e ∙ is.1));
  shaped = λ m e. (is.4.0, is.4.2, template_variable (domain_reach s r vars model.text) k is.4.1 (Some root) tree is.4.0 is.4.3 ∙ sym is.3);
}
shaped_as s r vars k (domains.Primitive root ty span) dom is = record {
  primitive = (λ e. is.0, λ e. is.1);
  bare = λ e. is.3;
  shaped = λ m e. absurd (none-some m (sym is.0 ∙ e));
}

-- a domain of the program that has a model has that of the script
pub model_at : (s : Setting) (r : RelationTree) (vars : List Var) (k : ℕ) (domain : DomainTree) (dom : Dom) → IsDomain s r vars k domain dom → (m : ℕ) → dom.model ≡ Some m
    → (model : List ℕ) × (model_of domain ≡ Some model) × Contains (model_names s.script.models) model × (model_number s model ≡ m)
model_at s r vars k (domains.Pattern mark model root tree span) dom is m has = (model.text, refl, is.0, same_Some _ m (sym is.1 ∙ has))
model_at s r vars k (domains.Primitive root ty span) dom is m has = absurd (none-some m (sym is.0 ∙ has))

-- ---- templates, in their order

module _ (s : Setting) (r : RelationTree) (vars : List Var) where
  abbrev number : List ℕ → ℕ
  number v = place_of v (variables_of r)

  domain_listed : (k : ℕ) (domain : DomainTree) (dom : Dom) → IsDomain s r vars k domain dom → meant.domain_variables dom ≡ map number (flat_map piece_template (pieces_of k domain))
  domain_listed k (domains.Pattern mark model root tree span) dom is =
      ap (λ (o : Option Tmpl). option_map_or parts.template_variables o []) is.4.2 ∙ template_listed (domain_reach s r vars model.text) k is.4.1 (Some root) tree is.4.0 is.4.3 None
  domain_listed k (domains.Primitive root ty span) dom is = ap (λ (o : Option Tmpl). option_map_or parts.template_variables o []) is.3

  domains_listed : (k : ℕ) (trees : List DomainTree) (doms : List Dom) → length trees ≡ length doms
      → ((place : ℕ) (tree : DomainTree) (dom : Dom) → slice_get trees place ≡ Some tree → slice_get doms place ≡ Some dom → IsDomain s r vars (k + sum_by template_count (take place trees)) tree dom)
      → flat_map meant.domain_variables doms ≡ map number (templates_from k trees)
  domains_listed k [] [] count each = refl
  domains_listed k [] (d ∷ doms) count each = absurd (omega (arith, count))
  domains_listed k (t ∷ trees) [] count each = absurd (omega (arith, count))
  domains_listed k (t ∷ trees) (d ∷ doms) count each =
      ap (λ (vs : List ℕ). vs ++ flat_map meant.domain_variables doms) (domain_listed k t d (subst (λ (n : ℕ). IsDomain s r vars n t d) (sym (first k)) (each 0 t d refl refl)))
      ∙ ap (λ (vs : List ℕ). map number (flat_map piece_template (pieces_of k t)) ++ vs) (domains_listed (k + template_count t) trees doms (omega (arith, count))
      (λ place tree dom one other. subst (λ (n : ℕ). IsDomain s r vars n tree dom) (sym (past k t trees place)) (each (suc place) tree dom one other)))
      ∙ sym (map-append number (flat_map piece_template (pieces_of k t)) (templates_from (k + template_count t) trees))

-- a template's variable is one of the relation
begun_occurs : (v : List ℕ) (p : Piece) → Contains (piece_template p) v → Contains (piece_variables p) v
begun_occurs v (begins at variable class) c = c
begun_occurs v (asks at e) c = absurd (nothing_in v c)

template_among : (v : List ℕ) (k : ℕ) (doms : List DomainTree) → Contains (templates_from k doms) v → Contains (domains_variables k doms) v
template_among v k [] (i, l, at) = absurd (omega arith)
template_among v k (d ∷ more) c = elim (Contains-append_cases (flat_map piece_template (pieces_of k d)) (templates_from (k + template_count d) more) v c) [
  | inl here ↦
      let p = from_flat_map piece_template (pieces_of k d) v here in
      Contains-append_left (domain_variables k d) (domains_variables (k + template_count d) more) v
      (Contains-append_right (root_of d ∷ []) (flat_map piece_variables (pieces_of k d)) v (to_flat_map piece_variables (pieces_of k d) p.0 v p.1 (begun_occurs v p.0 p.2)))
  | inr later ↦ Contains-append_right (domain_variables k d) (domains_variables (k + template_count d) more) v (template_among v (k + template_count d) more later)
]

pub template_known : (r : RelationTree) (v : List ℕ) → Contains (template_variables r) v → Contains (variables_of r) v
template_known r v c =
    let declared : List (List ℕ) = flat_map declared_names r.vars in
    let in_domains : List (List ℕ) = domains_variables 1 r.domains in
    let in_when : List (List ℕ) = clause_variables r.when in
    once_has (occurrences r) v
    (Contains-append_left ((declared ++ in_domains) ++ in_when) (clause_variables r.wheres) v
    (Contains-append_left (declared ++ in_domains) in_when v (Contains-append_right declared in_domains v (template_among v 1 r.domains c))))

-- ---- what domains of a relation are

module _ (s : Setting) (program : Program) (models : program.models ≡ slots_of s.script) (models_apart : AreApart (model_names s.script.models)) where
  -- the metamodel of a domain's model
  pub meta_is : (model : List ℕ) (m : ℕ) (slot : ModelSlot) → model_number s model ≡ m → slice_get program.models m ≡ Some slot → slot.meta ≡ meta_of s.script model
  meta_is model m slot number found =
      let at : slice_get (slots_of s.script) (model_number s model) ≡ Some slot = ap (slice_get (slots_of s.script)) number ∙ ap (λ (xs : List ModelSlot). slice_get xs m) (sym models) ∙ found in
      sym (ap (λ (x : ModelSlot). x.meta) (get_or_from_slice_get (slots_of s.script) (model_number s model) slot (record { name = []; meta = 0 }) at))

  module _ (r : RelationTree) (rel : Rel) (is : IsRelation s r rel) (one : HaveOneType s r rel.vars) where
    shaped : (dom : Dom) → Contains rel.domains dom → IsDomainShaped dom
    shaped dom c = let from = comes_from s r rel is.domains dom c in shaped_as s r rel.vars (first_template r from.place) from.domain dom from.is

    -- the class and the variable of a template
    pub record IsTyped (dom : Dom) (t : Tmpl) : Type 0 where
      pub from : IsFrom s r rel is.domains dom
      pub told : IsToldIn s r rel.vars (first_template r from.place) from.domain dom from.is t
      pub var : Var
      pub found : slice_get rel.vars (out-Tmpl t).var ≡ Some var
      pub class : var.ty ≡ types.Class (meta_of s.script told.model) (out-Tmpl t).class
      pub of_model : var.model ≡ Some (model_number s told.model)

    pub typed : (dom : Dom) → Contains rel.domains dom → (t : Tmpl) → IsTemplateOf dom t → IsTyped dom t
    typed dom c t of =
        let from = comes_from s r rel is.domains dom c in
        let told = told_in s r rel.vars (first_template r from.place) from.domain dom from.is t of in
        let piece : Piece = begins told.told.at told.told.v told.told.path in
        let v : List ℕ = told.told.v in
        let among : Contains (variables_of r) v = domain_variable r v from.place from.domain from.found (piece_in s r rel.vars (first_template r from.place) from.domain piece v told.told.among (0, omega arith, refl)) in
        let at : slice_get (variables_of r) (place_of v (variables_of r)) ≡ Some v = at_place v (variables_of r) among in
        let own = zip_right (IsVariable s r) (variables_of r) rel.vars (place_of v (variables_of r)) v is.vars at in
        let kind = zip_right (HasOneType s r) (variables_of r) rel.vars (place_of v (variables_of r)) v one at in
        let has : HasPiece r from.domain piece = record { place = from.place; found = from.found; has = told.told.among } in
        let class : Ty = types.Class (meta_of s.script told.model) (out-Tmpl t).class in
        let has_type : HasVariableType s.metas s.script (in_script s) r v class = HasVariableType.template (record {
          domain = from.domain;
          at = told.told.at;
          path = told.told.path;
          model = told.model;
          class = (out-Tmpl t).class;
          piece = has;
          of_model = told.of_model;
          known = told.known;
          named = told.told.class;
          is = refl;
        }) in
        let same : kind.0 ≡ own.0 = same_Some kind.0 own.0 (sym kind.1 ∙ own.1) in
        let type_is : own.0.ty ≡ class = ap (λ (x : Var). x.ty) (sym same) ∙ sym (kind.2 class has_type) in
        let object = own.2.object (meta_of s.script told.model) (out-Tmpl t).class type_is in
        let its_model : told.model ≡ object.0 = object.1.alone told.model (HasModel.template from.domain told.told.at told.told.path has told.of_model) in
        record {
          from = from;
          told = told;
          var = own.0;
          found = ap (slice_get rel.vars) told.told.number_is ∙ own.1;
          class = type_is;
          of_model = object.2 ∙ ap (λ (m : List ℕ). Some (model_number s m)) (sym its_model);
        }

    declared : (dom : Dom) (d : IsModelDomain program rel dom) (t : Tmpl) → IsTemplateOf dom t → IsDeclared rel d.model d.slot.meta t
    declared dom d t of =
        let h = typed dom d.is t of in
        let number : model_number s h.told.model ≡ d.model = same_Some _ d.model (sym h.told.number ∙ d.of_model) in
        record {
          var = h.var;
          found = h.found;
          class = h.class ∙ ap (λ (m : ℕ). types.Class m (out-Tmpl t).class) (sym (meta_is h.told.model d.model d.slot number d.found));
          of_model = h.of_model ∙ ap Some number;
        }

    module _ (once : AreApart (domain_models r)) (template_once : AreApart (template_variables r)) where
      two_models : AllPairs AreOfTwoModels rel.domains
      two_models i j d less within m has_one has_other =
          let count = is.domains.count in
          let a : Dom = get_or rel.domains i d in
          let b : Dom = get_or rel.domains j d in
          let x = within_some r.domains i (omega (arith, less, within, count)) in
          let y = within_some r.domains j (omega (arith, within, count)) in
          let at_a : slice_get rel.domains i ≡ Some a = slice_get-get_or rel.domains i d (omega (arith, less, within)) in
          let at_b : slice_get rel.domains j ≡ Some b = slice_get-get_or rel.domains j d within in
          let p = model_at s r rel.vars (first_template r i) x.0 a (is.domains.each i x.0 a x.1 at_a) m has_one in
          let q = model_at s r rel.vars (first_template r j) y.0 b (is.domains.each j y.0 b y.1 at_b) m has_other in
          let same : p.0 ≡ q.0 = one_name (model_names s.script.models) p.0 q.0 p.2 q.2 (p.3 ∙ sym q.3) in
          once q.0 (repeated_filtered model_of r.domains i j x.0 y.0 q.0 less x.1 y.1 (p.1 ∙ ap Some same) q.1)

      templates : AllPairs (λ v w. v ≢ w) (flat_map meant.domain_variables rel.domains)
      templates = subst (λ (vs : List ℕ). AllPairs (λ v w. v ≢ w) vs) (sym (domains_listed s r rel.vars 1 r.domains rel.domains is.domains.count is.domains.each))
          (numbers_apart (variables_of r) (template_variables r) template_once (template_known r))

      pub has_domains : HasDomains program rel
      has_domains = record { shaped = shaped; models = two_models; declared = declared; templates = templates }
