-- Domains of a relation as they are written, and what they resolve to: templates, and the variables that occur in them.
use Rattle.std.proofs.Common.{◌≡◌, ◌<◌, ℕ, List, [], ◌∷◌, Bool, true, false, cond, length, refl, sym, ◌∙◌, ap, subst, arith, inl, inr}
use Rattle.std.specs.Prelude.{Some, None, Contains, slice_get}
use Rattle.std.specs.List.{flat_map}
use Rattle.std.proofs.lemmas.Option.{same_Some, none-some, slice_get_within}
use Rattle.std.proofs.lemmas.List.Elements.{Contains-append_right}
use Rattle.mof_metamodel.proofs.PropLemmas.{to_flat_map, from_flat_map}
use Rattle.qv_syntax.specs.declared.name.Name.{Name}
use Rattle.qv_syntax.specs.declared.name.Path.{Path}
use Rattle.qv_syntax.specs.declared.expr.Expr.{Expr}
use Rattle.qv_syntax.specs.declared.typed.Typed.{Typed}
use Rattle.qv_syntax.specs.declared.script.RelationTree.{RelationTree}
use Rattle.qv_syntax.specs.declared.script.DomainTree.{DomainTree}
use Rattle.qv_syntax.specs.declared.script.DomainTree.TheVariants as domains
use Rattle.qv_syntax.specs.declared.script.TemplateTree.{TemplateTree}
use Rattle.qv_syntax.specs.declared.program.Rel.{Rel}
use Rattle.qv_syntax.specs.declared.program.Var.{Var}
use Rattle.qv_syntax.specs.declared.program.Dom.{Dom}
use Rattle.qv_syntax.specs.declared.program.Tmpl.{Tmpl, out-Tmpl}
use Rattle.qv_syntax.specs.declared.program.Item.{Item}
use Rattle.qv_syntax.specs.declared.program.ItemValue.TheVariants as items
use Rattle.qv_syntax.specs.Parts.{Names}
use Rattle.qv_syntax.specs.Relations.{IsTemplateOf, OccursInTemplates}
use Rattle.ocl_types.specs.HasType.{HasTree}
use Rattle.script_scopes.specs.ScriptNames.{model_names}
use Rattle.script_scopes.specs.Conjuncts.{is_null}
use Rattle.script_scopes.specs.Usages.{variables_in}
use Rattle.script_scopes.specs.Occurrences.{Piece, pieces_of, piece_variables, item_variables, root_of, domain_variables, variables_of}
use Rattle.script_scopes.specs.Occurrences.Piece.{begins, asks}
use Rattle.script_scopes.specs.Divisions.{model_of, first_template}
use Rattle.script_scopes.specs.Environments.{Setting, in_relation, place_of}
use Rattle.script_scopes.specs.ResolvedTemplates.{DomainReach, IsTemplate}
use Rattle.script_scopes.specs.Resolutions.{model_number, domain_reach, IsDomain, AreDomains}
use Rattle.script_scopes.proofs.CallRowLaws.{within_some, among_some}
use Rattle.qvtr_types.proofs.OccurrenceLaws.{domain_variable}
use Rattle.ocl_types.proofs.ConformanceLaws.{in_either}
use Rattle.mof_metamodel.proofs.Facts.{nothing_in}
use Rattle.mof_metamodel.proofs.Facts.{only_one}
use Rattle.qvtr_types.proofs.NamedTrees.{variables_told}
use Rattle.qvtr_types.proofs.well_formed.Numbers.{place_at, name_at, at_named, variables_apart, number_at, number_is}
use Rattle.qvtr_types.proofs.well_formed.Templates.{whole_of, IsTold, IsItemTold, IsShown, template_told, template_shown, null_no_expr, nested_no_expr, same_expr}

-- ---- domains, one for each

module _ (s : Setting) (r : RelationTree) (rel : Rel) (are : AreDomains s r rel.vars rel.domains) where
  -- the domain of the script from which one of the program comes
  pub record IsFrom (dom : Dom) : Type 0 where
    pub place : ℕ
    pub domain : DomainTree
    pub found : slice_get r.domains place ≡ Some domain
    pub found_dom : slice_get rel.domains place ≡ Some dom
    pub is : IsDomain s r rel.vars (first_template r place) domain dom

  pub comes_from : (dom : Dom) → Contains rel.domains dom → IsFrom dom
  comes_from dom c =
      let at = among_some rel.domains dom c in
      let within = slice_get_within rel.domains at.0 dom at.1 in
      let count = are.count in
      let tree = within_some r.domains at.0 (omega (arith, within, count)) in
      record { place = at.0; domain = tree.0; found = tree.1; found_dom = at.1; is = are.each at.0 tree.0 dom tree.1 at.1 }

  pub comes_to : (place : ℕ) (domain : DomainTree) → slice_get r.domains place ≡ Some domain
      → (dom : Dom) × (slice_get rel.domains place ≡ Some dom) × IsDomain s r rel.vars (first_template r place) domain dom
  comes_to place domain found =
      let within = slice_get_within r.domains place domain found in
      let count = are.count in
      let dom = within_some rel.domains place (omega (arith, within, count)) in
      (dom.0, dom.1, are.each place domain dom.0 found dom.1)

-- ---- a domain with a template

module _ (s : Setting) (r : RelationTree) (vars : List Var) where
  -- the template of a domain, as it is written
  pub record HasRoot (k : ℕ) (domain : DomainTree) (dom : Dom) (root : Tmpl) : Type 0 where
    pub model : Name
    pub variable : Name
    pub tree : TemplateTree
    pub next : ℕ
    pub of_model : model_of domain ≡ Some model.text
    pub known : Contains (model_names s.script.models) model.text
    pub number : dom.model ≡ Some (model_number s model.text)
    pub root_is : dom.root ≡ place_of variable.text (variables_of r)
    pub root_of_domain : root_of domain ≡ variable.text
    pub template : IsTemplate (domain_reach s r vars model.text) k (Some variable) tree root next
    pub pieces : pieces_of k domain ≡ (whole_of (Some variable) tree).from k None

  pub has_root : (k : ℕ) (domain : DomainTree) (dom : Dom) → IsDomain s r vars k domain dom → (root : Tmpl) → dom.template ≡ Some root → HasRoot k domain dom root
  has_root k (domains.Pattern mark model variable tree span) dom is root has =
      let template = is.4 in
      let same : template.0 ≡ root = same_Some template.0 root (sym template.2 ∙ has) in
      record {
        model = model;
        variable = variable;
        tree = tree;
        next = template.1;
        of_model = refl;
        known = is.0;
        number = is.1;
        root_is = is.3;
        root_of_domain = refl;
        template = subst (λ (t : Tmpl). IsTemplate (domain_reach s r vars model.text) k (Some variable) tree t template.1) same template.3;
        pieces = refl;
      }
  has_root k (domains.Primitive variable ty span) dom is root has = absurd (none-some root (sym is.3 ∙ has))

  module _ (k : ℕ) (domain : DomainTree) (dom : Dom) (is : IsDomain s r vars k domain dom) where
    -- the model of the domain, and what a template of it is told by
    pub record IsToldIn (t : Tmpl) : Type 0 where
      pub model : List ℕ
      pub of_model : model_of domain ≡ Some model
      pub known : Contains (model_names s.script.models) model
      pub number : dom.model ≡ Some (model_number s model)
      pub told : IsTold (domain_reach s r vars model) (pieces_of k domain) t

    pub told_in : (t : Tmpl) → IsTemplateOf dom t → IsToldIn t
    told_in t of =
        let h = has_root k domain dom is of.root of.has in
        let reach : DomainReach = domain_reach s r vars h.model.text in
        let pieces : List Piece = (whole_of (Some h.variable) h.tree).from k None in
        record {
          model = h.model.text;
          of_model = h.of_model;
          known = h.known;
          number = h.number;
          told = subst (λ (ps : List Piece). IsTold reach ps t) (sym h.pieces) (template_told reach pieces k h.next (Some h.variable) h.tree of.root h.template None (λ p c. c) t of.nested);
        }

  -- what a piece of the domain comes to
  pub record IsShownIn (dom : Dom) (p : Piece) : Type 0 where
    pub root : Tmpl
    pub has : dom.template ≡ Some root
    pub model : List ℕ
    pub shown : IsShown (domain_reach s r vars model) root p

  pub shown_in : (k : ℕ) (domain : DomainTree) (dom : Dom) → IsDomain s r vars k domain dom → (p : Piece) → Contains (pieces_of k domain) p → IsShownIn dom p
  shown_in k (domains.Pattern mark model variable tree span) dom is p c = record {
    root = is.4.0;
    has = is.4.2;
    model = model.text;
    shown = template_shown (domain_reach s r vars model.text) k is.4.1 (Some variable) tree is.4.0 is.4.3 None p c;
  }
  shown_in k (domains.Primitive variable ty span) dom is p c = absurd (nothing_in p c)

  pub root_at : (k : ℕ) (domain : DomainTree) (dom : Dom) → IsDomain s r vars k domain dom → dom.root ≡ place_of (root_of domain) (variables_of r)
  root_at k (domains.Pattern mark model variable tree span) dom is = is.3
  root_at k (domains.Primitive variable ty span) dom is = is.2

  pub piece_in : (k : ℕ) (domain : DomainTree) (p : Piece) (v : List ℕ) → Contains (pieces_of k domain) p → Contains (piece_variables p) v → Contains (domain_variables k domain) v
  piece_in k domain p v c has = Contains-append_right (root_of domain ∷ []) (flat_map piece_variables (pieces_of k domain)) v (to_flat_map piece_variables (pieces_of k domain) p v c has)

-- ---- where a variable occurs

asked_variables : (e : Expr) (v : List ℕ) → Contains (item_variables e) v → (is_null e ≡ false) × Contains (variables_in e) v
asked_variables e v c = by (is_null e) refl c
  where
    by : (b : Bool) → is_null e ≡ b → Contains (cond b [] (variables_in e)) v → (is_null e ≡ false) × Contains (variables_in e) v
    by true at h = absurd (nothing_in v h)
    by false at h = (at, h)

variables_asked : (e : Expr) (v : List ℕ) → is_null e ≡ false → Contains (variables_in e) v → Contains (item_variables e) v
variables_asked e v null c = subst (λ (b : Bool). Contains (cond b [] (variables_in e)) v) (sym null) c

module _ (s : Setting) (r : RelationTree) (vars : List Var) (v : ℕ) (name : List ℕ) (at : slice_get (variables_of r) v ≡ Some name) (var : Var) (at_var : slice_get vars v ≡ Some var) where
  pub v_within : v < length (in_relation s r vars).variables
  v_within = slice_get_within (in_relation s r vars).variables v (name, record { ty = var.ty; model = var.model }) (at_named (variables_of r) vars v name var at at_var)

  -- a tree that names the variable is that of an expression that does
  pub tree_names : (e : Expr) (t : Typed) → HasTree (in_relation s r vars) e t → Names t v → Contains (variables_in e) name
  tree_names e t has names =
      let n = (variables_told (in_relation s r vars) e t has).named v v_within names in
      subst (Contains (variables_in e)) (same_Some n.0 name (sym (number_at s r vars n.0 v n.1) ∙ at)) n.2

  pub names_tree : (e : Expr) (t : Typed) → HasTree (in_relation s r vars) e t → Contains (variables_in e) name → Names t v
  names_tree e t has c =
      let n = (variables_told (in_relation s r vars) e t has).listed name c in
      subst (Names t) (number_is s r vars name n.0 v n.1 at) n.2

  named_here : (w : List ℕ) → Contains (variables_of r) w → place_of w (variables_of r) ≡ v → w ≡ name
  named_here w has is = name_at (variables_of r) v w name has is at

  here_named : place_of name (variables_of r) ≡ v
  here_named = place_at (variables_of r) (variables_apart s r vars) v name at

  module _ (place : ℕ) (domain : DomainTree) (dom : Dom) (found : slice_get r.domains place ≡ Some domain) (is : IsDomain s r vars (first_template r place) domain dom) where
    abbrev k : ℕ
    k = first_template r place

    occurs_as : (w : List ℕ) → Contains (domain_variables k domain) w → place_of w (variables_of r) ≡ v → Contains (domain_variables k domain) name
    occurs_as w has same = subst (Contains (domain_variables k domain)) (named_here w (domain_variable r w place domain found has) same) has

    item_occurs : (model : List ℕ) (t : Tmpl) (path : Path) (item : Item) → IsItemTold (domain_reach s r vars model) (pieces_of k domain) path (out-Tmpl t).class item
        → (e : Typed) → item.value ≡ items.Expr e → Names e v → Contains (domain_variables k domain) name
    item_occurs model t path item (IsItemTold.empty property named null) e is_e names = absurd (null_no_expr e (sym null ∙ is_e))
    item_occurs model t path item (IsItemTold.expression property x tree named among null has is_x) e is_e names =
        piece_in s r vars k domain (asks (Some (record { class = path; name = property })) x) name among
        (variables_asked x name null (tree_names x tree has (subst (λ (y : Typed). Names y v) (sym (same_expr tree e (sym is_x ∙ is_e))) names)))
    item_occurs model t path item (IsItemTold.nested property w inner part named among class is_part) e is_e names = absurd (nested_no_expr part e (sym is_part ∙ is_e))

    shown_occurs : (root : Tmpl) → dom.template ≡ Some root → (model : List ℕ) (p : Piece) → IsShown (domain_reach s r vars model) root p → Contains (piece_variables p) name → OccursInTemplates dom v
    shown_occurs root has model _ (IsShown.begun u at_prop w path nested number) c =
        OccursInTemplates.template u (record { root = root; has = has; nested = nested })
        (number ∙ ap (λ (x : List ℕ). place_of x (variables_of r)) (only_one w name c) ∙ here_named)
    shown_occurs root has model _ (IsShown.asked at_prop e gives) c =
        let a = asked_variables e name c in
        let g = gives a.0 in
        OccursInTemplates.item g.2
        (record { item = g.1; of = record { template = g.0; of = record { root = root; has = has; nested = g.3 }; has = g.4 }; is = g.5 })
        (names_tree e g.2 g.6 a.1)

    pub occurs_from : OccursInTemplates dom v → Contains (domain_variables k domain) name
    occurs_from (OccursInTemplates.root same) = occurs_as (root_of domain) (0, omega arith, refl) (sym (root_at s r vars k domain dom is) ∙ same)
    occurs_from (OccursInTemplates.template t of same) =
        let h = (told_in s r vars k domain dom is t of).told in
        occurs_as h.v (piece_in s r vars k domain (begins h.at h.v h.path) h.v h.among (0, omega arith, refl)) (sym h.number_is ∙ same)
    occurs_from (OccursInTemplates.item e asked names) =
        let h = told_in s r vars k domain dom is asked.of.template asked.of.of in
        item_occurs h.model asked.of.template h.told.path asked.item (h.told.items_told asked.item asked.of.has) e asked.is names

    pub occurs_to : Contains (domain_variables k domain) name → OccursInTemplates dom v
    occurs_to c = elim (in_either (root_of domain) name (flat_map piece_variables (pieces_of k domain)) c) [
      | inl same ↦ OccursInTemplates.root (root_at s r vars k domain dom is ∙ ap (λ (w : List ℕ). place_of w (variables_of r)) same ∙ here_named)
      | inr more ↦
          let p = from_flat_map piece_variables (pieces_of k domain) name more in
          let h = shown_in s r vars k domain dom is p.0 p.1 in
          shown_occurs h.root h.has h.model p.0 h.shown p.2
    ]
