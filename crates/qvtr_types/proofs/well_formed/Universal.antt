-- The universal variables of a relation are those of what it resolves to, and so are the bound ones.
use Rattle.std.proofs.Common.{◌≡◌, ℕ, List, refl, sym, ◌∙◌, ap, subst}
use Rattle.std.specs.Prelude.{◌↔◌, Option, Some, None, Contains, slice_get}
use Rattle.std.proofs.lemmas.Option.{same_Some, none-some}
use Rattle.qv_syntax.specs.declared.ty.Ty.{Ty}
use Rattle.qv_syntax.specs.declared.ty.Ty.TheVariants as types
use Rattle.qv_syntax.specs.declared.expr.Expr.{Expr, out-Expr}
use Rattle.qv_syntax.specs.declared.typed.Typed.{Typed}
use Rattle.qv_syntax.specs.declared.typed.Node.TheVariants as nodes
use Rattle.qv_syntax.specs.declared.script.BlockTree.{BlockTree}
use Rattle.qv_syntax.specs.declared.script.RelationTree.{RelationTree}
use Rattle.qv_syntax.specs.declared.script.DomainTree.{DomainTree}
use Rattle.qv_syntax.specs.declared.script.DomainTree.TheVariants as domains
use Rattle.qv_syntax.specs.declared.program.Program.{Program}
use Rattle.qv_syntax.specs.declared.program.Rel.{Rel}
use Rattle.qv_syntax.specs.declared.program.Var.{Var}
use Rattle.qv_syntax.specs.declared.program.Dom.{Dom}
use Rattle.qv_syntax.specs.declared.program.Tmpl.{Tmpl}
use Rattle.qv_syntax.specs.declared.program.Item.{Item}
use Rattle.qv_syntax.specs.declared.program.ItemValue.TheVariants as items
use Rattle.qv_syntax.specs.declared.program.Conj.{Conj}
use Rattle.qv_syntax.specs.declared.program.Conj.TheVariants as conjs
use Rattle.qv_syntax.specs.Parts.{Names, IsNested, HasItem}
use Rattle.qv_syntax.specs.Relations as programs
use Rattle.ocl_environments.specs.Parts.{tree_of}
use Rattle.ocl_types.specs.HasType.{HasTree}
use Rattle.script_scopes.specs.ScriptNames.{model_names}
use Rattle.script_scopes.specs.Usages.{variables_in}
use Rattle.script_scopes.specs.Conjuncts.{name_alone, clause_conjuncts, equation_of}
use Rattle.script_scopes.specs.Occurrences.{Piece, WrittenProperty, variables_of, root_of}
use Rattle.script_scopes.specs.Occurrences.Piece.{asks}
use Rattle.script_scopes.specs.Divisions.{model_of, first_template, IsItemAlone, IsUniversal, IsBound, IsWhenEquation, IsWhereEquation}
use Rattle.script_scopes.specs.Environments.{Setting, in_relation, place_of}
use Rattle.script_scopes.specs.Resolutions.{IsVariable, IsData, IsDomain, IsConjunct, AreConjuncts, IsRelation, domain_reach}
use Rattle.script_scopes.proofs.CallRowLaws.{among_some}
use Rattle.mof_metamodel.proofs.Facts.{contains_at}
use Rattle.qvtr_types.proofs.ProgramCallLaws.{apart}
use Rattle.qvtr_types.proofs.ZipLemmas.{zip_left, zip_right}
use Rattle.qvtr_types.proofs.OccurrenceLaws.{when_variable}
use Rattle.script_variables.proofs.PlaceLaws.{at_place}
use Rattle.qvtr_types.proofs.well_formed.Numbers.{AreApart, place_at, number_is, variables_apart}
use Rattle.qvtr_types.proofs.well_formed.Templates.{IsShown}
use Rattle.qvtr_types.proofs.well_formed.Equations.{told_alone, equation_told, equals}
use Rattle.qvtr_types.proofs.well_formed.Domains.{comes_from, comes_to, occurs_from, occurs_to, shown_in, tree_names}
use Rattle.qvtr_types.proofs.well_formed.Clauses.{conjunct_to, equation_at, clause_from, clause_to}

-- an item of a domain in which the variable stands alone asks for a tree that is the variable
alone_tree : (s : Setting) (r : RelationTree) (vars : List Var) (e : Expr) (t : Typed) (v : ℕ) (name : List ℕ) → slice_get (variables_of r) v ≡ Some name → name_alone e ≡ Some name
    → HasTree (in_relation s r vars) e t → (ty : Ty) × (t ≡ record { ty = ty; node = nodes.Variable v })
alone_tree s r vars e t v name at alone (p, has, is) =
    let told = (told_alone e name alone).typed (in_relation s r vars) p has in
    let number : told.number ≡ v = number_is s r vars name told.number v (told.variable, told.named) at in
    (told.variable.ty, is ∙ ap tree_of told.is ∙ ap (λ (n : ℕ). record { ty = told.variable.ty; node = nodes.Variable n }) number)

module _ (s : Setting) (program : Program) (aimed : slice_get (model_names s.script.models) program.target ≡ Some s.target) (models_apart : AreApart (model_names s.script.models)) where
  -- a domain of the target is one in the script, and the other way round
  pub target_from : (r : RelationTree) (vars : List Var) (k : ℕ) (domain : DomainTree) (dom : Dom) → IsDomain s r vars k domain dom → dom.model ≡ Some program.target → model_of domain ≡ Some s.target
  target_from r vars k (domains.Pattern mark model root template span) dom is target =
      let number = same_Some _ program.target (sym is.1 ∙ target) in
      sym (at_place model.text (model_names s.script.models) is.0) ∙ ap (slice_get (model_names s.script.models)) number ∙ aimed
  target_from r vars k (domains.Primitive root ty span) dom is target = absurd (none-some program.target (sym is.0 ∙ target))

  pub target_to : (r : RelationTree) (vars : List Var) (k : ℕ) (domain : DomainTree) (dom : Dom) → IsDomain s r vars k domain dom → model_of domain ≡ Some s.target → dom.model ≡ Some program.target
  target_to r vars k (domains.Pattern mark model root template span) dom is target =
      is.1 ∙ ap (λ (m : List ℕ). Some (place_of m (model_names s.script.models))) (same_Some model.text s.target target)
      ∙ ap Some (place_at (model_names s.script.models) models_apart program.target s.target aimed)
  target_to r vars k (domains.Primitive root ty span) dom is target = absurd (none-some s.target target)

  module _ (r : RelationTree) (rel : Rel) (is : IsRelation s r rel) where
    module _ (v : ℕ) (name : List ℕ) (at : slice_get (variables_of r) v ≡ Some name) (var : Var) (at_var : slice_get rel.vars v ≡ Some var) where
      pub universal_from : programs.IsUniversal program rel v → IsUniversal s.target r name
      universal_from (programs.IsUniversal.domain dom source occurs) =
          let from = comes_from s r rel is.domains dom source.is in
          IsUniversal.domain from.domain (λ e. source.source (target_to r rel.vars (first_template r from.place) from.domain dom from.is e))
          (record { place = from.place; found = from.found; occurs = occurs_from s r rel.vars v name at var at_var from.place from.domain dom from.found from.is occurs })
      universal_from (programs.IsUniversal.when occurs) =
          IsUniversal.when (clause_from s r rel.vars (IsWhenEquation (IsData s r) s.target r) r.when rel.whens is.whens (λ place v e q. (q.given.conjunct, q.given.found, q.given.is)) v name at var at_var (when_variable r) occurs)

      pub universal_to : IsUniversal s.target r name → programs.IsUniversal program rel v
      universal_to (IsUniversal.domain domain other occurs) =
          let to = comes_to s r rel is.domains occurs.place domain occurs.found in
          programs.IsUniversal.domain to.0 (record { is = contains_at rel.domains occurs.place to.0 to.1; source = λ e. other (target_from r rel.vars (first_template r occurs.place) domain to.0 to.2 e) })
          (occurs_to s r rel.vars v name at var at_var occurs.place domain to.0 occurs.found to.2 occurs.occurs)
      universal_to (IsUniversal.when among) =
          programs.IsUniversal.when (clause_to s r rel.vars (IsWhenEquation (IsData s r) s.target r) r.when rel.whens is.whens (λ place v e q. (q.given.conjunct, q.given.found, q.given.is)) v name at var at_var (when_variable r) among)

    -- ---- data variables

    pub variable_at : (v : ℕ) (name : List ℕ) → slice_get (variables_of r) v ≡ Some name → (var : Var) × (slice_get rel.vars v ≡ Some var) × IsVariable s r name var
    variable_at v name at = zip_right (IsVariable s r) (variables_of r) rel.vars v name is.vars at

    pub name_of : (v : ℕ) (var : Var) → slice_get rel.vars v ≡ Some var → (name : List ℕ) × (slice_get (variables_of r) v ≡ Some name) × IsVariable s r name var
    name_of v var at = zip_left (IsVariable s r) (variables_of r) rel.vars v var is.vars at

    pub data_from : (v : ℕ) → programs.IsDataVariable rel v → (name : List ℕ) × (slice_get (variables_of r) v ≡ Some name) × IsData s r name
    data_from v d =
        let n = name_of v d.var d.found in
        (n.0, n.1, record { ty = d.var.ty; has = n.2.typed; data_type = d.data_type })

    -- ---- bound variables

    -- what a conjunct of a clause that is `v = e` comes to
    pub record IsSaid (cs : List Conj) (place v : ℕ) (e : Expr) : Type 0 where
      pub c : Conj
      pub found : slice_get cs place ≡ Some c
      pub tree : Typed
      pub says : programs.Says c v tree
      pub has : HasTree (in_relation s r rel.vars) e tree

    module _ (IsEquation : ℕ → List ℕ → Expr → Type 0) (clause : Option BlockTree) (cs : List Conj) (are : AreConjuncts s r rel.vars IsEquation (clause_conjuncts clause) cs)
        (gives : (place : ℕ) (v : List ℕ) (e : Expr) → IsEquation place v e → (c : Expr) × (slice_get (clause_conjuncts clause) place ≡ Some c) × (equation_of c ≡ Some (v, e))) where
      pub said : (place : ℕ) (x : Expr) → slice_get (clause_conjuncts clause) place ≡ Some x → (v : ℕ) (name : List ℕ) (e : Expr) → slice_get (variables_of r) v ≡ Some name → equation_of x ≡ Some (name, e)
          → (c : Conj) → slice_get cs place ≡ Some c → IsConjunct s r rel.vars IsEquation place x c → (tree : Typed) × programs.Says c v tree × HasTree (in_relation s r rel.vars) e tree
      said place x found v name e at eq _ there (IsConjunct.call n args number trees calls position all) = absurd (apart (out-Expr x) (name, e) (n, args) eq calls)
      said place x found v name e at eq _ there (IsConjunct.equation w y t given tree) =
          let own = equation_at s r rel.vars IsEquation clause cs are gives place x w y found given in
          let same : (w, y) ≡ (name, e) = same_Some (w, y) (name, e) (sym own ∙ eq) in
          let number : place_of w (variables_of r) ≡ v = ap (λ (p : List ℕ × Expr). place_of p.0 (variables_of r)) same ∙ place_at (variables_of r) (variables_apart s r rel.vars) v name at in (
            t,
            subst (λ (n : ℕ). programs.Says (conjs.Equation (place_of w (variables_of r)) t) n t) number (programs.Says.equation (place_of w (variables_of r)) t),
            subst (λ (p : List ℕ × Expr). HasTree (in_relation s r rel.vars) p.1 t) same tree,
          )
      said place x found v name e at eq _ there (IsConjunct.condition t none other (p, has, tree)) =
          let told = equation_told (in_relation s r rel.vars) x name e eq p has in
          let number : told.number ≡ v = number_is s r rel.vars name told.number v (told.variable, told.named) at in
          let right : Typed = tree_of told.right in (
            right,
            subst (λ (y : Typed). programs.Says (conjs.Cond y) v right) (sym (tree ∙ told.tree))
                (subst (λ (n : ℕ). programs.Says (conjs.Cond (record { ty = types.Bool; node = nodes.Chain (record { ty = told.variable.ty; node = nodes.Variable told.number }) (equals right types.Bool) })) n right) number
                (programs.Says.condition told.number right types.Bool told.variable.ty types.Bool)),
            (told.right, told.has, refl),
          )

      pub said_at : (place : ℕ) (x : Expr) → slice_get (clause_conjuncts clause) place ≡ Some x → (v : ℕ) (name : List ℕ) (e : Expr) → slice_get (variables_of r) v ≡ Some name → equation_of x ≡ Some (name, e)
          → IsSaid cs place v e
      said_at place x found v name e at eq =
          let c = conjunct_to s r rel.vars IsEquation clause cs are gives place x found in
          let t = said place x found v name e at eq c.0 c.1 c.2 in
          record { c = c.0; found = c.1; tree = t.0; says = t.1; has = t.2 }

    -- where what a rule asks for is bound, so is what the rule of the program asks for
    asked_bound : (e : Expr) (tree : Typed) → HasTree (in_relation s r rel.vars) e tree
        → ((n : List ℕ) (w : ℕ) → slice_get (variables_of r) w ≡ Some n → Contains (variables_in e) n → IsData s r n → programs.IsBound program rel w)
        → (w : ℕ) → Names tree w → programs.IsDataVariable rel w → programs.IsBound program rel w
    asked_bound e tree has rest w names d =
        let n = data_from w d in
        rest n.0 w n.1 (tree_names s r rel.vars w n.0 n.1 d.var d.found e tree has names) n.2

    alone_in : (v : ℕ) (name : List ℕ) → slice_get (variables_of r) v ≡ Some name → (domain : DomainTree) → IsItemAlone r domain name
        → (dom : Dom) × Contains rel.domains dom × programs.IsItemAlone dom v × ((dom.model ≡ Some program.target) ↔ (model_of domain ≡ Some s.target))
    alone_in v name at domain h =
        let place = h.item.place in
        let to = comes_to s r rel is.domains place domain h.item.found in
        let shown = shown_in s r rel.vars (first_template r place) domain to.0 to.2 (asks h.at h.value) h.item.has in
        let tree = by shown.root shown.model (asks h.at h.value) shown.shown h.at h.value refl h.alone in (
          to.0,
          contains_at rel.domains place to.0 to.1,
          record {
            ty = tree.3;
            is = record { item = tree.1; of = record { template = tree.0; of = record { root = shown.root; has = shown.has; nested = tree.2 }; has = tree.4 }; is = tree.5 };
          },
          (target_from r rel.vars (first_template r place) domain to.0 to.2, target_to r rel.vars (first_template r place) domain to.0 to.2),
        )
      where
        by : (root : Tmpl) (model : List ℕ) (p : Piece) → IsShown (domain_reach s r rel.vars model) root p → (at_prop : Option WrittenProperty) (e : Expr) → p ≡ asks at_prop e → name_alone e ≡ Some name
            → (u : Tmpl) × (item : Item) × IsNested root u × (ty : Ty) × HasItem u item × (item.value ≡ items.Expr (record { ty = ty; node = nodes.Variable v }))
        by root model _ (IsShown.begun u q w path nested number) at_prop e same alone = absurd cc
        by root model _ (IsShown.asked q x gives) at_prop e same alone =
            let is_e : x ≡ e = cc in
            let name_x : name_alone x ≡ Some name = ap name_alone is_e ∙ alone in
            let g = gives (told_alone x name name_x).null in
            let t = alone_tree s r rel.vars x g.2 v name at name_x g.6 in
            (g.0, g.1, g.3, t.0, g.4, g.5 ∙ ap items.Expr t.1)

    primitive_to : (place : ℕ) (domain : DomainTree) (dom : Dom) → IsDomain s r rel.vars (first_template r place) domain dom → model_of domain ≡ None → (dom.model ≡ None) × (dom.root ≡ place_of (root_of domain) (variables_of r))
    primitive_to place (domains.Pattern mark model root template span) dom d none = absurd (none-some model.text (sym none))
    primitive_to place (domains.Primitive root ty span) dom d none = (d.0, d.2)

    pub bound_to : (name : List ℕ) → IsBound (IsData s r) s.target r name → (v : ℕ) → slice_get (variables_of r) v ≡ Some name → programs.IsBound program rel v
    bound_to _ (IsBound.source_item name domain u other alone) v at =
        let var = variable_at v name at in
        let item = alone_in v name at domain alone in
        programs.IsBound.source_item v item.0 (universal_to v name at var.0 var.1 u) (record { is = item.1; source = λ e. other (item.3.0 e) }) item.2
    bound_to _ (IsBound.when name e u says all) v at =
        let var = variable_at v name at in
        let place = among_some (clause_conjuncts r.when) says.conjunct says.among in
        let c = said_at (IsWhenEquation (IsData s r) s.target r) r.when rel.whens is.whens (λ place v e q. (q.given.conjunct, q.given.found, q.given.is)) place.0 says.conjunct place.1 v name e at says.is in
        programs.IsBound.when v c.c c.tree (universal_to v name at var.0 var.1 u) (contains_at rel.whens place.0 c.c c.found) c.says
        (asked_bound e c.tree c.has (λ n w at_w has d. bound_to n (all n has d) w at_w))
    bound_to _ (IsBound.primitive name domain top among none root) v at =
        let place = among_some r.domains domain among in
        let to = comes_to s r rel is.domains place.0 domain place.1 in
        let d = primitive_to place.0 domain to.0 to.2 none in
        programs.IsBound.primitive v to.0 (is.top ∙ top) (contains_at rel.domains place.0 to.0 to.1) d.0
        (d.1 ∙ ap (λ (n : List ℕ). place_of n (variables_of r)) root ∙ place_at (variables_of r) (variables_apart s r rel.vars) v name at)
    bound_to _ (IsBound.target_item name domain u target alone) v at =
        let var = variable_at v name at in
        let item = alone_in v name at domain alone in
        programs.IsBound.target_item v item.0 (λ x. u (universal_from v name at var.0 var.1 x)) (record { is = item.1; target = item.3.1 target }) item.2
    bound_to _ (IsBound.where_clause name e u says all) v at =
        let var = variable_at v name at in
        let place = among_some (clause_conjuncts r.wheres) says.conjunct says.among in
        let c = said_at (IsWhereEquation (IsData s r) s.target r) r.wheres rel.wheres is.wheres (λ place v e q. (q.given.conjunct, q.given.found, q.given.is)) place.0 says.conjunct place.1 v name e at says.is in
        programs.IsBound.where_clause v c.c c.tree (λ x. u (universal_from v name at var.0 var.1 x)) (contains_at rel.wheres place.0 c.c c.found) c.says
        (asked_bound e c.tree c.has (λ n w at_w has d. bound_to n (all n has d) w at_w))
