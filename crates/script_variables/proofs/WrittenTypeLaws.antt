-- The types that are listed as written are those that a relation writes, one for each name that it declares with a type.
use Rattle.std.proofs.Common.{◌≡◌, ℕ, zero, suc, List, [], ◌∷◌, ◌++◌, refl, ◌∙◌, ap, subst, map, arith, ⊎_elim}
use Rattle.std.specs.Prelude.{Contains}
use Rattle.std.specs.List.{flat_map, filter_map}
use Rattle.std.proofs.lemmas.List.{map-append}
use Rattle.std.proofs.lemmas.List.Elements.{Contains-append_left, Contains-append_right, Contains-append_cases}
use Rattle.mof_metamodel.proofs.PropLemmas.{to_flat_map, from_flat_map}
use Rattle.qv_syntax.specs.declared.name.Name.{Name}
use Rattle.qv_syntax.specs.declared.type_tree.TypeTree.{TypeTree}
use Rattle.qv_syntax.specs.declared.script.VarsTree.{VarsTree}
use Rattle.qv_syntax.specs.declared.script.DomainTree.{DomainTree}
use Rattle.qv_syntax.specs.declared.script.DomainTree.TheVariants as domains
use Rattle.qv_syntax.specs.declared.script.RelationTree.{RelationTree}
use Rattle.script_scopes.specs.Occurrences.{root_of, declared_names}
use Rattle.script_scopes.specs.Divisions.{model_of}
use Rattle.script_scopes.specs.Declarations.{IsWrittenFor}
use Rattle.script_scopes.specs.Faults.{root_where, typed_names}
use Rattle.script_scopes.specs.VariableTypes.{written_in, primitive_written, written_types}
use Rattle.script_scopes.proofs.MemberLemmas.{from_map, to_map}

abbrev Written : Type 0
Written = List ℕ × TypeTree

module _ (r : RelationTree) (v : List ℕ) (tree : TypeTree) where
  pub written_from : Contains (written_types r) (v, tree) → IsWrittenFor r v tree
  written_from c = ⊎_elim
      (λ left. let (vars, among, has) = from_flat_map written_in r.vars (v, tree) left in
      let (n, there, is) = from_map {X = Name} {Y = Written} (λ n. (n.text, vars.ty)) vars.names (v, tree) has in
      IsWrittenFor.variables vars among
      (subst (λ (w : List ℕ). Contains (declared_names vars) w) (ap (λ (p : Written). p.0) is) (to_map {X = Name} {Y = List ℕ} (λ m. m.text) vars.names n there))
      (ap (λ (p : Written). p.1) is))
      (λ right. let (domain, among, has) = from_flat_map primitive_written r.domains (v, tree) right in primitive domain among has)
      (Contains-append_cases (flat_map written_in r.vars) (flat_map primitive_written r.domains) (v, tree) c)
    where
      primitive : (domain : DomainTree) → Contains r.domains domain → Contains (primitive_written domain) (v, tree) → IsWrittenFor r v tree
      primitive (domains.Pattern mark model root template span) among (k, l, at) = absurd (omega arith)
      primitive (domains.Primitive root ty span) among (zero, l, at) =
          IsWrittenFor.primitive root span (subst (λ (t : TypeTree). Contains r.domains (domains.Primitive root t span)) (ap (λ (p : Written). p.1) at) among) (ap (λ (p : Written). p.0) at)
      primitive (domains.Primitive root ty span) among (suc k, l, at) = absurd (omega arith)

  pub written_to : IsWrittenFor r v tree → Contains (written_types r) (v, tree)
  written_to (IsWrittenFor.variables vars among has is) =
      let (n, there, named) = from_map {X = Name} {Y = List ℕ} (λ m. m.text) vars.names v has in
      Contains-append_left (flat_map written_in r.vars) (flat_map primitive_written r.domains) (v, tree)
      (to_flat_map written_in r.vars vars (v, tree) among
      (subst (λ (p : Written). Contains (written_in vars) p) (ap (λ (t : TypeTree). (n.text, t)) is ∙ ap (λ (w : List ℕ). (w, tree)) named)
      (to_map {X = Name} {Y = Written} (λ m. (m.text, vars.ty)) vars.names n there)))
  written_to (IsWrittenFor.primitive root span among is) =
      Contains-append_right (flat_map written_in r.vars) (flat_map primitive_written r.domains) (v, tree)
      (to_flat_map primitive_written r.domains (domains.Primitive root tree span) (v, tree) among (0, omega arith, ap (λ (w : List ℕ). (w, tree)) is))

-- ---- names

abbrev named : List Written → List (List ℕ)
named ws = map {A = Written} {B = List ℕ} (λ w. w.0) ws

names_named : (names : List Name) (ty : TypeTree) → named (map (λ n. (n.text, ty)) names) ≡ map (λ n. n.text) names
names_named [] ty = refl
names_named (n ∷ names) ty = ap (λ (ns : List (List ℕ)). n.text ∷ ns) (names_named names ty)

variables_named : (vars : List VarsTree) → named (flat_map written_in vars) ≡ flat_map declared_names vars
variables_named [] = refl
variables_named (x ∷ vars) =
    map-append {A = Written} {B = List ℕ} (λ w. w.0) (written_in x) (flat_map written_in vars)
    ∙ ap (λ (ns : List (List ℕ)). ns ++ named (flat_map written_in vars)) (names_named x.names x.ty)
    ∙ ap (λ (ns : List (List ℕ)). declared_names x ++ ns) (variables_named vars)

roots_named : (doms : List DomainTree) → named (flat_map primitive_written doms) ≡ filter_map (λ d. root_where (model_of d) (root_of d)) doms
roots_named [] = refl
roots_named (domains.Pattern mark model root template span ∷ doms) = roots_named doms
roots_named (domains.Primitive root ty span ∷ doms) = ap (λ (ns : List (List ℕ)). root.text ∷ ns) (roots_named doms)

pub written_named : (r : RelationTree) → map {A = Written} {B = List ℕ} (λ w. w.0) (written_types r) ≡ typed_names r
written_named r =
    map-append {A = Written} {B = List ℕ} (λ w. w.0) (flat_map written_in r.vars) (flat_map primitive_written r.domains)
    ∙ ap (λ (ns : List (List ℕ)). ns ++ named (flat_map primitive_written r.domains)) (variables_named r.vars)
    ∙ ap (λ (ns : List (List ℕ)). flat_map declared_names r.vars ++ ns) (roots_named r.domains)
