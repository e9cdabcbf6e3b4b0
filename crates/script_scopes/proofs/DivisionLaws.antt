-- The universal variables are those that are listed, and a relation of a direction is one with a domain of its model.
use Rattle.std.proofs.Common.{◌≡◌, ◌≢◌, ℕ, ◌+◌, zero, suc, List, [], ◌∷◌, Bool, true, false, cond, refl, sym, ◌∙◌, ap, subst, take, arith, ⊎_elim, true≢false, get_or}
use Rattle.std.specs.Prelude.{Some, Contains, slice_get, ◌↔◌, IsTrue}
use Rattle.std.specs.List.{sum_by}
use Rattle.std.proofs.lemmas.Option.{same_Some, none-some}
use Rattle.std.proofs.lemmas.List.Sums.{sum_by-cons}
use Rattle.std.proofs.lemmas.List.Elements.{Contains-append_left, Contains-append_right, Contains-append_cases}
use Rattle.std.proofs.lemmas.List.Folds.{Any-from_list_any, list_any_at}
use Rattle.qv_syntax.specs.declared.script.RelationTree.{RelationTree}
use Rattle.qv_syntax.specs.declared.script.DomainTree.{DomainTree}
use Rattle.qv_syntax.specs.declared.script.DomainTree.TheVariants as domains
use Rattle.script_scopes.specs.Occurrences.{template_count, domain_variables, clause_variables}
use Rattle.script_scopes.specs.Divisions.{model_of, IsUniversal}
use Rattle.script_scopes.specs.Directions.{IsInDirection}
use Rattle.script_scopes.specs.UniversalNames.{is_of_model, has_domain_of, names_outside, universal_names}
use Rattle.script_scopes.proofs.NameLemmas.{same_is, is_same}

-- ---- domains of a model

pub of_model : (target : List ℕ) (domain : DomainTree) → is_of_model target domain ≡ true → model_of domain ≡ Some target
of_model target (domains.Pattern mark model root template span) h = ap Some (sym (same_is target model.text h))
of_model target (domains.Primitive root ty span) h = absurd (true≢false (sym h))

pub is_model_of : (target : List ℕ) (domain : DomainTree) → model_of domain ≡ Some target → is_of_model target domain ≡ true
is_model_of target (domains.Pattern mark model root template span) h = is_same target model.text (sym (same_Some model.text target h))
is_model_of target (domains.Primitive root ty span) h = absurd (none-some target h)

pub not_of_model : (target : List ℕ) (domain : DomainTree) → is_of_model target domain ≡ false → model_of domain ≢ Some target
not_of_model target domain h e = true≢false (sym (is_model_of target domain e) ∙ h)

pub none_of_model : (target : List ℕ) (domain : DomainTree) → model_of domain ≢ Some target → is_of_model target domain ≡ false
none_of_model target domain h = by (is_of_model target domain) refl
  where
    by : (b : Bool) → is_of_model target domain ≡ b → is_of_model target domain ≡ false
    by true e = absurd (h (of_model target domain e))
    by false e = e

-- a relation is part of the direction where one of its domains is of the target
pub in_direction : (target : List ℕ) (r : RelationTree) → IsTrue (has_domain_of target r.domains) ↔ IsInDirection target r
in_direction target r = (
  λ h. let (k, domain, l, at, is) = Any-from_list_any (is_of_model target) r.domains h in (domain, (k, l, at), of_model target domain is),
  λ d. let (domain, (k, l, at), is) = d in list_any_at (is_of_model target) r.domains k domain l (is_model_of target (get_or r.domains k domain) (subst (λ (x : DomainTree). model_of x ≡ Some target) (sym at) is)),
)

-- ---- domains of other models

-- the number of the first template of the first domain, and of one behind it
pub first : (k : ℕ) → k ≡ k + sum_by template_count (take 0 [])
first k = omega arith

pub past : (k : ℕ) (domain : DomainTree) (more : List DomainTree) (place : ℕ)
    → k + template_count domain + sum_by template_count (take place more) ≡ k + sum_by template_count (take (suc place) (domain ∷ more))
past k domain more place = omega (arith, sum_by-cons template_count domain (take place more))

module _ (target v : List ℕ) where
  pub outside_from : (k : ℕ) (doms : List DomainTree) → Contains (names_outside target k doms) v
      → (place : ℕ) × (domain : DomainTree) × (slice_get doms place ≡ Some domain) × (is_of_model target domain ≡ false) × Contains (domain_variables (k + sum_by template_count (take place doms)) domain) v
  outside_from k [] (i, l, at) = absurd (omega arith)
  outside_from k (domain ∷ more) c = ⊎_elim
      (λ left. by (is_of_model target domain) refl left)
      (λ right. let (place, d, found, is, has) = outside_from (k + template_count domain) more right in
      (suc place, d, found, is, subst (λ (n : ℕ). Contains (domain_variables n d) v) (past k domain more place) has))
      (Contains-append_cases (cond (is_of_model target domain) [] (domain_variables k domain)) (names_outside target (k + template_count domain) more) v c)
    where
      by : (b : Bool) → is_of_model target domain ≡ b → Contains (cond b [] (domain_variables k domain)) v
          → (place : ℕ) × (d : DomainTree) × (slice_get (domain ∷ more) place ≡ Some d) × (is_of_model target d ≡ false) × Contains (domain_variables (k + sum_by template_count (take place (domain ∷ more))) d) v
      by true e (i, l, at) = absurd (omega arith)
      by false e left = (0, domain, refl, e, subst (λ (n : ℕ). Contains (domain_variables n domain) v) (first k) left)

  pub outside_to : (k : ℕ) (doms : List DomainTree) (place : ℕ) (domain : DomainTree) → slice_get doms place ≡ Some domain → is_of_model target domain ≡ false
      → Contains (domain_variables (k + sum_by template_count (take place doms)) domain) v → Contains (names_outside target k doms) v
  outside_to k [] place domain found is has = absurd (none-some domain found)
  outside_to k (d ∷ more) zero domain found is has =
      let same : d ≡ domain = same_Some d domain found in
      let here : Contains (domain_variables k d) v = subst (λ (n : ℕ). Contains (domain_variables n d) v) (sym (first k)) (subst (λ (x : DomainTree). Contains (domain_variables (k + 0) x) v) (sym same) has) in
      Contains-append_left (cond (is_of_model target d) [] (domain_variables k d)) (names_outside target (k + template_count d) more) v
      (subst (λ (b : Bool). Contains (cond b [] (domain_variables k d)) v) (sym (ap (is_of_model target) same ∙ is)) here)
  outside_to k (d ∷ more) (suc place) domain found is has =
      Contains-append_right (cond (is_of_model target d) [] (domain_variables k d)) (names_outside target (k + template_count d) more) v
      (outside_to (k + template_count d) more place domain found is (subst (λ (n : ℕ). Contains (domain_variables n domain) v) (sym (past k d more place)) has))

-- ---- universal variables

pub listed_universal : (target : List ℕ) (r : RelationTree) (v : List ℕ) → Contains (universal_names target r) v → IsUniversal target r v
listed_universal target r v c = ⊎_elim
    (λ left. let (place, domain, found, is, has) = outside_from target v 1 r.domains left in
    IsUniversal.domain domain (not_of_model target domain is) (record { place = place; found = found; occurs = has }))
    (λ right. IsUniversal.when right)
    (Contains-append_cases (names_outside target 1 r.domains) (clause_variables r.when) v c)

pub universal_listed : (target : List ℕ) (r : RelationTree) (v : List ℕ) → IsUniversal target r v → Contains (universal_names target r) v
universal_listed target r v (IsUniversal.domain domain other occurs) =
    Contains-append_left (names_outside target 1 r.domains) (clause_variables r.when) v (outside_to target v 1 r.domains occurs.place domain occurs.found (none_of_model target domain other) occurs.occurs)
universal_listed target r v (IsUniversal.when among) = Contains-append_right (names_outside target 1 r.domains) (clause_variables r.when) v among
