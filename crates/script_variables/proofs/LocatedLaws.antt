-- The pieces with models that are listed are the pieces of domains of these models.
use Rattle.std.proofs.Common.{◌≡◌, ℕ, ◌+◌, zero, suc, List, [], ◌∷◌, ◌++◌, refl, sym, ◌∙◌, ap, subst, take, arith, ⊎_elim}
use Rattle.std.specs.Prelude.{Some, Contains, slice_get}
use Rattle.std.specs.List.{flat_map, sum_by}
use Rattle.std.proofs.lemmas.Option.{same_Some, none-some}
use Rattle.std.proofs.lemmas.List.Elements.{Contains-append_left, Contains-append_right, Contains-append_cases}
use Rattle.std.proofs.lemmas.Grind.{flat_map-append}
use Rattle.std.proofs.lemmas.List.Folds.{flat_map-map}
use Rattle.qv_syntax.specs.declared.script.DomainTree.{DomainTree}
use Rattle.qv_syntax.specs.declared.script.DomainTree.TheVariants as domains
use Rattle.qv_syntax.specs.declared.script.RelationTree.{RelationTree}
use Rattle.script_scopes.specs.Occurrences.{Piece, pieces_of, template_count, piece_template, templates_from, template_variables}
use Rattle.script_scopes.specs.Divisions.{model_of, HasPiece}
use Rattle.script_scopes.specs.LocatedPieces.{located_in, located_from, located}
use Rattle.script_scopes.proofs.MemberLemmas.{from_map, to_map}
use Rattle.script_scopes.proofs.DivisionLaws.{first, past}

-- ---- of a domain

from_domain : (k : ℕ) (domain : DomainTree) (model : List ℕ) (piece : Piece) → Contains (located_in k domain) (model, piece) → (model_of domain ≡ Some model) × Contains (pieces_of k domain) piece
from_domain k (domains.Pattern mark m root template span) model piece c =
    let (p, among, is) = from_map {X = Piece} {Y = List ℕ × Piece} (λ q. (m.text, q)) (pieces_of k (domains.Pattern mark m root template span)) (model, piece) c in
    (ap (λ (x : List ℕ × Piece). Some x.0) is, subst (Contains (pieces_of k (domains.Pattern mark m root template span))) (ap (λ (x : List ℕ × Piece). x.1) is) among)
from_domain k (domains.Primitive root ty span) model piece (i, l, at) = absurd (omega arith)

to_domain : (k : ℕ) (domain : DomainTree) (model : List ℕ) (piece : Piece) → model_of domain ≡ Some model → Contains (pieces_of k domain) piece → Contains (located_in k domain) (model, piece)
to_domain k (domains.Pattern mark m root template span) model piece is c =
    subst (λ (t : List ℕ). Contains (located_in k (domains.Pattern mark m root template span)) (t, piece)) (same_Some m.text model is)
    (to_map {X = Piece} {Y = List ℕ × Piece} (λ q. (m.text, q)) (pieces_of k (domains.Pattern mark m root template span)) piece c)
to_domain k (domains.Primitive root ty span) model piece is c = absurd (none-some model is)

-- ---- of domains

module _ (model : List ℕ) (piece : Piece) where
  listed_from : (k : ℕ) (doms : List DomainTree) → Contains (located_from k doms) (model, piece)
      → (place : ℕ) × (domain : DomainTree) × (slice_get doms place ≡ Some domain) × (model_of domain ≡ Some model) × Contains (pieces_of (k + sum_by template_count (take place doms)) domain) piece
  listed_from k [] (i, l, at) = absurd (omega arith)
  listed_from k (domain ∷ more) c = ⊎_elim
      (λ left. let (is, has) = from_domain k domain model piece left in (0, domain, refl, is, subst (λ (n : ℕ). Contains (pieces_of n domain) piece) (first k) has))
      (λ right. let (place, d, found, is, has) = listed_from (k + template_count domain) more right in
      (suc place, d, found, is, subst (λ (n : ℕ). Contains (pieces_of n d) piece) (past k domain more place) has))
      (Contains-append_cases (located_in k domain) (located_from (k + template_count domain) more) (model, piece) c)

  listed_to : (k : ℕ) (doms : List DomainTree) (place : ℕ) (domain : DomainTree) → slice_get doms place ≡ Some domain → model_of domain ≡ Some model
      → Contains (pieces_of (k + sum_by template_count (take place doms)) domain) piece → Contains (located_from k doms) (model, piece)
  listed_to k [] place domain found is has = absurd (none-some domain found)
  listed_to k (d ∷ more) zero domain found is has =
      let same : d ≡ domain = same_Some d domain found in
      Contains-append_left (located_in k d) (located_from (k + template_count d) more) (model, piece)
      (to_domain k d model piece (ap model_of same ∙ is)
      (subst (λ (n : ℕ). Contains (pieces_of n d) piece) (sym (first k)) (subst (λ (x : DomainTree). Contains (pieces_of (k + 0) x) piece) (sym same) has)))
  listed_to k (d ∷ more) (suc place) domain found is has =
      Contains-append_right (located_in k d) (located_from (k + template_count d) more) (model, piece)
      (listed_to (k + template_count d) more place domain found is (subst (λ (n : ℕ). Contains (pieces_of n domain) piece) (sym (past k d more place)) has))

  pub located_piece : (r : RelationTree) → Contains (located r) (model, piece) → (domain : DomainTree) × HasPiece r domain piece × (model_of domain ≡ Some model)
  located_piece r c = let (place, domain, found, is, has) = listed_from 1 r.domains c in (domain, record { place = place; found = found; has = has }, is)

  pub piece_located : (r : RelationTree) (domain : DomainTree) → HasPiece r domain piece → model_of domain ≡ Some model → Contains (located r) (model, piece)
  piece_located r domain h is = listed_to 1 r.domains h.place domain h.found is h.has

-- ---- the variables of templates

templates_in : (k : ℕ) (domain : DomainTree) → flat_map (λ (p : List ℕ × Piece). piece_template p.1) (located_in k domain) ≡ flat_map piece_template (pieces_of k domain)
templates_in k (domains.Pattern mark m root template span) =
    flat_map-map {A = Piece} {B = List ℕ × Piece} {C = List ℕ} (λ p. piece_template p.1) (λ q. (m.text, q)) (pieces_of k (domains.Pattern mark m root template span))
templates_in k (domains.Primitive root ty span) = refl

templates_listed : (k : ℕ) (doms : List DomainTree) → flat_map (λ (p : List ℕ × Piece). piece_template p.1) (located_from k doms) ≡ templates_from k doms
templates_listed k [] = refl
templates_listed k (domain ∷ more) =
    flat_map-append (λ (p : List ℕ × Piece). piece_template p.1) (located_in k domain) (located_from (k + template_count domain) more)
    ∙ ap (λ (ns : List (List ℕ)). ns ++ flat_map (λ (p : List ℕ × Piece). piece_template p.1) (located_from (k + template_count domain) more)) (templates_in k domain)
    ∙ ap (λ (ns : List (List ℕ)). flat_map piece_template (pieces_of k domain) ++ ns) (templates_listed (k + template_count domain) more)

pub located_templates : (r : RelationTree) → flat_map (λ (p : List ℕ × Piece). piece_template p.1) (located r) ≡ template_variables r
located_templates r = templates_listed 1 r.domains
