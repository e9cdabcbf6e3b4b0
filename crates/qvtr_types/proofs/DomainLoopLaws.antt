-- Domains one behind the other: one more that is resolved, and its pieces.
use Rattle.std.proofs.Common.{◌≡◌, ℕ, ◌+◌, ◌<◌, List, [], ◌∷◌, ◌++◌, map, drop, get_or, length, refl, sym, ap, subst, ◌∙◌, append_assoc, append-nil, arith}
use Rattle.std.specs.Prelude.{All, Contains, Option, Some, None}
use Rattle.std.proofs.lemmas.List.{drop_more}
use Rattle.std.proofs.lemmas.List.Elements.{All-append, All-cons, All-contains_itself, All-contains, All-weaker, Contains-append_left, Contains-append_right}
use Rattle.mof_metamodel.specs.declared.desc.ClassId.{ClassId}
use Rattle.mof_metamodel.specs.declared.span.Span.{Span}
use Rattle.qv_syntax.specs.declared.name.Name.{Name}
use Rattle.qv_syntax.specs.declared.name.Path.{Path}
use Rattle.qv_syntax.specs.declared.script.DomainMark.{DomainMark}
use Rattle.qv_syntax.specs.declared.script.TemplateTree.{TemplateTree, out-TemplateTree}
use Rattle.qv_syntax.specs.declared.script.DomainTree.{DomainTree}
use Rattle.qv_syntax.specs.declared.script.DomainTree.TheVariants as domains
use Rattle.qv_syntax.specs.declared.program.Marker.{Marker}
use Rattle.qv_syntax.specs.declared.program.Tmpl.{Tmpl}
use Rattle.qv_syntax.specs.declared.program.Dom.{Dom}
use Rattle.ocl_environments.specs.declared.fault.TypeFault.{TypeFault}
use Rattle.script_scopes.specs.Occurrences.{Piece, begun, template_body, template_count}
use Rattle.script_scopes.specs.Occurrences.Piece.{begins}
use Rattle.script_scopes.specs.Environments.{place_of}
use Rattle.script_scopes.specs.Resolutions.{marker_of}
use Rattle.script_scopes.specs.ResolvedTemplates.{DomainReach, class_named, IsTemplate}
use Rattle.script_scopes.specs.LocatedPieces.{in_model, located_in, located_from}
use Rattle.qvtr_types.specs.TemplatePieces.{IsUnknownClass, IsMeant, StandsAtPiece, IsPieceFault}
use Rattle.qvtr_types.specs.ResolvedDomains.{RelationReach, domain_in, IsDomainIn, AreDomainsFrom, IsMeantIn, IsLocatedFault}
use Rattle.script_scopes.proofs.MemberLemmas.{from_map, to_map}
use Rattle.qvtr_types.proofs.ItemForms.{body_class}

module _ (reach : RelationReach) where
  fault_left : (xs ys : List (List ℕ × Piece)) (f : TypeFault) → IsLocatedFault reach xs f → IsLocatedFault reach (xs ++ ys) f
  fault_left xs ys f h = record { piece = h.piece; among = Contains-append_left xs ys h.piece h.among; stands = h.stands }

  fault_right : (xs ys : List (List ℕ × Piece)) (f : TypeFault) → IsLocatedFault reach ys f → IsLocatedFault reach (xs ++ ys) f
  fault_right xs ys f h = record { piece = h.piece; among = Contains-append_right xs ys h.piece h.among; stands = h.stands }

  -- ---- pieces in a domain of one model

  module _ (model : List ℕ) (pieces : List Piece) where
    pub meant_in : All (IsMeant (domain_in reach model)) pieces → All (IsMeantIn reach) (in_model model pieces)
    meant_in all = All-weaker (Contains (in_model model pieces)) (IsMeantIn reach)
        (λ p among.
        let (q, has, is) = from_map {X = Piece} {Y = List ℕ × Piece} (λ x. (model, x)) pieces p among in
        subst (IsMeantIn reach) is (All-contains (IsMeant (domain_in reach model)) pieces q all has))
        (in_model model pieces) (All-contains_itself (in_model model pieces))

    pub fault_in_model : (f : TypeFault) → IsPieceFault (domain_in reach model) pieces f → IsLocatedFault reach (in_model model pieces) f
    fault_in_model f h = record { piece = (model, h.piece); among = to_map {X = Piece} {Y = List ℕ × Piece} (λ x. (model, x)) pieces h.piece h.among; stands = h.stands }

  -- ---- one more domain

  module _ (trees : List DomainTree) (i : ℕ) (tree : DomainTree) (within : i < length trees) (is : tree ≡ get_or trees i tree) (k : ℕ) where
    here : drop i trees ≡ tree ∷ drop (i + 1) trees
    here = drop_more trees i tree within ∙ ap (λ (t : DomainTree). t ∷ drop (i + 1) trees) (sym is)

    located_here : located_from k (drop i trees) ≡ located_in k tree ++ located_from (k + template_count tree) (drop (i + 1) trees)
    located_here = ap (located_from k) here

    -- a fault of the domain itself
    pub domain_fault : (all : List (List ℕ × Piece)) → ((f : TypeFault) → IsLocatedFault reach (located_from k (drop i trees)) f → IsLocatedFault reach all f)
        → (f : TypeFault) → IsLocatedFault reach (located_in k tree) f → IsLocatedFault reach all f
    domain_fault all before f h =
        before f (subst (λ ps. IsLocatedFault reach ps f) (sym located_here) (fault_left (located_in k tree) (located_from (k + template_count tree) (drop (i + 1) trees)) f h))

    module _ (middle : ℕ) (after : middle ≡ k + template_count tree) where
      pub doms_more : (doms : List Dom) (dom : Dom) → ((rest : List Dom) → AreDomainsFrom reach k (drop i trees) rest → AreDomainsFrom reach 1 trees (doms ++ rest)) → IsDomainIn reach k tree dom
          → (rest : List Dom) → AreDomainsFrom reach middle (drop (i + 1) trees) rest → AreDomainsFrom reach 1 trees ((doms ++ dom ∷ []) ++ rest)
      doms_more doms dom before one rest more =
          subst (AreDomainsFrom reach 1 trees) (sym (append_assoc doms (dom ∷ []) rest))
          (before (dom ∷ rest) (subst (λ (ts : List DomainTree). AreDomainsFrom reach k ts (dom ∷ rest)) (sym here)
          (one, subst (λ (n : ℕ). AreDomainsFrom reach n (drop (i + 1) trees) rest) after more)))

      pieces_here : located_from k (drop i trees) ≡ located_in k tree ++ located_from middle (drop (i + 1) trees)
      pieces_here = located_here ∙ ap (λ (n : ℕ). located_in k tree ++ located_from n (drop (i + 1) trees)) (sym after)

      pub meant_more : (all : List (List ℕ × Piece)) → (All (IsMeantIn reach) (located_from k (drop i trees)) → All (IsMeantIn reach) all) → All (IsMeantIn reach) (located_in k tree)
          → All (IsMeantIn reach) (located_from middle (drop (i + 1) trees)) → All (IsMeantIn reach) all
      meant_more all before one more =
          before (subst (All (IsMeantIn reach)) (sym pieces_here) (All-append (IsMeantIn reach) (located_in k tree) (located_from middle (drop (i + 1) trees)) one more))

      pub fault_more : (all : List (List ℕ × Piece)) → ((f : TypeFault) → IsLocatedFault reach (located_from k (drop i trees)) f → IsLocatedFault reach all f)
          → (f : TypeFault) → IsLocatedFault reach (located_from middle (drop (i + 1) trees)) f → IsLocatedFault reach all f
      fault_more all before f h = before f (subst (λ ps. IsLocatedFault reach ps f) (sym pieces_here) (fault_right (located_in k tree) (located_from middle (drop (i + 1) trees)) f h))

  pub doms_all : (k : ℕ) (trees rest : List DomainTree) (doms : List Dom) → rest ≡ [] → ((more : List Dom) → AreDomainsFrom reach k rest more → AreDomainsFrom reach 1 trees (doms ++ more))
      → AreDomainsFrom reach 1 trees doms
  doms_all k trees rest doms none before =
      subst (AreDomainsFrom reach 1 trees) (append-nil doms) (before [] (subst (λ (ts : List DomainTree). AreDomainsFrom reach k ts []) (sym none) tt))

-- ---- a domain of a model

module _ (reach : RelationReach) (k next : ℕ) (mark : Option DomainMark) (model root : Name) (tree : TemplateTree) (span : Span)
    (d : DomainReach) (same : d ≡ domain_in reach model.text) where
  abbrev pattern : DomainTree
  pattern = domains.Pattern mark model root tree span

  pub pattern_is : (domain : DomainTree) → domain ≡ pattern → (m n : ℕ) (marker : Marker) (t : Tmpl) → m ≡ d.model → marker ≡ marker_of mark → n ≡ place_of root.text reach.variables
      → ((v : Name) → n ≡ place_of v.text d.variables → IsTemplate d k (Some v) tree t next)
      → IsDomainIn reach k domain (record { model = Some m; marker = marker; root = n; template = Some t })
  pattern_is domain is m n marker t m_is marker_is n_is template =
      subst (λ (x : DomainTree). IsDomainIn reach k x (record { model = Some m; marker = marker; root = n; template = Some t })) (sym is) (
        ap Some (m_is ∙ ap (λ (e : DomainReach). e.model) same),
        marker_is,
        n_is,
        (t, next, refl, subst (λ (e : DomainReach). IsTemplate e k (Some root) tree t next) same (template root (n_is ∙ ap (λ (e : DomainReach). place_of root.text e.variables) (sym same)))),
      )

  pub pattern_count : (domain : DomainTree) → domain ≡ pattern → next ≡ k + (1 + (template_body tree).items.count) → next ≡ k + template_count domain
  pattern_count domain is next_is = next_is ∙ ap (λ (x : DomainTree). k + template_count x) (sym is)

  pub pattern_meant : (domain : DomainTree) → domain ≡ pattern → All (IsMeant d) (begun None root.text (template_body tree) k) → All (IsMeantIn reach) (located_in k domain)
  pattern_meant domain is all =
      subst (λ (x : DomainTree). All (IsMeantIn reach) (located_in k x)) (sym is)
      (meant_in reach model.text (begun None root.text (template_body tree) k) (subst (λ (e : DomainReach). All (IsMeant e) (begun None root.text (template_body tree) k)) same all))

  pub pattern_fault : (domain : DomainTree) → domain ≡ pattern → (f : TypeFault) → IsPieceFault d (begun None root.text (template_body tree) k) f → IsLocatedFault reach (located_in k domain) f
  pattern_fault domain is f h =
      subst (λ (x : DomainTree). IsLocatedFault reach (located_in k x) f) (sym is)
      (fault_in_model reach model.text (begun None root.text (template_body tree) k) f (subst (λ (e : DomainReach). IsPieceFault e (begun None root.text (template_body tree) k) f) same h))

-- ---- the template that begins at a domain

module _ (reach : DomainReach) (k : ℕ) (tree : TemplateTree) (v : List ℕ) where
  abbrev within : List Piece
  within = (template_body tree).items.from (k + 1) (template_body tree).class

  pub outer_unknown : (f : TypeFault) → IsUnknownClass reach (out-TemplateTree tree).class f → IsPieceFault reach (begun None v (template_body tree) k) f
  outer_unknown f h = record {
    piece = begins None v (template_body tree).class;
    among = (0, omega arith, refl);
    stands = StandsAtPiece.outer v (template_body tree).class f (subst (λ (p : Path). IsUnknownClass reach p f) (sym (body_class tree)) h);
  }

  pub outer_within : (f : TypeFault) → IsPieceFault reach within f → IsPieceFault reach (begun None v (template_body tree) k) f
  outer_within f h = record { piece = h.piece; among = Contains-append_right (begins None v (template_body tree).class ∷ []) within h.piece h.among; stands = h.stands }

  pub outer_meant : (class : ClassId) → class_named reach (out-TemplateTree tree).class ≡ Some class → All (IsMeant reach) within → All (IsMeant reach) (begun None v (template_body tree) k)
  outer_meant class is all =
      All-cons (IsMeant reach) (begins None v (template_body tree).class) within (class, ap (class_named reach) (body_class tree) ∙ is) all
