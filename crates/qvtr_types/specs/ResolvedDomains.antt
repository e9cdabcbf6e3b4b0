-- What the domains of a relation resolve to, one behind the other (QVT 1.3, section 7.11.1.6), and the pieces of their templates, each in
-- reach of its domain's model.
use Rattle.std.specs.Prelude.{◌≡◌, ℕ, ◌+◌, true, is_some, List, [], ◌∷◌, None, Some, map, Contains}
use Rattle.std.specs.Option.{unwrap_or}
use Rattle.mof_metamodel.specs.NameTables.{NamesWith, value_of}
use Rattle.qv_syntax.specs.declared.script.DomainTree.{DomainTree}
use Rattle.qv_syntax.specs.declared.script.DomainTree.TheVariants as domains
use Rattle.qv_syntax.specs.declared.program.Dom.{Dom}
use Rattle.qv_syntax.specs.declared.program.Marker.TheVariants as markers
use Rattle.qv_syntax.specs.declared.program.Tmpl.{Tmpl}
use Rattle.ocl_environments.specs.declared.fault.TypeFault.{TypeFault}
use Rattle.ocl_environments.specs.Environments.{Environment}
use Rattle.qvtr_types.specs.declared.domains.RelationScope.{RelationScope}
use Rattle.script_scopes.specs.Occurrences.{Piece, template_count}
use Rattle.script_scopes.specs.Divisions.{model_of}
use Rattle.script_scopes.specs.Environments.{place_of}
use Rattle.script_scopes.specs.ResolvedTemplates.{DomainReach, IsTemplate}
use Rattle.qvtr_types.specs.TemplatePieces.{IsMeant, StandsAtPiece}
use Rattle.script_scopes.specs.Resolutions.{marker_of}

-- what is in reach in a relation: what expressions may name, the names of its variables, and the models, each with the number of its metamodel
pub record RelationReach : Type 0 where
  pub env : Environment
  pub variables : List (List ℕ)
  pub models : NamesWith ℕ

-- as the code has it
abbrev pub shown_scope : RelationScope → RelationReach
shown_scope scope = record { env = scope.env.now; variables = map (λ e. e.0) scope.variables.now; models = scope.names.now.models }

module _ (reach : RelationReach) where
  -- in a domain of the model of this name
  abbrev pub domain_in : List ℕ → DomainReach
  domain_in model = record {
    env = reach.env;
    variables = reach.variables;
    model = place_of model (map (λ e. e.0) reach.models);
    meta = unwrap_or (value_of reach.models model) 0;
  }

  -- the model of a domain is one of those
  abbrev pub HasKnownModel : DomainTree → Type 0
  HasKnownModel domain = (model : List ℕ) → model_of domain ≡ Some model → is_some (value_of reach.models model) ≡ true

  -- ---- domains, from the number of the first template on

  abbrev pub IsDomainIn : ℕ → DomainTree → Dom → Type 0
  IsDomainIn k (domains.Pattern mark model root tree span) dom =
      (dom.model ≡ Some (domain_in model.text).model) × (dom.marker ≡ marker_of mark) × (dom.root ≡ place_of root.text reach.variables)
      × ((t : Tmpl) × (next : ℕ) × (dom.template ≡ Some t) × IsTemplate (domain_in model.text) k (Some root) tree t next)
  IsDomainIn k (domains.Primitive root ty span) dom =
      (dom.model ≡ None) × (dom.marker ≡ markers.Primitive) × (dom.root ≡ place_of root.text reach.variables) × (dom.template ≡ None)

  abbrev pub AreDomainsFrom : ℕ → List DomainTree → List Dom → Type 0
  AreDomainsFrom k [] [] = Unit {0}
  AreDomainsFrom k (tree ∷ trees) (dom ∷ doms) = IsDomainIn k tree dom × AreDomainsFrom (k + template_count tree) trees doms
  AreDomainsFrom k trees doms = ⊥

  -- ---- pieces with the models of their domains

  abbrev pub IsMeantIn : List ℕ × Piece → Type 0
  IsMeantIn piece = IsMeant (domain_in piece.0) piece.1

  -- one of the pieces has the fault
  pub record IsLocatedFault (pieces : List (List ℕ × Piece)) (fault : TypeFault) : Type 0 where
    pub piece : List ℕ × Piece
    pub among : Contains pieces piece
    pub stands : StandsAtPiece (domain_in piece.0) piece.1 fault
