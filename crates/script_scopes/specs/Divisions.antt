-- Universal and existential variables of a relation, those that are bound, and its equations (QVT 1.3, sections 7.2 and 7.11.1), said of
-- a script: by names, and as sets.
use Rattle.std.specs.Prelude.{◌≡◌, ◌≢◌, ◌<◌, ℕ, ◌+◌, false, List, Option, None, Some, slice_get, Contains, take}
use Rattle.std.specs.List.{sum_by}
use Rattle.qv_syntax.specs.declared.expr.Expr.{Expr}
use Rattle.qv_syntax.specs.declared.script.BlockTree.{BlockTree}
use Rattle.qv_syntax.specs.declared.script.RelationTree.{RelationTree}
use Rattle.qv_syntax.specs.declared.script.DomainTree.{DomainTree}
use Rattle.qv_syntax.specs.declared.script.DomainTree.TheVariants as domains
use Rattle.script_scopes.specs.Usages.{variables_in}
use Rattle.script_scopes.specs.Conjuncts.{clause_conjuncts, name_alone, equation_of}
use Rattle.script_scopes.specs.Occurrences.{Piece, WrittenProperty, template_count, pieces_of, domain_variables, clause_variables, root_of}
use Rattle.script_scopes.specs.Occurrences.Piece.{asks}

-- ---- domains

-- the name of a domain's model
abbrev pub model_of : DomainTree → Option (List ℕ)
model_of (domains.Pattern mark model root template span) = Some model.text
model_of (domains.Primitive root ty span) = None

-- the number of the first template of the domain at this place
abbrev pub first_template : RelationTree → ℕ → ℕ
first_template r place = 1 + sum_by template_count (take place r.domains)

-- the domain at this place, with the pieces of its template
pub record HasPiece (r : RelationTree) (domain : DomainTree) (piece : Piece) : Type 0 where
  pub place : ℕ
  pub found : slice_get r.domains place ≡ Some domain
  pub has : Contains (pieces_of (first_template r place) domain) piece

-- the variable occurs in the domain
pub record OccursIn (r : RelationTree) (domain : DomainTree) (v : List ℕ) : Type 0 where
  pub place : ℕ
  pub found : slice_get r.domains place ≡ Some domain
  pub occurs : Contains (domain_variables (first_template r place) domain) v

-- an item of the domain asks for the variable alone
pub record IsItemAlone (r : RelationTree) (domain : DomainTree) (v : List ℕ) : Type 0 where
  pub value : Expr
  pub at : Option WrittenProperty
  pub item : HasPiece r domain (asks at value)
  pub alone : name_alone value ≡ Some v

-- ---- universal and existential variables

-- A variable is universal, in the direction towards the model of this name, where it occurs in a domain of another model, in a primitive
-- domain or in the when clause; all others are existential.
pub data IsUniversal (target : List ℕ) (r : RelationTree) (v : List ℕ) : Type 0 where
  domain : (domain : DomainTree) → model_of domain ≢ Some target → OccursIn r domain v → IsUniversal target r v
  when : Contains (clause_variables r.when) v → IsUniversal target r v

-- ---- bound data variables

-- a conjunct of the clause is `v = e`
pub record Says (clause : Option BlockTree) (v : List ℕ) (e : Expr) : Type 0 where
  pub conjunct : Expr
  pub among : Contains (clause_conjuncts clause) conjunct
  pub is : equation_of conjunct ≡ Some (v, e)

module _ (IsData : List ℕ → Type 0) (target : List ℕ) (r : RelationTree) where
  -- The bound variables among those of which `IsData` holds, the data variables: the least set that these rules give.
  pub data IsBound : List ℕ → Type 0 where
    -- a universal one by an item of a source domain, by a conjunct of when, or in a relation that isn't top by a primitive domain
    source_item : (v : List ℕ) (domain : DomainTree) → IsUniversal target r v → model_of domain ≢ Some target → IsItemAlone r domain v → IsBound v
    when : (v : List ℕ) (e : Expr) → IsUniversal target r v → Says r.when v e → ((w : List ℕ) → Contains (variables_in e) w → IsData w → IsBound w) → IsBound v
    primitive : (v : List ℕ) (domain : DomainTree) → r.top ≡ false → Contains r.domains domain → model_of domain ≡ None → root_of domain ≡ v → IsBound v
    -- an existential one by an item of the target domain, or by a conjunct of where
    target_item : (v : List ℕ) (domain : DomainTree) → ¬ IsUniversal target r v → model_of domain ≡ Some target → IsItemAlone r domain v → IsBound v
    where_clause : (v : List ℕ) (e : Expr) → ¬ IsUniversal target r v → Says r.wheres v e → ((w : List ℕ) → Contains (variables_in e) w → IsData w → IsBound w) → IsBound v

  -- ---- equations

  -- the conjunct at this place gives the variable by an expression that doesn't name it
  pub record IsGivenAt (clause : Option BlockTree) (place : ℕ) (v : List ℕ) (e : Expr) : Type 0 where
    pub conjunct : Expr
    pub found : slice_get (clause_conjuncts clause) place ≡ Some conjunct
    pub is : equation_of conjunct ≡ Some (v, e)
    pub other : ¬ Contains (variables_in e) v

  -- The equation of a data variable is the first such conjunct, looked for in when for a universal one and in where for an existential one.
  pub record IsEquation (IsSought : List ℕ → Type 0) (clause : Option BlockTree) (place : ℕ) (v : List ℕ) (e : Expr) : Type 0 where
    pub single : IsData v
    pub sought : IsSought v
    pub given : IsGivenAt clause place v e
    pub first : (earlier : ℕ) (f : Expr) → earlier < place → ¬ IsGivenAt clause earlier v f

  abbrev pub IsWhenEquation : ℕ → List ℕ → Expr → Type 0
  IsWhenEquation place v e = IsEquation (λ w. IsUniversal target r w) r.when place v e

  abbrev pub IsWhereEquation : ℕ → List ℕ → Expr → Type 0
  IsWhereEquation place v e = IsEquation (λ w. ¬ IsUniversal target r w) r.wheres place v e
