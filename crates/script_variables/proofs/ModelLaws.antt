-- The models that are listed are those that a relation's variables have, and where each object variable has its first one alone it has one.
use Rattle.std.proofs.Common.{◌≡◌, ◌≢◌, ℕ, zero, suc, List, [], ◌∷◌, ◌++◌, Bor, refl, sym, ◌∙◌, ap, subst, map, arith, ⊎_elim}
use Rattle.std.specs.Prelude.{Option, Some, None, Contains, All, true, slice_get}
use Rattle.std.specs.List.{flat_map}
use Rattle.std.specs.Option.{option_map}
use Rattle.std.proofs.lemmas.Option.{same_Some, none-some}
use Rattle.std.proofs.lemmas.List.Elements.{Contains-append_left, Contains-append_right, Contains-append_cases, All-contains}
use Rattle.mof_metamodel.specs.NameTables.{NamesWith, value_of}
use Rattle.mof_metamodel.proofs.PropLemmas.{to_flat_map, from_flat_map}
use Rattle.qv_syntax.specs.declared.expr.Expr.{Expr}
use Rattle.qv_syntax.specs.declared.ty.Ty.{Ty}
use Rattle.qv_syntax.specs.declared.script.BlockTree.{BlockTree}
use Rattle.qv_syntax.specs.declared.script.DomainTree.{DomainTree}
use Rattle.qv_syntax.specs.declared.script.RelationTree.{RelationTree}
use Rattle.qv_syntax.specs.declared.script.Script.{Script}
use Rattle.script_scopes.specs.Conjuncts.{clause_conjuncts, name_alone, call_of}
use Rattle.script_scopes.specs.Occurrences.{Piece, relations_of}
use Rattle.script_scopes.specs.Occurrences.Piece.{begins, asks}
use Rattle.script_scopes.specs.Divisions.{model_of, HasPiece}
use Rattle.script_scopes.specs.Declarations.{IsRepeated, relation_names}
use Rattle.script_scopes.specs.ObjectModels.{IsArgument, HasModel, HasOneModel, HasTwoModels}
use Rattle.script_scopes.specs.LocatedPieces.{located}
use Rattle.script_scopes.specs.FirstEntries.{first_entries}
use Rattle.script_scopes.specs.ModelLists.{named_relations, template_model, argument_model, argument_models, called_models, call_models, conjunct_models, clause_models, object_models, is_object, HasItsModel}
use Rattle.script_scopes.proofs.MemberLemmas.{from_map, to_map}
use Rattle.script_variables.proofs.FirstEntryLemmas.{first_value, value_among, once_value, among_value}
use Rattle.script_scopes.proofs.LoopLemmas.{value_shown}
use Rattle.script_variables.proofs.LocatedLaws.{located_piece, piece_located}

abbrev Membership : Type 0
Membership = List ℕ × List ℕ

-- ---- arguments

-- an argument stands alone in the place of a domain
record IsAlone (es : List Expr) (doms : List DomainTree) (v model : List ℕ) : Type 0 where
  pub place : ℕ
  pub arg : Expr
  pub domain : DomainTree
  pub given : slice_get es place ≡ Some arg
  pub alone : name_alone arg ≡ Some v
  pub asked : slice_get doms place ≡ Some domain
  pub of : model_of domain ≡ Some model

module _ (v model : List ℕ) where
  pair_from : (n m : Option (List ℕ)) → Contains (argument_model n m) (v, model) → (n ≡ Some v) × (m ≡ Some model)
  pair_from None m (k, l, at) = absurd (omega arith)
  pair_from (Some n) None (k, l, at) = absurd (omega arith)
  pair_from (Some n) (Some m) (zero, l, at) = (ap (λ (p : Membership). Some p.0) at, ap (λ (p : Membership). Some p.1) at)
  pair_from (Some n) (Some m) (suc k, l, at) = absurd (omega arith)

  pair_to : (n m : Option (List ℕ)) → n ≡ Some v → m ≡ Some model → Contains (argument_model n m) (v, model)
  pair_to n m one other =
      subst (λ (o : Option (List ℕ)). Contains (argument_model o m) (v, model)) (sym one)
      (subst (λ (o : Option (List ℕ)). Contains (argument_model (Some v) o) (v, model)) (sym other) (0, omega arith, refl))

  arguments_from : (es : List Expr) (doms : List DomainTree) → Contains (argument_models es doms) (v, model) → IsAlone es doms v model
  arguments_from [] doms (k, l, at) = absurd (omega arith)
  arguments_from (e ∷ es) [] (k, l, at) = absurd (omega arith)
  arguments_from (e ∷ es) (d ∷ doms) c = ⊎_elim
      (λ left. let (one, other) = pair_from (name_alone e) (model_of d) left in record { place = 0; arg = e; domain = d; given = refl; alone = one; asked = refl; of = other })
      (λ right. let h = arguments_from es doms right in record { place = suc h.place; arg = h.arg; domain = h.domain; given = h.given; alone = h.alone; asked = h.asked; of = h.of })
      (Contains-append_cases (argument_model (name_alone e) (model_of d)) (argument_models es doms) (v, model) c)

  arguments_to : (es : List Expr) (doms : List DomainTree) (place : ℕ) (arg : Expr) (domain : DomainTree) → slice_get es place ≡ Some arg → name_alone arg ≡ Some v
      → slice_get doms place ≡ Some domain → model_of domain ≡ Some model → Contains (argument_models es doms) (v, model)
  arguments_to [] doms place arg domain given alone asked of = absurd (none-some arg given)
  arguments_to (e ∷ es) [] place arg domain given alone asked of = absurd (none-some domain asked)
  arguments_to (e ∷ es) (d ∷ doms) zero arg domain given alone asked of =
      Contains-append_left (argument_model (name_alone e) (model_of d)) (argument_models es doms) (v, model)
      (pair_to (name_alone e) (model_of d) (ap name_alone (same_Some e arg given) ∙ alone) (ap model_of (same_Some d domain asked) ∙ of))
  arguments_to (e ∷ es) (d ∷ doms) (suc place) arg domain given alone asked of =
      Contains-append_right (argument_model (name_alone e) (model_of d)) (argument_models es doms) (v, model) (arguments_to es doms place arg domain given alone asked of)

-- ---- relations by name

relation_from : (rs : List RelationTree) (n : List ℕ) (called : RelationTree) → value_of (named_relations rs) n ≡ Some called → Contains rs called × (called.name.text ≡ n)
relation_from rs n called h =
    let (r, among, is) = from_map {X = RelationTree} {Y = List ℕ × RelationTree} (λ x. (x.name.text, x)) rs (n, called) (value_among (named_relations rs) n called h) in
    let same : r ≡ called = ap (λ (p : List ℕ × RelationTree). p.1) is in
    (subst (Contains rs) same among, ap (λ (x : RelationTree). x.name.text) (sym same) ∙ ap (λ (p : List ℕ × RelationTree). p.0) is)

names_mapped : (rs : List RelationTree) → map {A = List ℕ × RelationTree} {B = List ℕ} (λ e. e.0) (named_relations rs) ≡ map (λ x. x.name.text) rs
names_mapped [] = refl
names_mapped (r ∷ rs) = ap (λ (ns : List (List ℕ)). r.name.text ∷ ns) (names_mapped rs)

relation_to : (rs : List RelationTree) (called : RelationTree) → ¬ IsRepeated (map (λ x. x.name.text) rs) called.name.text → Contains rs called → value_of (named_relations rs) called.name.text ≡ Some called
relation_to rs called once c =
    once_value (named_relations rs) called.name.text called (subst (λ (ns : List (List ℕ)). ¬ IsRepeated ns called.name.text) (sym (names_mapped rs)) once)
    (to_map {X = RelationTree} {Y = List ℕ × RelationTree} (λ x. (x.name.text, x)) rs called c)

relations_mapped : (rs : List (Bor RelationTree)) → map (λ (e : List ℕ × Bor RelationTree). (e.0, e.1.now)) (map (λ (r : Bor RelationTree). (r.now.name.text, r)) rs) ≡ named_relations (map (λ (r : Bor RelationTree). r.now) rs)
relations_mapped [] = refl
relations_mapped (r ∷ rs) = ap (λ (es : NamesWith RelationTree). (r.now.name.text, r.now) ∷ es) (relations_mapped rs)

-- a table of references finds the relations
pub relations_found : (rs : List (Bor RelationTree)) (n : List ℕ)
    → value_of (map (λ (e : List ℕ × Bor RelationTree). (e.0, e.1.now)) (first_entries (map (λ (r : Bor RelationTree). (r.now.name.text, r)) rs))) n ≡ value_of (named_relations (map (λ (r : Bor RelationTree). r.now) rs)) n
relations_found rs n =
    let pairs : NamesWith (Bor RelationTree) = map (λ (r : Bor RelationTree). (r.now.name.text, r)) rs in
    value_shown (first_entries pairs) n ∙ ap (λ (o : Option (Bor RelationTree)). option_map (λ r. r.now) o) (first_value pairs n) ∙ sym (value_shown pairs n)
    ∙ ap (λ (es : NamesWith RelationTree). value_of es n) (relations_mapped rs)

-- ---- of a relation

module _ (script : Script) (relations : NamesWith RelationTree) (finds : (n : List ℕ) → value_of relations n ≡ value_of (named_relations (relations_of script)) n) where
  -- a variable in a clause
  record IsGiven (clause : Option BlockTree) (v model : List ℕ) : Type 0 where
    pub domain : DomainTree
    pub argument : IsArgument script clause v domain
    pub of : model_of domain ≡ Some model

  clause_from : (clause : Option BlockTree) (v model : List ℕ) → Contains (clause_models relations clause) (v, model) → IsGiven clause v model
  clause_from clause v model c = let (conjunct, among, has) = from_flat_map (conjunct_models relations) (clause_conjuncts clause) (v, model) c in by conjunct among (call_of conjunct) refl has
    where
      called : (conjunct : Expr) → Contains (clause_conjuncts clause) conjunct → (call : List ℕ × List Expr) → call_of conjunct ≡ Some call → (o : Option RelationTree) → value_of relations call.0 ≡ o
          → Contains (called_models o call.1) (v, model) → IsGiven clause v model
      called conjunct among call is None found (k, l, at) = absurd (omega arith)
      called conjunct among call is (Some relation) found d =
          let h = arguments_from v model call.1 relation.domains d in
          let (there, named) = relation_from (relations_of script) call.0 relation (sym (finds call.0) ∙ found) in
          record {
            domain = h.domain;
            argument = record {
              called = relation;
              args = call.1;
              call = record { conjunct = conjunct; among = among; is = is ∙ ap (λ (n : List ℕ). Some (n, call.1)) (sym named); relation = there };
              place = h.place;
              arg = h.arg;
              given = h.given;
              alone = h.alone;
              asked = h.asked;
            };
            of = h.of;
          }

      by : (conjunct : Expr) → Contains (clause_conjuncts clause) conjunct → (o : Option (List ℕ × List Expr)) → call_of conjunct ≡ o → Contains (call_models relations o) (v, model) → IsGiven clause v model
      by conjunct among None is (k, l, at) = absurd (omega arith)
      by conjunct among (Some call) is d = called conjunct among call is (value_of relations call.0) refl d

  pub model_from : (r : RelationTree) (v model : List ℕ) → Contains (object_models relations r) (v, model) → HasModel script r v model
  model_from r v model c = ⊎_elim
      (λ before. ⊎_elim
      (λ left. let (p, among, has) = from_flat_map template_model (located r) (v, model) left in template p among has)
      (λ when. let h = clause_from r.when v model when in HasModel.when_argument h.domain h.argument h.of)
      (Contains-append_cases (flat_map template_model (located r)) (clause_models relations r.when) (v, model) before))
      (λ wheres. let h = clause_from r.wheres v model wheres in HasModel.where_argument h.domain h.argument h.of)
      (Contains-append_cases (flat_map template_model (located r) ++ clause_models relations r.when) (clause_models relations r.wheres) (v, model) c)
    where
      template : (p : List ℕ × Piece) → Contains (located r) p → Contains (template_model p) (v, model) → HasModel script r v model
      template (m, begins at w path) among (zero, l, is) =
          let (domain, piece, of) = located_piece m (begins at w path) r among in
          HasModel.template domain at path (subst (λ (n : List ℕ). HasPiece r domain (begins at n path)) (ap (λ (p : Membership). p.0) is) piece) (of ∙ ap (λ (p : Membership). Some p.1) is)
      template (m, begins at w path) among (suc k, l, is) = absurd (omega arith)
      template (m, asks at e) among (k, l, is) = absurd (omega arith)

  module _ (once : (n : List ℕ) → ¬ IsRepeated (relation_names script) n) where
    clause_to : (clause : Option BlockTree) (v model : List ℕ) (domain : DomainTree) → IsArgument script clause v domain → model_of domain ≡ Some model → Contains (clause_models relations clause) (v, model)
    clause_to clause v model domain h of =
        to_flat_map (conjunct_models relations) (clause_conjuncts clause) h.call.conjunct (v, model) h.call.among
        (subst (λ (o : Option (List ℕ × List Expr)). Contains (call_models relations o) (v, model)) (sym h.call.is)
        (subst (λ (o : Option RelationTree). Contains (called_models o h.args) (v, model))
        (sym (finds h.called.name.text ∙ relation_to (relations_of script) h.called (once h.called.name.text) h.call.relation))
        (arguments_to v model h.args h.called.domains h.place h.arg domain h.given h.alone h.asked of)))

    pub model_to : (r : RelationTree) (v model : List ℕ) → HasModel script r v model → Contains (object_models relations r) (v, model)
    model_to r v model (HasModel.template domain at path piece of) =
        Contains-append_left (flat_map template_model (located r) ++ clause_models relations r.when) (clause_models relations r.wheres) (v, model)
        (Contains-append_left (flat_map template_model (located r)) (clause_models relations r.when) (v, model)
        (to_flat_map template_model (located r) (model, begins at v path) (v, model) (piece_located model (begins at v path) r domain piece of) (0, omega arith, refl)))
    model_to r v model (HasModel.when_argument domain h of) =
        Contains-append_left (flat_map template_model (located r) ++ clause_models relations r.when) (clause_models relations r.wheres) (v, model)
        (Contains-append_right (flat_map template_model (located r)) (clause_models relations r.when) (v, model) (clause_to r.when v model domain h of))
    model_to r v model (HasModel.where_argument domain h of) =
        Contains-append_right (flat_map template_model (located r) ++ clause_models relations r.when) (clause_models relations r.wheres) (v, model) (clause_to r.wheres v model domain h of)

    -- ---- one model

    module _ (r : RelationTree) (types : NamesWith Ty) where
      abbrev models : NamesWith (List ℕ)
      models = first_entries (object_models relations r)

      -- without a first one there is none
      pub no_first : (v : List ℕ) → value_of models v ≡ None → (model : List ℕ) → HasModel script r v model → ⊥
      no_first v none model h =
          let (first, found) = among_value (object_models relations r) v model (model_to r v model h) in
          none-some first (sym none ∙ first_value (object_models relations r) v ∙ found)

      module _ (own : All (HasItsModel types models) (object_models relations r)) where
        its_model : (v model : List ℕ) → is_object types v ≡ true → HasModel script r v model → value_of models v ≡ Some model
        its_model v model object h = All-contains (HasItsModel types models) (object_models relations r) (v, model) own (model_to r v model h) object

        -- the first one is the only one
        pub one_model : (v model : List ℕ) → is_object types v ≡ true → value_of models v ≡ Some model → HasOneModel script r v model
        one_model v model object found = record {
          has = model_from r v model (value_among (object_models relations r) v model (sym (first_value (object_models relations r) v) ∙ found));
          alone = λ other h. sym (same_Some model other (sym found ∙ its_model v other object h));
        }

        pub not_two : (v : List ℕ) → is_object types v ≡ true → HasTwoModels script r v → ⊥
        not_two v object h = h.apart (same_Some h.one h.other (sym (its_model v h.one object h.has_one) ∙ its_model v h.other object h.has_other))

  pub mixed : (r : RelationTree) (types : NamesWith Ty) (v model : List ℕ) → Contains (object_models relations r) (v, model) → value_of (first_entries (object_models relations r)) v ≢ Some model → HasTwoModels script r v
  mixed r types v model among apart =
      let (first, found) = among_value (object_models relations r) v model among in
      record {
        one = first;
        other = model;
        has_one = model_from r v first (value_among (object_models relations r) v first found);
        has_other = model_from r v model among;
        apart = λ same. apart (first_value (object_models relations r) v ∙ found ∙ ap Some same);
      }
