-- The rules on types hold where the expressions of what a relation resolves to stand.
use Rattle.std.proofs.Common.{◌≡◌, ◌≢◌, ◌<◌, ◌⊎◌, ℕ, suc, List, [], ◌∷◌, true, map, length, refl, sym, ◌∙◌, ap, subst, arith, inl, inr}
use Rattle.std.specs.Prelude.{Option, Some, None, Ok, Err, Result, Contains, position, slice_get}
use Rattle.std.specs.List.{AllZip}
use Rattle.std.proofs.lemmas.Bool.{cases_order}
use Rattle.std.proofs.lemmas.Option.{same_Some, none-some, slice_get_within}
use Rattle.std.proofs.lemmas.Slice.Zip.{AllZip-long}
use Rattle.mof_metamodel.specs.declared.desc.MetaDesc.{MetaDesc}
use Rattle.mof_metamodel.specs.declared.desc.PropId.{PropId}
use Rattle.mof_metamodel.specs.Characters.{same_name}
use Rattle.mof_metamodel.specs.Metamodels.{prop_number}
use Rattle.qv_syntax.specs.declared.typed.Values.{Values}
use Rattle.qv_syntax.specs.declared.program.ItemValue.{ItemValue}
use Rattle.ocl_environments.specs.declared.variable.Variable.{Variable}
use Rattle.qv_syntax.specs.declared.name.Path.{Path}
use Rattle.qv_syntax.specs.declared.ty.Ty.{Ty}
use Rattle.qv_syntax.specs.declared.ty.Ty.TheVariants as types
use Rattle.qv_syntax.specs.declared.expr.Expr.{Expr, out-Expr}
use Rattle.qv_syntax.specs.declared.typed.Typed.{Typed}
use Rattle.qv_syntax.specs.declared.script.BlockTree.{BlockTree}
use Rattle.qv_syntax.specs.declared.script.RelationTree.{RelationTree}
use Rattle.qv_syntax.specs.declared.program.Program.{Program}
use Rattle.qv_syntax.specs.declared.program.Rel.{Rel}
use Rattle.qv_syntax.specs.declared.program.Var.{Var}
use Rattle.qv_syntax.specs.declared.program.Dom.{Dom}
use Rattle.qv_syntax.specs.declared.program.Tmpl.{Tmpl, out-Tmpl}
use Rattle.qv_syntax.specs.declared.program.Item.{Item}
use Rattle.qv_syntax.specs.declared.program.ItemValue.TheVariants as items
use Rattle.qv_syntax.specs.declared.program.Conj.{Conj}
use Rattle.qv_syntax.specs.Types.{AreRelated}
use Rattle.qv_syntax.specs.TypeRules.{AreComparable, HasProperty}
use Rattle.qv_syntax.specs.TypedTrees.{Typing, IsTyped}
use Rattle.qv_syntax.specs.Parts.{IsNested, HasItem}
use Rattle.qv_syntax.specs.Relations.{IsModelDomain, IsTemplateOf}
use Rattle.qv_syntax.specs.ProgramTypes as programs
use Rattle.qv_syntax.specs.ProgramTypes.{typing_of, Fits, IsGiven, IsConditionTyped, IsEquationTyped, AreGiven, IsCallTyped, IsConjunctTyped, IsItemOfType, IsItemTyped, IsRelationTyped}
use Rattle.ocl_environments.specs.declared.fault.TypeFault.{TypeFault}
use Rattle.ocl_environments.specs.declared.part.TypedPart.{TypedPart}
use Rattle.ocl_environments.specs.Environments.{Environment, meta_at, is_over}
use Rattle.ocl_environments.specs.Parts.{tree_of}
use Rattle.ocl_types.specs.Typing.{typed}
use Rattle.ocl_types.specs.HasType.{HasType, HasTree}
use Rattle.ocl_types.specs.TypedContext as context
use Rattle.ocl_types.proofs.TypingDecides.{one_type, tree_told, fault_told}
use Rattle.ocl_types.proofs.RangeLaws.{property_over}
use Rattle.script_scopes.specs.ScriptNames.{model_names}
use Rattle.script_scopes.specs.Usages.{calls_in}
use Rattle.script_scopes.specs.Conjuncts.{clause_conjuncts, call_of, equation_of}
use Rattle.script_scopes.specs.Occurrences.{Piece, relations_of, variables_of, property_of, root_of, clause_variables, pieces_of}
use Rattle.script_scopes.specs.Occurrences.Piece.{begins, asks}
use Rattle.script_scopes.specs.Divisions.{first_template, IsWhenEquation, IsWhereEquation}
use Rattle.script_scopes.specs.ObjectModels.{CallsWith}
use Rattle.script_scopes.specs.Directions.{IsRelationName, IsCalledWithin, IsMisplaced}
use Rattle.script_scopes.specs.Environments.{Setting, in_relation, place_of, slots_of}
use Rattle.script_scopes.specs.Declarations.{relation_names, meta_of}
use Rattle.script_scopes.specs.ResolvedTemplates.{class_named}
use Rattle.script_scopes.specs.Resolutions.{IsVariable, IsData, IsConjunct, AreConjuncts, IsRelation, model_number, domain_reach}
use Rattle.script_scopes.specs.Faults.{StandsInScript, StandsInExpressions, StandsInPlace, StandsAt, IsProperty, IsExpression, IsExpressionOf, HasQueries}
use Rattle.script_variables.specs.SettledRelations.{IsSettled}
use Rattle.script_scopes.proofs.CallRowLaws.{within_some, among_some, named_by}
use Rattle.mof_metamodel.proofs.Facts.{contains_at}
use Rattle.script_variables.proofs.PlaceLaws.{at_place}
use Rattle.qvtr_types.proofs.ProgramCallLaws.{apart}
use Rattle.qvtr_types.proofs.ZipLemmas.{zip_left, zip_right}
use Rattle.qvtr_types.proofs.OccurrenceLaws.{domain_variable, when_variable, where_variable}
use Rattle.qvtr_types.proofs.well_formed.Numbers.{AreApart, named_at, place_at, one_name, variables_apart}
use Rattle.qvtr_types.proofs.well_formed.Templates.{IsItemTold}
use Rattle.qvtr_types.proofs.well_formed.Equations.{equation_told}
use Rattle.qvtr_types.proofs.well_formed.Domains.{root_at}
use Rattle.qvtr_types.proofs.well_formed.Clauses.{conjunct_from, equation_at}
use Rattle.qvtr_types.proofs.well_formed.Universal.{name_of}
use Rattle.qvtr_types.proofs.well_formed.Shapes.{IsTyped as IsTypedTemplate, typed as typed_template, meta_is}
use Rattle.qvtr_types.proofs.well_formed.Typing.{same_or, related_or, property_has, fitting, typed_tree, over_type}
use Rattle.qvtr_types.proofs.well_formed.Ranges.{template_class_in}

unequal : (m n : ℕ) → (m < n) ⊎ (n < m) → m ≢ n
unequal m n (inl less) same = omega (arith, less, same)
unequal m n (inr more) same = omega (arith, more, same)

nested_in : (root t : Tmpl) → IsNested root t → (prop : PropId) (part : Tmpl) → HasItem t (record { prop = prop; value = items.Nested part }) → IsNested root part
nested_in _ _ (IsNested.whole t) prop part has = IsNested.inside t prop part part has (IsNested.whole part)
nested_in _ t (IsNested.inside root p inner _ own nested) prop part has = IsNested.inside root p inner part own (nested_in inner t nested prop part has)

module _ (s : Setting) (program : Program) (rels : AllZip (IsRelation s) (relations_of s.script) program.rels)
    (all_settled : AllZip (λ r rel. IsSettled s r rel.vars) (relations_of s.script) program.rels) where
  -- a relation of the program comes from one of the script
  pub record IsFrom (number : ℕ) (rel : Rel) : Type 0 where
    pub r : RelationTree
    pub found : slice_get (relations_of s.script) number ≡ Some r
    pub is : IsRelation s r rel
    pub settled : IsSettled s r rel.vars

  pub relation_from : (number : ℕ) (rel : Rel) → slice_get program.rels number ≡ Some rel → IsFrom number rel
  relation_from number rel at =
      let there = zip_left (IsRelation s) (relations_of s.script) program.rels number rel rels at in
      let own = zip_left (λ r (x : Rel). IsSettled s r x.vars) (relations_of s.script) program.rels number rel all_settled at in
      let same : own.0 ≡ there.0 = same_Some own.0 there.0 (sym own.1 ∙ there.1) in
      record { r = there.0; found = there.1; is = there.2; settled = subst (λ (r : RelationTree). IsSettled s r rel.vars) same own.2 }

module _ (s : Setting) (program : Program) (none : (f : TypeFault) → StandsInScript s f → ⊥) (typed_queries : HasQueries s) (models : program.models ≡ slots_of s.script) (queries : program.queries ≡ s.queries)
    (aimed : slice_get (model_names s.script.models) program.target ≡ Some s.target) (rels : AllZip (IsRelation s) (relations_of s.script) program.rels)
    (all_settled : AllZip (λ r rel. IsSettled s r rel.vars) (relations_of s.script) program.rels)
    (models_apart : AreApart (model_names s.script.models)) (relations_apart : AreApart (relation_names s.script)) where
  module _ (r : RelationTree) (rel : Rel) (among : Contains (relations_of s.script) r) (is : IsRelation s r rel) (settled : IsSettled s r rel.vars) where
    abbrev env : Environment
    env = in_relation s r rel.vars

    count : length (variables_of r) ≡ length rel.vars
    count = sym (AllZip-long (IsVariable s r) (variables_of r) rel.vars is.vars)

    no_fault : (f : TypeFault) → StandsInExpressions s r rel.vars f → ⊥
    no_fault f stands = none f (StandsInScript.expression r rel.vars f typed_queries among is.vars stands)

    tree_typed : (e : Expr) (t : Typed) (p : TypedPart) → HasType env e p → t ≡ tree_of p → IsTyped (programs.context_of s.metas program) (programs.variables_of rel) t (context.typing_of p)
    tree_typed e t p has same = subst (λ (x : Typed). IsTyped (programs.context_of s.metas program) (map typing_of rel.vars) x (context.typing_of p)) (sym same)
        (typed_tree s r rel.vars settled.in_order program models queries count e p has)

    expression : (e : Expr) (p : TypedPart) → HasType env e p → IsExpression s r rel.vars e (context.typing_of p)
    expression e p has = record { part = p; has = has; is = refl }

    -- ---- what is given where a type and a model are asked for

    given_fits : (wanted : Typing) (e : Expr) (p : TypedPart) → HasType env e p → is_over s.metas wanted.ty ≡ true → (name : List ℕ)
        → ((f : TypeFault) → StandsInPlace s wanted (context.typing_of p) name f → ⊥) → Fits s.metas wanted (context.typing_of p)
    given_fits wanted e p has over name refuses = record {
      related = by_type (related_or s.metas settled.in_order.well p.ty wanted.ty (over_type s r rel.vars settled.in_order e p has) over);
      model = by_model p.model refl;
    }
      where
        by_type : AreRelated s.metas p.ty wanted.ty ⊎ (AreRelated s.metas p.ty wanted.ty → ⊥) → AreRelated s.metas p.ty wanted.ty
        by_type (inl related) = related
        by_type (inr unrelated) = absurd (refuses _ (StandsInPlace.type unrelated))

        by_number : (m n : ℕ) → p.model ≡ Some m → wanted.model ≡ Some n → (m ≡ n) ⊎ ((m < n) ⊎ (n < m)) → (p.model ≡ None) ⊎ (p.model ≡ wanted.model)
        by_number m n at other (inl same) = inr (at ∙ ap Some same ∙ sym other)
        by_number m n at other (inr split) = absurd (refuses _ (StandsInPlace.model m at (λ e. unequal m n split (same_Some m n (sym e ∙ other)))))

        by_wanted : (m : ℕ) → p.model ≡ Some m → (o : Option ℕ) → wanted.model ≡ o → (p.model ≡ None) ⊎ (p.model ≡ wanted.model)
        by_wanted m at None other = absurd (refuses _ (StandsInPlace.model m at (λ e. none-some m (sym other ∙ e))))
        by_wanted m at (Some n) other = by_number m n at other (cases_order m n)

        by_model : (o : Option ℕ) → p.model ≡ o → (p.model ≡ None) ⊎ (p.model ≡ wanted.model)
        by_model None at = inl at
        by_model (Some m) at = by_wanted m at wanted.model refl

    -- ---- clauses

    module _ (clause : Option BlockTree) (of : (clause ≡ r.when) ⊎ (clause ≡ r.wheres)) (IsEquation : ℕ → List ℕ → Expr → Type 0) (cs : List Conj)
        (are : AreConjuncts s r rel.vars IsEquation (clause_conjuncts clause) cs)
        (gives : (place : ℕ) (v : List ℕ) (e : Expr) → IsEquation place v e → (c : Expr) × (slice_get (clause_conjuncts clause) place ≡ Some c) × (equation_of c ≡ Some (v, e)))
        (known : (w : List ℕ) → Contains (clause_variables clause) w → Contains (variables_of r) w) where
      -- a conjunct that is no call of a relation
      abbrev IsNoCall : Expr → Type 0
      IsNoCall x = (name : List ℕ) (args : List Expr) → call_of x ≡ Some (name, args) → IsRelationName s.script name → ⊥

      calls_no_relation : (x : Expr) → Contains (clause_conjuncts clause) x → IsNoCall x → (name : List ℕ) → Contains (calls_in x) name → IsRelationName s.script name → ⊥
      calls_no_relation x c no_call name has named = by of
        where
          by : (clause ≡ r.when) ⊎ (clause ≡ r.wheres) → ⊥
          by (inl same) = none _ (StandsInScript.misplaced r name among (IsMisplaced.when x (subst (λ (b : Option BlockTree). Contains (clause_conjuncts b) x) same c) (IsCalledWithin.part no_call has) named))
          by (inr same) = none _ (StandsInScript.misplaced r name among (IsMisplaced.where_clause x (subst (λ (b : Option BlockTree). Contains (clause_conjuncts b) x) same c) (IsCalledWithin.part no_call has) named))

      -- it has a type
      condition_typed : (x : Expr) → Contains (clause_conjuncts clause) x → IsNoCall x → (p : TypedPart) × HasType env x p
      condition_typed x c no_call = by (typed env x) refl
        where
          by : (o : Result Typed TypeFault) → typed env x ≡ o → (p : TypedPart) × HasType env x p
          by (Ok t) at = let h = tree_told env settled.in_order x t at in (h.0, h.1)
          by (Err f) at = absurd (no_fault f (StandsInExpressions.typing x f (IsExpressionOf.condition clause of c no_call) (calls_no_relation x c no_call) (fault_told env settled.in_order x f at)))

      condition : (x : Expr) → Contains (clause_conjuncts clause) x → IsNoCall x → (t : Typed) → HasTree env x t → IsConditionTyped s.metas program rel t
      condition x c no_call t (p, has, same) = record { typing = context.typing_of p; typed = tree_typed x t p has same; boolean = by (same_or p.ty types.Bool) }
        where
          by : (p.ty ≡ types.Bool) ⊎ (p.ty ≢ types.Bool) → p.ty ≡ types.Bool
          by (inl at) = at
          by (inr other) = absurd (no_fault _ (StandsInExpressions.condition clause x (context.typing_of p) of c no_call (expression x p has) other))

      equation : (x : Expr) → Contains (clause_conjuncts clause) x → (w : List ℕ) (y : Expr) → equation_of x ≡ Some (w, y) → (t : Typed) → HasTree env y t
          → IsEquationTyped s.metas program rel (place_of w (variables_of r)) t
      equation x c w y eq t (p, has, same) =
          let no_call : IsNoCall x = λ name args call named. apart (out-Expr x) (w, y) (name, args) eq call in
          let whole = condition_typed x c no_call in
          let told = equation_told env x w y eq whole.0 whole.1 in
          let var = named_at (variables_of r) rel.vars told.number w told.variable told.named.there in
          let number : place_of w (variables_of r) ≡ told.number = place_at (variables_of r) (variables_apart s r rel.vars) told.number w var.1 in
          let right : told.right ≡ p = one_type env settled.in_order y told.right p told.has has in
          record {
            var = var.0;
            found = ap (slice_get rel.vars) number ∙ var.2;
            typing = context.typing_of p;
            typed = tree_typed y t p has same;
            compared = subst (λ (q : TypedPart). AreComparable s.metas var.0.ty q.ty) right
                (subst (λ (ty : Ty). AreComparable s.metas ty told.right.ty) (ap (λ (v : Variable). v.ty) var.3) told.compared);
          }

      -- ---- calls

      arguments : (metas : List MetaDesc) (called : Rel) (doms : List Dom) (ts : List Typed) → length doms ≡ length ts
          → ((k : ℕ) (dom : Dom) (t : Typed) → slice_get doms k ≡ Some dom → slice_get ts k ≡ Some t → (root : Var) × (slice_get called.vars dom.root ≡ Some root) × IsGiven metas program rel (typing_of root) t)
          → AreGiven metas program rel called doms ts
      arguments metas called [] [] long each = tt
      arguments metas called [] (t ∷ ts) long each = absurd (omega (arith, long))
      arguments metas called (d ∷ doms) [] long each = absurd (omega (arith, long))
      arguments metas called (d ∷ doms) (t ∷ ts) long each = (each 0 d t refl refl, arguments metas called doms ts (omega (arith, long)) (λ k dom x one other. each (suc k) dom x one other))

      call : (x : Expr) → Contains (clause_conjuncts clause) x → (name : List ℕ) (args : List Expr) (number : ℕ) (trees : List Typed) → call_of x ≡ Some (name, args)
          → position (same_name name) (relation_names s.script) ≡ Some number → AllZip (HasTree env) args trees → IsCallTyped s.metas program rel number trees
      call x c name args number trees calls position all =
          let found = named_by s.script relations_apart name number position in
          let there = zip_right (IsRelation s) (relations_of s.script) program.rels number found.0 rels found.1 in
          let from = relation_from s program rels all_settled number there.0 there.1 in
          let with_args : CallsWith s.script clause from.r args = record {
            conjunct = x;
            among = c;
            is = calls ∙ ap (λ (n : List ℕ). Some (n, args)) (sym found.2 ∙ ap (λ (q : RelationTree). q.name.text) (same_Some found.0 from.r (sym found.1 ∙ from.found)));
            relation = contains_at (relations_of s.script) number from.r from.found;
          } in
          let many : length args ≡ length from.r.domains = count_or from.r with_args (cases_order (length args) (length from.r.domains)) in
          let trees_long : length trees ≡ length args = AllZip-long (HasTree env) args trees all in
          let doms_long = from.is.domains.count in
          record {
            called = there.0;
            found = there.1;
            given = arguments s.metas there.0 there.0.domains trees (omega (arith, many, trees_long, doms_long))
                (λ k dom t one other. let a = zip_left (HasTree env) args trees k t all other in argument from.r there.0 from.is from.settled with_args k a.0 a.1 t a.2 dom one);
          }
        where
          count_or : (called : RelationTree) → CallsWith s.script clause called args → (length args ≡ length called.domains) ⊎ ((length args < length called.domains) ⊎ (length called.domains < length args)) → length args ≡ length called.domains
          count_or called with_args (inl same) = same
          count_or called with_args (inr split) = absurd (no_fault _ (StandsInExpressions.argument_count clause called args of with_args (unequal (length args) (length called.domains) split)))

          argument : (called : RelationTree) (target : Rel) → IsRelation s called target → IsSettled s called target.vars → CallsWith s.script clause called args → (k : ℕ) (e : Expr) → slice_get args k ≡ Some e
              → (t : Typed) → HasTree env e t → (dom : Dom) → slice_get target.domains k ≡ Some dom → (root : Var) × (slice_get target.vars dom.root ≡ Some root) × IsGiven s.metas program rel (typing_of root) t
          argument called target own own_settled with_args k e at_e t (p, has, same) dom at_dom =
              let long = own.domains.count in
              let below = slice_get_within target.domains k dom at_dom in
              let domain = within_some called.domains k (omega (arith, long, below)) in
              let shaped = own.domains.each k domain.0 dom domain.1 at_dom in
              let root : List ℕ = root_of domain.0 in
              let known_root = domain_variable called root k domain.0 domain.1 (0, omega arith, refl) in
              let place = at_place root (variables_of called) known_root in
              let var = zip_right (IsVariable s called) (variables_of called) target.vars (place_of root (variables_of called)) root own.vars place in
              let fit = fitting s called target.vars own_settled.in_order (place_of root (variables_of called)) root var.0 place var.1 in (
                var.0,
                ap (slice_get target.vars) (root_at s called target.vars (first_template called k) domain.0 dom shaped) ∙ var.1,
                record {
                  typing = context.typing_of p;
                  typed = tree_typed e t p has same;
                  fits = given_fits (typing_of var.0) e p has fit.over called.name.text (λ f stands. no_fault f
                      (StandsInExpressions.argument clause called args k e domain.0 (context.typing_of p) (typing_of var.0) f of with_args at_e domain.1 (expression e p has)
                      (record { vars = target.vars; are = own.vars; place = place_of root (variables_of called); var = var.0; named = place; found = var.1; is = refl }) stands));
                },
              )

      conjunct : (place : ℕ) (x : Expr) (c : Conj) → slice_get (clause_conjuncts clause) place ≡ Some x → IsConjunct s r rel.vars IsEquation place x c → IsConjunctTyped s.metas program rel c
      conjunct place x _ found (IsConjunct.call name args number trees calls position all) = call x (contains_at (clause_conjuncts clause) place x found) name args number trees calls position all
      conjunct place x _ found (IsConjunct.equation w y t eq tree) =
          equation x (contains_at (clause_conjuncts clause) place x found) w y (equation_at s r rel.vars IsEquation clause cs are gives place x w y found eq) t tree
      conjunct place x _ found (IsConjunct.condition t no_call other tree) = condition x (contains_at (clause_conjuncts clause) place x found) no_call t tree

      pub conjuncts_typed : (c : Conj) → Contains cs c → IsConjunctTyped s.metas program rel c
      conjuncts_typed c has =
          let k = among_some cs c has in
          let x = conjunct_from s r rel.vars IsEquation clause cs are gives k.0 c k.1 in
          conjunct k.0 x.e c x.found x.is

    -- ---- items

    item_typed : (dom : Dom) (d : IsModelDomain program rel dom) (t : Tmpl) (item : Item) → IsTemplateOf dom t → HasItem t item → IsItemTyped s.metas program rel d.model d.slot.meta t item
    item_typed dom d t item of has =
        let h = typed_template s program models models_apart r rel is settled.one dom d.is t of in
        let number : model_number s h.told.model ≡ d.model = same_Some _ d.model (sym h.told.number ∙ d.of_model) in
        let meta : d.slot.meta ≡ meta_of s.script h.told.model = meta_is s program models models_apart h.told.model d.model d.slot number d.found in
        subst (λ (m : ℕ). IsItemTyped s.metas program rel m d.slot.meta t item) number
        (subst (λ (m : ℕ). IsItemTyped s.metas program rel (model_number s h.told.model) m t item) (sym meta)
        (told_typed dom t h item (inner_over dom d t h item of has) (h.told.told.items_told item has)))
      where
        -- a template that is an item's value has a class of the same metamodel
        inner_over : (dom : Dom) (d : IsModelDomain program rel dom) (t : Tmpl) (h : IsTypedTemplate s program models models_apart r rel is settled.one dom t) (item : Item) → IsTemplateOf dom t → HasItem t item
            → (part : Tmpl) → item.value ≡ items.Nested part → is_over s.metas (types.Class (meta_of s.script h.told.model) (out-Tmpl part).class) ≡ true
        inner_over dom d t h item of has part value =
            let inner : IsTemplateOf dom part = record { root = of.root; has = of.has; nested = nested_in of.root t of.nested item.prop part (subst (λ (v : ItemValue). HasItem t (record { prop = item.prop; value = v })) value has) } in
            let g = typed_template s program models models_apart r rel is settled.one dom d.is part inner in
            let name = name_of s program aimed models_apart r rel is (out-Tmpl part).var g.var g.found in
            let fit = fitting s r rel.vars settled.in_order (out-Tmpl part).var name.0 g.var name.1 g.found in
            let one : g.told.model ≡ h.told.model = one_name (model_names s.script.models) g.told.model h.told.model g.told.known h.told.known (same_Some _ _ (sym g.told.number ∙ h.told.number)) in
            ap (λ (m : List ℕ). is_over s.metas (types.Class (meta_of s.script m) (out-Tmpl part).class)) (sym one) ∙ ap (is_over s.metas) (sym g.class) ∙ fit.over

        told_typed : (dom : Dom) (t : Tmpl) (h : IsTypedTemplate s program models models_apart r rel is settled.one dom t) (item : Item)
            → ((part : Tmpl) → item.value ≡ items.Nested part → is_over s.metas (types.Class (meta_of s.script h.told.model) (out-Tmpl part).class) ≡ true)
            → IsItemTold (domain_reach s r rel.vars h.told.model) (pieces_of (first_template r h.from.place) h.from.domain) h.told.told.path (out-Tmpl t).class item
            → IsItemTyped s.metas program rel (model_number s h.told.model) (meta_of s.script h.told.model) t item
        told_typed dom t h item over told = by told
          where
            property : (name : List ℕ) → prop_number (meta_at s.metas (meta_of s.script h.told.model)) (out-Tmpl t).class.0 name ≡ Some item.prop.0
                → (gives : Values) × (of : Ty) × HasProperty s.metas (types.Class (meta_of s.script h.told.model) (out-Tmpl t).class) item.prop gives of
            property name named = property_has s.metas settled.in_order.well (meta_of s.script h.told.model) (out-Tmpl t).class (template_class_in s program none models aimed rels models_apart relations_apart r rel among is settled dom t h) name item.prop named

            stands_at : (piece : Piece) (name : List ℕ) → Contains (pieces_of (first_template r h.from.place) h.from.domain) piece
                → property_of piece ≡ Some (record { class = h.told.told.path; name = name }) → StandsAt s r piece h.told.model (out-Tmpl t).class name
            stands_at piece name c holder = record {
              domain = h.from.domain;
              at = record { class = h.told.told.path; name = name };
              has = record { place = h.from.place; found = h.from.found; has = c };
              holder = holder;
              of_model = h.told.of_model;
              known = h.told.known;
              is_class = h.told.told.class;
              named = refl;
            }

            nested_related : (name v : List ℕ) (inner : Path) (part : Tmpl) → Contains (pieces_of (first_template r h.from.place) h.from.domain) (begins (Some (record { class = h.told.told.path; name = name })) v inner)
                → class_named (domain_reach s r rel.vars h.told.model) inner ≡ Some (out-Tmpl part).class → is_over s.metas (types.Class (meta_of s.script h.told.model) (out-Tmpl part).class) ≡ true
                → (of : Ty) → IsProperty s h.told.model (out-Tmpl t).class name of → (gives : Values) → HasProperty s.metas (types.Class (meta_of s.script h.told.model) (out-Tmpl t).class) item.prop gives of
                → AreRelated s.metas (types.Class (meta_of s.script h.told.model) (out-Tmpl part).class) of
            nested_related name v inner part c inner_class inside of has gives property =
                elim (related_or s.metas settled.in_order.well (types.Class (meta_of s.script h.told.model) (out-Tmpl part).class) of inside (property_over s.metas _ item.prop gives of property)) [
                  | inl related ↦ related
                  | inr unrelated ↦ absurd (no_fault _ (StandsInExpressions.nested (Some (record { class = h.told.told.path; name = name })) v inner h.told.model (out-Tmpl t).class (out-Tmpl part).class name of
                      (stands_at (begins (Some (record { class = h.told.told.path; name = name })) v inner) name c refl) has inner_class unrelated))
                ]

            by : IsItemTold (domain_reach s r rel.vars h.told.model) (pieces_of (first_template r h.from.place) h.from.domain) h.told.told.path (out-Tmpl t).class item
                → IsItemTyped s.metas program rel (model_number s h.told.model) (meta_of s.script h.told.model) t item
            by (IsItemTold.empty name named null) =
                let p = property name named in
                record { gives = p.0; of = p.1; property = p.2; value = IsItemOfType.empty null }
            by (IsItemTold.expression name e tree named c null (q, typed_as, same) at) =
                let p = property name named in
                let has : IsProperty s h.told.model (out-Tmpl t).class name p.1 = record { prop = item.prop; gives = p.0; found = named; has = p.2 } in
                let wanted : Typing = record { ty = p.1; model = Some (model_number s h.told.model) } in
                record {
                  gives = p.0;
                  of = p.1;
                  property = p.2;
                  value = IsItemOfType.expression tree at (record {
                    typing = context.typing_of q;
                    typed = tree_typed e tree q typed_as same;
                    fits = given_fits wanted e q typed_as (property_over s.metas _ item.prop p.0 p.1 p.2) name (λ f stands. no_fault f
                        (StandsInExpressions.value (Some (record { class = h.told.told.path; name = name })) e h.told.model (out-Tmpl t).class name p.1 (context.typing_of q) f
                        (stands_at (asks (Some (record { class = h.told.told.path; name = name })) e) name c refl) has null (expression e q typed_as) stands));
                  });
                }
            by (IsItemTold.nested name v inner part named c inner_class at) =
                let p = property name named in
                let has : IsProperty s h.told.model (out-Tmpl t).class name p.1 = record { prop = item.prop; gives = p.0; found = named; has = p.2 } in
                record {
                  gives = p.0;
                  of = p.1;
                  property = p.2;
                  value = IsItemOfType.nested part at (nested_related name v inner part c inner_class (over part at) p.1 has p.0 p.2);
                }

    pub relation_typed : IsRelationTyped s.metas program rel
    relation_typed = record {
      whens = conjuncts_typed r.when (inl refl) (IsWhenEquation (IsData s r) s.target r) rel.whens is.whens (λ place v e q. (q.given.conjunct, q.given.found, q.given.is)) (when_variable r);
      wheres = conjuncts_typed r.wheres (inr refl) (IsWhereEquation (IsData s r) s.target r) rel.wheres is.wheres (λ place v e q. (q.given.conjunct, q.given.found, q.given.is)) (where_variable r);
      items = item_typed;
    }
