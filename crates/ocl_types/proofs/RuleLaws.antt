-- Each rule that is computed decides what is judged by it.
use Rattle.std.proofs.Common.{◌≡◌, ℕ, Bool, true, false, List, [], ◌∷◌, Option, None, Some, Ok, length, if◌then◌else◌, refl, sym, ap, ◌∙◌, subst, ◌≢◌, ⊎_elim, inl, inr, true≢false, eq-eqb}
use Rattle.std.specs.Prelude.{IsTrue, ◌↔◌, ◌==◌, not, codes, encode_utf8_all}
use Rattle.std.proofs.lemmas.Bool.{eqb-true, false≢true}
use Rattle.mof_metamodel.specs.declared.desc.MetaDesc.{MetaDesc}
use Rattle.mof_metamodel.specs.declared.desc.ClassId.{ClassId}
use Rattle.qv_syntax.specs.declared.name.Path.{Path}
use Rattle.qv_syntax.specs.declared.operator.Operator.{Operator}
use Rattle.qv_syntax.specs.declared.operator.Operator.TheVariants as operators
use Rattle.qv_syntax.specs.declared.operation.Operation.{Operation}
use Rattle.qv_syntax.specs.declared.operation.ClassOperation.{ClassOperation}
use Rattle.qv_syntax.specs.declared.operation.IteratorKind.{IteratorKind}
use Rattle.qv_syntax.specs.declared.operation.CollectionOperation.{CollectionOperation}
use Rattle.qv_syntax.specs.declared.operation.CollectionOperation.TheVariants as collections
use Rattle.qv_syntax.specs.declared.ty.Ty.{Ty}
use Rattle.qv_syntax.specs.declared.ty.Ty.TheVariants as types
use Rattle.qv_syntax.specs.declared.type_tree.Kind.{Kind}
use Rattle.qv_syntax.specs.declared.type_tree.TypeTree.{TypeTree}
use Rattle.ocl_environments.specs.declared.fault.TypeFault.{TypeFault}
use Rattle.ocl_environments.specs.declared.fault.TypeFault.TheVariants.{UnknownName, DuplicateName, WrongCount, ModelMix}
use Rattle.ocl_environments.specs.declared.part.TypedPart.{TypedPart}
use Rattle.ocl_environments.specs.declared.part.CallsSoFar.{CallsSoFar}
use Rattle.ocl_environments.specs.declared.part.Chained.{Chained}
use Rattle.ocl_environments.specs.declared.variable.Signature.{Signature}
use Rattle.ocl_environments.specs.Environments.{Environment, AreWell, is_over, is_bound, number_of, value_of, only_model, class_of}
use Rattle.ocl_environments.specs.Naming.{names_of, joined_names, path_text, kind_text}
use Rattle.ocl_environments.specs.Classifiers.{named_literal, named_class}
use Rattle.qv_syntax.specs.Types.{ConformsTo}
use Rattle.qv_syntax.specs.TypeRules.{AreComparable, Operated}
use Rattle.ocl_types.specs.Operations.{operation_row, collection_row, iterator_row, operation_named, class_operation_named, collection_operation_named, iterator_named}
use Rattle.ocl_types.specs.Signatures.{is_receiver, parameter_count, parameter_type, argument_count, is_of_kind}
use Rattle.ocl_environments.specs.Outcomes.{RuleResult, and_then, asking, wrong_type}
use Rattle.ocl_environments.specs.Agreement.{collection_parts, same_type, joined_models, fits, exactly, are_comparable, branches}
use Rattle.ocl_environments.specs.Parts.{types_of, with_models, one_model}
use Rattle.ocl_types.specs.TypingScopes.{path_part, names_part, variable_by, literal_by, declared_type, let_type}
use Rattle.ocl_environments.specs.Lets.{let_variable}
use Rattle.ocl_types.specs.TypingOperators as ops
use Rattle.ocl_types.specs.TypingOperators.{operated, added, literal_type, link_rule, not_rule, negated_rule, if_rule, literal_rule}
use Rattle.ocl_types.specs.TypingSteps.{property_of, navigated_to, collected_from, property_by, property_rule, each_exactly, operation_by, operation_rule, class_or, is_of_meta, class_operation_by, class_operation_rule, tested_with, model_or, extent_part, extent_rule, each_fits, query_by, query_rule}
use Rattle.ocl_types.specs.TypingCollections.{kind_of, element_of, given_types, summed, collection_operation_by, collection_operation_rule, variable_type, iterator_variable, condition, iterator_by, iterator_rule}
use Rattle.ocl_types.specs.Judged.{Judged, gives, both}
use Rattle.ocl_types.specs.TypeRules
use Rattle.ocl_types.specs.TypeRules.{IsMisadded, compared_judged, HasPropertyNamed, part_models, one_model_judged, branches_judged, elements_judged, declared_judged, given_judged, being, conforming, variable_judged, literal_judged, names_judged, sides, added_judged, operator_judged, linked_judged, not_judged, negated_judged, if_judged, collection_judged, let_judged, bound_judged, arguments_judged, query_judged, extent_judged, property_judged_by, property_judged, exact_judged, operation_judged, class_operation_judged, summed_judged, collection_operation_judged, variable_type_judged, iterator_variable_judged, condition_judged, iterator_judged}
use Rattle.ocl_environments.proofs.TypeLaws.{same_is_one}
use Rattle.ocl_types.proofs.ConformanceLaws.{first_in, later_in}
use Rattle.ocl_types.proofs.NumberLaws.{property_is, property_where}
use Rattle.ocl_types.proofs.NameLaws.{named_decides}
use Rattle.ocl_types.proofs.DemandLaws.{conforming_is, comparing_is, receiver_is, kind_is, object_is, known_decides}
use Rattle.ocl_types.proofs.WrittenLaws.{declared_decides}
use Rattle.ocl_types.specs.TypedContext.{AreOver}
use Rattle.ocl_types.proofs.RelationLaws.{branches_decide, elements_decide, given_decides, two_models_decide, models_decide, element_models_decide}
use Rattle.ocl_types.proofs.JudgedLaws.{Decides, gives_decides, says_decides, asks_decides, asked_decides, asked_where, finds_decides, taking_decides, both_decides, two_decide, pair, regrouped}

-- ---- demands

pub free_is : (b : Bool) → IsTrue (not b) ↔ (b ≡ false)
free_is true = (λ h. absurd (false≢true h), λ h. absurd (true≢false h))
free_is false = (λ h. refl, λ h. refl)

count_is : (a b : ℕ) → IsTrue (a == b) ↔ (a ≡ b)
count_is a b = (eqb-true a b, eq-eqb a b)

-- a demand in front of what comes
asking_then : {X Y : Type 0} (b : Bool) (f : TypeFault) (r : RuleResult X) (k : X → RuleResult Y) → and_then (asking b f r) k ≡ asking b f (and_then r k)
asking_then true f r k = refl
asking_then false f r k = refl

pub being_decides : {X : Type 0} (metas : List MetaDesc) (wanted found : Ty) (r : RuleResult X) (j : Judged X) → Decides r j
    → Decides (and_then (exactly metas wanted found) (λ u. r)) (being metas wanted found j)
being_decides metas wanted found r j d = asked_decides (same_type found wanted) (found ≡ wanted) (wrong_type metas wanted found) r j (same_is_one found wanted) d

pub conforming_decides : {X : Type 0} (metas : List MetaDesc) (well : AreWell metas) (wanted found : Ty) (r : RuleResult X) (j : Judged X) → is_over metas found ≡ true → Decides r j
    → Decides (asking (fits metas found wanted) (wrong_type metas wanted found) r) (conforming metas wanted found j)
conforming_decides metas well wanted found r j over d =
    asks_decides (fits metas found wanted) (ConformsTo metas found wanted) (wrong_type metas wanted found) r j (conforming_is metas well found wanted over) d

-- ---- names

variable_decides : (env : Environment) (name : List ℕ) → Decides (variable_by name (number_of env.variables name) (value_of env.variables name)) (variable_judged env name)
variable_decides env name = named_decides env.variables name (variable_by name) _ (λ n. refl) (λ o. refl) (λ v. gives_decides _)

literal_decides : (env : Environment) (names : List (List ℕ)) → Decides (literal_by names (named_literal env names)) (literal_judged env names)
literal_decides env names = finds_decides (named_literal env names) (UnknownName (joined_names names)) (λ o. literal_by names o) (λ l. gives _) refl (λ l. gives_decides _)

names_decide : (env : Environment) (names : List (List ℕ)) → Decides (names_part env names) (names_judged env names)
names_decide env [] = literal_decides env []
names_decide env (name ∷ []) = variable_decides env name
names_decide env (a ∷ b ∷ more) = literal_decides env (a ∷ b ∷ more)

pub path_decides : (env : Environment) (path : Path) → Decides (path_part env path) (names_judged env (names_of path))
unfolding path_part
path_decides env path = names_decide env (names_of path)

-- ---- operators

sides_decide : (metas : List MetaDesc) (wanted a b to : Ty) → Decides (ops.both metas wanted a b to) (sides metas wanted a b to)
sides_decide metas wanted a b to = being_decides metas wanted a _ _ (being_decides metas wanted b (Ok to) (gives to) (gives_decides to))

is_string : Ty → Bool
is_string types.Str = true
is_string ty = false

integer_is_no_string : types.Int ≡ types.Str → ⊥
unfolding is_string
integer_is_no_string same = false≢true (ap is_string same)

added_decides : (metas : List MetaDesc) (a b : Ty) → Decides (added metas a b) (added_judged metas a b)
added_decides metas a b = by (same_type a types.Str) refl
  where
    by : (is : Bool) → same_type a types.Str ≡ is
        → Decides (if is then ops.both metas types.Str a b types.Str else ops.both metas types.Int a b types.Int) (added_judged metas a b)
    by true at =
        let str : a ≡ types.Str = (same_is_one a types.Str).0 at in
        let d = sides_decide metas types.Str a b types.Str in
        says_decides (ops.both metas types.Str a b types.Str) (Operated metas operators.Plus a b) (IsMisadded metas a b)
        (λ t is. let both = d.told t is in inr (both.0, both.1.0, both.1.1))
        (λ t has. d.only t (⊎_elim (λ ints. absurd (integer_is_no_string (sym ints.0 ∙ str))) (λ strings. (strings.0, (strings.1, strings.2))) has))
        (λ f is. ⊎_elim (λ one. absurd (one.0 str)) (λ more. ⊎_elim (λ other. inl (str, other)) (λ none. absurd none) more) (d.fault f is))
    by false at =
        let other_than : a ≢ types.Str = λ same. false≢true (sym at ∙ (same_is_one a types.Str).1 same) in
        let d = sides_decide metas types.Int a b types.Int in
        says_decides (ops.both metas types.Int a b types.Int) (Operated metas operators.Plus a b) (IsMisadded metas a b)
        (λ t is. let both = d.told t is in inl (both.0, both.1.0, both.1.1))
        (λ t has. d.only t (⊎_elim (λ ints. (ints.0, (ints.1, ints.2))) (λ strings. absurd (other_than strings.0)) has))
        (λ f is. ⊎_elim (λ one. inr (other_than, inl one)) (λ more. ⊎_elim (λ other. inr (other_than, inr other)) (λ none. absurd none) more) (d.fault f is))

compared_decides : (metas : List MetaDesc) (well : AreWell metas) (a b : Ty) → is_over metas a ≡ true → is_over metas b ≡ true → Decides (ops.compared metas a b) (compared_judged metas a b)
compared_decides metas well a b one other =
    asks_decides (are_comparable metas a b) (AreComparable metas a b) (wrong_type metas a b) (Ok types.Bool) (gives types.Bool) (comparing_is metas well a b one other) (gives_decides types.Bool)

operator_decides : (metas : List MetaDesc) (well : AreWell metas) (operator : Operator) (a b : Ty) → is_over metas a ≡ true → is_over metas b ≡ true
    → Decides (operated metas operator a b) (operator_judged metas operator a b)
operator_decides metas well operators.Implies a b one other = sides_decide metas types.Bool a b types.Bool
operator_decides metas well operators.Xor a b one other = sides_decide metas types.Bool a b types.Bool
operator_decides metas well operators.Or a b one other = sides_decide metas types.Bool a b types.Bool
operator_decides metas well operators.And a b one other = sides_decide metas types.Bool a b types.Bool
operator_decides metas well operators.Equal a b one other = compared_decides metas well a b one other
operator_decides metas well operators.NotEqual a b one other = compared_decides metas well a b one other
operator_decides metas well operators.Less a b one other = sides_decide metas types.Int a b types.Bool
operator_decides metas well operators.Greater a b one other = sides_decide metas types.Int a b types.Bool
operator_decides metas well operators.AtMost a b one other = sides_decide metas types.Int a b types.Bool
operator_decides metas well operators.AtLeast a b one other = sides_decide metas types.Int a b types.Bool
operator_decides metas well operators.Plus a b one other = added_decides metas a b
operator_decides metas well operators.Minus a b one other = sides_decide metas types.Int a b types.Int
operator_decides metas well operators.Times a b one other = sides_decide metas types.Int a b types.Int

pub link_decides : (metas : List MetaDesc) (well : AreWell metas) (c : Chained) (operator : Operator) (right : TypedPart) → is_over metas c.ty ≡ true → is_over metas right.ty ≡ true
    → Decides (link_rule metas c operator right) (linked_judged metas c operator right)
unfolding link_rule
link_decides metas well c operator right one other =
    taking_decides (operated metas operator c.ty right.ty) _ (operator_judged metas operator c.ty right.ty) _ (operator_decides metas well operator c.ty right.ty one other) (λ ty h. gives_decides _)

pub not_decides : (metas : List MetaDesc) (p : TypedPart) → Decides (not_rule metas p) (not_judged metas p)
unfolding not_rule
not_decides metas p = being_decides metas types.Bool p.ty _ _ (gives_decides _)

pub negated_decides : (metas : List MetaDesc) (p : TypedPart) → Decides (negated_rule metas p) (negated_judged metas p)
unfolding negated_rule
negated_decides metas p = being_decides metas types.Int p.ty _ _ (gives_decides _)

-- ---- if and collection literals

pub if_decides : (metas : List MetaDesc) (well : AreWell metas) (c a b : TypedPart) → is_over metas a.ty ≡ true → is_over metas b.ty ≡ true
    → Decides (if_rule metas c a b) (if_judged metas c a b)
unfolding if_rule
if_decides metas well c a b one other =
    let r = branches metas a.ty b.ty in
    let s = one_model (codes "if") (joined_models a.model b.model) in
    let i = branches_judged metas a.ty b.ty in
    let j = one_model_judged (codes "if") (a.model ∷ b.model ∷ []) in
    subst (λ q. Decides q (if_judged metas c a b)) (sym (regrouped (exactly metas types.Bool c.ty) (λ u. pair r s) _))
    (being_decides metas types.Bool c.ty _ _
    (taking_decides (pair r s) _ (both i j) _ (both_decides r s i j (branches_decide metas well a.ty b.ty one other) (two_models_decide (codes "if") a.model b.model)) (λ t h. gives_decides _)))

pub collection_decides : (metas : List MetaDesc) (well : AreWell metas) (kind : Kind) (elements : List TypedPart) → AreOver metas (types_of elements)
    → Decides (literal_rule metas kind elements) (collection_judged metas kind elements)
unfolding literal_rule
collection_decides metas well kind elements over =
    let r = literal_type metas (types_of elements) in
    let s = one_model (kind_text kind) (with_models None elements) in
    two_decide r s _ (elements_judged metas (types_of elements)) (one_model_judged (kind_text kind) (part_models elements)) _
    (elements_decide metas well (types_of elements) over) (element_models_decide (kind_text kind) elements) (λ x y h k. gives_decides _)

-- ---- let

free_decides : {X : Type 0} (env : Environment) (name : List ℕ) (r : RuleResult X) (j : Judged X) → Decides r j
    → Decides (and_then (asking (not (is_bound env name)) (DuplicateName name) (Ok tt)) (λ (u : Unit {0}). r)) (TypeRules.free_judged env name j)
free_decides env name r j d = asked_decides (not (is_bound env name)) (is_bound env name ≡ false) (DuplicateName name) r j (free_is (is_bound env name)) d

pub let_decides : (env : Environment) (name : List ℕ) (tree : TypeTree) → Decides (let_type env name tree) (let_judged env name tree)
let_decides env name tree = free_decides env name (declared_type env tree) _ (declared_decides env tree)

pub bound_decides : (metas : List MetaDesc) (well : AreWell metas) (ty : Ty) (value : TypedPart) → is_over metas value.ty ≡ true → Decides (let_variable metas ty value) (bound_judged metas ty value)
unfolding let_variable
bound_decides metas well ty value over = conforming_decides metas well ty value.ty _ _ over (gives_decides _)

-- ---- queries

arguments_decide : (metas : List MetaDesc) (well : AreWell metas) (params : List Ty) (args : List TypedPart) (r : RuleResult TypedPart) (j : Judged TypedPart) → AreOver metas (types_of args) → Decides r j
    → Decides (and_then (each_fits metas params args) (λ (u : Unit {0}). r)) (arguments_judged metas params args j)
arguments_decide metas well [] args r j over d = d
arguments_decide metas well (ty ∷ more) [] r j over d = d
arguments_decide metas well (ty ∷ more) (p ∷ ps) r j over d =
    subst (λ q. Decides q (arguments_judged metas (ty ∷ more) (p ∷ ps) j))
    (sym (asking_then (fits metas p.ty ty) (wrong_type metas ty p.ty) (each_fits metas more ps) (λ (u : Unit {0}). r)))
    (conforming_decides metas well ty p.ty _ _ (over p.ty (first_in p.ty p.ty (types_of ps) refl))
    (arguments_decide metas well more ps r j (λ t among. over t (later_in p.ty t (types_of ps) among)) d))

pub query_decides : (env : Environment) (well : AreWell env.metas) (name : List ℕ) (args : List TypedPart) → AreOver env.metas (types_of args) → Decides (query_rule env name args) (query_judged env name args)
unfolding query_rule
query_decides env well name args over =
    named_decides env.queries name (query_by env.metas name args) _ (λ n. refl) (λ o. refl)
    (λ (q : ℕ × Signature). asked_decides (length args == length q.1.params) _ (WrongCount name) _ _ (count_is (length args) (length q.1.params))
    (arguments_decide env.metas well q.1.params args _ _ over (gives_decides _)))

-- ---- extents

pub extent_decides : (env : Environment) (path : Path) → Decides (extent_rule env path) (extent_judged env path)
unfolding extent_rule
extent_decides env path =
    finds_decides (named_class env (names_of path)) (UnknownName (path_text path))
    (λ o. and_then (class_or path o) (λ class. and_then (model_or path (only_model env.models class.0)) (λ model. Ok (extent_part class model)))) _ refl
    (λ (class : ℕ × ClassId). finds_decides (only_model env.models class.0) (ModelMix (path_text path))
    (λ o. and_then (model_or path o) (λ model. Ok (extent_part class model))) _ refl (λ model. gives_decides (extent_part class model)))

-- ---- properties

property_decides_by : (metas : List MetaDesc) (well : AreWell metas) (name : List ℕ) (c : CallsSoFar) (o : Option (Kind × Ty)) → Decides (property_by metas name c o) (property_judged_by metas name c o)
property_decides_by metas well name c None =
    known_decides (property_of metas c.ty name) (HasPropertyNamed metas c.ty name) (UnknownName name) (λ o. navigated_to name c o) _ (property_is metas c.ty name) (property_where metas well c.ty name) refl
    (λ p has. gives_decides _)
property_decides_by metas well name c (Some parts) =
    known_decides (property_of metas parts.1 name) (HasPropertyNamed metas parts.1 name) (UnknownName name) (λ o. collected_from name c parts.0 o) _ (property_is metas parts.1 name) (property_where metas well parts.1 name) refl
    (λ p has. gives_decides _)

pub property_decides : (metas : List MetaDesc) (well : AreWell metas) (name : List ℕ) (c : CallsSoFar) → Decides (property_rule metas name c) (property_judged metas name c)
unfolding property_rule
property_decides metas well name c = property_decides_by metas well name c (collection_parts c.ty)

-- ---- operations on single values

exact_decides : (metas : List MetaDesc) (wanted : Ty) (args : List TypedPart) (r : RuleResult CallsSoFar) (j : Judged CallsSoFar) → Decides r j
    → Decides (and_then (each_exactly metas wanted args) (λ (u : Unit {0}). r)) (exact_judged metas wanted args j)
exact_decides metas wanted [] r j d = d
exact_decides metas wanted (p ∷ ps) r j d =
    subst (λ q. Decides q (exact_judged metas wanted (p ∷ ps) j)) (sym (regrouped (exactly metas wanted p.ty) (λ u. each_exactly metas wanted ps) (λ (u : Unit {0}). r)))
    (being_decides metas wanted p.ty _ _ (exact_decides metas wanted ps r j d))

pub operation_decides : (metas : List MetaDesc) (name : List ℕ) (c : CallsSoFar) (args : List TypedPart) → Decides (operation_rule metas name c args) (operation_judged metas name c args)
unfolding operation_rule
operation_decides metas name c args =
    finds_decides (operation_named (encode_utf8_all name)) (UnknownName name) (λ o. operation_by metas name c args o) _ refl
    (λ (operation : Operation). asks_decides (is_receiver (operation_row operation).receivers c.ty) _ (UnknownName name) _ _ (receiver_is (operation_row operation).receivers c.ty)
    (asked_decides (length args == parameter_count (operation_row operation).parameters) _ (WrongCount name) _ _ (count_is (length args) (parameter_count (operation_row operation).parameters))
    (exact_decides metas (parameter_type (operation_row operation).parameters) args _ _ (gives_decides _))))

pub class_operation_decides : (env : Environment) (name : List ℕ) (path : Path) (c : CallsSoFar) → Decides (class_operation_rule env name path c) (class_operation_judged env name path c)
unfolding class_operation_rule
class_operation_decides env name path c =
    finds_decides (class_operation_named (encode_utf8_all name)) (UnknownName name) (λ o. class_operation_by env name path c o) _ refl
    (λ (operation : ClassOperation). finds_decides (named_class env (names_of path)) (UnknownName (path_text path)) (λ o. and_then (class_or path o) (tested_with env.metas c operation)) _ refl
    (λ (class : ℕ × ClassId). asks_decides (is_of_meta class.0 (class_of c.ty)) _ (wrong_type env.metas (types.Class class.0 class.1) c.ty) _ _ (object_is class.0 c.ty)
    (gives_decides _)))

-- ---- operations on collections

summed_decides : (metas : List MetaDesc) (operation : CollectionOperation) (ty : Ty) (r : RuleResult CallsSoFar) (j : Judged CallsSoFar) → Decides r j
    → Decides (and_then (summed metas operation ty) (λ (u : Unit {0}). r)) (summed_judged metas operation ty j)
summed_decides metas collections.Sum ty r j d = being_decides metas types.Int ty r j d
summed_decides metas operation ty r j d = d

pub collection_operation_decides : (metas : List MetaDesc) (well : AreWell metas) (name : List ℕ) (c : CallsSoFar) (args : List TypedPart)
    → is_over metas (element_of c.ty) ≡ true → AreOver metas (types_of args)
    → Decides (collection_operation_rule metas name c args) (collection_operation_judged metas name c args)
unfolding collection_operation_rule
collection_operation_decides metas well name c args elements over =
    finds_decides (collection_operation_named (encode_utf8_all name)) (UnknownName name) (λ o. collection_operation_by metas name c args o) _ refl
    (λ (operation : CollectionOperation).
    let argument = (collection_row operation).argument in
    let r = given_types metas argument (kind_of c.ty) (element_of c.ty) args in
    let s = one_model name (with_models c.model args) in
    asks_decides (is_of_kind (collection_row operation).kinds (kind_of c.ty)) _ (UnknownName name) _ _ (kind_is (collection_row operation).kinds (kind_of c.ty))
    (asked_where (length args == argument_count argument) _ (WrongCount name) _ _ (count_is (length args) (argument_count argument))
    (λ counted. summed_decides metas operation (element_of c.ty) _ _
    (two_decide r s _ (given_judged metas argument (kind_of c.ty) (element_of c.ty) (types_of args)) (one_model_judged name (c.model ∷ part_models args)) _
    (given_decides metas well (kind_of c.ty) (element_of c.ty) elements argument args counted over) (models_decide name c.model args) (λ x y h k. gives_decides _)))))

-- ---- iterators

variable_type_decides : (env : Environment) (well : AreWell env.metas) (tree : Option TypeTree) (ty : Ty) → is_over env.metas ty ≡ true → Decides (variable_type env tree ty) (variable_type_judged env tree ty)
variable_type_decides env well None ty over = gives_decides ty
variable_type_decides env well (Some tree) ty over =
    taking_decides (declared_type env tree) _ (declared_judged env tree) _ (declared_decides env tree)
    (λ (t : Ty) h. conforming_decides env.metas well t ty _ _ over (gives_decides _))

pub iterator_variable_decides : (env : Environment) (well : AreWell env.metas) (name : List ℕ) (tree : Option TypeTree) (c : CallsSoFar) → is_over env.metas (element_of c.ty) ≡ true
    → Decides (iterator_variable env name tree c) (iterator_variable_judged env name tree c)
unfolding iterator_variable
iterator_variable_decides env well name tree c over = free_decides env name _ _
    (taking_decides (variable_type env tree (element_of c.ty)) _ (variable_type_judged env tree (element_of c.ty)) _ (variable_type_decides env well tree (element_of c.ty) over)
    (λ ty h. gives_decides _))

condition_decides : (metas : List MetaDesc) (conditional : Bool) (ty : Ty) (r : RuleResult CallsSoFar) (j : Judged CallsSoFar) → Decides r j
    → Decides (and_then (condition metas conditional ty) (λ (u : Unit {0}). r)) (condition_judged metas conditional ty j)
condition_decides metas true ty r j d = being_decides metas types.Bool ty r j d
condition_decides metas false ty r j d = d

pub iterator_decides : (metas : List MetaDesc) (name : List ℕ) (number : ℕ) (c : CallsSoFar) (body : TypedPart)
    → Decides (iterator_rule metas name number c body) (iterator_judged metas name number c body)
unfolding iterator_rule
iterator_decides metas name number c body =
    finds_decides (iterator_named (encode_utf8_all name)) (UnknownName name) (λ o. iterator_by metas name number c body o) _ refl
    (λ (iterator : IteratorKind). condition_decides metas (iterator_row iterator).conditional body.ty _ _ (gives_decides _))
