-- What is tested of a relation that is told plainly. Each test is computed of the example's relations; the laws say what follows from it.
use Rattle.std.specs.Prelude.{ℕ, zero, suc, Bool, true, false, ◌&&◌, ◌||◌, not, nat_eq, nat_lt, nat_le, List, [], ◌∷◌, ◌++◌, map, length, Option, None, Some, slice_get}
use Rattle.std.specs.List.{list_all, list_any, flat_map, range_with_len}
use Rattle.mof_metamodel.specs.declared.desc.MetaDesc.{MetaDesc}
use Rattle.mof_metamodel.specs.declared.desc.PropType.{PropType}
use Rattle.mof_metamodel.specs.declared.desc.PropType.TheVariants as props
use Rattle.mof_metamodel.specs.Characters.{is_storable_text}
use Rattle.mof_metamodel.specs.Metamodels.{class_count, class_at, props_of, type_of, opposite_of}
use Rattle.example_models.specs.ClsTable.{cls_desc}
use Rattle.example_models.specs.RdbTable.{rdb_desc}
use Rattle.example_program.proofs.Tests.{has, increasing, distinct}
use Rattle.example_program.proofs.Plain.{Kind, texts, objects, Pattern, shape, root_of, class_of_pattern, Part, a_text, a_word, an_object, parts_in, Spot, standings, Argument, object_argument, text_argument, word_argument, prefixed_argument, names_of, Call, Clause, given, called, Relation}

-- ---- metamodels and kinds

abbrev pub desc_of : ℕ → MetaDesc
desc_of zero = cls_desc
desc_of (suc m) = rdb_desc

-- the metamodel has the class
abbrev pub is_class : ℕ → ℕ → Bool
is_class m c = nat_lt m 2 && nat_lt c (class_count (desc_of m))

abbrev pub same_kind : Kind → Kind → Bool
same_kind texts texts = true
same_kind texts (objects n d) = false
same_kind (objects m c) texts = false
same_kind (objects m c) (objects n d) = nat_eq m n && nat_eq c d

abbrev pub is_kind_of : Option (List ℕ × Kind) → Kind → Bool
is_kind_of None kind = false
is_kind_of (Some var) kind = same_kind var.1 kind

-- the variable has the kind
abbrev pub is_kind : Relation → ℕ → Kind → Bool
is_kind r v kind = is_kind_of (slice_get r.vars v) kind

abbrev pub is_known_kind : Kind → Bool
is_known_kind texts = true
is_known_kind (objects m c) = is_class m c

abbrev pub vars_ok : Relation → Bool
vars_ok r = list_all (λ var. is_known_kind var.1) r.vars && list_all (λ v. nat_lt v (length r.vars)) r.universal && list_all (λ v. nat_lt v (length r.vars)) r.existential

-- ---- templates of a domain of the model m

abbrev pub is_text_type : Option PropType → Bool
is_text_type (Some props.Str) = true
is_text_type o = false

abbrev pub is_class_type : Option PropType → ℕ → Bool
is_class_type (Some (props.Class c)) d = nat_eq c.0 d
is_class_type o d = false

-- the item is at a property of the class, and asks for what fits it
abbrev pub part_ok : Relation → ℕ → ℕ → Part → Bool
part_ok r m c (a_text prop v) = has (props_of (desc_of m) c) prop && is_text_type (type_of (desc_of m) prop) && is_kind r v texts
part_ok r m c (a_word prop word) = has (props_of (desc_of m) c) prop && is_text_type (type_of (desc_of m) prop) && is_storable_text word
part_ok r m c (an_object prop p) = has (props_of (desc_of m) c) prop && is_class_type (type_of (desc_of m) prop) (class_of_pattern p) && is_class m (class_of_pattern p)

abbrev pub pattern_ok : Relation → ℕ → Pattern × Spot → Bool
pattern_ok r m which =
    is_class m (class_of_pattern which.0) && is_kind r (root_of which.0) (objects m (class_of_pattern which.0))
    && list_all (part_ok r m (class_of_pattern which.0)) (parts_in which.0)

abbrev pub patterns_ok : Relation → Bool
patterns_ok r = list_all (pattern_ok r 0) (standings None r.from) && list_all (pattern_ok r 1) (standings None r.to)

-- the variables of templates are different
abbrev pub roots_of : Pattern → List ℕ
roots_of p = map (λ (which : Pattern × Spot). root_of which.0) (standings None p)

abbrev pub roots_ok : Relation → Bool
roots_ok r = distinct (roots_of r.from ++ roots_of r.to)

-- a primitive domain is one of texts, in a relation that isn't top
abbrev pub prefix_ok : Relation → Bool
prefix_ok r = list_all (λ v. is_kind r v texts && not r.top) r.prefix

-- ---- arguments, against the kinds of the roots of the called relation

abbrev pub argument_ok : Relation → Argument → Kind → Bool
argument_ok r (object_argument v m c) kind = is_kind r v (objects m c) && same_kind (objects m c) kind
argument_ok r (text_argument v) kind = is_kind r v texts && same_kind texts kind
argument_ok r (word_argument word) kind = is_storable_text word && same_kind texts kind
argument_ok r (prefixed_argument prefix name) kind = is_kind r prefix texts && is_kind r name texts && same_kind texts kind

abbrev pub argument_for : Relation → Option (List ℕ × Kind) → Argument → Bool
argument_for r None a = false
argument_for r (Some var) a = argument_ok r a var.1

-- an argument for each of these roots
abbrev pub arguments_ok : Relation → Relation → List ℕ → List Argument → Bool
arguments_ok r callee [] [] = true
arguments_ok r callee [] (a ∷ more) = false
arguments_ok r callee (v ∷ vs) [] = false
arguments_ok r callee (v ∷ vs) (a ∷ more) = argument_for r (slice_get callee.vars v) a && arguments_ok r callee vs more

-- the roots of a relation's domains
abbrev pub domain_roots : Relation → List ℕ
domain_roots r = root_of r.from ∷ root_of r.to ∷ r.prefix

abbrev pub call_to : Relation → Option Relation → List Argument → Bool
call_to r None args = false
call_to r (Some callee) args = arguments_ok r callee (domain_roots callee) args

abbrev pub call_ok : List Relation → Relation → Call → Bool
call_ok rs r call = call_to r (slice_get rs call.number) call.args

abbrev pub clause_ok : List Relation → Relation → Clause → Bool
clause_ok rs r (given v prefix name) = is_kind r v texts && is_kind r prefix texts && is_kind r name texts
clause_ok rs r (called call) = call_ok rs r call

abbrev pub clauses_ok : List Relation → Relation → Bool
clauses_ok rs r = list_all (call_ok rs r) r.whens && list_all (clause_ok rs r) r.wheres

-- ---- universal variables, and how variables of texts are bound

abbrev pub part_texts : Part → List ℕ
part_texts (a_text prop v) = v ∷ []
part_texts (a_word prop word) = []
part_texts (an_object prop p) = []

-- the variables of texts that are values of items
abbrev pub texts_of : Pattern → List ℕ
texts_of p = flat_map (λ (which : Pattern × Spot). flat_map part_texts (parts_in which.0)) (standings None p)

abbrev pub from_variables : Relation → List ℕ
from_variables r = roots_of r.from ++ (texts_of r.from ++ r.prefix)

abbrev pub call_names : Call → List ℕ
call_names call = flat_map names_of call.args

abbrev pub when_names : Relation → List ℕ
when_names r = flat_map call_names r.whens

-- an argument that is a variable
abbrev pub alone_in : Argument → List ℕ
alone_in (object_argument v m c) = v ∷ []
alone_in (text_argument v) = v ∷ []
alone_in (word_argument word) = []
alone_in (prefixed_argument prefix name) = []

abbrev pub call_alone : Call → List ℕ
call_alone call = flat_map alone_in call.args

abbrev pub when_alone : Relation → List ℕ
when_alone r = flat_map call_alone r.whens

abbrev pub differs : Bool → Bool → Bool
differs true b = not b
differs false b = b

abbrev pub universal_ok : Relation → Bool
universal_ok r =
    list_all (has r.universal) (from_variables r ++ when_names r) && list_all (has (from_variables r ++ when_alone r)) r.universal
    && list_all (λ v. differs (has r.universal v) (has r.existential v)) (range_with_len 0 (length r.vars))

abbrev pub order_ok : Relation → Bool
order_ok r = increasing r.universal && increasing r.existential

-- the variable isn't one of texts, or it is bound by an item of the source, by a primitive domain, or by an item of the target
abbrev pub bound_at : Relation → ℕ → Bool
bound_at r v =
    not (is_kind r v texts) || ((has r.universal v && has (texts_of r.from) v) || (has r.prefix v || (not (has r.universal v) && has (texts_of r.to) v)))

abbrev pub bound_ok : Relation → Bool
bound_ok r = list_all (bound_at r) (range_with_len 0 (length r.vars))

-- ---- equations and strata

abbrev pub is_call : Clause → Bool
is_call (given v prefix name) = false
is_call (called call) = true

abbrev pub equation_ok : Relation → Clause → Bool
equation_ok r (given v prefix name) = not (has r.universal v) && not (has (prefix ∷ name ∷ []) v)
equation_ok r (called call) = true

-- only the first conjunct may be an equation
abbrev pub equations_in : Relation → List Clause → Bool
equations_in r [] = true
equations_in r (c ∷ cs) = equation_ok r c && list_all is_call cs

abbrev pub equations_ok : Relation → Bool
equations_ok r = equations_in r r.wheres

abbrev pub stratum_of : Option Relation → ℕ
stratum_of None = 0
stratum_of (Some r) = r.stratum

abbrev pub where_stratum_ok : List Relation → Relation → Clause → Bool
where_stratum_ok rs r (given v prefix name) = true
where_stratum_ok rs r (called call) = nat_le (stratum_of (slice_get rs call.number)) r.stratum

abbrev pub strata_ok : List Relation → Relation → Bool
strata_ok rs r = list_all (λ (call : Call). nat_lt (stratum_of (slice_get rs call.number)) r.stratum) r.whens && list_all (where_stratum_ok rs r) r.wheres

-- ---- what is made of the target

abbrev pub is_inner : Spot → Bool
is_inner None = false
is_inner (Some s) = true

abbrev pub is_made : Relation → Pattern × Spot → Bool
is_made r which = not (has r.universal (root_of which.0)) && (is_inner which.1 || r.top)

-- the properties of the key of a class of the target
abbrev pub key_props : ℕ → List ℕ
key_props zero = []
key_props (suc zero) = 0 ∷ []
key_props (suc (suc zero)) = 2 ∷ 0 ∷ []
key_props (suc (suc (suc zero))) = 6 ∷ 0 ∷ []
key_props (suc (suc (suc (suc c)))) = []

abbrev pub part_prop : Part → ℕ
part_prop (a_text prop v) = prop
part_prop (a_word prop word) = prop
part_prop (an_object prop p) = prop

abbrev pub is_number : Option ℕ → ℕ → Bool
is_number None n = false
is_number (Some m) n = nat_eq m n

abbrev pub is_opposite : Spot → ℕ → Bool
is_opposite None prop = false
is_opposite (Some s) prop = is_number (opposite_of rdb_desc s.1) prop

abbrev pub is_keyed : Pattern × Spot → Bool
is_keyed which =
    nat_lt 0 (class_of_pattern which.0) && nat_lt (class_of_pattern which.0) 4
    && list_all (λ prop. has (map part_prop (parts_in which.0)) prop || is_opposite which.1 prop) (key_props (class_of_pattern which.0))

abbrev pub keyed_ok : Relation → Bool
keyed_ok r = list_all (λ (which : Pattern × Spot). not (is_made r which) || is_keyed which) (standings None r.to)

-- the variables in the items of a template, and the variable of the template around it
abbrev pub part_variables : Part → List ℕ
part_variables (a_text prop v) = v ∷ []
part_variables (a_word prop word) = []
part_variables (an_object prop p) = root_of p ∷ []

abbrev pub around : Spot → List ℕ
around None = []
around (Some s) = s.0 ∷ []

abbrev pub variables_at : Pattern × Spot → List ℕ
variables_at which = flat_map part_variables (parts_in which.0) ++ around which.1

-- the variable is that of a template whose objects are made
abbrev pub makes : Relation → ℕ → Bool
makes r v = list_any (λ (which : Pattern × Spot). is_made r which && nat_eq (root_of which.0) v) (standings None r.to)

-- no key value has the variable of an object that is made
abbrev pub apart_ok : Relation → Bool
apart_ok r = list_all (λ (which : Pattern × Spot). not (is_made r which) || list_all (λ w. not (makes r w)) (variables_at which)) (standings None r.to)

-- the variable is universal, or given by an equation over universal ones
abbrev pub gives : Relation → ℕ → Clause → Bool
gives r v (given w prefix name) = nat_eq w v && (has r.universal prefix && has r.universal name)
gives r v (called call) = false

abbrev pub is_known : Relation → ℕ → Bool
is_known r v = has r.universal v || list_any (gives r v) r.wheres

abbrev pub known_part : Relation → Part → Bool
known_part r (a_text prop v) = is_known r v
known_part r (a_word prop word) = true
known_part r (an_object prop p) = true

abbrev pub known_ok : Relation → Bool
known_ok r =
    list_all (λ (which : Pattern × Spot). list_all (known_part r) (parts_in which.0)) (standings None r.to)
    && list_all (λ v. not (is_kind r v texts) || is_known r v) r.existential

abbrev pub is_concrete : Relation → ℕ → Bool
is_concrete r v = list_any (λ (which : Pattern × Spot). nat_eq (root_of which.0) v && not (class_at rdb_desc (class_of_pattern which.0)).is_abstract) (standings None r.to)

-- each other existential variable is handed on, or has a template of a concrete class
abbrev pub objects_ok : Relation → Bool
objects_ok r = list_all (λ v. is_kind r v texts || ((not r.top && nat_eq (root_of r.to) v) || is_concrete r v)) r.existential

-- ---- calls in when

abbrev pub is_top : Option Relation → Bool
is_top None = false
is_top (Some r) = r.top

abbrev pub target_argument : List Argument → List ℕ
target_argument (a ∷ b ∷ more) = alone_in b
target_argument (a ∷ []) = []
target_argument [] = []

abbrev pub taken : Relation → List ℕ
taken r = flat_map (λ (call : Call). target_argument call.args) r.whens

abbrev pub is_target_kind : Option (List ℕ × Kind) → Bool
is_target_kind (Some (name, objects m c)) = nat_eq m 1
is_target_kind (Some (name, texts)) = false
is_target_kind None = false

abbrev pub when_ok : List Relation → Relation → Bool
when_ok rs r =
    list_all (λ (call : Call). is_top (slice_get rs call.number)) r.whens
    && list_all (λ v. not (is_target_kind (slice_get r.vars v)) || has (taken r) v) r.universal

-- ---- all of it

abbrev pub all_ok : List Relation → Relation → Bool
all_ok rs r =
    vars_ok r && (patterns_ok r && (roots_ok r && (prefix_ok r && (clauses_ok rs r && (universal_ok r && (order_ok r && (bound_ok r && (equations_ok r && (strata_ok rs r && (keyed_ok r && (apart_ok r && (known_ok r && (objects_ok r && when_ok rs r)))))))))))))
