-- Operators, `if` and collection literals (OCL 2.4, sections 7.4.7 and 7.5.5): what their parts ask of each other.
use Rattle.std.specs.Prelude.{ℕ, if◌then◌else◌, List, [], ◌∷◌, ◌++◌, Option, None, codes, Ok}
use Rattle.mof_metamodel.specs.declared.desc.MetaDesc.{MetaDesc}
use Rattle.qv_syntax.specs.declared.operator.Operator.{Operator}
use Rattle.qv_syntax.specs.declared.operator.Operator.TheVariants as operators
use Rattle.qv_syntax.specs.declared.ty.Ty.{Ty}
use Rattle.qv_syntax.specs.declared.ty.Ty.TheVariants as types
use Rattle.qv_syntax.specs.declared.type_tree.Kind.{Kind}
use Rattle.qv_syntax.specs.declared.typed.Node.TheVariants as nodes
use Rattle.ocl_environments.specs.declared.part.TypedPart.{TypedPart}
use Rattle.ocl_environments.specs.declared.part.Chained.{Chained}
use Rattle.ocl_environments.specs.Naming.{kind_text}
use Rattle.ocl_environments.specs.Outcomes.{RuleResult, and_then, asking, wrong_type}
use Rattle.ocl_environments.specs.Agreement.{same_type, model_for, agreed, joined_models, exactly, are_comparable, branches}
use Rattle.ocl_environments.specs.Parts.{tree_of, trees_of, types_of, plain_part, with_models, one_model}
use Rattle.ocl_types.specs.TypingScopes.{element}

-- ---- operators between two parts

-- both have the one type, and what comes has the other
abbrev pub both : List MetaDesc → Ty → Ty → Ty → Ty → RuleResult Ty
both metas wanted left right gives = and_then (exactly metas wanted left) (λ u. and_then (exactly metas wanted right) (λ v. Ok gives))

abbrev pub compared : List MetaDesc → Ty → Ty → RuleResult Ty
compared metas a b = asking (are_comparable metas a b) (wrong_type metas a b) (Ok types.Bool)

-- two Strings or two Integers, as the first one is
abbrev pub added : List MetaDesc → Ty → Ty → RuleResult Ty
added metas a b = if same_type a types.Str then both metas types.Str a b types.Str else both metas types.Int a b types.Int

-- the type of the result
abbrev pub operated : List MetaDesc → Operator → Ty → Ty → RuleResult Ty
operated metas operators.Implies a b = both metas types.Bool a b types.Bool
operated metas operators.Xor a b = both metas types.Bool a b types.Bool
operated metas operators.Or a b = both metas types.Bool a b types.Bool
operated metas operators.And a b = both metas types.Bool a b types.Bool
operated metas operators.Equal a b = compared metas a b
operated metas operators.NotEqual a b = compared metas a b
operated metas operators.Less a b = both metas types.Int a b types.Bool
operated metas operators.Greater a b = both metas types.Int a b types.Bool
operated metas operators.AtMost a b = both metas types.Int a b types.Bool
operated metas operators.AtLeast a b = both metas types.Int a b types.Bool
operated metas operators.Plus a b = added metas a b
operated metas operators.Minus a b = both metas types.Int a b types.Int
operated metas operators.Times a b = both metas types.Int a b types.Int

-- ---- chains, from left to right

-- nothing is joined to the first part yet
abbrev pub unchained : TypedPart → Chained
unchained first = record { links = []; ty = first.ty }

-- one more operator and the part behind it
abbrev pub and_linked : Chained → Operator → TypedPart → Ty → Chained
and_linked c operator right ty = record { links = c.links ++ (record { operator = operator; right = tree_of right; ty = ty }) ∷ []; ty = ty }

unfoldable pub link_rule : List MetaDesc → Chained → Operator → TypedPart → RuleResult Chained
link_rule metas c operator right = and_then (operated metas operator c.ty right.ty) (λ ty. Ok (and_linked c operator right ty))

unfoldable pub chain_part : TypedPart → Chained → TypedPart
chain_part first c = record { ty = c.ty; model = model_for c.ty first.model; node = nodes.Chain (tree_of first) c.links }

-- ---- operators before a part

unfoldable pub not_rule : List MetaDesc → TypedPart → RuleResult TypedPart
not_rule metas operand = and_then (exactly metas types.Bool operand.ty) (λ u. Ok (plain_part types.Bool (nodes.Not (tree_of operand))))

unfoldable pub negated_rule : List MetaDesc → TypedPart → RuleResult TypedPart
negated_rule metas operand = and_then (exactly metas types.Int operand.ty) (λ u. Ok (plain_part types.Int (nodes.Negated (tree_of operand))))

-- ---- if

-- the type and the model of the branches, if the parts go together
abbrev pub if_branches : List MetaDesc → Ty → TypedPart → TypedPart → RuleResult (Ty × Option ℕ)
if_branches metas condition one other =
    and_then (exactly metas types.Bool condition) (λ u.
    and_then (branches metas one.ty other.ty) (λ ty.
    and_then (one_model (codes "if") (joined_models one.model other.model)) (λ model. Ok (ty, model))))

unfoldable pub if_rule : List MetaDesc → TypedPart → TypedPart → TypedPart → RuleResult TypedPart
if_rule metas condition one other =
    and_then (if_branches metas condition.ty one other) (λ b. Ok (record { ty = b.0; model = b.1; node = nodes.If (tree_of condition) (tree_of one) (tree_of other) }))

-- ---- collection literals

-- the type of the elements: that of null, where there are none
abbrev pub literal_type : List MetaDesc → List Ty → RuleResult Ty
literal_type metas [] = Ok types.Null
literal_type metas (ty ∷ more) = and_then (agreed metas ty more) (element metas)

unfoldable pub literal_rule : List MetaDesc → Kind → List TypedPart → RuleResult TypedPart
literal_rule metas kind elements =
    and_then (literal_type metas (types_of elements)) (λ ty.
    and_then (one_model (kind_text kind) (with_models None elements)) (λ model.
    Ok (record { ty = types.Coll kind ty; model = model; node = nodes.Coll kind (trees_of elements) })))
