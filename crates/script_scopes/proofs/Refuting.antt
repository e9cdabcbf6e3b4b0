-- Wrong answers that the definitions exclude, each on a small case: what the definition gives, and that it isn't what the wrong
-- code would answer. A contract says that the code's result is what the definition gives, so it refuses that code.
use Rattle.std.specs.Prelude.{◌≡◌, ℕ, true, List, ◌++◌, [], ◌∷◌, codes, length, filter, take}
use Rattle.std.specs.List.{flat_map}
use Rattle.std.specs.Set.{is_member}
use Rattle.std.proofs.Common.{refl, ap, subst, arith}
use Rattle.mof_metamodel.specs.Characters.{same_name}
use Rattle.qv_syntax.specs.declared.operator.Operator.TheVariants as operators
use Rattle.qv_syntax.specs.declared.script.RelationTree.{RelationTree}
use Rattle.script_scopes.specs.Conjuncts.{is_and}
use Rattle.script_scopes.specs.Occurrences.{occurrences, declared_names, domains_variables, clause_variables}
use Rattle.script_scopes.specs.ScriptNames.{each_once}

-- ---- where variables occur: in a relation with its clauses alone, of which the first names a, and the second b

abbrev first_code : List (List ℕ) → ℕ
first_code [] = 0
first_code ([] ∷ names) = 0
first_code ((c ∷ cs) ∷ names) = c

abbrev wrong : List (List ℕ)
wrong = codes "b" ∷ codes "a" ∷ []

-- the variables of the where clause before those of the when clause
pub where_before_when : (r : RelationTree) → r.vars ≡ [] → r.domains ≡ [] → clause_variables r.when ≡ codes "a" ∷ [] → clause_variables r.wheres ≡ codes "b" ∷ []
    → occurrences r ≡ wrong → ⊥
where_before_when r vars domains first second e =
    let one = subst (λ vs. flat_map declared_names vs ++ domains_variables 1 r.domains ++ clause_variables r.when ++ clause_variables r.wheres ≡ wrong) vars e in
    let two = subst (λ ds. domains_variables 1 ds ++ clause_variables r.when ++ clause_variables r.wheres ≡ wrong) domains one in
    let three = subst (λ (ws : List (List ℕ)). ws ++ clause_variables r.wheres ≡ wrong) first two in
    let four = subst (λ (ws : List (List ℕ)). codes "a" ∷ ws ≡ wrong) second three in
    let apart : 97 ≡ 98 = ap first_code four in absurd (omega (arith, apart))

-- ---- how many names were given before one that is missing: `a`, where `a` is written before it

pub one_was_given : length (filter (is_member same_name (take 1 (codes "a" ∷ codes "b" ∷ []))) (each_once (codes "a" ∷ []))) ≡ 1
one_was_given = refl

-- none, whatever was given
pub nothing_counted : length (filter (is_member same_name (take 1 (codes "a" ∷ codes "b" ∷ []))) (each_once (codes "a" ∷ []))) ≡ 0 → ⊥
nothing_counted e = absurd (omega (arith, e))

-- ---- conjuncts

pub and_splits : is_and operators.And ≡ true
and_splits = refl

-- the two parts of `or` as two conjuncts
pub or_splits : is_and operators.Or ≡ true → ⊥
or_splits e = cc
