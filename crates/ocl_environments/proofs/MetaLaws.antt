-- Metamodels one more, and other variables.
use Rattle.std.proofs.Common.{◌≡◌, ◌<◌, List, [], ◌∷◌, ◌++◌, Result, Ok, Err, length, length-append, sym, subst, arith}
use Rattle.std.specs.Prelude.{◌≤◌, IsTrue, OnOk, OnErr}
use Rattle.std.proofs.lemmas.List.Elements.{All-push}
use Rattle.mof_metamodel.specs.declared.desc.MetaDesc.{MetaDesc}
use Rattle.mof_metamodel.specs.MetaFaults.{WellMeta}
use Rattle.std.specs.List.{list_all}
use Rattle.ocl_environments.specs.declared.variable.Variable.{Variable}
use Rattle.ocl_environments.specs.Environments.{Environment, NamesWith, AreInOrder, IsInOrder, is_variable, most}

-- with one in which no fault stands, or as they were, they stand in order
pub pushed : {X E : Type 0} (r : Result X E) (metas after : List MetaDesc) (meta : MetaDesc) → AreInOrder metas → length metas < most → WellMeta meta
    → OnOk r (after ≡ metas ++ meta ∷ []) → OnErr r (after ≡ metas) → AreInOrder after
pushed (Ok x) metas after meta order few one ok err = subst AreInOrder (sym ok) (record {
  few = omega (arith, few, length-append metas (meta ∷ []));
  well = All-push WellMeta metas meta order.well one;
})
pushed (Err e) metas after meta order few one ok err = subst AreInOrder (sym err) order

-- with other variables that stand in order, an environment does
pub other_variables : (env : Environment) (vs : NamesWith Variable) → IsInOrder env → IsTrue (list_all (is_variable env) vs) → length vs ≤ most
    → IsInOrder (record env { variables = vs })
other_variables env vs order typed few = record {
  few = order.few;
  well = order.well;
  named = order.named;
  placed = order.placed;
  typed = typed;
  queried = order.queried;
  few_variables = few;
  few_queries = order.few_queries;
}
