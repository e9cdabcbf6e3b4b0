-- A program with all that a script resolves to is well formed, where no fault stands in the script.
use Rattle.std.proofs.Common.{◌≡◌, ◌≤◌, ℕ, List, [], length, get_or, map, refl, ◌∙◌, ap, subst, arith}
use Rattle.std.specs.Prelude.{Some, Contains, AllPairs, slice_get}
use Rattle.std.specs.List.{AllZip}
use Rattle.std.proofs.lemmas.Option.{slice_get-get_or}
use Rattle.mof_metamodel.specs.declared.desc.ClassId.{ClassId}
use Rattle.qv_syntax.specs.declared.query.Query.{Query}
use Rattle.qv_syntax.specs.declared.script.KeyTree.{KeyTree}
use Rattle.qv_syntax.specs.declared.program.Key.{Key}
use Rattle.qv_syntax.specs.declared.program.Program.{Program}
use Rattle.qv_syntax.specs.declared.program.Rel.{Rel}
use Rattle.qv_syntax.specs.TypedTrees.{Context, IsTyped, without_model}
use Rattle.qv_syntax.specs.Keys.{AreOfTwoClasses}
use Rattle.qv_syntax.specs.Keys as program_keys
use Rattle.qv_syntax.specs.QueryCalls.{Reaches, AreAcyclic}
use Rattle.qv_syntax.specs.ProgramNumbers.{IsRelationInRange}
use Rattle.qv_syntax.specs.ProgramTypes.{IsQueryTyped, IsRelationTyped}
use Rattle.qv_syntax.specs.WellFormed.{IsWellFormed}
use Rattle.ocl_environments.specs.declared.fault.TypeFault.{TypeFault}
use Rattle.ocl_environments.specs.Environments.{IsInOrder, Environment, most, without_queries}
use Rattle.ocl_types.proofs.QueryTrees.{queries_are_typed}
use Rattle.script_scopes.specs.Occurrences.{relations_of}
use Rattle.script_scopes.specs.Environments.{Setting, in_script}
use Rattle.script_scopes.specs.Declarations.{keys_of, queries_of}
use Rattle.script_scopes.specs.Keys.{IsKey, AreKeys}
use Rattle.script_scopes.specs.ScriptQueries.{StandsInQueries}
use Rattle.script_scopes.specs.Resolutions.{IsProgramOf}
use Rattle.script_scopes.specs.Faults.{StandsInScript}
use Rattle.script_variables.specs.SettledRelations.{IsSettled}
use Rattle.script_scopes.proofs.CallRowLaws.{among_some}
use Rattle.mof_metamodel.proofs.Facts.{contains_at}
use Rattle.qvtr_types.proofs.ZipLemmas.{zip_left}
use Rattle.qvtr_types.proofs.KeyMeaning.{keys_are_meant}
use Rattle.qvtr_types.proofs.well_formed.Apart.{models_apart, relations_apart}
use Rattle.qvtr_types.proofs.well_formed.Typing.{context_is}
use Rattle.qvtr_types.proofs.well_formed.Meant.{are_meant}
use Rattle.qvtr_types.proofs.well_formed.Ranges.{relation_in_range, slots_within, target_within}
use Rattle.qvtr_types.proofs.well_formed.Types.{IsFrom, relation_from, relation_typed}

-- ---- keys

keys_apart : (env : Environment) (trees : List KeyTree) (keys : List Key) → AreKeys env trees keys → AllPairs AreOfTwoClasses keys
keys_apart env trees keys are i j d less within meta class =
    let a : Key = get_or keys i d in
    let b : Key = get_or keys j d in
    let x = zip_left (IsKey env) trees keys i a are.each (slice_get-get_or keys i d (omega (arith, less, within))) in
    let y = zip_left (IsKey env) trees keys j b are.each (slice_get-get_or keys j d within) in
    are.one y.0 (record {
      place = j;
      earlier = i;
      order = less;
      first = x.0;
      class = (b.meta, b.class);
      found = y.1;
      found_first = x.1;
      same = y.2.class;
      same_first = x.2.class ∙ ap (λ (m : ℕ). Some (m, a.class)) meta ∙ ap (λ (c : ClassId). Some (b.meta, c)) class;
    })

-- ---- queries

-- a query that comes to another is there
query_there : (queries : List Query) (a b : ℕ) → Reaches queries a b → (q : Query) × (slice_get queries a ≡ Some q)
query_there queries _ _ (Reaches.call a b calls) = (calls.query, calls.found)
query_there queries _ _ (Reaches.more a b c calls rest) = (calls.query, calls.found)

-- without queries in reach all stays in order
order_without : (env : Environment) → IsInOrder env → env.variables ≡ [] → IsInOrder (without_queries env)
order_without env order bare = record {
  few = order.few;
  well = order.well;
  named = order.named;
  placed = order.placed;
  typed = order.typed;
  queried = refl;
  few_variables = order.few_variables;
  few_queries = subst (λ vs. length vs ≤ most) bare order.few_variables;
}

module _ (s : Setting) (program : Program) (order : IsInOrder (in_script s)) (none : (f : TypeFault) → StandsInScript s f → ⊥) (made : IsProgramOf s program)
    (settled : AllZip (λ r rel. IsSettled s r rel.vars) (relations_of s.script) program.rels) where
  keys : program_keys.AreKeys s.metas program
  keys = keys_are_meant (in_script s) (keys_of s.script) program.keys (record { each = made.keys.each; shaped = made.keys.shaped }) (keys_apart (in_script s) (keys_of s.script) program.keys made.keys) program refl

  query_typed : (q : Query) → Contains program.queries q → IsQueryTyped s.metas program q
  query_typed q has =
      let typed = queries_are_typed (without_queries (in_script s)) (order_without (in_script s) order refl) (queries_of s.script) (in_script s) s.queries made.typed_queries q
      (subst (λ (qs : List Query). Contains qs q) made.queries has) in
      record {
        params = typed.params;
        result = typed.result;
        typing = typed.typing;
        body = subst (λ (c : Context). IsTyped c (map without_model q.params) q.body typed.typing) (context_is s program made.models made.queries) typed.body;
        conforms = typed.conforms;
      }

  acyclic : AreAcyclic program.queries
  acyclic q reaches =
      let cycle : Reaches s.queries q q = subst (λ (qs : List Query). Reaches qs q q) made.queries reaches in
      let there = query_there s.queries q q cycle in
      none _ (StandsInScript.query _ (StandsInQueries.cycle (in_script s) s.queries there.0 made.typed_queries (record { number = q; found = there.1; cycle = cycle })))

  from : (rel : Rel) → Contains program.rels rel → (number : ℕ) × IsFrom s program made.rels settled number rel
  from rel has =
      let k = among_some program.rels rel has in
      (k.0, relation_from s program made.rels settled k.0 rel k.1)

  in_range : (rel : Rel) → Contains program.rels rel → IsRelationInRange s.metas program rel
  in_range rel has =
      let f = from rel has in
      relation_in_range s program none made.models made.aimed made.rels (models_apart s none) (relations_apart s none) f.1.r rel (contains_at (relations_of s.script) f.0 f.1.r f.1.found) f.1.is f.1.settled

  typed : (rel : Rel) → Contains program.rels rel → IsRelationTyped s.metas program rel
  typed rel has =
      let f = from rel has in
      relation_typed s program none made.typed_queries made.models made.queries made.aimed made.rels settled (models_apart s none) (relations_apart s none) f.1.r rel (contains_at (relations_of s.script) f.0 f.1.r f.1.found) f.1.is f.1.settled

  pub well_formed : IsWellFormed s.metas program
  well_formed = record {
    numbers = record {
      slots = slots_within s program none made.models made.aimed made.rels (models_apart s none) (relations_apart s none) order;
      target = target_within s program none made.models made.aimed made.rels (models_apart s none) (relations_apart s none);
      keys = λ key has. (keys.keys key has).class;
      relations = in_range;
    };
    typed = record { queries = query_typed; relations = typed };
    queries = acyclic;
    relations = are_meant s program none made.models made.aimed made.rels (models_apart s none) (relations_apart s none) settled;
    keys = keys;
  }
