-- The rows of calls by numbers say what the relations of a script call: paths, cycles and strata in them are those of the script.
use Rattle.std.proofs.Common.{◌≡◌, ◌<◌, ◌≤◌, ◌+◌, ◌⊎◌, ℕ, zero, suc, List, [], ◌∷◌, ◌++◌, Bool, true, false, cond, refl, sym, ◌∙◌, ap, subst, length, get_or, map, arith, ⊎_elim, append_assoc}
use Rattle.std.specs.Prelude.{Option, Some, None, Contains, position, slice_get}
use Rattle.std.specs.List.{AllZip}
use Rattle.std.specs.Option.{option_to_list}
use Rattle.std.specs.Set.{is_member}
use Rattle.std.proofs.lemmas.Bool.{cases_order, cases_lt}
use Rattle.std.proofs.lemmas.Grind.{get_or_default_zero}
use Rattle.std.proofs.lemmas.List.{get_or-map, length-map, length-append, get_or_append_left, get_or-append-add, get_or_past}
use Rattle.std.proofs.lemmas.Option.{same_Some, slice_get_within, slice_get-get_or, get_or_from_slice_get}
use Rattle.mof_metamodel.specs.Characters.{same_name}
use Rattle.mof_metamodel.proofs.PropLemmas.{to_flat_map, from_flat_map}
use Rattle.mof_metamodel.proofs.SearchLemmas.{position_named, position_alone}
use Rattle.qv_syntax.specs.declared.expr.Expr.{Expr}
use Rattle.qv_syntax.specs.declared.script.BlockTree.{BlockTree}
use Rattle.qv_syntax.specs.declared.script.RelationTree.{RelationTree}
use Rattle.qv_syntax.specs.declared.script.Script.{Script}
use Rattle.call_graph.specs.Graphs.{Graph, neighbours, Leads}
use Rattle.call_graph.specs.Strata as graphs
use Rattle.call_graph.specs.Strata.{IsCallPath, stratum_at}
use Rattle.call_graph.specs.declared.layers.Layers.{Layers}
use Rattle.call_graph.specs.declared.layers.Layers.TheVariants.{Cyclic, Layered}
use Rattle.ocl_environments.specs.declared.fault.TypeFault.{TypeFault}
use Rattle.script_scopes.specs.Conjuncts.{clause_conjuncts, call_of}
use Rattle.script_scopes.specs.Occurrences.{relations_of}
use Rattle.script_scopes.specs.Declarations.{relation_names, global_names, queries_of, IsRepeated}
use Rattle.script_scopes.specs.Directions.{CallsIn, IsPath, IsOnWhenCycle, IsStratum}
use Rattle.script_scopes.specs.Environments.{Setting, metamodel_names}
use Rattle.script_scopes.specs.Faults.{StandsInScript}
use Rattle.script_scopes.specs.ScriptNames.{model_names, each_once, new_names}
use Rattle.script_scopes.specs.CallRows.{number_in, conjunct_numbers, clause_numbers, when_rows, where_rows, IsAmong, IsCycleFault}
use Rattle.script_scopes.proofs.NameLemmas.{has_name}
use Rattle.script_scopes.proofs.OnceLemmas.{get_at}
use Rattle.mof_metamodel.proofs.Facts.{contains_at}

-- ---- names of which none stands twice

pub within_some : {X : Type 0} (xs : List X) (k : ℕ) → k < length xs → (x : X) × (slice_get xs k ≡ Some x)
within_some [] k below = absurd (omega (arith, below))
within_some (x ∷ xs) zero below = (x, refl)
within_some (x ∷ xs) (suc k) below = within_some xs k (omega (arith, below))

pub among_some : {X : Type 0} (xs : List X) (x : X) → Contains xs x → (k : ℕ) × (slice_get xs k ≡ Some x)
among_some xs x (k, below, at) = (k, slice_get-get_or xs k x below ∙ ap Some at)

-- each name once is the names themselves
once_behind : (before names : List (List ℕ)) → ((name : List ℕ) → IsRepeated (before ++ names) name → ⊥) → new_names before names ≡ names
once_behind before [] once = refl
once_behind before (x ∷ names) once = by (is_member same_name before x) refl
    (once_behind (before ++ x ∷ []) names (λ name h. once name (subst (λ (ns : List (List ℕ)). IsRepeated ns name) (append_assoc before (x ∷ []) names) h)))
  where
    again : Contains before x → ⊥
    again (k, below, at) = once x (record {
      first = k;
      second = length before;
      order = below;
      one = slice_get-get_or (before ++ (x ∷ names)) k x (omega (arith, below, length-append before (x ∷ names))) ∙ ap Some (get_or_append_left before (x ∷ names) x k below ∙ at);
      other = get_at before x names;
    })

    by : (b : Bool) → is_member same_name before x ≡ b → new_names (before ++ x ∷ []) names ≡ names → new_names before (x ∷ names) ≡ x ∷ names
    by true is rest = absurd (again (has_name before x is))
    by false is rest = ap (λ b. cond b [] (x ∷ []) ++ new_names (before ++ x ∷ []) names) is ∙ ap (λ ns. x ∷ ns) rest

pub once_all : (names : List (List ℕ)) → ((name : List ℕ) → IsRepeated names name → ⊥) → each_once names ≡ names
once_all names once = once_behind [] names once

-- a name that stands twice in a part stands twice in the whole
module _ (xs ys : List (List ℕ)) where
  at_left : (k : ℕ) (x : List ℕ) → slice_get xs k ≡ Some x → slice_get (xs ++ ys) k ≡ Some x
  at_left k x found =
      let within = slice_get_within xs k x found in
      slice_get-get_or (xs ++ ys) k x (omega (arith, within, length-append xs ys)) ∙ ap Some (get_or_append_left xs ys x k within ∙ get_or_from_slice_get xs k x x found)

  at_right : (k : ℕ) (x : List ℕ) → slice_get ys k ≡ Some x → slice_get (xs ++ ys) (length xs + k) ≡ Some x
  at_right k x found =
      let within = slice_get_within ys k x found in
      slice_get-get_or (xs ++ ys) (length xs + k) x (omega (arith, within, length-append xs ys)) ∙ ap Some (get_or-append-add xs ys k x ∙ get_or_from_slice_get ys k x x found)

  repeated_left : (name : List ℕ) → IsRepeated xs name → IsRepeated (xs ++ ys) name
  repeated_left name r = record { first = r.first; second = r.second; order = r.order; one = at_left r.first name r.one; other = at_left r.second name r.other }

  repeated_right : (name : List ℕ) → IsRepeated ys name → IsRepeated (xs ++ ys) name
  repeated_right name r = record {
    first = length xs + r.first;
    second = length xs + r.second;
    order = let less = r.order in omega (arith, less);
    one = at_right r.first name r.one;
    other = at_right r.second name r.other;
  }

-- the names of relations are among those that have to be distinct
pub relations_once : (script : Script) → ((name : List ℕ) → IsRepeated (global_names script) name → ⊥) → (name : List ℕ) → IsRepeated (relation_names script) name → ⊥
relations_once script once name r = once name (repeated_left ((model_names script.models ++ metamodel_names script) ++ relation_names script) (map (λ q. q.name.text) (queries_of script)) name
    (repeated_right (model_names script.models ++ metamodel_names script) (relation_names script) name r))

module _ (script : Script) (once : (name : List ℕ) → IsRepeated (relation_names script) name → ⊥) where
  abbrev rels : List RelationTree
  rels = relations_of script

  abbrev names : List (List ℕ)
  names = relation_names script

  abbrev whens : Graph
  whens = when_rows names rels

  abbrev wheres : Graph
  wheres = where_rows names rels

  name_at : (v : ℕ) (r : RelationTree) → slice_get rels v ≡ Some r → get_or names v [] ≡ r.name.text
  name_at v r found = get_or-map (λ x. x.name.text) rels v r [] (slice_get_within rels v r found) ∙ ap (λ x. x.name.text) (get_or_from_slice_get rels v r r found)

  long : length names ≡ length rels
  long = length-map rels (λ x. x.name.text)

  -- the number of a relation is the place of its name
  pub named_by : (name : List ℕ) (v : ℕ) → position (same_name name) names ≡ Some v → (r : RelationTree) × (slice_get rels v ≡ Some r) × (r.name.text ≡ name)
  named_by name v is =
      let found = position_named (λ (n : List ℕ). n) names name v [] is in
      let below : v < length names = found.0 in
      let some = within_some rels v (omega (arith, below, long)) in
      (some.0, some.1, sym (name_at v some.0 some.1) ∙ sym found.1)

  pub number_by : (v : ℕ) (r : RelationTree) → slice_get rels v ≡ Some r → position (same_name r.name.text) names ≡ Some v
  number_by v r found = subst (λ (n : List ℕ). position (same_name n) names ≡ Some v) (name_at v r found) (position_alone (λ (n : List ℕ). n) names v [] within alone)
    where
      within : v < length names
      within = let below = slice_get_within rels v r found in omega (arith, below, long)

      alone : (k : ℕ) → k < length names → get_or names k [] ≡ get_or names v [] → k ≡ v
      alone k below same = ⊎_elim
          (λ (is : k ≡ v). is)
          (λ (apart : (k < v) ⊎ (v < k)). ⊎_elim
          (λ (less : k < v). absurd (once (get_or names v []) (record { first = k; second = v; order = less; one = slice_get-get_or names k [] below ∙ ap Some same; other = slice_get-get_or names v [] within })))
          (λ (more : v < k). absurd (once (get_or names v []) (record { first = v; second = k; order = more; one = slice_get-get_or names v [] within; other = slice_get-get_or names k [] below ∙ ap Some same })))
          apart)
          (cases_order k v)

  -- ---- calls

  called_by : (clause : Option BlockTree) (v : ℕ) → Contains (clause_numbers names clause) v → (called : RelationTree) × (slice_get rels v ≡ Some called) × CallsIn script clause called
  called_by clause v among =
      let from = from_flat_map (conjunct_numbers names) (clause_conjuncts clause) v among in
      by from.0 from.1 (call_of from.0) refl from.2
    where
      listed : (p : Option ℕ) → Contains (option_to_list p) v → p ≡ Some v
      listed None (k, below, at) = absurd (omega (arith, below))
      listed (Some n) (zero, below, at) = ap Some at
      listed (Some n) (suc k, below, at) = absurd (omega (arith, below))

      by : (x : Expr) → Contains (clause_conjuncts clause) x → (o : Option (List ℕ × List Expr)) → call_of x ≡ o → Contains (option_to_list (number_in names o)) v
          → (called : RelationTree) × (slice_get rels v ≡ Some called) × CallsIn script clause called
      by x there None is (k, below, at) = absurd (omega (arith, below))
      by x there (Some call) is has =
          let found = named_by call.0 v (listed (position (same_name call.0) names) has) in
          (found.0, found.1, (call.1, record { conjunct = x; among = there; is = is ∙ ap (λ (n : List ℕ). Some (n, call.1)) (sym found.2); relation = contains_at rels v found.0 found.1 }))

  number_called : (clause : Option BlockTree) (called : RelationTree) → CallsIn script clause called → (v : ℕ) × (slice_get rels v ≡ Some called) × Contains (clause_numbers names clause) v
  number_called clause called (args, call) =
      let found = among_some rels called call.relation in (
        found.0,
        found.1,
        to_flat_map (conjunct_numbers names) (clause_conjuncts clause) call.conjunct found.0 call.among
            (subst (λ (p : Option ℕ). Contains (option_to_list p) found.0) (sym (ap (number_in names) call.is ∙ number_by found.0 called found.1)) (0, omega arith, refl)),
      )

  when_row : (u : ℕ) (r : RelationTree) → slice_get rels u ≡ Some r → neighbours whens u ≡ clause_numbers names r.when
  when_row u r found = get_or-map (λ x. clause_numbers names x.when) rels u r [] (slice_get_within rels u r found) ∙ ap (λ x. clause_numbers names x.when) (get_or_from_slice_get rels u r r found)

  where_row : (u : ℕ) (r : RelationTree) → slice_get rels u ≡ Some r → neighbours wheres u ≡ clause_numbers names r.wheres
  where_row u r found = get_or-map (λ x. clause_numbers names x.wheres) rels u r [] (slice_get_within rels u r found) ∙ ap (λ x. clause_numbers names x.wheres) (get_or_from_slice_get rels u r r found)

  led : (g : Graph) (u v : ℕ) (row : List ℕ) → neighbours g u ≡ row → Leads g u v → Contains row v
  led g u v row is leads = subst (λ (r : List ℕ). Contains r v) is (leads.0, leads.1, get_or_default_zero (neighbours g u) leads.0 v leads.1 ∙ leads.2)

  leading : (g : Graph) (u v : ℕ) (row : List ℕ) → neighbours g u ≡ row → Contains row v → Leads g u v
  leading g u v row is among =
      let there = subst (λ (r : List ℕ). Contains r v) (sym is) among in
      (there.0, there.1, sym (get_or_default_zero (neighbours g u) there.0 v there.1) ∙ there.2)

  -- ---- paths

  path_of : (u v count : ℕ) → IsCallPath whens wheres u v count → (r : RelationTree) → slice_get rels u ≡ Some r → (last : RelationTree) × (slice_get rels v ≡ Some last) × IsPath script r last count
  path_of _ _ _ (IsCallPath.end u) r found = (r, found, IsPath.end r (contains_at rels u r found))
  path_of _ _ _ (IsCallPath.by_when u w v count leads path) r found =
      let call = called_by r.when w (led whens u w (clause_numbers names r.when) (when_row u r found) leads) in
      let rest = path_of w v count path call.0 call.1 in
      (rest.0, rest.1, IsPath.by_when r call.0 rest.0 count (contains_at rels u r found) call.2 rest.2)
  path_of _ _ _ (IsCallPath.by_where u w v count leads path) r found =
      let call = called_by r.wheres w (led wheres u w (clause_numbers names r.wheres) (where_row u r found) leads) in
      let rest = path_of w v count path call.0 call.1 in
      (rest.0, rest.1, IsPath.by_where r call.0 rest.0 count (contains_at rels u r found) call.2 rest.2)

  path_from : (r last : RelationTree) (count : ℕ) → IsPath script r last count → (u : ℕ) → slice_get rels u ≡ Some r → (v : ℕ) × (slice_get rels v ≡ Some last) × IsCallPath whens wheres u v count
  path_from _ _ _ (IsPath.end r among) u found = (u, found, IsCallPath.end u)
  path_from _ _ _ (IsPath.by_when r called last count among calls path) u found =
      let call = number_called r.when called calls in
      let rest = path_from called last count path call.0 call.1 in
      (rest.0, rest.1, IsCallPath.by_when u call.0 rest.0 count (leading whens u call.0 (clause_numbers names r.when) (when_row u r found) call.2) rest.2)
  path_from _ _ _ (IsPath.by_where r called last count among calls path) u found =
      let call = number_called r.wheres called calls in
      let rest = path_from called last count path call.0 call.1 in
      (rest.0, rest.1, IsCallPath.by_where u call.0 rest.0 count (leading wheres u call.0 (clause_numbers names r.wheres) (where_row u r found) call.2) rest.2)

  -- ---- strata and cycles

  stratum_of : (u s : ℕ) (r : RelationTree) → slice_get rels u ≡ Some r → graphs.IsStratum whens wheres u s → IsStratum script r s
  stratum_of u s r found is = record {
    reached =
        let path = path_of u is.reached.0 s is.reached.1 r found in
        (path.0, path.2);
    greatest = λ last count path. let there = path_from r last count path u found in is.greatest there.0 count there.2;
  }

  cycle_of : (u : ℕ) (r : RelationTree) → slice_get rels u ≡ Some r → graphs.IsOnWhenCycle whens wheres u → IsOnWhenCycle script r
  cycle_of u r found (count, path) =
      let there = path_of u u (suc count) path r found in
      (count, subst (λ (last : RelationTree). IsPath script r last (suc count)) (same_Some there.0 r (sym there.1 ∙ found)) there.2)

  -- rows over these names and relations are those of the script
  pub layers_are : (keys : List (List ℕ)) (rs : List RelationTree) (layers : Layers) → keys ≡ names → rs ≡ rels → graphs.AreLayers (when_rows keys rs) (where_rows keys rs) layers → graphs.AreLayers whens wheres layers
  layers_are keys rs layers same_keys same_rs are = subst (λ (r : List RelationTree). graphs.AreLayers (when_rows names r) (where_rows names r) layers) same_rs
      (subst (λ (k : List (List ℕ)). graphs.AreLayers (when_rows k rs) (where_rows k rs) layers) same_keys are)

  -- the strata of the graph are those of the relations, in their order
  pub strata_are : (strata : List ℕ) → graphs.AreStrata whens wheres strata → AllZip (IsStratum script) rels strata
  strata_are strata (count, each) = zip rels strata (count ∙ length-map rels (λ x. clause_numbers names x.when)) (λ u r found. stratum_of u (stratum_at strata u) r found (each u))
    where
      zip : (xs : List RelationTree) (ys : List ℕ) → length ys ≡ length xs → ((u : ℕ) (r : RelationTree) → slice_get xs u ≡ Some r → IsStratum script r (stratum_at ys u)) → AllZip (IsStratum script) xs ys
      zip [] [] same all = tt
      zip [] (y ∷ ys) same all = absurd (omega (arith, same))
      zip (x ∷ xs) [] same all = absurd (omega (arith, same))
      zip (x ∷ xs) (y ∷ ys) same all = (all 0 x refl, zip xs ys (omega (arith, same)) (λ u r found. all (suc u) r found))

  -- where relations have strata, none lies on a cycle
  pub none_cyclic : (strata : List ℕ) → AllZip (IsStratum script) rels strata → (r : RelationTree) → Contains rels r → IsOnWhenCycle script r → ⊥
  none_cyclic strata are r among (count, path) =
      let has = at rels strata are r among in
      let reached : IsPath script r has.1.reached.0 has.0 = has.1.reached.1 in
      let more : suc count + has.0 ≤ has.0 = has.1.greatest has.1.reached.0 (suc count + has.0) (joined r r has.1.reached.0 (suc count) has.0 path reached) in
      omega (arith, more)
    where
      at : (xs : List RelationTree) (ys : List ℕ) → AllZip (IsStratum script) xs ys → (x : RelationTree) → Contains xs x → (s : ℕ) × IsStratum script x s
      at [] ys all x (k, below, is) = absurd (omega (arith, below))
      at (z ∷ xs) [] all x among = absurd all
      at (z ∷ xs) (y ∷ ys) all x (zero, below, is) = (y, subst (λ (w : RelationTree). IsStratum script w y) is all.0)
      at (z ∷ xs) (y ∷ ys) all x (suc k, below, is) = at xs ys all.1 x (k, omega (arith, below), is)

      joined : (a b c : RelationTree) (m n : ℕ) → IsPath script a b m → IsPath script b c n → IsPath script a c (m + n)
      joined _ _ c _ n (IsPath.end a there) q = let e : n ≡ 0 + n = omega arith in subst (IsPath script a c) e q
      joined _ _ c _ n (IsPath.by_when a x b m there calls p) q =
          let e : suc (m + n) ≡ suc m + n = omega arith in
          subst (IsPath script a c) e (IsPath.by_when a x c (m + n) there calls (joined x b c m n p q))
      joined _ _ c _ n (IsPath.by_where a x b m there calls p) q = IsPath.by_where a x c (m + n) there calls (joined x b c m n p q)

  -- a number on a cycle is one of a relation
  pub cyclic_among : (layers : Layers) → graphs.AreLayers whens wheres layers → IsAmong rels layers
  cyclic_among (Layered strata) are = tt
  cyclic_among (Cyclic u) (count, path) = inside u u (suc count) path (omega arith)
    where
      row_within : (g : Graph) (u v : ℕ) → length g ≡ length rels → Leads g u v → u < length rels
      row_within g u v same leads = ⊎_elim
          (λ (below : u < length rels). below)
          (λ (past : length rels ≤ u).
          let short : leads.0 < length (neighbours g u) = leads.1 in
          let none : length (neighbours g u) ≡ 0 = ap length (get_or_past g u [] (omega (arith, past, same))) in
          absurd (omega (arith, short, none)))
          (cases_lt u (length rels))

      inside : (a b n : ℕ) → IsCallPath whens wheres a b n → 0 < n → a < length rels
      inside _ _ _ (IsCallPath.end a) more = absurd (omega (arith, more))
      inside _ _ _ (IsCallPath.by_when a x b n leads p) more = row_within whens a x (length-map rels (λ r. clause_numbers names r.when)) leads
      inside _ _ _ (IsCallPath.by_where a x b n leads p) more = row_within wheres a x (length-map rels (λ r. clause_numbers names r.wheres)) leads

  -- the fault of a relation on a cycle stands in the script
  pub cycle_stands : (layers : Layers) (f : TypeFault) → graphs.AreLayers whens wheres layers → IsCycleFault rels layers f → (s : Setting) → s.script ≡ script → StandsInScript s f
  cycle_stands layers f are c s same = subst (StandsInScript s) (sym c.is) (StandsInScript.cycle c.relation
      (subst (λ (t : Script). Contains (relations_of t) c.relation) (sym same) (contains_at rels c.number c.relation c.found))
      (subst (λ (t : Script). IsOnWhenCycle t c.relation) (sym same) (cycle_of c.number c.relation c.found (subst (graphs.AreLayers whens wheres) c.cyclic are))))

  -- and where none does, these are the strata
  pub layered_strata : (layers : Layers) (strata : List ℕ) → graphs.AreLayers whens wheres layers → layers ≡ Layered strata → AllZip (IsStratum script) rels strata
  layered_strata layers strata are is = let there = subst (graphs.AreLayers whens wheres) is are in strata_are strata there.0
