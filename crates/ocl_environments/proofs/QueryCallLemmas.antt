-- A query on a cycle of calls is one of those that were typed: those before them call none.
use Rattle.std.proofs.Common.{◌≡◌, ◌<◌, ◌≤◌, ℕ, ◌+◌, ◌-◌, List, [], ◌∷◌, ◌++◌, Option, None, Some, Result, Ok, Err, map, length, get_or, refl, sym, ◌∙◌, ap, subst, arith, inl, inr, length-append, take, append_assoc}
use Rattle.std.specs.Prelude.{replicate, MatchOption, IfOk, OnOk}
use Rattle.std.specs.List.{concat}
use Rattle.std.proofs.lemmas.Bool.{cases_lt}
use Rattle.std.proofs.lemmas.List.{get_or_append_left, get_or_past, get_or-replicate, length-replicate, length-map, take_more, map-append, append-nil}
use Rattle.std.proofs.lemmas.List.Folds.{concat-append}
use Rattle.std.proofs.lemmas.Option.{slice_get_read}
use Rattle.call_graph.specs.Graphs.{Graph, neighbours, Leads, IsOnCycle}
use Rattle.qv_syntax.specs.declared.query.Query.{Query}
use Rattle.ocl_environments.specs.declared.fault.TypeFault.TheVariants.{QueryCycle}
use Rattle.qv_syntax.specs.declared.typed.Node.{Node, fold-roll-Node}
use Rattle.qv_syntax.specs.declared.typed.Node.TheVariants as nodes
use Rattle.qv_syntax.specs.declared.typed.Call.TheOpen as of
use Rattle.qv_syntax.specs.declared.typed.Typed.{Typed}
use Rattle.qv_syntax.specs.declared.typed.TypedPostfix.{TypedPostfix, fold-roll-TypedPostfix}
use Rattle.qv_syntax.specs.declared.typed.TypedInfix.{TypedInfix, fold-roll-TypedInfix}
use Rattle.ocl_environments.specs.QueryCalls.{call_step, node_step, typed_step, infix_step, postfix_step, called_by, called_in_node, called_in_call, called_behind, called_with, rows_of, HasNameAt, IsCycleFault}

-- the calls of one more
pub concat_more : {X : Type 0} (f : X → List ℕ) (xs : List X) (i : ℕ) (x : X) → i < length xs → x ≡ get_or xs i x
    → concat (map f (take (i + 1) xs)) ≡ concat (map f (take i xs)) ++ f x
concat_more f xs i x within is =
    ap (λ ys. concat (map f ys)) (take_more xs i x within ∙ ap (λ y. take i xs ++ y ∷ []) (sym is))
    ∙ ap concat (map-append f (take i xs) (x ∷ []))
    ∙ concat-append (map f (take i xs)) (f x ∷ [])
    ∙ ap (λ ys. concat (map f (take i xs)) ++ ys) (append-nil (f x))

-- the same behind others
pub calls_more : {X : Type 0} (f : X → List ℕ) (xs : List X) (i : ℕ) (x : X) (first before after : List ℕ) → i < length xs → x ≡ get_or xs i x
    → before ≡ first ++ concat (map f (take i xs)) → after ≡ before ++ f x → after ≡ first ++ concat (map f (take (i + 1) xs))
calls_more f xs i x first before after within is so_far more =
    more ∙ ap (λ ys. ys ++ f x) so_far ∙ append_assoc first (concat (map f (take i xs))) (f x) ∙ ap (λ ys. first ++ ys) (sym (concat_more f xs i x within is))

leads_on : (g : Graph) (u : ℕ) → IsOnCycle g u → (v : ℕ) × Leads g u v
leads_on g u ([], path) = (u, path)
leads_on g u (w ∷ ws, path) = (w, path.0)

-- a node that leads nowhere is on no cycle
leads_some : (g : Graph) (u : ℕ) → IsOnCycle g u → neighbours g u ≡ [] → ⊥
leads_some g u cycle none =
    let v = leads_on g u cycle in
    let some = v.1.1 in
    let long : length (neighbours g u) ≡ 0 = ap length none in
    omega (arith, some, long)

module _ (before : ℕ) (queries : List Query) where
  pub cycle_behind : (u : ℕ) → IsOnCycle (rows_of before queries) u → before ≤ u
  cycle_behind u cycle = elim (cases_lt u before) [
    | inl l ↦ absurd (leads_some (rows_of before queries) u cycle
        (get_or_append_left (replicate before []) (map (λ q. called_by q.body) queries) [] u (let long = length-replicate {A = List ℕ} before [] in omega (arith, l, long))
        ∙ get_or-replicate before u [] [] l))
    | inr r ↦ r
  ]

  pub cycle_within : (u : ℕ) → IsOnCycle (rows_of before queries) u → u < before + length queries
  cycle_within u cycle = elim (cases_lt u (before + length queries)) [
    | inl l ↦ l
    | inr r ↦ absurd (leads_some (rows_of before queries) u cycle (get_or_past (rows_of before queries) u []
        (let one = length-append (replicate before []) (map (λ q. called_by q.body) queries) in
        let two = length-replicate {A = List ℕ} before [] in
        let three = length-map queries (λ q. called_by q.body) in
        omega (arith, r, one, two, three))))
  ]

  pub cycle_told : (u : ℕ) (name : List ℕ) → IsOnCycle (rows_of before queries) u → HasNameAt queries (u - before) name → IsCycleFault before queries (QueryCycle name)
  cycle_told u name cycle has =
      let behind = cycle_behind u cycle in
      let place : before + (u - before) ≡ u = omega (arith, behind) in
      record {
        place = u - before;
        name = name;
        query = has;
        cycle = subst (IsOnCycle (rows_of before queries)) (sym place) cycle;
        names = refl;
      }

-- what a search answers of the same graph
pub no_cycle : (o : Option ℕ) (g h : Graph) → MatchOption o ((u : ℕ) → IsOnCycle g u → ⊥) (IsOnCycle g) → o ≡ None → g ≡ h → (u : ℕ) → IsOnCycle h u → ⊥
no_cycle None g h told is same = subst (λ k. (u : ℕ) → IsOnCycle k u → ⊥) same told
no_cycle (Some x) g h told is same = absurd (cc)

pub name_read : {E : Type 0} (r : Result (List ℕ) E) (queries : List Query) (place : ℕ) (query : Query) → place < length queries → query ≡ get_or queries place query
    → IfOk r (λ name. name ≡ (get_or queries place query).name) → IfOk r (HasNameAt queries place)
name_read (Ok name) queries place query within is same = record { query = query; found = slice_get_read queries (length queries) place query refl within is; names = same ∙ ap (λ (q : Query). q.name) (sym is) }
name_read (Err e) queries place query within is same = tt

-- ---- the calls of an outer layer

pub calls_of_step : (step : TypedPostfix) → called_with step ≡ called_in_call step.call
calls_of_step step = fold-roll-TypedPostfix (List ℕ) (List ℕ) (List ℕ) (List ℕ) (List ℕ) call_step node_step typed_step infix_step postfix_step (record { call = step.call; ty = step.ty })

-- those of the part behind an operator
pub by_link : (link : TypedInfix) → called_behind link ≡ called_by link.right
by_link link = fold-roll-TypedInfix (List ℕ) (List ℕ) (List ℕ) (List ℕ) (List ℕ) call_step node_step typed_step infix_step postfix_step (record { operator = link.operator; right = link.right; ty = link.ty })

-- ---- the calls of a node, of its parts as they are read

pub let_calls : (n : Node) (variable : ℕ) (value body v b : Typed) → n ≡ nodes.Let variable value body → v ≡ value → b ≡ body → called_in_node n ≡ called_by v ++ called_by b
let_calls n variable value body v b is one other =
    ap called_in_node (is ∙ sym (nodes.rolls-Let variable value body))
    ∙ fold-roll-Node (List ℕ) (List ℕ) (List ℕ) (List ℕ) (List ℕ) call_step node_step typed_step infix_step postfix_step (of.Let variable value body)
    ∙ ap (λ (t : Typed). called_by t ++ called_by body) (sym one) ∙ ap (λ (t : Typed). called_by v ++ called_by t) (sym other)

pub chain_calls : (n : Node) (first f : Typed) (rest r : List TypedInfix) → n ≡ nodes.Chain first rest → f ≡ first → r ≡ rest
    → called_in_node n ≡ called_by f ++ concat (map called_behind r)
chain_calls n first f rest r is one other =
    ap called_in_node (is ∙ sym (nodes.rolls-Chain first rest))
    ∙ fold-roll-Node (List ℕ) (List ℕ) (List ℕ) (List ℕ) (List ℕ) call_step node_step typed_step infix_step postfix_step (of.Chain first rest)
    ∙ ap (λ (t : Typed). called_by t ++ concat (map called_behind rest)) (sym one) ∙ ap (λ (ls : List TypedInfix). called_by f ++ concat (map called_behind ls)) (sym other)

pub postfix_calls : (n : Node) (part p : Typed) (calls cs : List TypedPostfix) → n ≡ nodes.Calls part calls → p ≡ part → cs ≡ calls
    → called_in_node n ≡ called_by p ++ concat (map called_with cs)
postfix_calls n part p calls cs is one other =
    ap called_in_node (is ∙ sym (nodes.rolls-Calls part calls))
    ∙ fold-roll-Node (List ℕ) (List ℕ) (List ℕ) (List ℕ) (List ℕ) call_step node_step typed_step infix_step postfix_step (of.Calls part calls)
    ∙ ap (λ (t : Typed). called_by t ++ concat (map called_with calls)) (sym one) ∙ ap (λ (ls : List TypedPostfix). called_by p ++ concat (map called_with ls)) (sym other)

pub if_calls : (n : Node) (condition one other c a b : Typed) → n ≡ nodes.If condition one other → c ≡ condition → a ≡ one → b ≡ other
    → called_in_node n ≡ (called_by c ++ called_by a) ++ called_by b
if_calls n condition one other c a b is first second third =
    ap called_in_node (is ∙ sym (nodes.rolls-If condition one other))
    ∙ fold-roll-Node (List ℕ) (List ℕ) (List ℕ) (List ℕ) (List ℕ) call_step node_step typed_step infix_step postfix_step (of.If condition one other)
    ∙ ap (λ (t : Typed). called_by t ++ (called_by one ++ called_by other)) (sym first) ∙ ap (λ (t : Typed). called_by c ++ (called_by t ++ called_by other)) (sym second)
    ∙ ap (λ (t : Typed). called_by c ++ (called_by a ++ called_by t)) (sym third) ∙ sym (append_assoc (called_by c) (called_by a) (called_by b))

pub query_calls : (n : Node) (query : ℕ) (args xs : List Typed) → n ≡ nodes.Query query args → xs ≡ args → called_in_node n ≡ (query ∷ []) ++ concat (map called_by xs)
query_calls n query args xs is same =
    ap called_in_node (is ∙ sym (nodes.rolls-Query query args))
    ∙ fold-roll-Node (List ℕ) (List ℕ) (List ℕ) (List ℕ) (List ℕ) call_step node_step typed_step infix_step postfix_step (of.Query query args)
    ∙ ap (λ (ts : List Typed). query ∷ concat (map called_by ts)) (sym same)

-- two parts, one behind the other
pub both_behind : (calls mid a b whole : List ℕ) → mid ≡ calls ++ a → whole ≡ a ++ b → mid ++ b ≡ calls ++ whole
both_behind calls mid a b whole is all = ap (λ xs. xs ++ b) is ∙ append_assoc calls a b ∙ ap (λ xs. calls ++ xs) (sym all)

pub behind_told : {X E : Type 0} (r : Result X E) (new calls mid a b whole : List ℕ) → mid ≡ calls ++ a → whole ≡ a ++ b → OnOk r (new ≡ mid ++ b) → OnOk r (new ≡ calls ++ whole)
behind_told r new calls mid a b whole is all more = subst (λ xs. OnOk r (new ≡ xs)) (both_behind calls mid a b whole is all) more
