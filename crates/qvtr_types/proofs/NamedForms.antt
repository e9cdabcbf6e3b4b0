-- Which variables names, scopes and calls name, in the words of usages (OCL 2.4, section 9.4).
use Rattle.std.proofs.Common.{◌≡◌, ◌<◌, ℕ, zero, suc, ◌+◌, Bool, true, false, cond, not, List, [], ◌∷◌, ◌++◌, Option, None, Some, length, refl, sym, ◌∙◌, ap, subst, arith, inl, inr, append-nil, length-append}
use Rattle.std.specs.Prelude.{◌≢◌, ◌⊎◌, Contains, is_some, slice_get, encode_utf8_all}
use Rattle.std.specs.List.{flat_map}
use Rattle.std.proofs.lemmas.Bool.{false≢true}
use Rattle.std.proofs.lemmas.Option.{none-some, same_Some}
use Rattle.std.proofs.lemmas.Grind.{flat_map-append}
use Rattle.mof_metamodel.specs.declared.desc.MetaDesc.{MetaDesc}
use Rattle.mof_metamodel.specs.Characters.{same_name}
use Rattle.mof_metamodel.specs.NameTables.{NamesWith, value_of}
use Rattle.mof_metamodel.proofs.SearchLemmas.{same_true, true_same}
use Rattle.qv_syntax.specs.declared.ty.Ty.{Ty}
use Rattle.qv_syntax.specs.declared.name.Path.{Path}
use Rattle.qv_syntax.specs.declared.operation.CollectionOperation.{CollectionOperation}
use Rattle.qv_syntax.specs.declared.operation.CollectionOperation.TheVariants as collections
use Rattle.qv_syntax.specs.declared.type_tree.Kind.{Kind}
use Rattle.qv_syntax.specs.declared.typed.Typed.{Typed}
use Rattle.qv_syntax.specs.declared.typed.Node.{Node, out-Node}
use Rattle.qv_syntax.specs.declared.typed.Node.TheVariants as nodes
use Rattle.qv_syntax.specs.declared.typed.Call.{Call, out-Call, out-roll-Call}
use Rattle.qv_syntax.specs.declared.typed.Call.TheVariants as calls
use Rattle.qv_syntax.specs.declared.typed.Call.TheOpen as layers
use Rattle.qv_syntax.specs.declared.typed.TypedInfix.{TypedInfix}
use Rattle.qv_syntax.specs.declared.typed.TypedPostfix.{TypedPostfix}
use Rattle.qv_syntax.specs.Parts.{IsWithin, node_parts, call_parts, parts_of_call}
use Rattle.ocl_environments.specs.declared.part.TypedPart.{TypedPart}
use Rattle.ocl_environments.specs.declared.part.CallsSoFar.{CallsSoFar}
use Rattle.ocl_environments.specs.declared.variable.Variable.{Variable}
use Rattle.ocl_environments.specs.Environments.{Environment, is_bound, with_variable}
use Rattle.ocl_environments.specs.Parts.{tree_of, trees_of, and_called}
use Rattle.ocl_environments.specs.Naming.{names_of}
use Rattle.ocl_environments.specs.Agreement.{collection_parts}
use Rattle.ocl_environments.specs.Classifiers.{named_class}
use Rattle.ocl_types.specs.Operations.{iterator_row, operation_named, class_operation_named, collection_operation_named, iterator_named}
use Rattle.ocl_types.specs.TypingCollections.{element_of, gathered, gathered_by}
use Rattle.ocl_types.specs.Judged.{Judged}
use Rattle.ocl_types.specs.TypeRules.{variable_judged, exact_judged, operation_judged, class_operation_judged, summed_judged, collection_operation_judged, condition_judged, iterator_judged, property_judged_by, property_judged}
use Rattle.ocl_types.proofs.TypedParts.{finds_has}
use Rattle.script_scopes.specs.declared.usage.Usage.{Usage}
use Rattle.script_scopes.specs.declared.usage.Usage.TheVariants as usages_of
use Rattle.script_scopes.specs.Usages.{is_of, without, variable_in}
use Rattle.qvtr_types.specs.TypedUsages.{HasNumber}
use Rattle.mof_metamodel.proofs.Facts.{nothing_in}
use Rattle.mof_metamodel.proofs.Facts.{only_one}
use Rattle.qvtr_types.proofs.NamedVariables.{AreSame, alone, out_variable, variable_number}

-- ---- a variable

number_of_layer : layers.Node-F Call Node Typed TypedInfix TypedPostfix → ℕ
number_of_layer (layers.Variable n) = n
number_of_layer d = 0

leaf_number : (ty : Ty) (m number : ℕ) (x : Typed) → x.node ≡ nodes.Variable number → IsWithin (record { ty = ty; node = nodes.Variable m }) x → m ≡ number
leaf_number ty m number x is w = by (record { ty = ty; node = nodes.Variable m }) refl w
  where
    by : (e : Typed) → e.node ≡ nodes.Variable m → IsWithin e x → m ≡ number
    by e at (IsWithin.whole y) = variable_number m number (sym at ∙ is)
    by e at (IsWithin.inside y part inner c w) = absurd (nothing_in part (subst (λ d. Contains (node_parts d) part) (ap out-Node at ∙ out_variable m) c))

pub variable_named : (env : Environment) (name : List ℕ) (p : TypedPart) → (variable_judged env name).has p → AreSame env (usages_of.Variable name ∷ []) (tree_of p ∷ [])
variable_named env name p is = subst (λ (q : TypedPart). AreSame env (usages_of.Variable name ∷ []) (tree_of q ∷ [])) (sym is.2) (record {
  listed = λ other c.
      let same : name ≡ other = same_Some name other (ap variable_in (only_one (usages_of.Variable name) (usages_of.Variable other) c)) in
      (is.0.0, subst (λ n. HasNumber env n is.0.0) same (is.0.1, is.1), (e, alone e, (is.0.1.ty, IsWithin.whole e)));
  named = λ number within h.
      let x : Typed = record { ty = h.2.0; node = nodes.Variable number } in
      let w : IsWithin e x = subst (λ (t : Typed). IsWithin t x) (sym (only_one e h.0 h.1)) h.2.1 in
      let same : is.0.0 ≡ number = leaf_number is.0.1.ty is.0.0 number x refl w in
      (name, subst (HasNumber env name) same (is.0.1, is.1), alone (usages_of.Variable name));
})
  where
    e : Typed
    e = record { ty = is.0.1.ty; node = nodes.Variable is.0.0 }

-- ---- a variable more, in reach in a part alone

bound_at : (es : NamesWith Variable) (k : ℕ) (name : List ℕ) (x : Variable) → slice_get es k ≡ Some (name, x) → is_some (value_of es name) ≡ true
bound_at [] k name x at = absurd (none-some (name, x) at)
bound_at (e ∷ es) zero name x at = ap (λ b. is_some (cond b (Some e.1) (value_of es name))) (true_same name e.0 (sym (ap (λ (p : List ℕ × Variable). p.0) (same_Some e (name, x) at))))
bound_at (e ∷ es) (suc k) name x at = by (same_name name e.0) (bound_at es k name x at)
  where
    by : (b : Bool) → is_some (value_of es name) ≡ true → is_some (cond b (Some e.1) (value_of es name)) ≡ true
    by true h = refl
    by false h = h

get_left : {X : Type 0} (xs ys : List X) (k : ℕ) → k < length xs → slice_get (xs ++ ys) k ≡ slice_get xs k
get_left [] ys k l = absurd (omega arith)
get_left (x ∷ xs) ys zero l = refl
get_left (x ∷ xs) ys (suc k) l = get_left xs ys k (omega arith)

get_last : {X : Type 0} (xs : List X) (y : X) (k : ℕ) (z : X) → slice_get (xs ++ y ∷ []) k ≡ Some z → (k < length xs) ⊎ (y ≡ z)
get_last [] y zero z at = inr (same_Some y z at)
get_last [] y (suc k) z at = absurd (none-some z at)
get_last (x ∷ xs) y zero z at = inl (omega arith)
get_last (x ∷ xs) y (suc k) z at = elim (get_last xs y k z at) [
  | inl l ↦ inl (omega arith)
  | inr same ↦ inr same
]

kept_others : (name other : List ℕ) (us : List Usage) → Contains (without name us) (usages_of.Variable other) → Contains us (usages_of.Variable other) × (name ≢ other)
kept_others name other [] c = absurd (nothing_in (usages_of.Variable other) c)
kept_others name other (u ∷ us) c = by (λ d. kept_others name other us d) (is_of name u) refl c
  where
    later : Contains us (usages_of.Variable other) × (name ≢ other) → Contains (u ∷ us) (usages_of.Variable other) × (name ≢ other)
    later ((k, l, at), apart) = ((suc k, omega arith, at), apart)

    by : (Contains (without name us) (usages_of.Variable other) → Contains us (usages_of.Variable other) × (name ≢ other)) → (b : Bool) → is_of name u ≡ b
        → Contains (cond (not b) (u ∷ without name us) (without name us)) (usages_of.Variable other) → Contains (u ∷ us) (usages_of.Variable other) × (name ≢ other)
    by rest true is d = later (rest d)
    by rest false is (zero, l, at) = ((0, omega arith, at), λ same. false≢true (sym is ∙ ap (is_of name) at ∙ true_same name other same))
    by rest false is (suc k, l, at) = later (rest (k, omega arith, at))

others_kept : (name other : List ℕ) (us : List Usage) → Contains us (usages_of.Variable other) → name ≢ other → Contains (without name us) (usages_of.Variable other)
others_kept name other [] c apart = c
others_kept name other (u ∷ us) (zero, l, at) apart = subst (λ (b : Bool). Contains (cond (not b) (u ∷ without name us) (without name us)) (usages_of.Variable other)) (sym apart_from) (0, omega arith, at)
  where
    by : (b : Bool) → same_name name other ≡ b → b ≡ false
    by true is = absurd (apart (same_true name other is))
    by false is = refl

    apart_from : is_of name u ≡ false
    apart_from = ap (is_of name) at ∙ by (same_name name other) refl
others_kept name other (u ∷ us) (suc k, l, at) apart = by (is_of name u) (others_kept name other us (k, omega arith, at) apart)
  where
    by : (b : Bool) → Contains (without name us) (usages_of.Variable other) → Contains (cond (not b) (u ∷ without name us) (without name us)) (usages_of.Variable other)
    by true rest = rest
    by false (j, m, is) = (suc j, omega arith, is)

module _ (env : Environment) (name : List ℕ) (x : Variable) (free : is_bound env name ≡ false) where
  abbrev more : Environment
  more = with_variable env name x

  -- in reach outside, and no other name
  outside : (other : List ℕ) (number : ℕ) → name ≢ other → HasNumber more other number → HasNumber env other number
  outside other number apart (y, first) = elim (get_last env.variables (name, x) number (other, y) first.there) [
    | inl l ↦ (
      y,
      record {
        there = sym (get_left env.variables ((name, x) ∷ []) number l) ∙ first.there;
        first = λ k z before at. first.first k z before (get_left env.variables ((name, x) ∷ []) k (omega (arith, before, l)) ∙ at);
      },
    )
    | inr same ↦ absurd (apart (ap (λ (p : List ℕ × Variable). p.0) same))
  ]

  not_free : (number : ℕ) → number < length env.variables → HasNumber more name number → ⊥
  not_free number within (y, first) =
      false≢true (sym free ∙ bound_at env.variables number name y (sym (get_left env.variables ((name, x) ∷ []) number within) ∙ first.there))

  pub outside_named : (us : List Usage) (trees : List Typed) → AreSame more us trees → AreSame env (without name us) trees
  outside_named us trees same = record {
    listed = λ other c.
        let k = kept_others name other us c in
        let h = same.listed other k.0 in
        (h.0, outside other h.0 k.1 h.1, h.2);
    named = λ number within h.
        let n = same.named number (let long = length-append env.variables ((name, x) ∷ []) in omega (arith, within, long)) h in
        let apart : name ≢ n.0 = λ is. not_free number within (subst (λ o. HasNumber more o number) (sym is) n.1) in
        (n.0, outside n.0 number apart n.1, others_kept name n.0 us n.2 apart);
  }

-- ---- calls: which parts are called so far

unfoldable pub called_parts : CallsSoFar → List Typed
called_parts c = flat_map parts_of_call c.calls

-- what was called before and one call more, with these parts
unfoldable pub CallsMore : CallsSoFar → List Typed → CallsSoFar → Type 0
CallsMore c parts d = called_parts d ≡ called_parts c ++ parts

and_called_more : (c : CallsSoFar) (call : Call) (ty : Ty) (model : Option ℕ) (parts : List Typed) → call_parts (out-Call call) ≡ parts → CallsMore c parts (and_called c call ty model)
unfolding CallsMore called_parts
and_called_more c call ty model parts is =
    flat_map-append parts_of_call c.calls (record { call = call; ty = ty } ∷ []) ∙ ap (λ ps. flat_map parts_of_call c.calls ++ ps) (append-nil (call_parts (out-Call call)) ∙ is)

gathered_same : (c : CallsSoFar) → called_parts (gathered c) ≡ called_parts c
unfolding called_parts CallsMore
gathered_same c = by (collection_parts c.ty)
  where
    by : (o : Option (Kind × Ty)) → called_parts (gathered_by c o) ≡ called_parts c
    by None = and_called_more c (calls.Operation _ []) _ c.model [] (ap (λ d. call_parts d) (ap out-Call (sym (calls.rolls-Operation _ [])) ∙ out-roll-Call (layers.Operation _ []))) ∙ append-nil (flat_map parts_of_call c.calls)
    by (Some parts) = refl

exact_rest : (metas : List MetaDesc) (wanted : Ty) (args : List TypedPart) (j : Judged CallsSoFar) (d : CallsSoFar) → (exact_judged metas wanted args j).has d → j.has d
exact_rest metas wanted [] j d is = is
exact_rest metas wanted (p ∷ ps) j d is = exact_rest metas wanted ps j d is.1

summed_rest : (metas : List MetaDesc) (operation : CollectionOperation) (of : Ty) (j : Judged CallsSoFar) (d : CallsSoFar) → (summed_judged metas operation of j).has d → j.has d
summed_rest metas collections.Sum of j d is = is.1
summed_rest metas operation of j d is = is

condition_rest : (metas : List MetaDesc) (conditional : Bool) (ty : Ty) (j : Judged CallsSoFar) (d : CallsSoFar) → (condition_judged metas conditional ty j).has d → j.has d
condition_rest metas true ty j d is = is.1
condition_rest metas false ty j d is = is

-- another list of calls so far with the same parts
more_alike : (c g d : CallsSoFar) (parts : List Typed) → called_parts g ≡ called_parts c → CallsMore g parts d → CallsMore c parts d
unfolding CallsMore
more_alike c g d parts same more = more ∙ ap (λ ps. ps ++ parts) same

pub property_calls : (metas : List MetaDesc) (name : List ℕ) (c d : CallsSoFar) → (property_judged metas name c).has d → CallsMore c [] d
property_calls metas name c d is = by (collection_parts c.ty) is
  where
    by : (o : Option (Kind × Ty)) → (property_judged_by metas name c o).has d → CallsMore c [] d
    by None h = subst (CallsMore c []) (sym h.2) (and_called_more c (calls.Property h.0.0 h.0.1) _ _ []
        (ap call_parts (ap out-Call (sym (calls.rolls-Property h.0.0 h.0.1)) ∙ out-roll-Call (layers.Property h.0.0 h.0.1))))
    by (Some parts) h = subst (CallsMore c []) (sym h.2) (and_called_more c (calls.CollectProperty h.0.0 h.0.1) _ _ []
        (ap call_parts (ap out-Call (sym (calls.rolls-CollectProperty h.0.0 h.0.1)) ∙ out-roll-Call (layers.CollectProperty h.0.0 h.0.1))))

pub operation_calls : (metas : List MetaDesc) (name : List ℕ) (c d : CallsSoFar) (args : List TypedPart) → (operation_judged metas name c args).has d → CallsMore c (trees_of args) d
operation_calls metas name c d args is =
    let o = finds_has (operation_named (encode_utf8_all name)) _ _ d is in
    let e = exact_rest metas _ args _ d o.2.1.1 in
    subst (CallsMore c (trees_of args)) (sym e) (and_called_more c (calls.Operation o.0 (trees_of args)) _ _ (trees_of args)
    (ap call_parts (ap out-Call (sym (calls.rolls-Operation o.0 (trees_of args))) ∙ out-roll-Call (layers.Operation o.0 (trees_of args)))))

pub class_operation_calls : (env : Environment) (name : List ℕ) (path : Path) (c d : CallsSoFar) → (class_operation_judged env name path c).has d → CallsMore c [] d
class_operation_calls env name path c d is =
    let o = finds_has (class_operation_named (encode_utf8_all name)) _ _ d is in
    let k = finds_has (named_class env (names_of path)) _ _ d o.2 in
    subst (CallsMore c []) (sym k.2.1) (and_called_more c (calls.Class o.0 k.0.1) _ _ []
    (ap call_parts (ap out-Call (sym (calls.rolls-Class o.0 k.0.1)) ∙ out-roll-Call (layers.Class o.0 k.0.1))))

pub collection_operation_calls : (metas : List MetaDesc) (name : List ℕ) (c d : CallsSoFar) (args : List TypedPart) → (collection_operation_judged metas name c args).has d → CallsMore c (trees_of args) d
collection_operation_calls metas name c d args is =
    let o = finds_has (collection_operation_named (encode_utf8_all name)) _ _ d is in
    let s = summed_rest metas o.0 (element_of c.ty) _ d o.2.1.1 in
    more_alike c (gathered c) d (trees_of args) (gathered_same c)
    (subst (CallsMore (gathered c) (trees_of args)) (sym s.2) (and_called_more (gathered c) (calls.Collection o.0 (trees_of args)) _ _ (trees_of args)
    (ap call_parts (ap out-Call (sym (calls.rolls-Collection o.0 (trees_of args))) ∙ out-roll-Call (layers.Collection o.0 (trees_of args))))))

pub iterator_calls : (metas : List MetaDesc) (name : List ℕ) (number : ℕ) (c d : CallsSoFar) (body : TypedPart) → (iterator_judged metas name number c body).has d → CallsMore c (tree_of body ∷ []) d
iterator_calls metas name number c d body is =
    let i = finds_has (iterator_named (encode_utf8_all name)) _ _ d is in
    let k = condition_rest metas (iterator_row i.0).conditional body.ty _ d i.2 in
    more_alike c (gathered c) d (tree_of body ∷ []) (gathered_same c)
    (subst (CallsMore (gathered c) (tree_of body ∷ [])) (sym k) (and_called_more (gathered c) (calls.Iterator i.0 number (tree_of body)) _ _ (tree_of body ∷ [])
    (ap call_parts (ap out-Call (sym (calls.rolls-Iterator i.0 number (tree_of body))) ∙ out-roll-Call (layers.Iterator i.0 number (tree_of body))))))
