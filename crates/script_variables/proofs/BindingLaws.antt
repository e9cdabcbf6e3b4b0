-- What follows from the rules that are listed are the numbers of the data variables that are bound.
use Rattle.std.proofs.Common.{◌≡◌, ◌≢◌, ℕ, zero, suc, ◌<◌, List, [], ◌∷◌, ◌++◌, Bool, true, false, not, cond, refl, sym, ◌∙◌, ap, subst, map, length, get_or, arith, ⊎_elim, true≢false}
use Rattle.std.specs.Prelude.{Option, Some, None, Contains, slice_get, is_some, position, nat_lt}
use Rattle.std.specs.List.{flat_map, position_or_len}
use Rattle.std.specs.Set.{is_member}
use Rattle.std.specs.Option.{option_map_or, option_to_list}
use Rattle.std.proofs.lemmas.Bool.{lt-ltb, ltb-true, not-true, not_from_false}
use Rattle.std.proofs.lemmas.Option.{same_Some, none-some, slice_get-get_or, slice_get_within}
use Rattle.std.proofs.lemmas.List.{length-map}
use Rattle.std.proofs.lemmas.List.Sums.{passes_at_first}
use Rattle.std.proofs.lemmas.List.Elements.{Contains-append_left, Contains-append_right, Contains-append_cases}
use Rattle.mof_metamodel.specs.declared.desc.ClassId.{ClassId}
use Rattle.mof_metamodel.specs.Characters.{same_name}
use Rattle.mof_metamodel.specs.NameTables.{NamesWith, number_of, value_of}
use Rattle.mof_metamodel.proofs.PropLemmas.{to_flat_map, from_flat_map}
use Rattle.qv_syntax.specs.declared.expr.Expr.{Expr}
use Rattle.qv_syntax.specs.declared.ty.Ty.{Ty}
use Rattle.qv_syntax.specs.declared.script.DomainTree.{DomainTree}
use Rattle.qv_syntax.specs.declared.script.DomainTree.TheVariants as domains
use Rattle.qv_syntax.specs.declared.script.RelationTree.{RelationTree}
use Rattle.ocl_environments.specs.Environments.{class_of}
use Rattle.script_scopes.specs.ScriptNames.{each_once}
use Rattle.script_scopes.specs.Usages.{variables_in}
use Rattle.script_scopes.specs.Conjuncts.{clause_conjuncts, name_alone, equation_of}
use Rattle.script_scopes.specs.Occurrences.{Piece, WrittenProperty, root_of}
use Rattle.script_scopes.specs.Occurrences.Piece.{begins, asks}
use Rattle.script_scopes.specs.Divisions.{model_of, HasPiece, IsItemAlone, IsUniversal, Says, IsBound}
use Rattle.script_scopes.specs.UniversalNames.{universal_names, is_among}
use Rattle.script_scopes.specs.LocatedPieces.{located}
use Rattle.script_variables.specs.Bindings.{BindingRule, bound_if, alone_rules, item_rules, equation_rules, conjunct_rules, primitive_rules, is_data, data_number, numbered_rule, numbered, clause_rules, binding_rules, IsDerivedNumber}
use Rattle.script_variables.specs.Derivations.{IsRuleBelow}
use Rattle.script_scopes.proofs.NameLemmas.{same_is, is_same, has_name, name_had}
use Rattle.script_scopes.proofs.MemberLemmas.{once_has, has_once, from_map, to_map}
use Rattle.script_scopes.proofs.DivisionLaws.{listed_universal, universal_listed}
use Rattle.script_variables.proofs.PlaceLaws.{first_below}
use Rattle.script_variables.proofs.FirstEntryLemmas.{value_among}
use Rattle.script_variables.proofs.LocatedLaws.{located_piece, piece_located}

-- ---- numbers of names

pub number_at : (names : List (List ℕ)) (v : List ℕ) (n : ℕ) → position (same_name v) names ≡ Some n → slice_get names n ≡ Some v
number_at names v n h = by (nat_lt (position_or_len (same_name v) names) (length names)) refl h
  where
    by : (b : Bool) → nat_lt (position_or_len (same_name v) names) (length names) ≡ b → cond b (Some (position_or_len (same_name v) names)) None ≡ Some n → slice_get names n ≡ Some v
    by false e g = absurd (none-some n g)
    by true e g =
        let below : position_or_len (same_name v) names < length names = ltb-true (position_or_len (same_name v) names) (length names) e in
        ap (slice_get names) (sym (same_Some (position_or_len (same_name v) names) n g)) ∙ slice_get-get_or names (position_or_len (same_name v) names) v below
        ∙ ap Some (sym (same_is v (get_or names (position_or_len (same_name v) names) v) (passes_at_first (same_name v) names v below)))

pub number_had : (names : List (List ℕ)) (v : List ℕ) → Contains names v → position (same_name v) names ≡ Some (position_or_len (same_name v) names)
number_had names v c = ap (λ (b : Bool). cond b (Some (position_or_len (same_name v) names)) None) (lt-ltb (position_or_len (same_name v) names) (length names) (first_below v names c))

module _ (types : NamesWith Ty) where
  -- a data variable has a type, and that is no class
  pub record HasDataType (v : List ℕ) : Type 0 where
    pub ty : Ty
    pub found : value_of types v ≡ Some ty
    pub no_class : class_of ty ≡ None

  pub data_typed : (v : List ℕ) → is_data types v ≡ true → HasDataType v
  data_typed v h = by (value_of types v) refl h
    where
      none : (o : Option (ℕ × ClassId)) → not (is_some o) ≡ true → o ≡ None
      none None g = refl
      none (Some c) g = absurd (true≢false (sym g))

      by : (o : Option Ty) → value_of types v ≡ o → option_map_or (λ ty. not (is_some (class_of ty))) o false ≡ true → HasDataType v
      by None e g = absurd (true≢false (sym g))
      by (Some ty) e g = record { ty = ty; found = e; no_class = none (class_of ty) g }

  pub typed_data : (v : List ℕ) (ty : Ty) → value_of types v ≡ Some ty → class_of ty ≡ None → is_data types v ≡ true
  typed_data v ty found none = ap (λ (o : Option Ty). option_map_or (λ ty. not (is_some (class_of ty))) o false) found ∙ ap (λ (o : Option (ℕ × ClassId)). not (is_some o)) none

  pub number_from : (v : List ℕ) (n : ℕ) → Contains (data_number types v) n → (is_data types v ≡ true) × (number_of types v ≡ Some n)
  number_from v n c = by (is_data types v) refl c
    where
      listed : (o : Option ℕ) → Contains (option_to_list o) n → o ≡ Some n
      listed None (k, l, at) = absurd (omega arith)
      listed (Some m) (zero, l, at) = ap Some at
      listed (Some m) (suc k, l, at) = absurd (omega arith)

      by : (b : Bool) → is_data types v ≡ b → Contains (cond b (option_to_list (number_of types v)) []) n → (is_data types v ≡ true) × (number_of types v ≡ Some n)
      by true e d = (e, listed (number_of types v) d)
      by false e (k, l, at) = absurd (omega arith)

  pub number_to : (v : List ℕ) → is_data types v ≡ true → (n : ℕ) × Contains (data_number types v) n
  number_to v h =
      let t = data_typed v h in
      let keys : List (List ℕ) = map {A = List ℕ × Ty} {B = List ℕ} (λ e. e.0) types in
      let c : Contains keys v = to_map {X = List ℕ × Ty} {Y = List ℕ} (λ e. e.0) types (v, t.ty) (value_among types v t.ty t.found) in (
        position_or_len (same_name v) keys,
        subst (λ (b : Bool). Contains (cond b (option_to_list (number_of types v)) []) (position_or_len (same_name v) keys)) (sym h)
            (subst (λ (o : Option ℕ). Contains (option_to_list o) (position_or_len (same_name v) keys)) (sym (number_had keys v c)) (0, omega arith, refl)),
      )

  one_name : (v w : List ℕ) (n : ℕ) → Contains (data_number types v) n → Contains (data_number types w) n → v ≡ w
  one_name v w n c d =
      let keys : List (List ℕ) = map {A = List ℕ × Ty} {B = List ℕ} (λ e. e.0) types in
      same_Some v w (sym (number_at keys v n (number_from v n c).1) ∙ number_at keys w n (number_from w n d).1)

  pub number_below : (v : List ℕ) (n : ℕ) → Contains (data_number types v) n → n < length types
  number_below v n c =
      let keys : List (List ℕ) = map {A = List ℕ × Ty} {B = List ℕ} (λ e. e.0) types in
      let l : n < length keys = slice_get_within keys n v (number_at keys v n (number_from v n c).1) in
      omega (arith, l, length-map {A = List ℕ × Ty} {B = List ℕ} types (λ e. e.0))

  -- ---- numbered rules

  record IsNumbered (rules : List BindingRule) (n : ℕ) (ns : List ℕ) : Type 0 where
    pub rule : BindingRule
    pub among : Contains rules rule
    pub number : Contains (data_number types rule.0) n
    pub asks : flat_map (data_number types) rule.1 ≡ ns

  numbered_from : (rules : List BindingRule) (n : ℕ) (ns : List ℕ) → Contains (numbered types rules) (n, ns) → IsNumbered rules n ns
  numbered_from rules n ns c =
      let (rule, among, has) = from_flat_map (numbered_rule types) rules (n, ns) c in
      let (m, there, is) = from_map {X = ℕ} {Y = ℕ × List ℕ} (λ k. (k, flat_map (data_number types) rule.1)) (data_number types rule.0) (n, ns) has in
      record { rule = rule; among = among; number = subst (Contains (data_number types rule.0)) (ap (λ (p : ℕ × List ℕ). p.0) is) there; asks = ap (λ (p : ℕ × List ℕ). p.1) is }

  numbered_to : (rules : List BindingRule) (v : List ℕ) (asked : List (List ℕ)) (n : ℕ) → Contains rules (v, asked) → Contains (data_number types v) n → Contains (numbered types rules) (n, flat_map (data_number types) asked)
  numbered_to rules v asked n among number =
      to_flat_map (numbered_rule types) rules (v, asked) (n, flat_map (data_number types) asked) among
      (to_map {X = ℕ} {Y = ℕ × List ℕ} (λ k. (k, flat_map (data_number types) asked)) (data_number types v) n number)

-- ---- rules that may be

bound_from : (b : Bool) (v : List ℕ) (rule : BindingRule) → Contains (bound_if b v) rule → (b ≡ true) × ((v, []) ≡ rule)
bound_from true v rule (zero, l, at) = (refl, at)
bound_from true v rule (suc k, l, at) = absurd (omega arith)
bound_from false v rule (k, l, at) = absurd (omega arith)

bound_to : (b : Bool) (v : List ℕ) → b ≡ true → Contains (bound_if b v) (v, [])
bound_to b v h = subst (λ (a : Bool). Contains (bound_if a v) (v, [])) (sym h) (0, omega arith, refl)

module _ (target : List ℕ) (r : RelationTree) where
  abbrev universal : List (List ℕ)
  universal = each_once (universal_names target r)

  pub among_universal : (v : List ℕ) → is_among universal true v ≡ true → IsUniversal target r v
  among_universal v h = listed_universal target r v (has_once (universal_names target r) v (has_name universal v h))

  pub universal_among : (v : List ℕ) → IsUniversal target r v → is_member same_name universal v ≡ true
  universal_among v u = name_had universal v (once_has (universal_names target r) v (universal_listed target r v u))

  pub among_existential : (v : List ℕ) → is_among universal false v ≡ true → ¬ IsUniversal target r v
  among_existential v h u = true≢false (sym (universal_among v u) ∙ not-true (is_member same_name universal v) h)

  pub existential_among : (v : List ℕ) → ¬ IsUniversal target r v → is_among universal false v ≡ true
  existential_among v h = by (is_member same_name universal v) refl
    where
      by : (b : Bool) → is_member same_name universal v ≡ b → not (is_member same_name universal v) ≡ true
      by true e = absurd (h (listed_universal target r v (has_once (universal_names target r) v (has_name universal v e))))
      by false e = not_from_false (is_member same_name universal v) e

  module _ (Data : List ℕ → Type 0) where
    abbrev Bound : List ℕ → Type 0
    Bound v = IsBound Data target r v

    -- the rule is one that binds
    abbrev Binds : BindingRule → Type 0
    Binds rule = ((w : List ℕ) → Contains rule.1 w → Data w → Bound w) → Bound rule.0

    bare : (v : List ℕ) (rule : BindingRule) → (v, []) ≡ rule → Bound v → Binds rule
    bare v rule is b all = subst (λ (x : BindingRule). Bound x.0) is b

    -- ---- items

    record IsAsked (model : List ℕ) (piece : Piece) (rule : BindingRule) : Type 0 where
      pub at : Option WrittenProperty
      pub value : Expr
      pub v : List ℕ
      pub is : piece ≡ asks at value
      pub alone : name_alone value ≡ Some v
      pub allowed : is_among universal (not (same_name target model)) v ≡ true
      pub same : (v, []) ≡ rule

    item_asked : (model : List ℕ) (piece : Piece) (rule : BindingRule) → Contains (item_rules universal target (model, piece)) rule → IsAsked model piece rule
    item_asked model (begins at v path) rule (k, l, is) = absurd (omega arith)
    item_asked model (asks at e) rule c = by (name_alone e) refl c
      where
        by : (o : Option (List ℕ)) → name_alone e ≡ o → Contains (alone_rules universal (not (same_name target model)) o) rule → IsAsked model (asks at e) rule
        by None g (k, l, is) = absurd (omega arith)
        by (Some v) g d =
            let (allowed, same) = bound_from (is_among universal (not (same_name target model)) v) v rule d in
            record { at = at; value = e; v = v; is = refl; alone = g; allowed = allowed; same = same }

    item_binds : (p : List ℕ × Piece) → Contains (located r) p → (rule : BindingRule) → Contains (item_rules universal target p) rule → Binds rule
    item_binds p among rule c =
        let a = item_asked p.0 p.1 rule c in
        let (domain, piece, of) = located_piece p.0 p.1 r among in
        bare a.v rule a.same (by domain of a.v (record { value = a.value; at = a.at; item = subst (HasPiece r domain) a.is piece; alone = a.alone }) (same_name target p.0) refl a.allowed)
      where
        by : (domain : DomainTree) → model_of domain ≡ Some p.0 → (v : List ℕ) → IsItemAlone r domain v → (b : Bool) → same_name target p.0 ≡ b → is_among universal (not b) v ≡ true → Bound v
        by domain of v alone true e h = IsBound.target_item v domain (among_existential v h) (of ∙ ap Some (sym (same_is target p.0 e))) alone
        by domain of v alone false e h = IsBound.source_item v domain (among_universal v h)
            (λ is. true≢false (sym (is_same target p.0 (sym (same_Some p.0 target (sym of ∙ is)))) ∙ e)) alone

    item_listed : (domain : DomainTree) (v model : List ℕ) → model_of domain ≡ Some model → (alone : IsItemAlone r domain v) → is_among universal (not (same_name target model)) v ≡ true
        → Contains (located r) (model, asks alone.at alone.value) × Contains (item_rules universal target (model, asks alone.at alone.value)) (v, [])
    item_listed domain v model of alone allowed = (
      piece_located model (asks alone.at alone.value) r domain alone.item of,
      subst (λ (o : Option (List ℕ)). Contains (alone_rules universal (not (same_name target model)) o) (v, [])) (sym alone.alone)
          (bound_to (is_among universal (not (same_name target model)) v) v allowed),
    )

    -- a domain with an item has a model
    has_model : (domain : DomainTree) (v : List ℕ) → IsItemAlone r domain v → (model : List ℕ) × (model_of domain ≡ Some model)
    has_model (domains.Pattern mark model root template span) v alone = (model.text, refl)
    has_model (domains.Primitive root ty span) v alone = let (k, l, at) = alone.item.has in absurd (omega arith)

    -- ---- conjuncts

    conjunct_said : (wanted : Bool) (e : Expr) (rule : BindingRule) → Contains (conjunct_rules universal wanted e) rule
        → (said : List ℕ × Expr) × (equation_of e ≡ Some said) × (is_among universal wanted said.0 ≡ true) × ((said.0, variables_in said.1) ≡ rule)
    conjunct_said wanted e rule c = by (equation_of e) refl c
      where
        there : (said : List ℕ × Expr) → equation_of e ≡ Some said → (b : Bool) → is_among universal wanted said.0 ≡ b → Contains {X = BindingRule} (cond b ((said.0, variables_in said.1) ∷ []) []) rule
            → (said : List ℕ × Expr) × (equation_of e ≡ Some said) × (is_among universal wanted said.0 ≡ true) × ((said.0, variables_in said.1) ≡ rule)
        there said g true h (zero, l, at) = (said, g, h, at)
        there said g true h (suc k, l, at) = absurd (omega arith)
        there said g false h (k, l, at) = absurd (omega arith)

        by : (o : Option (List ℕ × Expr)) → equation_of e ≡ o → Contains (equation_rules universal wanted o) rule
            → (said : List ℕ × Expr) × (equation_of e ≡ Some said) × (is_among universal wanted said.0 ≡ true) × ((said.0, variables_in said.1) ≡ rule)
        by None g (k, l, at) = absurd (omega arith)
        by (Some said) g d = there said g (is_among universal wanted said.0) refl d

    conjunct_listed : (wanted : Bool) (e : Expr) (v : List ℕ) (value : Expr) → equation_of e ≡ Some (v, value) → is_among universal wanted v ≡ true → Contains (conjunct_rules universal wanted e) (v, variables_in value)
    conjunct_listed wanted e v value is allowed =
        subst (λ (o : Option (List ℕ × Expr)). Contains (equation_rules universal wanted o) (v, variables_in value)) (sym is)
        (subst (λ (b : Bool). Contains {X = BindingRule} (cond b ((v, variables_in value) ∷ []) []) (v, variables_in value)) (sym allowed) (0, omega arith, refl))

    when_binds : (e : Expr) → Contains (clause_conjuncts r.when) e → (rule : BindingRule) → Contains (conjunct_rules universal true e) rule → Binds rule
    when_binds e among rule c =
        let (said, is, allowed, same) = conjunct_said true e rule c in
        subst Binds same (λ all. IsBound.when said.0 said.1 (among_universal said.0 allowed) (record { conjunct = e; among = among; is = is }) all)

    where_binds : (e : Expr) → Contains (clause_conjuncts r.wheres) e → (rule : BindingRule) → Contains (conjunct_rules universal false e) rule → Binds rule
    where_binds e among rule c =
        let (said, is, allowed, same) = conjunct_said false e rule c in
        subst Binds same (λ all. IsBound.where_clause said.0 said.1 (among_existential said.0 allowed) (record { conjunct = e; among = among; is = is }) all)

    -- ---- primitive domains

    primitive_binds : (domain : DomainTree) → Contains r.domains domain → (rule : BindingRule) → Contains (primitive_rules r.top domain) rule → Binds rule
    primitive_binds (domains.Pattern mark model root template span) among rule (k, l, at) = absurd (omega arith)
    primitive_binds (domains.Primitive root ty span) among rule c =
        let (allowed, same) = bound_from (not r.top) root.text rule c in
        bare root.text rule same (IsBound.primitive root.text (domains.Primitive root ty span) (not-true r.top allowed) among refl refl)

    -- ---- all of them

    module _ (types : NamesWith Ty) where
      abbrev rules : List (ℕ × List ℕ)
      rules = binding_rules types universal target r

      abbrev items : List (ℕ × List ℕ)
      items = flat_map (λ (p : List ℕ × Piece). numbered types (item_rules universal target p)) (located r)

      abbrev whens : List (ℕ × List ℕ)
      whens = clause_rules types universal true r.when

      abbrev wheres : List (ℕ × List ℕ)
      wheres = clause_rules types universal false r.wheres

      abbrev primitives : List (ℕ × List ℕ)
      primitives = flat_map (λ (d : DomainTree). numbered types (primitive_rules r.top d)) r.domains

      -- a rule that binds, with its numbers
      pub record IsBinding (n : ℕ) (ns : List ℕ) : Type 0 where
        pub rule : BindingRule
        pub number : Contains (data_number types rule.0) n
        pub asks : flat_map (data_number types) rule.1 ≡ ns
        pub binds : Binds rule

      binding : (some : List BindingRule) (n : ℕ) (ns : List ℕ) → Contains (numbered types some) (n, ns) → ((rule : BindingRule) → Contains some rule → Binds rule) → IsBinding n ns
      binding some n ns c all = let h = numbered_from types some n ns c in record { rule = h.rule; number = h.number; asks = h.asks; binds = all h.rule h.among }

      pub rule_from : (n : ℕ) (ns : List ℕ) → Contains rules (n, ns) → IsBinding n ns
      rule_from n ns c = ⊎_elim
          (λ a. ⊎_elim
          (λ b. ⊎_elim
          (λ item. let (p, among, has) = from_flat_map (λ (p : List ℕ × Piece). numbered types (item_rules universal target p)) (located r) (n, ns) item in binding (item_rules universal target p) n ns has (item_binds p among))
          (λ when. let (e, among, has) = from_flat_map (λ (e : Expr). numbered types (conjunct_rules universal true e)) (clause_conjuncts r.when) (n, ns) when in binding (conjunct_rules universal true e) n ns has (when_binds e among))
          (Contains-append_cases items whens (n, ns) b))
          (λ given. let (e, among, has) = from_flat_map (λ (e : Expr). numbered types (conjunct_rules universal false e)) (clause_conjuncts r.wheres) (n, ns) given in binding (conjunct_rules universal false e) n ns has (where_binds e among))
          (Contains-append_cases (items ++ whens) wheres (n, ns) a))
          (λ d. let (domain, among, has) = from_flat_map (λ (d : DomainTree). numbered types (primitive_rules r.top d)) r.domains (n, ns) d in binding (primitive_rules r.top domain) n ns has (primitive_binds domain among))
          (Contains-append_cases (items ++ whens ++ wheres) primitives (n, ns) c)

      -- all numbers are those of variables with types
      pub rules_below : (rule : ℕ × List ℕ) → Contains rules rule → IsRuleBelow (length types) rule
      rules_below rule c =
          let h = rule_from rule.0 rule.1 c in (
            number_below types h.rule.0 rule.0 h.number,
            λ m d.
                let (w, among, has) = from_flat_map (data_number types) h.rule.1 m (subst (λ (ms : List ℕ). Contains ms m) (sym h.asks) d) in number_below types w m has,
          )

      in_items : (rule : ℕ × List ℕ) → Contains items rule → Contains rules rule
      in_items rule c = Contains-append_left (items ++ whens ++ wheres) primitives rule (Contains-append_left (items ++ whens) wheres rule (Contains-append_left items whens rule c))

      in_whens : (rule : ℕ × List ℕ) → Contains whens rule → Contains rules rule
      in_whens rule c = Contains-append_left (items ++ whens ++ wheres) primitives rule (Contains-append_left (items ++ whens) wheres rule (Contains-append_right items whens rule c))

      in_wheres : (rule : ℕ × List ℕ) → Contains wheres rule → Contains rules rule
      in_wheres rule c = Contains-append_left (items ++ whens ++ wheres) primitives rule (Contains-append_right (items ++ whens) wheres rule c)

      in_primitives : (rule : ℕ × List ℕ) → Contains primitives rule → Contains rules rule
      in_primitives rule c = Contains-append_right (items ++ whens ++ wheres) primitives rule c

      item_rule : (domain : DomainTree) (v model : List ℕ) → model_of domain ≡ Some model → IsItemAlone r domain v → is_among universal (not (same_name target model)) v ≡ true → (n : ℕ) → Contains (data_number types v) n → Contains rules (n, [])
      item_rule domain v model of alone allowed n number =
          let (among, has) = item_listed domain v model of alone allowed in
          in_items (n, []) (to_flat_map (λ (p : List ℕ × Piece). numbered types (item_rules universal target p)) (located r) (model, asks alone.at alone.value) (n, []) among
          (numbered_to types (item_rules universal target (model, asks alone.at alone.value)) v [] n has number))

      primitive_rule : (domain : DomainTree) → r.top ≡ false → Contains r.domains domain → model_of domain ≡ None → (n : ℕ) → Contains (data_number types (root_of domain)) n → Contains rules (n, [])
      primitive_rule (domains.Pattern mark model root template span) top among none n number = absurd (none-some model.text (sym none))
      primitive_rule (domains.Primitive root ty span) top among none n number =
          in_primitives (n, []) (to_flat_map (λ (d : DomainTree). numbered types (primitive_rules r.top d)) r.domains (domains.Primitive root ty span) (n, []) among
          (numbered_to types (primitive_rules r.top (domains.Primitive root ty span)) root.text [] n (bound_to (not r.top) root.text (not_from_false r.top top)) number))

      when_rule : (v : List ℕ) (e : Expr) → IsUniversal target r v → Says r.when v e → (n : ℕ) → Contains (data_number types v) n → Contains rules (n, flat_map (data_number types) (variables_in e))
      when_rule v e u says n number =
          in_whens (n, flat_map (data_number types) (variables_in e)) (to_flat_map (λ (c : Expr). numbered types (conjunct_rules universal true c)) (clause_conjuncts r.when) says.conjunct (n, flat_map (data_number types) (variables_in e)) says.among
          (numbered_to types (conjunct_rules universal true says.conjunct) v (variables_in e) n (conjunct_listed true says.conjunct v e says.is (universal_among v u)) number))

      where_rule : (v : List ℕ) (e : Expr) → ¬ IsUniversal target r v → Says r.wheres v e → (n : ℕ) → Contains (data_number types v) n → Contains rules (n, flat_map (data_number types) (variables_in e))
      where_rule v e u says n number =
          in_wheres (n, flat_map (data_number types) (variables_in e)) (to_flat_map (λ (c : Expr). numbered types (conjunct_rules universal false c)) (clause_conjuncts r.wheres) says.conjunct (n, flat_map (data_number types) (variables_in e)) says.among
          (numbered_to types (conjunct_rules universal false says.conjunct) v (variables_in e) n (conjunct_listed false says.conjunct v e says.is (existential_among v u)) number))

      module _ (from_data : (v : List ℕ) → Data v → is_data types v ≡ true) (to_data : (v : List ℕ) → is_data types v ≡ true → Data v) where
        bare_rule : (n : ℕ) → Contains rules (n, []) → IsDerivedNumber rules n
        bare_rule n c = IsDerivedNumber.by n [] c (λ w d. let (k, l, at) = d in absurd (omega arith))

        asking_rule : (n : ℕ) (names : List (List ℕ)) → Contains rules (n, flat_map (data_number types) names)
            → ((w : List ℕ) → Contains names w → Data w → (m : ℕ) → Contains (data_number types w) m → IsDerivedNumber rules m) → IsDerivedNumber rules n
        asking_rule n names c all = IsDerivedNumber.by n (flat_map (data_number types) names) c
            (λ m d. let (w, among, has) = from_flat_map (data_number types) names m d in all w among (to_data w (number_from types w m has).0) m has)

        item_number : (domain : DomainTree) (v : List ℕ) → IsUniversal target r v → model_of domain ≢ Some target → IsItemAlone r domain v → (n : ℕ) → Contains (data_number types v) n → IsDerivedNumber rules n
        item_number domain v u other alone n number =
            let (model, of) = has_model domain v alone in
            bare_rule n (item_rule domain v model of alone (by model of (same_name target model) refl) n number)
          where
            by : (model : List ℕ) → model_of domain ≡ Some model → (b : Bool) → same_name target model ≡ b → is_among universal (not b) v ≡ true
            by model of true e = absurd (other (of ∙ ap Some (sym (same_is target model e))))
            by model of false e = universal_among v u

        pub bound_derived : (v : List ℕ) → Bound v → (n : ℕ) → Contains (data_number types v) n → IsDerivedNumber rules n
        bound_derived _ (IsBound.source_item v domain u other alone) n number = item_number domain v u other alone n number
        bound_derived _ (IsBound.when v e u says all) n number = asking_rule n (variables_in e) (when_rule v e u says n number) (λ w among known m has. bound_derived w (all w among known) m has)
        bound_derived _ (IsBound.primitive v domain top among none is) n number =
            bare_rule n (primitive_rule domain top among none n (subst (λ (x : List ℕ). Contains (data_number types x) n) (sym is) number))
        bound_derived _ (IsBound.target_item v domain u of alone) n number =
            bare_rule n (item_rule domain v target of alone (ap (λ (b : Bool). is_among universal (not b) v) (is_same target target refl) ∙ existential_among v u) n number)
        bound_derived _ (IsBound.where_clause v e u says all) n number = asking_rule n (variables_in e) (where_rule v e u says n number) (λ w among known m has. bound_derived w (all w among known) m has)

        pub derived_bound : (n : ℕ) → IsDerivedNumber rules n → (v : List ℕ) → Contains (data_number types v) n → Bound v
        derived_bound _ (IsDerivedNumber.by n ns c all) v number =
            let h = rule_from n ns c in
            subst Bound (one_name types h.rule.0 v n h.number number)
            (h.binds (λ w among known. let (m, has) = number_to types w (from_data w known) in
            derived_bound m (all m (subst (λ (ms : List ℕ). Contains ms m) h.asks (to_flat_map (data_number types) h.rule.1 w m among has))) w has))
