-- The rules by which queries read the target give those that do.
use Rattle.std.proofs.Common.{Result, Ok, Err, Vec, Global, take, get_or, append_assoc, ◌≡◌, ◌<◌, ◌+◌, ℕ, zero, suc, List, [], ◌∷◌, ◌++◌, Bool, true, false, Option, None, Some, refl, sym, ap, ◌∙◌, subst, length, ⊎_elim, arith, if◌then◌else◌}
use Rattle.std.specs.Prelude.{Contains, ◌↔◌, IfOk, slice_get, nat_lt}
use Rattle.std.proofs.lemmas.Bool.{eqb-true, eq-eqb, ltb-true, lt-ltb}
use Rattle.std.proofs.lemmas.Option.{slice_get_within}
use Rattle.std.proofs.lemmas.List.{take_more, append-nil, length-take}
use Rattle.std.proofs.lemmas.List.Elements.{Contains-append_left, Contains-append_right, Contains-append_cases}
use Rattle.mof_metamodel.proofs.PropLemmas.{to_flat_map, from_flat_map}
use Rattle.qv_syntax.specs.declared.typed.Typed.{Typed}
use Rattle.qv_syntax.specs.declared.query.ModelSlot.{ModelSlot}
use Rattle.qv_syntax.specs.declared.query.Query.{Query}
use Rattle.qv_syntax.specs.declared.program.Program.{Program}
use Rattle.enforcement_rules.specs.declared.mention.Mention.{Mention}
use Rattle.enforcement_rules.specs.declared.mention.Mention.TheVariants as mentions
use Rattle.enforcement_rules.specs.Derivations.{NumberRule, IsDerivedNumber, IsRuleBelow}
use Rattle.enforcement_rules.specs.Expressions.{HasTargetExtent, ReadsTarget}
use Rattle.enforcement_rules.specs.KnownTests.{is_marked}
use Rattle.enforcement_rules.specs.Mentions.{mentions_in}
use Rattle.enforcement_rules.specs.ReaderTests.{AreReaders, has_meta, is_of_meta, mention_rules, query_rules, rules_from}
use Rattle.enforcement_rules.specs.TargetParts.{target_meta}
use Rattle.enforcement_rules.proofs.ListLaws.{first_in, nothing_in, only_in}
use Rattle.enforcement_rules.proofs.VariableLaws.{call_listed, listed_call, extent_listed, listed_extent}

-- ---- models of the target's metamodel

pub meta_there : (program : Program) (model : ℕ) → is_of_meta program (target_meta program) model ≡ true → (slot : ModelSlot) × (slice_get program.models model ≡ Some slot) × (slot.meta ≡ target_meta program)
meta_there program model h = by (slice_get program.models model) refl h
  where
    by : (o : Option ModelSlot) → slice_get program.models model ≡ o → has_meta (target_meta program) o ≡ true
        → (slot : ModelSlot) × (slice_get program.models model ≡ Some slot) × (slot.meta ≡ target_meta program)
    by None e g = absurd (cc)
    by (Some slot) e g = (slot, e, eqb-true slot.meta (target_meta program) g)

pub there_meta : (program : Program) (model : ℕ) (slot : ModelSlot) → slice_get program.models model ≡ Some slot → slot.meta ≡ target_meta program → is_of_meta program (target_meta program) model ≡ true
there_meta program model slot found is = ap (has_meta (target_meta program)) found ∙ eq-eqb slot.meta (target_meta program) is

pub extent_there : (program : Program) (e : Typed) (model : ℕ) → Contains (mentions_in e) (mentions.Extent model) → is_of_meta program (target_meta program) model ≡ true → HasTargetExtent program e
extent_there program e model among is =
    let x = listed_extent e model among in
    let m = meta_there program model is in
    record { ty = x.0; model = model; class = x.1; within = x.2; slot = m.0; found = m.1; target = m.2 }

module _ (program : Program) where
  abbrev meta : ℕ
  meta = target_meta program

  -- ---- the rules of a query

  module _ (q : ℕ) (query : Query) where
    pub by_extent : HasTargetExtent program query.body → Contains (query_rules program meta q query) (q, [])
    by_extent x =
        to_flat_map (mention_rules program meta q) (mentions_in query.body) (mentions.Extent x.model) (q, []) (extent_listed query.body x.model (x.ty, x.class, x.within))
        (subst (λ (b : Bool). Contains {X = NumberRule} (if b then (q, []) ∷ [] else []) (q, [])) (sym (there_meta program x.model x.slot x.found x.target)) (first_in {X = NumberRule} (q, []) (q, []) [] refl))

    pub by_call : (called : ℕ) → called < length program.queries → Contains (mentions_in query.body) (mentions.Query called) → Contains (query_rules program meta q query) (q, called ∷ [])
    by_call called below among =
        to_flat_map (mention_rules program meta q) (mentions_in query.body) (mentions.Query called) (q, called ∷ []) among
        (subst (λ (b : Bool). Contains {X = NumberRule} (if b then (q, called ∷ []) ∷ [] else []) (q, called ∷ [])) (sym (lt-ltb called (length program.queries) below)) (first_in {X = NumberRule} (q, called ∷ []) (q, called ∷ []) [] refl))

    module _ (P : ℕ → List ℕ → Type 0) (extent : HasTargetExtent program query.body → P q []) (call : (called : ℕ) → called < length program.queries → Contains (mentions_in query.body) (mentions.Query called) → P q (called ∷ [])) where
      of_extent : (model n : ℕ) (asked : List ℕ) (b : Bool) → is_of_meta program meta model ≡ b → Contains (mentions_in query.body) (mentions.Extent model)
          → Contains {X = NumberRule} (if b then (q, []) ∷ [] else []) (n, asked) → P n asked
      of_extent model n asked true is among h = subst (λ (r : NumberRule). P r.0 r.1) (only_in {X = NumberRule} (q, []) (n, asked) h) (extent (extent_there program query.body model among is))
      of_extent model n asked false is among h = absurd (nothing_in {X = NumberRule} (n, asked) h)

      of_call : (called n : ℕ) (asked : List ℕ) (b : Bool) → nat_lt called (length program.queries) ≡ b → Contains (mentions_in query.body) (mentions.Query called)
          → Contains {X = NumberRule} (if b then (q, called ∷ []) ∷ [] else []) (n, asked) → P n asked
      of_call called n asked true is among h = subst (λ (r : NumberRule). P r.0 r.1) (only_in {X = NumberRule} (q, called ∷ []) (n, asked) h) (call called (ltb-true called (length program.queries) is) among)
      of_call called n asked false is among h = absurd (nothing_in {X = NumberRule} (n, asked) h)

      of_mention : (m : Mention) (n : ℕ) (asked : List ℕ) → Contains (mentions_in query.body) m → Contains (mention_rules program meta q m) (n, asked) → P n asked
      of_mention (mentions.Variable v) n asked among h = absurd (nothing_in {X = NumberRule} (n, asked) h)
      of_mention (mentions.Query called) n asked among h = of_call called n asked (nat_lt called (length program.queries)) refl among h
      of_mention (mentions.Extent model) n asked among h = of_extent model n asked (is_of_meta program meta model) refl among h

      pub of_query : (n : ℕ) (asked : List ℕ) → Contains (query_rules program meta q query) (n, asked) → P n asked
      of_query n asked among =
          let m = from_flat_map (mention_rules program meta q) (mentions_in query.body) (n, asked) among in
          of_mention m.0 n asked m.1 m.2

  -- ---- the rules of all queries

  pub rules_there : (begin k : ℕ) (queries : List Query) (query : Query) (rule : NumberRule) → slice_get queries k ≡ Some query → Contains (query_rules program meta (begin + k) query) rule
      → Contains (rules_from program meta begin queries) rule
  rules_there begin k [] query rule found among = absurd (cc)
  rules_there begin zero (first ∷ queries) query rule found among =
      let here : begin + 0 ≡ begin = omega arith in
      let same : first ≡ query = cc in
      Contains-append_left (query_rules program meta begin first) (rules_from program meta (suc begin) queries) rule
      (subst (λ (n : ℕ). Contains (query_rules program meta n first) rule) here (subst (λ (x : Query). Contains (query_rules program meta (begin + 0) x) rule) (sym same) among))
  rules_there begin (suc k) (first ∷ queries) query rule found among =
      let next : begin + suc k ≡ suc begin + k = omega arith in
      Contains-append_right (query_rules program meta begin first) (rules_from program meta (suc begin) queries) rule
      (rules_there (suc begin) k queries query rule found (subst (λ (n : ℕ). Contains (query_rules program meta n query) rule) next among))

  -- a rule is one of a query, by its place
  pub rule_from : (begin : ℕ) (queries : List Query) (rule : NumberRule) → Contains (rules_from program meta begin queries) rule
      → (k : ℕ) × (query : Query) × (slice_get queries k ≡ Some query) × Contains (query_rules program meta (begin + k) query) rule
  rule_from begin [] rule among = absurd (nothing_in rule among)
  rule_from begin (first ∷ queries) rule among = ⊎_elim
      (λ (here : Contains (query_rules program meta begin first) rule).
      let same : begin ≡ begin + 0 = omega arith in
      (0, first, refl, subst (λ (n : ℕ). Contains (query_rules program meta n first) rule) same here))
      (λ (there : Contains (rules_from program meta (suc begin) queries) rule).
      let r = rule_from (suc begin) queries rule there in
      let next : suc begin + r.0 ≡ begin + suc r.0 = omega arith in
      (suc r.0, r.1, r.2, subst (λ (n : ℕ). Contains (query_rules program meta n r.1) rule) next r.3))
      (Contains-append_cases (query_rules program meta begin first) (rules_from program meta (suc begin) queries) rule among)

  -- ---- what is derived reads the target, and the reverse

  reads_within : (q : ℕ) → ReadsTarget program q → q < length program.queries
  reads_within q (ReadsTarget.extent _ query found x) = slice_get_within program.queries q query found
  reads_within q (ReadsTarget.through _ called c r) = slice_get_within program.queries q c.query c.found

  reads_derived : (q : ℕ) → ReadsTarget program q → IsDerivedNumber (rules_from program meta 0 program.queries) q
  reads_derived q (ReadsTarget.extent _ query found x) =
      IsDerivedNumber.by q [] (rules_there 0 q program.queries query (q, []) found (subst (λ (n : ℕ). Contains (query_rules program meta n query) (q, [])) (sym (zero_plus q)) (by_extent q query x)))
      (λ w none. absurd (nothing_in w none))
    where
      zero_plus : (n : ℕ) → 0 + n ≡ n
      zero_plus n = omega arith
  reads_derived q (ReadsTarget.through _ called c r) =
      IsDerivedNumber.by q (called ∷ [])
      (rules_there 0 q program.queries c.query (q, called ∷ []) c.found
      (subst (λ (n : ℕ). Contains (query_rules program meta n c.query) (q, called ∷ [])) (sym (zero_plus q)) (by_call q c.query called (reads_within called r) (call_listed c.query.body called c.calls))))
      (λ w among. subst (λ (n : ℕ). IsDerivedNumber (rules_from program meta 0 program.queries) n) (only_in called w among) (reads_derived called r))
    where
      zero_plus : (n : ℕ) → 0 + n ≡ n
      zero_plus n = omega arith

  by_rule : (n : ℕ) (asked : List ℕ) → Contains (rules_from program meta 0 program.queries) (n, asked) → ((w : ℕ) → Contains asked w → ReadsTarget program w) → ReadsTarget program n
  by_rule n asked among =
      let r = rule_from 0 program.queries (n, asked) among in
      let here : 0 + r.0 ≡ r.0 = omega arith in
      of_query r.0 r.1 (λ n asked. ((w : ℕ) → Contains asked w → ReadsTarget program w) → ReadsTarget program n)
      (λ x all. ReadsTarget.extent r.0 r.1 r.2 x)
      (λ called below c all. ReadsTarget.through r.0 called (record { query = r.1; found = r.2; calls = listed_call r.1.body called c }) (all called (first_in called called [] refl)))
      n asked (subst (λ (k : ℕ). Contains (query_rules program meta k r.1) (n, asked)) here r.3)

  derived_reads : (q : ℕ) → IsDerivedNumber (rules_from program meta 0 program.queries) q → ReadsTarget program q
  derived_reads q (IsDerivedNumber.by _ asked among all) = by_rule q asked among (λ w h. derived_reads w (all w h))

  pub rules_below : (rule : NumberRule) → Contains (rules_from program meta 0 program.queries) rule → IsRuleBelow (length program.queries) rule
  rules_below rule among =
      let r = rule_from 0 program.queries rule among in
      let within = slice_get_within program.queries r.0 r.1 r.2 in
      of_query (0 + r.0) r.1 (λ n asked. IsRuleBelow (length program.queries) (n, asked))
      (λ x. (omega (arith, within), λ w none. absurd (nothing_in w none)))
      (λ called below c. (omega (arith, within), λ w h. subst (λ (n : ℕ). n < length program.queries) (only_in called w h) below))
      rule.0 rule.1 r.3

  pub readers_told : (readers : List Bool) → ((q : ℕ) → (is_marked readers q ≡ true) ↔ IsDerivedNumber (rules_from program meta 0 program.queries) q) → AreReaders program readers
  readers_told readers exact = λ q. (λ h. derived_reads q ((exact q).0 h), λ r. (exact q).1 (reads_derived q r))

  pub below_told : (rules : List NumberRule) (count : ℕ) (m : ℕ) → rules ≡ rules_from program m 0 program.queries → m ≡ meta → count ≡ length program.queries → (rule : NumberRule) → Contains rules rule → IsRuleBelow count rule
  below_told rules count m is same long rule among =
      subst (λ (n : ℕ). IsRuleBelow n rule) (sym long)
      (rules_below rule (subst (λ (rs : List NumberRule). Contains rs rule) (is ∙ ap (λ (k : ℕ). rules_from program k 0 program.queries) same) among))

  pub found_told : {E : Type 0} (rules : List NumberRule) (m : ℕ) → rules ≡ rules_from program m 0 program.queries → m ≡ meta → (r : Result (Vec Bool Global) E)
      → IfOk r (λ readers. (q : ℕ) → (is_marked readers.items q ≡ true) ↔ IsDerivedNumber rules q) → IfOk r (λ readers. AreReaders program readers.items)
  found_told rules m is same (Ok readers) h = readers_told readers.items
      (λ q. subst (λ (rs : List NumberRule). (is_marked readers.items q ≡ true) ↔ IsDerivedNumber rs q) (is ∙ ap (λ (k : ℕ). rules_from program k 0 program.queries) same) (h q))
  found_told rules m is same (Err e) h = tt

-- ---- the rules of one query more

rules_append : (program : Program) (meta begin : ℕ) (xs ys : List Query) → rules_from program meta begin (xs ++ ys) ≡ rules_from program meta begin xs ++ rules_from program meta (begin + length xs) ys
rules_append program meta begin [] ys = let here : begin ≡ begin + 0 = omega arith in ap (λ (n : ℕ). rules_from program meta n ys) here
rules_append program meta begin (x ∷ xs) ys =
    let next : suc begin + length xs ≡ begin + suc (length xs) = omega arith in
    ap (λ rs. query_rules program meta begin x ++ rs) (rules_append program meta (suc begin) xs ys)
    ∙ sym (append_assoc (query_rules program meta begin x) (rules_from program meta (suc begin) xs) (rules_from program meta (suc begin + length xs) ys))
    ∙ ap (λ (n : ℕ). (query_rules program meta begin x ++ rules_from program meta (suc begin) xs) ++ rules_from program meta n ys) next

pub rules_more : (program : Program) (meta : ℕ) (queries : List Query) (i q : ℕ) (x : Query) (first before after : List NumberRule) → i < length queries → x ≡ get_or queries i x → q ≡ i
    → before ≡ first ++ rules_from program meta 0 (take i queries) → after ≡ before ++ query_rules program meta q x → after ≡ first ++ rules_from program meta 0 (take (i + 1) queries)
rules_more program meta queries i q x first before after within is same so_far more =
    let long : 0 + length (take i queries) ≡ q = omega (arith, within, same, length-take i queries) in
    let one : rules_from program meta q (x ∷ []) ≡ query_rules program meta q x = append-nil (query_rules program meta q x) in
    let step : rules_from program meta 0 (take (i + 1) queries) ≡ rules_from program meta 0 (take i queries) ++ query_rules program meta q x =
    ap (rules_from program meta 0) (take_more queries i x within ∙ ap (λ (y : Query). take i queries ++ y ∷ []) (sym is))
    ∙ rules_append program meta 0 (take i queries) (x ∷ [])
    ∙ ap (λ (n : ℕ). rules_from program meta 0 (take i queries) ++ rules_from program meta n (x ∷ [])) long
    ∙ ap (λ rs. rules_from program meta 0 (take i queries) ++ rs) one in
    more ∙ ap (λ rs. rs ++ query_rules program meta q x) so_far ∙ append_assoc first (rules_from program meta 0 (take i queries)) (query_rules program meta q x) ∙ ap (λ rs. first ++ rs) (sym step)
