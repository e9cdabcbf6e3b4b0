-- Class orders found class by class: a class is ready once its superclasses have orders, and then its own is found.
use Rattle.std.proofs.Common.{◌≡◌, ℕ, zero, suc, ◌+◌, ◌-◌, ◌<◌, ◌≤◌, List, [], ◌∷◌, ◌++◌, Bool, true, false, cond, refl, sym, ◌∙◌, ap, subst, arith, length, get_or, set, map, inl, inr, true≢false}
use Rattle.std.specs.Prelude.{Option, Some, None, IsSome, ◌≢◌, nat_eq, AllPairs}
use Rattle.std.specs.List.{list_any}
use Rattle.std.specs.Option.{option_map, is_some}
use Rattle.std.proofs.lemmas.Bool.{cases_lt, cases_eq}
use Rattle.std.proofs.lemmas.List.{append-nil, append_assoc, get_or-set_same, get_or-set_other, length-set, length-append, get_or_default, get_or_append_left, get_or_past}
use Rattle.std.proofs.lemmas.List.Elements.{Contains-get_or}
use Rattle.std.proofs.lemmas.List.FromFn.{fill_by_all, get_or-map-range_with_len}
use Rattle.std.proofs.lemmas.Map.Steps.{length-le_from_distinct_below}
use Rattle.mof_metamodel.specs.declared.desc.MetaDesc.{MetaDesc}
use Rattle.mof_metamodel.specs.Metamodels.{class_count, supers_of, with_item, all_united, lineage_within}
use Rattle.mof_metamodel.specs.Tables.{line_at, table, AreLines, AreMarks, new_line, HaveLines, IsQueue, IsFinding, IsSettled, Waits, Begins, AreSubclasses}
use Rattle.mof_metamodel.proofs.LineageLemmas.{Has, Has-from_Contains, Contains-from_Has, Has-append_left, with_item-cases, all_united-missing, all_united-none, all_united-agree, lineage_more, lineage_upto, supers_within}
use Rattle.mof_metamodel.proofs.TableLemmas.{entry_count}
use Rattle.mof_metamodel.proofs.DistinctLemmas.{once_nil}
use Rattle.mof_metamodel.proofs.OnceLemmas.{united-once}
use Rattle.mof_metamodel.proofs.WalkLemmas.{distinct_from_once}

-- ---- lists that begin with others

pub begins_same : (xs : List ℕ) → Begins xs xs
begins_same xs = ([], sym (append-nil xs))

pub begins_through : (xs ys zs : List ℕ) → Begins xs ys → Begins ys zs → Begins xs zs
begins_through xs ys zs a b = (a.0 ++ b.0, b.1 ∙ ap (λ ws. ws ++ b.0) a.1 ∙ append_assoc xs a.0 b.0)

pub begins_with_item : (xs : List ℕ) (x : ℕ) → Begins xs (with_item xs x)
begins_with_item xs x = by (list_any (nat_eq x) xs)
  where
    by : (b : Bool) → Begins xs (cond b xs (xs ++ x ∷ []))
    by true = begins_same xs
    by false = (x ∷ [], refl)

begins_has : (xs ys : List ℕ) (q : ℕ) → Begins xs ys → Has xs q → Has ys q
begins_has xs ys q b h = subst (λ zs. Has zs q) (sym b.1) (Has-append_left xs b.0 q h)

begins_at : (xs ys : List ℕ) (i : ℕ) → Begins xs ys → i < length xs → get_or ys i 0 ≡ get_or xs i 0
begins_at xs ys i b l = ap (λ zs. get_or zs i 0) b.1 ∙ get_or_append_left xs b.0 0 i l

begins_longer : (xs ys : List ℕ) → Begins xs ys → length xs ≤ length ys
begins_longer xs ys b = let e = ap length b.1 in let n = length-append xs b.0 in omega (arith, e, n)

-- where a number of a list stands
pub index_of : (xs : List ℕ) (q : ℕ) → Has xs q → (i : ℕ) × (i < length xs) × (get_or xs i 0 ≡ q)
index_of xs q h = let at = Contains-from_Has xs q h in (at.0, at.1, get_or_default xs at.0 0 q at.1 ∙ at.2)

pub has_at : (xs : List ℕ) (i : ℕ) → i < length xs → Has xs (get_or xs i 0)
has_at xs i l = Has-from_Contains xs (get_or xs i 0) (Contains-get_or xs i 0 l)

module _ (desc : MetaDesc) (orders : List (Option (List ℕ))) where
  -- ---- a class is looked at

  all_have : (cs : List ℕ) (n : ℕ) → HaveLines orders cs n → length cs ≤ n → (s : ℕ) → Has cs s → IsSome (line_at orders s)
  all_have cs n have long s h =
      let at = index_of cs s h in
      let P : ℕ → Type 0 = λ z. IsSome (line_at orders z) in
      subst P at.2 (have at.0 (let l = at.1 in omega (arith, l, long)) at.1)

  -- so many of its superclasses have orders
  pub known_put : (known ready : List ℕ) (marks : List Bool) (c n : ℕ) → IsQueue desc orders known ready marks → c < class_count desc → HaveLines orders (supers_of desc c) n → IsQueue desc orders (set known c n) ready marks
  known_put known ready marks c n queue l have = record {
    orders_count = queue.orders_count;
    known_count = length-set known c n ∙ queue.known_count;
    marks_count = queue.marks_count;
    known_are = λ d m i a b. elim (cases_eq d c) [
      | inl same ↦ (
          let at : get_or (set known c n) d 0 ≡ n = ap (λ k. get_or (set known c n) k 0) same ∙ get_or-set_same known c n 0 (let e = queue.known_count in omega (arith, e, l)) in
          let P : ℕ → Type 0 = λ z. HaveLines orders (supers_of desc z) n in
          subst P (sym same) have i (omega (arith, at, a)) b)
      | inr ne ↦ (let at : get_or (set known c n) d 0 ≡ get_or known d 0 = get_or-set_other known c d n 0 ne in queue.known_are d m i (omega (arith, at, a)) b)
    ];
    once = queue.once;
    below = queue.below;
    supers_have = queue.supers_have;
    marked = queue.marked;
  }

  -- all of them have, and the class is ready
  pub ready_more : (known ready : List ℕ) (marks marks' : List Bool) (c n : ℕ) → IsQueue desc orders known ready marks → c < class_count desc → HaveLines orders (supers_of desc c) n → length (supers_of desc c) ≤ n
      → length marks' ≡ class_count desc → AreMarks marks' (with_item ready c) → IsQueue desc orders (set known c n) (with_item ready c) marks'
  ready_more known ready marks marks' c n queue l have long count marked =
      let put = known_put known ready marks c n queue l have in
      record {
        orders_count = put.orders_count;
        known_count = put.known_count;
        marks_count = count;
        known_are = put.known_are;
        once = united-once ready (c ∷ []) queue.once;
        below = λ q h. elim (with_item-cases ready c q h) [ inl e ↦ queue.below q e | inr same ↦ omega (arith, same, l) ];
        supers_have = λ d s h k. elim (with_item-cases ready c d h) [
          | inl e ↦ queue.supers_have d s e k
          | inr same ↦ all_have (supers_of desc c) n have long s (let P : ℕ → Type 0 = λ z. Has (supers_of desc z) s in subst P same k)
        ];
        marked = marked;
      }

  -- or one of them has none, and the class waits
  pub waits_at : (ready : List ℕ) (c n : ℕ) → n < length (supers_of desc c) → line_at orders (get_or (supers_of desc c) n 0) ≡ None → IsSettled desc orders ready c
  waits_at ready c n l none = inr (get_or (supers_of desc c) n 0, has_at (supers_of desc c) n l, none)

  pub settled_more : (ready ready' : List ℕ) (c : ℕ) → Begins ready ready' → IsSettled desc orders ready c → IsSettled desc orders ready' c
  settled_more ready ready' c b h = elim h [ inl k ↦ inl (begins_has ready ready' c b k) | inr w ↦ inr w ]

  -- ---- the end

  module _ (known ready : List ℕ) (marks : List Bool) (next : ℕ) (queue : IsQueue desc orders known ready marks) (finding : IsFinding desc orders next ready) where
    pub ready_short : length ready ≤ class_count desc
    ready_short = length-le_from_distinct_below ready (class_count desc) (distinct_from_once ready queue.once) (λ q h. queue.below q h)

    module _ (end : length ready ≤ next) where
      waits : (c : ℕ) → c < class_count desc → line_at orders c ≡ None → Waits desc orders c
      waits c l none = elim (finding.settled c l) [
        | inr w ↦ w
        | inl h ↦ absurd (
            let at = index_of ready c h in
            let P : ℕ → Type 0 = λ z. IsSome (line_at orders z) in
            let some : is_some (line_at orders c) ≡ true = subst P at.2 (finding.done at.0 (let m = at.1 in omega (arith, m, end)) at.1) in
            true≢false (sym some ∙ ap is_some none))
      ]

      -- a class without an order waits for one that has none either
      none_left : (n c : ℕ) → c < class_count desc → line_at orders c ≡ None → lineage_within desc n c ≡ None
      none_left zero c l none = refl
      none_left (suc n) c l none =
          let w = waits c l none in
          ap (option_map (λ cs. with_item cs c)) (all_united-none (lineage_within desc n) [] (supers_of desc c) w.0 w.1 (none_left n w.0 (supers_within desc c w.0 w.1) w.2))

      pub lines_found : AreLines desc (class_count desc) orders
      lines_found = fill_by_all (lineage_within desc (class_count desc)) orders (class_count desc) None queue.orders_count (λ c l. by c l (line_at orders c) refl)
        where
          by : (c : ℕ) → c < class_count desc → (o : Option (List ℕ)) → line_at orders c ≡ o → line_at orders c ≡ lineage_within desc (class_count desc) c
          by c l None e = e ∙ sym (none_left (class_count desc) c l e)
          by c l (Some r) e =
              let short = ready_short in
              let within = finding.within in
              let steps : (class_count desc - next) + next ≡ class_count desc = omega (arith, short, within) in
              e ∙ sym (lineage_upto desc (class_count desc - next) next c r (finding.found c r e)) ∙ ap (λ n. lineage_within desc n c) steps

    -- ---- the order of one class more

    module _ (x : ℕ) (o : Option (List ℕ)) (at : get_or ready next 0 ≡ x) (l : next < length ready) (is : o ≡ new_line desc orders x) where
      there : Has ready x
      there = let P : ℕ → Type 0 = λ z. Has ready z in subst P at (has_at ready next l)

      short : x < length orders
      short = let b = queue.below x there in let e = queue.orders_count in omega (arith, b, e)

      made : (r : List ℕ) × (o ≡ Some r) × (lineage_within desc (suc next) x ≡ Some r)
      made = by (all_united [] (map (line_at orders) (supers_of desc x))) refl
        where
          by : (u : Option (List ℕ)) → all_united [] (map (line_at orders) (supers_of desc x)) ≡ u → (r : List ℕ) × (o ≡ Some r) × (lineage_within desc (suc next) x ≡ Some r)
          by None e = absurd (
              let m = all_united-missing (line_at orders) [] (supers_of desc x) e in
              let some : is_some (line_at orders m.0) ≡ true = queue.supers_have x m.0 there m.1 in
              true≢false (sym some ∙ ap is_some m.2))
          by (Some cs) e = (
            with_item cs x,
            is ∙ ap (option_map (λ ys. with_item ys x)) e,
            ap (option_map (λ ys. with_item ys x)) (all_united-agree (line_at orders) (lineage_within desc next) finding.found [] (supers_of desc x) cs e),
          )

      here : line_at (set orders x o) x ≡ Some made.0
      here = get_or-set_same orders x o None short ∙ made.1

      kept : (c : ℕ) → IsSome (line_at orders c) → IsSome (line_at (set orders x o) c)
      kept c h = elim (cases_eq c x) [
        | inl same ↦ ap (λ z. is_some (line_at (set orders x o) z)) same ∙ ap is_some here
        | inr ne ↦ ap is_some (get_or-set_other orders x c o None ne) ∙ h
      ]

      pub queue_put : IsQueue desc (set orders x o) known ready marks
      queue_put = record {
        orders_count = length-set orders x o ∙ queue.orders_count;
        known_count = queue.known_count;
        marks_count = queue.marks_count;
        known_are = λ c m i a b. kept (get_or (supers_of desc c) i 0) (queue.known_are c m i a b);
        once = queue.once;
        below = queue.below;
        supers_have = λ c s h k. kept s (queue.supers_have c s h k);
        marked = queue.marked;
      }

      pub finding_more : (lists : List (List ℕ)) (row ready' : List ℕ) → AreSubclasses desc (class_count desc) lists → row ≡ get_or lists x [] → Begins ready ready'
          → ((i : ℕ) → i < length row → IsSettled desc (set orders x o) ready' (get_or row i 0)) → IsFinding desc (set orders x o) (next + 1) ready'
      finding_more lists row ready' subs same_row grown looked = record {
        within = let n = begins_longer ready ready' grown in omega (arith, n, l);
        found = λ c r e. (let one : next + 1 ≡ suc next = omega arith in ap (λ n. lineage_within desc n c) one) ∙ elim (cases_eq c x) [
          | inl same ↦ ap (lineage_within desc (suc next)) same ∙ made.2 ∙ sym (ap (line_at (set orders x o)) same ∙ here) ∙ e
          | inr ne ↦ lineage_more desc next c r (finding.found c r (sym (get_or-set_other orders x c o None ne) ∙ e))
        ];
        done = λ i a b. (
            let m : i < length ready = omega (arith, a, l) in
            let P : ℕ → Type 0 = λ z. IsSome (line_at (set orders x o) z) in
            subst P (sym (begins_at ready ready' i grown m)) (elim (cases_lt i next) [
              | inl before ↦ kept (get_or ready i 0) (finding.done i before m)
              | inr past ↦ (let same : next ≡ i = omega (arith, a, past) in subst P (sym at ∙ ap (λ k. get_or ready k 0) same) (ap is_some here))
            ]));
        settled = λ c m. elim (finding.settled c m) [
          | inl h ↦ inl (begins_has ready ready' c grown h)
          | inr w ↦ elim (cases_eq w.0 x) [
            | inl same ↦ (
                let Q : ℕ → Type 0 = λ z. Has (supers_of desc c) z in
                let listed : Has row c = subst (λ xs. Has xs c) (sym same_row) (subs.listed c x m (subst Q same w.1)) in
                let k = index_of row c listed in
                let P : ℕ → Type 0 = λ z. IsSettled desc (set orders x o) ready' z in
                subst P k.2 (looked k.0 k.1))
            | inr ne ↦ inr (w.0, w.1, get_or-set_other orders x w.0 o None ne ∙ w.2)
          ]
        ];
      }

module _ (desc : MetaDesc) (orders : List (Option (List ℕ))) (none : orders ≡ table (λ _. None) (class_count desc)) where
  -- ---- the beginning

  no_order : (c : ℕ) (r : List ℕ) → line_at orders c ≡ Some r → ⊥
  no_order c r e = elim (cases_lt c (class_count desc)) [
    | inl l ↦ (let is : line_at orders c ≡ None = ap (λ xs. get_or xs c None) none ∙ get_or-map-range_with_len (λ _. None) 0 (class_count desc) c c None l (omega arith) in cc)
    | inr past ↦ (let is : line_at orders c ≡ None = get_or_past orders c None (let n = entry_count orders (λ _. None) (class_count desc) none in omega (arith, n, past)) in cc)
  ]

  -- no class is ready, and of none a superclass is known to have an order
  pub queue_none : (known ready : List ℕ) (marks : List Bool) → length known ≡ class_count desc → ((c : ℕ) → c < class_count desc → get_or known c 0 ≡ 0) → ready ≡ [] → length marks ≡ class_count desc → AreMarks marks []
      → IsQueue desc orders known ready marks
  queue_none known ready marks known_count zeros empty marks_count marked = record {
    orders_count = entry_count orders (λ _. None) (class_count desc) none;
    known_count = known_count;
    marks_count = marks_count;
    known_are = λ c l i a b. absurd (let z = zeros c l in omega (arith, a, z));
    once = subst (λ xs. AllPairs (λ x y. x ≢ y) xs) (sym empty) once_nil;
    below = λ q h. absurd (nothing q h);
    supers_have = λ c s h k. absurd (nothing c h);
    marked = subst (λ xs. AreMarks marks xs) (sym empty) marked;
  }
    where
      nothing : (q : ℕ) → Has ready q → ⊥
      nothing q h = let no : Has [] q = subst (λ xs. Has xs q) empty h in cc

  pub finding_none : (ready : List ℕ) → ((c : ℕ) → c < class_count desc → IsSettled desc orders ready c) → IsFinding desc orders 0 ready
  finding_none ready settled = record {
    within = omega arith;
    found = λ c r e. absurd (no_order c r e);
    done = λ i a b. absurd (omega (arith, a));
    settled = settled;
  }
