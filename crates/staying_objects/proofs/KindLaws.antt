-- Marks of the classes that are some classes or inherit from them.
use Rattle.std.proofs.Common.{◌≡◌, ℕ, ◌+◌, ◌<◌, ◌≤◌, List, [], ◌∷◌, ◌++◌, Bool, true, false, refl, sym, ap, ◌∙◌, subst, arith, length, get_or, set, take, inl, inr, true≢false}
use Rattle.std.specs.Prelude.{◌||◌}
use Rattle.std.proofs.lemmas.Bool.{cases_eq, cases_lt, or_right}
use Rattle.std.proofs.lemmas.List.{get_or-set_same, get_or-set_other, length-set, get_or_past, map_more}
use Rattle.std.proofs.lemmas.List.Folds.{list_any-append}
use Rattle.std.proofs.lemmas.List.FromFn.{length-map-range_with_len}
use Rattle.mof_metamodel.specs.declared.desc.ClassId.{ClassId}
use Rattle.mof_metamodel.specs.declared.desc.MetaDesc.{MetaDesc}
use Rattle.mof_metamodel.specs.Metamodels.{class_count, lineage_of, Conforms}
use Rattle.mof_metamodel.specs.Tables.{table, class_numbers}
use Rattle.mof_metamodel.proofs.Facts.{or_false}
use Rattle.mof_metamodel.proofs.LineageLemmas.{Has-from_Contains, Contains-from_Has}
use Rattle.mof_metamodel.proofs.ReachLemmas.{conforms_through, lineage_exactly}
use Rattle.qvtr_semantics.specs.Objects.{is_kind_of}
use Rattle.ocl_eval.proofs.ClassLaws.{among_from, among_to}
use Rattle.template_match.proofs.ListLaws.{any_from, any_at}
use Rattle.template_match.specs.Marks.{is_marked}
use Rattle.staying_objects.specs.Kinds.{is_kind_of_any, AreKinds, AddsKinds}
use Rattle.template_match.proofs.MarkLaws.{is_marked-table}

-- ---- a class and those that inherit from it

-- they are marked as far as the classes before this one go
pub record AddsBefore (meta : MetaDesc) (class : ℕ) (old new : List Bool) (i : ℕ) : Type 0 where
  pub count : length new ≡ class_count meta
  pub below : (c : ℕ) → c < i → is_marked new c ≡ (is_marked old c || is_kind_of meta c class)
  pub rest : (c : ℕ) → i ≤ c → is_marked new c ≡ is_marked old c

pub adds-none : (meta : MetaDesc) (class : ℕ) (old : List Bool) → length old ≡ class_count meta → AddsBefore meta class old old 0
adds-none meta class old count = record { count = count; below = λ c l. absurd (omega (arith, l)); rest = λ c le. refl }

pub adds-yes : (meta : MetaDesc) (class : ℕ) (old new : List Bool) (i : ℕ) → AddsBefore meta class old new i → i < class_count meta
    → is_kind_of meta i class ≡ true
    → AddsBefore meta class old (set new i true) (i + 1)
adds-yes meta class old new i before within is =
    let count = before.count in
    let inside : i < length new = omega (arith, within, count) in
    record {
      count = length-set new i true ∙ before.count;
      below = λ c l. elim (cases_eq c i) [
        | inl e ↦
            ap (λ k. is_marked (set new i true) k) e ∙ get_or-set_same new i true false inside
            ∙ sym (or_right (is_marked old c) (is_kind_of meta c class) (ap (λ k. is_kind_of meta k class) e ∙ is))
        | inr ne ↦ get_or-set_other new i c true false ne ∙ before.below c (omega (arith, l, ne))
      ];
      rest = λ c le. get_or-set_other new i c true false (λ e. omega (arith, le, e)) ∙ before.rest c (omega (arith, le));
    }

pub adds-no : (meta : MetaDesc) (class : ℕ) (old new : List Bool) (i : ℕ) → AddsBefore meta class old new i → is_kind_of meta i class ≡ false
    → AddsBefore meta class old new (i + 1)
adds-no meta class old new i before is = record {
  count = before.count;
  below = λ c l. elim (cases_lt c i) [
    | inl l' ↦ before.below c l'
    | inr le ↦ (
        let e : c ≡ i = omega (arith, l, le) in
        before.rest c le ∙ sym (ap (λ b. is_marked old c || b) (ap (λ k. is_kind_of meta k class) e ∙ is) ∙ or_false (is_marked old c)))
  ];
  rest = λ c le. before.rest c (omega (arith, le));
}

pub adds-all : (meta : MetaDesc) (class : ℕ) (old new : List Bool) (i : ℕ) → AddsBefore meta class old new i → i ≡ class_count meta
    → AddsKinds meta class old new
adds-all meta class old new i before all = λ c l. before.below c (omega (arith, l, all))

-- ---- several classes

-- no class is one of none
pub kinds-none : (meta : MetaDesc) (marks : List Bool) (n : ℕ) → marks ≡ table (λ k. false) n → n ≡ class_count meta → AreKinds meta [] marks
kinds-none meta marks n none all = record {
  count = ap length none ∙ length-map-range_with_len (λ k. false) 0 n ∙ all;
  each = λ c l. ap (λ ms. is_marked ms c) none ∙ is_marked-table (λ k. false) n c (omega (arith, l, all));
}

any_push : (meta : MetaDesc) (classes : List ℕ) (class c : ℕ)
    → is_kind_of_any meta (classes ++ class ∷ []) c ≡ (is_kind_of_any meta classes c || is_kind_of meta c class)
any_push meta classes class c =
    list_any-append (is_kind_of meta c) classes (class ∷ []) ∙ ap (λ b. is_kind_of_any meta classes c || b) (or_false (is_kind_of meta c class))

-- one class more
pub kinds-more : (meta : MetaDesc) (classes : List ℕ) (class : ℕ) (old new : List Bool) → AreKinds meta classes old → length new ≡ length old
    → AddsKinds meta class old new
    → AreKinds meta (classes ++ class ∷ []) new
kinds-more meta classes class old new are long adds = record {
  count = long ∙ are.count;
  each = λ c l. adds c l ∙ ap (λ b. b || is_kind_of meta c class) (are.each c l) ∙ sym (any_push meta classes class c);
}

-- what inherits from a class inherits from those that this one inherits from
kind_through : (meta : MetaDesc) (b c d : ℕ) → b < class_count meta → c < class_count meta → is_kind_of meta b c ≡ true → is_kind_of meta c d ≡ true
    → is_kind_of meta b d ≡ true
kind_through meta b c d within within' h k =
    let upper : Conforms meta b c =
    (lineage_exactly meta b c within).0 (Has-from_Contains (lineage_of meta b) c (among_to c (lineage_of meta b) h)) in
    let lower : Conforms meta c d =
    (lineage_exactly meta c d within').0 (Has-from_Contains (lineage_of meta c) d (among_to d (lineage_of meta c) k)) in
    among_from d (lineage_of meta b)
    (Contains-from_Has (lineage_of meta b) d ((lineage_exactly meta b d within).1 (conforms_through meta b c d upper lower)))

-- a class that is marked brings nothing new
pub kinds-same : (meta : MetaDesc) (classes : List ℕ) (class : ℕ) (marks : List Bool) → AreKinds meta classes marks → is_marked marks class ≡ true
    → AreKinds meta (classes ++ class ∷ []) marks
kinds-same meta classes class marks are marked = record {
  count = are.count;
  each = λ c l. are.each c l ∙ by c l (is_kind_of meta c class) refl ∙ sym (any_push meta classes class c);
}
  where
    within : class < class_count meta
    within = elim (cases_lt class (class_count meta)) [
      | inl l ↦ l
      | inr le ↦ (let count = are.count in absurd (true≢false (sym marked ∙ get_or_past marks class false (omega (arith, le, count)))))
    ]

    by : (c : ℕ) → c < class_count meta → (b : Bool) → is_kind_of meta c class ≡ b
        → is_kind_of_any meta classes c ≡ (is_kind_of_any meta classes c || is_kind_of meta c class)
    by c l false is = sym (ap (λ t. is_kind_of_any meta classes c || t) is ∙ or_false (is_kind_of_any meta classes c))
    by c l true is =
        let (d, has, kind) = any_from (is_kind_of meta class) classes (sym (are.each class within) ∙ marked) in
        any_at (is_kind_of meta c) classes d (kind_through meta c class d l within is kind) has
        ∙ sym (or_right (is_kind_of_any meta classes c) (is_kind_of meta c class) is)

-- the classes of a list up to one of them
pub kinds_upto : (meta : MetaDesc) (classes : List ClassId) (i : ℕ) (d : ClassId) (marks : List Bool) → i < length classes
    → AreKinds meta (class_numbers (take i classes) ++ (get_or classes i d).0 ∷ []) marks → AreKinds meta (class_numbers (take (i + 1) classes)) marks
kinds_upto meta classes i d marks l are = subst (λ cs. AreKinds meta cs marks) (sym (map_more (λ c. c.0) classes i d l)) are
