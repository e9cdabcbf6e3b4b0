-- The calls in the where clause of an entry, and the argument from which a root of the called relation has its value: the last one for it.
use Rattle.std.specs.Prelude.{◌≡◌, ◌≢◌, ◌<◌, ℕ, zero, suc, Bool, true, false, ◌==◌, List, [], ◌∷◌, map, length, Option, None, Some, slice_get, slice_set, Contains, if◌then◌else◌}
use Rattle.std.specs.List.{filter_map}
use Rattle.std.specs.Option.{option_map, option_map_or, option_and_then}
use Rattle.std.proofs.Common.{refl, sym, ap, subst, ◌∙◌, arith, inl, inr}
use Rattle.std.proofs.lemmas.Bool.{true≢false, eqb-true, eq-eqb}
use Rattle.object_tables.specs.Models.{ModelData}
use Rattle.qv_syntax.specs.declared.typed.Typed.{Typed}
use Rattle.qv_syntax.specs.declared.program.Program.{Program}
use Rattle.qv_syntax.specs.declared.program.Rel.{Rel}
use Rattle.qv_syntax.specs.declared.program.Dom.{Dom}
use Rattle.qv_syntax.specs.declared.program.Conj.{Conj}
use Rattle.qv_syntax.specs.declared.program.Conj.TheVariants as conjuncts
use Rattle.qvtr_semantics.specs.Outs.{all_given}
use Rattle.template_match.proofs.ListLaws.{contains_later}
use Rattle.mof_metamodel.proofs.Facts.{contains_first}
use Rattle.repair_semantics.specs.declared.term.TermValue.{TermValue}
use Rattle.repair_semantics.specs.declared.entry.Entry.{Entry}
use Rattle.repair_semantics.specs.declared.entry.EntryName.{EntryName}
use Rattle.repair_semantics.specs.EntryValues.{TermValues, Known, value_of, with_roots, given_value}
use Rattle.repair_semantics.specs.Making.{entry_known}
use Rattle.repair_semantics.specs.Unmet.{is_unmet}
use Rattle.repair_semantics.specs.Entries.{bound_roots, call_to, named_call, calls_in, calls_where, entry_calls}
use Rattle.reading_laws.proofs.CallRoots.{put_both, put_long, put_there}
use Rattle.reading_laws.proofs.MeetingValues.{nothing_some, within_terms}
use Rattle.std.proofs.lemmas.Option.{same_Some}

-- ---- roots

-- the value is that of the last argument for the root
pub record IsPut (doms : List Dom) (xs : List TermValue) (v : ℕ) (x : TermValue) : Type 0 where
  pub place : ℕ
  pub dom : Dom
  pub at : slice_get doms place ≡ Some dom
  pub root : dom.root ≡ v
  pub given : slice_get xs place ≡ Some x
  pub last : (later : ℕ) (other : Dom) (y : TermValue) → place < later → slice_get doms later ≡ Some other → slice_get xs later ≡ Some y → other.root ≢ v

abbrev IsNoRoot : List Dom → List TermValue → ℕ → Type 0
IsNoRoot doms xs v = (later : ℕ) (other : Dom) (y : TermValue) → slice_get doms later ≡ Some other → slice_get xs later ≡ Some y → other.root ≢ v

pub data Comes (b : TermValues) (doms : List Dom) (xs : List TermValue) (v : ℕ) (x : TermValue) : Type 0 where
  put : IsPut doms xs v x → Comes b doms xs v x
  kept : value_of b v ≡ Some x → IsNoRoot doms xs v → Comes b doms xs v x

first_put : (dom : Dom) (doms : List Dom) (z : TermValue) (zs : List TermValue) (v : ℕ) (x : TermValue) → dom.root ≡ v → z ≡ x → IsNoRoot doms zs v → IsPut (dom ∷ doms) (z ∷ zs) v x
first_put dom doms z zs v x root same none = record { place = 0; dom = dom; at = refl; root = root; given = ap (λ y. Some y) same; last = last }
  where
    last : (later : ℕ) (other : Dom) (y : TermValue) → 0 < later → slice_get (dom ∷ doms) later ≡ Some other → slice_get (z ∷ zs) later ≡ Some y → other.root ≢ v
    last zero other y less a g = absurd (omega (arith, less))
    last (suc later) other y less a g = none later other y a g

later_put : (dom : Dom) (doms : List Dom) (z : TermValue) (zs : List TermValue) (v : ℕ) (x : TermValue) → IsPut doms zs v x → IsPut (dom ∷ doms) (z ∷ zs) v x
later_put dom doms z zs v x p = record { place = suc p.place; dom = p.dom; at = p.at; root = p.root; given = p.given; last = last }
  where
    last : (later : ℕ) (other : Dom) (y : TermValue) → suc p.place < later → slice_get (dom ∷ doms) later ≡ Some other → slice_get (z ∷ zs) later ≡ Some y → other.root ≢ v
    last zero other y less a g = absurd (omega (arith, less))
    last (suc later) other y less a g = p.last later other y (omega (arith, less)) a g

none_more : (dom : Dom) (doms : List Dom) (z : TermValue) (zs : List TermValue) (v : ℕ) → dom.root ≢ v → IsNoRoot doms zs v → IsNoRoot (dom ∷ doms) (z ∷ zs) v
none_more dom doms z zs v other_root none zero other y a g = λ is. other_root (ap (λ (d : Dom). d.root) (same_Some dom other a) ∙ is)
none_more dom doms z zs v other_root none (suc later) other y a g = none later other y a g

pub comes : (b : TermValues) (doms : List Dom) (xs : List TermValue) (v : ℕ) (x : TermValue) → value_of (with_roots b doms xs) v ≡ Some x → Comes b doms xs v x
comes b [] xs v x at = Comes.kept at (λ later other y a g. absurd (nothing_some other a))
comes b (dom ∷ doms) [] v x at = Comes.kept at (λ later other y a g. absurd (nothing_some y g))
comes b (dom ∷ doms) (z ∷ zs) v x at = by (comes (slice_set b dom.root (Some z)) doms zs v x at)
  where
    of_root : (t : Bool) → (dom.root == v) ≡ t → value_of (slice_set b dom.root (Some z)) v ≡ Some x → IsNoRoot doms zs v → Comes b (dom ∷ doms) (z ∷ zs) v x
    of_root true is there none =
        let root : dom.root ≡ v = eqb-true dom.root v is in
        let below : dom.root < length b = subst (λ n. n < length b) (sym root) (subst (λ n. v < n) (put_long b dom.root z) (within_terms (slice_set b dom.root (Some z)) v x there)) in
        Comes.put (first_put dom doms z zs v x root (same_Some z x (sym (put_there b dom.root z below) ∙ ap (value_of (slice_set b dom.root (Some z))) root ∙ there)) none)
    of_root false is there none = elim (put_both b b dom.root v z z refl) [
      | inl here ↦ absurd (true≢false (sym (eq-eqb dom.root v here.0) ∙ is))
      | inr keeps ↦ Comes.kept (sym keeps.0 ∙ there) (none_more dom doms z zs v (λ same. true≢false (sym (eq-eqb dom.root v same) ∙ is)) none)
    ]

    by : Comes (slice_set b dom.root (Some z)) doms zs v x → Comes b (dom ∷ doms) (z ∷ zs) v x
    by (Comes.put p) = Comes.put (later_put dom doms z zs v x p)
    by (Comes.kept there none) = of_root (dom.root == v) refl there none

-- ---- arguments

module _ (f : Typed → Option TermValue) where
  record AreGivenFirst (e : Typed) (es : List Typed) (xs : List TermValue) : Type 0 where
    first : TermValue
    rest : List TermValue
    given : f e ≡ Some first
    others : all_given (map f es) ≡ Some rest
    are : xs ≡ first ∷ rest

  first_given : (e : Typed) (es : List Typed) (xs : List TermValue) → all_given (map f (e ∷ es)) ≡ Some xs → AreGivenFirst e es xs
  first_given e es xs h = by (f e) (all_given (map f es)) refl refl h
    where
      by : (o : Option TermValue) (os : Option (List TermValue)) → f e ≡ o → all_given (map f es) ≡ os → all_given (o ∷ map f es) ≡ Some xs → AreGivenFirst e es xs
      by None os is others h = absurd (nothing_some xs h)
      by (Some x) None is others h = absurd (nothing_some xs (sym (ap (option_map (λ zs. x ∷ zs)) others) ∙ h))
      by (Some x) (Some zs) is others h = record { first = x; rest = zs; given = is; others = others; are = sym (same_Some (x ∷ zs) xs (sym (ap (option_map (λ rs. x ∷ rs)) others) ∙ h)) }

  pub given_long : (es : List Typed) (xs : List TermValue) → all_given (map f es) ≡ Some xs → length xs ≡ length es
  given_long [] xs h = ap length (sym (same_Some [] xs h))
  given_long (e ∷ es) xs h = let g = first_given e es xs h in ap length g.are ∙ ap suc (given_long es g.rest g.others)

  pub argument_of : (es : List Typed) (xs : List TermValue) → all_given (map f es) ≡ Some xs → (j : ℕ) (x : TermValue) → slice_get xs j ≡ Some x
      → (e : Typed) × (slice_get es j ≡ Some e) × (f e ≡ Some x)
  argument_of [] xs h j x at = absurd (nothing_some x (subst (λ zs. slice_get zs j ≡ Some x) (sym (same_Some [] xs h)) at))
  argument_of (e ∷ es) xs h zero x at =
      let g = first_given e es xs h in (e, refl, g.given ∙ subst (λ zs. slice_get zs 0 ≡ Some x) g.are at)
  argument_of (e ∷ es) xs h (suc j) x at =
      let g = first_given e es xs h in argument_of es g.rest g.others j x (subst (λ zs. slice_get zs (suc j) ≡ Some x) g.are at)

  pub value_given : (es : List Typed) (xs : List TermValue) → all_given (map f es) ≡ Some xs → (j : ℕ) (e : Typed) → slice_get es j ≡ Some e → (x : TermValue) × (slice_get xs j ≡ Some x)
  value_given [] xs h j e at = absurd (nothing_some e at)
  value_given (d ∷ es) xs h zero e at = let g = first_given d es xs h in (g.first, ap (λ zs. slice_get zs 0) g.are)
  value_given (d ∷ es) xs h (suc j) e at =
      let g = first_given d es xs h in
      let (x, there) = value_given es g.rest g.others j e at in (x, ap (λ zs. slice_get zs (suc j)) g.are ∙ there)

-- ---- calls

-- a call of the clause makes it, by these values of its arguments
pub record IsCallMade (program : Program) (sources : List ModelData) (k : Known) (clause : List Conj) (c : EntryName) : Type 0 where
  pub args : List Typed
  pub there : Contains clause (conjuncts.Call c.rel args)
  pub called : Rel
  pub found : slice_get program.rels c.rel ≡ Some called
  pub xs : List TermValue
  pub given : all_given (map (given_value program sources k) args) ≡ Some xs
  pub roots : c.roots ≡ bound_roots called xs

module _ (program : Program) (sources : List ModelData) (k : Known) (c : EntryName) where
  more_calls : (x : Conj) (cs : List Conj) → IsCallMade program sources k cs c → IsCallMade program sources k (x ∷ cs) c
  more_calls x cs m = record { args = m.args; there = contains_later (conjuncts.Call c.rel m.args) x cs m.there; called = m.called; found = m.found; xs = m.xs; given = m.given; roots = m.roots }

  call_made : (n : ℕ) (args : List Typed) (cs : List Conj) → named_call program sources k n args ≡ Some c → IsCallMade program sources k (conjuncts.Call n args ∷ cs) c
  call_made n args cs h = by (slice_get program.rels n) (all_given (map (given_value program sources k) args)) refl refl h
    where
      by : (q : Option Rel) (o : Option (List TermValue)) → slice_get program.rels n ≡ q → all_given (map (given_value program sources k) args) ≡ o → option_and_then (call_to n q) o ≡ Some c
          → IsCallMade program sources k (conjuncts.Call n args ∷ cs) c
      by q None found given is = absurd (nothing_some c is)
      by None (Some xs) found given is = absurd (nothing_some c is)
      by (Some called) (Some xs) found given is =
          let made : EntryName = record { rel = n; roots = bound_roots called xs } in
          let same : made ≡ c = same_Some made c is in
          let number : n ≡ c.rel = ap (λ (x : EntryName). x.rel) same in
          record {
            args = args;
            there = subst (λ j. Contains (conjuncts.Call n args ∷ cs) (conjuncts.Call j args)) number (contains_first (conjuncts.Call n args) cs);
            called = called;
            found = ap (slice_get program.rels) (sym number) ∙ found;
            xs = xs;
            given = given;
            roots = sym (ap (λ (x : EntryName). x.roots) same);
          }

  calls_made : (clause : List Conj) → Contains (calls_in program sources k clause) (Some c) → IsCallMade program sources k clause c
  calls_made [] (i, less, is) = absurd (omega (arith, less))
  calls_made (conjuncts.Call n args ∷ cs) (zero, less, is) = call_made n args cs is
  calls_made (conjuncts.Call n args ∷ cs) (suc i, less, is) = more_calls (conjuncts.Call n args) cs (calls_made cs (i, omega (arith, less), is))
  calls_made (conjuncts.Cond e ∷ cs) within = more_calls (conjuncts.Cond e) cs (calls_made cs within)
  calls_made (conjuncts.Equation v e ∷ cs) within = more_calls (conjuncts.Equation v e) cs (calls_made cs within)

  call_kept : (os : List (Option EntryName)) → Contains (filter_map (λ o. o) os) c → Contains os (Some c)
  call_kept [] (i, less, is) = absurd (omega (arith, less))
  call_kept (None ∷ os) within = contains_later (Some c) None os (call_kept os within)
  call_kept (Some d ∷ os) (zero, less, is) = subst (λ z. Contains (Some d ∷ os) (Some z)) is (contains_first (Some d) os)
  call_kept (Some d ∷ os) (suc i, less, is) = contains_later (Some c) (Some d) os (call_kept os (i, omega (arith, less), is))

-- a call of an entry is one of its where clause
pub where_made : (program : Program) (sources : List ModelData) (e : Entry) (rel : Rel) (c : EntryName) → slice_get program.rels e.rel ≡ Some rel → Contains (entry_calls program sources e) c
    → IsCallMade program sources (entry_known program sources rel e.values) rel.wheres c
where_made program sources e rel c found within =
    by (is_unmet program sources rel (entry_known program sources rel e.values))
    (subst (λ o. Contains (option_map_or (λ r. calls_where program sources r (entry_known program sources r e.values)) o []) c) found within)
  where
    by : (x : Bool) → Contains (if x then [] else filter_map (λ o. o) (calls_in program sources (entry_known program sources rel e.values) rel.wheres)) c
        → IsCallMade program sources (entry_known program sources rel e.values) rel.wheres c
    by true (i, less, is) = absurd (omega (arith, less))
    by false there =
        calls_made program sources (entry_known program sources rel e.values) c rel.wheres
        (call_kept program sources (entry_known program sources rel e.values) c (calls_in program sources (entry_known program sources rel e.values) rel.wheres) there)
