-- Which classes inherit from a class, and where its properties stand among theirs.
use Rattle.std.proofs.Common.{◌≡◌, ℕ, ◌+◌, ◌<◌, ◌≤◌, List, [], true, refl, sym, ◌∙◌, ap, subst, arith, length, get_or, inl, inr, replicate, true≢false}
use Rattle.std.specs.Prelude.{Contains, Option, Some, None, MatchOption, ◌↔◌, take}
use Rattle.std.specs.List.{flat_map}
use Rattle.std.specs.Option.{is_some}
use Rattle.std.proofs.lemmas.Bool.{cases_lt}
use Rattle.std.proofs.lemmas.List.{length-replicate, get_or_default}
use Rattle.std.proofs.lemmas.List.Elements.{Contains-get_or}
use Rattle.std.proofs.lemmas.List.FromFn.{get_or-map-range_with_len}
use Rattle.mof_metamodel.specs.declared.desc.MetaDesc.{MetaDesc}
use Rattle.mof_metamodel.specs.declared.entries.Entry.{Entry}
use Rattle.mof_metamodel.specs.Metamodels.{class_count, own_props, lineage_of, Conforms}
use Rattle.mof_metamodel.specs.Tables.{entry, starts_of, AddsEntries, AreHeirs, IsStart}
use Rattle.mof_metamodel.proofs.EntryLemmas.{no_entry, classes_none}
use Rattle.mof_metamodel.proofs.LineageLemmas.{Has-from_Contains, Contains-from_Has}
use Rattle.mof_metamodel.proofs.ReachLemmas.{lineage_exactly, lineage_within_classes}

module _ (desc : MetaDesc) where
  pub heirs_none : (heirs : List (List Entry)) → heirs ≡ replicate (class_count desc) [] → AreHeirs desc 0 heirs
  heirs_none heirs is = record {
    count = ap length is ∙ length-replicate (class_count desc) [];
    classes = classes_none heirs (class_count desc) is;
    sound = λ d e h. absurd (no_entry heirs (class_count desc) is d e h);
    complete = λ c d l h. absurd (omega (arith, l));
  }

  -- the classes of one class order more
  pub heirs_more : (heirs heirs' : List (List Entry)) (c : ℕ) → AreHeirs desc c heirs → AddsEntries heirs heirs' (lineage_of desc c) (starts_of desc (lineage_of desc c)) (length (lineage_of desc c)) c → AreHeirs desc (c + 1) heirs'
  heirs_more heirs heirs' c are adds = record {
    count = adds.count ∙ are.count;
    classes = adds.classes are.classes;
    sound = λ d e h. elim (adds.only d e h) [
      | inl f ↦ are.sound d e f
      | inr f ↦ (
          let P : Entry → Type 0 = λ x. IsStart desc x.class d x.value in
          subst P (sym f.3) (record {
            index = f.0;
            within = f.1;
            at = sym f.2;
            start_is = get_or-map-range_with_len (λ n. length (flat_map (own_props desc) (take n (lineage_of desc c)))) 0 (length (lineage_of desc c)) f.0 f.0 0 f.1 (omega arith);
          }))
    ];
    complete = λ b d l h. elim (cases_lt b c) [
      | inl before ↦ (let s = are.complete b d before h in (s.0, adds.kept d (entry b s.0) s.1))
      | inr past ↦ (
          let same : c ≡ b = omega (arith, l, past) in
          let P : ℕ → Type 0 = λ x. Contains (lineage_of desc x) d in
          let Q : ℕ → Type 0 = λ x. (start : ℕ) × Contains (get_or heirs' d []) (entry x start) in
          subst Q same (here d (subst P (sym same) h)))
    ];
  }
    where
      here : (d : ℕ) → Contains (lineage_of desc c) d → (start : ℕ) × Contains (get_or heirs' d []) (entry c start)
      here d (i, short, is) =
          let at : get_or (lineage_of desc c) i 0 ≡ d = get_or_default (lineage_of desc c) i 0 d short ∙ is in
          let start : ℕ = get_or (starts_of desc (lineage_of desc c)) i 0 in
          let P : ℕ → Type 0 = λ k. Contains (get_or heirs' k []) (entry c start) in
          (start, subst P at (adds.added i short short))

  -- ---- what a look-up among them finds

  pub start_found : (heirs : List (List Entry)) (c d : ℕ) (es : List Entry) (o : Option ℕ) → AreHeirs desc (class_count desc) heirs → c < class_count desc → es ≡ get_or heirs d []
      → MatchOption o ((v : ℕ) → Contains es (entry c v) → ⊥) (λ v. Contains es (entry c v)) → MatchOption o (Contains (lineage_of desc c) d → ⊥) (IsStart desc c d)
  start_found heirs c d es None are l is none = λ h. (let s = are.complete c d l h in none s.0 (subst (λ xs. Contains xs (entry c s.0)) (sym is) s.1))
  start_found heirs c d es (Some v) are l is h = are.sound d (entry c v) (subst (λ xs. Contains xs (entry c v)) is h)

  -- what is no class stands in no class order
  pub no_heirs : (c d : ℕ) → c < class_count desc → class_count desc ≤ d → Contains (lineage_of desc c) d → ⊥
  no_heirs c d l past h = let w = lineage_within_classes desc c d l (Has-from_Contains (lineage_of desc c) d h) in omega (arith, w, past)

  pub start_conforms : (c d : ℕ) (o : Option ℕ) → c < class_count desc → MatchOption o (Contains (lineage_of desc c) d → ⊥) (IsStart desc c d) → (is_some o ≡ true) ↔ Conforms desc c d
  start_conforms c d None l none = (λ h. absurd (true≢false (sym h)), λ h. absurd (none (Contains-from_Has (lineage_of desc c) d ((lineage_exactly desc c d l).1 h))))
  start_conforms c d (Some s) l is = (
    λ h. (let P : ℕ → Type 0 = λ x. Conforms desc c x in
        subst P is.at ((lineage_exactly desc c (get_or (lineage_of desc c) is.index 0) l).0 (Has-from_Contains (lineage_of desc c) (get_or (lineage_of desc c) is.index 0) (Contains-get_or (lineage_of desc c) is.index 0 is.within)))),
    λ h. refl,
  )
