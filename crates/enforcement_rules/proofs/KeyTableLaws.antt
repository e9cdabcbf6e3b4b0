-- The table of keys has the key of each class.
use Rattle.std.proofs.Common.{◌≡◌, ◌≢◌, ◌<◌, ◌⊎◌, ◌+◌, ℕ, suc, Bool, true, false, List, [], ◌∷◌, None, Some, refl, sym, ap, ◌∙◌, subst, inl, inr, ⊎_elim, arith, length, get_or, set, drop, replicate, add-one}
use Rattle.std.specs.Prelude.{Contains, nat_eq, slice_get, if◌then◌else◌}
use Rattle.std.specs.List.{list_any}
use Rattle.std.proofs.lemmas.Bool.{eqb-true, eqb-false}
use Rattle.std.proofs.lemmas.Option.{same_Some, none-some, slice_get_within}
use Rattle.std.proofs.lemmas.List.{get_or-set_same, get_or-set_other, length-set, length-replicate}
use Rattle.mof_metamodel.specs.declared.desc.MetaDesc.{MetaDesc}
use Rattle.mof_metamodel.specs.declared.desc.ClassId.{ClassId}
use Rattle.mof_metamodel.specs.Metamodels.{class_count}
use Rattle.qv_syntax.specs.declared.program.Program.{Program}
use Rattle.qv_syntax.specs.declared.program.Key.{Key}
use Rattle.ocl_environments.specs.Environments.{meta_at}
use Rattle.enforcement_rules.specs.declared.class_key.ClassKey.{ClassKey}
use Rattle.enforcement_rules.specs.KeyTables.{IsKeyWithin, class_key, with_key, with_keys}
use Rattle.enforcement_rules.specs.KeyTests.{Keys, key_at, is_many_prop, AreKeyNumbers, IsKeyTable}
use Rattle.enforcement_rules.specs.TargetParts.{target_meta}
use Rattle.enforcement_rules.proofs.ListLaws.{first_in, later_in, nothing_in, in_either, some_among, drop_here, same_or_not, everywhere}

-- ---- the loop

pub one_key_put : (desc : MetaDesc) (meta : ℕ) (keys : List Key) (k : ℕ) (key : Key) (table start next : Keys) → k < length keys → key ≡ get_or keys k key
    → with_keys desc meta k (drop k keys) table ≡ with_keys desc meta 0 keys start → next ≡ with_key desc meta k key table
    → with_keys desc meta (k + 1) (drop (k + 1) keys) next ≡ with_keys desc meta 0 keys start
one_key_put desc meta keys k key table start next below is kept put =
    ap (with_keys desc meta (k + 1) (drop (k + 1) keys)) put
    ∙ ap (λ (n : ℕ). with_keys desc meta n (drop (k + 1) keys) (with_key desc meta k key table)) (add-one k)
    ∙ sym (ap (λ (ks : List Key). with_keys desc meta k ks table) (drop_here keys k key below is)) ∙ kept

-- ---- what is in the table

module _ (desc : MetaDesc) (meta : ℕ) where
  -- the entry of a class is a key among these, the first of which has this number
  record IsEntry (number : ℕ) (keys : List Key) (c : ℕ) (x : ClassKey) : Type 0 where
    place : ℕ
    key : Key
    found : slice_get keys place ≡ Some key
    of_meta : key.meta ≡ meta
    of_class : key.class.0 ≡ c
    numbered : x.key ≡ number + place
    many : x.is_many ≡ list_any (is_many_prop desc) key.props

  abbrev AreWithin : ℕ → List Key → Type 0
  AreWithin count keys = (key : Key) → Contains keys key → IsKeyWithin desc meta count key

  key_long : (k : ℕ) (key : Key) (table : Keys) → length (with_key desc meta k key table) ≡ length table
  key_long k key table = by (nat_eq key.meta meta)
    where
      by : (b : Bool) → length (if b then set table key.class.0 (Some (class_key desc k key)) else table) ≡ length table
      by true = length-set table key.class.0 (Some (class_key desc k key))
      by false = refl

  one_there : (k : ℕ) (key : Key) (table : Keys) (c : ℕ) (x : ClassKey) → IsKeyWithin desc meta (length table) key → key_at (with_key desc meta k key table) c ≡ Some x
      → (key_at table c ≡ Some x) ⊎ ((key.meta ≡ meta) × (key.class.0 ≡ c) × (class_key desc k key ≡ x))
  one_there k key table c x within h = by (nat_eq key.meta meta) refl h
    where
      by : (b : Bool) → nat_eq key.meta meta ≡ b → key_at (if b then set table key.class.0 (Some (class_key desc k key)) else table) c ≡ Some x
          → (key_at table c ≡ Some x) ⊎ ((key.meta ≡ meta) × (key.class.0 ≡ c) × (class_key desc k key ≡ x))
      by true e g = ⊎_elim
          (λ (same : c ≡ key.class.0). inr (
            eqb-true key.meta meta e,
            sym same,
            same_Some (class_key desc k key) x
                (sym (get_or-set_same table key.class.0 (Some (class_key desc k key)) None (within.class (eqb-true key.meta meta e)))
                ∙ ap (key_at (set table key.class.0 (Some (class_key desc k key)))) (sym same) ∙ g),
          ))
          (λ (other : c ≢ key.class.0). inl (sym (get_or-set_other table key.class.0 c (Some (class_key desc k key)) None other) ∙ g))
          (same_or_not c key.class.0)
      by false e g = inl g

  one_none : (k : ℕ) (key : Key) (table : Keys) (c : ℕ) → IsKeyWithin desc meta (length table) key → key_at (with_key desc meta k key table) c ≡ None
      → (key_at table c ≡ None) × (key.meta ≡ meta → key.class.0 ≢ c)
  one_none k key table c within h = by (nat_eq key.meta meta) refl h
    where
      by : (b : Bool) → nat_eq key.meta meta ≡ b → key_at (if b then set table key.class.0 (Some (class_key desc k key)) else table) c ≡ None
          → (key_at table c ≡ None) × (key.meta ≡ meta → key.class.0 ≢ c)
      by true e g =
          let apart : c ≢ key.class.0 = λ same. none-some (class_key desc k key)
          (sym g ∙ ap (key_at (set table key.class.0 (Some (class_key desc k key)))) same
          ∙ get_or-set_same table key.class.0 (Some (class_key desc k key)) None (within.class (eqb-true key.meta meta e))) in
          (sym (get_or-set_other table key.class.0 c (Some (class_key desc k key)) None apart) ∙ g, λ of same. apart (sym same))
      by false e g = (g, λ of same. eqb-false key.meta meta e of)

  rest_within : (count : ℕ) (key : Key) (keys : List Key) → AreWithin count (key ∷ keys) → AreWithin count keys
  rest_within count key keys within other among = within other (later_in key other keys among)

  still_within : (k : ℕ) (key : Key) (table : Keys) (keys : List Key) → AreWithin (length table) (key ∷ keys) → AreWithin (length (with_key desc meta k key table)) keys
  still_within k key table keys within = subst (λ (n : ℕ). AreWithin n keys) (sym (key_long k key table)) (rest_within (length table) key keys within)

  entry_there : (keys : List Key) (k : ℕ) (table : Keys) (c : ℕ) (x : ClassKey) → AreWithin (length table) keys → key_at (with_keys desc meta k keys table) c ≡ Some x
      → (key_at table c ≡ Some x) ⊎ IsEntry k keys c x
  entry_there [] k table c x within h = inl h
  entry_there (key ∷ keys) k table c x within h = ⊎_elim
      (λ (old : key_at (with_key desc meta k key table) c ≡ Some x). ⊎_elim
      (λ (before : key_at table c ≡ Some x). inl before)
      (λ (new : (key.meta ≡ meta) × (key.class.0 ≡ c) × (class_key desc k key ≡ x)). inr (record {
        place = 0;
        key = key;
        found = refl;
        of_meta = new.0;
        of_class = new.1;
        numbered = let e : k ≡ x.key = ap (λ (y : ClassKey). y.key) new.2 in omega (arith, e);
        many = sym (ap (λ (y : ClassKey). y.is_many) new.2);
      }))
      (one_there k key table c x (within key (first_in key key keys refl)) old))
      (λ (later : IsEntry (suc k) keys c x). inr (record {
        place = suc later.place;
        key = later.key;
        found = later.found;
        of_meta = later.of_meta;
        of_class = later.of_class;
        numbered = let e = later.numbered in omega (arith, e);
        many = later.many;
      }))
      (entry_there keys (suc k) (with_key desc meta k key table) c x (still_within k key table keys within) h)

  entry_none : (keys : List Key) (k : ℕ) (table : Keys) (c : ℕ) → AreWithin (length table) keys → key_at (with_keys desc meta k keys table) c ≡ None
      → (key_at table c ≡ None) × ((key : Key) → Contains keys key → key.meta ≡ meta → key.class.0 ≢ c)
  entry_none [] k table c within h = (h, λ key among. absurd (nothing_in key among))
  entry_none (key ∷ keys) k table c within h =
      let rest = entry_none keys (suc k) (with_key desc meta k key table) c (still_within k key table keys within) h in
      let one = one_none k key table c (within key (first_in key key keys refl)) rest.0 in (
        one.0,
        λ other among. ⊎_elim
            (λ (same : key ≡ other). subst (λ (x : Key). x.meta ≡ meta → x.class.0 ≢ c) same one.1)
            (λ (there : Contains keys other). rest.1 other there)
            (in_either key other keys among),
      )

module _ (metas : List MetaDesc) (program : Program) (number : ℕ) (same : number ≡ target_meta program) (desc : MetaDesc) (read : desc ≡ meta_at metas number)
    (listed : List Key) (listed_is : listed ≡ program.keys) (empty : Keys) (count : ℕ) (counted : count ≡ class_count desc) (none : empty ≡ replicate count None)
    (within : (key : Key) → Contains program.keys key → IsKeyWithin (meta_at metas number) number (class_count (meta_at metas number)) key) where
  abbrev table : Keys
  table = with_keys (meta_at metas number) number 0 program.keys empty

  empty_long : length empty ≡ count
  empty_long = ap length none ∙ length-replicate count None

  inside : (key : Key) → Contains program.keys key → IsKeyWithin (meta_at metas number) number (length empty) key
  inside key among = subst (λ (n : ℕ). IsKeyWithin (meta_at metas number) number n key) (sym (empty_long ∙ counted ∙ ap class_count read)) (within key among)

  pub listed_inside : (key : Key) → Contains listed key → IsKeyWithin desc number (length empty) key
  listed_inside key among = subst (λ (d : MetaDesc). IsKeyWithin d number (length empty) key) (sym read) (inside key (subst (λ (ks : List Key). Contains ks key) listed_is among))

  as_read : with_keys desc number 0 listed empty ≡ table
  as_read = ap (λ (d : MetaDesc). with_keys d number 0 listed empty) read ∙ ap (λ (ks : List Key). with_keys (meta_at metas number) number 0 ks empty) listed_is

  empty_at : (c : ℕ) → key_at empty c ≡ None
  empty_at c = ap (λ (ks : Keys). key_at ks c) none ∙ everywhere count c None

  entry : (c : ℕ) (x : ClassKey) → key_at table c ≡ Some x → IsEntry (meta_at metas number) number 0 program.keys c x
  entry c x h = ⊎_elim
      (λ (old : key_at empty c ≡ Some x). absurd (none-some x (sym (empty_at c) ∙ old)))
      (λ (e : IsEntry (meta_at metas number) number 0 program.keys c x). e)
      (entry_there (meta_at metas number) number program.keys 0 empty c x inside h)

  entry_found : (c : ℕ) (x : ClassKey) (e : IsEntry (meta_at metas number) number 0 program.keys c x) → slice_get program.keys x.key ≡ Some e.key
  entry_found c x e = let n = e.numbered in let at : x.key ≡ e.place = omega (arith, n) in ap (slice_get program.keys) at ∙ e.found

  are_numbers : (keys : Keys) → keys ≡ table → AreKeyNumbers program keys
  are_numbers keys is c x h =
      let e = entry c x (sym (ap (λ (ks : Keys). key_at ks c) is) ∙ h) in
      slice_get_within program.keys x.key e.key (entry_found c x e)

  is_table : (keys : Keys) → keys ≡ table → IsKeyTable metas program keys
  is_table keys is = record {
    some = λ c x h.
        let e = entry c x (sym (ap (λ (ks : Keys). key_at ks c) is) ∙ h) in
        record {
          key = e.key;
          found = entry_found c x e;
          is = record {
            among = some_among program.keys x.key e.key (entry_found c x e);
            meta = e.of_meta ∙ same;
            of = ap (λ (n : ℕ). let d : ClassId = record { 0 = n } in d) e.of_class;
          };
          many = e.many ∙ ap (λ (m : ℕ). list_any (is_many_prop (meta_at metas m)) e.key.props) same;
        };
    none = λ c key h of.
        (entry_none (meta_at metas number) number program.keys 0 empty c inside (sym (ap (λ (ks : Keys). key_at ks c) is) ∙ h)).1 key of.among (of.meta ∙ sym same) (ap (λ (d : ClassId). d.0) of.of);
  }

  pub numbers_told : (keys new : Keys) → keys ≡ new → new ≡ with_keys desc number 0 listed empty → AreKeyNumbers program keys
  numbers_told keys new written put = are_numbers keys (written ∙ put ∙ as_read)

  pub table_told : (keys new : Keys) → keys ≡ new → new ≡ with_keys desc number 0 listed empty → IsKeyTable metas program keys
  table_told keys new written put = is_table keys (written ∙ put ∙ as_read)
