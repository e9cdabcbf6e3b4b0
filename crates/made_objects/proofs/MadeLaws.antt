-- The model that is made: fresh objects behind those that stay, and that it has the objects of the one that enforcement makes.
use Rattle.std.specs.Prelude.{◌≡◌, ◌≢◌, ◌<◌, ◌≤◌, ◌+◌, ◌-◌, ◌^◌, ℕ, zero, suc, Bool, true, false, List, [], ◌∷◌, ◌++◌, map, length, take, replicate, Option, None, Some, is_some, count_by, cond, Contains, if◌then◌else◌}
use Rattle.std.specs.Option.{option_map}
use Rattle.std.proofs.Common.{refl, ap, sym, ◌∙◌, subst, arith, inl, inr, get_or, true≢false}
use Rattle.std.proofs.Math.ListN.{get_or-map}
use Rattle.std.proofs.Math.Seq.{get_or-append_right}
use Rattle.std.proofs.lemmas.Bool.{cases_lt}
use Rattle.std.proofs.lemmas.List.{get_or_past, get_or_append_left, get_or-replicate, ext_get_or, length-append, length-map, length-replicate, length-take, map-append, map_more, append_assoc, take_all}
use Rattle.std.proofs.lemmas.List.FromFn.{length-map-range_with_len, get_or-map-range_with_len}
use Rattle.std.proofs.lemmas.List.Sums.{sum_by-cons}
use Rattle.std.proofs.lemmas.Option.{none-some, same_Some}
use Rattle.mof_metamodel.specs.declared.desc.MetaDesc.{MetaDesc}
use Rattle.mof_metamodel.specs.Metamodels.{class_at as meta_class, props_of}
use Rattle.mof_metamodel.proofs.Facts.{nothing_in, contains_first}
use Rattle.object_tables.specs.Objects.{Object, Slot}
use Rattle.object_tables.specs.Models.{ModelData, object_at, id_at, IsAddable, IsFull, live_count, new_object, added, no_slot, slot_in, slot_number}
use Rattle.qv_syntax.specs.declared.program.Program.{Program}
use Rattle.template_match.proofs.ListLaws.{contains_later}
use Rattle.repair_semantics.specs.declared.term.Term.{Term, out-Term}
use Rattle.repair_semantics.specs.Claims.{Claim}
use Rattle.repair_semantics.specs.CandidateObjects.{is_used, unused_ids}
use Rattle.repair_semantics.specs.Candidates.{slots_of, old_object, old_objects, fresh_objects, candidate_with}
use Rattle.model_filling.specs.Unlinked.{HasNoLinks}
use Rattle.model_filling.specs.Counterparts.{HasObjectsOf}
use Rattle.candidate_laws.specs.Placing.{IsConcrete}
use Rattle.candidate_laws.proofs.IdentifierLaws.{used, enough_ids}
use Rattle.term_table.specs.TermTables.{term_at}
use Rattle.made_objects.specs.declared.identifiers.Unused.{Unused}
use Rattle.made_objects.specs.Making.{terms_at}
use Rattle.made_objects.specs.Headers.{unused_below, IsNextUnused, Header, header, header_at, KeepsWhere, new_objects, with_new, with_fresh, HasRoom}
use Rattle.made_objects.proofs.HeaderLaws.{class_by_header, id_by_header}
use Rattle.made_objects.proofs.UnusedLaws.{found_first}

-- ---- objects for terms

length_new : (meta : MetaDesc) (ts : List Term) (ids : List (List ℕ)) → length ids ≡ length ts → length (new_objects meta ts ids) ≡ length ts
length_new meta [] ids same = refl
length_new meta (t ∷ ts) [] same = absurd (omega (arith, same))
length_new meta (t ∷ ts) (id ∷ ids) same = let rest = length_new meta ts ids (omega (arith, same)) in omega (arith, rest)

new_last : (meta : MetaDesc) (ts : List Term) (ids : List (List ℕ)) (t : Term) (id : List ℕ) → length ids ≡ length ts
    → new_objects meta (ts ++ t ∷ []) (ids ++ id ∷ []) ≡ new_objects meta ts ids ++ Some (new_object meta (out-Term t).class.0 id) ∷ []
new_last meta [] [] t id same = refl
new_last meta [] (i ∷ ids) t id same = absurd (omega (arith, same))
new_last meta (u ∷ ts) [] t id same = absurd (omega (arith, same))
new_last meta (u ∷ ts) (i ∷ ids) t id same =
    ap (λ obs. Some (new_object meta (out-Term u).class.0 i) ∷ obs) (new_last meta ts ids t id (omega (arith, same)))

-- one more object
pub one_added : (made : ModelData) (ts : List Term) (ids : List (List ℕ)) (t : Term) (id : List ℕ) → length ids ≡ length ts
    → added (with_new made ts ids) (out-Term t).class.0 id ≡ with_new made (ts ++ t ∷ []) (ids ++ id ∷ [])
one_added made ts ids t id same = ap (λ obs. record made { objects = obs })
    (append_assoc made.objects (new_objects made.meta ts ids) (Some (new_object made.meta (out-Term t).class.0 id) ∷ [])
    ∙ ap (λ obs. made.objects ++ obs) (sym (new_last made.meta ts ids t id same)))

-- its identifier is one of those
id_of_new : (meta : MetaDesc) (ts : List Term) (ids : List (List ℕ)) (k : ℕ) (id : List ℕ)
    → option_map (λ (ob : Object). ob.id) (get_or (new_objects meta ts ids) k None) ≡ Some id → Contains ids id
id_of_new meta [] ids k id h = absurd (none-some id h)
id_of_new meta (t ∷ ts) [] k id h = absurd (none-some id h)
id_of_new meta (t ∷ ts) (i ∷ ids) zero id h = subst (Contains (i ∷ ids)) (same_Some i id h) (contains_first i ids)
id_of_new meta (t ∷ ts) (i ∷ ids) (suc k) id h = contains_later id i ids (id_of_new meta ts ids k id h)

-- it has nothing
slot_of_new : (meta : MetaDesc) (class p : ℕ) (id : List ℕ) → slot_in meta p (Some (new_object meta class id)) ≡ no_slot
slot_of_new meta class p id = elim (cases_lt (slot_number meta class p) (length (props_of meta class))) [
  | inl within ↦ get_or-replicate (length (props_of meta class)) (slot_number meta class p) no_slot no_slot within
  | inr past ↦ get_or_past (replicate (length (props_of meta class)) no_slot) (slot_number meta class p) no_slot
      (let many = length-replicate (length (props_of meta class)) no_slot in omega (arith, many, past))
]

slots_of_new : (meta : MetaDesc) (ts : List Term) (ids : List (List ℕ)) (k p : ℕ) → slot_in meta p (get_or (new_objects meta ts ids) k None) ≡ no_slot
slots_of_new meta [] ids k p = refl
slots_of_new meta (t ∷ ts) [] k p = refl
slots_of_new meta (t ∷ ts) (id ∷ ids) zero p = slot_of_new meta (out-Term t).class.0 p id
slots_of_new meta (t ∷ ts) (id ∷ ids) (suc k) p = slots_of_new meta ts ids k p

pub no_links_new : (made : ModelData) (ts : List Term) (ids : List (List ℕ)) → HasNoLinks made → HasNoLinks (with_new made ts ids)
no_links_new made ts ids bare p a b h = elim (cases_lt a (length made.objects)) [
  | inl within ↦ bare p a b (subst (λ (x : Option Object). Contains (slot_in made.meta p x).partners b)
      (get_or_append_left made.objects (new_objects made.meta ts ids) None a within) h)
  | inr past ↦ nothing_in b (subst (λ (s : Slot). Contains s.partners b)
      (ap (slot_in made.meta p) (get_or-append_right made.objects (new_objects made.meta ts ids) a None past)
      ∙ slots_of_new made.meta ts ids (a - length made.objects) p) h)
]

-- ---- how many there are

count_new : (meta : MetaDesc) (ts : List Term) (ids : List (List ℕ)) → length ids ≡ length ts
    → count_by is_some (new_objects meta ts ids) ≡ length ts
count_new meta [] ids same = refl
count_new meta (t ∷ ts) [] same = absurd (omega (arith, same))
count_new meta (t ∷ ts) (id ∷ ids) same =
    let rest = count_new meta ts ids (omega (arith, same)) in
    let first = sum_by-cons (λ (o : Option Object). cond (is_some o) 1 0) (Some (new_object meta (out-Term t).class.0 id))
    (new_objects meta ts ids) in
    omega (arith, rest, first)

count_behind : (xs ys : List (Option Object)) → count_by is_some (xs ++ ys) ≡ count_by is_some xs + count_by is_some ys
count_behind [] ys = omega arith
count_behind (x ∷ xs) ys =
    let rest = count_behind xs ys in
    let both = sum_by-cons (λ (o : Option Object). cond (is_some o) 1 0) x (xs ++ ys) in
    let one = sum_by-cons (λ (o : Option Object). cond (is_some o) 1 0) x xs in
    omega (arith, rest, both, one)

pub live_new : (made : ModelData) (ts : List Term) (ids : List (List ℕ)) → length ids ≡ length ts
    → live_count (with_new made ts ids) ≡ live_count made + length ts
live_new made ts ids same = count_behind made.objects (new_objects made.meta ts ids)
    ∙ ap (λ n. count_by is_some made.objects + n) (count_new made.meta ts ids same)

-- ---- one more can be added

pub addable : (m made : ModelData) (count : ℕ) (ts : List Term) (ids : List (List ℕ)) (class : ℕ) (id : List ℕ) → HasRoom m count made
    → length ts < count → length ids ≡ length ts → IsConcrete m.meta class → is_used m id ≡ false → ((x : List ℕ) → Contains ids x → x ≢ id)
    → IsAddable (with_new made ts ids) class id
addable m made count ts ids class id room more same concrete free apart = record {
  room = full;
  concrete = subst (λ (meta : MetaDesc). (meta_class meta class).is_abstract ≡ false) (sym room.meta) concrete.concrete;
  new = λ h. named h.0 h.1;
}
  where
    full : IsFull (with_new made ts ids) → ⊥
    full (inl many) = let live = live_new made ts ids same in let few = room.few in omega (arith, many, live, few, more)
    full (inr many) =
        let long = length-append made.objects (new_objects made.meta ts ids) in
        let new = length_new made.meta ts ids same in
        let numbers = room.numbers in
        let low = room.room in
        let few = room.few in
        omega (arith, many, long, new, numbers, low, few, more)

    named : (o : ℕ) → id_at (with_new made ts ids) o ≡ Some id → ⊥
    named o is = elim (cases_lt o (length made.objects)) [
      | inl within ↦ (
          let old : id_at made o ≡ Some id =
          sym (ap (option_map (λ (ob : Object). ob.id)) (get_or_append_left made.objects (new_objects made.meta ts ids) None o within)) ∙ is in
          let found = room.identifiers o id old in
          true≢false (sym (used m found.0 id found.1) ∙ free))
      | inr past ↦ apart id (id_of_new made.meta ts ids (o - length made.objects) id
          (sym (ap (option_map (λ (ob : Object). ob.id)) (get_or-append_right made.objects (new_objects made.meta ts ids) o None past)) ∙ is)) refl
    ]

-- ---- one after another

pub long_terms : (table : List Term) (fresh : List ℕ) (i : ℕ) → i < length fresh → length (terms_at table (take i fresh)) ≡ i
long_terms table fresh i within =
    let cut = length-take i fresh in
    let all = length-map (take i fresh) (term_at table) in
    omega (arith, cut, all, within)

-- the next one
pub one_more_made : (m init made new : ModelData) (table : List Term) (fresh : List ℕ) (i next : ℕ) (found : Unused) (class : ℕ)
    → i < length fresh → length (unused_below m next) ≡ i → made ≡ with_new init (terms_at table (take i fresh)) (unused_below m next)
    → IsNextUnused m next found → class ≡ (out-Term (term_at table (get_or fresh i 0))).class.0 → new ≡ added made class found.id
    → new ≡ with_new init (terms_at table (take (i + 1) fresh)) (unused_below m found.next)
one_more_made m init made new table fresh i next found class within many before is of last =
    let ts = terms_at table (take i fresh) in
    let t = term_at table (get_or fresh i 0) in
    last
    ∙ ap (λ x. added x class found.id) before
    ∙ ap (λ k. added (with_new init ts (unused_below m next)) k found.id) of
    ∙ one_added init ts (unused_below m next) t found.id (many ∙ sym (long_terms table fresh i within))
    ∙ ap (λ us. with_new init us (unused_below m next ++ found.id ∷ [])) (sym (map_more (term_at table) fresh i 0 within))
    ∙ ap (λ ids. with_new init (terms_at table (take (i + 1) fresh)) ids) (sym is.ids)

-- all of them
pub all_made : (m init made : ModelData) (table : List Term) (fresh : List ℕ) (i next : ℕ) → length fresh ≡ i → length (unused_below m next) ≡ i
    → next ≤ 2 ^ 64 → made ≡ with_new init (terms_at table (take i fresh)) (unused_below m next) → made ≡ with_fresh m init (terms_at table fresh)
all_made m init made table fresh i next whole many few is =
    let count : length (terms_at table fresh) ≡ length (unused_below m next) = length-map fresh (term_at table) ∙ whole ∙ sym many in
    is
    ∙ ap (λ ks. with_new init (terms_at table ks) (unused_below m next)) (take_all i fresh (omega (arith, whole)))
    ∙ ap (λ ids. with_new init (terms_at table fresh) ids) (sym (found_first m (length (terms_at table fresh)) next (sym count) few))

-- ---- the same objects as in the model that enforcement makes

old_header : (program : Program) (m : ModelData) (live : ℕ → Bool) (claims : List (Claim ℕ)) (o : ℕ) (x : Option Object)
    → header (old_object program m live claims o x) ≡ (if live o then header x else None)
old_header program m live claims o None = none (live o)
  where
    none : (b : Bool) → header None ≡ (if b then header None else None)
    none true = refl
    none false = refl
old_header program m live claims o (Some ob) = by (live o)
  where
    by : (b : Bool) → header (if b then Some (record ob { slots = slots_of program m live claims o ob.class }) else None)
        ≡ (if b then header (Some ob) else None)
    by true = refl
    by false = refl

module _ (program : Program) (m : ModelData) (live : ℕ → Bool) (claims : List (Claim ℕ)) where
  old_headers : (made : ModelData) → KeepsWhere m live made → map header made.objects ≡ map header (old_objects program m live claims)
  old_headers made k = ext_get_or None (map header made.objects) (map header (old_objects program m live claims)) same_length each
    where
      old : ℕ → Option Object
      old o = old_object program m live claims o (object_at m o)

      many : length (old_objects program m live claims) ≡ length m.objects
      many = length-map-range_with_len (λ o. old_object program m live claims o (object_at m o)) 0 (length m.objects)

      same_length : length (map header made.objects) ≡ length (map header (old_objects program m live claims))
      same_length = length-map made.objects header ∙ k.count ∙ sym many ∙ sym (length-map (old_objects program m live claims) header)

      each : (o : ℕ) → o < length (map header made.objects) → get_or (map header made.objects) o None
          ≡ get_or (map header (old_objects program m live claims)) o None
      each o below =
          let within : o < length m.objects = (let a = length-map made.objects header in let b = k.count in omega (arith, a, b, below)) in
          get_or-map header made.objects o None ∙ k.headers o ∙ sym (old_header program m live claims o (object_at m o))
          ∙ sym (ap header (get_or-map-range_with_len (λ n. old_object program m live claims n (object_at m n)) 0 (length m.objects) o o None within
          (omega arith)))
          ∙ sym (get_or-map header (old_objects program m live claims) o None)

  fresh_headers : (meta : MetaDesc) (o : ℕ) (ts : List Term) (ids : List (List ℕ))
      → map header (new_objects meta ts ids) ≡ map header (fresh_objects program m live claims o ts ids)
  fresh_headers meta o [] ids = refl
  fresh_headers meta o (t ∷ ts) [] = refl
  fresh_headers meta o (t ∷ ts) (id ∷ ids) =
      ap (λ hs. header (Some (new_object meta (out-Term t).class.0 id)) ∷ hs) (fresh_headers meta (suc o) ts ids)

  all_headers : (made : ModelData) (ts : List Term) → KeepsWhere m live made
      → map header (with_fresh m made ts).objects ≡ map header (candidate_with program m live claims ts).objects
  all_headers made ts k =
      let ids = unused_ids m (length ts) in
      map-append header made.objects (new_objects made.meta ts ids)
      ∙ ap (λ hs. hs ++ map header (new_objects made.meta ts ids)) (old_headers made k)
      ∙ ap (λ hs. map header (old_objects program m live claims) ++ hs) (fresh_headers made.meta (length m.objects) ts ids)
      ∙ sym (map-append header (old_objects program m live claims) (fresh_objects program m live claims (length m.objects) ts ids))

  pub made_has_objects : (made : ModelData) (ts : List Term) → KeepsWhere m live made
      → HasObjectsOf (with_fresh m made ts) (candidate_with program m live claims ts)
  made_has_objects made ts k = record {
    meta = k.meta;
    count = sym (length-map (with_fresh m made ts).objects header) ∙ ap (λ (hs : List (Option Header)). length hs) (all_headers made ts k)
        ∙ length-map (candidate_with program m live claims ts).objects header;
    classes = λ o. class_by_header (with_fresh m made ts) (candidate_with program m live claims ts) o (same o);
    identifiers = λ o. id_by_header (with_fresh m made ts) (candidate_with program m live claims ts) o (same o);
  }
    where
      same : (o : ℕ) → header_at (with_fresh m made ts) o ≡ header_at (candidate_with program m live claims ts) o
      same o = sym (get_or-map header (with_fresh m made ts).objects o None)
          ∙ ap (λ (hs : List (Option Header)). get_or hs o None) (all_headers made ts k)
          ∙ get_or-map header (candidate_with program m live claims ts).objects o None

  count_headers : (xs : List (Option Object)) → count_by is_some (map header xs) ≡ count_by is_some xs
  count_headers [] = refl
  count_headers (x ∷ xs) =
      sum_by-cons (λ (h : Option Header). cond (is_some h) 1 0) (header x) (map header xs)
      ∙ ap (λ b. cond b 1 0 + count_by is_some (map header xs)) (there x)
      ∙ ap (λ n. cond (is_some x) 1 0 + n) (count_headers xs)
      ∙ sym (sum_by-cons (λ (o : Option Object). cond (is_some o) 1 0) x xs)
    where
      there : (x : Option Object) → is_some (header x) ≡ is_some x
      there None = refl
      there (Some ob) = refl

  pub made_count : (made : ModelData) (ts : List Term) → KeepsWhere m live made → length ts + length m.objects ≤ 2 ^ 64
      → live_count (candidate_with program m live claims ts) ≡ live_count made + length ts
  made_count made ts k few =
      sym (count_headers (candidate_with program m live claims ts).objects)
      ∙ ap (λ (hs : List (Option Header)). count_by is_some hs) (sym (all_headers made ts k))
      ∙ count_headers (with_fresh m made ts).objects
      ∙ live_new made ts (unused_ids m (length ts)) (enough_ids m (length ts) few)
