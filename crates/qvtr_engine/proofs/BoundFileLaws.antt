-- Words that bind names to paths, and what stands at them by its name, where that at one path is another.
use Rattle.std.proofs.Common.{◌≡◌, ◌≢◌, ◌⊎◌, ℕ, zero, suc, Bool, true, false, cond, List, [], ◌∷◌, map, refl, sym, ◌∙◌, ap, ap₂, subst, arith, true≢false, inl, inr, Some, Contains}
use Rattle.std.specs.Prelude.{◌&&◌, ◌||◌, not, filter, slice_get, slice_set}
use Rattle.std.specs.List.{AllZip, list_all}
use Rattle.std.specs.Set.{is_member}
use Rattle.std.proofs.lemmas.Bool.{and_parts, false_from_ne_true, not-true}
use Rattle.std.proofs.lemmas.Option.{same_Some, none-some}
use Rattle.mof_metamodel.specs.Characters.{same_name}
use Rattle.mof_metamodel.proofs.Facts.{nothing_in, contains_first}
use Rattle.object_tables.specs.Models.{ModelData}
use Rattle.model_assembly.proofs.assembling.ListLaws.{in_cons, contains_tail}
use Rattle.qvtr_engine.specs.CheckWords.{Bound}
use Rattle.qvtr_engine.specs.CheckedModels.{no_model}
use Rattle.qvtr_engine.specs.CheckedNames.{name_of}
use Rattle.qvtr_engine.specs.NamedFiles.{named_item}
use Rattle.qvtr_engine.specs.Paths.{are_apart, are_all_apart, is_new_of}
use Rattle.qvtr_engine.specs.Target.{path_named}
use Rattle.qvtr_engine.proofs.ReadingLaws.{same_is, same_holds}

-- ---- lists

-- what passes a test is in the list, and passes it
pub kept_has : {X : Type 0} (test : X → Bool) (xs : List X) (x : X) → Contains (filter test xs) x → Contains xs x × (test x ≡ true)
kept_has test [] x c = absurd (nothing_in x c)
kept_has {X = X} test (y ∷ xs) x c = by (λ d. kept_has test xs x d) (test y) refl c
  where
    here : (t : test y ≡ true) → (y ≡ x) ⊎ (Contains xs x × (test x ≡ true)) → Contains (y ∷ xs) x × (test x ≡ true)
    here t (inl e) = (subst (Contains (y ∷ xs)) e (contains_first y xs), subst (λ (z : X). test z ≡ true) e t)
    here t (inr h) = (contains_tail y x xs h.0, h.1)

    behind : (Contains (filter test xs) x → Contains xs x × (test x ≡ true)) → (y ≡ x) ⊎ Contains (filter test xs) x → (y ≡ x) ⊎ (Contains xs x × (test x ≡ true))
    behind later (inl e) = inl e
    behind later (inr d) = inr (later d)

    by : (Contains (filter test xs) x → Contains xs x × (test x ≡ true)) → (t : Bool) → test y ≡ t → Contains (cond t (y ∷ filter test xs) (filter test xs)) x
        → Contains (y ∷ xs) x × (test x ≡ true)
    by later true t d = here t (behind later (in_cons y (filter test xs) x d))
    by later false t d = let h = later d in (contains_tail y x xs h.0, h.1)

-- what is said of each pair
pub zip_moved : {X Y : Type 0} (R S : X → Y → Type 0) (xs : List X) (ys : List Y) → ((x : X) (y : Y) → Contains xs x → R x y → S x y) → AllZip R xs ys → AllZip S xs ys
zip_moved R S [] [] h all = tt
zip_moved R S [] (y ∷ ys) h all = absurd all
zip_moved R S (x ∷ xs) [] h all = absurd all
zip_moved R S (x ∷ xs) (y ∷ ys) h all = (h x y (contains_first x xs) all.0, zip_moved R S xs ys (λ z w c. h z w (contains_tail x z xs c)) all.1)

-- ---- paths that are apart

apart_differ : (p q : List ℕ) → are_apart p q ≡ true → p ≢ q
apart_differ p q apart same = true≢false (sym (same_holds p q same) ∙ not-true (same_name p q) (by (not (same_name p q)) (not (is_new_of p q)) (not (is_new_of q p)) apart))
  where
    by : (a b c : Bool) → (a && b && c) ≡ true → a ≡ true
    by true b c e = refl
    by false b c e = e

pub all_differ : (p : List ℕ) (bs : List Bound) (b : Bound) → list_all (are_apart p) (map (λ x. x.path) bs) ≡ true → Contains bs b → p ≢ b.path
all_differ p [] b apart has = absurd (nothing_in b has)
all_differ p (x ∷ bs) b apart has =
    let parts = and_parts (are_apart p x.path) (list_all (are_apart p) (map (λ y. y.path) bs)) apart in
    elim (in_cons x bs b has) [
      | inl e ↦ apart_differ p b.path (subst (λ (y : Bound). are_apart p y.path ≡ true) e parts.0)
      | inr later ↦ all_differ p bs b parts.1 later
    ]

-- a path is that of one word
pub one_word : (bs : List Bound) → are_all_apart (map (λ x. x.path) bs) ≡ true → (b c : Bound) → Contains bs b → Contains bs c → b.path ≡ c.path → b ≡ c
one_word [] apart b c hb hc same = absurd (nothing_in b hb)
one_word (x ∷ bs) apart b c hb hc same =
    let parts = and_parts (list_all (are_apart x.path) (map (λ y. y.path) bs)) (are_all_apart (map (λ y. y.path) bs)) apart in
    by parts.0 (λ kb kc. one_word bs parts.1 b c kb kc same) (in_cons x bs b hb) (in_cons x bs c hc)
  where
    by : list_all (are_apart x.path) (map (λ y. y.path) bs) ≡ true → (Contains bs b → Contains bs c → b ≡ c) → (x ≡ b) ⊎ Contains bs b → (x ≡ c) ⊎ Contains bs c → b ≡ c
    by first later (inl e) (inl f) = sym e ∙ f
    by first later (inl e) (inr k) = absurd (all_differ x.path bs c first k (ap (λ (y : Bound). y.path) e ∙ same))
    by first later (inr h) (inl f) = absurd (all_differ x.path bs b first h (ap (λ (y : Bound). y.path) f ∙ sym same))
    by first later (inr h) (inr k) = later h k

-- ---- the word of a name

pub record IsWordOf (bs : List Bound) (name path : List ℕ) : Type 0 where
  pub word : Bound
  pub has : Contains bs word
  pub is : word.path ≡ path
  pub named : name_of word ≡ name

later_word : (b : Bound) (bs : List Bound) (name path : List ℕ) → IsWordOf bs name path → IsWordOf (b ∷ bs) name path
later_word b bs name path h = record { word = h.word; has = contains_tail b h.word bs h.has; is = h.is; named = h.named }

-- the first word of the name has its path
pub word_found : (bs : List Bound) (name : List ℕ) → is_member same_name (map name_of bs) name ≡ true → IsWordOf bs name (path_named bs name)
word_found [] name has = absurd (true≢false (sym has))
word_found (b ∷ bs) name has = by (λ h. word_found bs name h) (same_name name (name_of b)) refl
  where
    by : (is_member same_name (map name_of bs) name ≡ true → IsWordOf bs name (path_named bs name)) → (t : Bool) → same_name name (name_of b) ≡ t
        → IsWordOf (b ∷ bs) name (cond t b.path (path_named bs name))
    by later true e = record { word = b; has = contains_first b bs; is = refl; named = sym (same_is name (name_of b) e) }
    by later false e = later_word b bs name (path_named bs name) (later (sym (ap (λ t. t || is_member same_name (map name_of bs) name) e) ∙ has))

-- where words are left out by their names alone, the path of a name that stays is the same
pub path_left : (test : List ℕ → Bool) (bs : List Bound) (name : List ℕ) → test name ≡ true → path_named (filter (λ b. test (name_of b)) bs) name ≡ path_named bs name
path_left test [] name passes = refl
path_left test (b ∷ bs) name passes = by (path_left test bs name passes) (same_name name (name_of b)) refl (test (name_of b)) refl
  where
    rest : List Bound
    rest = filter (λ x. test (name_of x)) bs

    by : path_named (filter (λ x. test (name_of x)) bs) name ≡ path_named bs name → (same : Bool) → same_name name (name_of b) ≡ same → (kept : Bool) → test (name_of b) ≡ kept
        → path_named (cond kept (b ∷ filter (λ x. test (name_of x)) bs) (filter (λ x. test (name_of x)) bs)) name ≡ cond same b.path (path_named bs name)
    by later true e true k = ap (λ t. cond t b.path (path_named (filter (λ x. test (name_of x)) bs) name)) e
    by later true e false k = absurd (true≢false (sym (ap test (sym (same_is name (name_of b) e)) ∙ passes) ∙ k))
    by later false e true k = ap (λ t. cond t b.path (path_named (filter (λ x. test (name_of x)) bs) name)) e ∙ later
    by later false e false k = later

-- ---- models, of which the one at a path is another

abbrev pub replaced : List ℕ → ModelData → List Bound → List ModelData → List ModelData
replaced path n [] models = []
replaced path n (b ∷ bs) [] = []
replaced path n (b ∷ bs) (m ∷ models) = cond (same_name b.path path) n m ∷ replaced path n bs models

-- the one of a name whose words are elsewhere is the same
pub named_elsewhere : (path : List ℕ) (n : ModelData) (bs : List Bound) (models : List ModelData) (name : List ℕ) → ((b : Bound) → Contains bs b → name_of b ≡ name → b.path ≢ path)
    → named_item no_model bs (replaced path n bs models) name ≡ named_item no_model bs models name
named_elsewhere path n [] models name differs = refl
named_elsewhere path n (b ∷ bs) [] name differs = refl
named_elsewhere path n (b ∷ bs) (m ∷ models) name differs =
    by (named_elsewhere path n bs models name (λ c has is. differs c (contains_tail b c bs has) is)) (same_name name (name_of b)) refl
  where
    by : named_item no_model bs (replaced path n bs models) name ≡ named_item no_model bs models name → (t : Bool) → same_name name (name_of b) ≡ t
        → cond t (cond (same_name b.path path) n m) (named_item no_model bs (replaced path n bs models) name) ≡ cond t m (named_item no_model bs models name)
    by later true e =
        ap (λ t. cond t n m) (false_from_ne_true (same_name b.path path) (λ same. differs b (contains_first b bs) (sym (same_is name (name_of b) e)) (same_is b.path path same)))
    by later false e = later

-- that of a name whose first word has the path is the other one
pub named_there : (R : Bound → ModelData → Type 0) (path : List ℕ) (n : ModelData) (bs : List Bound) (models : List ModelData) (name : List ℕ) → AllZip R bs models
    → is_member same_name (map name_of bs) name ≡ true → path_named bs name ≡ path → named_item no_model bs (replaced path n bs models) name ≡ n
named_there R path n [] models name all has is = absurd (true≢false (sym has))
named_there R path n (b ∷ bs) [] name all has is = absurd all
named_there R path n (b ∷ bs) (m ∷ models) name all has is =
    by (λ h at. named_there R path n bs models name all.1 h at) (same_name name (name_of b)) refl
  where
    by : (is_member same_name (map name_of bs) name ≡ true → path_named bs name ≡ path → named_item no_model bs (replaced path n bs models) name ≡ n) → (t : Bool) → same_name name (name_of b) ≡ t
        → cond t (cond (same_name b.path path) n m) (named_item no_model bs (replaced path n bs models) name) ≡ n
    by later true e = ap (λ t. cond t n m) (same_holds b.path path (sym (ap (λ t. cond t b.path (path_named bs name)) e) ∙ is))
    by later false e =
        later (sym (ap (λ t. t || is_member same_name (map name_of bs) name) e) ∙ has) (sym (ap (λ t. cond t b.path (path_named bs name)) e) ∙ is)

-- what is said of each model is said of that of a name, with a word of the name
pub record IsNamed (R : Bound → ModelData → Type 0) (bs : List Bound) (name path : List ℕ) (m : ModelData) : Type 0 where
  pub word : Bound
  pub has : Contains bs word
  pub at : word.path ≡ path
  pub is : R word m

later_named : (R : Bound → ModelData → Type 0) (b : Bound) (bs : List Bound) (name path : List ℕ) (m : ModelData) → IsNamed R bs name path m → IsNamed R (b ∷ bs) name path m
later_named R b bs name path m h = record { word = h.word; has = contains_tail b h.word bs h.has; at = h.at; is = h.is }

pub named_model : (R : Bound → ModelData → Type 0) (bs : List Bound) (models : List ModelData) (name : List ℕ) → AllZip R bs models
    → is_member same_name (map name_of bs) name ≡ true → IsNamed R bs name (path_named bs name) (named_item no_model bs models name)
named_model R [] models name all has = absurd (true≢false (sym has))
named_model R (b ∷ bs) [] name all has = absurd all
named_model R (b ∷ bs) (m ∷ models) name all has = by (λ h. named_model R bs models name all.1 h) (same_name name (name_of b)) refl
  where
    by : (is_member same_name (map name_of bs) name ≡ true → IsNamed R bs name (path_named bs name) (named_item no_model bs models name)) → (t : Bool) → same_name name (name_of b) ≡ t
        → IsNamed R (b ∷ bs) name (cond t b.path (path_named bs name)) (cond t m (named_item no_model bs models name))
    by later true e = record { word = b; has = contains_first b bs; at = refl; is = all.0 }
    by later false e =
        later_named R b bs name (path_named bs name) (named_item no_model bs models name) (later (sym (ap (λ t. t || is_member same_name (map name_of bs) name) e) ∙ has))

-- ---- models by their numbers

-- what a list gives of names, where what it gives of one name is another
module _ (f g : List ℕ → ModelData) (name : List ℕ) (n : ModelData) (there : g name ≡ n) (elsewhere : (other : List ℕ) → other ≢ name → g other ≡ f other) where
  map_elsewhere : (names : List (List ℕ)) → ((j : ℕ) → slice_get names j ≡ Some name → ⊥) → map g names ≡ map f names
  map_elsewhere [] none = refl
  map_elsewhere (x ∷ names) none =
      ap₂ (λ (y : ModelData) (ys : List ModelData). y ∷ ys) (elsewhere x (λ same. none 0 (ap Some same))) (map_elsewhere names (λ j at. none (suc j) at))

  pub map_set : (names : List (List ℕ)) (i : ℕ) → slice_get names i ≡ Some name → ((j : ℕ) → slice_get names j ≡ Some name → j ≡ i) → map g names ≡ slice_set (map f names) i n
  map_set [] i at one = absurd (none-some name at)
  map_set (x ∷ names) zero at one =
      ap₂ (λ (y : ModelData) (ys : List ModelData). y ∷ ys) (ap g (same_Some x name at) ∙ there)
      (map_elsewhere names (λ j is. (let zero_is : suc j ≡ 0 = one (suc j) is in omega (arith, zero_is))))
  map_set (x ∷ names) (suc i) at one =
      ap₂ (λ (y : ModelData) (ys : List ModelData). y ∷ ys) (elsewhere x (λ same. (let zero_is : 0 ≡ suc i = one 0 (ap Some same) in omega (arith, zero_is))))
      (map_set names i at (λ j is. (let next : suc j ≡ suc i = one (suc j) is in omega (arith, next))))
