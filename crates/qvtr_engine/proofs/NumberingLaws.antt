-- What is read in the order of the words, in the order of the script.
use Rattle.std.proofs.Common.{◌≡◌, ◌≢◌, ℕ, zero, suc, ◌+◌, ◌<◌, Bool, true, false, cond, List, [], ◌∷◌, ◌++◌, length, take, drop, map, refl, sym, ◌∙◌, ap, subst, arith, get_or, true≢false, Option, Some, None}
use Rattle.std.specs.Prelude.{◌||◌, not, filter, chars, is_some, slice_get, Contains, All}
use Rattle.std.specs.Option.{option_map, unwrap_or}
use Rattle.std.specs.List.{AllByRecursion}
use Rattle.std.specs.Set.{is_member}
use Rattle.std.proofs.lemmas.Bool.{false_from_ne_true}
use Rattle.std.proofs.lemmas.List.{map-append, take-append-drop}
use Rattle.std.proofs.lemmas.List.Elements.{All-contains, All-from_recursion, recursion_from_All, Contains-get_or, Contains-append_left, Contains-append_right, Contains-push}
use Rattle.std.proofs.lemmas.Option.{slice_get-map, none-some}
use Rattle.mof_metamodel.specs.declared.desc.MetaDesc.{MetaDesc}
use Rattle.mof_metamodel.specs.Characters.{same_name}
use Rattle.object_tables.specs.Models.{ModelData}
use Rattle.qv_syntax.specs.declared.script.ModelTree.{ModelTree}
use Rattle.qv_syntax.specs.declared.script.Script.{Script}
use Rattle.ocl_environments.specs.Environments.{no_meta}
use Rattle.script_scopes.specs.Declarations.{IsRepeated, global_names, relation_names, queries_of}
use Rattle.script_scopes.specs.Environments.{metamodel_names}
use Rattle.script_scopes.specs.ScriptNames.{model_names, meta_names, written_names, script_names}
use Rattle.script_scopes.proofs.CallRowLaws.{among_some}
use Rattle.mof_metamodel.proofs.Facts.{contains_at}
use Rattle.script_scopes.proofs.MemberLemmas.{once_has, has_once}
use Rattle.script_scopes.proofs.NameLemmas.{same_is, is_same, has_name, name_had}
use Rattle.script_scopes.proofs.RepeatLemmas.{at_left}
use Rattle.script_variables.proofs.NameOrderLaws.{repeated_left}
use Rattle.qvtr_types.proofs.well_formed.Numbers.{AreApart, once_apart}
use Rattle.qvtr_engine.specs.declared.numbering_inputs.Found.{Found}
use Rattle.qvtr_engine.specs.CheckWords.{Bound, CheckWords}
use Rattle.qvtr_engine.specs.CheckedNames.{NamesFit, name_of, target_of, given_names}
use Rattle.qvtr_engine.specs.CheckedMetamodels.{metamodel_files, numbered_metas}
use Rattle.qvtr_engine.specs.CheckedModels.{model_files, no_model, numbered_models}
use Rattle.qvtr_engine.specs.NamedFiles.{named_item}
use Rattle.qvtr_engine.specs.Target.{path_named, target_path}
use Rattle.qvtr_engine.specs.FoundFiles.{items_of, names_of, item_named, items_named, StandsAt}
use Rattle.qvtr_engine.specs.Names.{is_among}
use Rattle.std.proofs.lemmas.Bool.{or_right}
use Rattle.qvtr_engine.proofs.StopLaws.{among_first}
use Rattle.qvtr_engine.proofs.RequestLaws.{item_at, take_at, drop_at}

-- ---- names that stand once

pub none_before : (names : List (List ℕ)) (i : ℕ) (name : List ℕ) → AreApart names → slice_get names i ≡ Some name → ¬ Contains (take i names) name
none_before names i name apart at has =
    let (j, there) = among_some (take i names) name has in
    let (below, left) = before names i j name there in
    apart name (record { first = j; second = i; order = below; one = left; other = at })
  where
    before : (xs : List (List ℕ)) (i j : ℕ) (x : List ℕ) → slice_get (take i xs) j ≡ Some x → (j < i) × (slice_get xs j ≡ Some x)
    before xs zero j x e = absurd (none-some x e)
    before [] (suc i) j x e = absurd (none-some x e)
    before (y ∷ xs) (suc i) zero x e = (omega arith, e)
    before (y ∷ xs) (suc i) (suc j) x e = let (l, at) = before xs i j x e in (omega (arith, l), at)

pub name_at : (models : List ModelTree) (i : ℕ) (m : ModelTree) → i < length models → m ≡ get_or models i m → slice_get (model_names models) i ≡ Some m.name.text
name_at models i m l e =
    slice_get-map (λ (x : ModelTree). x.name.text) models i ∙ ap (option_map (λ (x : ModelTree). x.name.text)) (item_at models i m l e)

-- ---- what has a name

module _ {A : Type 0} where
  pub some_named : (found : List (Found A)) (name : List ℕ) → is_some (item_named found name) ≡ is_member same_name (names_of found) name
  some_named [] name = refl
  some_named (f ∷ found) name =
      elim (same_name name (chars f.name.now)) as (λ b. is_some (cond {A = Option A} b (Some f.item) (item_named found name)) ≡ (b || is_member same_name (names_of found) name)) [
        | true ↦ refl
        | false ↦ some_named found name
      ]

  -- ---- it is taken out

  pub named_here : (f : Found A) (found : List (Found A)) (name : List ℕ) → same_name name (chars f.name.now) ≡ true → item_named (f ∷ found) name ≡ Some f.item
  named_here f found name e = ap (λ b. cond {A = Option A} b (Some f.item) (item_named found name)) e

  pub named_later : (f : Found A) (found : List (Found A)) (name : List ℕ) → same_name name (chars f.name.now) ≡ false → item_named (f ∷ found) name ≡ item_named found name
  named_later f found name e = ap (λ b. cond {A = Option A} b (Some f.item) (item_named found name)) e

  -- what has another name is found without it
  pub named_without : (before behind : List (Found A)) (f : Found A) (name : List ℕ) → same_name name (chars f.name.now) ≡ false
      → item_named (before ++ behind) name ≡ item_named (before ++ f ∷ behind) name
  named_without [] behind f name e = sym (named_later f behind name e)
  named_without (x ∷ before) behind f name e =
      elim (same_name name (chars x.name.now)) as (λ b. cond {A = Option A} b (Some x.item) (item_named (before ++ behind) name)
      ≡ cond {A = Option A} b (Some x.item) (item_named (before ++ f ∷ behind) name)) [
        | true ↦ refl
        | false ↦ named_without before behind f name e
      ]

  pub others_kept : (found rest : List (Found A)) (i : ℕ) (f : Found A) (name other : List ℕ) → slice_get found i ≡ Some f → same_name name (chars f.name.now) ≡ true
      → rest ≡ take i found ++ drop (i + 1) found → other ≢ name → item_named rest other ≡ item_named found other
  others_kept found rest i f name other at named is apart =
      let differs : same_name other (chars f.name.now) ≡ false = false_from_ne_true (same_name other (chars f.name.now)) (λ same.
      apart (same_is other (chars f.name.now) same ∙ sym (same_is name (chars f.name.now) named))) in
      ap (λ (fs : List (Found A)). item_named fs other) is ∙ named_without (take i found) (drop (i + 1) found) f other differs
      ∙ ap (λ (fs : List (Found A)). item_named fs other) (sym (ap (λ (fs : List (Found A)). take i found ++ fs) (drop_at found i f at)) ∙ take-append-drop i found)

  pub others_taken : (given found rest : List (Found A)) (i : ℕ) (name other : List ℕ) → given ≡ found → StandsAt given name i
      → rest ≡ take i found ++ drop (i + 1) found → other ≢ name → item_named rest other ≡ item_named found other
  others_taken given found rest i name other same at is apart =
      let there : slice_get found i ≡ Some at.entry = subst (λ (fs : List (Found A)). slice_get fs i ≡ Some at.entry) same at.there in
      others_kept found rest i at.entry name other there at.named is apart

  -- ---- it is looked for

  pub stands_here : (found : List (Found A)) (i : ℕ) (f : Found A) (name : List ℕ) → slice_get found i ≡ Some f → same_name (chars f.name.now) name ≡ true
      → item_named (drop i found) name ≡ item_named found name → StandsAt found name i
  stands_here found i f name at same h =
      let named : same_name name (chars f.name.now) ≡ true = is_same name (chars f.name.now) (sym (same_is (chars f.name.now) name same)) in
      record {
        entry = f;
        there = at;
        named = named;
        first = sym h ∙ ap (λ (fs : List (Found A)). item_named fs name) (drop_at found i f at) ∙ named_here f (drop (i + 1) found) name named;
      }

  pub still_left : (found : List (Found A)) (i : ℕ) (f : Found A) (name : List ℕ) → slice_get found i ≡ Some f → same_name (chars f.name.now) name ≡ false
      → item_named (drop i found) name ≡ item_named found name → item_named (drop (i + 1) found) name ≡ item_named found name
  still_left found i f name at other h =
      let differs : same_name name (chars f.name.now) ≡ false = false_from_ne_true (same_name name (chars f.name.now)) (λ same.
      true≢false (sym (is_same (chars f.name.now) name (sym (same_is name (chars f.name.now) same))) ∙ other)) in
      sym (ap (λ (fs : List (Found A)). item_named fs name) (drop_at found i f at) ∙ named_later f (drop (i + 1) found) name differs) ∙ h

  -- ---- one name after the other

  -- what has none of these names is still there
  abbrev pub Remains : List (Found A) → List (Found A) → List (List ℕ) → Type 0
  Remains all found names = (name : List ℕ) → ¬ Contains names name → item_named found name ≡ item_named all name

  pub still_named : (all found : List (Found A)) (names : List (List ℕ)) (i : ℕ) (name : List ℕ) → AreApart names → slice_get names i ≡ Some name
      → Remains all found (take i names) → item_named found name ≡ item_named all name
  still_named all found names i name apart at h = h name (none_before names i name apart at)

  pub remains_more : (all found rest : List (Found A)) (names : List (List ℕ)) (i : ℕ) (name : List ℕ) → slice_get names i ≡ Some name
      → Remains all found (take i names) → ((other : List ℕ) → other ≢ name → item_named rest other ≡ item_named found other) → Remains all rest (take (i + 1) names)
  remains_more all found rest names i name at h others q new =
      let more : take (i + 1) names ≡ take i names ++ name ∷ [] = take_at names i name at in
      let last : Contains (take (i + 1) names) name = subst (λ (ns : List (List ℕ)). Contains ns name) (sym more) (Contains-push (take i names) name) in
      others q (λ same. new (subst (Contains (take (i + 1) names)) (sym same) last))
      ∙ h q (λ has. new (subst (λ (ns : List (List ℕ)). Contains ns q) (sym more) (Contains-append_left (take i names) (name ∷ []) q has)))

  pub numbered_more : (other : A) (all : List (Found A)) (names : List (List ℕ)) (i : ℕ) (name : List ℕ) (item : A) → slice_get names i ≡ Some name
      → item_named all name ≡ Some item → items_named other all (take i names) ++ item ∷ [] ≡ items_named other all (take (i + 1) names)
  numbered_more other all names i name item at is =
      ap (λ x. items_named other all (take i names) ++ unwrap_or x other ∷ []) (sym is)
      ∙ sym (ap (items_named other all) (take_at names i name at) ∙ map-append (λ n. unwrap_or (item_named all n) other) (take i names) (name ∷ []))

  -- a name that is asked for has something
  pub not_missing : (all found : List (Found A)) (names : List (List ℕ)) (i : ℕ) (name : List ℕ) → AreApart names → slice_get names i ≡ Some name
      → Remains all found (take i names) → All (λ n. is_some (item_named all n) ≡ true) names → item_named found name ≡ None → ⊥
  not_missing all found names i name apart at h each none =
      let has : is_some (item_named all name) ≡ true = All-contains (λ n. is_some (item_named all n) ≡ true) names name each (contains_at names i name at) in
      true≢false (sym has ∙ ap is_some (sym (still_named all found names i name apart at h) ∙ none))

-- ---- the files of the words have the names of the script

-- a name that passes a test is among those that do
kept_name : (test : List ℕ → Bool) (bs : List Bound) (name : List ℕ) → test name ≡ true → is_member same_name (map name_of bs) name ≡ true
    → is_member same_name (map name_of (filter (λ b. test (name_of b)) bs)) name ≡ true
kept_name test [] name passes h = h
kept_name test (b ∷ bs) name passes h = by (λ g. kept_name test bs name passes g) (same_name name (name_of b)) refl (test (name_of b)) refl
  where
    by : (is_member same_name (map name_of bs) name ≡ true → is_member same_name (map name_of (filter (λ x. test (name_of x)) bs)) name ≡ true)
        → (same : Bool) → same_name name (name_of b) ≡ same → (kept : Bool) → test (name_of b) ≡ kept
        → is_member same_name (map name_of (cond kept (b ∷ filter (λ x. test (name_of x)) bs) (filter (λ x. test (name_of x)) bs))) name ≡ true
    by later true e true k = ap (λ t. t || is_member same_name (map name_of (filter (λ x. test (name_of x)) bs)) name) e
    by later true e false k = absurd (true≢false (sym (ap test (sym (same_is name (name_of b) e)) ∙ passes) ∙ k))
    by later false e true k = ap (λ t. t || is_member same_name (map name_of (filter (λ x. test (name_of x)) bs)) name) e ∙ later (sym (ap (λ t. t || is_member same_name (map name_of bs) name) e) ∙ h)
    by later false e false k = later (sym (ap (λ t. t || is_member same_name (map name_of bs) name) e) ∙ h)

-- a name of the script has a file
has_file : (w : CheckWords) (s : Script) → NamesFit w s → (name : List ℕ) → Contains (written_names s.models) name → is_member same_name (given_names w) name ≡ true
has_file w s fits name has = name_had (given_names w) name (All-contains (Contains (given_names w)) (script_names s.models) name fits.given (once_has (written_names s.models) name has))

pub has_meta_file : (w : CheckWords) (s : Script) → NamesFit w s
    → AllByRecursion (λ name. is_member same_name (map name_of (metamodel_files w s)) name ≡ true) (metamodel_names s)
has_meta_file w s fits = recursion_from_All (λ name. is_member same_name (map name_of (metamodel_files w s)) name ≡ true) (metamodel_names s) (λ k d l.
    let name : List ℕ = get_or (metamodel_names s) k d in
    let has : Contains (metamodel_names s) name = Contains-get_or (metamodel_names s) k d l in
    kept_name (is_member same_name (metamodel_names s)) w.files name (name_had (metamodel_names s) name has)
    (has_file w s fits name (Contains-append_right (model_names s.models) (meta_names s.models) name (has_once (meta_names s.models) name has))))

has_some : {A : Type 0} (found : List (Found A)) (given names : List (List ℕ)) → names_of found ≡ given
    → AllByRecursion (λ name. is_member same_name given name ≡ true) names → AllByRecursion (λ name. is_some (item_named found name) ≡ true) names
has_some found given [] named h = tt
has_some found given (name ∷ names) named h =
    (some_named found name ∙ ap (λ (ns : List (List ℕ)). is_member same_name ns name) named ∙ h.0, has_some found given names named h.1)

pub metas_each : (w : CheckWords) (s : Script) → NamesFit w s → (found : List (Found MetaDesc)) → names_of found ≡ map name_of (metamodel_files w s)
    → All (λ name. is_some (item_named found name) ≡ true) (metamodel_names s)
metas_each w s fits found named =
    All-from_recursion (λ name. is_some (item_named found name) ≡ true) (metamodel_names s)
    (has_some found (map name_of (metamodel_files w s)) (metamodel_names s) named (has_meta_file w s fits))

-- the names of models are none of metamodels, where all names are distinct

behind : (xs ys : List (List ℕ)) (k : ℕ) (y : List ℕ) → slice_get ys k ≡ Some y → (j : ℕ) × (j ≡ length xs + k) × (slice_get (xs ++ ys) j ≡ Some y)
behind [] ys k y h = let here : k ≡ 0 + k = omega arith in (k, here, h)
behind (x ∷ xs) ys k y h = let (j, e, g) = behind xs ys k y h in let here : suc j ≡ suc (length xs) + k = omega (arith, e) in (suc j, here, g)

twice : (xs ys : List (List ℕ)) (name : List ℕ) → Contains xs name → Contains ys name → IsRepeated (xs ++ ys) name
twice xs ys name (i, below, at) there =
    let (k, is) = among_some ys name there in
    let (j, place, other) = behind xs ys k name is in
    let less : i < j = omega (arith, below, place) in
    record { first = i; second = j; order = less; one = at_left xs ys i name below at; other = other }

abbrev pub AreDistinct : Script → Type 0
AreDistinct s = (name : List ℕ) → ¬ IsRepeated (global_names s) name

pub models_distinct : (s : Script) → AreDistinct s → (name : List ℕ) → ¬ IsRepeated (model_names s.models) name
models_distinct s distinct name h =
    distinct name (repeated_left (model_names s.models ++ metamodel_names s ++ relation_names s) (map (λ q. q.name.text) (queries_of s)) name
    (repeated_left (model_names s.models ++ metamodel_names s) (relation_names s) name (repeated_left (model_names s.models) (metamodel_names s) name h)))

no_metamodel : (s : Script) → AreDistinct s → (name : List ℕ) → Contains (model_names s.models) name → (b : Bool) → is_member same_name (metamodel_names s) name ≡ b → not b ≡ true
no_metamodel s distinct name has false e = refl
no_metamodel s distinct name has true e =
    absurd (distinct name (repeated_left (model_names s.models ++ metamodel_names s ++ relation_names s) (map (λ q. q.name.text) (queries_of s)) name
    (repeated_left (model_names s.models ++ metamodel_names s) (relation_names s) name
    (twice (model_names s.models) (metamodel_names s) name has (has_name (metamodel_names s) name e)))))

pub models_each : (w : CheckWords) (s : Script) → NamesFit w s → AreDistinct s → (found : List (Found ModelData)) → names_of found ≡ map name_of (model_files w s)
    → All (λ name. is_some (item_named found name) ≡ true) (model_names s.models)
models_each w s fits distinct found named = λ k d l.
    let name : List ℕ = get_or (model_names s.models) k d in
    let has : Contains (model_names s.models) name = Contains-get_or (model_names s.models) k d l in
    some_named found name ∙ ap (λ (ns : List (List ℕ)). is_member same_name ns name) named
    ∙ kept_name (λ n. not (is_member same_name (metamodel_names s) n)) w.files name
    (no_metamodel s distinct name has (is_member same_name (metamodel_names s) name) refl)
    (has_file w s fits name (Contains-append_left (model_names s.models) (meta_names s.models) name has))

-- ---- the target's file is one of those of the models

first_here : (b : Bound) (bs : List Bound) → Contains (b ∷ bs) b
first_here b bs = Contains-append_left (b ∷ []) bs b (Contains-push [] b)

-- the first word of a name is among those that pass a test of names, if the name does
pub record IsPathAmong (bs : List Bound) (path : List ℕ) : Type 0 where
  pub word : Bound
  pub has : Contains bs word
  pub is : word.path ≡ path
  pub among : is_among (map (λ b. b.path) bs) path ≡ true

later_path : (b : Bound) (bs : List Bound) (path : List ℕ) → IsPathAmong bs path → IsPathAmong (b ∷ bs) path
later_path b bs path h = record {
  word = h.word;
  has = Contains-append_right (b ∷ []) bs h.word h.has;
  is = h.is;
  among = or_right (same_name path b.path) _ h.among;
}

path_found : (test : List ℕ → Bool) (bs : List Bound) (name : List ℕ) → test name ≡ true → is_member same_name (map name_of bs) name ≡ true
    → IsPathAmong (filter (λ b. test (name_of b)) bs) (path_named bs name)
path_found test [] name passes h = absurd (true≢false (sym h))
path_found test (b ∷ bs) name passes h = by (λ has. path_found test bs name passes has) (same_name name (name_of b)) refl (test (name_of b)) refl
  where
    by : (is_member same_name (map name_of bs) name ≡ true → IsPathAmong (filter (λ x. test (name_of x)) bs) (path_named bs name))
        → (same : Bool) → same_name name (name_of b) ≡ same → (kept : Bool) → test (name_of b) ≡ kept
        → IsPathAmong (cond kept (b ∷ filter (λ x. test (name_of x)) bs) (filter (λ x. test (name_of x)) bs)) (cond same b.path (path_named bs name))
    by later true e true k =
        let rest : List Bound = filter (λ x. test (name_of x)) bs in
        record { word = b; has = first_here b rest; is = refl; among = among_first b.path (map (λ (x : Bound). x.path) rest) }
    by later true e false k = absurd (true≢false (sym (ap test (sym (same_is name (name_of b) e)) ∙ passes) ∙ k))
    by later false e true k = later_path b (filter (λ x. test (name_of x)) bs) (path_named bs name) (later (sym (ap (λ t. t || is_member same_name (map name_of bs) name) e) ∙ h))
    by later false e false k = later (sym (ap (λ t. t || is_member same_name (map name_of bs) name) e) ∙ h)

pub target_among : (w : CheckWords) (s : Script) → NamesFit w s → AreDistinct s → IsPathAmong (model_files w s) (target_path w)
target_among w s fits distinct =
    path_found (λ n. not (is_member same_name (metamodel_names s) n)) w.files (target_of w)
    (no_metamodel s distinct (target_of w) fits.aimed (is_member same_name (metamodel_names s) (target_of w)) refl)
    (has_file w s fits (target_of w) (Contains-append_left (model_names s.models) (meta_names s.models) (target_of w) fits.aimed))

pub metas_distinct : (s : Script) (name : List ℕ) → ¬ IsRepeated (metamodel_names s) name
metas_distinct s = once_apart (meta_names s.models)

-- ---- the same by the files of the words

head_same : {X : Type 0} (x y : X) (xs ys : List X) → x ∷ xs ≡ y ∷ ys → x ≡ y
head_same x y xs ys e = cc

tail_same : {X : Type 0} (x y : X) (xs ys : List X) → x ∷ xs ≡ y ∷ ys → xs ≡ ys
tail_same x y xs ys e = cc

none_same : {X : Type 0} (x : X) (xs : List X) → [] ≡ x ∷ xs → ⊥
none_same x xs e = cc

item_is : {A : Type 0} (other : A) (bs : List Bound) (found : List (Found A)) (name : List ℕ) → names_of found ≡ map name_of bs
    → unwrap_or (item_named found name) other ≡ named_item other bs (items_of found) name
item_is other [] [] name e = refl
item_is other [] (f ∷ found) name e = absurd (none_same _ _ (sym e))
item_is other (b ∷ bs) [] name e = absurd (none_same _ _ e)
item_is {A = A} other (b ∷ bs) (f ∷ found) name e =
    let same : chars f.name.now ≡ name_of b = head_same (chars f.name.now) (name_of b) (names_of found) (map name_of bs) e in
    let more = item_is other bs found name (tail_same (chars f.name.now) (name_of b) (names_of found) (map name_of bs) e) in
    ap (λ n. unwrap_or (cond {A = Option A} (same_name name n) (Some f.item) (item_named found name)) other) same
    ∙ elim (same_name name (name_of b)) as (λ t. unwrap_or (cond {A = Option A} t (Some f.item) (item_named found name)) other
    ≡ cond t f.item (named_item other bs (items_of found) name)) [ true ↦ refl | false ↦ more ]

map_same : {X Y : Type 0} (f g : X → Y) (xs : List X) → ((x : X) → f x ≡ g x) → map f xs ≡ map g xs
map_same f g [] h = refl
map_same f g (x ∷ xs) h = λ i. h x i ∷ map_same f g xs h i

items_numbered : {A : Type 0} (other : A) (bs : List Bound) (found : List (Found A)) (names : List (List ℕ)) → names_of found ≡ map name_of bs
    → items_named other found names ≡ map (named_item other bs (items_of found)) names
items_numbered other bs found names named =
    map_same (λ name. unwrap_or (item_named found name) other) (named_item other bs (items_of found)) names (λ name. item_is other bs found name named)

pub metas_numbered : (w : CheckWords) (s : Script) (found : List (Found MetaDesc)) → names_of found ≡ map name_of (metamodel_files w s)
    → items_named no_meta found (metamodel_names s) ≡ numbered_metas w s (items_of found)
metas_numbered w s found named = items_numbered no_meta (metamodel_files w s) found (metamodel_names s) named

pub models_numbered : (w : CheckWords) (s : Script) (found : List (Found ModelData)) → names_of found ≡ map name_of (model_files w s)
    → items_named no_model found (model_names s.models) ≡ numbered_models w s (items_of found)
models_numbered w s found named = items_numbered no_model (model_files w s) found (model_names s.models) named
