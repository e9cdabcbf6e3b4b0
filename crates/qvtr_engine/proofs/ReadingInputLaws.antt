-- Files that are read one after the other, where the files are told or not.
use Rattle.std.proofs.Common.{◌≡◌, ℕ, zero, suc, ◌+◌, ◌≤◌, Bool, true, false, cond, List, [], ◌∷◌, ◌++◌, map, take, refl, sym, ◌∙◌, ap, subst, append-nil, Option, Some, None}
use Rattle.std.specs.Prelude.{◌||◌, chars, filter, slice_get, IfSome}
use Rattle.std.specs.List.{AllZip}
use Rattle.std.proofs.lemmas.List.{map-append}
use Rattle.std.proofs.lemmas.List.Elements.{filter-append}
use Rattle.std.proofs.lemmas.Option.{none-some, same_Some}
use Rattle.vault_io.specs.Counts.{Rose}
use Rattle.vault_io.specs.Files.{Files}
use Rattle.mof_metamodel.specs.Metamodels.{same_name}
use Rattle.qvtr_engine.specs.declared.numbering_inputs.Found.{Found}
use Rattle.qvtr_engine.specs.declared.outcome.Stop.{Stop}
use Rattle.qvtr_engine.specs.CheckWords.{Bound, CheckWords, check_paths}
use Rattle.qvtr_engine.specs.CheckedNames.{name_of}
use Rattle.qvtr_engine.specs.FirstStops.{FirstStop}
use Rattle.qvtr_engine.specs.FoundFiles.{items_of, names_of}
use Rattle.qvtr_engine.specs.Names.{is_among}
use Rattle.qvtr_engine.specs.Reply.{Reply}
use Rattle.qvtr_engine.specs.Stops.{StoppedBy}
use Rattle.qvtr_engine.proofs.FirstLaws.{stop_at, one_more}
use Rattle.qvtr_engine.proofs.RequestLaws.{mapped_more, take_at}
use Rattle.qvtr_engine.proofs.StopLaws.{rose_from, among_front, stopped_wider}
use Rattle.std.proofs.lemmas.Bool.{or_right}

abbrev pub paths_of : List Bound → List (List ℕ)
paths_of bs = map (λ b. b.path) bs

-- ---- one file more

module _ {A : Type 0} where
  pub names_more : (bs : List Bound) (i : ℕ) (b : Bound) (found : List (Found A)) (f : Found A) → slice_get bs i ≡ Some b → chars f.name.now ≡ name_of b
      → names_of found ≡ map name_of (take i bs) → names_of (found ++ f ∷ []) ≡ map name_of (take (i + 1) bs)
  names_more bs i b found f at is h =
      map-append (λ (x : Found A). chars x.name.now) found (f ∷ []) ∙ mapped_more name_of bs i b (names_of found) (chars f.name.now) at is h

  module _ (Is : Files → Bound → A → Type 0) (bs : List Bound) (i : ℕ) (b : Bound) (found : List (Found A)) (f : Found A) (at : slice_get bs i ≡ Some b) where
    pub items_more : (told : Option Files) → IfSome told (λ files. AllZip (Is files) (take i bs) (items_of found)) → IfSome told (λ files. Is files b f.item)
        → IfSome told (λ files. AllZip (Is files) (take (i + 1) bs) (items_of (found ++ f ∷ [])))
    items_more None all is = tt
    items_more (Some files) all is =
        subst (AllZip (Is files) (take (i + 1) bs)) (sym (map-append (λ (x : Found A). x.item) found (f ∷ [])))
        (one_more (Is files) (λ x reply. ⊥) bs i (items_of found) b f.item at all is)

  -- ---- a file that stops the work

  module _ (Is : Files → Bound → A → Type 0) (Stops : Files → Bound → Reply → Type 0) (bs : List Bound) (i : ℕ) (b : Bound) (found : List (Found A))
      (at : slice_get bs i ≡ Some b) where
    first_stops : (told : Option Files) → IfSome told (λ files. AllZip (Is files) (take i bs) (items_of found))
        → IfSome told (λ files. (reply : Reply) → Stops files b reply → FirstStop (λ x. (y : A) × Is files x y) (Stops files) bs reply)
    first_stops None all = tt
    first_stops (Some files) all = λ reply st. stop_at (Is files) (Stops files) bs i (items_of found) b reply at all st

    path_among : (xs : List Bound) (k : ℕ) → slice_get xs k ≡ Some b → (path : List ℕ) → is_among (b.path ∷ []) path ≡ true → is_among (paths_of xs) path ≡ true
    path_among [] k e path h = absurd (none-some b e)
    path_among (x ∷ xs) zero e path h = among_front x.path (paths_of xs) path (subst (λ (y : Bound). is_among (y.path ∷ []) path ≡ true) (sym (same_Some x b e)) h)
    path_among (x ∷ xs) (suc k) e path h = or_right _ _ (path_among xs k e path h)

    pub first_stopped : (s : Stop) (told : Option Files) (before mid after : ℕ) → before ≤ mid → IfSome told (λ files. AllZip (Is files) (take i bs) (items_of found))
        → StoppedBy s told (λ files. Stops files b) (Rose mid after) (b.path ∷ [])
        → StoppedBy s told (λ files. FirstStop (λ x. (y : A) × Is files x y) (Stops files) bs) (Rose before after) (paths_of bs)
    first_stopped s told before mid after le all st =
        stopped_wider s told (λ files. Stops files b) (λ files. FirstStop (λ x. (y : A) × Is files x y) (Stops files) bs) (Rose mid after) (Rose before after) (b.path ∷ []) (paths_of bs)
        (first_stops told all) (rose_from before mid after le) (path_among bs i at) st

-- ---- files that are chosen from those of the words

pub chosen_more : (test : Bound → Bool) (bs : List Bound) (i : ℕ) (b : Bound) (out : List Bound) → slice_get bs i ≡ Some b → test b ≡ true
    → out ≡ filter test (take i bs) → out ++ b ∷ [] ≡ filter test (take (i + 1) bs)
chosen_more test bs i b out at passes h =
    ap (λ xs. xs ++ b ∷ []) h ∙ ap (λ t. filter test (take i bs) ++ cond t (b ∷ []) []) (sym passes)
    ∙ sym (ap (filter test) (take_at bs i b at) ∙ filter-append test (take i bs) (b ∷ []))

pub chosen_same : (test : Bound → Bool) (bs : List Bound) (i : ℕ) (b : Bound) (out : List Bound) → slice_get bs i ≡ Some b → test b ≡ false
    → out ≡ filter test (take i bs) → out ≡ filter test (take (i + 1) bs)
chosen_same test bs i b out at fails h =
    h ∙ sym (append-nil (filter test (take i bs))) ∙ ap (λ t. filter test (take i bs) ++ cond t (b ∷ []) []) (sym fails)
    ∙ sym (ap (filter test) (take_at bs i b at) ∙ filter-append test (take i bs) (b ∷ []))

-- their paths are paths of the words
pub chosen_among : (test : Bound → Bool) (bs : List Bound) (path : List ℕ) → is_among (paths_of (filter test bs)) path ≡ true → is_among (paths_of bs) path ≡ true
chosen_among test [] path h = h
chosen_among test (b ∷ bs) path h =
    elim (test b) as (λ t. is_among (paths_of (cond t (b ∷ filter test bs) (filter test bs))) path ≡ true → is_among (paths_of (b ∷ bs)) path ≡ true) [
      | true ↦ λ here.
          elim (same_name path b.path) as (λ t. (t || is_among (paths_of (filter test bs)) path) ≡ true → (t || is_among (paths_of bs) path) ≡ true) [
            | true ↦ λ found. refl
            | false ↦ λ later. chosen_among test bs path later
          ] here
      | false ↦ λ later. or_right _ _ (chosen_among test bs path later)
    ] h

pub of_the_words : (w : CheckWords) (test : Bound → Bool) (path : List ℕ) → is_among (paths_of (filter test w.files)) path ≡ true → is_among (check_paths w) path ≡ true
of_the_words w test path h = or_right _ _ (chosen_among test w.files path h)
