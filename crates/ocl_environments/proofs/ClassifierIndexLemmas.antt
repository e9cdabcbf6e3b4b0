-- The tables of the names of metamodels say what a walk over the metamodels finds.
use Rattle.std.proofs.Common.{if◌then◌else◌, ◌≡◌, ◌<◌, ℕ, ◌+◌, Bool, true, false, List, [], ◌∷◌, ◌++◌, Option, None, Some, map, set, length, drop, get_or, refl, sym, ◌∙◌, ap, subst, arith, cond, length-append}
use Rattle.std.specs.Prelude.{All}
use Rattle.std.specs.Option.{option_and_then, option_or, option_map}
use Rattle.std.specs.Cmp.Lexicographic.{bytes_decides}
use Rattle.std.proofs.lemmas.List.Elements.{All-nil}
use Rattle.std.proofs.lemmas.List.{map-set, map-append, get_or-map, length-map, get_or_default}
use Rattle.mof_metamodel.specs.declared.desc.MetaDesc.{MetaDesc}
use Rattle.mof_metamodel.specs.declared.desc.EnumId.{EnumId}
use Rattle.mof_metamodel.specs.Metamodels.{same_name, class_number, enum_number}
use Rattle.ocl_environments.specs.declared.classifier.Found.TheVariants.{Nothing}
use Rattle.ocl_environments.specs.declared.classifier.Wanted.{Wanted}
use Rattle.ocl_environments.specs.declared.classifier.Wanted.TheVariants.{Types, Classes, Enums}
use Rattle.ocl_environments.specs.declared.meaning.Meaning.{Meaning}
use Rattle.ocl_environments.specs.declared.meaning.MeaningTable.{MeaningTable}
use Rattle.ocl_environments.specs.declared.classifier_index.ClassifierIndex.{ClassifierIndex}
use Rattle.qv_syntax.specs.declared.name.Name.{Name}
use Rattle.qv_syntax.specs.declared.name.Path.{Path}
use Rattle.ocl_environments.specs.declared.classifier.Classifier.{Classifier}
use Rattle.ocl_environments.specs.declared.classifier.Found.{Found}
use Rattle.ocl_environments.specs.Naming.{names_of, texts_of}
use Rattle.ocl_environments.specs.Environments.{Environment, NamesWith, number_of}
use Rattle.ocl_environments.specs.Classifiers.{classifiers_from, is_meant, wanted_classes, wanted_enums, class_in, enum_in, classifiers_in, path_classifiers, path_literal, literal_in, only, named_literal}
use Rattle.ocl_environments.specs.Finding.{with_found, one_of}
use Rattle.ocl_environments.specs.Meanings.{IsParallel, no_meaning, meaning_at, meaning_in, found_as, with_option, with_meta, class_of_number, enum_of_number}
use Rattle.ocl_environments.specs.ClassifierIndexes.{own_meaning, index_meaning, with_meta_of, IsIndex, IsIndexOf, path_found, path_literal_found}
use Rattle.ocl_environments.proofs.FindLaws.{one_found, found-step}
use Rattle.ocl_environments.proofs.ScopeLaws.{number_behind, position-cons}
use Rattle.ocl_environments.proofs.MeaningLemmas.{put_at, put_more}

nothing_from : (w : Wanted) (q : Option (List ℕ)) (n : List ℕ) → classifiers_from w 0 [] [] q n ≡ []
unfolding classifiers_from
nothing_from w q n = refl

-- ---- no metamodels

pub empty_tables : (index : ClassifierIndex) → IsParallel index.all → index.own.items ≡ [] → index.metas ≡ [] → IsIndex index
empty_tables index all own metas = record {
  all = all;
  own = subst (All IsParallel) (sym own) (All-nil IsParallel);
  long = ap length own ∙ sym (ap length metas);
}

pub empty_index : (index : ClassifierIndex) → IsIndex index → ((n : List ℕ) → meaning_in index.all n ≡ no_meaning) → index.metas ≡ [] → IsIndexOf [] [] index
empty_index index tables all none = record { tables = tables; found = found }
  where
    meant : (q : Option (List ℕ)) (n : List ℕ) → index_meaning index q n ≡ no_meaning
    meant None n = all n
    meant (Some q) n = ap (λ ms. own_meaning index.own.items n (number_of ms q)) none

    nothing : (w : Wanted) → found_as w no_meaning ≡ Nothing
    nothing Types = refl
    nothing Classes = refl
    nothing Enums = refl

    found : (w : Wanted) (q : Option (List ℕ)) (n : List ℕ) → found_as w (index_meaning index q n) ≡ with_found Nothing (classifiers_from w 0 [] [] q n)
    found w q n = ap (found_as w) (meant q n) ∙ nothing w ∙ ap (with_found Nothing) (sym (nothing_from w q n))

-- ---- one metamodel

found_more : (w : Wanted) (meaning : Meaning) (m : ℕ) (c e : Option ℕ) → found_as w (with_option (with_option meaning (class_of_number m c)) (enum_of_number m e))
    ≡ with_found (found_as w meaning) (wanted_classes w (class_of_number m c) ++ wanted_enums w (enum_of_number m e))
found_more Types meaning m None None = refl
found_more Types meaning m None (Some e) = refl
found_more Types meaning m (Some c) None = refl
found_more Types meaning m (Some c) (Some e) = refl
found_more Classes meaning m None None = refl
found_more Classes meaning m None (Some e) = refl
found_more Classes meaning m (Some c) None = refl
found_more Classes meaning m (Some c) (Some e) = refl
found_more Enums meaning m None None = refl
found_more Enums meaning m None (Some e) = refl
found_more Enums meaning m (Some c) None = refl
found_more Enums meaning m (Some c) (Some e) = refl

-- what is found with what a metamodel has of a name
pub meta_found : (w : Wanted) (names : List (List ℕ)) (q : Option (List ℕ)) (n : List ℕ) (m : ℕ) (meta : MetaDesc) (meaning : Meaning)
    → found_as w (with_meta_of (get_or names m []) q meaning m meta n) ≡ with_found (found_as w meaning) (classifiers_in w names q n m meta)
meta_found w names q n m meta meaning = by (is_meant names q m)
  where
    by : (b : Bool) → found_as w (if b then with_meta meaning m meta n else meaning)
        ≡ with_found (found_as w meaning) (if b then wanted_classes w (class_in m meta n) ++ wanted_enums w (enum_in m meta n) else [])
    by true = found_more w meaning m (class_number meta n) (enum_number meta n)
    by false = refl

-- ---- the tables of names of metamodels

-- an empty table more changes nothing
pub own_more : (metas after : NamesWith (Unit {0})) (own grown : List MeaningTable) (t : MeaningTable) (name given : List ℕ) → length own ≡ length metas
    → None ≡ number_of metas name → given ≡ name → after ≡ metas ++ (given, tt) ∷ [] → grown ≡ own ++ t ∷ [] → ((n : List ℕ) → meaning_in t n ≡ no_meaning)
    → (q n : List ℕ) → own_meaning grown n (number_of after q) ≡ own_meaning own n (number_of metas q)
own_more metas after own grown t name given long absent same named kept empty q n =
    put_more metas after (map f own) (map f grown) name given no_meaning tt (length-map own f ∙ long) absent same named
    (ap (map f) kept ∙ map-append f own (t ∷ []) ∙ ap (λ x. map f own ++ x ∷ []) (empty n)) q
    ∙ by (same_name q name) refl
  where
    f : MeaningTable → Meaning
    f t = meaning_in t n

    by : (b : Bool) → same_name q name ≡ b → (if b then no_meaning else meaning_at (map f own) (number_of metas q)) ≡ meaning_at (map f own) (number_of metas q)
    by true is = sym (ap (λ q. meaning_at (map f own) (number_of metas q)) ((bytes_decides q name).0 is) ∙ ap (meaning_at (map f own)) (sym absent))
    by false is = refl

-- a metamodel more in the table of its name
pub own_put : (metas : NamesWith (Unit {0})) (own : List MeaningTable) (i : ℕ) (old new : MeaningTable) (name : List ℕ) (m : ℕ) (meta : MetaDesc) → i < length own
    → number_of metas name ≡ Some i → old ≡ get_or own i old → ((n : List ℕ) → meaning_in new n ≡ with_meta (meaning_in old n) m meta n)
    → (q n : List ℕ) → own_meaning (set own i new) n (number_of metas q) ≡ with_meta_of name (Some q) (own_meaning own n (number_of metas q)) m meta n
own_put metas own i old new name m meta within at is added q n =
    ap (λ ms. meaning_at ms (number_of metas q)) (map-set f own i new ∙ ap (set (map f own) i) (added n))
    ∙ put_at metas (map f own) name (with_meta (meaning_in old n) m meta n) i (let long = length-map own f in omega (arith, within, long)) at q
    ∙ by (same_name q name) refl
  where
    f : MeaningTable → Meaning
    f t = meaning_in t n

    by : (b : Bool) → same_name q name ≡ b → (if b then with_meta (meaning_in old n) m meta n else meaning_at (map f own) (number_of metas q))
        ≡ (if b then with_meta (meaning_at (map f own) (number_of metas q)) m meta n else meaning_at (map f own) (number_of metas q))
    by true same = ap (λ x. with_meta x m meta n) (sym (ap (λ q. meaning_at (map f own) (number_of metas q)) ((bytes_decides q name).0 same)
        ∙ ap (meaning_at (map f own)) at ∙ get_or-map f own i old no_meaning within ∙ ap f (sym is)))
    by false same = refl

-- the place of a name more
pub number_of_new : {X : Type 0} (metas after : NamesWith X) (name given : List ℕ) (x : X) → number_of metas name ≡ None → given ≡ name → after ≡ metas ++ (given, x) ∷ []
    → number_of after name ≡ Some (length metas)
number_of_new metas after name given x absent same named =
    ap (λ a. number_of a name) (named ∙ ap (λ g. metas ++ (g, x) ∷ []) same)
    ∙ number_behind metas ((name, x) ∷ []) name
    ∙ ap (λ o. option_or o (option_map (λ i. length metas + i) (number_of ((name, x) ∷ []) name))) absent
    ∙ ap (option_map (λ i. length metas + i)) (position-cons (same_name name) name [] ∙ ap (λ b. cond b (Some 0) None) ((bytes_decides name name).1 refl))
    ∙ ap Some (omega arith)

pub long_more : {A B : Type 0} (xs after : List A) (ys grown : List B) (x : A) (y : B) → length xs ≡ length ys → after ≡ xs ++ x ∷ [] → grown ≡ ys ++ y ∷ []
    → length after ≡ length grown
long_more xs after ys grown x y long one_is other_is =
    let one = ap length one_is in
    let other = ap length other_is in
    omega (arith, one, other, long, length-append xs (x ∷ []), length-append ys (y ∷ []))

pub index_same : (old new : ClassifierIndex) → new.all ≡ old.all
    → ((q n : List ℕ) → own_meaning new.own.items n (number_of new.metas q) ≡ own_meaning old.own.items n (number_of old.metas q))
    → (q : Option (List ℕ)) (n : List ℕ) → index_meaning new q n ≡ index_meaning old q n
index_same old new all own None n = ap (λ t. meaning_in t n) all
index_same old new all own (Some q) n = own q n

-- a metamodel more
pub index_added : (old mid new : ClassifierIndex) (i : ℕ) (table grown : MeaningTable) (name : List ℕ) (m : ℕ) (meta : MetaDesc)
    → ((q : Option (List ℕ)) (n : List ℕ) → index_meaning mid q n ≡ index_meaning old q n)
    → i < length mid.own.items → number_of mid.metas name ≡ Some i → table ≡ get_or mid.own.items i table
    → ((n : List ℕ) → meaning_in grown n ≡ with_meta (meaning_in table n) m meta n)
    → new.metas ≡ mid.metas → new.own.items ≡ set mid.own.items i grown
    → ((n : List ℕ) → meaning_in new.all n ≡ with_meta (meaning_in mid.all n) m meta n)
    → (q : Option (List ℕ)) (n : List ℕ) → index_meaning new q n ≡ with_meta_of name q (index_meaning old q n) m meta n
index_added old mid new i table grown name m meta same within at is added metas own all None n =
    all n ∙ ap (λ x. with_meta x m meta n) (same None n)
index_added old mid new i table grown name m meta same within at is added metas own all (Some q) n =
    ap (λ ts. own_meaning ts n (number_of new.metas q)) own
    ∙ ap (λ ns. own_meaning (set mid.own.items i grown) n (number_of ns q)) metas
    ∙ own_put mid.metas mid.own.items i table grown name m meta within at is added q n
    ∙ ap (λ x. with_meta_of name (Some q) x m meta n) (same (Some q) n)

-- ---- the way over the metamodels

pub over_init : (metas : List MetaDesc) (names : List (List ℕ)) (index : ClassifierIndex) → IsIndexOf [] [] index → (w : Wanted) (q : Option (List ℕ)) (n : List ℕ)
    → with_found (found_as w (index_meaning index q n)) (classifiers_from w 0 metas names q n) ≡ with_found Nothing (classifiers_from w 0 metas names q n)
over_init metas names index is w q n = ap (λ f. with_found f (classifiers_from w 0 metas names q n)) (is.found w q n ∙ ap (with_found Nothing) (nothing_from w q n))

pub over_step : (old new : ClassifierIndex) (metas : List MetaDesc) (names : List (List ℕ)) (m : ℕ) (meta : MetaDesc) (name : List ℕ) → m < length metas → m < length names
    → meta ≡ get_or metas m meta → name ≡ get_or names m name
    → ((q : Option (List ℕ)) (n : List ℕ) → index_meaning new q n ≡ with_meta_of name q (index_meaning old q n) m meta n)
    → (w : Wanted) (q : Option (List ℕ)) (n : List ℕ) → with_found (found_as w (index_meaning new q n)) (classifiers_from w (m + 1) (drop (m + 1) metas) names q n)
    ≡ with_found (found_as w (index_meaning old q n)) (classifiers_from w m (drop m metas) names q n)
over_step old new metas names m meta name within inside is named added w q n =
    found-step w names q n (found_as w (index_meaning old q n)) (found_as w (index_meaning new q n)) metas m meta within is
    (ap (found_as w) (added q n)
    ∙ ap (λ x. found_as w (with_meta_of x q (index_meaning old q n) m meta n)) (named ∙ get_or_default names m name [] inside)
    ∙ meta_found w names q n m meta (index_meaning old q n))

-- ---- paths

-- what a path names is what is found of it
pub path_alone : (metas : List MetaDesc) (names : List (List ℕ)) (index : ClassifierIndex) (w : Wanted) → IsIndexOf metas names index → (path : List (List ℕ))
    → one_of (path_found index w path) ≡ only (path_classifiers w metas names path)
unfolding path_found path_classifiers
path_alone metas names index w is [] = refl
path_alone metas names index w is (c ∷ []) = ap one_of (is.found w None c) ∙ one_found _
path_alone metas names index w is (m ∷ c ∷ []) = ap one_of (is.found w (Some m) c) ∙ one_found _
path_alone metas names index w is (a ∷ b ∷ c ∷ more) = refl

pub literal_alone : (metas : List MetaDesc) (names : List (List ℕ)) (index : ClassifierIndex) → IsIndexOf metas names index → (path : List (List ℕ))
    → path_literal_found index metas path ≡ path_literal metas names path
unfolding path_literal_found path_literal
literal_alone metas names index is [] = refl
literal_alone metas names index is (a ∷ []) = refl
literal_alone metas names index is (e ∷ literal ∷ []) = ap (option_and_then (literal_in metas literal)) (ap one_of (is.found Enums None e) ∙ one_found _)
literal_alone metas names index is (m ∷ e ∷ literal ∷ []) = ap (option_and_then (literal_in metas literal)) (ap one_of (is.found Enums (Some m) e) ∙ one_found _)
literal_alone metas names index is (a ∷ b ∷ c ∷ d ∷ more) = refl

-- the classifier that a path names alone, by what an environment keeps
pub one_named : (env s : Environment) (index : ClassifierIndex) (w : Wanted) (found : Found) (o : Option Classifier) (ns : List Name) (path : Path)
    → IsIndexOf s.metas s.names index → s ≡ env → ns ≡ path.names → found ≡ path_found index w (texts_of ns) → o ≡ one_of found
    → o ≡ only (path_classifiers w env.metas env.names (names_of path))
one_named env s index w found o ns path is same named looked alone =
    alone ∙ ap one_of looked ∙ path_alone s.metas s.names index w is (texts_of ns)
    ∙ ap (λ ns. only (path_classifiers w s.metas s.names (texts_of ns))) named
    ∙ ap (λ (e : Environment). only (path_classifiers w e.metas e.names (names_of path))) same

pub literal_named : (env s : Environment) (index : ClassifierIndex) (o : Option (ℕ × EnumId × ℕ)) (ns : List Name) (path : Path)
    → IsIndexOf s.metas s.names index → s ≡ env → ns ≡ path.names → o ≡ path_literal_found index s.metas (texts_of ns) → o ≡ named_literal env (names_of path)
literal_named env s index o ns path is same named looked =
    looked ∙ literal_alone s.metas s.names index is (texts_of ns)
    ∙ ap (λ ns. path_literal s.metas s.names (texts_of ns)) named
    ∙ ap (λ (e : Environment). path_literal e.metas e.names (names_of path)) same
