-- The values of the roots of an entry, by number and as terms.
use Rattle.std.specs.Prelude.{◌≡◌, ◌⊎◌, ◌<◌, ℕ, zero, suc, List, [], ◌∷◌, map, length, Option, None, Some, slice_get, Contains}
use Rattle.std.specs.Option.{option_map, option_or}
use Rattle.std.proofs.Common.{refl, sym, ap, ap₂, subst, ◌∙◌, inl, inr, arith}
use Rattle.std.proofs.lemmas.List.FromFn.{get_or-map-range_with_len}
use Rattle.std.proofs.lemmas.Option.{same_Some}
use Rattle.mof_metamodel.proofs.Facts.{nothing_in, contains_first}
use Rattle.template_match.proofs.ListLaws.{contains_later}
use Rattle.qv_syntax.specs.declared.program.Program.{Program}
use Rattle.qv_syntax.specs.declared.program.Rel.{Rel}
use Rattle.qv_syntax.specs.declared.program.Dom.{Dom}
use Rattle.qvtr_semantics.specs.Outs.{all_given}
use Rattle.repair_semantics.specs.declared.term.Term.{Term}
use Rattle.repair_semantics.specs.declared.term.TermValue.{TermValue}
use Rattle.repair_semantics.specs.EntryValues.{value_of}
use Rattle.repair_semantics.specs.Entries.{entry_values, roots_in, entry_roots}
use Rattle.term_table.specs.declared.numbered.NumberedValue.{NumberedValue}
use Rattle.term_table.specs.TermTables.{value_in, values_in}
use Rattle.entry_bindings.specs.Starts.{number_of}
use Rattle.entry_finding.specs.declared.numbered_entry.NumberedEntry.{NumberedEntry}
use Rattle.entry_finding.specs.Found.{entry_in}
use Rattle.entry_tops.specs.EntryNames.{value_by_number, roots_by_number}

-- ---- values that are all there

pub given_are : {X Y : Type 0} (f : X → Y) (os : List (Option X)) (rs : List X) → all_given os ≡ Some rs → map (option_map f) os ≡ map (λ y. Some y) (map f rs)
given_are {X} {Y} f [] rs e = ap (λ (zs : List X). map (λ (y : Y). Some y) (map f zs)) (same_Some [] rs e)
given_are f (None ∷ os) rs e = absurd (cc)
given_are {X} {Y} f (Some x ∷ os) rs e = by (all_given os) (λ ys is. given_are f os ys is) e
  where
    by : (o : Option (List X)) → ((ys : List X) → o ≡ Some ys → map (option_map f) os ≡ map (λ y. Some y) (map f ys)) → option_map (λ ys. x ∷ ys) o ≡ Some rs
        → map (option_map f) (Some x ∷ os) ≡ map (λ y. Some y) (map f rs)
    by None more h = absurd (cc)
    by (Some ys) more h =
        ap (λ (zs : List (Option Y)). Some (f x) ∷ zs) (more ys refl) ∙ ap (λ (zs : List X). map (λ (y : Y). Some y) (map f zs)) (same_Some (x ∷ ys) rs h)

first_same : {X : Type 0} (x y : X) (xs ys : List (Option X)) → Some x ∷ xs ≡ Some y ∷ ys → x ≡ y
first_same x y xs ys e = cc

rest_same : {X : Type 0} (x y : X) (xs ys : List (Option X)) → Some x ∷ xs ≡ Some y ∷ ys → xs ≡ ys
rest_same x y xs ys e = cc

pub given_back : {X Y : Type 0} (f : X → Y) (os : List (Option X)) (xs : List Y) → map (option_map f) os ≡ map (λ y. Some y) xs → (rs : List X) × (all_given os ≡ Some rs) × (map f rs ≡ xs)
given_back f [] [] e = ([], refl, refl)
given_back f [] (y ∷ ys) e = absurd (cc)
given_back f (None ∷ os) [] e = absurd (cc)
given_back f (None ∷ os) (y ∷ ys) e = absurd (cc)
given_back f (Some x ∷ os) [] e = absurd (cc)
given_back {X} {Y} f (Some x ∷ os) (y ∷ ys) e =
    let (rs, is, same) = given_back f os ys (rest_same (f x) y (map (option_map f) os) (map (λ z. Some z) ys) e) in
    (x ∷ rs, ap (option_map (λ zs. x ∷ zs)) is, ap₂ (λ (z : Y) (zs : List Y). z ∷ zs) (first_same (f x) y (map (option_map f) os) (map (λ z. Some z) ys) e) same)

-- what is in a list with one more in front
among_cases : {X : Type 0} (x y : X) (ys zs : List X) → y ∷ ys ≡ zs → Contains zs x → (y ≡ x) ⊎ Contains ys x
among_cases x y ys [] same c = absurd (nothing_in x c)
among_cases x y ys (z ∷ zs) same (zero, within, at) = let first : y ≡ z = cc in inl (first ∙ at)
among_cases x y ys (z ∷ zs) same (suc k, within, at) = let rest : ys ≡ zs = cc in inr (subst (λ ws. Contains ws x) (sym rest) (k, omega (arith, within), at))

pub given_within : {X : Type 0} (os : List (Option X)) (rs : List X) → all_given os ≡ Some rs → (x : X) → Contains rs x → Contains os (Some x)
given_within {X} [] rs e x there = absurd (nothing_in x (subst (λ (zs : List X). Contains zs x) (sym (same_Some [] rs e)) there))
given_within (None ∷ os) rs e x there = absurd (cc)
given_within {X} (Some y ∷ os) rs e x there = by (all_given os) (λ ys is within. given_within os ys is x within) e
  where
    cases : (y ≡ x) ⊎ Contains os (Some x) → Contains (Some y ∷ os) (Some x)
    cases (inl same) = (0, omega arith, ap (λ (w : X). Some w) same)
    cases (inr later) = contains_later (Some x) (Some y) os later

    later : (ys : List X) → (Contains ys x → Contains os (Some x)) → (y ≡ x) ⊎ Contains ys x → (y ≡ x) ⊎ Contains os (Some x)
    later ys more (inl same) = inl same
    later ys more (inr within) = inr (more within)

    by : (o : Option (List X)) → ((ys : List X) → o ≡ Some ys → Contains ys x → Contains os (Some x)) → option_map (λ ys. y ∷ ys) o ≡ Some rs → Contains (Some y ∷ os) (Some x)
    by None more h = absurd (cc)
    by (Some ys) more h = cases (later ys (more ys refl) (among_cases x y ys rs (same_Some (y ∷ ys) rs h) there))

-- ---- as terms

module _ (terms : List Term) where
  value_shown : (vs : List (Option NumberedValue)) (v : ℕ) → value_of (values_in terms vs) v ≡ option_map (value_in terms) (number_of vs v)
  value_shown [] v = refl
  value_shown (x ∷ xs) zero = refl
  value_shown (x ∷ xs) (suc v) = value_shown xs v

  or_shown : (a b : Option NumberedValue) → option_or (option_map (value_in terms) a) (option_map (value_in terms) b) ≡ option_map (value_in terms) (option_or a b)
  or_shown None b = refl
  or_shown (Some x) b = refl

  root_shown : (e : NumberedEntry) (rel : Rel) (v : ℕ) → v < length rel.vars → value_of (entry_values (entry_in terms e) rel) v ≡ option_map (value_in terms) (value_by_number e v)
  root_shown e rel v below =
      get_or-map-range_with_len (λ w. option_or (value_of (values_in terms e.values) w) (value_of (values_in terms e.made) w)) 0 (length rel.vars) v v None below (omega arith)
      ∙ ap₂ (λ (a b : Option TermValue). option_or a b) (value_shown e.values v) (value_shown e.made v)
      ∙ or_shown (number_of e.values v) (number_of e.made v)

  roots_shown : (e : NumberedEntry) (rel : Rel) (doms : List Dom) → ((dom : Dom) → Contains doms dom → dom.root < length rel.vars)
      → map (λ dom. value_of (entry_values (entry_in terms e) rel) dom.root) doms ≡ map (option_map (value_in terms)) (map (λ dom. value_by_number e dom.root) doms)
  roots_shown e rel [] below = refl
  roots_shown e rel (dom ∷ doms) below =
      ap₂ (λ (o : Option TermValue) (os : List (Option TermValue)). o ∷ os) (root_shown e rel dom.root (below dom (contains_first dom doms)))
      (roots_shown e rel doms (λ d there. below d (contains_later d dom doms there)))

  module _ (program : Program) (e : NumberedEntry) (rel : Rel) (found : slice_get program.rels e.rel ≡ Some rel)
      (below : (dom : Dom) → Contains rel.domains dom → dom.root < length rel.vars) where
    roots_are : entry_roots program (entry_in terms e) ≡ map (option_map (value_in terms)) (map (λ dom. value_by_number e dom.root) rel.domains)
    roots_are = ap (roots_in (entry_in terms e)) found ∙ roots_shown e rel rel.domains below

    -- the roots of the entry, where each has a value
    pub roots_given : (rs : List NumberedValue) → roots_by_number rel.domains e ≡ Some rs → entry_roots program (entry_in terms e) ≡ map (λ x. Some x) (map (value_in terms) rs)
    roots_given rs is = roots_are ∙ given_are (value_in terms) (map (λ dom. value_by_number e dom.root) rel.domains) rs is

    pub roots_back : (xs : List TermValue) → entry_roots program (entry_in terms e) ≡ map (λ x. Some x) xs
        → (rs : List NumberedValue) × (roots_by_number rel.domains e ≡ Some rs) × (map (value_in terms) rs ≡ xs)
    roots_back xs is = given_back (value_in terms) (map (λ dom. value_by_number e dom.root) rel.domains) xs (sym roots_are ∙ is)
