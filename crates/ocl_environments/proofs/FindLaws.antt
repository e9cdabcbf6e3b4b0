-- A walk over the metamodels finds what the list of classifiers says.
use Rattle.std.proofs.Common.{◌≡◌, ℕ, ◌+◌, ◌<◌, ◌≤◌, List, [], ◌∷◌, ◌++◌, Option, length, drop, get_or, refl, sym, ◌∙◌, ap}
use Rattle.std.proofs.lemmas.List.{drop_more, drop_all}
use Rattle.std.proofs.lemmas.List.Sums.{fold-append}
use Rattle.mof_metamodel.specs.declared.desc.MetaDesc.{MetaDesc}
use Rattle.ocl_environments.specs.declared.classifier.Classifier.{Classifier}
use Rattle.ocl_environments.specs.declared.classifier.Found.{Found}
use Rattle.ocl_environments.specs.declared.classifier.Found.TheVariants.{Nothing, Several}
use Rattle.ocl_environments.specs.declared.classifier.Wanted.{Wanted}
use Rattle.ocl_environments.specs.Classifiers.{classifiers_in, classifiers_from, only}
use Rattle.ocl_environments.specs.Finding.{next_found, with_found, one_of}

several_found : (cs : List Classifier) → with_found Several cs ≡ Several
several_found [] = refl
several_found (c ∷ cs) = several_found cs

-- what is found of a list is its one item, if it has one
pub one_found : (cs : List Classifier) → one_of (with_found Nothing cs) ≡ only cs
one_found [] = refl
one_found (c ∷ []) = refl
one_found (c ∷ d ∷ cs) = ap one_of (several_found cs)

module _ (wanted : Wanted) (names : List (List ℕ)) (qualifier : Option (List ℕ)) (name : List ℕ) where
  pub classifiers-step : (metas : List MetaDesc) (m : ℕ) (d : MetaDesc) → m < length metas
      → classifiers_from wanted m (drop m metas) names qualifier name
      ≡ classifiers_in wanted names qualifier name m (get_or metas m d) ++ classifiers_from wanted (m + 1) (drop (m + 1) metas) names qualifier name
  unfolding classifiers_from
  classifiers-step metas m d within = ap (λ ds. classifiers_from wanted m ds names qualifier name) (drop_more metas m d within)

  pub classifiers-end : (metas : List MetaDesc) (m : ℕ) → length metas ≤ m → classifiers_from wanted m (drop m metas) names qualifier name ≡ []
  unfolding classifiers_from
  classifiers-end metas m end = ap (λ ds. classifiers_from wanted m ds names qualifier name) (drop_all m metas end)

  -- one more metamodel
  pub found-step : (found next : Found) (metas : List MetaDesc) (m : ℕ) (meta : MetaDesc) → m < length metas → meta ≡ get_or metas m meta
      → next ≡ with_found found (classifiers_in wanted names qualifier name m meta)
      → with_found next (classifiers_from wanted (m + 1) (drop (m + 1) metas) names qualifier name)
      ≡ with_found found (classifiers_from wanted m (drop m metas) names qualifier name)
  found-step found next metas m meta within is grown =
      let rest : List Classifier = classifiers_from wanted (m + 1) (drop (m + 1) metas) names qualifier name in
      ap (λ f. with_found f rest) grown
      ∙ sym (fold-append next_found found (classifiers_in wanted names qualifier name m meta) rest)
      ∙ ap (λ d. with_found found (classifiers_in wanted names qualifier name m d ++ rest)) is
      ∙ sym (ap (with_found found) (classifiers-step metas m meta within))

  pub found-end : (found whole : Found) (metas : List MetaDesc) (m : ℕ) → length metas ≤ m
      → with_found found (classifiers_from wanted m (drop m metas) names qualifier name) ≡ whole → found ≡ whole
  found-end found whole metas m end is = sym (ap (with_found found) (classifiers-end metas m end)) ∙ is
