-- Tables of matches: each partner of a binding that stands in the joins has its row, so each match has one.
use Rattle.std.specs.Prelude.{◌≡◌, ◌↔◌, ◌<◌, ◌≤◌, ℕ, suc, false, List, [], ◌∷◌, ◌++◌, take, length, get_or, Some, slice_get, Contains}
use Rattle.std.proofs.Common.{sym, ap, subst, ◌∙◌, inl, inr}
use Rattle.std.proofs.lemmas.Bool.{true≢false}
use Rattle.std.proofs.lemmas.List.Elements.{Contains-append_left, Contains-append_right}
use Rattle.std.proofs.lemmas.Option.{same_Some}
use Rattle.object_tables.specs.Models.{ModelData}
use Rattle.qv_syntax.specs.declared.program.Program.{Program}
use Rattle.qv_syntax.specs.declared.program.Rel.{Rel}
use Rattle.qv_syntax.specs.declared.program.Dom.{Dom}
use Rattle.qvtr_semantics.specs.declared.datum.Datum.{Datum}
use Rattle.qvtr_semantics.specs.declared.binding.Binding.{Binding}
use Rattle.qvtr_semantics.specs.Templates.{Values}
use Rattle.qvtr_semantics.specs.Bindings.{Source, Target, Extends}
use Rattle.qvtr_semantics.specs.Calls.{RelationCall, AllAsked, Match, free, calls_of}
use Rattle.template_match.specs.declared.join.Join.{Join}
use Rattle.template_match.specs.Joins.{AreJoined}
use Rattle.template_match.specs.Posed.{HasPrimitives}
use Rattle.template_match.specs.Search.{values_of}
use Rattle.template_match.proofs.ListLaws.{any_at}
use Rattle.mof_metamodel.proofs.Facts.{contains_first, nothing_in}
use Rattle.relation_calls.specs.Askable.{IsFormed}
use Rattle.relation_calls.specs.Visits.{IsSourceBinding}
use Rattle.relation_calls.specs.Seeds.{is_without_model, has_primitive, AreSeeds, IsSeedOf}
use Rattle.relation_calls.specs.Tables.{row_of, HasRow, AreKept, HasPartners, HasPartnersFrom, AreMatches, AreSound}
use Rattle.relation_calls.proofs.CallLaws.{match_is}
use Rattle.relation_calls.proofs.FreedLaws.{freed, freed_source, freed_target, freed_calls}
use Rattle.relation_calls.proofs.JoinLaws.{all_joined}
use Rattle.relation_calls.proofs.ListLaws.{before_or_last, all_taken}
use Rattle.relation_calls.proofs.StepLaws.{next_values}
use Rattle.relation_calls.proofs.SeedLaws.{seed_source}
use Rattle.relation_calls.proofs.VisitLaws.{source_binding}

-- ---- rows that are kept

pub kept_with : (old new : List (List Datum)) (row : List Datum) → new ≡ old ++ row ∷ [] → AreKept old new
kept_with old new row is x has = subst (λ (rs : List (List Datum)). Contains rs x) (sym is) (Contains-append_left old (row ∷ []) x has)

pub all_kept : (old new : List (List Datum)) → old ≡ new → AreKept old new
all_kept old new same x has = subst (λ (rs : List (List Datum)). Contains rs x) same has

pub row_added : (domains : List Dom) (old new : List (List Datum)) (row : List Datum) (g : Values) → new ≡ old ++ row ∷ [] → row_of domains g ≡ Some row → HasRow domains new g
row_added domains old new row g is own =
    (row, subst (λ (rs : List (List Datum)). Contains rs row) (sym is) (Contains-append_right old (row ∷ []) row (contains_first row [])), own)

pub row_stays : (domains : List Dom) (old new : List (List Datum)) (g : Values) → AreKept old new → HasRow domains old g → HasRow domains new g
row_stays domains old new g kept (row, has, own) = (row, kept row has, own)

pub partners_stay : (program : Program) (models : List ModelData) (rel : Rel) (old new : List (List Datum)) (b : Values) → AreKept old new → HasPartners program models rel old b
    → HasPartners program models rel new b
partners_stay program models rel old new b kept all g target = row_stays rel.domains old new g kept (all g target)

pub from_stay : (program : Program) (models : List ModelData) (rel : Rel) (joins : List Join) (old new : List (List Datum)) (f : Values) → AreKept old new
    → HasPartnersFrom program models rel joins old f → HasPartnersFrom program models rel joins new f
from_stay program models rel joins old new f kept all b source joined = partners_stay program models rel old new b kept (all b source joined)

-- ---- one binding after another

-- what holds of rows for each of the bindings
abbrev pub EachHas : (List (List Datum) → Values → Type 0) → List (List Datum) → List Values → Type 0
EachHas P rows bs = (b : Values) → Contains bs b → P rows b

pub none_has : (P : List (List Datum) → Values → Type 0) (rows : List (List Datum)) → EachHas P rows []
none_has P rows b has = absurd (nothing_in b has)

module _ (P : List (List Datum) → Values → Type 0) (stays : (old new : List (List Datum)) (b : Values) → AreKept old new → P old b → P new b)
    (bs : List Binding) (i : ℕ) (b : Binding) (within : i < length bs) (is : b ≡ get_or bs i b) where
  pub more_have : (j : ℕ) → j ≡ suc i → (old new : List (List Datum)) → AreKept old new → EachHas P old (values_of (take i bs)) → P new b.values → EachHas P new (values_of (take j bs))
  more_have j next old new kept before here c has =
      elim (before_or_last (values_of (take i bs)) b.values c (subst (λ xs. Contains xs c) (next_values bs i b within is j next) has)) [
        | inl earlier ↦ stays old new c kept (before c earlier)
        | inr last ↦ subst (P new) last here
      ]

pub all_have : (P : List (List Datum) → Values → Type 0) (rows : List (List Datum)) (bs : List Binding) (i : ℕ) → length bs ≤ i → EachHas P rows (values_of (take i bs)) → EachHas P rows (values_of bs)
all_have P rows bs i past h = subst (λ (xs : List Binding). EachHas P rows (values_of xs)) (all_taken bs i past) h

-- ---- partners

module _ (program : Program) (models : List ModelData) (rel : Rel) where
  -- those that are found are all
  pub partners_have : (rows : List (List Datum)) (b : Values) (gs xs : List Values) → xs ≡ gs → ((g : Values) → Contains gs g ↔ Target program models rel b g)
      → ((g : Values) → Contains xs g → HasRow rel.domains rows g) → HasPartners program models rel rows b
  partners_have rows b gs xs same exact all g target = all g (subst (λ ys. Contains ys g) (sym same) ((exact g).1 target))

  pub sources_have : (rows : List (List Datum)) (joins : List Join) (f : Values) (bs xs : List Values) → xs ≡ bs
      → ((b : Values) → Contains bs b ↔ (Source program models rel f b × AreJoined joins b))
      → ((b : Values) → Contains xs b → HasPartners program models rel rows b) → HasPartnersFrom program models rel joins rows f
  sources_have rows joins f bs xs same exact all b source joined = all b (subst (λ ys. Contains ys b) (sym same) ((exact b).1 (source, joined)))

  pub joined_sources : (joins : List Join) (f : Values) (bs xs : List Values) → xs ≡ bs → ((b : Values) → Contains bs b ↔ (Source program models rel f b × AreJoined joins b))
      → (b : Values) → Contains xs b → IsSourceBinding rel b
  joined_sources joins f bs xs same exact b has = source_binding program models rel f b ((exact b).0 (subst (λ ys. Contains ys b) same has)).0

-- a relation without primitive domains can be asked with any roots
pub listed_primitives : (rel : Rel) (fixed : Values) → has_primitive rel ≡ false → HasPrimitives rel fixed
listed_primitives rel fixed listed dom low has none =
    absurd (true≢false (sym (any_at (λ (d : Dom). is_without_model d.model) rel.domains dom (ap is_without_model none) has) ∙ listed))

pub listed_seeds : (program : Program) (models : List ModelData) (rel : Rel) (seeds : List Values) → AreSeeds program models rel seeds → has_primitive rel ≡ false
    → (f : Values) → Contains seeds f → IsSeedOf rel f
listed_seeds program models rel seeds are listed f has = record { places = are.places f has; primitives = listed_primitives rel f listed }

-- ---- matches

module _ (program : Program) (models : List ModelData) (formed : IsFormed program) (number : ℕ) (rel : Rel) (is : slice_get program.rels number ≡ Some rel)
    (joins : List Join) (sound : AreSound program models rel.whens joins) (seeds : List Values) (are : AreSeeds program models rel seeds) (rows : List (List Datum))
    (all : (f : Values) → Contains seeds f → HasPartnersFrom program models rel joins rows f)
  where
    row_at : (c : RelationCall) → slice_get program.rels c.rel ≡ Some rel → Match program models c → (g : Values) × HasRow rel.domains rows g × Extends c.roots g
    row_at c found match =
        let (x, g, source, target) = (match_is program formed models c rel found).0 match in
        let b : Values = freed program models formed.1.relations c.rel rel found c.roots x g source.source target.target in
        let own : Source program models rel (free rel) b = freed_source program models formed.1.relations c.rel rel found c.roots x g source.source target.target in
        let partner : Target program models rel b g = freed_target program models formed.1.relations c.rel rel found c.roots x g source.source target.target in
        let same : calls_of program models b rel.whens ≡ calls_of program models x rel.whens =
        freed_calls program models formed.1.relations c.rel rel found c.roots x g source.source target.target in
        let asked : AllAsked (Match program models) (calls_of program models b rel.whens) = subst (AllAsked (Match program models)) (sym same) source.whens in
        let (f, has, begins) = are.all b own in (
          g,
          all f has b (seed_source program models rel f b begins own) (all_joined program models rel.whens joins sound b asked) g partner,
          λ v d at. target.target.extends v d (source.source.extends v d at),
        )

    pub table_matches : (table : List (List Datum)) → ((row : List Datum) → Contains table row ↔ Contains rows row) → AreMatches program models number table
    table_matches table built r c there one match =
        let same : rel ≡ r = same_Some rel r (sym is ∙ there) in
        let (g, stands, extends) = row_at c (ap (slice_get program.rels) one ∙ is) match in
        (g, subst (λ (y : Rel). HasRow y.domains table g) same (stands.0, (built stands.0).1 stands.1, stands.2), extends)
