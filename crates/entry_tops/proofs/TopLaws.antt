-- Entries of top relations, one relation after another in the order of strata: what a relation's calls look for has been found by then.
use Rattle.std.specs.Prelude.{◌≡◌, ◌↔◌, ◌⊎◌, ◌<◌, ◌≤◌, ℕ, zero, suc, false, List, [], ◌∷◌, ◌++◌, Option, None, Some, slice_get, Contains}
use Rattle.std.proofs.Common.{sym, ap, subst, ◌∙◌, inl, inr, arith}
use Rattle.std.proofs.lemmas.List.Elements.{Contains-append_left, Contains-append_right, Contains-append_cases, Contains-push, Contains-push_cases}
use Rattle.std.proofs.lemmas.Option.{same_Some}
use Rattle.mof_metamodel.specs.declared.desc.MetaDesc.{MetaDesc}
use Rattle.mof_metamodel.proofs.Facts.{nothing_in, contains_first}
use Rattle.object_tables.specs.Models.{ModelData}
use Rattle.qv_syntax.specs.declared.program.Program.{Program}
use Rattle.qv_syntax.specs.declared.program.Rel.{Rel}
use Rattle.qv_syntax.specs.WellFormed.{IsWellFormed}
use Rattle.qv_syntax.specs.Relations.{CallsIn, IsCallPath}
use Rattle.qvtr_semantics.specs.Satisfaction.{IsTop}
use Rattle.template_match.proofs.ListLaws.{contains_later}
use Rattle.repair_semantics.specs.declared.entry.Entry.{Entry}
use Rattle.repair_semantics.specs.declared.entry.EntryName.{EntryName}
use Rattle.repair_semantics.specs.EntryValues.{no_values, known}
use Rattle.repair_semantics.specs.Entries.{IsMatchFor, AreMatches, IsEntry, IsEntryWith, calls_in}
use Rattle.reading_laws.proofs.EntryFacts.{clause_calls}
use Rattle.entry_bindings.specs.Matches.{AreNamesOf}
use Rattle.entry_bindings.proofs.MatchLaws.{matched, among_matched}
use Rattle.entry_finding.specs.Found.{IsEntryAmong}
use Rattle.entry_tops.specs.Tops.{IsTopBy}
use Rattle.entry_tops.specs.TopOrder.{IsNoHigher, AreTopsInOrder}
use Rattle.entry_tops.specs.Steps.{AreTopsOf}

-- a match is one for a call
match_for : (program : Program) (cs : List (Option EntryName)) (ms : List Entry) → AreMatches program cs ms → (m : Entry) → Contains ms m
    → (c : EntryName) × Contains cs (Some c) × IsMatchFor program c m
match_for program [] [] h m c = absurd (nothing_in m c)
match_for program [] (n ∷ ns) h m c = elim h [ ]
match_for program (None ∷ cs) ms h m c = elim h [ ]
match_for program (Some c ∷ cs) [] h m within = elim h [ ]
match_for program (Some c ∷ cs) (n ∷ ns) h m (zero, within, is) = (c, contains_first (Some c) cs, subst (IsMatchFor program c) is h.0)
match_for program (Some c ∷ cs) (n ∷ ns) h m (suc k, within, is) =
    let (d, there, for) = match_for program cs ns h.1 m (k, omega (arith, within), is) in (d, contains_later (Some d) (Some c) cs there, for)

module _ (metas : List MetaDesc) (program : Program) (formed : IsWellFormed metas program) (models : List ModelData) where
  -- a relation has a greater stratum than one that its when clause calls
  falls : (caller number : ℕ) (rel called : Rel) → slice_get program.rels caller ≡ Some rel → slice_get program.rels number ≡ Some called → CallsIn rel.whens number
      → called.stratum < rel.stratum
  falls caller number rel called is found calls =
      let most = (formed.relations caller rel is).stratum.greatest (suc called.stratum) (IsCallPath.by_when caller rel number called.stratum is calls (formed.relations number called found).stratum.reached) in
      omega (arith, most)

  -- the relation of a match is of a lesser stratum
  match_falls : (e : Entry) (tops : List Entry) (by : IsTopBy program models tops e) (m : Entry) → Contains by.matches m → (called : Rel) → slice_get program.rels m.rel ≡ Some called
      → called.stratum < by.rel.stratum
  match_falls e tops by m there called found =
      let (c, within, for) = match_for program (calls_in program models (known e.values) by.rel.whens) by.matches by.is.whens m there in
      falls by.number m.rel by.rel called by.top.is found (subst (CallsIn by.rel.whens) (sym for.has.rel) (clause_calls program models (known e.values) by.rel.whens c within))

  pub none_done : AreTopsOf program models [] []
  none_done = record {
    only = λ e there. absurd (nothing_in e there);
    of_done = λ e there. absurd (nothing_in e there);
    all = λ e by there. absurd (nothing_in by.number there);
  }

  -- where all are done, all entries are there
  pub all_done : (order : List ℕ) (entries : List Entry) → AreTopsInOrder program order → AreTopsOf program models order entries → (e : Entry) → IsTopBy program models entries e → Contains entries e
  all_done order entries is are e by = are.all e by (is.all by.number by.rel by.top)

  module _ (entries : List Entry) (names : List EntryName) (names_are : AreNamesOf program names entries) (number : ℕ) (rel : Rel) (top : IsTop program number rel) where
    abbrev Among : Entry → Type 0
    Among e = IsEntryAmong program models names number false (no_values rel) e

    pub record Own (e : Entry) : Type 0 where
      pub matches : List Entry
      pub is : IsEntryWith program models number rel false (no_values rel) matches e
      pub among : (m : Entry) → Contains matches m → Contains entries m

    -- an entry of a binding whose calls are among the names has its matches among the entries
    own : (e : Entry) → Among e → Own e
    own e a =
        let (ms, are, all) = matched program names entries names_are (calls_in program models (known e.values) (a.rel).whens) a.binding.whens in
        let with : IsEntryWith program models number a.rel false (no_values rel) ms e = record { source = a.binding.source; whens = are; is = a.is } in
        let same : a.rel ≡ rel = same_Some a.rel rel (sym a.found ∙ top.is) in
        record { matches = ms; is = subst (λ (r : Rel). IsEntryWith program models number r false (no_values rel) ms e) same with; among = all }

    -- it is an entry, if those are entries
    pub own_entry : ((m : Entry) → Contains entries m → IsEntry program models m) → (e : Entry) → Among e → IsEntry program models e
    own_entry are e a = let o = own e a in IsEntry.of_top e number rel o.matches top o.is (λ m there. are m (o.among m there))

    pub own_called : (e : Entry) → Among e → e.called ≡ false
    own_called e a = ap (λ (x : Entry). x.called) a.is

    pub own_rel : (e : Entry) → Among e → e.rel ≡ number
    own_rel e a = ap (λ (x : Entry). x.rel) a.is

    -- an entry of the relation is one of a binding whose calls are among the names
    own_among : (e : Entry) (other : Rel) (matches : List Entry) → other ≡ rel → IsEntryWith program models number other false (no_values other) matches e
        → ((m : Entry) → Contains matches m → Contains entries m) → Among e
    own_among e other matches same is all =
        let mine : IsEntryWith program models number rel false (no_values rel) matches e = subst (λ (r : Rel). IsEntryWith program models number r false (no_values r) matches e) same is in
        record {
          rel = rel;
          found = top.is;
          binding = record { source = mine.source; whens = among_matched program names entries names_are (calls_in program models (known e.values) rel.whens) matches mine.whens all };
          is = mine.is;
        }

    module _ (done : List ℕ) (found : List Entry) (are : AreTopsOf program models done entries) (higher : (m : ℕ) → Contains done m → IsNoHigher program m number)
        (exact : (e : Entry) → Contains found e ↔ Among e) where
      new_only : (e : Entry) → Contains (entries ++ found) e → IsEntry program models e × (e.called ≡ false)
      new_only e there = by (Contains-append_cases entries found e there)
        where
          by : Contains entries e ⊎ Contains found e → IsEntry program models e × (e.called ≡ false)
          by (inl old) = are.only e old
          by (inr new) = (own_entry (λ m within. (are.only m within).0) e ((exact e).0 new), own_called e ((exact e).0 new))

      new_done : (e : Entry) → Contains (entries ++ found) e → Contains (done ++ number ∷ []) e.rel
      new_done e there = by (Contains-append_cases entries found e there)
        where
          by : Contains entries e ⊎ Contains found e → Contains (done ++ number ∷ []) e.rel
          by (inl old) = Contains-append_left done (number ∷ []) e.rel (are.of_done e old)
          by (inr new) = subst (Contains (done ++ number ∷ [])) (sym (own_rel e ((exact e).0 new))) (Contains-push done number)

      -- no relation that is done has a greater stratum
      no_higher : (n : ℕ) (other : Rel) → slice_get program.rels n ≡ Some other → Contains (done ++ number ∷ []) n → other.stratum ≤ rel.stratum
      no_higher n other at there = by (Contains-push_cases done number n there)
        where
          by : Contains done n ⊎ (number ≡ n) → other.stratum ≤ rel.stratum
          by (inl old) = higher n old other rel at top.is
          by (inr same) =
              let one : rel ≡ other = same_Some rel other (sym top.is ∙ ap (slice_get program.rels) same ∙ at) in
              omega (arith, ap (λ (r : Rel). r.stratum) one)

      -- the matches of an entry of a relation that is done were found before
      before : (e : Entry) (by : IsTopBy program models (entries ++ found) e) → Contains (done ++ number ∷ []) by.number → (m : Entry) → Contains by.matches m → Contains entries m
      before e by there m within = cases (Contains-append_cases entries found m (by.among m within))
        where
          cases : Contains entries m ⊎ Contains found m → Contains entries m
          cases (inl old) = old
          cases (inr new) =
              let less = match_falls e (entries ++ found) by m within rel (ap (slice_get program.rels) (own_rel m ((exact m).0 new)) ∙ top.is) in
              let most = no_higher by.number by.rel by.top.is there in
              absurd (omega (arith, less, most))

      new_all : (e : Entry) (by : IsTopBy program models (entries ++ found) e) → Contains (done ++ number ∷ []) by.number → Contains (entries ++ found) e
      new_all e by there = cases (Contains-push_cases done number by.number there)
        where
          cases : Contains done by.number ⊎ (number ≡ by.number) → Contains (entries ++ found) e
          cases (inl old) =
              Contains-append_left entries found e
              (are.all e (record { number = by.number; rel = by.rel; top = by.top; matches = by.matches; is = by.is; among = before e by there }) old)
          cases (inr same) =
              let one : by.rel ≡ rel = same_Some by.rel rel (sym by.top.is ∙ ap (slice_get program.rels) (sym same) ∙ top.is) in
              let is = subst (λ (n : ℕ). IsEntryWith program models n by.rel false (no_values by.rel) by.matches e) (sym same) by.is in
              Contains-append_right entries found e ((exact e).1 (own_among e by.rel by.matches one is (before e by there)))

      pub one_more : AreTopsOf program models (done ++ number ∷ []) (entries ++ found)
      one_more = record { only = new_only; of_done = new_done; all = new_all }
