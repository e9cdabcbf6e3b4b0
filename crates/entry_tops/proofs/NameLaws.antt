-- The names of entries by number are those of the entries as terms.
use Rattle.std.specs.Prelude.{◌≡◌, ◌↔◌, ◌⊎◌, ◌<◌, ℕ, zero, suc, false, List, [], ◌∷◌, ◌++◌, map, length, Option, None, Some, slice_get, Contains, All}
use Rattle.std.specs.Option.{option_map, option_or}
use Rattle.std.proofs.Common.{refl, sym, ap, ap₂, subst, ◌∙◌, inl, inr, arith}
use Rattle.std.proofs.lemmas.List.Elements.{All-contains, Contains-append_left, Contains-append_right, Contains-append_cases}
use Rattle.std.proofs.lemmas.Option.{same_Some}
use Rattle.mof_metamodel.proofs.Facts.{contains_first, contains_map}
use Rattle.qv_syntax.specs.declared.program.Program.{Program}
use Rattle.qv_syntax.specs.declared.program.Rel.{Rel}
use Rattle.qv_syntax.specs.declared.program.Dom.{Dom}
use Rattle.repair_semantics.specs.declared.term.Term.{Term}
use Rattle.repair_semantics.specs.declared.term.TermValue.{TermValue}
use Rattle.repair_semantics.specs.declared.entry.Entry.{Entry}
use Rattle.repair_semantics.specs.declared.entry.EntryName.{EntryName}
use Rattle.repair_semantics.specs.Entries.{IsMatchFor}
use Rattle.term_table.specs.declared.numbered.NumberedValue.{NumberedValue}
use Rattle.term_table.specs.TermTables.{value_in, IsWithin}
use Rattle.entry_bindings.specs.declared.matching.Match.{Match}
use Rattle.entry_bindings.specs.Starts.{number_of}
use Rattle.entry_bindings.specs.Matches.{name_in, names_in, AreNamesOf}
use Rattle.entry_bindings.specs.Asked.{AreMatchesWithin}
use Rattle.entry_bindings.proofs.ListLaws.{mapped_from}
use Rattle.entry_finding.specs.declared.numbered_entry.NumberedEntry.{NumberedEntry}
use Rattle.entry_finding.specs.Found.{entry_in, entries_in, IsEntryWithin}
use Rattle.entry_finding.proofs.GrownLaws.{numbers_within}
use Rattle.entry_tops.specs.EntryNames.{value_by_number, roots_by_number, match_of, HasMore, HasNamesOf}
use Rattle.entry_tops.proofs.RootLaws.{given_within, roots_given, roots_back}

-- ---- adding names one by one

-- with one more match, if there is one
pub one_added : (before after : List Match) (found : Match) (more : Option Match) → more ≡ Some found → ((m : Match) → Contains after m ↔ (Contains before m ⊎ (found ≡ m))) → HasMore before more after
one_added before after found more is added m = (λ there. first ((added m).0 there), λ there. (added m).1 (last there))
  where
    first : Contains before m ⊎ (found ≡ m) → Contains before m ⊎ (more ≡ Some m)
    first (inl old) = inl old
    first (inr same) = inr (is ∙ ap (λ (n : Match). Some n) same)

    last : Contains before m ⊎ (more ≡ Some m) → Contains before m ⊎ (found ≡ m)
    last (inl old) = inl old
    last (inr same) = inr (same_Some found m (sym is ∙ same))

-- one of the entries has this name
abbrev Named : List Dom → Match → List NumberedEntry → Type 0
Named doms m es = (e : NumberedEntry) × Contains es e × (match_of doms e ≡ Some m)

pub names_more : (doms : List Dom) (es : List NumberedEntry) (e : NumberedEntry) (before some after : List Match) → HasNamesOf doms es before some → HasMore some (match_of doms e) after
    → HasNamesOf doms (es ++ e ∷ []) before after
names_more doms es e before some after names more m = (λ there. first ((more m).0 there), λ there. last there)
  where
    early : Contains before m ⊎ Named doms m es → Contains before m ⊎ Named doms m (es ++ e ∷ [])
    early (inl old) = inl old
    early (inr (x, there, is)) = inr (x, Contains-append_left es (e ∷ []) x there, is)

    first : Contains some m ⊎ (match_of doms e ≡ Some m) → Contains before m ⊎ Named doms m (es ++ e ∷ [])
    first (inl old) = early ((names m).0 old)
    first (inr new) = inr (e, Contains-append_right es (e ∷ []) e (contains_first e []), new)

    one : (x : NumberedEntry) → match_of doms x ≡ Some m → Contains es x ⊎ Contains (e ∷ []) x → Contains after m
    one x is (inl old) = (more m).1 (inl ((names m).1 (inr (x, old, is))))
    one x is (inr (zero, less, same)) = (more m).1 (inr (ap (match_of doms) same ∙ is))
    one x is (inr (suc k, less, same)) = absurd (omega (arith, less))

    last : Contains before m ⊎ Named doms m (es ++ e ∷ []) → Contains after m
    last (inl old) = (more m).1 (inl ((names m).1 (inl old)))
    last (inr (x, there, is)) = one x is (Contains-append_cases es (e ∷ []) x there)

-- ---- the names of entries

abbrev named : ℕ → List TermValue → EntryName
named rel roots = record { rel = rel; roots = roots }

abbrev match_with : ℕ → List NumberedValue → Match
match_with rel roots = record { rel = rel; roots = roots }

module _ (program : Program) (terms : List Term) (number : ℕ) (rel : Rel) (found : slice_get program.rels number ≡ Some rel)
    (below : (dom : Dom) → Contains rel.domains dom → dom.root < length rel.vars) where
  -- entries of the relation as a top one
  abbrev pub AreOwn : List NumberedEntry → Type 0
  AreOwn es = (e : NumberedEntry) → Contains es e → (e.rel ≡ number) × (e.called ≡ false)

  at : (e : NumberedEntry) → e.rel ≡ number → slice_get program.rels e.rel ≡ Some rel
  at e is = ap (slice_get program.rels) is ∙ found

  one_name : (e : NumberedEntry) → e.rel ≡ number → e.called ≡ false → (m : Match) → match_of rel.domains e ≡ Some m → IsMatchFor program (name_in terms m) (entry_in terms e)
  one_name e is top m matches = by (roots_by_number rel.domains e) refl matches
    where
      own : (rs : List NumberedValue) → roots_by_number rel.domains e ≡ Some rs → IsMatchFor program (name_in terms (match_with e.rel rs)) (entry_in terms e)
      own rs are = record { top = top; has = record { rel = refl; roots = roots_given terms program e rel (at e is) below rs are } }

      by : (o : Option (List NumberedValue)) → roots_by_number rel.domains e ≡ o → option_map (λ rs. match_with e.rel rs) o ≡ Some m → IsMatchFor program (name_in terms m) (entry_in terms e)
      by None are h = absurd (cc)
      by (Some rs) are h = subst (λ (n : Match). IsMatchFor program (name_in terms n) (entry_in terms e)) (same_Some (match_with e.rel rs) m h) (own rs are)

  name_back : (e : NumberedEntry) → e.rel ≡ number → (c : EntryName) → IsMatchFor program c (entry_in terms e) → (m : Match) × (match_of rel.domains e ≡ Some m) × (name_in terms m ≡ c)
  name_back e is c for =
      let (rs, are, same) = roots_back terms program e rel (at e is) below c.roots for.has.roots in
      let name : named e.rel (map (value_in terms) rs) ≡ named c.rel c.roots = ap₂ named for.has.rel same in
      (match_with e.rel rs, ap (option_map (λ roots. match_with e.rel roots)) are, name)

  module _ (before after : List Match) (entries : List Entry) (es : List NumberedEntry) (are : AreNamesOf program (names_in terms before) entries)
      (more : HasNamesOf rel.domains es before after) (own : AreOwn es) where
    abbrev Matched : EntryName → Type 0
    Matched c = (n : Entry) × Contains (entries ++ entries_in terms es) n × IsMatchFor program c n

    matched_name : (c : EntryName) (m : Match) → name_in terms m ≡ c → Contains before m ⊎ ((e : NumberedEntry) × Contains es e × (match_of rel.domains e ≡ Some m)) → Matched c
    matched_name c m is (inl old) =
        let (n, there, for) = (are c).0 (subst (Contains (names_in terms before)) is (contains_map (name_in terms) before m old)) in
        (n, Contains-append_left entries (entries_in terms es) n there, for)
    matched_name c m is (inr (e, there, matches)) =
        let mine = own e there in (
          entry_in terms e,
          Contains-append_right entries (entries_in terms es) (entry_in terms e) (contains_map (entry_in terms) es e there),
          subst (λ d. IsMatchFor program d (entry_in terms e)) is (one_name e mine.0 mine.1 m matches),
        )

    name_there : (c : EntryName) (n : Entry) → IsMatchFor program c n → Contains entries n ⊎ Contains (entries_in terms es) n → Contains (names_in terms after) c
    name_there c n for (inl old) =
        let (m, there, is) = mapped_from (name_in terms) before c ((are c).1 (n, old, for)) in
        subst (Contains (names_in terms after)) is (contains_map (name_in terms) after m ((more m).1 (inl there)))
    name_there c n for (inr new) =
        let (e, there, is) = mapped_from (entry_in terms) es n new in
        let (m, matches, same) = name_back e (own e there).0 c (subst (IsMatchFor program c) (sym is) for) in
        subst (Contains (names_in terms after)) same (contains_map (name_in terms) after m ((more m).1 (inr (e, there, matches))))

    pub names_after : AreNamesOf program (names_in terms after) (entries ++ entries_in terms es)
    names_after c = (
      λ there. let (m, within, is) = mapped_from (name_in terms) after c there in matched_name c m is ((more m).0 within),
      λ there. name_there c there.0 there.2 (Contains-append_cases entries (entries_in terms es) there.0 there.1),
    )

-- ---- numbers of the table

root_within : (terms : List Term) (e : NumberedEntry) (v : ℕ) (x : NumberedValue) → IsEntryWithin terms e → value_by_number e v ≡ Some x → IsWithin terms x
root_within terms e v x within is = by (number_of e.values v) refl is
  where
    by : (o : Option NumberedValue) → number_of e.values v ≡ o → option_or o (number_of e.made v) ≡ Some x → IsWithin terms x
    by None at h = numbers_within terms e.made within.made v x h
    by (Some y) at h = numbers_within terms e.values within.values v x (at ∙ h)

pub matches_within : (terms : List Term) (doms : List Dom) (es : List NumberedEntry) (before after : List Match) → AreMatchesWithin terms before → All (IsEntryWithin terms) es
    → HasNamesOf doms es before after → AreMatchesWithin terms after
matches_within terms doms es before after old within more m x there in_roots = by ((more m).0 there)
  where
    mine : (e : NumberedEntry) → IsEntryWithin terms e → (o : Option (List NumberedValue)) → roots_by_number doms e ≡ o → option_map (λ rs. match_with e.rel rs) o ≡ Some m → IsWithin terms x
    mine e e_within None are h = absurd (cc)
    mine e e_within (Some rs) are h =
        let same : rs ≡ m.roots = ap (λ (n : Match). n.roots) (same_Some (match_with e.rel rs) m h) in
        let in_given = given_within (map (λ (dom : Dom). value_by_number e dom.root) doms) rs are x (subst (λ (ys : List NumberedValue). Contains ys x) (sym same) in_roots) in
        let (dom, in_doms, is) = mapped_from (λ (dom : Dom). value_by_number e dom.root) doms (Some x) in_given in
        root_within terms e dom.root x e_within is

    by : Contains before m ⊎ ((e : NumberedEntry) × Contains es e × (match_of doms e ≡ Some m)) → IsWithin terms x
    by (inl was) = old m x was in_roots
    by (inr (e, e_there, is)) = mine e (All-contains (IsEntryWithin terms) es e within e_there) (roots_by_number doms e) refl is
