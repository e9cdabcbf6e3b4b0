-- A walk that has come to its end has all entries; no chain over them is cyclic or too long, and none of them is unmet.
use Rattle.std.specs.Prelude.{Option, None, ◌≡◌, ◌≤◌, ℕ, zero, suc, true, false, List, [], ◌∷◌, ◌++◌, map, length, Some, slice_get, Contains}
use Rattle.std.specs.Option.{option_map_or}
use Rattle.std.proofs.Common.{refl, sym, ap, ap₂, subst, ◌∙◌, inl, inr, arith}
use Rattle.std.proofs.lemmas.Bool.{true≢false}
use Rattle.mof_metamodel.specs.declared.desc.MetaDesc.{MetaDesc}
use Rattle.mof_metamodel.proofs.Facts.{contains_first, nothing_in}
use Rattle.object_tables.specs.Models.{ModelData}
use Rattle.qv_syntax.specs.declared.program.Program.{Program}
use Rattle.qv_syntax.specs.declared.program.Rel.{Rel}
use Rattle.qv_syntax.specs.WellFormed.{IsWellFormed}
use Rattle.qvtr_semantics.specs.declared.limits.TheConstants.{MAX_CALLS}
use Rattle.repair_semantics.specs.declared.term.TermValue.{TermValue}
use Rattle.repair_semantics.specs.declared.entry.Entry.{Entry}
use Rattle.repair_semantics.specs.declared.entry.EntryName.{EntryName}
use Rattle.repair_semantics.specs.Making.{entry_known}
use Rattle.repair_semantics.specs.Unmet.{is_unmet}
use Rattle.repair_semantics.specs.Entries.{AreMatches, HasRoots, IsEntry, entry_calls}
use Rattle.repair_semantics.specs.EntryChains.{BeginsEntries, CallsNext, GoesOnEntries, EntryChain, CyclicEntries, DeepEntries, IsUnmet}
use Rattle.source_laws.proofs.RootLaws.{same_called}
use Rattle.reading_laws.proofs.EntryTime.{IsRooted, called_rooted, rooted_has}
use Rattle.entry_finding.specs.Found.{is_entry_unmet}
use Rattle.entry_walk.specs.Walks.{Walked, IsOfCall, IsWalkedBelow, IsWalk, IsAmong}

-- ---- lists

first_same : {X : Type 0} (x y : X) (xs ys : List (Option X)) → Some x ∷ xs ≡ Some y ∷ ys → x ≡ y
first_same x y xs ys e = cc

rest_same : {X : Type 0} (x y : X) (xs ys : List (Option X)) → Some x ∷ xs ≡ Some y ∷ ys → xs ≡ ys
rest_same x y xs ys e = cc

-- lists of values that are there are the same where they are so as options
pub same_listed : {X : Type 0} (xs ys : List X) → map (λ x. Some x) xs ≡ map (λ x. Some x) ys → xs ≡ ys
same_listed [] [] e = refl
same_listed [] (y ∷ ys) e = absurd cc
same_listed (x ∷ xs) [] e = absurd cc
same_listed {X} (x ∷ xs) (y ∷ ys) e =
    ap₂ (λ (z : X) (zs : List X). z ∷ zs)
    (first_same x y (map (λ z. Some z) xs) (map (λ z. Some z) ys) e)
    (same_listed xs ys (rest_same x y (map (λ z. Some z) xs) (map (λ z. Some z) ys) e))

contains_later : {X : Type 0} (x y : X) (xs : List X) → Contains xs y → Contains (x ∷ xs) y
contains_later x y xs (k, within, is) = (suc k, omega (arith, within), is)

last_in : {X : Type 0} (xs : List X) (x : X) → Contains (xs ++ x ∷ []) x
last_in [] x = contains_first x []
last_in (y ∷ ys) x = contains_later y x (ys ++ x ∷ []) (last_in ys x)

abbrev named : ℕ → List TermValue → EntryName
named rel roots = record { rel = rel; roots = roots }

-- calls with one relation and the same roots are one
pub named_same : (c d : EntryName) → c.rel ≡ d.rel → c.roots ≡ d.roots → c ≡ d
named_same c d e f = ap₂ named e f

-- the entries that match calls are of top relations
matches_top : (program : Program) (cs : List _) (ms : List Entry) → AreMatches program cs ms → (m : Entry) → Contains ms m → m.called ≡ false
matches_top program [] [] h m c = absurd (nothing_in m c)
matches_top program [] (n ∷ ns) h m c = elim h [ ]
matches_top program (None ∷ cs) ms h m c = elim h [ ]
matches_top program (Some c ∷ cs) [] h m within = elim h [ ]
matches_top program (Some c ∷ cs) (n ∷ ns) h m (zero, within, is) = subst (λ (x : Entry). x.called ≡ false) is h.0.top
matches_top program (Some c ∷ cs) (n ∷ ns) h m (suc k, within, is) = matches_top program cs ns h.1 m (k, omega (arith, within), is)

module _ (metas : List MetaDesc) (program : Program) (formed : IsWellFormed metas program) (models : List ModelData) (tops : List Entry) (walked : List Walked)
    (walk : IsWalk program models tops walked) where
  -- ---- the entries

  -- an entry that isn't called is among the tops
  top_among : (e : Entry) → IsAmong tops walked e → e.called ≡ false → Contains tops e
  top_among e (inl top) is = top
  top_among e (inr (x, among, within)) is =
      let of = ((walk.whole x among).exact e).0 within in
      absurd (true≢false (sym (ap (λ (y : Entry). y.called) of.is.is) ∙ is))

  -- the call of an entry among these has been walked
  call_walked : (e : Entry) (c : EntryName) → IsAmong tops walked e → Contains (entry_calls program models e) c → (y : Walked) × Contains walked y × (y.call ≡ c)
  call_walked e c (inl top) made = let b = walk.tops_are.calls e c top made in (b.by, b.among, b.call)
  call_walked e c (inr (x, among, within)) made = let b = (walk.whole x among).calls e c within made in (b.by, b.among, b.call)

  pub all_among : (e : Entry) → IsEntry program models e → IsAmong tops walked e
  all_among e (IsEntry.of_top _ number rel matches top own more) =
      inl (walk.tops_are.all e (record {
        number = number;
        rel = rel;
        top = top;
        matches = matches;
        is = own;
        among = λ m within. top_among m (all_among m (more m within)) (matches_top program _ matches own.whens m within);
      }))
  all_among e (IsEntry.of_call _ from c rel matches is_from made at own more) =
      let w = call_walked from c (all_among from is_from) made in
      let of : IsOfCall program models tops c e = record {
        rel = rel;
        found = at;
        matches = matches;
        is = own;
        among = λ m within. top_among m (all_among m (more m within)) (matches_top program _ matches own.whens m within);
      } in
      inr (w.0, w.1, ((walk.whole w.0 w.1).exact e).1 (subst (λ (d : EntryName). IsOfCall program models tops d e) (sym w.2) of))

  pub only_entries : (e : Entry) → IsAmong tops walked e → IsEntry program models e
  only_entries e (inl top) = (walk.tops_are.only e top).0
  only_entries e (inr (x, among, within)) =
      let w = walk.whole x among in
      let of = (w.exact e).0 within in
      IsEntry.of_call e w.from x.call of.rel of.matches w.is_from w.made of.found of.is (λ m in_matches. (walk.tops_are.only m (of.among m in_matches)).0)

  -- ---- chains

  -- an entry with the roots of a call that has been walked is one of its entries
  of_walked : (e : Entry) → IsEntry program models e → e.called ≡ true → (y : Walked) → Contains walked y → HasRoots program y.call e → Contains y.entries e
  of_walked e is called y among roots = by (all_among e is)
    where
      by : IsAmong tops walked e → Contains y.entries e
      by (inl top) = absurd (true≢false (sym called ∙ (walk.tops_are.only e top).1))
      by (inr (x, in_walked, within)) =
          let w = walk.whole x in_walked in
          let of = (w.exact e).0 within in
          let r = called_rooted metas program formed models w.from w.is_from x.call w.made in
          let number_is : e.rel ≡ x.call.rel = ap (λ (z : Entry). z.rel) of.is.is in
          let rooted : IsRooted metas program formed models of.rel x.call = subst (λ z. IsRooted metas program formed models z x.call) (same_called r.called of.rel (sym r.at ∙ of.found)) r.rooted in
          let has = rooted_has metas program formed models e of.rel (ap (slice_get program.rels) number_is ∙ of.found) x.call number_is rooted of.is.source.extends of.is.source.places in
          let roots_same : x.call.roots ≡ y.call.roots = same_listed x.call.roots y.call.roots (sym has.roots ∙ roots.roots) in
          let one : x ≡ y = walk.once x y in_walked among (named_same x.call y.call (sym has.rel ∙ roots.rel) roots_same) in
          subst (λ (z : Walked). Contains z.entries e) one within

  -- a call that a walked one calls next is lower
  next_lower : (from to : EntryName) → CallsNext program models from to → (y : Walked) → Contains walked y → y.call ≡ from → IsWalkedBelow walked y.height to
  next_lower from to next y among is =
      let within = of_walked next.by next.entry next.called y among (subst (λ (d : EntryName). HasRoots program d next.by) (sym is) next.roots) in
      (walk.whole y among).calls next.by to within next.calls

  first_low : (to : EntryName) → BeginsEntries program models to → IsWalkedBelow walked MAX_CALLS to
  first_low to begins = walk.tops_are.calls begins.from to (top_among begins.from (all_among begins.from begins.entry) begins.top) begins.calls

  -- all calls behind a walked one are lower than it
  behind_lower : (from : EntryName) (more : List EntryName) → GoesOnEntries program models from more → (y : Walked) → Contains walked y → y.call ≡ from
      → (c : EntryName) → Contains more c → IsWalkedBelow walked y.height c
  behind_lower from [] goes y among is c within = absurd (nothing_in c within)
  behind_lower from (to ∷ more) goes y among is c (zero, within, at) = subst (IsWalkedBelow walked y.height) at (next_lower from to goes.0 y among is)
  behind_lower from (to ∷ more) goes y among is c (suc k, within, at) =
      let b = next_lower from to goes.0 y among is in
      let d = behind_lower to more goes.1 b.by b.among b.call c (k, omega (arith, within), at) in
      record { by = d.by; among = d.among; call = d.call; lower = omega (arith, b.lower, d.lower) }

  -- there are no more of them than its height
  behind_few : (from : EntryName) (more : List EntryName) → GoesOnEntries program models from more → (y : Walked) → Contains walked y → y.call ≡ from → length more ≤ y.height
  behind_few from [] goes y among is = omega arith
  behind_few from (to ∷ more) goes y among is =
      let b = next_lower from to goes.0 y among is in
      let few = behind_few to more goes.1 b.by b.among b.call in
      omega (arith, b.lower, few)

  pub no_deep : (chain : List EntryName) → DeepEntries program models chain → ⊥
  no_deep [] deep = absurd deep.reached
  no_deep (first ∷ more) deep =
      let b = first_low first deep.reached.0 in
      let few = behind_few first more deep.reached.1 b.by b.among b.call in
      let calls = deep.deep.calls in
      absurd (omega (arith, b.lower, few, calls))

  -- a walked call doesn't stand behind itself
  not_behind : (from : EntryName) (more : List EntryName) → GoesOnEntries program models from more → (y : Walked) → Contains walked y → y.call ≡ from → Contains more from → ⊥
  not_behind from more goes y among is within =
      let d = behind_lower from more goes y among is from within in
      let one : d.by ≡ y = walk.once d.by y d.among among (d.call ∙ sym is) in
      let same : d.by.height ≡ y.height = ap (λ (z : Walked). z.height) one in
      let low = d.lower in
      absurd (omega (arith, low, same))

  no_repeat : (from : EntryName) (before : List EntryName) (last : EntryName) → GoesOnEntries program models from (before ++ last ∷ []) → (y : Walked) → Contains walked y → y.call ≡ from
      → Contains (from ∷ before) last → ⊥
  no_repeat from before last goes y among is (zero, within, at) =
      not_behind from (before ++ last ∷ []) goes y among is (subst (Contains (before ++ last ∷ [])) (sym at) (last_in before last))
  no_repeat from [] last goes y among is (suc k, within, at) = absurd (omega (arith, within))
  no_repeat from (to ∷ before) last goes y among is (suc k, within, at) =
      let b = next_lower from to goes.0 y among is in
      no_repeat to before last goes.1 b.by b.among b.call (k, omega (arith, within), at)

  pub no_cycle : (chain : List EntryName) → CyclicEntries program models chain → ⊥
  no_cycle chain cyclic = by cyclic.cyclic.before cyclic.cyclic.last (subst (EntryChain program models) cyclic.cyclic.is cyclic.reached) cyclic.cyclic.repeat
    where
      by : (before : List EntryName) (last : EntryName) → EntryChain program models (before ++ last ∷ []) → Contains before last → ⊥
      by [] last reached repeat = absurd (nothing_in last repeat)
      by (first ∷ before) last reached repeat =
          let b = first_low first reached.0 in
          no_repeat first before last reached.1 b.by b.among b.call repeat

  -- ---- none is unmet

  pub met_among : (e : Entry) → IsAmong tops walked e → is_entry_unmet program models e ≡ false
  met_among e (inl top) = walk.tops_are.met e top
  met_among e (inr (x, among, within)) = (walk.whole x among).met e within

  pub none_unmet : (e : Entry) → IsUnmet program models e → ⊥
  none_unmet e unmet =
      let f = ap (λ o. option_map_or (λ (rel : Rel). is_unmet program models rel (entry_known program models rel e.values)) o false) unmet.found in
      absurd (true≢false (sym unmet.unmet ∙ sym f ∙ met_among e (all_among e unmet.is)))
