-- Calls that are among the names of entries have their matches among these.
use Rattle.std.specs.Prelude.{◌≡◌, zero, suc, List, [], ◌∷◌, Option, None, Some, Contains}
use Rattle.std.proofs.Common.{sym, subst, arith}
use Rattle.qv_syntax.specs.declared.program.Program.{Program}
use Rattle.mof_metamodel.proofs.Facts.{nothing_in, contains_first}
use Rattle.template_match.proofs.ListLaws.{contains_later}
use Rattle.repair_semantics.specs.declared.entry.Entry.{Entry}
use Rattle.repair_semantics.specs.declared.entry.EntryName.{EntryName}
use Rattle.repair_semantics.specs.Entries.{AreMatches}
use Rattle.entry_bindings.specs.Matches.{AreAmong, AreNamesOf}

module _ (program : Program) (names : List EntryName) (entries : List Entry) (are : AreNamesOf program names entries) where
  abbrev Matched : List (Option EntryName) → Type 0
  Matched calls = (matches : List Entry) × AreMatches program calls matches × ((m : Entry) → Contains matches m → Contains entries m)

  more : (m : Entry) (ms : List Entry) → Contains entries m → ((x : Entry) → Contains ms x → Contains entries x) → (x : Entry) → Contains (m ∷ ms) x → Contains entries x
  more m ms one all x (zero, less, is) = subst (Contains entries) is one
  more m ms one all x (suc k, less, is) = all x (k, omega (arith, less), is)

  pub matched : (calls : List (Option EntryName)) → AreAmong names calls → Matched calls
  matched [] among = ([], tt, λ m there. absurd (nothing_in m there))
  matched (o ∷ cs) among = by (among o (contains_first o cs)) (matched cs (λ p there. among p (contains_later p o cs there)))
    where
      by : (c : EntryName) × (o ≡ Some c) × Contains names c → Matched cs → Matched (o ∷ cs)
      by (c, is, there) (ms, rest, all) =
          let (m, within, for) = (are c).0 there in
          (m ∷ ms, subst (λ p. AreMatches program (p ∷ cs) (m ∷ ms)) (sym is) (for, rest), more m ms within all)

  pub among_matched : (calls : List (Option EntryName)) (ms : List Entry) → AreMatches program calls ms → ((m : Entry) → Contains ms m → Contains entries m) → AreAmong names calls
  among_matched [] ms matches all o there = absurd (nothing_in o there)
  among_matched (None ∷ cs) [] matches all o there = absurd matches
  among_matched (None ∷ cs) (m ∷ ms) matches all o there = absurd matches
  among_matched (Some c ∷ cs) [] matches all o there = absurd matches
  among_matched (Some c ∷ cs) (m ∷ ms) matches all o (zero, less, is) = (c, sym is, (are c).1 (m, all m (contains_first m ms), matches.0))
  among_matched (Some c ∷ cs) (m ∷ ms) matches all o (suc k, less, is) =
      among_matched cs ms matches.1 (λ x there. all x (contains_later x m ms there)) o (k, omega (arith, less), is)
