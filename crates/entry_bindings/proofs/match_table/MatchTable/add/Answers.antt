use Rattle.std.proofs.Common.{◌≡◌, List, refl, sym, subst}
use Rattle.std.specs.Prelude.{◌⊎◌, Contains}
use Rattle.std.proofs.lemmas.Map.Views.{All-insert_key}
use Rattle.entry_bindings.specs.declared.matching.Match.{Match}
use Rattle.entry_bindings.specs.declared.match_key.Side.TheVariants.{Itself}
use Rattle.entry_bindings.specs.declared.match_key.MatchKey.{MatchKey}
use Rattle.entry_bindings.specs.MatchKeys.{key_order, matches_of, AreThemselves}
use Rattle.entry_bindings.proofs.KeyLaws.{inserted, has_inserted}
use Rattle.entry_bindings.proofs.match_table.MatchTable.add.Goals as goal

pub invariant_of-self-2 : goal.invariant_of-self-2
invariant_of-self-2 c =
    let key : MatchKey = record { found = c.args.found; side = Itself } in
    subst AreThemselves (sym c.in_ok-insert.ensures.keys) (All-insert_key key_order key (λ (k : MatchKey). k.side ≡ Itself) c.self.inside.keys.keys c.self.invariant refl)

pub returns-clause-added : goal.returns-clause-added
returns-clause-added c = λ m.
    let key : MatchKey = record { found = c.args.found; side = Itself } in
    let keys = c.self.inside.keys.keys in (
      λ there. subst (λ (ms : List Match). Contains ms m ⊎ (c.args.found ≡ m)) c.self.view_is
          (inserted key keys m (subst (λ (ks : List MatchKey). Contains (matches_of ks) m) c.in_ok-insert.ensures.keys there)),
      λ h. subst (λ (ks : List MatchKey). Contains (matches_of ks) m) (sym c.in_ok-insert.ensures.keys)
          (has_inserted key keys m (subst (λ (ms : List Match). Contains ms m ⊎ (c.args.found ≡ m)) (sym c.self.view_is) h)),
    )
