use Rattle.std.proofs.Common.{◌≡◌, ◌∙◌, ◌++◌, List, false, sym, ap, subst}
use Rattle.std.specs.List.{filter}
use Rattle.std.specs.Ordering.{is_gt}
use Rattle.std.specs.BTreeMap.Range.{range_contains}
use Rattle.std.specs.Range.{range_inclusive_start, range_inclusive_end}
use Rattle.std.specs.declared.ops.Bound.TheVariants.{Included}
use Rattle.entry_bindings.specs.declared.matching.Match.{Match}
use Rattle.entry_bindings.specs.declared.match_key.MatchKey.{MatchKey}
use Rattle.entry_bindings.specs.MatchKeys.{key_order, key_of, first_side, last_side, matches_of}
use Rattle.entry_bindings.specs.Joins.{matching}
use Rattle.entry_bindings.proofs.KeyLaws.{forward, matching_range}
use Rattle.entry_bindings.proofs.match_table.MatchTable.matching.Goals as goal

pub range-key-items-requires : goal.range-key-items-requires
range-key-items-requires c =
    let number = c.args.number in
    let given = c.args.given.now in
    let first : range_inclusive_start c.new.result ≡ key_of number given (first_side given) = c.new.ensures.start ∙ c.in_ok-first.ensures ∙ ap (key_of number given) c.first_side.ensures in
    let last : range_inclusive_end c.new.result ≡ key_of number given (last_side given) = c.new.ensures.end ∙ c.in_ok-last.ensures ∙ ap (key_of number given) c.last_side.ensures in
    subst (λ (k : MatchKey). is_gt (key_order k (range_inclusive_end c.new.result)) ≡ false) (sym first)
    (subst (λ (k : MatchKey). is_gt (key_order (key_of number given (first_side given)) k) ≡ false) (sym last) (forward number given))

pub loop-key-init : goal.loop-key-init
loop-key-init c =
    let number = c.args.number in
    let given = c.args.given.now in
    let keys = c.self.inside.keys.keys in
    let first : range_inclusive_start c.new.result ≡ key_of number given (first_side given) = c.new.ensures.start ∙ c.in_ok-first.ensures ∙ ap (key_of number given) c.first_side.ensures in
    let last : range_inclusive_end c.new.result ≡ key_of number given (last_side given) = c.new.ensures.end ∙ c.in_ok-last.ensures ∙ ap (key_of number given) c.last_side.ensures in
    let between = c.into_iter-key-iterator.ensures.into_iter_gives ∙ c.range-key-items.ensures.between c.new.ensures.exhausted
    ∙ ap (λ (k : MatchKey). filter (range_contains key_order (Included k) (Included (range_inclusive_end c.new.result))) keys) first
    ∙ ap (λ (k : MatchKey). filter (range_contains key_order (Included (key_of number given (first_side given))) (Included k)) keys) last in
    ap (λ (found : List Match). found ++ matching (matches_of c.into_iter-key-iterator.result) number given) c.new-found.ensures
    ∙ ap (λ (ks : List MatchKey). matching (matches_of ks) number given) between
    ∙ matching_range number given keys c.self.invariant
    ∙ ap (λ (ms : List Match). matching ms number given) c.self.view_is
