use Rattle.std.proofs.Common.{◌≡◌, ◌∙◌, ◌∷◌, ◌+◌, ◌-◌, suc, ℕ, drop, map, length, ap, sym, arith}
use Rattle.enforcement_rules.specs.NumberSets.{has}
use Rattle.enforcement_rules.specs.CallTests.{shown_pair}
use Rattle.enforcement_rules.proofs.GivenLaws.{rest_of, given_more}
use Rattle.enforcement_rules.proofs.calls.given_pairs.Goals as goal

pub loop-k-preserved : goal.loop-k-preserved
loop-k-preserved c =
    let xs = c.args.pairs.now in
    let k = c.loop-k.k in
    let x = c.index-pairs-pairs.result in
    let next : length xs - suc k ≡ length xs - (k + 1) = omega arith in
    let rest : drop (length xs - (k + 1)) (map shown_pair xs) ≡ shown_pair x ∷ drop (length xs - k) (map shown_pair xs) =
    ap (λ (n : ℕ). drop n (map shown_pair xs)) (sym next) ∙ rest_of xs k x (omega arith) c.index-pairs-pairs.is in
    given_more (shown_pair x) (drop (length xs - k) (map shown_pair xs)) (drop (length xs - (k + 1)) (map shown_pair xs)) (map shown_pair c.loop-k.given) (map shown_pair c.put_given.new.out)
    (has c.loop-k.met) (has c.put_given.new.met) rest c.loop-k.invariant.0 c.loop-k.invariant.1 c.in_ok-put_given.ensures.pairs c.in_ok-put_given.ensures.met
