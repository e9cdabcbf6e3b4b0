use Rattle.std.proofs.Common.{◌≡◌, ◌++◌, ◌∷◌, [], ◌+◌, suc, List, ℕ, map, take, sym, ap, ◌∙◌, subst, arith}
use Rattle.std.proofs.lemmas.List.{map-append}
use Rattle.enforcement_rules.specs.CallTests.{Pair, shown_pair, argument_pairs}
use Rattle.enforcement_rules.proofs.PairLaws.{no_pairs, more_pairs, all_pairs}
use Rattle.enforcement_rules.proofs.calls.argument_pairs.Goals as goal

pub loop-i-init : goal.loop-i-init
loop-i-init c = ap (map shown_pair) c.before.new-pairs.ensures ∙ sym (no_pairs c.args.doms.now c.args.args.now)

pub loop-i-preserved : goal.loop-i-preserved
loop-i-preserved c =
    let next : suc c.loop-i.i ≡ c.loop-i.i + 1 = omega arith in
    ap (map shown_pair) c.in_ok-push.ensures.ok ∙ map-append shown_pair c.loop-i.pairs (_ ∷ []) ∙ ap (λ (ps : List Pair). ps ++ (let p : Pair = (c.index-doms-i.result, c.index-args-i.result) in p ∷ [])) c.loop-i.invariant
    ∙ sym (subst (λ (n : ℕ). argument_pairs (take n c.args.doms.now) (take n c.args.args.now)
    ≡ argument_pairs (take c.loop-i.i c.args.doms.now) (take c.loop-i.i c.args.args.now) ++ (let p : Pair = (c.index-doms-i.result, c.index-args-i.result) in p ∷ [])) next
    (more_pairs c.args.doms.now c.args.args.now c.loop-i.i c.index-doms-i.result c.index-args-i.result (omega arith) (omega arith) c.index-doms-i.is c.index-args-i.is))

pub returns : goal.returns
returns c = c.loop-i.invariant ∙ all_pairs c.args.doms.now c.args.args.now c.loop-i.i (omega arith)
