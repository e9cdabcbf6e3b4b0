use Rattle.std.proofs.Common.{◌∙◌, List, ap}
use Rattle.std.specs.Prelude.{◌↔◌, IsTrue}
use Rattle.qv_syntax.specs.declared.program.Key.{Key}
use Rattle.enforcement_rules.specs.Keys.{HasTwoKeys}
use Rattle.enforcement_rules.specs.TwoKeys.{keyed_classes, MeetsTwo}
use Rattle.enforcement_rules.proofs.ListLaws.{if_ok}
use Rattle.enforcement_rules.proofs.TwoKeyLaws.{two_told_of, keyed_within_of}
use Rattle.enforcement_rules.proofs.two_keys.has_two_keys.Goals as goal

pub meets_two_of-requires : goal.meets_two_of-requires
meets_two_of-requires c =
    keyed_within_of c.args.metas.now c.args.program.now c.args.number c.get.result.now c.get.ensures c.as_slice-2.result.now
    (c.as_slice-2.ensures ∙ c.in_ok-keyed.ensures ∙ ap (λ (ks : List Key). keyed_classes c.args.number ks) c.as_slice.ensures) c.requires.keys

pub returns : goal.returns
returns c =
    if_ok c.meets_two_of.result (λ b. IsTrue b ↔ MeetsTwo c.get.result.now c.as_slice-2.result.now) (λ b. IsTrue b ↔ HasTwoKeys c.args.metas.now c.args.program.now)
    (λ b told. two_told_of c.args.metas.now c.args.program.now c.args.number c.requires.target c.get.result.now c.get.ensures c.as_slice-2.result.now
    (c.as_slice-2.ensures ∙ c.in_ok-keyed.ensures ∙ ap (λ (ks : List Key). keyed_classes c.args.number ks) c.as_slice.ensures) b told)
    c.meets_two_of.ensures
