use Rattle.std.proofs.Common.{ℕ, length, sym, ap, subst, arith}
use Rattle.std.proofs.lemmas.Option.{slice_get_within}
use Rattle.enforcement_rules.specs.LeastRules.{IsBrokenBy}
use Rattle.enforcement_rules.specs.Rules.{Broken}
use Rattle.enforcement_rules.proofs.LeastLaws.{none_more, first_told}
use Rattle.enforcement_rules.proofs.ListLaws.{place_found}
use Rattle.enforcement_rules.proofs.RangeLaws.{relation_of}
use Rattle.enforcement_rules.proofs.enforcement.first_broken.Goals as goal

pub broken_by-requires-clause-relation : goal.broken_by-requires-clause-relation
broken_by-requires-clause-relation c =
    relation_of c.args.metas.now c.args.program.now c.requires.formed c.loop-rel.rel-index c.rel-item.result
    (place_found c.as_slice-rels.result.now c.args.program.now.rels c.loop-rel.rel-index c.rel-item.result c.as_slice-rels.ensures (omega arith) c.rel-item.is)

pub returns-in-Some : goal.returns-in-Some
returns-in-Some c =
    subst (λ (n : ℕ). Broken c.args.metas.now c.args.program.now n c.in-Some.rule) (sym c.loop-rel.invariant.counted)
    (first_told c.args.metas.now c.args.program.now c.loop-rel.rel-index c.rel-item.result
    (place_found c.as_slice-rels.result.now c.args.program.now.rels c.loop-rel.rel-index c.rel-item.result c.as_slice-rels.ensures (omega arith) c.rel-item.is)
    c.in-Some.rule c.loop-rel.invariant.kept (subst (IsBrokenBy c.args.metas.now c.args.program.now c.rel-item.result) c.in-Some.is c.in_ok-broken.ensures))

pub loop-rel-preserved : goal.loop-rel-preserved
loop-rel-preserved c = record {
  counted = omega arith;
  kept = none_more c.args.metas.now c.args.program.now c.loop-rel.rel-index c.rel-item.result
      (place_found c.as_slice-rels.result.now c.args.program.now.rels c.loop-rel.rel-index c.rel-item.result c.as_slice-rels.ensures (omega arith) c.rel-item.is)
      c.loop-rel.invariant.kept (subst (IsBrokenBy c.args.metas.now c.args.program.now c.rel-item.result) c.in-None.is c.in_ok-broken.ensures);
}

pub returns : goal.returns
returns c = λ number rule b.
    let within = slice_get_within c.args.program.now.rels number b.rel b.found in
    let long = ap length c.as_slice-rels.ensures in
    c.loop-rel.invariant.kept number rule (omega (arith, within, long)) b
